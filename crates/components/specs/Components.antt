-- The array of 97 symbols that the components of a pair of messages stand in.
-- Assumes nothing.
use Rattle.std.specs.Prelude.{Bool, true, false, ◌&&◌, List, ◌∷◌, ◌++◌, ℕ, ◌-◌, eqb, length, replicate}
use Rattle.code_theory.specs.Parameters.{Parameters, message_length, balanced_length}
use Rattle.code_theory.specs.Component.{component}
use Rattle.code_theory.specs.Balance.{interleave}
use Rattle.code_theory.specs.Profiles.{is_profile, profile}

-- the symbols of a pair's components in turn, after a zero
unfoldable pub zero_first : Parameters → List ℕ → List ℕ → List ℕ
zero_first p a b = 0 ∷ interleave (component p a) (component p b)

-- and zeros up to the end of the array
unfoldable pub padded : Parameters → List ℕ → List ℕ → List ℕ
padded p a b = zero_first p a b ++ replicate (97 - balanced_length p) 0

-- both lengths are m
abbrev pub both_long : ℕ → ℕ → ℕ → Bool
both_long m k l = eqb k m && eqb l m

-- the array by a profile's number, for messages of its length whatever their symbols are; otherwise zeros
unfoldable pub components_of : ℕ → List ℕ → List ℕ → List ℕ
components_of i a b =
    elim (is_profile i && both_long (message_length (profile i)) (length a) (length b))
    [ true ↦ padded (profile i) a b | false ↦ replicate 97 0 ]
