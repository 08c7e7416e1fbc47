-- The record of a word that enqueue admits is 103 bytes and passes as a used cell's body.
-- Assumes nothing.
use mathlib.Core.Path.{◌≡◌, sym, subst}
use mathlib.Core.Bool.{Bool}
use mathlib.Core.List.{List, ◌++◌}
use Prim.Native.Nat.{ℕ, zero, suc, ◌-◌, ◌≤◌}
use native.Mathlib.Omega.{arith}
use lib.Dec.{T, leb, leb→le}
use lib.ListN.{length, take, drop, length-append, length-replicate}
use lib.Seq.{take_at, drop_at}
use Rattle.modular_theory.specs.Search.{all_below}
use Rattle.modular_theory.proofs.Search.{and_intro}
use Rattle.code_theory.specs.Parameters.{codeword_length}
use Rattle.code_theory.specs.Component.{is_received}
use Rattle.code_theory.specs.Profiles.{profiles, is_profile, profile}
use Rattle.code_theory.proofs.Profiles.{every_profile}
use Rattle.queue_theory.specs.Lists.{all_zero, zeros}
use Rattle.queue_theory.specs.Layout.{body_size, padded_size}
use Rattle.queue_theory.specs.Sound.{is_box, record_of, is_padded, is_record}

-- a profile's word leaves room after box and profile
short : ℕ → Bool
short p = leb (codeword_length (profile p)) 99

all_short : T (all_below (λ j. short (suc j)) (length profiles))
unfolding short profile
all_short = tt

pub word_fits : (p : ℕ) → T (is_profile p) → codeword_length (profile p) ≤ 99
unfolding short
word_fits p h = leb→le (codeword_length (profile p)) 99 (every_profile short all_short p h)

pub zeros_zero : (n : ℕ) → T (all_zero (zeros n))
zeros_zero zero = tt
zeros_zero (suc n) = zeros_zero n

pub length_record : (b p : ℕ) (w : List ℕ) → length w ≤ 101 → length (record_of b p w) ≡ body_size
unfolding record_of
length_record b p w h =
    omega (arith, length-append w (zeros (padded_size - length w)), length-replicate {A = ℕ} (padded_size - length w) 0)

pub record_good : (b p : ℕ) (w : List ℕ) → T (is_box b) → T (is_profile p) → length w ≡ codeword_length (profile p)
    → T (is_received (profile p) w) → T (is_record (record_of b p w))
unfolding record_of is_padded is_record
record_good b p w hb hp e hw =
    let z : List ℕ = zeros (padded_size - length w) in
    let n = codeword_length (profile p) in
    let symbols = subst (λ (l : List ℕ). T (is_received (profile p) l)) (sym (take_at w z n e)) hw in
    let rest = subst (λ (l : List ℕ). T (all_zero l)) (sym (drop_at w z n e)) (zeros_zero (padded_size - length w)) in
    and_intro (is_box b) _ hb
    (and_intro (is_profile p) _ hp (and_intro (is_received (profile p) (take n (w ++ z))) (all_zero (drop n (w ++ z))) symbols rest))
