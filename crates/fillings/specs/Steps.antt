-- The steps of a filling: what a symbol put where 0 stood does to the numbers and to the syndromes, and which symbol that can be.
-- Assumes nothing.
use Rattle.std.specs.Prelude.{◌≡◌, Bool, true, false, ◌&&◌, [], ◌∷◌, Option, ℕ, ◌+◌, ◌≤◌, eqb, pos, nat_abs, ◌+ℤ◌, ◌-ℤ◌}
use Rattle.std.specs.Bool.{then_some}
use Rattle.modular_theory.specs.Level.{level_of, is_zero}
use Rattle.decoding_theory.specs.Syndromes.{near_syndromes}
use Rattle.modular.specs.Remainder.{residue}
use Rattle.symbols.specs.Syndromes.{four_rows, rows}
use Rattle.symbols.specs.declared.checks.Checks.{Checks}
use Rattle.symbols.specs.declared.sums.Syndromes.{Syndromes}
use Rattle.syndromes.specs.Plus.{syndrome_plus}
use Rattle.fillings.specs.declared.sums.Sums.{Sums}
use Rattle.fillings.specs.declared.sums.Numbers.{Numbers}
use Rattle.fillings.specs.declared.sums.Erased.{Erased}
use Rattle.fillings.specs.declared.sums.Erased.TheVariants.{Odd, Even, Alpha, Beta}
use Rattle.fillings.specs.declared.fill.Filling.{Filling}
use Rattle.symbols.specs.Weight.{check_of}

-- the numbers of the sums
abbrev pub numbers_of : Sums → Numbers
numbers_of t = record { excess = t.excess; asked = t.asked; arrived = t.arrived }

-- the check symbol of the parity b set to y
abbrev pub with_check : Bool → ℕ → Checks → Checks
with_check true y c = record { alpha = y; beta = c.beta }
with_check false y c = record { alpha = c.alpha; beta = y }

-- a symbol y more of the parity b in the body
abbrev pub heavier : ℕ → Bool → ℕ → Numbers → Numbers
heavier q b y m =
    record { excess = m.excess +ℤ pos y; asked = with_check b (residue q (check_of m.asked b + y)) m.asked; arrived = m.arrived }

-- the numbers once y stands where the symbol is erased
abbrev pub numbers_with : ℕ → Erased → ℕ → Numbers → Numbers
numbers_with q (Odd s) y m = heavier q true y m
numbers_with q (Even s) y m = heavier q false y m
numbers_with q Alpha y m = record { excess = m.excess; asked = m.asked; arrived = with_check true y m.arrived }
numbers_with q Beta y m = record { excess = m.excess; asked = m.asked; arrived = with_check false y m.arrived }

-- r are those numbers, a byte heavier at most
pub record NumbersWith (q : ℕ) (e : Erased) (y : ℕ) (m r : Numbers) : Type 0 where
  pub are : r ≡ numbers_with q e y m
  pub light : nat_abs r.excess ≤ nat_abs m.excess + 255

-- y times e added to both syndromes
abbrev pub syndromes_plus : ℕ → ℕ → Syndromes → Syndromes → Syndromes
syndromes_plus q y e s = record { first = syndrome_plus q y e.first s.first; second = syndrome_plus q y e.second s.second }

-- the syndromes once y stands where the symbol is erased
abbrev pub syndromes_with : ℕ → Erased → ℕ → Syndromes → Syndromes
syndromes_with q (Odd e) y s = syndromes_plus q y e s
syndromes_with q (Even e) y s = syndromes_plus q y e s
syndromes_with q Alpha y s = s
syndromes_with q Beta y s = s

-- what can stand there; q where no level does
abbrev pub wanted_by : ℕ → Erased → Numbers → ℕ
wanted_by q (Odd s) m = level_of q (pos 0 -ℤ m.excess)
wanted_by q (Even s) m = level_of q (pos 0 -ℤ m.excess)
wanted_by q Alpha m = m.asked.alpha
wanted_by q Beta m = m.asked.beta

-- the body is balanced, and both check symbols are as asked
unfoldable pub consistent_numbers : Numbers → Bool
consistent_numbers m = is_zero m.excess && eqb m.asked.alpha m.arrived.alpha && eqb m.asked.beta m.arrived.beta

-- the symbol y, if the syndromes s are near
unfoldable pub one_if_near : ℕ → ℕ → ℕ → Syndromes → Option (Filling 1)
one_if_near q n y s =
    then_some (near_syndromes (four_rows q n) (rows s.first) (rows s.second)) (record { symbols = y ∷ []; syndromes = s })
