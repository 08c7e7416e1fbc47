-- A word that is read as filled has one or two erased symbols, and as many positions are filled.
-- Assumes nothing.
use mathlib.Core.Path.{◌≡◌, refl, ap}
use mathlib.Core.List.{List, [], ◌∷◌}
use Prim.Native.Nat.{ℕ, zero, suc, ◌^◌, ◌≤◌}
use native.Mathlib.Omega.{arith}
use lib.Dec.{eqb, ltb, leb→le}
use lib.ListN.{length, drop}
use borrow.Author.Tests.{eqb-false}
use Rattle.code_theory.specs.Parameters.{Parameters}
use Rattle.code_theory.specs.Refusal.{first_refusal}
use Rattle.code_theory.specs.Component.{erasure}
use Rattle.code_theory.specs.Codeword.{codeword}
use Rattle.code_theory.specs.Erasures.{erasures, first_filling}
use Rattle.code_theory.specs.Reading.{clean, corrected, filled, changes_at, changed_at}
use Rattle.code_theory.specs.Reading.{reading, near_reading, filled_reading, received_reading}
use Rattle.code_theory.specs.TriedPositions.{tried_positions}
use Rattle.code_theory.specs.Profiles.{profile_in}
use Rattle.code_theory.specs.Operations.{Report, refusal, failure, success, answered, report, read_unless, decode_tests, decode_answer}
use Rattle.code_theory.proofs.Refusal.{passed_every}
use Rattle.code_theory.proofs.Merge.{cases}

length_changes : (i : ℕ) (v u : List ℕ) → length (changes_at i v u) ≡ erasures v
length_changes i [] u = refl
length_changes i (x ∷ v) u =
    cases (eqb x erasure) (λ e. rw (e, changes_at, erasures) (ap suc (length_changes (suc i) v (drop 1 u))))
    (λ e. rw (e, changes_at, erasures) (length_changes (suc i) v (drop 1 u)))

-- of a report on a word with e erasures
abbrev pub FillsAll : ℕ → Report → Type 0
FillsAll e (refusal n) = Unit {0}
FillsAll e (failure t) = Unit {0}
FillsAll e (success clean t) = Unit {0}
FillsAll e (success (corrected c) t) = Unit {0}
FillsAll e (success (filled cs) t) = (length cs ≡ e) × (1 ≤ e) × (e ≤ 2)

near_fills : (p : Parameters) (e k : ℕ) (u : List ℕ) → FillsAll e (report (answered (near_reading p u) k))
unfolding near_reading
near_fills p e k u = cases (ltb (changed_at p u) (length u)) (λ t. rw (t, near_reading) tt) (λ t. rw (t, near_reading) tt)

reading_fills : (p : Parameters) (e k : ℕ) (u : List ℕ) → FillsAll e (report (answered (reading p u) k))
unfolding reading
reading_fills p e k u = cases (codeword p u) (λ t. rw (t, reading) tt) (λ t. rw (t, reading) (near_fills p e k u))

filled_fills : (p : Parameters) (k : ℕ) (v : List ℕ) → 1 ≤ erasures v → erasures v ≤ 2
    → FillsAll (erasures v) (report (answered (filled_reading p v) k))
unfolding filled_reading
filled_fills p k v h g =
    cases (ltb (first_filling p v) (p.q ^ erasures v))
    (λ t. rw (t, filled_reading) (length_changes 1 v _, h, g))
    (λ t. rw (t, filled_reading) tt)

received_fills : (p : Parameters) (k : ℕ) (v : List ℕ) → erasures v ≤ 2 → FillsAll (erasures v) (report (answered (received_reading p v) k))
unfolding received_reading
received_fills p k v g =
    cases (eqb (erasures v) 0) (λ t. rw (t, received_reading) (reading_fills p (erasures v) k v))
    (λ t. rw (t, received_reading) (filled_fills p k v (omega (arith, eqb-false (erasures v) 0 t)) g))

pub decode_fills : (o i : ℕ) (u : List ℕ) (k l : ℕ) → FillsAll (erasures u) (report (decode_answer o i u k l))
unfolding decode_answer
decode_fills o i u k l = go (first_refusal (decode_tests o i u k l)) refl
  where
    tried : ℕ
    tried = tried_positions (profile_in o i) u

    go : (n : ℕ) → first_refusal (decode_tests o i u k l) ≡ n
        → FillsAll (erasures u) (report (read_unless n (received_reading (profile_in o i) u) tried))
    go zero e =
        let (edition, (known, (lengths, (received, (few, end))))) = passed_every (decode_tests o i u k l) tt e in
        received_fills (profile_in o i) tried u (leb→le _ _ few)
    go (suc n) e = tt
