-- Words of levels and words with erasures: the former have none, and one without erasures is a word of levels and read as 01 says.
-- Assumes nothing.
use mathlib.Core.Path.{◌≡◌, refl, ap, subst}
use mathlib.Core.Logic.{◌⊎◌, inl, inr, ⊎_elim}
use mathlib.Core.Bool.{true, false, ◌||◌}
use mathlib.Core.List.{List, [], ◌∷◌}
use Prim.Native.Nat.{ℕ, zero, suc, ◌≤◌, ◌<◌, zero-le, suc-le-suc}
use native.Mathlib.Nat.{not-suc-le-zero, le_of_suc-le-suc}
use native.Mathlib.Omega.{arith}
use lib.Dec.{T, ltb, ltb→lt, lt→ltb, eqb, eqb→eq}
use lib.ListN.{length, get_or, set}
use borrow.Author.Tests.{eq-eqb, ne_eqb}
use Rattle.modular_theory.proofs.Search.{and_left, and_right, and_intro, or_left, or_right, or_cases, eq_test}
use Rattle.code_theory.specs.Component.{symbols_below, erasure, levels_or_erasures}
use Rattle.code_theory.specs.Erasures.{erasures, erased_indices}
use Rattle.code_theory.specs.Reading.{received_reading}
use Rattle.code_theory.specs.Claims.{ReceivedSymbols, WholeReading}
use Rattle.code_theory.proofs.Merge.{cases}

pub none_erased : (q : ℕ) → q ≤ erasure → (u : List ℕ) → T (symbols_below q u) → erasures u ≡ 0
none_erased q h [] b = refl
none_erased q h (x ∷ xs) b =
    rw (ne_eqb x erasure (λ e. omega (arith, ltb→lt x q (and_left (ltb x q) (symbols_below q xs) b))), erasures)
    (none_erased q h xs (and_right (ltb x q) (symbols_below q xs) b))

-- levels are received symbols
pub levels_received : (q : ℕ) (u : List ℕ) → T (symbols_below q u) → T (levels_or_erasures q u)
levels_received q [] b = tt
levels_received q (x ∷ xs) b =
    and_intro (ltb x q || eqb x erasure) (levels_or_erasures q xs)
    (or_left (ltb x q) (eqb x erasure) (and_left (ltb x q) (symbols_below q xs) b))
    (levels_received q xs (and_right (ltb x q) (symbols_below q xs) b))

-- and received symbols are levels where none is erased
pub received_levels : (q : ℕ) (u : List ℕ) → T (levels_or_erasures q u) → erasures u ≡ 0 → T (symbols_below q u)
received_levels q [] b e = tt
received_levels q (x ∷ xs) b e =
    let first : T (ltb x q || eqb x erasure) = and_left (ltb x q || eqb x erasure) (levels_or_erasures q xs) b in
    let rest : T (levels_or_erasures q xs) = and_right (ltb x q || eqb x erasure) (levels_or_erasures q xs) b in
    cases (eqb x erasure) (λ (t : eqb x erasure ≡ true). absurd (omega (arith, rw (t, erasures) at e)))
    (λ (f : eqb x erasure ≡ false).
    and_intro (ltb x q) (symbols_below q xs)
    (⊎_elim (λ (l : T (ltb x q)). l) (λ (m : T (eqb x erasure)). absurd (subst T f m)) (or_cases (ltb x q) (eqb x erasure) first))
    (received_levels q xs rest (rw (f, erasures) at e)))

-- a received word with one more symbol erased is one
pub erased_received : (q : ℕ) (v : List ℕ) (k : ℕ) → T (levels_or_erasures q v) → T (levels_or_erasures q (set v k erasure))
erased_received q [] k h = h
erased_received q (x ∷ xs) zero h =
    and_intro (ltb erasure q || eqb erasure erasure) (levels_or_erasures q xs) (or_right (ltb erasure q) (eqb erasure erasure) tt)
    (and_right (ltb x q || eqb x erasure) (levels_or_erasures q xs) h)
erased_received q (x ∷ xs) (suc k) h =
    and_intro (ltb x q || eqb x erasure) (levels_or_erasures q (set xs k erasure))
    (and_left (ltb x q || eqb x erasure) (levels_or_erasures q xs) h)
    (erased_received q xs k (and_right (ltb x q || eqb x erasure) (levels_or_erasures q xs) h))

-- there are as many indices as erased symbols
pub length_indices : (i : ℕ) (v : List ℕ) → length (erased_indices i v) ≡ erasures v
length_indices i [] = refl
length_indices i (x ∷ xs) =
    let e : length (erased_indices (suc i) xs) ≡ erasures xs = length_indices (suc i) xs in
    cases (eqb x erasure) (λ b. rw (b, erased_indices, erasures) (ap suc e)) (λ b. rw (b, erased_indices, erasures) e)

-- each symbol is a level or erased, and that is all that the test asks
pub received_symbols : ReceivedSymbols
received_symbols p v = (to v, from v)
  where
    to : (v : List ℕ) → T (levels_or_erasures p.q v) → (i : ℕ) → i < length v → (get_or v i 0 < p.q) ⊎ (get_or v i 0 ≡ 255)
    to [] t i l = absurd (not-suc-le-zero l)
    to (x ∷ xs) t zero l =
        ⊎_elim (λ (h : T (ltb x p.q)). inl (ltb→lt x p.q h)) (λ (h : T (eqb x erasure)). inr (eqb→eq x erasure h))
        (or_cases (ltb x p.q) (eqb x erasure) (and_left (ltb x p.q || eqb x erasure) (levels_or_erasures p.q xs) t))
    to (x ∷ xs) t (suc i) l =
        to xs (and_right (ltb x p.q || eqb x erasure) (levels_or_erasures p.q xs) t) i (le_of_suc-le-suc l)

    from : (v : List ℕ) → ((i : ℕ) → i < length v → (get_or v i 0 < p.q) ⊎ (get_or v i 0 ≡ 255)) → T (levels_or_erasures p.q v)
    from [] f = tt
    from (x ∷ xs) f =
        and_intro (ltb x p.q || eqb x erasure) (levels_or_erasures p.q xs)
        (⊎_elim (λ (h : x < p.q). or_left (ltb x p.q) (eqb x erasure) (lt→ltb x p.q h))
        (λ (h : x ≡ erasure). or_right (ltb x p.q) (eqb x erasure) (eq_test h)) (f 0 (suc-le-suc zero-le)))
        (from xs (λ i l. f (suc i) (suc-le-suc l)))

pub whole_reading : WholeReading
unfolding received_reading
whole_reading p v e = rw (eq-eqb (erasures v) 0 e, received_reading)
