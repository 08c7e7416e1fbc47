-- What is found where one word arrived and another was sent, by the positions in which they differ.
-- Assumes nothing.
use mathlib.Core.Path.{◌≡◌, refl, sym, ap, ◌∙◌}
use mathlib.Core.Logic.{◌≢◌}
use mathlib.Core.Bool.{true, not}
use mathlib.Core.List.{List}
use Prim.Native.Nat.{ℕ, ◌<◌}
use native.Mathlib.Nat.{ne_of_lt}
use lib.Dec.{T, eqb, ltb}
use lib.ListN.{length, get_or, set}
use lib.Seq.{get_or-set_same, get_or-set_other}
use borrow.Author.Tests.{lt-ltb, le-ltb, eq-eqb, ne_eqb}
use Rattle.modular_theory.proofs.Search.{le_of_not_lt, least_hit, least_is}
use Rattle.code_theory.specs.Reading.{correction_at, clean, corrected, differs_at, finding_of}

unequal_test : {a b : ℕ} → a ≢ b → T (not (eqb a b))
unequal_test {a} {b} n = rw (ne_eqb a b n) tt

equal_test : {a b : ℕ} → a ≡ b → T (not (eqb a b)) → ⊥
equal_test {a} {b} e t = rw (eq-eqb a b e) at t

pub found_clean : (v : List ℕ) → finding_of v v ≡ clean
unfolding finding_of differs_at
found_clean v = rw (le-ltb (differs_at v v) (length v) (le_of_not_lt none), finding_of)
  where
    none : differs_at v v < length v → ⊥
    none l = equal_test {a = get_or v (differs_at v v) 0} refl (least_hit (λ i. not (eqb (get_or v i 0) (get_or v i 0))) (length v) l)

-- the words differ at index i alone
pub found_differing : (v u : List ℕ) (i : ℕ) → i < length v → get_or v i 0 ≢ get_or u i 0 → ((j : ℕ) → j ≢ i → get_or v j 0 ≡ get_or u j 0)
    → finding_of v u ≡ corrected (correction_at i (get_or v i 0) (get_or u i 0))
unfolding finding_of differs_at
found_differing v u i l n same =
    let e : differs_at v u ≡ i =
    least_is (λ j. not (eqb (get_or v j 0) (get_or u j 0))) (length v) i l (unequal_test n) (λ j b t. equal_test (same j (ne_of_lt b)) t) in
    let t : ltb (differs_at v u) (length v) ≡ true = ap (λ (x : ℕ). ltb x (length v)) e ∙ lt-ltb i (length v) l in
    rw (t, finding_of, e)

-- v with another symbol was sent
pub found_sent : (v : List ℕ) (i y : ℕ) → i < length v → y ≢ get_or v i 0
    → finding_of v (set v i y) ≡ corrected (correction_at i (get_or v i 0) y)
found_sent v i y l n =
    let here : get_or (set v i y) i 0 ≡ y = get_or-set_same v i y 0 l in
    found_differing v (set v i y) i l (λ e. n (sym (e ∙ here))) (λ j d. sym (get_or-set_other v i j y 0 d))
    ∙ ap (λ (x : ℕ). corrected (correction_at i (get_or v i 0) x)) here
