-- A component can be restored in one way only, since the columns differ; so a codeword carries one pair.
-- Assumes nothing.
use mathlib.Core.Path.{◌≡◌, refl, sym, ap, subst, ◌∙◌}
use mathlib.Core.Logic.{◌⊎◌, inl, inr, ⊎_elim}
use mathlib.Core.Bool.{Bool, true, false}
use mathlib.Core.List.{List}
use Prim.Native.Nat.{ℕ, ◌-◌, ◌<◌}
use native.Mathlib.Nat.{ne_of_lt, lt_trans}
use lib.Dec.{T}
use lib.ListN.{length}
use Rattle.modular_theory.specs.Search.{least}
use Rattle.modular_theory.proofs.Search.{passes, fails, least_is}
use Rattle.modular_theory.proofs.Residue.{of_eq, symm, ◌then◌}
use Rattle.code_theory.specs.Parameters.{Parameters, Sized, codeword_length}
use Rattle.code_theory.specs.Component.{in_code, message}
use Rattle.code_theory.specs.Codeword.{body, received, lowered, restored, carried}
use Rattle.code_theory.specs.Claims.{Restores, Carries, OnePair}
use Rattle.code_theory.proofs.Weights.{length_differenced}
use Rattle.code_theory.proofs.Syndrome.{Zero, ColumnOf, code_zero, zero_code, lowered_column, column_lowered}
use Rattle.code_theory.proofs.Columns.{q_positive, last_row, last_below, one_not_zero, columns_differ}
use Rattle.code_theory.proofs.Moves.{Column, Near, neither, first, second}
use Rattle.code_theory.proofs.Conditions.{Conditions, conditions, body_length, balanced_length_lem}

-- the components of a word of N symbols
pub length_received : (p : Parameters) (b : Bool) (u : List ℕ) → length u ≡ codeword_length p → length (received p b u) ≡ p.n
unfolding received
length_received p b u e = length_differenced p b (body p u) (body_length p u e ∙ balanced_length_lem p)

-- the test decides which
restored_in : (p : Parameters) (c : List ℕ) → in_code p c ≡ true → restored p c ≡ c
unfolding restored
restored_in p c e = rw (e, restored)

restored_out : (p : Parameters) (c : List ℕ) (i : ℕ) → in_code p c ≡ false
    → least (λ j. in_code p (lowered p.q c j)) (length c) ≡ i → restored p c ≡ lowered p.q c i
unfolding restored
restored_out p c i e l = rw (e, restored, l)

module _ (p : Parameters) (s : Sized p) (c : List ℕ) (n : length c ≡ p.n) where
  pub restored_zero : Zero p c → restored p c ≡ c
  restored_zero z = restored_in p c (passes (zero_code p c z))

  -- a column is not zero, and no other symbol has it
  pub restored_column : (i : ℕ) → i < length c → ColumnOf p c i → restored p c ≡ lowered p.q c i
  restored_column i l k =
      restored_out p c i (fails not_zero)
      (least_is (λ j. in_code p (lowered p.q c j)) (length c) i l (column_lowered p (q_positive p s) c i l k) no_other)
    where
      not_zero : T (in_code p c) → ⊥
      not_zero h =
          one_not_zero p s
          (of_eq (sym (last_row p i)) then symm (k (p.r - 1) (last_below p s)) then code_zero p c h (p.r - 1) (last_below p s))

      within : (j : ℕ) → j < length c → j < p.n
      within j h = subst (λ (x : ℕ). j < x) n h

      no_other : (j : ℕ) → j < i → T (in_code p (lowered p.q c j)) → ⊥
      no_other j b h =
          let m : j < length c = lt_trans b l in
          ne_of_lt b
          (columns_differ p s j i (within j m) (within i l)
          (λ e r. symm (lowered_column p (q_positive p s) c j m h e r) then k e r))

  -- what restores c is what the definition takes
  pub restores_one : (d : List ℕ) → Restores p c d → d ≡ restored p c
  restores_one d r =
      ⊎_elim
      (λ (e : d ≡ c). e ∙ sym (restored_zero (code_zero p c (subst (λ (x : List ℕ). T (in_code p x)) e r.code))))
      (λ (h : (i : ℕ) × (i < length c) × (d ≡ lowered p.q c i)).
      let (i, l, e) = h in
      let code : T (in_code p (lowered p.q c i)) = subst (λ (x : List ℕ). T (in_code p x)) e r.code in
      e ∙ sym (restored_column i l (lowered_column p (q_positive p s) c i l code)))
      r.change

  zero_restores : Zero p c → Restores p c (restored p c)
  zero_restores z =
      let e : restored p c ≡ c = restored_zero z in
      record { code = subst (λ (x : List ℕ). T (in_code p x)) (sym e) (zero_code p c z); change = inl e }

  column_restores : Column p c → Restores p c (restored p c)
  column_restores k =
      let e : restored p c ≡ lowered p.q c k.0 = restored_column k.0 k.1 k.2 in
      record {
        code = subst (λ (x : List ℕ). T (in_code p x)) (sym e) (column_lowered p (q_positive p s) c k.0 k.1 k.2);
        change = inr (k.0, k.1, e);
      }

pub one_pair : OnePair
unfolding carried
one_pair p s u h = (carries l.near, only)
  where
    l : Conditions p u
    l = conditions p (q_positive p s) u h

    long : (b : Bool) → length (received p b u) ≡ p.n
    long b = length_received p b u l.long

    back : Bool → List ℕ
    back b = restored p (received p b u)

    pair : Restores p (received p true u) (back true) → Restores p (received p false u) (back false)
        → (back true ≡ received p true u) ⊎ (back false ≡ received p false u) → Carries p u (carried p true u) (carried p false u)
    pair a b i =
        record {
          first = back true;
          second = back false;
          restores_first = a;
          restores_second = b;
          intact = i;
          messages = (refl, refl);
        }

    zero : (b : Bool) → Zero p (received p b u) → back b ≡ received p b u
    zero b z = restored_zero p s (received p b u) (long b) z

    zeros : (b : Bool) → Zero p (received p b u) → Restores p (received p b u) (back b)
    zeros b z = zero_restores p s (received p b u) (long b) z

    columns : (b : Bool) → Column p (received p b u) → Restores p (received p b u) (back b)
    columns b k = column_restores p s (received p b u) (long b) k

    carries : Near p (received p true u) (received p false u) → Carries p u (carried p true u) (carried p false u)
    carries (neither a b) = pair (zeros true a) (zeros false b) (inl (zero true a))
    carries (first a b) = pair (columns true a) (zeros false b) (inr (zero false b))
    carries (second a b) = pair (zeros true a) (columns false b) (inl (zero true a))

    only : (a b : List ℕ) → Carries p u a b → (a ≡ carried p true u) × (b ≡ carried p false u)
    only a b c = (
      sym c.messages.0 ∙ ap (message p) (restores_one p s (received p true u) (long true) c.first c.restores_first),
      sym c.messages.1 ∙ ap (message p) (restores_one p s (received p false u) (long false) c.second c.restores_second),
    )
