-- The check symbols that make up for the row sums of a placed message give its component, whatever its symbols are: the candidates of a
-- message are in code where those of its residues mod q are, so both have the same check symbols.
-- Assumes nothing.
use mathlib.Core.Path.{◌≡◌, refl, sym, ap, ◌∙◌, fun_ext}
use mathlib.Core.Bool.{Bool, true, false}
use mathlib.Core.List.{List, [], ◌∷◌}
use Prim.Native.Nat.{ℕ, zero, suc, ◌-◌, ◌*◌, ◌%◌, ◌^◌, ◌≤◌, ◌<◌}
use native.Mathlib.Nat.{zero-mod, mod-lt, le_refl, le_of_suc-le}
use native.Mathlib.Omega.{arith}
use lib.Dec.{T, eqb}
use lib.ListN.{length, get_or, take, drop, set, length-set}
use lib.Seq.{get_or-set_other, ext_get_or}
use Rattle.modular_theory.specs.Search.{all_below, least}
use Rattle.modular_theory.specs.Sum.{dot}
use Rattle.modular_theory.specs.Digits.{digits}
use Rattle.modular_theory.specs.Residue.{Congruent}
use Rattle.modular_theory.proofs.Sum.{dot_agree}
use Rattle.modular_theory.proofs.Residue.{of_eq, symm, ◌then◌, scale, reduce}
use Rattle.code_theory.specs.Parameters.{Parameters, Sized, message_length}
use Rattle.code_theory.specs.Component.{symbols_below, Below, is_word, check_row, syndrome, in_code, check_at, merge, candidate, component}
use Rattle.code_theory.specs.Codeword.{alternate}
use Rattle.code_theory.proofs.Symbols.{symbols_below_lem}
use Rattle.code_theory.proofs.Columns.{q_positive}
use Rattle.code_theory.proofs.Merge.{cases, opposite, word_of, passing, length_merge}
use Rattle.code_theory.proofs.Reduced.{pivot, pivot_check}
use Rattle.code_theory.proofs.Pair.{length_component}
use Rattle.symbols.specs.Syndromes.{four_rows}
use Rattle.components.specs.Checks.{check_position, checked, Solves}
use Rattle.components.specs.Residues.{residues}
use Rattle.components.proofs.Placing.{merge_check, merge_message}
use Rattle.components.proofs.Solve.{bare, at_pivot, solved}

-- The symbols mod q.

pub length_residues : (q : ℕ) (l : List ℕ) → length (residues q l) ≡ length l
length_residues q [] = refl
length_residues q (x ∷ l) = ap suc (length_residues q l)

pub residue_at_lem : (q : ℕ) (l : List ℕ) (i : ℕ) → get_or (residues q l) i 0 ≡ get_or l i 0 % q
residue_at_lem q [] i = sym (zero-mod q)
residue_at_lem q (x ∷ l) zero = refl
residue_at_lem q (x ∷ l) (suc i) = residue_at_lem q l i

pub residues_symbols : (q : ℕ) (l : List ℕ) {y : List ℕ} → 1 ≤ q → y ≡ residues q l → Below q y
residues_symbols q l some e i = rw (e, residue_at_lem q l i) (mod-lt (get_or l i 0) some)

residues_below : (q : ℕ) (l : List ℕ) → 1 ≤ q → T (symbols_below q (residues q l))
residues_below q l some = symbols_below_lem q (residues q l) (λ i b. residues_symbols q l some refl i)

-- they have the same sums mod q
pub residues_agree : (q : ℕ) (f : ℕ → ℕ) (c : List ℕ) → Congruent q (dot f (residues q c)) (dot f c)
residues_agree q f c =
    dot_agree f (residues q c) c (length_residues q c)
    (λ j l. scale (f j) (of_eq (residue_at_lem q c j) then reduce q (get_or c j 0)))

-- and are taken where they stand
pub residues_take : (q k : ℕ) (l : List ℕ) → take k (residues q l) ≡ residues q (take k l)
residues_take q zero l = refl
residues_take q (suc k) [] = refl
residues_take q (suc k) (x ∷ l) = ap (λ (t : List ℕ). x % q ∷ t) (residues_take q k l)

pub residues_drop : (q k : ℕ) (l : List ℕ) → drop k (residues q l) ≡ residues q (drop k l)
residues_drop q zero l = refl
residues_drop q (suc k) [] = refl
residues_drop q (suc k) (x ∷ l) = residues_drop q k l

pub residues_alternate : (q : ℕ) (b : Bool) (l : List ℕ) → alternate b (residues q l) ≡ residues q (alternate b l)
residues_alternate q b [] = refl
residues_alternate q true (x ∷ l) = ap (λ (t : List ℕ). x % q ∷ t) (residues_alternate q false l)
residues_alternate q false (x ∷ l) = residues_alternate q true l

-- merged with the same check symbols, a message and its residues have the same sums mod q
module _ (q : ℕ) (t : ℕ → Bool) (n : ℕ) (e a : List ℕ) where
  merge_agrees : (f : ℕ → ℕ) → Congruent q (dot f (merge t n e a)) (dot f (merge t n e (residues q a)))
  merge_agrees f =
      dot_agree f (merge t n e a) (merge t n e (residues q a)) (length_merge t n e a ∙ sym (length_merge t n e (residues q a)))
      (λ j l. term j (rw (length_merge t n e a) at l))
    where
      term : (j : ℕ) → j < n → Congruent q (f j * get_or (merge t n e a) j 0) (f j * get_or (merge t n e (residues q a)) j 0)
      term j l =
          cases (t j) (λ h. of_eq (ap (λ (y : ℕ). f j * y) (merge_check t n e a j l h ∙ sym (merge_check t n e (residues q a) j l h))))
          (λ h. let k : ℕ = passing (opposite t) j in
          scale (f j)
          (of_eq (merge_message t n e a j l h)
          then symm (reduce q (get_or a k 0))
          then of_eq (sym (residue_at_lem q a k) ∙ sym (merge_message t n e (residues q a) j l h))))

-- and with any rows of q levels the same syndrome
syndrome_agrees : (p : Parameters) (t : ℕ → Bool) (n : ℕ) (e a : List ℕ) (j : ℕ)
    → syndrome p (merge t n e a) j ≡ syndrome p (merge t n e (residues p.q a)) j
unfolding syndrome
syndrome_agrees p t n e a j = (merge_agrees p.q t n e a (check_row p j)).same

-- What setting the check symbols changes.

set_agrees : (c d : List ℕ) (j y i : ℕ) → length c ≡ length d → get_or c i 0 ≡ get_or d i 0 → get_or (set c j y) i 0 ≡ get_or (set d j y) i 0
set_agrees [] [] j y i l h = refl
set_agrees [] (z ∷ d) j y i l h = absurd (omega arith)
set_agrees (x ∷ c) [] j y i l h = absurd (omega arith)
set_agrees (x ∷ c) (z ∷ d) zero y zero l h = refl
set_agrees (x ∷ c) (z ∷ d) zero y (suc i) l h = h
set_agrees (x ∷ c) (z ∷ d) (suc j) y zero l h = h
set_agrees (x ∷ c) (z ∷ d) (suc j) y (suc i) l h = set_agrees c d j y i (omega arith) h

length_checked : (q : ℕ) (e c : List ℕ) (k : ℕ) → length (checked q e c k) ≡ length c
length_checked q e c zero = refl
length_checked q e c (suc k) = length-set (checked q e c k) (check_position q k - 1) (get_or e k 0) ∙ length_checked q e c k

checked_agrees : (q : ℕ) (e c d : List ℕ) (k i : ℕ) → length c ≡ length d → get_or c i 0 ≡ get_or d i 0
    → get_or (checked q e c k) i 0 ≡ get_or (checked q e d k) i 0
checked_agrees q e c d zero i l h = h
checked_agrees q e c d (suc k) i l h =
    set_agrees (checked q e c k) (checked q e d k) (check_position q k - 1) (get_or e k 0) i
    (length_checked q e c k ∙ l ∙ sym (length_checked q e d k)) (checked_agrees q e c d k i l h)

module _ (p : Parameters) (s : Sized p) where
  -- the symbols of the message stay
  checked_other : (e c : List ℕ) (k i : ℕ) → k ≤ p.r → check_at p i ≡ false → get_or (checked p.q e c k) i 0 ≡ get_or c i 0
  checked_other e c zero i h f = refl
  checked_other e c (suc k) i h f =
      rw (at_pivot p (checked p.q e c k) k (get_or e k 0))
      (get_or-set_other (checked p.q e c k) (pivot p k) i (get_or e k 0) 0 apart ∙ checked_other e c k i (le_of_suc-le h) f)
    where
      apart : i ≡ pivot p k → ⊥
      apart g = rw (← g, f) at (pivot_check p s k h)

  module _ (a : List ℕ) (size : length a ≡ message_length p) where
    abbrev reduced : List ℕ
    reduced = residues p.q a

    word : T (is_word p.q (message_length p) reduced)
    word = word_of p.q (message_length p) reduced (length_residues p.q a ∙ size) (residues_below p.q a (q_positive p s))

    same_tests : ◌≡◌ {A = ℕ → Bool} (λ e. in_code p (candidate p a e)) (λ e. in_code p (candidate p reduced e))
    unfolding in_code candidate
    same_tests =
        fun_ext
        (λ e. ap (λ (u : ℕ → ℕ). all_below (λ j. eqb (u j) 0) p.r)
        (fun_ext (λ j. syndrome_agrees p (check_at p) p.n (digits p.q p.r e) a j)))

    -- the check symbols of both
    checks : List ℕ
    checks = digits p.q p.r (least (λ e. in_code p (candidate p reduced e)) (p.q ^ p.r))

    component_is : component p a ≡ merge (check_at p) p.n checks a
    unfolding component candidate checks
    component_is = ap (λ (t : ℕ → Bool). merge (check_at p) p.n (digits p.q p.r (least t (p.q ^ p.r))) a) same_tests

    reduced_is : component p reduced ≡ merge (check_at p) p.n checks reduced
    unfolding component candidate checks
    reduced_is = refl

    module _ (sums e : List ℕ) (four : p.r ≤ 4)
        (are : (j : ℕ) → j < 4 → get_or sums j 0 ≡ syndrome (four_rows p.q p.n) (bare p a) j) (solves : Solves p.q sums e) where
      reduced_solved : checked p.q e (bare p reduced) p.r ≡ component p reduced
      reduced_solved =
          solved p s reduced word sums e four (λ j h. are j h ∙ syndrome_agrees (four_rows p.q p.n) (check_at p) p.n [] a j) solves

      pub any_solved : checked p.q e (bare p a) p.r ≡ component p a
      any_solved =
          ext_get_or 0 (checked p.q e (bare p a) p.r) (component p a) (long ∙ sym (length_component p a))
          (λ i l. let h : i < p.n = omega (arith, long) in cases (check_at p i) (at_check i h) (at_message i h))
        where
          long : length (checked p.q e (bare p a) p.r) ≡ p.n
          long = length_checked p.q e (bare p a) p.r ∙ length_merge (check_at p) p.n [] a

          at_check : (i : ℕ) → i < p.n → check_at p i ≡ true → get_or (checked p.q e (bare p a) p.r) i 0 ≡ get_or (component p a) i 0
          at_check i l h =
              checked_agrees p.q e (bare p a) (bare p reduced) p.r i
              (length_merge (check_at p) p.n [] a ∙ sym (length_merge (check_at p) p.n [] reduced))
              (merge_check (check_at p) p.n [] a i l h ∙ sym (merge_check (check_at p) p.n [] reduced i l h))
              ∙ ap (λ (c : List ℕ). get_or c i 0) (reduced_solved ∙ reduced_is)
              ∙ merge_check (check_at p) p.n checks reduced i l h
              ∙ sym (merge_check (check_at p) p.n checks a i l h)
              ∙ ap (λ (c : List ℕ). get_or c i 0) (sym component_is)

          at_message : (i : ℕ) → i < p.n → check_at p i ≡ false → get_or (checked p.q e (bare p a) p.r) i 0 ≡ get_or (component p a) i 0
          at_message i l h =
              checked_other e (bare p a) p.r i (le_refl p.r) h
              ∙ merge_message (check_at p) p.n [] a i l h
              ∙ sym (merge_message (check_at p) p.n checks a i l h)
              ∙ ap (λ (c : List ℕ). get_or c i 0) (sym component_is)
