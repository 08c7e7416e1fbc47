-- The test of two syndromes is the test of the components that have them, and the messages follow from them.
-- Assumes nothing.
use mathlib.Core.Path.{◌≡◌, refl, ap, ap₂}
use mathlib.Core.Logic.{⊎_elim}
use mathlib.Core.Bool.{Bool, true, false, ◌&&◌}
use mathlib.Core.List.{List}
use Prim.Native.Nat.{ℕ}
use lib.Dec.{T}
use lib.ListN.{length}
use Rattle.modular_theory.proofs.Search.{and_left, and_right, or_cases, or_left}
use Rattle.code_theory.specs.Parameters.{Parameters, Sized, codeword_length}
use Rattle.code_theory.specs.Component.{message}
use Rattle.code_theory.specs.Codeword.{received, near_components, has_components, carried}
use Rattle.code_theory.specs.Reading.{Finding, read, read_as}
use Rattle.code_theory.proofs.Restored.{length_received}
use Rattle.decoding_theory.specs.Syndromes.{zero_syndrome, column_syndrome, near_syndrome, near_syndromes, restored_by}
use Rattle.decoding_theory.specs.Decoded.{read_by}
use Rattle.decoding_theory.proofs.Near.{Rows, zero_test, near_test, restored_by_lem}

-- a zero syndrome is near
near_zero : (p : Parameters) (S : List ℕ) → T (zero_syndrome p S) → T (near_syndrome p S)
unfolding near_syndrome
near_zero p S z = or_left (zero_syndrome p S) (column_syndrome p S) z

-- each of two near syndromes is near
pub near_parts : (p : Parameters) (S S' : List ℕ) → T (near_syndromes p S S') → T (near_syndrome p S) × T (near_syndrome p S')
unfolding near_syndromes
near_parts p S S' t =
    ⊎_elim (λ (h : T (a && b')). (near_zero p S (and_left a b' h), and_right a b' h))
    (λ (h : T (b && a')). (and_left b a' h, near_zero p S' (and_right b a' h))) (or_cases (a && b') (b && a') t)
  where
    a : Bool
    a = zero_syndrome p S

    b : Bool
    b = near_syndrome p S

    a' : Bool
    a' = zero_syndrome p S'

    b' : Bool
    b' = near_syndrome p S'

near_both : (p : Parameters) → Sized p → {c d S S' : List ℕ} → Rows p c S → Rows p d S' → length c ≡ p.n → length d ≡ p.n
    → near_syndromes p S S' ≡ near_components p c d
unfolding near_syndromes near_components
near_both p s w w' n n' = rw (zero_test w, zero_test w', near_test p s w n, near_test p s w' n') refl

module _ (p : Parameters) (s : Sized p) (u : List ℕ) (l : length u ≡ codeword_length p) where
  pub carried_by : (b : Bool) {S : List ℕ} → Rows p (received p b u) S → T (near_syndrome p S)
      → message p (restored_by p S (received p b u)) ≡ carried p b u
  unfolding carried
  carried_by b w t = ap (message p) (restored_by_lem p s w (length_received p b u l) t)

  module _ {S S' : List ℕ} (w : Rows p (received p true u) S) (w' : Rows p (received p false u) S') where
    pub components_test : near_syndromes p S S' ≡ has_components p u
    unfolding has_components
    components_test = near_both p s w w' (length_received p true u l) (length_received p false u l)

    pub read_by_lem : (f : Finding) → T (near_syndromes p S S') → read_by p f u S S' ≡ read_as p f u
    unfolding read_by
    read_by_lem f t =
        let (n, n') = near_parts p S S' t in
        ap₂ (λ (a b : List ℕ). read f a b) (carried_by true w n) (carried_by false w' n')
