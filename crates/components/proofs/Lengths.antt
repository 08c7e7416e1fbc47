-- The tests of the profile and of the lengths, by the row that the code asks for.
-- Assumes nothing.
use mathlib.Core.Path.{◌≡◌, sym, ap, ◌∙◌}
use mathlib.Core.Logic.{◌⊎◌, inl, inr, ◌≢◌}
use mathlib.Core.Bool.{Bool, true, false, ◌&&◌}
use mathlib.Core.List.{List, ◌++◌}
use Prim.Native.Nat.{ℕ, suc, ◌-◌, ◌≤◌}
use native.Mathlib.Omega.{arith}
use lib.Dec.{T, eqb, leb, leb→le}
use lib.ListN.{length, take, replicate}
use lib.Seq.{take-append_seam}
use borrow.Author.Tests.{ne_eqb}
use Rattle.std.proofs.Math.Bool.{and-false}
use Rattle.modular_theory.specs.Search.{all_below}
use Rattle.modular_theory.proofs.Search.{and_intro, and_left, and_right, eq_test, passes}
use Rattle.code_theory.specs.Parameters.{edition13, Parameters, message_length, balanced_length}
use Rattle.code_theory.specs.Component.{component}
use Rattle.code_theory.specs.Profiles.{profiles, is_profile, profile}
use Rattle.code_theory.proofs.Pair.{length_component, length_interleave}
use Rattle.code_theory.proofs.Profiles.{every_profile}
use Rattle.profiles.specs.declared.row.Row.{Row}
use Rattle.profiles.specs.Row.{Valid, parameters, RowOf}
use Rattle.profiles.proofs.Table.{message_is}
use Rattle.components.specs.Components.{zero_first, padded, both_long, components_of}

-- a component of a profile has at least three check symbols, and nine levels at most
roomy : ℕ → Bool
roomy i = leb 3 (profile i).r && leb (profile i).q 9

all_roomy : T (all_below (λ j. roomy (suc j)) (length profiles))
unfolding roomy profile
all_roomy = tt

profile_roomy : (i : ℕ) → T (is_profile i) → (3 ≤ (profile i).r) × ((profile i).q ≤ 9)
unfolding roomy
profile_roomy i h =
    let both : T (roomy i) = every_profile roomy all_roomy i h in (
      leb→le 3 (profile i).r (and_left (leb 3 (profile i).r) (leb (profile i).q 9) both),
      leb→le (profile i).q 9 (and_right (leb 3 (profile i).r) (leb (profile i).q 9) both),
    )

module _ (i : ℕ) (a b : List ℕ) where
  -- the array by the test of the number and the lengths
  abbrev array : Bool → List ℕ
  array u = elim u [ true ↦ padded (profile i) a b | false ↦ replicate 97 0 ]

  abbrev tested : Bool → ℕ → List ℕ
  tested p m = array (p && both_long m (length a) (length b))

  length_first : (p : Parameters) → length (zero_first p a b) ≡ balanced_length p
  unfolding zero_first
  length_first p =
      let e : length (component p a) ≡ p.n = length_component p a in
      let f : length (component p b) ≡ p.n = length_component p b in
      omega (arith, length_interleave (component p a) (component p b) (omega arith))

  -- the components stand before the zeros
  pub components_interleaved : T (is_profile i) → length a ≡ message_length (profile i) → length b ≡ message_length (profile i)
      → take (balanced_length (profile i)) (components_of i a b) ≡ zero_first (profile i) a b
  unfolding padded components_of
  components_interleaved h ha hb =
      let p : Parameters = profile i in
      let m : ℕ = message_length p in
      let long = and_intro (eqb (length a) m) (eqb (length b) m) (eq_test ha) (eq_test hb) in
      let e : is_profile i && both_long m (length a) (length b) ≡ true =
      passes (and_intro (is_profile i) (both_long m (length a) (length b)) h long) in
      ap (λ (u : Bool). take (balanced_length p) (array u)) e
      ∙ ap (λ (k : ℕ). take k (zero_first p a b ++ replicate (97 - balanced_length p) 0)) (sym (length_first p))
      ∙ take-append_seam (zero_first p a b) (replicate (97 - balanced_length p) 0)

  pub no_profile : is_profile i ≡ false → replicate 97 0 ≡ components_of i a b
  unfolding components_of
  no_profile e = ap (λ (p : Bool). tested p (message_length (profile i))) (sym e)

  -- by the row that is asked for
  module _ {t : Row} (of : RowOf edition13 i t) where
    by_row : array (both_long t.message (length a) (length b)) ≡ components_of i a b
    unfolding components_of
    by_row =
        ap (λ (p : Bool). tested p t.message) (sym (passes {b = is_profile i} of.known))
        ∙ ap (tested (is_profile i)) (message_is of)

    -- a length is another
    unfit : (length a ≢ t.message) ⊎ ((length a ≡ t.message) × (length b ≢ t.message)) → both_long t.message (length a) (length b) ≡ false
    unfit (inl h) = rw (ne_eqb (length a) t.message h)
    unfit (inr (e, h)) = rw (ne_eqb (length b) t.message h) (and-false (eqb (length a) t.message))

    pub no_fit : (length a ≢ t.message) ⊎ ((length a ≡ t.message) × (length b ≢ t.message)) → replicate 97 0 ≡ components_of i a b
    no_fit e = ap array (sym (unfit e)) ∙ by_row

    module _ (first : length a ≡ t.message) (second : length b ≡ t.message) where
      fit : both_long t.message (length a) (length b) ≡ true
      fit = passes (and_intro (eqb (length a) t.message) (eqb (length b) t.message) (eq_test first) (eq_test second))

      pub right_length : Valid t × (3 ≤ t.r) × (t.q ≤ 9) × (length a ≡ message_length (parameters t))
          × (length b ≡ message_length (parameters t))
      right_length = (
        of.valid,
        rw (ap (λ (p : Parameters). p.r) of.same) (profile_roomy i of.known).0,
        rw (ap (λ (p : Parameters). p.q) of.same) (profile_roomy i of.known).1,
        first ∙ of.valid.message,
        second ∙ of.valid.message,
      )

      pub right_components : {x : List ℕ} → x ≡ padded (parameters t) a b → x ≡ components_of i a b
      unfolding profile
      right_components f = f ∙ ap (λ (p : Parameters). padded p a b) of.same ∙ ap array (sym fit) ∙ by_row
