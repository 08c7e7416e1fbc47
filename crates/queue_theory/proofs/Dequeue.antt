-- Dequeue moves the first used cell, zeroed, to the front of the free list.
-- Assumes nothing.
use mathlib.Core.Path.{◌≡◌, refl, sym, subst, ◌∙◌}
use mathlib.Core.Logic.{◌≢◌, ⊎_elim}
use mathlib.Core.Bool.{Bool, true, false}
use mathlib.Core.List.{List, ◌∷◌}
use Prim.Native.Nat.{ℕ, ◌+◌, ◌*◌, ◌≤◌, ◌<◌}
use native.Mathlib.Omega.{arith}
use lib.Dec.{T, eqb}
use lib.ListN.{length, length-set, length-replicate}
use Rattle.code_theory.proofs.Distance.{equal_or_not}
use Rattle.queue_theory.specs.Lists.{all_zero, zeros, bit, count}
use Rattle.queue_theory.specs.Layout.{cell_size, body_size, next_cell, first_free, cell_body, header, set_next, set_first_free, set_body}
use Rattle.queue_theory.specs.Chains.{From}
use Rattle.queue_theory.specs.Sound.{is_body, is_header}
use Rattle.queue_theory.proofs.Counts.{bit_same, bit_other, count_append}
use Rattle.queue_theory.proofs.Writes.{next_set, next_set_other, body_set_next, first_free_set}
use Rattle.queue_theory.proofs.Writes.{next_set_free, body_set_free, header_same}
use Rattle.queue_theory.proofs.Writes.{header_set_free, length_set_body, body_set, body_set_other, next_set_body, first_free_set_body}
use Rattle.queue_theory.proofs.Follow.{from_same, from_nonzero}
use Rattle.queue_theory.proofs.Record.{zeros_zero}
use Rattle.queue_theory.proofs.Lists.{Cell, Lists, used_in, free_in, at_most_once}

-- c is the first used cell
module _ (s : List ℕ) (R c : ℕ) (u f : List ℕ) (ls : Lists s R (c ∷ u) f) where
  abbrev s₁ : List ℕ
  s₁ = set_next s 0 (next_cell s c)

  abbrev s₂ : List ℕ
  s₂ = set_next s₁ c (first_free s)

  abbrev s₃ : List ℕ
  s₃ = set_first_free s₂ c

  -- the queue after it
  abbrev s' : List ℕ
  s' = set_body s₃ c (zeros body_size)

  here : bit (eqb c c) ≡ 1
  here = bit_same {x = c} {y = c} refl

  cell_in : (1 ≤ c) × (c ≤ R)
  cell_in = used_in ls c (omega (arith, here))

  pub cell_nonzero : c ≢ 0
  cell_nonzero = omega (arith, cell_in.0)

  -- no cell that is left on a list is c
  other : (l : List ℕ) → count c l ≡ 0 → (x : ℕ) → 1 ≤ count x l → x ≢ c
  other l z x h e =
      let k : count x l ≡ 0 = subst (λ (y : ℕ). count y l ≡ 0) (sym e) z in
      omega arith

  pub used_other : (x : ℕ) → 1 ≤ count x u → x ≢ c
  used_other = other u (omega (arith, here, at_most_once ls c))

  free_other : (x : ℕ) → 1 ≤ count x f → x ≢ c
  free_other = other f (omega (arith, here, at_most_once ls c))

  long : length (zeros body_size) ≡ body_size
  long = length-replicate {A = ℕ} body_size 0

  pub length_s₃ : length s₃ ≡ length s
  length_s₃ = length-set s₂ 1 c ∙ length-set s₁ (c * cell_size) (first_free s) ∙ length-set s 0 (next_cell s c)

  pub fits : (c + 1) * cell_size ≤ length s₃
  fits = omega (arith, cell_in.1, length_s₃, ls.size.long)

  pub length_after : length s' ≡ length s
  length_after = length_set_body s₃ c (zeros body_size) fits long ∙ length_s₃

  pub next_other : (x : ℕ) → x ≢ 0 → x ≢ c → next_cell s' x ≡ next_cell s x
  next_other x z h =
      next_set_body s₃ c (zeros body_size) fits long x
      ∙ next_set_free s₂ c x
      ∙ next_set_other s₁ c (first_free s) x h
      ∙ next_set_other s 0 (next_cell s c) x z

  next_zero : next_cell s' 0 ≡ next_cell s c
  next_zero =
      next_set_body s₃ c (zeros body_size) fits long 0
      ∙ next_set_free s₂ c 0
      ∙ next_set_other s₁ c (first_free s) 0 (λ e. cell_nonzero (sym e))
      ∙ next_set s 0 (next_cell s c) (omega (arith, ls.size.long))

  next_cell_lem : next_cell s' c ≡ first_free s
  next_cell_lem =
      let h : c * cell_size < length s₁ = omega (arith, cell_in.1, length-set s 0 (next_cell s c), ls.size.long) in
      next_set_body s₃ c (zeros body_size) fits long c ∙ next_set_free s₂ c c ∙ next_set s₁ c (first_free s) h

  pub free_first : first_free s' ≡ c
  free_first =
      first_free_set_body s₃ c (zeros body_size) fits long cell_nonzero
      ∙ first_free_set s₂ c (omega (arith, length_s₃, length-set s₂ 1 c, ls.size.long, ls.size.some))

  pub body_cell : cell_body s' c ≡ zeros body_size
  body_cell = body_set s₃ c (zeros body_size) fits long

  to_cell : (j : ℕ) → j ≤ R → j ≢ c → cell_body s' j ≡ cell_body s₃ j
  to_cell j h d = body_set_other s₃ c (zeros body_size) fits long j (omega (arith, length_s₃, ls.size.long)) d

  from_start : (j : ℕ) → cell_body s₂ j ≡ cell_body s j
  from_start j = body_set_next s₁ c (first_free s) j ∙ body_set_next s 0 (next_cell s c) j

  pub body_other : (j : ℕ) → j ≤ R → j ≢ 0 → j ≢ c → cell_body s' j ≡ cell_body s j
  body_other j h z d = to_cell j h d ∙ body_set_free s₂ c j z ∙ from_start j

  header_after : header s' ≡ header s
  header_after =
      header_same s₃ s' (to_cell 0 (omega arith) (λ e. cell_nonzero (sym e))) ∙ header_set_free s₂ c ∙ header_same s s₂ (from_start 0)

  still : (kind : Bool) (x : ℕ) → 1 ≤ x → x ≢ c → Cell s R kind x → Cell s' R kind x
  still kind x h d k =
      record {
        below = k.below;
        good = subst (λ (b : List ℕ). T (is_body kind b)) (sym (body_other x k.below (omega arith) d)) k.good;
      }

  used_rest : From s' (next_cell s' 0) u
  used_rest =
      let from = ls.used_from.2 in
      subst (λ (i : ℕ). From s' i u) (sym next_zero)
      (from_same s s' (next_cell s c) u (λ x h. next_other x (from_nonzero s (next_cell s c) u from x h) (used_other x h)) from)

  free_after : From s' (first_free s') (c ∷ f)
  free_after =
      let from = ls.free_from in
      let rest = from_same s s' (first_free s) f (λ x h. next_other x (from_nonzero s (first_free s) f from x h) (free_other x h)) from in
      (free_first, cell_nonzero, subst (λ (i : ℕ). From s' i f) (sym next_cell_lem) rest)

  used_good : (x : ℕ) → 1 ≤ count x u → Cell s' R true x
  used_good x h =
      let k : 1 ≤ count x (c ∷ u) = omega arith in
      still true x (used_in ls x k).0 (used_other x h) (ls.used_cells x k)

  free_good : (x : ℕ) → 1 ≤ count x (c ∷ f) → Cell s' R false x
  free_good x h = ⊎_elim new_case old_case (equal_or_not x c)
    where
      new_case : x ≡ c → Cell s' R false x
      new_case e =
          subst (λ (y : ℕ). Cell s' R false y) (sym e)
          (record { below = cell_in.1; good = subst (λ (b : List ℕ). T (all_zero b)) (sym body_cell) (zeros_zero body_size) })

      old_case : x ≢ c → Cell s' R false x
      old_case d =
          let k : 1 ≤ count x f = omega (arith, bit_other d) in
          still false x (free_in ls x k).0 d (ls.free_cells x k)

  pub lists_after : Lists s' R u (c ∷ f)
  lists_after =
      record {
        size = record { long = length_after ∙ ls.size.long; some = ls.size.some; few = ls.size.few };
        in_header = subst (λ (h : List ℕ). T (is_header h)) (sym header_after) ls.in_header;
        used_from = used_rest;
        free_from = free_after;
        used_cells = used_good;
        free_cells = free_good;
        once = λ x h k. omega (arith, count_append x u (c ∷ f), count_append x (c ∷ u) f, ls.once x h k);
      }
