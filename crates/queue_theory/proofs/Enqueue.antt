-- Enqueue moves the first free cell to the end of the used list.
-- Assumes nothing.
use mathlib.Core.Path.{◌≡◌, refl, sym, subst, ◌∙◌}
use mathlib.Core.Logic.{◌≢◌, ◌⊎◌, inl, inr, ⊎_elim}
use mathlib.Core.Bool.{Bool, true, false}
use mathlib.Core.List.{List, [], ◌∷◌, ◌++◌}
use Prim.Native.Nat.{ℕ, ◌+◌, ◌*◌, ◌≤◌, ◌<◌}
use native.Mathlib.Omega.{arith}
use lib.Dec.{T, eqb}
use lib.ListN.{length, length-set}
use Rattle.modular_theory.proofs.Search.{le_or_lt}
use Rattle.code_theory.proofs.Distance.{equal_or_not}
use Rattle.queue_theory.specs.Lists.{bit, count, last_of}
use Rattle.queue_theory.specs.Layout.{cell_size, body_size, next_cell, first_free, cell_body, header, set_next, set_first_free, set_body}
use Rattle.queue_theory.specs.Chains.{From}
use Rattle.queue_theory.specs.Sound.{is_record, is_body, is_header}
use Rattle.queue_theory.proofs.Counts.{bit_same, bit_other, count_append, in_last}
use Rattle.queue_theory.proofs.Writes.{next_set, next_set_other, first_free_set_next, body_set_next, first_free_set, next_set_free}
use Rattle.queue_theory.proofs.Writes.{body_set_free, header_same, header_set_free, length_set_body, body_set, body_set_other}
use Rattle.queue_theory.proofs.Writes.{next_set_body, first_free_set_body}
use Rattle.queue_theory.proofs.Follow.{from_same, from_append, from_nonzero}
use Rattle.queue_theory.proofs.Lists.{Cell, Lists, used_in, free_in, at_most_once}

-- c is the first free cell, l the last used one, r the record
module _ (s : List ℕ) (R c : ℕ) (u f : List ℕ) (r : List ℕ) (ls : Lists s R u (c ∷ f)) (long : length r ≡ body_size) where
  abbrev l : ℕ
  l = last_of 0 u

  abbrev s₁ : List ℕ
  s₁ = set_first_free s (next_cell s c)

  abbrev s₂ : List ℕ
  s₂ = set_next s₁ c 0

  abbrev s₃ : List ℕ
  s₃ = set_next s₂ l c

  -- the queue after it
  abbrev s' : List ℕ
  s' = set_body s₃ c r

  here : bit (eqb c c) ≡ 1
  here = bit_same {x = c} {y = c} refl

  cell_in : (1 ≤ c) × (c ≤ R)
  cell_in = free_in ls c (omega (arith, here))

  cell_nonzero : c ≢ 0
  cell_nonzero = omega (arith, cell_in.0)

  pub not_used : count c u ≡ 0
  not_used = omega (arith, here, at_most_once ls c)

  not_free : count c f ≡ 0
  not_free = omega (arith, here, at_most_once ls c)

  pub not_cell : (l : List ℕ) → count c l ≡ 0 → (x : ℕ) → 1 ≤ count x l → x ≢ c
  not_cell l z x h e =
      let k : count x l ≡ 0 = subst (λ (y : ℕ). count y l ≡ 0) (sym e) z in
      omega arith

  -- the last cell is 0 or used
  last_in : (l ≡ 0) ⊎ (1 ≤ count l u)
  last_in = ⊎_elim (λ (e : l ≡ 0). inl e) (λ (d : l ≢ 0). inr (omega (arith, bit_other d, in_last 0 u))) (equal_or_not l 0)

  pub last_below : l ≤ R
  last_below = ⊎_elim (λ (e : l ≡ 0). omega arith) (λ (h : 1 ≤ count l u). (used_in ls l h).1) last_in

  last_other : l ≢ c
  last_other = ⊎_elim (λ (e : l ≡ 0). λ (z : l ≡ c). cell_nonzero (sym z ∙ e)) (λ (h : 1 ≤ count l u). not_cell u not_used l h) last_in

  last_not_free : (x : ℕ) → 1 ≤ count x f → x ≢ l
  last_not_free x h e = ⊎_elim zero_case used_case last_in
    where
      zero_case : l ≡ 0 → ⊥
      zero_case z = from_nonzero s (next_cell s c) f ls.free_from.2 x h (e ∙ z)

      used_case : 1 ≤ count l u → ⊥
      used_case k =
          let j : 1 ≤ count x u = subst (λ (y : ℕ). 1 ≤ count y u) (sym e) k in
          omega (arith, at_most_once ls x)

  pub length_s₃ : length s₃ ≡ length s
  length_s₃ = length-set s₂ (l * cell_size) c ∙ length-set s₁ (c * cell_size) 0 ∙ length-set s 1 (next_cell s c)

  pub fits : (c + 1) * cell_size ≤ length s₃
  fits = omega (arith, cell_in.1, length_s₃, ls.size.long)

  pub length_after : length s' ≡ length s
  length_after = length_set_body s₃ c r fits long ∙ length_s₃

  pub next_other : (x : ℕ) → x ≢ c → x ≢ l → next_cell s' x ≡ next_cell s x
  next_other x h k =
      next_set_body s₃ c r fits long x ∙ next_set_other s₂ l c x k ∙ next_set_other s₁ c 0 x h ∙ next_set_free s (next_cell s c) x

  next_last : next_cell s' l ≡ c
  next_last =
      let same : length s₂ ≡ length s = length-set s₁ (c * cell_size) 0 ∙ length-set s 1 (next_cell s c) in
      let h : l * cell_size < length s₂ = omega (arith, last_below, ls.size.long) in
      next_set_body s₃ c r fits long l ∙ next_set s₂ l c h

  next_cell_lem : next_cell s' c ≡ 0
  next_cell_lem =
      let h : c * cell_size < length s₁ = omega (arith, cell_in.1, length-set s 1 (next_cell s c), ls.size.long) in
      next_set_body s₃ c r fits long c ∙ next_set_other s₂ l c c (λ e. last_other (sym e)) ∙ next_set s₁ c 0 h

  pub free_after : first_free s' ≡ next_cell s c
  free_after =
      first_free_set_body s₃ c r fits long cell_nonzero
      ∙ first_free_set_next s₂ l c
      ∙ first_free_set_next s₁ c 0
      ∙ first_free_set s (next_cell s c) (omega (arith, ls.size.long, ls.size.some))

  pub body_cell : cell_body s' c ≡ r
  body_cell = body_set s₃ c r fits long

  to_cell : (j : ℕ) → j ≤ R → j ≢ c → cell_body s' j ≡ cell_body s₁ j
  to_cell j h d =
      body_set_other s₃ c r fits long j (omega (arith, length_s₃, ls.size.long)) d ∙ body_set_next s₂ l c j ∙ body_set_next s₁ c 0 j

  pub body_other : (j : ℕ) → j ≤ R → j ≢ 0 → j ≢ c → cell_body s' j ≡ cell_body s j
  body_other j h z d = to_cell j h d ∙ body_set_free s (next_cell s c) j z

  header_after : header s' ≡ header s
  header_after = header_same s₁ s' (to_cell 0 (omega arith) (λ e. cell_nonzero (sym e))) ∙ header_set_free s (next_cell s c)

  still : (kind : Bool) (x : ℕ) → 1 ≤ x → x ≢ c → Cell s R kind x → Cell s' R kind x
  still kind x h d k =
      record {
        below = k.below;
        good = subst (λ (b : List ℕ). T (is_body kind b)) (sym (body_other x k.below (omega arith) d)) k.good;
      }

  -- cell 0 and the used cells, each once
  with_zero_lem : (x : ℕ) → count x (0 ∷ u) ≤ 1
  with_zero_lem x = ⊎_elim zero_case other_case (equal_or_not x 0)
    where
      zero_case : x ≡ 0 → count x (0 ∷ u) ≤ 1
      zero_case e =
          ⊎_elim
          (λ (h : 1 ≤ count x u). absurd (from_nonzero s (next_cell s 0) u ls.used_from x h e))
          (λ (k : count x u < 1). omega (arith, bit_same e))
          (le_or_lt 1 (count x u))

      other_case : x ≢ 0 → count x (0 ∷ u) ≤ 1
      other_case d = omega (arith, bit_other d, at_most_once ls x)

  used_after : From s' (next_cell s' 0) (u ++ (c ∷ []))
  used_after =
      from_append s s' c cell_nonzero next_cell_lem 0 u
      (λ x h d. next_other x (away x h) d)
      next_last
      with_zero_lem
      ls.used_from
    where
      away : (x : ℕ) → 1 ≤ count x (0 ∷ u) → x ≢ c
      away x h = not_cell (0 ∷ u) (omega (arith, not_used, bit_other cell_nonzero)) x h

  free_rest : From s' (first_free s') f
  free_rest =
      subst (λ (i : ℕ). From s' i f) (sym free_after)
      (from_same s s' (next_cell s c) f (λ x h. next_other x (not_cell f not_free x h) (last_not_free x h)) ls.free_from.2)

  used_good : T (is_record r) → (x : ℕ) → 1 ≤ count x (u ++ (c ∷ [])) → Cell s' R true x
  used_good g x h = ⊎_elim new_case old_case (equal_or_not x c)
    where
      new_case : x ≡ c → Cell s' R true x
      new_case e =
          subst (λ (y : ℕ). Cell s' R true y) (sym e)
          (record { below = cell_in.1; good = subst (λ (b : List ℕ). T (is_record b)) (sym body_cell) g })

      old_case : x ≢ c → Cell s' R true x
      old_case d =
          let k : 1 ≤ count x u = omega (arith, count_append x u (c ∷ []), bit_other d) in
          still true x (used_in ls x k).0 d (ls.used_cells x k)

  free_good : (x : ℕ) → 1 ≤ count x f → Cell s' R false x
  free_good x h =
      let k : 1 ≤ count x (c ∷ f) = omega arith in
      still false x (free_in ls x k).0 (not_cell f not_free x h) (ls.free_cells x k)

  pub lists_after : T (is_record r) → Lists s' R (u ++ (c ∷ [])) f
  lists_after g =
      record {
        size = record { long = length_after ∙ ls.size.long; some = ls.size.some; few = ls.size.few };
        in_header = subst (λ (h : List ℕ). T (is_header h)) (sym header_after) ls.in_header;
        used_from = used_after;
        free_from = free_rest;
        used_cells = used_good g;
        free_cells = free_good;
        once =
            λ x h k.
            omega (arith, count_append x (u ++ (c ∷ [])) f, count_append x u (c ∷ []), count_append x u (c ∷ f), ls.once x h k);
      }
