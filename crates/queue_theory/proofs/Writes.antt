-- What each part of a queue's bytes holds after another has been written: the parts do not overlap.
-- Assumes nothing.
use mathlib.Core.Path.{◌≡◌, refl, sym, ap, ◌∙◌}
use mathlib.Core.Logic.{◌≢◌, ◌⊎◌, inl, inr, ⊎_elim}
use mathlib.Core.List.{List, [], ◌∷◌, ◌++◌}
use Prim.Native.Nat.{ℕ, ◌+◌, ◌-◌, ◌*◌, ◌≤◌, ◌<◌}
use native.Mathlib.Omega.{arith}
use lib.ListN.{length, get_or, take, drop, set, length-append, length-drop, get_or-append}
use lib.Seq.{get_or-set_same, get_or-set_other, drop-set-lt, drop-set-add, take-set-le, drop_at, take_at, get_or-take, get_or-drop, get_or-append-add}
use lib.Seq.{length-take-le, ext_get_or}
use Rattle.modular_theory.proofs.Search.{le_or_lt}
use Rattle.queue_theory.specs.Layout.{cell_size, body_size, header_size, next_cell, first_free}
use Rattle.queue_theory.specs.Layout.{cell_body, header, set_next, set_first_free, set_body}

pub length_cell_body : (s : List ℕ) (i : ℕ) → (i + 1) * cell_size ≤ length s → length (cell_body s i) ≡ body_size
length_cell_body s i h = length-take-le body_size (drop (i * cell_size + 1) s) (omega (arith, length-drop (i * cell_size + 1) s))

-- cell 0 from byte 2 on
header_part : (s : List ℕ) → header s ≡ drop 1 (cell_body s 0)
header_part [] = refl
header_part (a ∷ []) = refl
header_part (a ∷ b ∷ s) = refl

-- it stays where the body of cell 0 does
pub header_same : (s s' : List ℕ) → cell_body s' 0 ≡ cell_body s 0 → header s' ≡ header s
header_same s s' e = header_part s' ∙ ap (drop 1) e ∙ sym (header_part s)

pub length_header : (s : List ℕ) → cell_size ≤ length s → length (header s) ≡ header_size
length_header s h = length-take-le header_size (drop 2 s) (omega (arith, length-drop 2 s))

-- a write outside a part leaves the part
part_set : (n m k x : ℕ) (l : List ℕ) → (k < n) ⊎ (n + m ≤ k) → take m (drop n (set l k x)) ≡ take m (drop n l)
part_set n m k x l (inl h) = ap (take m) (drop-set-lt n l k x h)
part_set n m k x l (inr h) =
    let e : k ≡ n + (k - n) = omega arith in
    ap (λ (z : ℕ). take m (drop n (set l z x))) e
    ∙ ap (take m) (drop-set-add n l (k - n) x)
    ∙ take-set-le m (drop n l) (k - n) x (omega arith)

-- a part replaced by one as long
module _ (s b : List ℕ) (n m : ℕ) (fits : n + m ≤ length s) (same : length b ≡ m) where
  abbrev replaced : List ℕ
  replaced = take n s ++ (b ++ drop m (drop n s))

  length_front : length (take n s) ≡ n
  length_front = length-take-le n s (omega arith)

  pub length_replaced : length replaced ≡ length s
  length_replaced =
      omega (
        arith,
        length-append (take n s) (b ++ drop m (drop n s)),
        length-append b (drop m (drop n s)),
        length-drop m (drop n s),
        length-drop n s,
        length_front,
      )

  pub get_d_outside : (k : ℕ) → (k < n) ⊎ (n + m ≤ k) → get_or replaced k 0 ≡ get_or s k 0
  get_d_outside k (inl h) =
      get_or-append (take n s) (b ++ drop m (drop n s)) 0 k (omega (arith, length_front)) ∙ get_or-take n s k 0 h
  get_d_outside k (inr h) =
      let r : ℕ = k - (n + m) in
      let e : k ≡ length (take n s) + (length b + r) = omega (arith, length_front) in
      let z : n + (m + r) ≡ k = omega arith in
      ap (λ (i : ℕ). get_or replaced i 0) e
      ∙ get_or-append-add (take n s) (b ++ drop m (drop n s)) (length b + r) 0
      ∙ get_or-append-add b (drop m (drop n s)) r 0
      ∙ get_or-drop m (drop n s) r 0
      ∙ get_or-drop n s (m + r) 0
      ∙ ap (λ (i : ℕ). get_or s i 0) z

  pub part_inside : take m (drop n replaced) ≡ b
  part_inside =
      ap (take m) (drop_at (take n s) (b ++ drop m (drop n s)) n length_front) ∙ take_at b (drop m (drop n s)) m same

  -- another part of the same length
  pub part_outside : (i : ℕ) → i + m ≤ length s → (i + m ≤ n) ⊎ (n + m ≤ i) → take m (drop i replaced) ≡ take m (drop i s)
  part_outside i h w =
      ext_get_or 0 (take m (drop i replaced)) (take m (drop i s)) (long replaced (omega (arith, length_replaced)) ∙ sym (long s h)) each
    where
      long : (l : List ℕ) → i + m ≤ length l → length (take m (drop i l)) ≡ m
      long l q = length-take-le m (drop i l) (omega (arith, length-drop i l))

      at : (l : List ℕ) (k : ℕ) → k < m → get_or (take m (drop i l)) k 0 ≡ get_or l (i + k) 0
      at l k q = get_or-take m (drop i l) k 0 q ∙ get_or-drop i l k 0

      away : (k : ℕ) → k < m → (i + k < n) ⊎ (n + m ≤ i + k)
      away k q = ⊎_elim (λ (v : i + m ≤ n). inl (omega arith)) (λ (v : n + m ≤ i). inr (omega arith)) w

      each : (k : ℕ) → k < length (take m (drop i replaced)) → get_or (take m (drop i replaced)) k 0 ≡ get_or (take m (drop i s)) k 0
      each k q =
          let v : k < m = omega (arith, long replaced (omega (arith, length_replaced))) in
          at replaced k v ∙ get_d_outside (i + k) (away k v) ∙ sym (at s k v)

-- Writes to byte 0 of cell i.
module _ (s : List ℕ) (i x : ℕ) where
  pub next_set : i * cell_size < length s → next_cell (set_next s i x) i ≡ x
  next_set h = get_or-set_same s (i * cell_size) x 0 h

  pub next_set_other : (j : ℕ) → j ≢ i → next_cell (set_next s i x) j ≡ next_cell s j
  next_set_other j h = get_or-set_other s (i * cell_size) (j * cell_size) x 0 (λ e. h (omega arith))

  pub first_free_set_next : first_free (set_next s i x) ≡ first_free s
  first_free_set_next = get_or-set_other s (i * cell_size) 1 x 0 (omega arith)

  pub body_set_next : (j : ℕ) → cell_body (set_next s i x) j ≡ cell_body s j
  body_set_next j = part_set (j * cell_size + 1) body_size (i * cell_size) x s (go (le_or_lt i j))
    where
      go : (i ≤ j) ⊎ (j < i) → (i * cell_size < j * cell_size + 1) ⊎ (j * cell_size + 1 + body_size ≤ i * cell_size)
      go (inl h) = inl (omega arith)
      go (inr h) = inr (omega arith)

-- Writes to byte 1 of cell 0.
module _ (s : List ℕ) (x : ℕ) where
  pub first_free_set : 1 < length s → first_free (set_first_free s x) ≡ x
  first_free_set h = get_or-set_same s 1 x 0 h

  pub next_set_free : (j : ℕ) → next_cell (set_first_free s x) j ≡ next_cell s j
  next_set_free j = get_or-set_other s 1 (j * cell_size) x 0 (omega arith)

  pub body_set_free : (j : ℕ) → j ≢ 0 → cell_body (set_first_free s x) j ≡ cell_body s j
  body_set_free j h = part_set (j * cell_size + 1) body_size 1 x s (inl (omega arith))

-- of cell 0 the bytes after it stay
pub header_set_free : (s : List ℕ) (x : ℕ) → header (set_first_free s x) ≡ header s
header_set_free [] x = refl
header_set_free (a ∷ []) x = refl
header_set_free (a ∷ b ∷ s) x = refl

-- Writes to the body of cell i.
module _ (s : List ℕ) (i : ℕ) (b : List ℕ) (fits : (i + 1) * cell_size ≤ length s) (same : length b ≡ body_size) where
  room : i * cell_size + 1 + body_size ≤ length s
  room = omega arith

  pub length_set_body : length (set_body s i b) ≡ length s
  length_set_body = length_replaced s b (i * cell_size + 1) body_size room same

  pub body_set : cell_body (set_body s i b) i ≡ b
  body_set = part_inside s b (i * cell_size + 1) body_size room same

  apart : (j : ℕ) → j ≢ i → (j * cell_size + 1 + body_size ≤ i * cell_size + 1) ⊎ (i * cell_size + 1 + body_size ≤ j * cell_size + 1)
  apart j h = go (le_or_lt i j)
    where
      go : (i ≤ j) ⊎ (j < i) → (j * cell_size + 1 + body_size ≤ i * cell_size + 1) ⊎ (i * cell_size + 1 + body_size ≤ j * cell_size + 1)
      go (inl k) = inr (omega arith)
      go (inr k) = inl (omega arith)

  pub body_set_other : (j : ℕ) → (j + 1) * cell_size ≤ length s → j ≢ i → cell_body (set_body s i b) j ≡ cell_body s j
  body_set_other j k h = part_outside s b (i * cell_size + 1) body_size room same (j * cell_size + 1) (omega arith) (apart j h)

  pub next_set_body : (j : ℕ) → next_cell (set_body s i b) j ≡ next_cell s j
  next_set_body j = get_d_outside s b (i * cell_size + 1) body_size room same (j * cell_size) (go (le_or_lt j i))
    where
      go : (j ≤ i) ⊎ (i < j) → (j * cell_size < i * cell_size + 1) ⊎ (i * cell_size + 1 + body_size ≤ j * cell_size)
      go (inl h) = inl (omega arith)
      go (inr h) = inr (omega arith)

  pub first_free_set_body : i ≢ 0 → first_free (set_body s i b) ≡ first_free s
  first_free_set_body h = get_d_outside s b (i * cell_size + 1) body_size room same 1 (inl (omega arith))
