-- Two words that differ by e at index i and by -e at index j cannot both have components near the code: both syndromes would move, each
-- between zero and a column, in opposite ways, and the last rows do not allow that. What an edition brings is a sign of e.
-- Assumes nothing.
use mathlib.Core.Path.{◌≡◌, sym}
use mathlib.Core.Bool.{Bool, true, false}
use mathlib.Core.List.{List}
use Prim.Native.Nat.{ℕ, suc, ◌+◌, ◌-◌, ◌*◌, ◌<◌}
use native.Mathlib.Nat.{mul_comm}
use native.Mathlib.Omega.{arith}
use lib.ListN.{length}
use Rattle.modular_theory.specs.Sum.{dot}
use Rattle.modular_theory.specs.Residue.{Congruent, Invertible}
use Rattle.modular_theory.proofs.Residue.{of_eq, same, symm, ◌then◌, add, mul, scale, cancel, cancel_unit}
use Rattle.code_theory.specs.Parameters.{Parameters, Sized}
use Rattle.code_theory.specs.Component.{check_row}
use Rattle.code_theory.specs.Codeword.{differenced}
use Rattle.code_theory.proofs.Weights.{double, sign, sign_invertible, check_weight, dot_differenced}
use Rattle.code_theory.proofs.Syndrome.{Zero, ColumnOf}
use Rattle.code_theory.proofs.Columns.{q_positive, last_row, last_below, one_not_zero}

-- w' is w with e added mod q at i and taken mod q at j: what that does to every weighted sum
pub record Move (q : ℕ) (w w' : List ℕ) (e i j : ℕ) : Type 0 where
  pub sums : (f : ℕ → ℕ) → Congruent q (dot f w' + f j * e) (dot f w + f i * e)

-- what is the same before and after has the same weight at both indices, where e has an inverse
same_weight : {q e x x' a a' : ℕ} → Invertible q e → Congruent q (x' + a' * e) (x + a * e) → Congruent q x x' → Congruent q a' a
same_weight {q} {e} {x} {x'} {a} {a'} u m k =
    let c : x' + a' * e ≡ a' * e + x' = omega arith in
    let d : x + a * e ≡ a * e + x = omega arith in
    cancel_unit u
    (of_eq (mul_comm e a') then cancel x' (of_eq (sym c) then m then of_eq d then add (same (a * e)) k) then of_eq (mul_comm a e))

pub move_weight : {q : ℕ} {w w' : List ℕ} {e i j : ℕ} → Move q w w' e i j → Invertible q e → (f : ℕ → ℕ) → Congruent q (dot f w) (dot f w')
    → Congruent q (f j) (f i)
move_weight m u f k = same_weight u (m.sums f) k

-- a component with the column of one of its symbols for a syndrome
abbrev pub Column : Parameters → List ℕ → Type 0
Column p c = (i : ℕ) × (i < length c) × ColumnOf p c i

-- two components: both in code, or one of them and the other with a column for a syndrome
pub data Near (p : Parameters) (c d : List ℕ) : Type 0 where
  neither : Zero p c → Zero p d → Near p c d
  first : Column p c → Zero p d → Near p c d
  second : Zero p c → Column p d → Near p c d

-- those of the word w, as differencing gives them
abbrev pub NearIn : Parameters → List ℕ → Type 0
NearIn p w = Near p (differenced p true w) (differenced p false w)

-- the weight of row k of component b at index t
abbrev pub row_weight : Parameters → Bool → ℕ → ℕ → ℕ
row_weight p b k = check_weight p b (check_row p k)

-- the weight of the last row
abbrev pub last_weight : Parameters → Bool → ℕ → ℕ
last_weight p b = row_weight p b (p.r - 1)

-- the weights of both last rows together
abbrev pub both_last : Parameters → ℕ → ℕ
both_last p t = last_weight p true t + last_weight p false t

-- the indices i and j weigh the same in every row of component b
abbrev pub SameWeights : Parameters → Bool → ℕ → ℕ → Type 0
SameWeights p b i j = (k : ℕ) → k < p.r → Congruent p.q (row_weight p b k j) (row_weight p b k i)

-- what the indices i and j of one parity bring: their weights differ in each component, and the last rows tell i and j apart in
-- neither component if their sum does not
pub record ToldApart (p : Parameters) (i j : ℕ) : Type 0 where
  pub differ : (b : Bool) → SameWeights p b i j → ⊥
  pub last : Congruent p.q (both_last p j) (both_last p i) → Congruent p.q (last_weight p true j) (last_weight p true i)

-- every row is 0, and the last row is 1, as a column's is
abbrev pub ZeroRows : Parameters → (ℕ → ℕ) → Type 0
ZeroRows p x = (k : ℕ) → k < p.r → Congruent p.q (x k) 0

abbrev pub LastOne : Parameters → (ℕ → ℕ) → Type 0
LastOne p x = Congruent p.q (x (p.r - 1)) 1

-- the rows of two syndromes, the first component's (true) and the second's: both zero, or one of them and the other with a last row 1
pub data NearRows (p : Parameters) (x : Bool → ℕ → ℕ) : Type 0 where
  neither : ZeroRows p (x true) → ZeroRows p (x false) → NearRows p x
  first : LastOne p (x true) → ZeroRows p (x false) → NearRows p x
  second : ZeroRows p (x true) → LastOne p (x false) → NearRows p x

-- the rows x' are the rows x with e added mod q at index i of the word and taken mod q at index j
pub record Shift (p : Parameters) (x x' : Bool → ℕ → ℕ) (e i j : ℕ) : Type 0 where
  pub rows : (b : Bool) (k : ℕ) → k < p.r → Congruent p.q (x' b k + row_weight p b k j * e) (x b k + row_weight p b k i * e)

-- the argument on syndromes alone
module _ (p : Parameters) (s : Sized p) {x x' : Bool → ℕ → ℕ} {e i j : ℕ} (m : Shift p x x' e i j) (u : Invertible p.q e)
    (t : ToldApart p i j) where
  -- no syndrome is zero before and after
  not_both : (b : Bool) → ZeroRows p (x b) → ZeroRows p (x' b) → ⊥
  not_both b z z' = t.differ b (λ k h. same_weight u (m.rows b k h) (z k h then symm (z' k h)))

  zero_last : (y : ℕ → ℕ) → ZeroRows p y → Congruent p.q (y (p.r - 1)) 0
  zero_last y z = z (p.r - 1) (last_below p s)

  -- where one syndrome is a column and the other zero, before and after, the last rows do not move
  last_kept : Congruent p.q (x true (p.r - 1) + x false (p.r - 1)) 1 → Congruent p.q (x' true (p.r - 1) + x' false (p.r - 1)) 1
      → Congruent p.q (x' true (p.r - 1)) (x true (p.r - 1))
  last_kept h h' =
      let y : ℕ = x true (p.r - 1) in
      let z : ℕ = x false (p.r - 1) in
      let y' : ℕ = x' true (p.r - 1) in
      let z' : ℕ = x' false (p.r - 1) in
      let a : ℕ = last_weight p true i in
      let b : ℕ = last_weight p false i in
      let a' : ℕ = last_weight p true j in
      let b' : ℕ = last_weight p false j in
      let lhs : e * (a' + b') + (y' + z') ≡ y' + a' * e + (z' + b' * e) = omega arith in
      let rhs : y + a * e + (z + b * e) ≡ e * (a + b) + (y + z) = omega arith in
      let move : (c : Bool) → Congruent p.q (x' c (p.r - 1) + last_weight p c j * e) (x c (p.r - 1) + last_weight p c i * e) =
      λ c. m.rows c (p.r - 1) (last_below p s) in
      let moved : Congruent p.q (e * (a' + b') + 1) (e * (a + b) + 1) =
      add (same (e * (a' + b'))) (symm h') then of_eq lhs then add (move true) (move false)
      then of_eq rhs then add (same (e * (a + b))) h in
      let equal : Congruent p.q a' a = t.last (cancel_unit u (cancel 1 moved)) in
      cancel (a' * e) (move true then add (same y) (symm (mul equal (same e))))

  pub no_shift : NearRows p x → NearRows p x' → ⊥
  no_shift (neither a b) (neither c d) = not_both true a c
  no_shift (neither a b) (first c d) = not_both false b d
  no_shift (neither a b) (second c d) = not_both true a c
  no_shift (first a b) (neither c d) = not_both false b d
  no_shift (first a b) (first c d) = not_both false b d
  no_shift (first a b) (second c d) =
      one_not_zero p s
      (symm a
      then symm (last_kept (add a (zero_last (x false) b)) (add (zero_last (x' true) c) d))
      then zero_last (x' true) c)
  no_shift (second a b) (neither c d) = not_both true a c
  no_shift (second a b) (first c d) =
      one_not_zero p s
      (symm c
      then last_kept (add (zero_last (x true) a) b) (add c (zero_last (x' false) d))
      then zero_last (x true) a)
  no_shift (second a b) (second c d) = not_both true a c

-- the rows of two components
abbrev rows_of : Parameters → (Bool → List ℕ) → Bool → ℕ → ℕ
rows_of p c b k = dot (check_row p k) (c b)

near_rows : (p : Parameters) → Sized p → (c : Bool → List ℕ) → Near p (c true) (c false) → NearRows p (rows_of p c)
near_rows p s c h = go h
  where
    last : (b : Bool) → Column p (c b) → LastOne p (rows_of p c b)
    last b a = a.2 (p.r - 1) (last_below p s) then of_eq (last_row p a.0)

    go : Near p (c true) (c false) → NearRows p (rows_of p c)
    go (neither a b) = neither a b
    go (first a b) = first (last true a) b
    go (second a b) = second a (last false b)

pub no_move : (p : Parameters) → Sized p → {w w' : List ℕ} {e i j : ℕ} → Move p.q w w' e i j → Invertible p.q e
    → length w ≡ suc (double p.n) → length w' ≡ suc (double p.n) → ToldApart p i j
    → NearIn p w → NearIn p w' → ⊥
no_move p s {w} {w'} {e} {i} {j} m u l l' t a a' =
    no_shift p s shift (sign_invertible p (q_positive p s) u) t (near_rows p s (parts w) a) (near_rows p s (parts w') a')
  where
    parts : List ℕ → Bool → List ℕ
    parts v b = differenced p b v

    row_is : (b : Bool) (k : ℕ) (v : List ℕ) → length v ≡ suc (double p.n)
        → Congruent p.q (rows_of p (parts v) b k) (sign p * dot (row_weight p b k) v)
    row_is b k v h = dot_differenced p (q_positive p s) b (check_row p k) v h

    -- the rows move by the change with the edition's sign
    shift : Shift p (rows_of p (parts w)) (rows_of p (parts w')) (sign p * e) i j
    shift =
        record {
          rows = λ b k h.
              let f : ℕ → ℕ = row_weight p b k in
              let out : (v : List ℕ) (t : ℕ) → sign p * dot f v + f t * (sign p * e) ≡ sign p * (dot f v + f t * e) = λ v t. omega arith in
              add (row_is b k w' l') (same (f j * (sign p * e))) then of_eq (out w' j) then scale (sign p) (m.sums f)
              then of_eq (sym (out w i)) then add (symm (row_is b k w l)) (same (f i * (sign p * e)));
        }
