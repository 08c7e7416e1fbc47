-- What the syndrome of a component says: it is zero where the component is in code, and the column of a symbol where 1 taken from that
-- symbol makes it so.
-- Assumes nothing.
use mathlib.Core.Path.{◌≡◌, sym, subst, ◌∙◌}
use mathlib.Core.Logic.{◌⊎◌, inl, inr, ⊎_elim}
use mathlib.Core.List.{List}
use Prim.Native.Nat.{ℕ, ◌+◌, ◌*◌, ◌%◌, ◌≤◌, ◌<◌}
use native.Mathlib.Nat.{zero-mod, zero-add}
use native.Mathlib.Omega.{arith}
use lib.Dec.{T, eqb, eqb→eq}
use lib.ListN.{length, get_or}
use Rattle.modular_theory.specs.Search.{any_below}
use Rattle.modular_theory.specs.Sum.{dot}
use Rattle.modular_theory.specs.Residue.{Congruent, minus}
use Rattle.modular_theory.proofs.Search.{all_at, all_of, any_at, any_of, or_cases, or_left, or_right}
use Rattle.modular_theory.proofs.Residue.{of_eq, same, symm, ◌then◌, add, scale, cancel, minus_add}
use Rattle.modular_theory.proofs.Sum.{dot_set}
use Rattle.code_theory.specs.Parameters.{Parameters}
use Rattle.code_theory.specs.Component.{check_row, syndrome, in_code}
use Rattle.code_theory.specs.Codeword.{lowered, near_code}

-- every row sum of c is 0 mod q
abbrev pub Zero : Parameters → List ℕ → Type 0
Zero p c = (j : ℕ) → j < p.r → Congruent p.q (dot (check_row p j) c) 0

-- the row sums of c are the column of the symbol at index i
abbrev pub ColumnOf : Parameters → List ℕ → ℕ → Type 0
ColumnOf p c i = (j : ℕ) → j < p.r → Congruent p.q (dot (check_row p j) c) (check_row p j i)

pub code_zero : (p : Parameters) (c : List ℕ) → T (in_code p c) → Zero p c
unfolding in_code syndrome
code_zero p c h j l =
    record { same = eqb→eq _ 0 (all_at (λ j. eqb (dot (check_row p j) c % p.q) 0) p.r h j l) ∙ sym (zero-mod p.q) }

pub zero_code : (p : Parameters) (c : List ℕ) → Zero p c → T (in_code p c)
unfolding in_code syndrome
zero_code p c z =
    all_of (λ j. eqb (dot (check_row p j) c % p.q) 0) p.r
    (λ j l. subst (λ (x : ℕ). T (eqb x 0)) (sym ((z j l).same ∙ zero-mod p.q)) tt)

-- taking 1 from the symbol at i takes f i from a check f
pub dot_lowered : (q : ℕ) → 1 ≤ q → (f : ℕ → ℕ) (c : List ℕ) (i : ℕ) → i < length c → Congruent q (dot f (lowered q c i) + f i) (dot f c)
dot_lowered q h f c i l =
    let x : ℕ = get_or c i 0 in
    let y : ℕ = minus q x 1 in
    let e : dot f (lowered q c i) + f i + f i * y ≡ dot f (lowered q c i) + f i * (y + 1) = omega arith in
    cancel (f i * y) (of_eq e then add (same (dot f (lowered q c i))) (scale (f i) (minus_add q x 1 h)) then of_eq (dot_set f c i y l))

pub lowered_column : (p : Parameters) → 1 ≤ p.q → (c : List ℕ) (i : ℕ) → i < length c → T (in_code p (lowered p.q c i)) → ColumnOf p c i
lowered_column p h c i l k j m =
    let f : ℕ → ℕ = check_row p j in
    symm (dot_lowered p.q h f c i l) then add (code_zero p (lowered p.q c i) k j m) (same (f i)) then of_eq (zero-add (f i))

pub column_lowered : (p : Parameters) → 1 ≤ p.q → (c : List ℕ) (i : ℕ) → i < length c → ColumnOf p c i → T (in_code p (lowered p.q c i))
column_lowered p h c i l k =
    zero_code p (lowered p.q c i)
    (λ j m. let f : ℕ → ℕ = check_row p j in
    cancel (f i) (dot_lowered p.q h f c i l then k j m then of_eq (sym (zero-add (f i)))))

-- a component near the code has the zero syndrome or a column
pub near_cases : (p : Parameters) → 1 ≤ p.q → (c : List ℕ) → T (near_code p c) → Zero p c ⊎ ((i : ℕ) × (i < length c) × ColumnOf p c i)
unfolding near_code
near_cases p h c k =
    ⊎_elim (λ z. inl (code_zero p c z))
    (λ a. let (i, l, z) = any_at (λ i. in_code p (lowered p.q c i)) (length c) a in inr (i, l, lowered_column p h c i l z))
    (or_cases (in_code p c) (any_below (λ i. in_code p (lowered p.q c i)) (length c)) k)

pub zero_near : (p : Parameters) (c : List ℕ) → Zero p c → T (near_code p c)
unfolding near_code
zero_near p c z = or_left (in_code p c) _ (zero_code p c z)

pub column_near : (p : Parameters) → 1 ≤ p.q → (c : List ℕ) (i : ℕ) → i < length c → ColumnOf p c i → T (near_code p c)
unfolding near_code
column_near p h c i l k =
    or_right (in_code p c) _ (any_of (λ i. in_code p (lowered p.q c i)) (length c) i l (column_lowered p h c i l k))
