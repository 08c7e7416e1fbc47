-- What the number of an order of refusals says of its tests, and what the tests say of the number.
-- Assumes nothing.
use mathlib.Core.Path.{◌≡◌, refl, sym, ap, ◌∙◌}
use mathlib.Core.Logic.{◌≢◌}
use mathlib.Core.Bool.{Bool, true, false, not, ◌&&◌}
use mathlib.Core.List.{List, [], ◌∷◌, ◌++◌, append-nil}
use Prim.Native.Nat.{ℕ, zero, suc, ◌≤◌, zero-le}
use native.Mathlib.Nat.{suc-ne-zero}
use lib.Dec.{T, eqb, leb, leb→le}
use borrow.Author.Tests.{eq-eqb}
use Rattle.modular_theory.proofs.Search.{and_left, and_right}
use Rattle.code_theory.specs.Refusal.{Test, asks, first_refusal, on_success}

-- every test passes
abbrev pub AllPass : List Test → Type 0
AllPass [] = Unit {0}
AllPass (t ∷ ts) = T t.passes × AllPass ts

-- no test has the number k
abbrev pub absent : ℕ → List Test → Bool
absent k [] = true
absent k (t ∷ ts) = not (eqb t.number k) && absent k ts

-- no test has a number past k
abbrev pub up_to : ℕ → List Test → Bool
up_to k [] = true
up_to k (t ∷ ts) = leb t.number k && up_to k ts

other : {a b : ℕ} → T (not (eqb a b)) → a ≢ b
other {a} {b} h e = rw (eq-eqb a b e) at h

-- one test, before what the later ones say
step_passed : (b : Bool) {n later k : ℕ} → n ≢ k → elim b as (λ _. ℕ) [ true ↦ later | false ↦ n ] ≡ k → T b × (later ≡ k)
step_passed true d e = (tt, e)
step_passed false d e = absurd (d e)

step_past : (b : Bool) (n later : ℕ) → T b → elim b as (λ _. ℕ) [ true ↦ later | false ↦ n ] ≡ later
step_past true n later h = refl
step_past false n later h = absurd h

-- x and y are what the later tests say with and without some more
step_refused : (b : Bool) (n : ℕ) {x y : ℕ} → (y ≢ 0 → x ≡ y) → ◌≢◌ {A = ℕ} (elim b [ true ↦ y | false ↦ n ]) 0
    → ◌≡◌ {A = ℕ} (elim b [ true ↦ x | false ↦ n ]) (elim b [ true ↦ y | false ↦ n ])
step_refused true n h d = h d
step_refused false n h d = refl

step_most : (b : Bool) {n later k : ℕ} → n ≤ k → later ≤ k → elim b as (λ _. ℕ) [ true ↦ later | false ↦ n ] ≤ k
step_most true h l = l
step_most false h l = h

-- where a number is none of the first tests', these pass, and it is the number of the later ones
pub passed : (first later : List Test) {k : ℕ} → T (absent k first) → first_refusal (first ++ later) ≡ k
    → AllPass first × (first_refusal later ≡ k)
passed [] later a e = (tt, e)
passed (t ∷ ts) later {k} a e =
    let (here, rest) = step_passed t.passes (other (and_left (not (eqb t.number k)) (absent k ts) a)) e in
    let (all, is) = passed ts later (and_right (not (eqb t.number k)) (absent k ts) a) rest in
    ((here, all), is)

-- where no number refuses, every test passes; and no number is given that no test has
pub passed_every : (ts : List Test) → T (absent 0 ts) → first_refusal ts ≡ 0 → AllPass ts
passed_every ts a e = (passed ts [] a (ap first_refusal (append-nil ts) ∙ e)).0

pub never_refuses : (ts : List Test) {k : ℕ} → T (absent (suc k) ts) → first_refusal ts ≡ suc k → ⊥
never_refuses ts a e = suc-ne-zero _ (sym (passed ts [] a (ap first_refusal (append-nil ts) ∙ e)).1)

-- nor one past all of theirs
pub number_most : (k : ℕ) (ts : List Test) → T (up_to k ts) → first_refusal ts ≤ k
number_most k [] h = zero-le
number_most k (t ∷ ts) h =
    step_most t.passes (leb→le t.number k (and_left (leb t.number k) (up_to k ts) h))
    (number_most k ts (and_right (leb t.number k) (up_to k ts) h))

-- where the first tests pass, the number is that of the later ones
pub past : (first later : List Test) → AllPass first → first_refusal (first ++ later) ≡ first_refusal later
past [] later h = refl
past (t ∷ ts) later h = step_past t.passes t.number (first_refusal (ts ++ later)) h.0 ∙ past ts later h.1

-- and so it is where no number of theirs refuses
pub past_none : (first later : List Test) → T (absent 0 first) → first_refusal first ≡ 0 → first_refusal (first ++ later) ≡ first_refusal later
past_none first later a e = past first later (passed_every first a e)

-- and where the next one fails, it is that one's
pub stops : (first : List Test) (t : Test) (later : List Test) → AllPass first → t.passes ≡ false
    → first_refusal (first ++ (t ∷ later)) ≡ t.number
stops first t later h f = past first (t ∷ later) h ∙ rw f

-- a number of the first tests stands, whatever the later ones say
pub refused_first : (first later : List Test) → first_refusal first ≢ 0 → first_refusal (first ++ later) ≡ first_refusal first
refused_first [] later d = absurd (d refl)
refused_first (t ∷ ts) later d = step_refused t.passes t.number (refused_first ts later) d

-- the number of a test that stands alone says that it failed
pub failed : (b : Bool) (n : ℕ) → n ≢ 0 → first_refusal (asks b n ∷ []) ≡ n → b ≡ false
failed true n d e = absurd (d (sym e))
failed false n d e = refl

-- a buffer at exit, by the number
pub kept : {A : Type 0} (n : ℕ) (written before : A) → n ≢ 0 → before ≡ on_success n written before
kept zero written before d = absurd (d refl)
kept (suc n) written before d = refl

pub wrote : {A : Type 0} (n : ℕ) (written before : A) → n ≡ 0 → written ≡ on_success n written before
wrote n written before e = rw e
