-- Every odd position is raised once for each shift, and one more time from the index on: so α of a shift is known from the word's own
-- sum. The complement's α and the residue that stands for it make q - 1, so they lie equally far from the middle.
-- Assumes nothing.
use mathlib.Core.Path.{◌≡◌, refl, sym, ap, ◌∙◌}
use mathlib.Core.Bool.{Bool, true, false}
use mathlib.Core.List.{List, [], ◌∷◌}
use Prim.Native.Nat.{ℕ, zero, suc, ◌+◌, ◌-◌, ◌*◌, ◌/◌, ◌%◌, ◌≤◌, ◌<◌}
use native.Mathlib.Nat.{mod-lt, not-suc-le-zero, le_of_suc-le-suc}
use native.Mathlib.Omega.{arith}
use lib.Dec.{T, ltb, ltb→lt}
use lib.ListN.{length, length-map}
use Rattle.modular_theory.specs.Sum.{weight}
use Rattle.modular_theory.specs.Residue.{Congruent, minus}
use Rattle.modular_theory.proofs.Search.{and_left, and_right}
use Rattle.modular_theory.proofs.Residue.{◌then◌, of_eq, same, symm, reduce, add, multiple, scale, cancel, minus_add}
use Rattle.code_theory.specs.Parameters.{Edition, edition13, edition18, Parameters, in_edition, delta}
use Rattle.code_theory.specs.Component.{symbols_below}
use Rattle.code_theory.specs.Balance.{shifted, shifted_from}
use Rattle.code_theory.specs.Walk.{complement, unwalked}
use Rattle.code_theory.specs.Codeword.{alternate, alpha}
use Rattle.code_theory.proofs.Delta.{sum_exact}
use Rattle.peaks_theory.specs.Costs.{gap, check_offset, residue_at}
use Rattle.peaks_theory.proofs.Split.{mirrored}

-- how many of the first n positions `alternate` takes: the odd ones (true) or the even ones (false)
abbrev taken : Bool → ℕ → ℕ
taken true n = (n + 1) / 2
taken false n = n / 2

taken_none : (b : Bool) → taken b 0 ≡ 0
taken_none true = refl
taken_none false = refl

odd_next : (n : ℕ) → taken true (suc n) ≡ suc (taken false n)
odd_next n = omega arith

even_next : (n : ℕ) → taken false (suc n) ≡ taken true n
even_next n = omega arith

-- The sum over every other symbol of a shift.

shifted_sum : (q t : ℕ) (b : Bool) (d : List ℕ)
    → Congruent q (weight (alternate b (shifted q t d))) (weight (alternate b d) + taken b (length d) * t)
shifted_sum q t b [] = let e : 0 ≡ 0 + taken b 0 * t = rw taken_none (omega arith) in of_eq e
shifted_sum q t true (a ∷ d) =
    let x : ℕ = weight (alternate false d) in
    let e : a + t + (x + taken false (length d) * t) ≡ a + x + suc (taken false (length d)) * t = omega arith in
    add (reduce q (a + t)) (shifted_sum q t false d)
    then of_eq (e ∙ ap (λ (k : ℕ). a + x + k * t) (sym (odd_next (length d))))
shifted_sum q t false (a ∷ d) =
    shifted_sum q t true d then of_eq (ap (λ (k : ℕ). weight (alternate true d) + k * t) (sym (even_next (length d))))

shifted_from_sum : (q t : ℕ) (b : Bool) (i : ℕ) (d : List ℕ) → i ≤ length d
    → Congruent q (weight (alternate b (shifted_from q t i d)) + taken b i) (weight (alternate b d) + taken b (length d) * suc t)
shifted_from_sum q t b zero d l =
    let r : ℕ = weight (alternate b (shifted q (suc t) d)) in
    let e : r + taken b 0 ≡ r = rw taken_none (omega arith) in
    of_eq e then shifted_sum q (suc t) b d
shifted_from_sum q t b (suc i) [] l = absurd (not-suc-le-zero l)
shifted_from_sum q t true (suc i) (a ∷ d) l =
    let r : ℕ = weight (alternate false (shifted_from q t i d)) in
    let x : ℕ = weight (alternate false d) in
    let e : (a + t) % q + r + taken true (suc i) ≡ (a + t) % q + (r + taken false i) + 1 = omega (arith, odd_next i) in
    let f : a + t + (x + taken false (length d) * suc t) + 1 ≡ a + x + suc (taken false (length d)) * suc t = omega arith in
    of_eq e
    then add (add (reduce q (a + t)) (shifted_from_sum q t false i d (le_of_suc-le-suc l))) (same 1)
    then of_eq (f ∙ ap (λ (k : ℕ). a + x + k * suc t) (sym (odd_next (length d))))
shifted_from_sum q t false (suc i) (a ∷ d) l =
    let r : ℕ = weight (alternate true (shifted_from q t i d)) in
    of_eq (ap (λ (j : ℕ). r + j) (even_next i))
    then shifted_from_sum q t true i d (le_of_suc-le-suc l)
    then of_eq (ap (λ (k : ℕ). weight (alternate true d) + k * suc t) (sym (even_next (length d))))

-- so the residue is that of the sum over the odd positions and the offset
pub residue_is : (q : ℕ) (d : List ℕ) (offset first step t i : ℕ) → 1 ≤ q → i ≤ length d
    → Congruent q first (weight (alternate true d) + offset + (length d + 1) / 2) → Congruent q step ((length d + 1) / 2)
    → residue_at q first step t i ≡ (weight (alternate true (shifted_from q t i d)) + offset) % q
residue_is q d offset first step t i h l a b = (cancel j (of_eq gather then total then of_eq regroup then symm back)).same
  where
    j : ℕ
    j = (i + 1) / 2

    c : ℕ
    c = (length d + 1) / 2

    x : ℕ
    x = weight (alternate true d)

    w : ℕ
    w = weight (alternate true (shifted_from q t i d))

    gather : first + t * step + j * (q - 1) + j ≡ first + t * step + j * q
    gather = let e : q - 1 + 1 ≡ q = omega arith in omega (arith, ap (λ (n : ℕ). j * n) e)

    total : Congruent q (first + t * step + j * q) (x + offset + c + t * c)
    total = multiple q (first + t * step) j then add a (scale t b)

    regroup : x + offset + c + t * c ≡ x + c * suc t + offset
    regroup = omega arith

    back : Congruent q (w + offset + j) (x + c * suc t + offset)
    back =
        let e : w + offset + j ≡ w + j + offset = omega arith in
        of_eq e then add (shifted_from_sum q t true i d l) (same offset)

-- The complement.

alternate_complement : (q : ℕ) (b : Bool) (w : List ℕ) → T (symbols_below q w)
    → weight (alternate b (complement q w)) + weight (alternate b w) ≡ taken b (length w) * (q - 1)
alternate_complement q b [] l = rw taken_none (omega arith)
alternate_complement q true (y ∷ w) l =
    let k : y < q = ltb→lt y q (and_left (ltb y q) (symbols_below q w) l) in
    let e = alternate_complement q false w (and_right (ltb y q) (symbols_below q w) l) in
    rw odd_next (omega (arith, e))
alternate_complement q false (y ∷ w) l = rw even_next (alternate_complement q true w (and_right (ltb y q) (symbols_below q w) l))

-- c symbols that are q - 1, and c - 1 more
rounds : (q c : ℕ) → 1 ≤ q → 1 ≤ c → c * (q - 1) + (c - 1) ≡ q - 1 + (c - 1) * q
rounds q zero h l = absurd (not-suc-le-zero l)
rounds q (suc k) h l =
    let e : q - 1 + 1 ≡ q = omega arith in
    let f : suc k - 1 ≡ k = omega arith in
    rw f (omega (arith, ap (λ (n : ℕ). k * n) e))

-- α of the complement and the residue that stands for it
alpha_mirrored : (q : ℕ) (w : List ℕ) → 1 ≤ q → T (symbols_below q w) → 1 ≤ length w
    → let o : ℕ = minus q ((length w + 1) / 2 - 1) (delta q (length w)) in
    alpha q (complement q w) + (weight (alternate true w) + o) % q ≡ q - 1
unfolding alpha
alpha_mirrored q w h l some =
    let c : ℕ = (length w + 1) / 2 in
    let x : ℕ = weight (alternate true w) in
    let y : ℕ = weight (alternate true (complement q w)) in
    let δ : ℕ = delta q (length w) in
    let o : ℕ = minus q (c - 1) δ in
    let n : length (complement q w) ≡ length w = length-map w (λ a. q - 1 - a) in
    let e : y + δ + (x + o) ≡ y + x + (o + δ) = omega arith in
    rw n
    (sum_exact q ((y + δ) % q) ((x + o) % q) (mod-lt (y + δ) h) (mod-lt (x + o) h)
    (add (reduce q (y + δ)) (reduce q (x + o))
    then of_eq e
    then add (of_eq (alternate_complement q true w l)) (minus_add q (c - 1) δ h)
    then of_eq (rounds q c h (omega arith))
    then multiple q (q - 1) (c - 1)))

-- in both editions
pub alpha_gap : (p : Parameters) (w : List ℕ) → 1 ≤ p.q → T (symbols_below p.q w) → 1 ≤ length w
    → gap (2 * alpha p.q (unwalked p w)) (p.q - 1)
    ≡ gap (2 * ((weight (alternate true w) + check_offset p (length w)) % p.q)) (p.q - 1)
unfolding alpha
alpha_gap p w h l some = go p.edition
  where
    q : ℕ
    q = p.q

    go : (e : Edition)
        → gap (2 * alpha q (unwalked (in_edition e p) w)) (q - 1)
        ≡ gap (2 * ((weight (alternate true w) + check_offset (in_edition e p) (length w)) % q)) (q - 1)
    go edition13 = refl
    go edition18 =
        let a : ℕ = alpha q (complement q w) in
        let r : ℕ = (weight (alternate true w) + check_offset (in_edition edition18 p) (length w)) % q in
        let e : a + r ≡ q - 1 = alpha_mirrored q w h l some in
        let f : 2 * a + 2 * r ≡ q - 1 + (q - 1) = omega arith in
        mirrored (2 * a) (2 * r) (q - 1) (q - 1) f
