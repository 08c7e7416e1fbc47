-- From one choice to the next: the weight and the excess of the choice s, v, from v to v + 1.
-- Assumes nothing.
use mathlib.Core.Path.{◌≡◌, sym, ap, ap₂, ◌∙◌}
use mathlib.Core.Logic.{◌≢◌, ⊎_elim}
use mathlib.Core.List.{List, [], ◌∷◌}
use Prim.Native.Nat.{ℕ, zero, suc, ◌+◌, ◌-◌, ◌*◌, ◌%◌, ◌≤◌, ◌<◌, zero-le}
use native.Mathlib.Nat.{mul-le-mul, mod-lt, mod-eq_of_lt, mod_self, add-mod_left}
use native.Mathlib.Omega.{arith}
use native.Mathlib.Decide.{ℕ_discrete}
use lib.IntN.{ℤ, pos, ◌+ℤ◌, ◌-ℤ◌}
use lib.ListN.{length, get_or, set, replicate}
use lib.Seq.{get_or-set_same, get_or-set_other}
use mir.Syntax.{w32}
use mir.Val.{SFits, to_z, of_z}
use Rattle.modular_theory.specs.Sum.{weight}
use Rattle.modular_theory.proofs.Search.{le_or_lt}
use Rattle.modular_theory.proofs.Integer.{difference_within, difference_more, take_away}
use Rattle.code_theory.specs.Parameters.{balancing_value}
use Rattle.code_theory.specs.Balance.{shifted, shifted_from}
use Rattle.code_theory.proofs.Balance.{weight_step}
use Rattle.modular.proofs.Signed.{Holds, read, value, Computes, held, fits_within}
use Rattle.symbols.proofs.Words.{zeros_at}

-- the weight of the choice s, i + 1; past the last position nothing is added but s
abbrev pub weight_at : ℕ → List ℕ → ℕ → ℕ → ℕ
weight_at q d s i = weight (shifted_from q s i d)

-- The weight.

-- 1 more is 1 more, unless q comes round
rises : {q a s : ℕ} → a < q → s < q → a ≢ q - 1 - s → (a + suc s) % q ≡ suc ((a + s) % q)
rises {q} {a} {s} h k d =
    ⊎_elim
    (λ (g : q ≤ a + s).
    let b : ℕ = a + s - q in
    let u : b < q = omega arith in
    let v : suc b < q = omega arith in
    let e : a + s ≡ q + b = omega arith in
    let f : a + suc s ≡ q + suc b = omega arith in
    ap (λ (n : ℕ). n % q) f ∙ add-mod_left q (suc b) ∙ mod-eq_of_lt v
    ∙ ap suc (sym (ap (λ (n : ℕ). n % q) e ∙ add-mod_left q b ∙ mod-eq_of_lt u)))
    (λ (g : a + s < q).
    let v : a + suc s < q = omega (arith, d) in
    let f : a + suc s ≡ suc (a + s) = omega arith in
    mod-eq_of_lt v ∙ f ∙ ap suc (sym (mod-eq_of_lt g)))
    (le_or_lt q (a + s))

-- which it does at the symbol q - 1 - s
comes_round : {q a s : ℕ} → s < q → a ≡ q - 1 - s → ((a + suc s) % q ≡ 0) × ((a + s) % q ≡ q - 1)
comes_round {q} {a} {s} k e =
    let f : a + suc s ≡ q = omega arith in
    let g : a + s ≡ q - 1 = omega arith in
    let l : q - 1 < q = omega arith in
    (ap (λ (n : ℕ). n % q) f ∙ mod_self q, ap (λ (n : ℕ). n % q) g ∙ mod-eq_of_lt l)

-- the weight gains q where the symbol at v of the choice s, v is 0, and loses 1
abbrev pub gains : ℕ → ℕ → List ℕ
gains q s = set (replicate 16 0) (q - 1 - s) q

gain_top : (q s : ℕ) → q ≤ 15 → get_or (gains q s) (q - 1 - s) 0 ≡ q
gain_top q s h = get_or-set_same (replicate 16 0) (q - 1 - s) q 0 (omega arith)

gain_other : (q s y : ℕ) → y ≢ q - 1 - s → get_or (gains q s) y 0 ≡ 0
gain_other q s y n = get_or-set_other (replicate 16 0) (q - 1 - s) y q 0 n ∙ zeros_at 16 y

pub weight_next : (q s : ℕ) (d : List ℕ) (i : ℕ) → q ≤ 15 → s < q → i < length d → get_or d i 0 < q
    → {g : ℕ} → g ≡ get_or (gains q s) (get_or d i 0) 0 → weight_at q d s i + g ≡ suc (weight_at q d s (suc i))
weight_next q s d i levels below l symbol {g} e = go (ℕ_discrete (get_or d i 0) (q - 1 - s))
  where
    go : Dec (get_or d i 0 ≡ q - 1 - s) → weight_at q d s i + g ≡ suc (weight_at q d s (suc i))
    go (yes z) =
        let f : g ≡ q = e ∙ ap (λ (y : ℕ). get_or (gains q s) y 0) z ∙ gain_top q s levels in
        omega (arith, weight_step q s i d l, comes_round {a = get_or d i 0} below z)
    go (no n) =
        let f : g ≡ 0 = e ∙ gain_other q s (get_or d i 0) n in
        omega (arith, weight_step q s i d l, rises symbol below n)

module _ (q : ℕ) (h : 1 ≤ q) where
  shifted_bound : (s : ℕ) (d : List ℕ) → weight (shifted q s d) ≤ length d * q
  shifted_bound s [] = zero-le
  shifted_bound s (a ∷ d) = omega (arith, shifted_bound s d, mod-lt (a + s) h)

  shifted_from_bound : (s i : ℕ) (d : List ℕ) → weight (shifted_from q s i d) ≤ length d * q
  shifted_from_bound s zero d = shifted_bound (suc s) d
  shifted_from_bound s (suc i) [] = zero-le
  shifted_from_bound s (suc i) (a ∷ d) = omega (arith, shifted_from_bound s i d, mod-lt (a + s) h)

  -- 97 symbols of at most 15 levels
  pub weight_small : (d : List ℕ) (s i : ℕ) → q ≤ 15 → length d ≤ 97 → weight_at q d s i ≤ 1455
  weight_small d s i l k = omega (arith, shifted_from_bound s i d, mul-le-mul k l)

-- The excess.

-- what the choice s, i + 1 weighs less the balancing value
abbrev pub excess_at : ℕ → List ℕ → ℕ → ℕ → ℤ
excess_at q d s i = pos (weight_at q d s i) -ℤ pos (balancing_value q (length d))

-- `excess` are that number's bits, and the weight of the next choice has the gain more and 1 less
pub record Stepping (q : ℕ) (d : List ℕ) (s i excess gain : ℕ) : Type 0 where
  pub is : to_z w32 excess ≡ excess_at q d s i
  pub gained : weight_at q d s i + gain ≡ suc (weight_at q d s (suc i))
  pub small : weight_at q d s (suc i) ≤ 1455
  pub narrow : balancing_value q (length d) ≤ 65535

module _ {q : ℕ} {d : List ℕ} {s i excess gain : ℕ} (h : Stepping q d s i excess gain) where
  abbrev next : ℕ
  next = weight_at q d s (suc i)

  abbrev target : ℕ
  target = balancing_value q (length d)

  fits : (n : ℕ) → n ≤ 65535 → SFits w32 (pos n -ℤ pos target)
  fits n l = fits_within 65535 tt (difference_within 65535 n target l h.narrow)

  pub gain_held : Holds w32 gain (pos gain)
  gain_held = value {z = pos gain} (fits_within 65535 tt (omega (arith, h.gained, h.small)))

  pub excess_gained : Computes w32 (to_z w32 excess +ℤ to_z w32 gain) (pos (suc next) -ℤ pos target)
  excess_gained =
      record {
        is =
            ap₂ (λ (x y : ℤ). x +ℤ y) h.is (read gain_held)
            ∙ difference_more (weight_at q d s i) target gain
            ∙ ap (λ (n : ℕ). pos n -ℤ pos target) h.gained;
        fits = fits (suc next) (omega (arith, h.small));
      }

  pub excess_next : Computes w32 (to_z w32 (of_z w32 (to_z w32 excess +ℤ to_z w32 gain)) -ℤ pos 1) (excess_at q d s (suc i))
  excess_next =
      let e : suc next ≡ next + 1 = omega arith in
      record {
        is =
            ap (λ (z : ℤ). z -ℤ pos 1) (read (held excess_gained))
            ∙ take_away (pos (suc next) -ℤ pos target) (pos 1) (excess_at q d s (suc i))
            (ap (λ (n : ℕ). pos n -ℤ pos target) e ∙ sym (difference_more next target 1));
        fits = fits next (omega (arith, h.small));
      }
