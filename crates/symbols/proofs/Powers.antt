-- The check positions by a running power of q: the first power that is not below a position tells whether it holds a check symbol.
-- Assumes nothing.
use mathlib.Core.Path.{◌≡◌, refl, sym, ap, ◌∙◌}
use mathlib.Core.Logic.{◌≢◌, ⊎_elim}
use mathlib.Core.Bool.{Bool, true, false, ◌||◌}
use Prim.Native.Nat.{ℕ, suc, ◌+◌, ◌-◌, ◌*◌, ◌^◌, ◌≤◌, ◌<◌}
use native.Mathlib.Nat.{pow-zero, pow-suc, pow-le-pow_right, not-suc-le-zero, mul-le-mul, mul-le-mul_left, lt_of_not-le, not-le_of_lt}
use native.Mathlib.Omega.{arith}
use lib.Dec.{T, eqb, eqb→eq, eqb_refl}
use borrow.Author.Tests.{eq-eqb, ne_eqb}
use Rattle.modular_theory.specs.Search.{any_below}
use Rattle.modular_theory.proofs.Search.{le_or_lt, le_of_not_lt, same_test, any_at, any_of}
use Rattle.code_theory.specs.Parameters.{Parameters}
use Rattle.code_theory.specs.Component.{is_check}

-- p has q levels, and r - 1 digits are enough for the number i
pub record Spans (p : Parameters) (q i : ℕ) : Type 0 where
  pub levels : p.q ≡ q
  pub room : i < q ^ (p.r - 1)

-- `power` is the first power of q that is not below the position
pub record Ahead (q position power : ℕ) : Type 0 where
  pub exponent : ℕ
  pub is : power ≡ q ^ exponent
  pub smaller : (l : ℕ) → l < exponent → q ^ l < position
  pub from : position ≤ power
  pub some : 1 ≤ power
  -- of at most 15 levels and 48 positions
  pub small : power ≤ 48 * 15

pub ahead_first : (q : ℕ) → Ahead q 1 1
ahead_first q =
    record {
      exponent = 0;
      is = sym (pow-zero q);
      smaller = λ l h. absurd (not-suc-le-zero h);
      from = omega arith;
      some = omega arith;
      small = omega arith;
    }

module _ {q position power : ℕ} (two : 2 ≤ q) (a : Ahead q position power) where
  -- the position after a power has the next power ahead
  pub ahead_power : position ≡ power → q ≤ 15 → position ≤ 48 → Ahead q (position + 1) (power * q)
  ahead_power e h k =
      let b : power ≤ 48 = omega arith in
      let g : power * 2 ≤ power * q = mul-le-mul_left power two in
      record {
        exponent = suc a.exponent;
        is = ap (λ (x : ℕ). x * q) a.is ∙ sym (pow-suc q a.exponent);
        smaller = λ i l. ⊎_elim (λ (m : a.exponent ≤ i). at i (omega arith)) (below i) (le_or_lt a.exponent i);
        from = omega (arith, a.some);
        some = omega (arith, a.some);
        small = mul-le-mul b h;
      }
    where
      at : (i : ℕ) → i ≡ a.exponent → q ^ i < position + 1
      at i f = rw (f, ← a.is) (omega arith)

      below : (i : ℕ) → i < a.exponent → q ^ i < position + 1
      below i m = let s : q ^ i < position = a.smaller i m in omega arith

  -- after any other it stays
  pub ahead_other : position ≢ power → Ahead q (position + 1) power
  ahead_other d =
      record {
        exponent = a.exponent;
        is = a.is;
        smaller = λ i l. let s : q ^ i < position = a.smaller i l in omega arith;
        from = omega (arith, d, a.from);
        some = a.some;
        small = a.small;
      }

  -- the powers of q below q^(r-1) that are the position
  power_only : (r : ℕ) → position < q ^ (r - 1) → eqb position power ≡ any_below (λ j. eqb position (q ^ j)) (r - 1)
  power_only r within = same_test (eqb position power) (any_below test (r - 1)) to back
    where
      test : ℕ → Bool
      test j = eqb position (q ^ j)

      to : T (eqb position power) → T (any_below test (r - 1))
      to h =
          let e : position ≡ q ^ a.exponent = eqb→eq position power h ∙ a.is in
          let k : a.exponent < r - 1 =
          lt_of_not-le (λ (g : r - 1 ≤ a.exponent). not-le_of_lt within (rw e (pow-le-pow_right {n = q} (omega arith) g))) in
          any_of test (r - 1) a.exponent k (rw e (eqb_refl (q ^ a.exponent)))

      back : T (any_below test (r - 1)) → T (eqb position power)
      back h =
          let (j, k, t) = any_at test (r - 1) h in
          let e : position ≡ q ^ j = eqb→eq position (q ^ j) t in
          let low : a.exponent ≤ j = le_of_not_lt (λ (g : j < a.exponent). not-le_of_lt (a.smaller j g) (omega arith)) in
          let high : power ≤ q ^ j = rw a.is (pow-le-pow_right {n = q} (omega arith) low) in
          let f : position ≡ power = omega (arith, a.from) in
          rw f (eqb_refl power)

  -- whether the position holds a check symbol, whatever r is
  pub ahead_check : (p : Parameters) → Spans p q position → (eqb position 2 || eqb position power) ≡ is_check p position
  unfolding is_check
  ahead_check p within = rw within.levels (ap (λ (b : Bool). eqb position 2 || b) (power_only p.r within.room))

  -- by the tests as the code makes them
  pub check_two : position ≡ 2 → (p : Parameters) → Spans p q position → is_check p position ≡ true
  check_two e p within = sym (ahead_check p within) ∙ ap (λ (b : Bool). b || eqb position power) (eq-eqb position 2 e)

  pub check_power : position ≡ power → (p : Parameters) → Spans p q position → is_check p position ≡ true
  check_power e p within =
      sym (ahead_check p within) ∙ ap (λ (b : Bool). eqb position 2 || b) (eq-eqb position power e) ∙ or_true (eqb position 2)
    where
      or_true : (b : Bool) → (b || true) ≡ true
      or_true true = refl
      or_true false = refl

  pub check_neither : position ≢ 2 → position ≢ power → (p : Parameters) → Spans p q position → is_check p position ≡ false
  check_neither d e p within =
      sym (ahead_check p within) ∙ ap (λ (b : Bool). b || eqb position power) (ne_eqb position 2 d) ∙ ne_eqb position power e
