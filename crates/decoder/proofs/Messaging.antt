-- Both messages of an array of components: run by run, with the powers of q left out.
-- Assumes nothing.
use mathlib.Core.Path.{◌≡◌, refl, sym, ap, ◌∙◌}
use mathlib.Core.Bool.{Bool, true, false}
use mathlib.Core.List.{List}
use Prim.Native.Nat.{ℕ, ◌+◌, ◌-◌, ◌*◌, ◌≤◌, ◌<◌}
use native.Mathlib.Nat.{one-mul, mul-le-mul, mul-le-mul_left}
use native.Mathlib.Omega.{arith}
use lib.ListN.{length, get_or, take}
use lib.Seq.{take_all}
use Rattle.code_theory.specs.Component.{message}
use Rattle.profiles.specs.declared.row.Row.{Row}
use Rattle.profiles.specs.Row.{parameters, Valid}
use Rattle.symbols.specs.Syndromes.{part}
use Rattle.symbols.proofs.Parts.{part_first, part_second, part_length, part_size}
use Rattle.symbols.proofs.Powers.{Ahead, ahead_first, ahead_power, check_two, check_power, check_neither}
use Rattle.decoder.specs.Outputs.{copied_run, Outputs, Messages}
use Rattle.decoder.proofs.Extracting.{Bears, Extracting, extracting_none, extracting_skip, extracting_run, run_room, extracting_all}

-- the power stays ahead of later positions up to it
ahead_later : {q position power : ℕ} → Ahead q position power → (later : ℕ) → position ≤ later → later ≤ power → Ahead q later power
ahead_later p later h l =
    record {
      exponent = p.exponent;
      is = p.is;
      smaller = λ i m. let s = p.smaller i m in omega arith;
      from = l;
      some = p.some;
      small = p.small;
    }

-- the symbols at the indices below i are passed, and `power` is the check position that comes next
pub record Passed (q n : ℕ) (x first₀ second₀ first second : List ℕ) (power i next : ℕ) : Type 0 where
  pub ahead : Ahead q (i + 1) power
  pub from : 2 ≤ i
  pub one : Extracting q n (part true n x) first₀ first next i
  pub two : Extracting q n (part false n x) second₀ second next i

-- what extraction is given: a row, its q as the code widens it, an array of components, and outputs that a message each fits
pub record Given (t : Row) (q : ℕ) (x first₀ second₀ : List ℕ) : Type 0 where
  pub valid : Valid t
  pub same : q ≡ t.q
  pub size : length x ≡ 97
  pub outputs : Outputs t first₀ second₀

module _ {t : Row} {q : ℕ} {x first₀ second₀ : List ℕ} (given : Given t q x first₀ second₀) where
  abbrev v : Valid t
  v = given.valid

  levels : 3 ≤ q
  levels = rw given.same v.sized.levels

  few : q ≤ 15
  few = rw given.same v.levels

  part_long : (b : Bool) → t.n ≤ length (part b t.n x)
  part_long b = omega (arith, part_size b t.n x (omega (arith, v.length, given.size)))

  -- positions 1 and 2 are check positions
  pub passed_two : Passed q t.n x first₀ second₀ first₀ second₀ q 2 0
  passed_two =
      record {
        ahead =
            let a : Ahead q 2 q = rw one-mul at (ahead_power two (ahead_first q) refl few (omega arith)) in
            ahead_later a 3 (omega arith) levels;
        from = omega arith;
        one = skip_two true first₀;
        two = skip_two false second₀;
      }
    where
      two : 2 ≤ q
      two = omega (arith, levels)

      skip_two : (b : Bool) (out : List ℕ) → Extracting q t.n (part b t.n x) out out 0 2
      skip_two b out =
          let none = extracting_none q t.n (part b t.n x) out in
          let one = extracting_skip none (omega (arith, v.sized.second)) (part_long b) (check_power two (ahead_first q) refl) in
          let next = ahead_power two (ahead_first q) refl few (omega arith) in
          extracting_skip one (omega (arith, v.sized.second)) (part_long b) (check_two two next refl)

  module _ {first second : List ℕ} {power i next : ℕ} (p : Passed q t.n x first₀ second₀ first second power i next) where
    first_symbol : (j : ℕ) → j < t.n → get_or x (2 * j + 1) 0 ≡ get_or (part true t.n x) j 0
    first_symbol j h = sym (part_first t.n x j h)

    second_symbol_lem : (j : ℕ) → j < t.n → get_or x (2 * j + 2) 0 ≡ get_or (part false t.n x) j 0
    second_symbol_lem j h = sym (part_second t.n x j h)

    -- a run that ends before the power
    module _ (k : ℕ) (l : i + k ≤ t.n) (h : i + k < power) where
      held : (j : ℕ) → i ≤ j → j < i + k → Bears q j
      held j a b =
          let z : i + 1 ≤ j + 1 = omega arith in
          let y : j + 1 ≤ power = omega arith in
          check_neither (omega (arith, levels)) (ahead_later p.ahead (j + 1) z y) (λ e. omega (arith, p.from)) (λ e. omega arith)

      run_first : Extracting q t.n (part true t.n x) first₀ (copied_run x 1 i k next first) (next + k) (i + k)
      run_first = extracting_run v given.same p.one given.outputs.first_long (part_long true) x 1 first_symbol k l held

      run_second : Extracting q t.n (part false t.n x) second₀ (copied_run x 2 i k next second) (next + k) (i + k)
      run_second = extracting_run v given.same p.two given.outputs.second_long (part_long false) x 2 second_symbol_lem k l held

      room_first : next + k ≤ length first
      room_first =
          let room = run_room v given.same p.one given.outputs.first_long (part_long true) x 1 first_symbol k l held in
          omega (arith, room, p.one.size)

      room_second : next + k ≤ length second
      room_second =
          let room = run_room v given.same p.two given.outputs.second_long (part_long false) x 2 second_symbol_lem k l held in
          omega (arith, room, p.two.size)

    -- the run up to the power, and the power itself
    module _ (l : power ≤ t.n) where
      below : i ≤ power - 1
      below = omega (arith, p.ahead.from)

      -- what the run asks
      pub run_requires : (i ≤ power - 1) × (power - 1 ≤ 48) × (next + (power - 1 - i) ≤ length first)
          × (next + (power - 1 - i) ≤ length second)
      run_requires =
          let k : ℕ = power - 1 - i in
          let m : i + k ≤ t.n = omega (arith, below) in
          let h : i + k < power = omega (arith, p.ahead.from) in
          (below, omega (arith, v.length), room_first k m h, room_second k m h)

      pub power_grows : power < power * q
      power_grows =
          let g : power * 2 ≤ power * q = mul-le-mul_left power (omega (arith, levels)) in
          omega (arith, p.ahead.some)

      pub power_small : power * q ≤ 720
      power_small = let b : power ≤ 48 = omega (arith, v.length) in mul-le-mul b few

      pub passed_run : {first' second' : List ℕ} → first' ≡ copied_run x 1 i (power - 1 - i) next first
          → second' ≡ copied_run x 2 i (power - 1 - i) next second
          → Passed q t.n x first₀ second₀ first' second' (power * q) power (next + (power - 1 - i))
      passed_run e f =
          let k : ℕ = power - 1 - i in
          let g : i + k + 1 ≡ power = omega (arith, p.ahead.from) in
          let m : i + k ≤ t.n = omega arith in
          let h : i + k < power = omega arith in
          let two : 2 ≤ q = omega (arith, levels) in
          let a : Ahead q power power = ahead_later p.ahead power p.ahead.from (omega arith) in
          let c : Ahead q (i + k + 1) power = ahead_later p.ahead (i + k + 1) (omega arith) (omega arith) in
          let n : i + k < t.n = omega arith in
          record {
            ahead = ahead_power two a refl few (omega (arith, v.length));
            from = omega (arith, p.from, p.ahead.from);
            one = rw e (rw g at (extracting_skip (run_first k m h) n (part_long true) (check_power two c g)));
            two = rw f (rw g at (extracting_skip (run_second k m h) n (part_long false) (check_power two c g)));
          }

    -- the last run, and what it asks
    pub last_requires : t.n < power → i ≤ t.n
        → (i ≤ t.n) × (t.n ≤ 48) × (next + (t.n - i) ≤ length first) × (next + (t.n - i) ≤ length second)
    last_requires h m =
        let k : ℕ = t.n - i in
        let l : i + k ≤ t.n = omega arith in
        let u : i + k < power = omega arith in
        (m, v.length, room_first k l u, room_second k l u)

    pub passed_all : t.n < power → i ≤ t.n → {first' second' : List ℕ} → first' ≡ copied_run x 1 i (t.n - i) next first
        → second' ≡ copied_run x 2 i (t.n - i) next second → Messages t x first' second'
    passed_all h m e f =
        let k : ℕ = t.n - i in
        let g : i + k ≡ t.n = omega arith in
        let l : i + k ≤ t.n = omega arith in
        let u : i + k < power = omega arith in
        let z : t.n ≤ i + k = omega arith in
        record {
          first_is =
              e ∙ extracting_all v given.same (run_first k l u) given.outputs.first_long (part_long true) z
              ∙ ap (message (parameters t)) (whole true);
          second_is =
              f ∙ extracting_all v given.same (run_second k l u) given.outputs.second_long (part_long false) z
              ∙ ap (message (parameters t)) (whole false);
        }
      where
        whole : (b : Bool) → take t.n (part b t.n x) ≡ part b t.n x
        whole b = take_all t.n (part b t.n x) (part_length b t.n x)
