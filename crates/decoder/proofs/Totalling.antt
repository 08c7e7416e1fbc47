-- The sums over a word, each as its definition has it.
-- Assumes nothing.
use mathlib.Core.Path.{◌≡◌, sym, ap, ◌∙◌, fun_ext}
use mathlib.Core.Bool.{Bool, true, false}
use mathlib.Core.List.{List}
use Prim.Native.Nat.{ℕ, ◌+◌, ◌-◌, ◌*◌, ◌≤◌, min}
use native.Mathlib.Nat.{mul-le-mul, min-eq_left}
use native.Mathlib.Omega.{arith}
use lib.ListN.{length, get_or, take}
use lib.IntN.{pos, neg_ℤ, ◌-ℤ◌, nat_abs}
use Rattle.modular_theory.specs.Residue.{remainder}
use Rattle.modular_theory.proofs.Residue.{remainder_below}
use Rattle.modular_theory.proofs.Integer.{difference_within}
use Rattle.modular_theory.specs.Sum.{weight}
use Rattle.code_theory.specs.Parameters.{balanced_length, balancing_value}
use Rattle.code_theory.specs.Codeword.{alpha, beta, body, received}
use Rattle.code_theory.proofs.Columns.{q_positive}
use Rattle.code_theory.proofs.Conditions.{body_length}
use Rattle.decoding_theory.specs.Syndromes.{syndromes}
use Rattle.decoding_theory.specs.Decoded.{sums, check_symbol, check_index, target, lack}
use Rattle.profiles.specs.declared.row.Row.{Row}
use Rattle.profiles.specs.Row.{parameters, Valid}
use Rattle.modular.specs.Remainder.{residue_of_negative}
use Rattle.modular.proofs.Dividing.{negative_is}
use Rattle.symbols.specs.declared.weight.Weight.{Weight}
use Rattle.symbols.specs.declared.checks.Checks.{Checks}
use Rattle.symbols.specs.Weight.{weights_of, checks_of, check_of}
use Rattle.symbols.specs.Columns.{Columns, columns_of}
use Rattle.symbols.specs.Syndromes.{rows, part, row_sums}
use Rattle.symbols.proofs.CheckSymbols.{checks_are}
use Rattle.symbols.proofs.Counting.{columns_right}
use Rattle.symbols.proofs.Parts.{part_length}
use Rattle.symbols.proofs.Rows.{sums_are}
use Rattle.decoder.specs.declared.totals.Totals.{Totals}
use Rattle.syndromes.specs.Rows.{FourRows, rows_of}
use Rattle.decoder.specs.Totals.{WholeWord, Components, sums_of, Totalled}
use Rattle.decoder.proofs.Levels.{symbols_take, weight_small}
use Rattle.syndromes.proofs.FourRows.{four_rows_lem}
use Rattle.decoder.proofs.Restoring.{four_are}
use Rattle.decoding_theory.proofs.Outcomes.{check_below}

-- the columns that are built for a row
pub row_columns : {t : Row} → Valid t → {columns : List (List ℕ)} → columns ≡ columns_of t.q t.n → Columns t.q t.n columns
row_columns {t} v e = columns_right e (q_positive (parameters t) v.sized) v.length

target_is : {t : Row} → Valid t → t.target ≡ target (parameters t)
target_is {t} v = v.target ∙ ap (balancing_value t.q) v.balanced

target_small : {t : Row} → Valid t → t.target ≤ 1358
unfolding balancing_value
target_small {t} v =
    let m : t.balanced ≤ 97 = omega (arith, v.balanced, v.length) in
    let q : t.q - 1 ≤ 14 = omega (arith, v.levels) in
    let l : t.balanced * (t.q - 1) ≤ 1358 = mul-le-mul m q in
    omega (arith, v.target)

module _ {t : Row} {word x : List ℕ} (is : WholeWord t word) (held : Components t word x) where
  q₁ : 1 ≤ t.q
  q₁ = q_positive (parameters t) is.valid.sized

  body_long : length (body (parameters t) word) ≡ balanced_length (parameters t)
  body_long = body_length (parameters t) word is.long

  body_light : weight (body (parameters t) word) ≤ 1358
  unfolding body
  body_light =
      let below = symbols_take t.q (balanced_length (parameters t)) word is.below in
      let light = weight_small t.q is.valid.levels (body (parameters t) word) below in
      omega (arith, light, body_long, is.valid.length)

  room : t.balanced ≤ 97
  room = omega (arith, is.valid.balanced, is.valid.length)

  begins : take t.balanced word ≡ body (parameters t) word
  unfolding body
  begins = ap (λ (m : ℕ). take m word) is.valid.balanced

  copy_is : take (min t.balanced 97) word ≡ body (parameters t) word
  copy_is = ap (λ (m : ℕ). take m word) (min-eq_left room) ∙ begins

  -- The excess, and the check symbols that the body asks for.
  module _ {k : Weight} (e : k ≡ weights_of t.target (take (min t.balanced 97) word)) where
    pub excess_is : k.excess ≡ pos (weight (body (parameters t) word)) -ℤ pos (target (parameters t))
    excess_is = rw (e, copy_is, target_is is.valid)

    pub excess_light : nat_abs k.excess ≤ 1358
    excess_light =
        let small : target (parameters t) ≤ 1358 = rw (target_is is.valid) at (target_small is.valid) in
        rw excess_is (difference_within 1358 (weight (body (parameters t) word)) (target (parameters t)) body_light small)

    pub asked_are : {c : Checks} → c ≡ checks_of t.q t.delta k
        → (b : Bool) → check_of c b ≡ check_symbol t.q b (body (parameters t) word)
    asked_are f b =
        let long : length (take t.balanced word) ≡ t.balanced = ap length begins ∙ body_long ∙ sym is.valid.balanced in
        let is = f ∙ ap (checks_of t.q t.delta) e ∙ checks_are t.target word q₁ room long is.valid.delta in
        at b (ap (λ (c : Checks). check_of c b) is)
      where
        l : List ℕ
        l = take t.balanced word

        at : (b : Bool) {y : ℕ} → y ≡ check_of (record { alpha = alpha t.q l; beta = beta t.q l }) b
            → y ≡ check_symbol t.q b (body (parameters t) word)
        at true h = h ∙ ap (alpha t.q) begins
        at false h = h ∙ ap (beta t.q) begins

  -- the syndrome of a component, as four rows
  pub rows_of_part : {columns : List (List ℕ)} → Columns t.q t.n columns → (b : Bool)
      → {s : List ℕ} → s ≡ row_sums t.q columns (part b (min t.n 48) x)
      → FourRows t s × (rows_of t s ≡ syndromes (parameters t) (received (parameters t) b word))
  rows_of_part {columns} k b {s} e =
      let c : List ℕ = part b t.n x in
      let f : s ≡ row_sums t.q columns c = e ∙ ap (λ (n : ℕ). row_sums t.q columns (part b n x)) (min-eq_left is.valid.length) in
      let n : length c ≤ t.n = part_length b t.n x in (
        rw f (four_rows_lem t is.valid k c n),
        rw f (four_are t is.valid c (row_sums t.q columns c) n (sums_are q₁ k c n)) ∙ ap (syndromes (parameters t)) (held.parts b),
      )

  -- the sums, as the code has them
  module _ (s : Totals) (e : s.excess ≡ pos (weight (body (parameters t) word)) -ℤ pos (target (parameters t)))
      (g : (b : Bool) → check_of s.asked b ≡ check_symbol t.q b (body (parameters t) word)) where
    pub totals_are : s.arrived.alpha ≡ get_or word t.balanced 0 → s.arrived.beta ≡ get_or word (t.balanced + 1) 0
        → rows_of t (rows s.syndromes.first) ≡ syndromes (parameters t) (received (parameters t) true word)
        → rows_of t (rows s.syndromes.second) ≡ syndromes (parameters t) (received (parameters t) false word)
        → sums_of t s ≡ sums (parameters t) word
    totals_are f i h k = rw (e, asked_is, arrived_is, h, k)
      where
        arrived : (b : Bool) → check_of s.arrived b ≡ get_or word (check_index (parameters t) b) 0
        arrived true = f ∙ ap (λ (m : ℕ). get_or word m 0) is.valid.balanced
        arrived false = i ∙ ap (λ (m : ℕ). get_or word (m + 1) 0) is.valid.balanced

        asked_is : ◌≡◌ {A = Bool → ℕ} (check_of s.asked) (λ b. check_symbol t.q b (body (parameters t) word))
        asked_is = fun_ext g

        arrived_is : ◌≡◌ {A = Bool → ℕ} (check_of s.arrived) (λ b. get_or word (check_index (parameters t) b) 0)
        arrived_is = fun_ext arrived

    pub totalled : s.lack ≡ residue_of_negative t.q s.excess
        → FourRows t (rows s.syndromes.first) → FourRows t (rows s.syndromes.second) → Totalled t s
    unfolding lack
    totalled d f h =
        let small : target (parameters t) ≤ 1358 = rw (target_is is.valid) at (target_small is.valid) in
        let l : s.lack ≡ remainder (neg_ℤ s.excess) t.q = d ∙ negative_is s.excess q₁ in
        record {
          light = rw e (difference_within 1358 (weight (body (parameters t) word)) (target (parameters t)) body_light small);
          lacks = l;
          lack_below = rw l (remainder_below (neg_ℤ s.excess) t.q q₁);
          asked_below = λ b. rw (g b) (check_below t.q q₁ b (body (parameters t) word));
          first_rows = f;
          second_rows = h;
        }
