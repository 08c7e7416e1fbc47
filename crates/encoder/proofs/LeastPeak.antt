-- Why the steps of line rule 2's search find its choice: the check symbol that they start from is the word's, each shift's least peak comes
-- from crate `peaks`, and the first s with the lowest of them is taken.
-- Assumes nothing.
use mathlib.Core.Path.{◌≡◌, sym, ap, ap₂, subst, ◌∙◌}
use mathlib.Core.Bool.{Bool, true, false, ◌&&◌}
use mathlib.Core.List.{List, [], ◌∷◌}
use Prim.Native.Nat.{ℕ, suc, min, ◌+◌, ◌-◌, ◌*◌, ◌/◌, ◌≤◌, ◌<◌, zero-le, suc-le-suc}
use native.Mathlib.Nat.{min-eq_left, mul-le-mul}
use native.Mathlib.Numerals.{add-one}
use native.Mathlib.Omega.{arith}
use lib.Dec.{T, leb, le→leb, ltb, lt→ltb, ltb→lt}
use lib.IntN.{ℤ, pos, ◌-ℤ◌, ◌*ℤ◌}
use lib.ListN.{length, get_or, take, replicate}
use borrow.Author.Tests.{ne_eqb}
use Rattle.modular_theory.specs.Sum.{weight}
use Rattle.modular_theory.specs.Residue.{Congruent, minus}
use Rattle.modular_theory.proofs.Search.{and_intro, and_right, and_four, passes, fails}
use Rattle.modular_theory.proofs.Residue.{of_eq, symm, reduce, add, cancel, multiple, minus_add, remainder_below, ◌then◌}
use Rattle.code_theory.specs.Parameters.{Parameters, delta}
use Rattle.code_theory.specs.Component.{symbols_below}
use Rattle.code_theory.specs.Codeword.{alternate}
use Rattle.code_theory.specs.Balance.{shifted_from, chosen}
use Rattle.code_theory.specs.Walk.{walked, shift_of, unwalked}
use Rattle.code_theory.specs.LineRule.{LineRule, rule1, rule2, line_rule_of, balanced_by}
use Rattle.code_theory.proofs.Walk.{chosen_walked, length_walked, shift_below}
use Rattle.code_theory.proofs.Columns.{q_positive}
use Rattle.modular.specs.Remainder.{residue}
use Rattle.modular.proofs.Dividing.{residue_is, residue_below}
use Rattle.profiles.specs.declared.edition.Edition.TheVariants.{Of2013, Of2018}
use Rattle.profiles.specs.declared.row.Row.{Row}
use Rattle.profiles.specs.Row.{parameters, Valid}
use Rattle.peaks_theory.specs.Costs.{balanced_at, check_offset, cost_at}
use Rattle.peaks_theory.specs.Lowest.{no_cost, lowest_cost, lowest_index, pick}
use Rattle.peaks_theory.specs.Claims.{Seeded}
use Rattle.peaks_theory.proofs.Lowest.{Searched, searched_more}
use Rattle.peaks_theory.proofs.Selected.{s_below, index_below, rule_two}
use Rattle.peaks.specs.declared.search.LeastPeaks.{LeastPeaks}
use Rattle.peaks.specs.LeastPeaks.{searchable, found, least_peaks}
use Rattle.peaks.proofs.SideBySide.{lane_at_lem}
use Rattle.symbols.specs.declared.weight.Weight.{Weight}
use Rattle.symbols.specs.Weight.{weights_of}
use Rattle.encoder.specs.Symbols.{SymbolArray, Walked, Chosen, shift_cost, lowest_s}
use Rattle.encoder.proofs.Searching.{row_size}

-- The check symbol.

module _ (t : Row) (valid : Valid t) where
  pub q_some : 1 ≤ t.q
  q_some = q_positive (parameters t) valid.sized

  pub delta_below : t.delta < t.q
  unfolding delta
  delta_below =
      let z : ℤ = pos ((t.q - 1) / 2) *ℤ (pos 2 -ℤ pos t.balanced) in
      rw valid.delta (remainder_below z t.q q_some)

  pub offset_13 : t.edition ≡ Of2013 → {r : ℕ} → r ≡ t.delta → Congruent t.q r (check_offset (parameters t) t.balanced)
  offset_13 e f = of_eq (f ∙ valid.delta ∙ rw e)

  pub offset_18 : t.edition ≡ Of2018 → {w r : ℕ} → w ≡ t.q - t.delta → r ≡ t.n + w
      → Congruent t.q r (check_offset (parameters t) t.balanced)
  offset_18 e {w} f g =
      let q : ℕ = t.q in
      let d : ℕ = t.delta in
      let n : (t.balanced + 1) / 2 - 1 ≡ t.n = omega (arith, valid.balanced) in
      let sum : t.n + w + d ≡ t.n + 1 * q = omega (arith, delta_below) in
      let c : Congruent q (t.n + w) (minus q t.n d) =
      cancel d (of_eq sum then multiple q t.n 1 then symm (minus_add q t.n d q_some)) in
      of_eq g then c then of_eq (ap₂ (minus q) (sym n) valid.delta ∙ rw e)

  -- what the steps add up, mod q
  module _ (d : List ℕ) (long : length (take t.balanced d) ≡ t.balanced) (room : t.balanced ≤ 97) where
    half : (length (take t.balanced d) + 1) / 2 ≡ t.n + 1
    half = omega (arith, long, valid.balanced)

    pub seeded : {w : Weight} → w ≡ weights_of t.target (take (min t.balanced 97) d)
        → {o first step : ℕ} → Congruent t.q o (check_offset (parameters t) t.balanced)
        → first ≡ residue t.q (w.odd + o + (t.n + 1)) → step ≡ residue t.q (t.n + 1)
        → Seeded (parameters t) (take t.balanced d) first step × (first < t.q) × (step < t.q)
    seeded {w} weighed {o} offset f g =
        let l : List ℕ = take t.balanced d in
        let odd : w.odd ≡ weight (alternate true l) =
        ap (λ (k : Weight). k.odd) (weighed ∙ ap (λ (k : ℕ). weights_of t.target (take k d)) (min-eq_left room)) in
        let at : check_offset (parameters t) t.balanced ≡ check_offset (parameters t) (length l) =
        ap (check_offset (parameters t)) (sym long) in (
          record {
            first_is =
                of_eq (f ∙ residue_is (w.odd + o + (t.n + 1)) q_some)
                then reduce t.q (w.odd + o + (t.n + 1))
                then add (add (of_eq odd) (offset then of_eq at)) (of_eq (sym half));
            step_is = of_eq (g ∙ residue_is (t.n + 1) q_some) then reduce t.q (t.n + 1) then of_eq (sym half);
          },
          rw f (residue_below (w.odd + o + (t.n + 1)) q_some),
          rw g (residue_below (t.n + 1) q_some),
        )

-- The lowest of the least peaks, an s at a time.

module _ {f : ℕ → ℕ} {start s least lowest : ℕ} (h : Searched (λ u. ltb (f u) no_cost) f start s least lowest) where
  pub lowest_taken : {cost : ℕ} → cost ≡ f s → cost < least → least ≤ no_cost → Searched (λ u. ltb (f u) no_cost) f start (s + 1) cost s
  lowest_taken {cost} e l b =
      let both : (ltb (f s) no_cost && ltb (f s) least) ≡ true =
      passes (and_intro (ltb (f s) no_cost) (ltb (f s) least) (lt→ltb (f s) no_cost (omega arith)) (lt→ltb (f s) least (omega arith))) in
      rw add-one
      (searched_more _ f start h (ltb→lt (f s) no_cost) (e ∙ ap (λ (b : Bool). pick b (f s) least) (sym both))
      (ap (λ (b : Bool). pick b s lowest) (sym both)))

  pub lowest_kept : least ≤ f s → Searched (λ u. ltb (f u) no_cost) f start (s + 1) least lowest
  lowest_kept l =
      let none : (ltb (f s) no_cost && ltb (f s) least) ≡ false =
      fails (λ k. let o : f s < least = ltb→lt (f s) least (and_right (ltb (f s) no_cost) (ltb (f s) least) k) in absurd (omega arith)) in
      rw add-one
      (searched_more _ f start h (ltb→lt (f s) no_cost) (ap (λ (b : Bool). pick b (f s) least) (sym none))
      (ap (λ (b : Bool). pick b s lowest) (sym none)))

-- The choice.

-- symbols that are below q one by one
symbols_of_lem : (q : ℕ) (c : List ℕ) → ((i : ℕ) → i < length c → get_or c i 0 < q) → T (symbols_below q c)
symbols_of_lem q [] f = tt
symbols_of_lem q (x ∷ xs) f =
    and_intro (ltb x q) (symbols_below q xs) (lt→ltb x q (f 0 (suc-le-suc zero-le))) (symbols_of_lem q xs (λ i l. f (suc i) (suc-le-suc l)))

module _ (t : Row) (valid : Valid t) (few : t.q ≤ 8) (a : List ℕ) (symbols : SymbolArray t.q 97 a) (first step : ℕ)
    (start : Seeded (parameters t) (take t.balanced a) first step × (first < t.q) × (step < t.q)) {r : LeastPeaks}
    (searched : r ≡ least_peaks t.q t.balanced first step a) where
  abbrev q : ℕ
  q = t.q

  abbrev p : Parameters
  p = parameters t

  -- the word that is shifted
  abbrev d : List ℕ
  d = take t.balanced a

  long : length d ≡ t.balanced
  long = row_size t valid a symbols.size

  all_below_lem : T (symbols_below q a)
  all_below_lem = symbols_of_lem q a (λ i l. symbols.below i (omega (arith, symbols.size)))

  in_lanes : T (searchable q t.balanced first step a)
  unfolding searchable
  in_lanes =
      let room : t.balanced ≤ 97 = omega (arith, valid.balanced, valid.length) in
      and_intro (leb q 8 && leb t.balanced 97 && ltb first q && ltb step q) (symbols_below q a)
      (and_four (leb q 8) (leb t.balanced 97) (ltb first q) (ltb step q) (le→leb q 8 few) (le→leb t.balanced 97 room)
      (lt→ltb first q start.1) (lt→ltb step q start.2))
      all_below_lem

  is_found : r ≡ found q first step d t.balanced
  unfolding least_peaks
  is_found =
      searched
      ∙ ap (λ (b : Bool). elim b [ true ↦ found q first step d t.balanced | false ↦ record { costs = replicate 8 no_cost; indices = replicate 8 0 } ])
      (passes {b = searchable q t.balanced first step a} in_lanes)

  shift_lane : (u : ℕ) → u < q → shift_of p u < 8
  shift_lane u l = omega (arith, shift_below p (q_some t valid) u l)

  cost_is : (u : ℕ) → u < q
      → shift_cost p r.costs u ≡ lowest_cost (balanced_at q d (shift_of p u)) (cost_at q first step d (shift_of p u)) (length d)
  cost_is u l =
      ap (λ (f : LeastPeaks). get_or f.costs (shift_of p u) 0) is_found
      ∙ lane_at_lem (λ t'. lowest_cost (balanced_at q d t') (cost_at q first step d t') t.balanced) (shift_of p u) (shift_lane u l)
      ∙ ap (lowest_cost (balanced_at q d (shift_of p u)) (cost_at q first step d (shift_of p u))) (sym long)

  index_is : (u : ℕ) → u < q
      → get_or r.indices (shift_of p u) 0 ≡ lowest_index (balanced_at q d (shift_of p u)) (cost_at q first step d (shift_of p u)) (length d)
  index_is u l =
      ap (λ (f : LeastPeaks). get_or f.indices (shift_of p u) 0) is_found
      ∙ lane_at_lem (λ t'. lowest_index (balanced_at q d t') (cost_at q first step d t') t.balanced) (shift_of p u) (shift_lane u l)
      ∙ ap (lowest_index (balanced_at q d (shift_of p u)) (cost_at q first step d (shift_of p u))) (sym long)

  module _ (walk : Walked p d) {s : ℕ} (lowest : s ≡ lowest_s p r.costs) where
    small : (length d + 1) * (q - 1) < no_cost
    small =
        let symbols : length d + 1 ≤ 98 = omega (arith, long, valid.balanced, valid.length) in
        let levels : q - 1 ≤ 7 = omega (arith, few) in
        omega (arith, mul-le-mul symbols levels)

    two : (x : List ℕ) → d ≡ walked p x → 2 ≤ length x
    two x e = omega (arith, length_walked p (q_some t valid) x, ap length e, long, valid.balanced, valid.sized.second)

    taken : s ≡ lowest_index (λ u. ltb (shift_cost p r.costs u) no_cost) (shift_cost p r.costs) q
    unfolding lowest_s
    taken = lowest

    pub lowest_below : s < q
    lowest_below =
        s_below p valid.sized.odd walk.of d walk.is (two walk.of walk.is) first step start.0 small (shift_cost p r.costs) cost_is
        taken

    abbrev i : ℕ
    i = lowest_index (balanced_at q d (shift_of p s)) (cost_at q first step d (shift_of p s)) (length d)

    -- the choice, of an x whose choices shift d
    module _ (x : List ℕ) (e : d ≡ walked p x) where
      inside : i < length d
      inside =
          index_below p valid.sized.odd x d e (two x e) first step start.0 small (shift_cost p r.costs) cost_is taken

      word : unwalked p (shifted_from q (shift_of p s) i d) ≡ balanced_by rule2 p x
      unfolding balanced_by
      word =
          let (es, ev) =
          rule_two p valid.sized.odd x d e (two x e) first step start.0 small (shift_cost p r.costs) cost_is taken in
          let l : i < length x = rw (← length_walked p (q_some t valid) x, ← e) inside in
          ap (λ (y : List ℕ). unwalked p (shifted_from q (shift_of p s) i y)) e
          ∙ sym (chosen_walked p (q_some t valid) x s i l)
          ∙ ap₂ (chosen p x) (sym es) (sym ev)

    pub least_chosen : {shift v : ℕ} → shift ≡ shift_of p s → v ≡ get_or r.indices shift 0 + 1 → Chosen rule2 p d shift v
    least_chosen {shift} {v} f g =
        let at : get_or r.indices shift 0 ≡ i = ap (λ (k : ℕ). get_or r.indices k 0) f ∙ index_is s lowest_below in
        let first : v - 1 ≡ i = omega arith in
        record {
          below = rw f (shift_below p (q_some t valid) s lowest_below);
          from = omega arith;
          upto = omega (arith, inside walk.of walk.is);
          word = λ x e. ap₂ (λ (j k : ℕ). unwalked p (shifted_from q j k d)) f first ∙ word x e;
        }

    pub shift_small : {shift : ℕ} → shift ≡ shift_of p s → shift < 8
    shift_small f = rw f (shift_lane s lowest_below)

-- A rule that is not 2 is 1.
pub chosen_one : (k : ℕ) → (k ≡ 2 → ⊥) → {p : Parameters} {d : List ℕ} {s v : ℕ} → Chosen rule1 p d s v → Chosen (line_rule_of k) p d s v
chosen_one k n {p} {d} {s} {v} c =
    let one : line_rule_of k ≡ rule1 = ap (λ (b : Bool). elim b as (λ _. LineRule) [ true ↦ rule2 | false ↦ rule1 ]) (ne_eqb k 2 n) in
    subst (λ (r : LineRule). Chosen r p d s v) (sym one) c
