-- The table of profiles, by tests that are computed over its rows.
-- Assumes nothing.
use Rattle.std.proofs.Common.{◌≡◌, ℕ, suc, ◌-◌, ◌≤◌, Bool, true, false, ◌&&◌, T, eqb, leb, ◌⊎◌, List, [], ◌∷◌, map, length, get_or, sym, ap, ◌∙◌, ap₂, inl, inr, ⊎_elim, arith, eqb→eq, leb→le, Option, Some, None}
use Rattle.modular_theory.specs.Search.{all_below}
use Rattle.modular_theory.proofs.Search.{and_left, and_right, passes, fails}
use Rattle.code_theory.specs.Parameters.{Edition, Parameters, in_edition, message_length, codeword_length, balancing_value, delta}
use Rattle.code_theory.specs.Profiles.{profiles, is_profile, profile, profile_in, table, derived_row}
use Rattle.code_theory.specs.Reading.{distance}
use Rattle.code_theory.proofs.Distance.{distance_zero}
use Rattle.code_theory.proofs.Profiles.{every_profile, sized_in, profiles_fit}
use Rattle.profiles.specs.declared.edition.Edition as declared
use Rattle.profiles.specs.declared.row.Row.{Row}
use Rattle.profiles.specs.declared.row.Entry.{Entry}
use Rattle.profiles.specs.Edition.{edition_is}
use Rattle.profiles.specs.Row.{parameters, numbers, entries, Widened, looked_up, table_at, RowOf}

pub in_range_lem : (i : ℕ) → T (is_profile i) → (1 ≤ i) × (i ≤ length profiles)
in_range_lem i h =
    let low = and_left (leb 1 i) (leb i (length profiles)) h in
    let high = and_right (leb 1 i) (leb i (length profiles)) h in
    (leb→le 1 i low, leb→le i (length profiles) high)

-- a row of these numbers, as the table has it
abbrev from_cells : List ℕ → Entry
from_cells l =
    record {
      q = get_or l 1 0;
      r = get_or l 2 0;
      n = get_or l 3 0;
      message = get_or l 4 0;
      balanced = get_or l 5 0;
      codeword = get_or l 6 0;
      target = get_or l 7 0;
      delta = get_or l 8 0;
    }

-- 01's table as the code has it
abbrev entry_at : ℕ → Entry
entry_at j = get_or (map from_cells table) j (from_cells [])

-- the code's row is that of 01's table, and its numbers follow from the parameters of number i
right : ℕ → Bool
right i =
    eqb (distance (i ∷ entries (entry_at (i - 1))) (get_or table (i - 1) [])) 0
    && eqb (distance (get_or table (i - 1) []) (derived_row i)) 0

rows_right : T (all_below (λ j. right (suc j)) (length profiles))
unfolding right profile derived_row balancing_value delta
rows_right = tt

module _ (i : ℕ) (h : T (is_profile i)) where
  entry_is : i ∷ entries (entry_at (i - 1)) ≡ get_or table (i - 1) []
  unfolding right
  entry_is =
      let code : List ℕ = i ∷ entries (entry_at (i - 1)) in
      distance_zero code (get_or table (i - 1) [])
      (eqb→eq _ 0 (and_left (eqb (distance code (get_or table (i - 1) [])) 0) _ (every_profile right rows_right i h)))

  derived_is : get_or table (i - 1) [] ≡ derived_row i
  unfolding right
  derived_is =
      let code : List ℕ = i ∷ entries (entry_at (i - 1)) in
      distance_zero (get_or table (i - 1) []) (derived_row i)
      (eqb→eq _ 0 (and_right (eqb (distance code (get_or table (i - 1) [])) 0) _ (every_profile right rows_right i h)))

-- what a number is looked up as, by the test of the number
abbrev found : Edition → ℕ → Bool → ℕ ⊎ (Edition × List ℕ)
found o i b = elim b [ true ↦ inr (o, get_or table (i - 1) []) | false ↦ inl 1 ]

pub lookup_found : (o : declared.Edition) (i : ℕ) → T (is_profile i) → (t : Row) → Widened o (entry_at (i - 1)) t
    → looked_up i (Some t) ≡ table_at (edition_is o) i
unfolding table_at
lookup_found o i h t w =
    ap₂ (λ (a : Edition) (l : List ℕ). inr (a, l)) (ap edition_is w.edition) (ap (λ (l : List ℕ). i ∷ l) w.are ∙ entry_is i h)
    ∙ ap (found (edition_is o) i) (sym (passes {b = is_profile i} h))

pub lookup_none : (o : Edition) (i : ℕ) → is_profile i ≡ false → looked_up i None ≡ table_at o i
unfolding table_at
lookup_none o i e = ap (found o i) (sym e)

-- q, r and n fit the code's bytes and arrays
room : ℕ → Bool
room i = leb (profile i).q 15 && leb (profile i).r 4 && leb (profile i).n 48

all_room : T (all_below (λ j. room (suc j)) (length profiles))
unfolding room profile
all_room = tt

pub profile_fits : (i : ℕ) → T (is_profile i) → ((profile i).q ≤ 15) × ((profile i).r ≤ 4) × ((profile i).n ≤ 48)
unfolding room
profile_fits i h =
    let qs : Bool = leb (profile i).q 15 in
    let rs : Bool = leb (profile i).r 4 in
    let ns : Bool = leb (profile i).n 48 in
    let fits : T (qs && rs && ns) = every_profile room all_room i h in
    let low : T (qs && rs) = and_left (qs && rs) ns fits in (
      leb→le (profile i).q 15 (and_left qs rs low),
      leb→le (profile i).r 4 (and_right qs rs low),
      leb→le (profile i).n 48 (and_right (qs && rs) ns fits),
    )

row_of_profile : (o : Edition) (i : ℕ) (t : Row) → T (is_profile i) → edition_is t.edition ≡ o → i ∷ numbers t ≡ derived_row i → RowOf o i t
unfolding derived_row
row_of_profile o i t h d e =
    let q : t.q ≡ (profile i).q = cc in
    let r : t.r ≡ (profile i).r = cc in
    let n : t.n ≡ (profile i).n = cc in
    let same : parameters t ≡ in_edition o (profile i) = rw (q, r, n, d) in
    let (levels, checks, long) = profile_fits i h in
    record {
      known = h;
      same = same;
      valid =
          record {
            sized = rw same (sized_in o (profile_in 13 i) (profiles_fit.0 13 i h).0);
            levels = rw q levels;
            checks = rw r checks;
            length = rw n long;
            message = cc;
            balanced = cc;
            codeword = cc;
            target = cc;
            delta = cc;
          };
    }

-- What the answer of a lookup says.

-- 01's number, or 0, and the row
abbrev refusing : ℕ ⊎ (Edition × List ℕ) → ℕ
refusing = ⊎_elim (λ k. k) (λ l. 0)

abbrev held : ℕ ⊎ (Edition × List ℕ) → List ℕ
held = ⊎_elim (λ k. []) (λ l. l.1)

-- the edition, or another where none is held
abbrev held_in : Edition → ℕ ⊎ (Edition × List ℕ) → Edition
held_in o = ⊎_elim (λ k. o) (λ l. l.0)

in_table : (o : Edition) (i : ℕ) (b : Bool) {l : Edition × List ℕ} → inr l ≡ found o i b → T b
in_table o i true e = tt
in_table o i false e = let z : ◌≡◌ {A = ℕ} 0 1 = ap refusing e in absurd (omega arith)

module _ (o : Edition) (i : ℕ) {r : Option Row} (e : looked_up i r ≡ table_at o i) where
  -- a row that is found is the profile's
  pub row_found : {t : Row} → r ≡ Some t → RowOf o i t
  unfolding table_at
  row_found {t} f =
      let same : inr (edition_is t.edition, i ∷ numbers t) ≡ found o i (is_profile i) = sym (ap (looked_up i) f) ∙ e in
      let h : T (is_profile i) = in_table o i (is_profile i) same in
      let is = same ∙ ap (found o i) (passes {b = is_profile i} h) in
      row_of_profile o i t h (ap (held_in o) is) (ap held is ∙ derived_is i h)

  -- where none is, the number is no profile's
  pub none_found : r ≡ None → is_profile i ≡ false
  unfolding table_at
  none_found f =
      fails
      (λ h.
      let z : ◌≡◌ {A = ℕ} 1 0 = ap refusing (sym (ap (looked_up i) f) ∙ e ∙ ap (found o i) (passes {b = is_profile i} h)) in
      omega arith)

-- a message has at most 45 symbols
short : ℕ → Bool
short i = leb (message_length (profile i)) 45

all_short : T (all_below (λ j. short (suc j)) (length profiles))
unfolding short profile
all_short = tt

short_profile : (i : ℕ) → T (is_profile i) → message_length (profile i) ≤ 45
unfolding short
short_profile i h = leb→le (message_length (profile i)) 45 (every_profile short all_short i h)

-- and a symbol has at most eight levels
eight_levels : (i : ℕ) → T (is_profile i) → (profile i).q ≤ 8
unfolding profile
eight_levels i h = leb→le (profile i).q 8 (every_profile (λ i. leb (profile i).q 8) all i h)
  where
    all : T (all_below (λ j. leb (profile (suc j)).q 8) (length profiles))
    all = tt

-- the numbers of a profile's row that are asked for alone
module _ {o : Edition} {i : ℕ} {t : Row} (of : RowOf o i t) where
  pub levels_are : t.q ≡ (profile i).q
  levels_are = ap (λ (p : Parameters). p.q) of.same

  pub levels_eight : t.q ≤ 8
  levels_eight = rw levels_are (eight_levels i of.known)

  pub message_is : t.message ≡ message_length (profile i)
  message_is = of.valid.message ∙ ap message_length of.same

  pub message_short : t.message ≤ 45
  message_short = rw message_is (short_profile i of.known)

  pub codeword_is : t.codeword ≡ codeword_length (profile i)
  codeword_is = of.valid.codeword ∙ ap codeword_length of.same
