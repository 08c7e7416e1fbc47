-- The four profiles are sized and prime: a test that is computed over the table, and what it says of each row.
-- Assumes nothing.
use mathlib.Core.Path.{◌≡◌, refl, sym, ap, subst}
use mathlib.Core.Logic.{◌⊎◌, inl, inr, ⊎_elim}
use mathlib.Core.Bool.{Bool, false, not, ◌&&◌, ◌||◌}
use Prim.Native.Nat.{ℕ, zero, suc, ◌-◌, ◌%◌, ◌^◌, ◌≤◌, ◌<◌}
use native.Mathlib.Nat.{not-le_of_lt}
use native.Mathlib.Omega.{arith}
use lib.ListN.{length, get_or-eq_default}
use lib.Dec.{T, leb, ltb, eqb, leb→le, ltb→lt, eqb→eq, le→leb, T_not}
use Rattle.modular_theory.specs.Search.{all_below}
use Rattle.modular_theory.specs.Residue.{Prime}
use Rattle.modular_theory.proofs.Search.{and_intro, and_left, and_right, and_parts, or_cases, le_or_lt, all_at}
use Rattle.code_theory.specs.Parameters.{Edition, edition13, is_edition, Parameters, in_edition, Sized, balancing_value, delta}
use Rattle.code_theory.specs.Component.{erasure}
use Rattle.code_theory.specs.Profiles.{row, profiles, is_profile, profile, profile_in, derived_row}
use Rattle.code_theory.specs.Claims.{EditionNumbers, ProfilesFit}

-- no number from 2 up to q - 1 divides q
abbrev is_prime : ℕ → Bool
is_prime q = leb 2 q && all_below (λ d. ltb d 2 || not (eqb (q % d) 0)) q

prime : (q : ℕ) → T (is_prime q) → Prime q
prime q h = record { large = leb→le 2 q (and_left (leb 2 q) tests h); no_divisor = no_divisor }
  where
    tests : Bool
    tests = all_below (λ d. ltb d 2 || not (eqb (q % d) 0)) q

    no_divisor : (d : ℕ) → 2 ≤ d → d < q → q % d ≡ 0 → ⊥
    no_divisor d two below e =
        ⊎_elim (λ k. not-le_of_lt (ltb→lt d 2 k) two) (λ k. T_not (eqb (q % d) 0) k (subst (λ (x : ℕ). T (eqb x 0)) (sym e) tt))
        (or_cases (ltb d 2) (not (eqb (q % d) 0)) (all_at (λ d. ltb d 2 || not (eqb (q % d) 0)) q (and_right (leb 2 q) tests h) d below))

abbrev is_sized : Parameters → Bool
is_sized p = eqb (p.q % 2) 1 && leb 3 p.q && ltb p.n (p.q ^ (p.r - 1)) && (leb 2 p.n && leb (p.q ^ (p.r - 2)) p.n)

sized : (p : Parameters) → T (is_sized p) → Sized p
sized p h = from (and_parts (eqb (p.q % 2) 1) (leb 3 p.q) (ltb p.n (p.q ^ (p.r - 1))) room h)
  where
    room : Bool
    room = leb 2 p.n && leb (p.q ^ (p.r - 2)) p.n

    from : T (eqb (p.q % 2) 1) × T (leb 3 p.q) × T (ltb p.n (p.q ^ (p.r - 1))) × T room → Sized p
    from t =
        record {
          odd = eqb→eq _ _ t.0;
          levels = leb→le _ _ t.1;
          columns = ltb→lt _ _ t.2;
          second = leb→le _ _ (and_left (leb 2 p.n) (leb (p.q ^ (p.r - 2)) p.n) t.3);
          highest = leb→le _ _ (and_right (leb 2 p.n) (leb (p.q ^ (p.r - 2)) p.n) t.3);
        }

pub edition_numbers : EditionNumbers
edition_numbers = ((λ k. (named k, numbered k)), (λ i. refl), (λ i. refl))
  where
    named : (k : ℕ) → T (is_edition k) → (k ≡ 13) ⊎ (k ≡ 18)
    named k h = ⊎_elim (λ t. inl (eqb→eq k 13 t)) (λ t. inr (eqb→eq k 18 t)) (or_cases (eqb k 13) (eqb k 18) h)

    numbered : (k : ℕ) → (k ≡ 13) ⊎ (k ≡ 18) → T (is_edition k)
    numbered k (inl e) = subst (λ (x : ℕ). T (is_edition x)) (sym e) tt
    numbered k (inr e) = subst (λ (x : ℕ). T (is_edition x)) (sym e) tt

-- an edition changes no number
pub sized_in : (e : Edition) (p : Parameters) → Sized p → Sized (in_edition e p)
sized_in e p s = record { odd = s.odd; levels = s.levels; columns = s.columns; second = s.second; highest = s.highest }

-- a test that passes for the number of each row passes for every profile's number
pub every_profile : (t : ℕ → Bool) → T (all_below (λ j. t (suc j)) (length profiles)) → (i : ℕ) → T (is_profile i) → T (t i)
every_profile t h zero k = absurd k
every_profile t h (suc j) k =
    all_at (λ j. t (suc j)) (length profiles) h j
    (leb→le (suc j) (length profiles) (and_right (leb 1 (suc j)) (leb (suc j) (length profiles)) k))

-- a number that is no profile's has zeros for parameters
pub profile_none : (i : ℕ) → is_profile i ≡ false → profile i ≡ row 0 0 0
unfolding profile
profile_none zero e = refl
profile_none (suc i) e =
    ⊎_elim (λ (h : length profiles ≤ i). ap (in_edition edition13) (get_or-eq_default profiles (row 0 0 0) h)) (λ h. absurd (past h))
    (le_or_lt (length profiles) i)
  where
    past : i < length profiles → ⊥
    past h =
        let from : T (leb 1 (suc i)) = le→leb 1 (suc i) (omega arith) in
        let upto : T (leb (suc i) (length profiles)) = le→leb (suc i) (length profiles) h in
        subst T e (and_intro (leb 1 (suc i)) (leb (suc i) (length profiles)) from upto)

fits : ℕ → Bool
fits i = is_sized (profile i) && is_prime (profile i).q

all_fit : T (all_below (λ j. fits (suc j)) (length profiles))
unfolding fits profile
all_fit = tt

pub profiles_fit : ProfilesFit
unfolding fits profile derived_row balancing_value delta
profiles_fit = (row_fits, refl)
  where
    row_fits : (e i : ℕ) → T (is_profile i) → Sized (profile_in e i) × Prime (profile_in e i).q
    row_fits e i h =
        let f : T (fits i) = every_profile fits all_fit i h in
        let s : Bool = is_sized (profile i) in
        let p : Bool = is_prime (profile i).q in
        (sized (profile_in e i) (and_left s p f), prime (profile_in e i).q (and_right s p f))

-- no profile has so many levels that an erasure is one
pub few_levels : (i : ℕ) → T (is_profile i) → (profile i).q ≤ erasure
unfolding profile
few_levels i h = leb→le (profile i).q erasure (every_profile (λ i. leb (profile i).q erasure) few i h)
  where
    few : T (all_below (λ j. leb (profile (suc j)).q erasure) (length profiles))
    few = tt
