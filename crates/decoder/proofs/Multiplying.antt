-- The multiples of a symbol mod q, one level at a time, and a row moved by one of them.
-- Assumes nothing.
use mathlib.Core.Path.{◌≡◌, refl, sym, ap, ◌∙◌}
use mathlib.Core.Logic.{⊎_elim}
use mathlib.Core.Bool.{Bool, true, false, true≢false}
use mathlib.Core.List.{List}
use Prim.Native.Nat.{ℕ, zero, suc, ◌+◌, ◌-◌, ◌*◌, ◌%◌, ◌≤◌, ◌<◌}
use native.Mathlib.Nat.{zero-add, mul-zero, mul-one, zero-mod, mod-lt, mod-eq_of_lt, not-suc-le-zero}
use native.Mathlib.Omega.{arith}
use lib.Dec.{eqb, eqb→eq}
use lib.ListN.{length, get_or, set}
use borrow.Author.Tests.{eq-eqb, ne_eqb}
use Rattle.std.proofs.Math.Nat.{mod_self}
use Rattle.modular_theory.proofs.Search.{le_or_lt, holds}
use Rattle.modular_theory.proofs.Residue.{of_eq, ◌then◌, same, add, reduce, minus_is, wrapped}
use Rattle.modular.specs.Byte.{byte_sum, byte_difference}
use Rattle.modular.proofs.Filling.{FilledTo, filled_more}
use Rattle.modular.proofs.Bytes.{byte_sum_lem, byte_difference_lem}
use Rattle.decoder.specs.Multiples.{Multiples}

-- the multiples of the levels below i
pub record Multiplied (q f : ℕ) (table : List ℕ) (i : ℕ) : Type 0 where
  pub from : 1 ≤ i
  pub within : i ≤ q
  pub written : FilledTo (λ d. (f * d) % q) 16 table i

pub multiplied_none : (q f : ℕ) (table : List ℕ) → 1 ≤ q → length table ≡ 16 → get_or table 0 0 ≡ 0 → Multiplied q f table 1
multiplied_none q f table h e z =
    record {
      from = omega arith;
      within = h;
      written = record { size = e; at = λ d l. let i : d ≡ 0 = omega arith in rw (i, z, mul-zero) (sym (zero-mod q)) };
    }

pub multiplied_more : {q f : ℕ} {table : List ℕ} {i : ℕ} → Multiplied q f table i → i < q → q ≤ 15 → f < q
    → {y : ℕ} → y ≡ byte_sum q (get_or table (i - 1) 0) f → Multiplied q f (set table i y) (i + 1)
multiplied_more {i = zero} m l b h e = absurd (not-suc-le-zero m.from)
multiplied_more {q} {f} {table} {i = suc j} m l b h {y} e =
    let some : 1 ≤ q = omega arith in
    let g : suc j - 1 ≡ j = omega arith in
    let k : f ≤ q = omega arith in
    let last : get_or table j 0 ≡ (f * j) % q = m.written.at j (omega arith) in
    let below : get_or table j 0 < q = rw last (mod-lt (f * j) some) in
    let next : f * j + f ≡ f * suc j = omega arith in
    let sum = (byte_sum_lem below k (omega arith) (rw g at e)).0 ∙ (add (of_eq last then reduce q (f * j)) (same f) then of_eq next).same in
    record { from = omega arith; within = omega arith; written = filled_more m.written (omega arith) sum }

pub multiplied_all : {q f : ℕ} {table : List ℕ} {i : ℕ} → Multiplied q f table i → q ≤ i → f < q → 2 ≤ q
    → Multiples q table × (get_or table 1 0 ≡ f)
multiplied_all {q} {f} {table} m h l two =
    let e : get_or table 1 0 ≡ f = m.written.at 1 (omega arith) ∙ rw mul-one (mod-eq_of_lt l) in
    (record { at = λ d k. m.written.at d (omega arith) ∙ ap (λ (g : ℕ). (g * d) % q) (sym e) }, e)

-- A row moved by a multiple.
pub row_moved : {q : ℕ} {table : List ℕ} → Multiples q table → q ≤ 15 → {d : ℕ} → d < q → {y : ℕ} → y ≡ get_or table d 0
    → {s r : ℕ} → s < q → r ≡ byte_sum q s y → r ≡ (s + get_or table 1 0 * d) % q
row_moved {q} {table} m b {d} l {y} e {s} h f =
    let some : 1 ≤ q = omega arith in
    let z : y ≡ (get_or table 1 0 * d) % q = e ∙ m.at d l in
    let k : y ≤ q = omega (arith, mod-lt (get_or table 1 0 * d) some) in
    (byte_sum_lem h k (omega arith) f).0 ∙ (add (same s) (of_eq z then reduce q (get_or table 1 0 * d))).same

-- A row is moved to 0 by its negative alone.

-- y is it
opposite : (q s y : ℕ) {z : ℕ} → s < q → y < q → z ≡ (q - s) % q → eqb y z ≡ eqb ((s + y) % q) 0
opposite q zero y {z} h l e =
    let q-is : q - 0 ≡ q = omega arith in
    let none : z ≡ 0 = e ∙ ap (λ (x : ℕ). x % q) q-is ∙ mod_self q in
    rw (none, zero-add, mod-eq_of_lt l)
opposite q (suc s) y {z} h l e = ⊎_elim high low (le_or_lt q (suc s + y))
  where
    z-is : z ≡ q - suc s
    z-is = e ∙ mod-eq_of_lt (omega arith)

    high : q ≤ suc s + y → eqb y z ≡ eqb ((suc s + y) % q) 0
    high k = rw (← (wrapped k (omega arith)).0) (go (eqb y z) refl)
      where
        go : (b : Bool) → eqb y z ≡ b → b ≡ eqb (suc s + y - q) 0
        go true t = let same : y ≡ z = eqb→eq y z (holds _ t) in sym (eq-eqb (suc s + y - q) 0 (omega (arith, z-is)))
        go false f =
            let other : y ≡ z → ⊥ = λ g. true≢false (sym (eq-eqb y z g) ∙ f) in
            sym (ne_eqb (suc s + y - q) 0 (λ g. other (omega (arith, z-is))))

    low : suc s + y < q → eqb y z ≡ eqb ((suc s + y) % q) 0
    low k =
        ne_eqb y z (λ g. omega (arith, z-is))
        ∙ sym (ne_eqb ((suc s + y) % q) 0 (λ g. let r : (suc s + y) % q ≡ suc s + y = mod-eq_of_lt k in omega arith))

pub row_zero : {q : ℕ} {table : List ℕ} → Multiples q table → q ≤ 15 → {d : ℕ} → d < q → {s : ℕ} → s < q → {z : ℕ} → z ≡ byte_difference q 0 s
    → eqb (get_or table d 0) z ≡ eqb ((s + get_or table 1 0 * d) % q) 0
row_zero {q} {table} m b {d} l {s} h {z} e =
    let some : 1 ≤ q = omega arith in
    let below : get_or table d 0 < q = rw (m.at d l) (mod-lt (get_or table 1 0 * d) some) in
    let upto : s ≤ q = omega arith in
    let negative : z ≡ (q - s) % q =
    (byte_difference_lem some upto (omega arith) e).0 ∙ sym (minus_is q 0 s some upto) ∙ ap (λ (x : ℕ). x % q) (zero-add (q - s)) in
    opposite q s (get_or table d 0) h below negative
    ∙ ap (λ (x : ℕ). eqb x 0) (add (same s) (of_eq (m.at d l) then reduce q (get_or table 1 0 * d))).same
