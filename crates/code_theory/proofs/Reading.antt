-- At most one codeword is near a word, since two such would differ in at most two positions; so the search finds that one, at the position
-- in which it differs, and demand 3 follows.
-- Assumes nothing.
use mathlib.Core.Path.{◌≡◌, sym, ap, subst, ◌∙◌}
use mathlib.Core.Logic.{⊎_elim, ◌≢◌, ◌↔◌}
use mathlib.Core.Bool.{true, false}
use mathlib.Core.List.{List}
use Prim.Native.Nat.{ℕ, ◌≤◌, ◌<◌}
use native.Mathlib.Nat.{ne_of_lt, not-le_of_lt, le_of_suc-le-suc}
use native.Mathlib.Omega.{arith}
use lib.Dec.{T, ltb}
use lib.ListN.{length, get_or, set, length-set}
use lib.Seq.{get_or-set_same, get_or-set_other, lt-length-set}
use borrow.Author.Tests.{lt-ltb, le-ltb}
use Rattle.modular_theory.specs.Search.{any_below}
use Rattle.modular_theory.proofs.Search.{passes, fails, le_of_not_lt, least_hit, least_is, any_of, any_at}
use Rattle.code_theory.specs.Parameters.{Parameters, Sized, codeword_length}
use Rattle.code_theory.specs.Component.{is_word}
use Rattle.code_theory.specs.Codeword.{codeword}
use Rattle.code_theory.specs.Reading.{distance, Finding, correction_at, read, unreadable, clean, corrected}
use Rattle.code_theory.specs.Reading.{finding_of, read_as, mends, changed_at, sent_at, near_reading, reading}
use Rattle.code_theory.specs.Claims.{NearCodeword, OneNear, NearIsOne, Reads, ReadingIs, Corrects, ReadingCorrects}
use Rattle.code_theory.proofs.Columns.{q_positive}
use Rattle.code_theory.proofs.Symbols.{symbol_below, symbols_set}
use Rattle.code_theory.proofs.Distance.{distance_self, distance_sym, distance_set, triangle, OneApart, one_apart}
use Rattle.code_theory.proofs.Merge.{word_length, word_of}
use Rattle.code_theory.proofs.Found.{found_clean, found_differing, found_sent}
use Rattle.code_theory.proofs.Conditions.{conditions}
use Rattle.code_theory.proofs.Apart.{apart}

pub never : {f : Finding} {a b : List ℕ} → read f a b ≡ unreadable → ⊥
never e = let z : ◌≡◌ {A = ℕ} 0 1 = cc in omega arith

-- the reading by its two tests
module _ (p : Parameters) (u : List ℕ) where
  reads_clean : codeword p u ≡ true → reading p u ≡ read_as p clean u
  unfolding reading
  reads_clean e = rw (e, reading)

  reads_near : codeword p u ≡ false → reading p u ≡ near_reading p u
  unfolding reading
  reads_near e = rw (e, reading)

  near_found : (i y : ℕ) (v : List ℕ) → changed_at p u ≡ i → i < length u → sent_at p u i ≡ y → set u i y ≡ v
      → near_reading p u ≡ read_as p (corrected (correction_at i (get_or u i 0) y)) v
  unfolding near_reading
  near_found i y v a l b c =
      let t : ltb (changed_at p u) (length u) ≡ true = ap (λ (x : ℕ). ltb x (length u)) a ∙ lt-ltb i (length u) l in
      rw (t, near_reading, a, b, c)

  near_none : length u ≤ changed_at p u → near_reading p u ≡ unreadable
  unfolding near_reading
  near_none l =
      let t : ltb (changed_at p u) (length u) ≡ false = le-ltb (changed_at p u) (length u) l in
      rw (t, near_reading)

-- two codewords near one word differ in at most two positions
pub near_is_one : NearIsOne
near_is_one p s prime v word u w a b =
    let c = conditions p (q_positive p s) u a.is_codeword in
    let d = conditions p (q_positive p s) w b.is_codeword in
    let n : length v ≡ codeword_length p = word_length p.q (codeword_length p) v word in
    let both = triangle u v w (c.long ∙ sym n) (n ∙ sym d.long) in
    apart p s prime u w a.is_codeword b.is_codeword (omega (arith, both, a.close, b.close, distance_sym v w))

-- What is read where at most one codeword is near.
module _ (p : Parameters) (s : Sized p) (one : OneNear p) (v : List ℕ) (word : T (is_word p.q (codeword_length p) v)) where
  long : length v ≡ codeword_length p
  long = word_length p.q (codeword_length p) v word

  pub near_self : T (codeword p v) → NearCodeword p v v
  near_self h = record { is_codeword = h; close = omega (arith, distance_self v) }

  -- a level mends v exactly where it makes a codeword near it
  pub near_mends : (i y : ℕ) → T (mends p v i y) → NearCodeword p v (set v i y)
  unfolding mends
  near_mends i y h = record { is_codeword = h; close = omega (arith, distance_sym v (set v i y), distance_set v i y) }

  pub mends_near : (i y : ℕ) → NearCodeword p v (set v i y) → T (mends p v i y)
  unfolding mends
  mends_near i y n = n.is_codeword

  -- u, the codeword near v, is v with the symbol at index i as it was sent
  module _ (u : List ℕ) (near : NearCodeword p v u) (i : ℕ) (l : i < length v) (ne : get_or u i 0 ≢ get_or v i 0)
      (back : set v i (get_or u i 0) ≡ u) where
    is_sent : (j x : ℕ) → T (mends p v j x) → u ≡ set v j x
    is_sent j x k = one v word u (set v j x) near (near_mends j x k)

    undoes : T (mends p v i (get_or u i 0))
    undoes = mends_near i (get_or u i 0) (subst (NearCodeword p v) (sym back) near)

    not_codeword : T (codeword p v) → ⊥
    not_codeword k = ne (ap (λ (x : List ℕ). get_or x i 0) (one v word u v near (near_self k)))

    below : get_or u i 0 < p.q
    below = symbol_below p.q (q_positive p s) u (conditions p (q_positive p s) u near.is_codeword).below i

    -- no index before i will do, and no symbol before the one sent
    not_before : (j : ℕ) → j < i → T (any_below (mends p v j) p.q) → ⊥
    not_before j b k =
        let (x, _, c) = any_at (mends p v j) p.q k in
        ne (ap (λ (z : List ℕ). get_or z i 0) (is_sent j x c) ∙ get_or-set_other v j i x 0 (λ (e : i ≡ j). ne_of_lt b (sym e)))

    not_below : (x : ℕ) → x < get_or u i 0 → T (mends p v i x) → ⊥
    not_below x b k = ne_of_lt b (sym (ap (λ (z : List ℕ). get_or z i 0) (is_sent i x k) ∙ get_or-set_same v i x 0 l))

    position : changed_at p v ≡ i
    unfolding changed_at
    position =
        least_is (λ j. any_below (mends p v j) p.q) (length v) i l (any_of (mends p v i) p.q (get_or u i 0) below undoes) not_before

    symbol : sent_at p v i ≡ get_or u i 0
    unfolding sent_at
    symbol = least_is (mends p v i) p.q (get_or u i 0) below undoes not_below

    changed : reading p v ≡ read_as p (finding_of v u) u
    changed =
        let found : finding_of v u ≡ corrected (correction_at i (get_or v i 0) (get_or u i 0)) =
        ap (finding_of v) (sym back) ∙ found_sent v i (get_or u i 0) l ne in
        reads_near p v (fails not_codeword) ∙ near_found p v i (get_or u i 0) u position l symbol back
        ∙ ap (λ (f : Finding). read_as p f u) (sym found)

  sent : (u : List ℕ) → NearCodeword p v u → reading p v ≡ read_as p (finding_of v u) u
  sent u near =
      ⊎_elim
      (λ (e : u ≡ v).
      let h : codeword p v ≡ true = passes (subst (λ (x : List ℕ). T (codeword p x)) e near.is_codeword) in
      rw e (reads_clean p v h ∙ ap (λ (f : Finding). read_as p f v) (sym (found_clean v))))
      (λ (c : OneApart u v). changed u near c.i (subst (λ (x : ℕ). c.i < x) (same ∙ sym long) c.within) c.unequal c.back)
      (one_apart u v (same ∙ sym long) near.close)
    where
      same : length u ≡ codeword_length p
      same = (conditions p (q_positive p s) u near.is_codeword).long

  none : ((u : List ℕ) → NearCodeword p v u → ⊥) → reading p v ≡ unreadable
  unfolding changed_at
  none f = reads_near p v (fails (λ k. f v (near_self k))) ∙ near_none p v (le_of_not_lt unmended)
    where
      unmended : changed_at p v < length v → ⊥
      unmended l =
          let m : ℕ = changed_at p v in
          let (y, _, k) = any_at (mends p v m) p.q (least_hit (λ i. any_below (mends p v i) p.q) (length v) l) in
          f (set v m y) (near_mends m y k)

pub reading_is : ReadingIs
reading_is p s one v word = record { sent = sent p s one v word; none = none p s one v word }

-- a codeword, and a codeword with a symbol changed, are words of the right length and levels
module _ (p : Parameters) (s : Sized p) (u : List ℕ) (h : T (codeword p u)) where
  pub codeword_word : T (is_word p.q (codeword_length p) u)
  codeword_word = let l = conditions p (q_positive p s) u h in word_of p.q (codeword_length p) u l.long l.below

  pub changed_word : (i y : ℕ) → y < p.q → T (is_word p.q (codeword_length p) (set u i y))
  changed_word i y b =
      let l = conditions p (q_positive p s) u h in
      word_of p.q (codeword_length p) (set u i y) (length-set u i y ∙ l.long) (symbols_set p.q u i y b l.below)

-- Demand 3, where the near codeword is within one position.
module _ (p : Parameters) (s : Sized p) (one : OneNear p) where
  reads : (v : List ℕ) → T (is_word p.q (codeword_length p) v) → Reads p v
  reads = reading_is p s one

  near_changed : (u : List ℕ) → T (codeword p u) → (i y : ℕ) → NearCodeword p (set u i y) u
  near_changed u h i y = record { is_codeword = h; close = distance_set u i y }

  changed_sent : (u : List ℕ) → T (codeword p u) → (i y : ℕ) → i < codeword_length p → y < p.q → y ≢ get_or u i 0
      → reading p (set u i y) ≡ read_as p (corrected (correction_at i y (get_or u i 0))) u
  changed_sent u h i y l b ne =
      let within : i < length u = subst (λ (x : ℕ). i < x) (sym (conditions p (q_positive p s) u h).long) l in
      let here : get_or (set u i y) i 0 ≡ y = get_or-set_same u i y 0 within in
      let found : finding_of (set u i y) u ≡ corrected (correction_at i y (get_or u i 0)) =
      found_differing (set u i y) u i (lt-length-set u i y within) (λ e. ne (sym here ∙ e)) (λ j d. get_or-set_other u i j y 0 d)
      ∙ ap (λ (x : ℕ). corrected (correction_at i x (get_or u i 0))) here in
      (reads (set u i y) (changed_word p s u h i y b)).sent u (near_changed u h i y) ∙ ap (λ (f : Finding). read_as p f u) found

  others : (u v : List ℕ) → T (codeword p u) → T (codeword p v) → v ≢ u → (i y : ℕ) → y < p.q → 2 ≤ distance v (set u i y)
  others u v hu hv ne i y b =
      le_of_not_lt
      (λ (d : distance v (set u i y) < 2).
      ne
      (one (set u i y) (changed_word p s u hu i y b) v u (record { is_codeword = hv; close = le_of_suc-le-suc d }) (near_changed u hu i y)))

  -- a word is refused exactly when no codeword is near it
  refused : (v : List ℕ) → T (is_word p.q (codeword_length p) v)
      → (reading p v ≡ unreadable) ↔ ((u : List ℕ) → T (codeword p u) → 2 ≤ distance u v)
  refused v word = (
    λ e u h. le_of_not_lt (λ d. never (sym ((reads v word).sent u (record { is_codeword = h; close = le_of_suc-le-suc d })) ∙ e)),
    λ f. (reads v word).none (λ u near. not-le_of_lt (f u near.is_codeword) near.close),
  )

  corrects : Corrects p
  corrects =
      record {
        unchanged =
            λ u h.
            let w = codeword_word p s u h in
            (reads u w).sent u (near_self p s one u w h) ∙ ap (λ (f : Finding). read_as p f u) (found_clean u);
        changed = changed_sent;
        others = λ u v hu hv ne i y l b. others u v hu hv ne i y b;
        refused = refused;
      }

pub reading_corrects : ReadingCorrects
reading_corrects p s prime = corrects p s (near_is_one p s prime)
