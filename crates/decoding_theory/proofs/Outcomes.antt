-- The reading in each case that the algorithm tells apart: where it answers with a codeword, that codeword is within one position of what
-- arrived; where it refuses, no codeword within one position passes the tests.
-- Assumes nothing.
use mathlib.Core.Path.{◌≡◌, sym, ap, ap₂, subst, ◌∙◌}
use mathlib.Core.Logic.{◌≢◌}
use mathlib.Core.Bool.{Bool, true, false, not}
use mathlib.Core.List.{List}
use Prim.Native.Nat.{ℕ, ◌≤◌, ◌<◌}
use native.Mathlib.Nat.{mod-lt}
use native.Mathlib.Omega.{arith}
use lib.Dec.{T}
use lib.ListN.{length, get_or, set, length-set}
use lib.IntN.{pos}
use lib.Seq.{get_or-set_same}
use Rattle.modular_theory.specs.Sum.{weight}
use Rattle.modular_theory.proofs.Integer.{nothing_away}
use Rattle.code_theory.specs.Parameters.{Parameters, Sized, codeword_length}
use Rattle.code_theory.specs.Component.{is_word}
use Rattle.code_theory.specs.Codeword.{alpha, beta, body, carried}
use Rattle.code_theory.specs.Reading.{Finding, correction_at, read, unreadable, clean, corrected, read_as, mends, reading}
use Rattle.code_theory.specs.Claims.{OneNear}
use Rattle.code_theory.proofs.Columns.{q_positive}
use Rattle.code_theory.proofs.Merge.{word_length}
use Rattle.decoding_theory.specs.Syndromes.{near_syndromes, index}
use Rattle.decoding_theory.specs.Decoded.{check_symbol, check_index, Sums, balancing_symbol, near_after}
use Rattle.decoding_theory.specs.Decoded.{fits, position_count, read_by, read_fit, decoded_check, moved_sums, lack}
use Rattle.decoding_theory.proofs.Tests.{for_both}
use Rattle.decoding_theory.proofs.Components.{read_by_lem}
use Rattle.decoding_theory.proofs.Answers.{Tests, tests_codeword, reads_sent, reads_changed}
use Rattle.decoding_theory.proofs.Changed.{index_within, check_within, body_kept, other_kept, Summed, weighs_target, changed}
use Rattle.decoding_theory.proofs.Fits.{Fit, fit, word_set, fit_codeword}
use Rattle.decoding_theory.proofs.Nearby.{Nearby, as_sent, check_changed, body_changed}
use Rattle.decoding_theory.proofs.Nearby.{received_kept, components_kept, near_is, none_nearby}

pub check_below : (q : ℕ) → 1 ≤ q → (b : Bool) (w : List ℕ) → check_symbol q b w < q
unfolding alpha beta
check_below q h true w = mod-lt _ h
check_below q h false w = mod-lt _ h

-- with a changed check symbol a word carries the same pair
carried_kept : (p : Parameters) (v : List ℕ) (b : Bool) (y : ℕ) (c : Bool) → carried p c (set v (check_index p b) y) ≡ carried p c v
unfolding carried
carried_kept p v b y c = rw received_kept

module _ (p : Parameters) (s : Sized p) (one : OneNear p) {v : List ℕ} (w : T (is_word p.q (codeword_length p) v)) {t : Sums}
    (m : Summed p v t) where
  long : length v ≡ codeword_length p
  long = word_length p.q (codeword_length p) v w

  -- the answer for v itself, by its syndromes
  read_here : (f : Finding) → T (near_syndromes p t.first t.second) → read_by p f v t.first t.second ≡ read_as p f v
  read_here f n = read_by_lem p s v long m.first m.second f n

  -- Answers.

  pub clean_reading : t.excess ≡ pos 0 → T (near_syndromes p t.first t.second) → ((b : Bool) → t.asked b ≡ t.arrived b)
      → reading p v ≡ read_by p clean v t.first t.second
  clean_reading a n r =
      reads_sent p s one v w
      (tests_codeword p v
      (record {
        word = w;
        weighs = weighs_target m a;
        checks = λ b. sym (m.asked b) ∙ r b ∙ m.arrived b;
        near = subst T (near_is p s w m) n;
      }))
      ∙ sym (read_here clean n)

  -- the check symbol that is wrong is the one that changed
  pub check_reading : (b : Bool) → t.excess ≡ pos 0 → T (near_syndromes p t.first t.second) → t.asked (not b) ≡ t.arrived (not b)
      → t.asked b ≢ t.arrived b → reading p v ≡ decoded_check p t b v
  unfolding decoded_check mends
  check_reading b a n r ne =
      reads_changed p s one v w i y (check_within p b) (λ e. ne (e ∙ sym (m.arrived b))) (tests_codeword p u tests)
      ∙ ap₂ (read (corrected (correction_at i (get_or v i 0) y))) (carried_kept p v b y true) (carried_kept p v b y false)
      ∙ ap (λ (x : ℕ). read_as p (corrected (correction_at i x y)) v) (sym (m.arrived b))
      ∙ sym (read_here (corrected (correction_at i (t.arrived b) y)) n)
    where
      i : ℕ
      i = check_index p b

      y : ℕ
      y = t.asked b

      u : List ℕ
      u = set v i y

      same_body : body p u ≡ body p v
      same_body = body_kept p v b y

      tests : Tests p u
      tests =
          record {
            word = word_set p v i y w (rw (m.asked b) (check_below p.q (q_positive p s) b (body p v)));
            weighs = ap weight same_body ∙ weighs_target m a;
            checks =
                for_both b (λ c. check_symbol p.q c (body p u) ≡ get_or u (check_index p c) 0)
                (ap (check_symbol p.q b) same_body ∙ sym (m.asked b)
                ∙ sym (get_or-set_same v i y 0 (subst (λ (k : ℕ). i < k) (sym long) (check_within p b))))
                (ap (check_symbol p.q (not b)) same_body ∙ sym (m.asked (not b)) ∙ r ∙ m.arrived (not b) ∙ sym (other_kept p v b y));
            near = subst T (near_is p s w m ∙ sym (components_kept p v b y)) n;
          }

  -- an index that fits, whichever, is the one that changed
  pub fit_reading : (b : Bool) (k : ℕ) → k < position_count p b → t.excess ≢ pos 0 → t.asked (not b) ≡ t.arrived (not b)
      → T (fits p t b k (get_or v (index b k) 0)) → reading p v ≡ read_fit p t b k v
  unfolding read_fit near_after mends
  fit_reading b k l a r f =
      reads_changed p s one v w i y inside differs (fit_codeword p s w m b k y l g r)
      ∙ sym (read_by_lem p s (set v i y) (length-set v i y ∙ long) moved.first moved.second found g.near)
    where
      i : ℕ
      i = index b k

      y : ℕ
      y = balancing_symbol p t (get_or v i 0)

      g : Fit p t b k (get_or v i 0) y
      g = fit p t b k (get_or v i 0) f

      found : Finding
      found = corrected (correction_at i (get_or v i 0) y)

      inside : i < codeword_length p
      inside = omega (arith, index_within p b k l)

      differs : y ≢ get_or v i 0
      differs e = a (nothing_away (pos (get_or v i 0)) t.excess (g.balances ∙ ap pos e))

      moved : Summed p (set v i y) (moved_sums p b k (lack p t) (pos 0) t)
      moved = changed p s long m b k y l g.balances

  -- Refusals.

  -- a balanced body, where it is not that the syndromes are near and a check symbol is right
  balanced_refused : t.excess ≡ pos 0 → (T (near_syndromes p t.first t.second) → (b : Bool) → t.asked b ≡ t.arrived b → ⊥)
      → reading p v ≡ unreadable
  balanced_refused a f = none_nearby p s w m one go
    where
      go : Nearby p t v → ⊥
      go (as_sent x n h) = f n true (h true)
      go (check_changed c x n h) = f n (not c) h
      go (body_changed c k x h g l o) = x a

  pub far_refused : t.excess ≡ pos 0 → (T (near_syndromes p t.first t.second) → ⊥) → reading p v ≡ unreadable
  far_refused a f = balanced_refused a (λ n b h. f n)

  -- two wrong check symbols
  pub checks_refused : t.excess ≡ pos 0 → ((b : Bool) → t.asked b ≢ t.arrived b) → reading p v ≡ unreadable
  checks_refused a f = balanced_refused a (λ n b h. f b h)

  -- no index of the parity b fits
  abbrev Unfit : Bool → Type 0
  Unfit b = (k : ℕ) → k < position_count p b → T (fits p t b k (get_or v (index b k) 0)) → ⊥

  -- an unbalanced body, where none does of a parity whose check symbol alone is wrong
  unbalanced_refused : t.excess ≢ pos 0 → ((b : Bool) → t.asked (not b) ≡ t.arrived (not b) → t.asked b ≢ t.arrived b → Unfit b)
      → reading p v ≡ unreadable
  unbalanced_refused a f = none_nearby p s w m one go
    where
      go : Nearby p t v → ⊥
      go (as_sent x n h) = a x
      go (check_changed c x n h) = a x
      go (body_changed c k x h g l o) = f c h g k l o

  -- two right check symbols, or two wrong ones
  pub right_refused : t.excess ≢ pos 0 → ((b : Bool) → t.asked b ≡ t.arrived b) → reading p v ≡ unreadable
  right_refused a f = unbalanced_refused a (λ b h g k l o. g (f b))

  pub wrong_refused : t.excess ≢ pos 0 → ((b : Bool) → t.asked b ≢ t.arrived b) → reading p v ≡ unreadable
  wrong_refused a f = unbalanced_refused a (λ b h g k l o. f (not b) h)

  -- the other check symbol is right
  pub unfit_refused : (b : Bool) → t.excess ≢ pos 0 → t.asked (not b) ≡ t.arrived (not b) → Unfit b → reading p v ≡ unreadable
  unfit_refused b a r f =
      unbalanced_refused a (λ c h g. for_both b (λ c. t.asked c ≢ t.arrived c → Unfit c) (λ g. f) (λ g. absurd (g r)) c g)
