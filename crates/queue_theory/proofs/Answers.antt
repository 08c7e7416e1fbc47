-- What an answer of an operation says of the tests before it.
-- Assumes nothing.
use mathlib.Core.Path.{◌≡◌, refl, sym, subst}
use mathlib.Core.Logic.{◌≢◌}
use mathlib.Core.Bool.{Bool, true, false, not}
use mathlib.Core.List.{List, ◌++◌}
use Prim.Native.Nat.{ℕ}
use native.Mathlib.Omega.{arith}
use lib.Dec.{T, eqb, eqb→eq, T_not}
use lib.ListN.{length}
use Rattle.code_theory.specs.Refusal.{Test, first_refusal}
use Rattle.code_theory.specs.Parameters.{codeword_length}
use Rattle.code_theory.specs.Component.{is_received}
use Rattle.code_theory.specs.Profiles.{is_profile, profile}
use Rattle.code_theory.proofs.Refusal.{AllPass, absent, passed, passed_every, past, failed}
use Rattle.queue_theory.specs.Layout.{cell_size, first_free}
use Rattle.queue_theory.specs.Sound.{is_box, Queue}
use Rattle.queue_theory.specs.Operations.{sound_tests, record_tests, room_tests, enqueue_tests}
use Rattle.queue_theory.specs.Operations.{show_tests, enqueue_answer, cell_of, peek_answer}

pub nonzero : (x : ℕ) → T (not (eqb x 0)) → x ≢ 0
nonzero x h e = T_not (eqb x 0) h (subst (λ (k : ℕ). T (eqb k 0)) (sym e) tt)

pub zero_of : (x : ℕ) → not (eqb x 0) ≡ false → x ≡ 0
zero_of x e = go (eqb x 0) refl e
  where
    go : (b : Bool) → eqb x 0 ≡ b → not b ≡ false → x ≡ 0
    go true q r = eqb→eq x 0 (subst T (sym q) tt)
    go false q r = let z : T false = subst T r tt in absurd z

-- bytes whose tests pass are a sound queue
queue_of : (s : List ℕ) → AllPass (sound_tests s) → Queue s
queue_of s (size, (is_sound, none)) = record { size = size; is_sound = is_sound }

pub queue_by : (s : List ℕ) → first_refusal (sound_tests s) ≡ 0 → Queue s
queue_by s e = queue_of s (passed_every (sound_tests s) tt e)

-- 5 and 6 are not the answer
sound_of : (s : List ℕ) (own : List Test) {k : ℕ} → T (absent k (sound_tests s)) → first_refusal (sound_tests s ++ own) ≡ k
    → Queue s × (first_refusal own ≡ k)
sound_of s own a h = let (sounds, rest) = passed (sound_tests s) own a h in (queue_of s sounds, rest)

pub on_sound : (s : List ℕ) (own : List Test) → Queue s → first_refusal (sound_tests s ++ own) ≡ first_refusal own
on_sound s own q = past (sound_tests s) own (q.size, (q.is_sound, tt))

-- what enqueue has tested of a record before it looks for room
pub record AdmittedRecord (b p : ℕ) (w : List ℕ) : Type 0 where
  pub box : T (is_box b)
  pub profiled : T (is_profile p)
  pub long : length w ≡ codeword_length (profile p)
  pub symbols : T (is_received (profile p) w)

admitted : (b p : ℕ) (w : List ℕ) → AllPass (record_tests b p w) → AdmittedRecord b p w
admitted b p w (box, (profiled, (long, (symbols, none)))) =
    record { box = box; profiled = profiled; long = eqb→eq (length w) (codeword_length (profile p)) long; symbols = symbols }

-- enqueue succeeds
pub record Entering (s : List ℕ) (b p : ℕ) (w : List ℕ) : Type 0 where
  pub queue : Queue s
  pub admits : AdmittedRecord b p w
  pub room : first_free s ≢ 0

pub entering : (s : List ℕ) (b p : ℕ) (w : List ℕ) → enqueue_answer s b p w ≡ 0 → Entering s b p w
unfolding enqueue_answer
entering s b p w h =
    let room = not (eqb (first_free s) 0) in
    let (queue, own) = sound_of s (enqueue_tests room b p w) tt h in
    let (right, last) = passed (record_tests b p w) (room_tests room) tt own in
    let free = passed_every (room_tests room) tt last in
    record { queue = queue; admits = admitted b p w right; room = nonzero (first_free s) free.0 }

-- enqueue finds no free cell
pub full : (s : List ℕ) (b p : ℕ) (w : List ℕ) → enqueue_answer s b p w ≡ 8 → Queue s × (first_free s ≡ 0)
unfolding enqueue_answer
full s b p w h =
    let room = not (eqb (first_free s) 0) in
    let (queue, own) = sound_of s (enqueue_tests room b p w) tt h in
    let (right, last) = passed (record_tests b p w) (room_tests room) tt own in
    (queue, zero_of (first_free s) (failed room 8 (omega arith) last))

-- peek succeeds
pub record Showing (s : List ℕ) (k : ℕ) (out : List ℕ) : Type 0 where
  pub queue : Queue s
  pub long : length out ≡ cell_size
  pub found : cell_of s k ≢ 0

pub showing : (s : List ℕ) (k : ℕ) (out : List ℕ) → peek_answer s k out ≡ 0 → Showing s k out
unfolding peek_answer
showing s k out h =
    let found = not (eqb (cell_of s k) 0) in
    let (queue, own) = sound_of s (show_tests found out) tt h in
    let (long, (there, none)) = passed_every (show_tests found out) tt own in
    record { queue = queue; long = eqb→eq (length out) cell_size long; found = nonzero (cell_of s k) there }
