-- What a check of the queue tells of it, and of the answer of every operation.
-- Assumes nothing.
use mathlib.Core.Path.{◌≡◌, refl, sym, ap, subst, ◌∙◌}
use mathlib.Core.Logic.{◌≢◌, ◌⊎◌, inl, inr, ⊎_elim}
use mathlib.Core.Bool.{not, ◌&&◌}
use mathlib.Core.List.{List, [], ◌∷◌, ◌++◌}
use Prim.Native.Nat.{ℕ, zero, suc, ◌≤◌}
use native.Mathlib.Nat.{suc-ne-zero, not-suc-le-zero, le_of_suc-le-suc}
use native.Mathlib.Omega.{arith}
use lib.Dec.{eqb, leb}
use lib.ListN.{length, get_or, take}
use lib.Seq.{take_all}
use Rattle.std.specs.Prelude.{Err}
use Rattle.refusals.specs.declared.Refusal.{Refusal}
use Rattle.refusals.specs.Number.{number_of}
use Rattle.refusals.proofs.Claims.{none_is_success}
use Rattle.code_theory.specs.Refusal.{Test, first_refusal, on_success}
use Rattle.code_theory.proofs.Refusal.{refused_first}
use Rattle.queue_theory.specs.Lists.{last_of}
use Rattle.queue_theory.specs.Chains.{used, last_used}
use Rattle.queue_theory.specs.Sound.{Queue}
use Rattle.queue_theory.specs.Operations.{sound_tests, cell_of}
use Rattle.queue_theory.proofs.Lists.{lists_of, fill}
use Rattle.queue_theory.proofs.Answers.{queue_by}
use Rattle.queue_theory.proofs.Laws.{length_records}
use Rattle.queue_theory.proofs.Rule.{found_same}
use Rattle.soundness.specs.Checked.{reached, CheckReport, check_report, checked_report, check_answer}

-- a sound queue with the cell and the number of records that the check gave
pub record SoundAnswer (s : List ℕ) (k cell n : ℕ) : Type 0 where
  pub queue : Queue s
  pub cell_is : cell ≡ reached s k
  pub records_is : n ≡ length (used s)

-- a refusal is every operation's
pub record Refused (s : List ℕ) (n : ℕ) : Type 0 where
  pub nonzero : n ≢ 0
  pub answer : (own : List Test) → n ≡ first_refusal (sound_tests s ++ own)

module _ (s : List ℕ) (k : ℕ) where
  -- the report of a sound queue
  abbrev found : CheckReport
  found = check_report 0 (reached s k) (length (used s))

  -- the report by the number
  abbrev report_by : ℕ → CheckReport
  report_by n = check_report n (on_success n (reached s k) 0) (on_success n (length (used s)) 0)

  either : (Queue s × (check_answer s k ≡ found)) ⊎ Refused s (check_answer s k).number
  unfolding check_answer
  either = go (first_refusal (sound_tests s)) refl
    where
      go : (n : ℕ) → first_refusal (sound_tests s) ≡ n → (Queue s × (check_answer s k ≡ found)) ⊎ Refused s (check_answer s k).number
      go zero e = inl (queue_by s e, ap report_by e)
      go (suc n) e =
          let refuses : first_refusal (sound_tests s) ≢ 0 = λ z. suc-ne-zero n (sym e ∙ z) in
          inr (record { nonzero = refuses; answer = λ own. sym (refused_first (sound_tests s) own refuses) })

  pub told_sound : (cell n : ℕ) → check_report 0 cell n ≡ check_answer s k → SoundAnswer s k cell n
  told_sound cell n e =
      ⊎_elim
      (λ (w : Queue s × (check_answer s k ≡ found)).
      record { queue = w.0; cell_is = ap CheckReport.cell (e ∙ w.1); records_is = ap CheckReport.records (e ∙ w.1) })
      (λ (r : Refused s (check_answer s k).number). absurd (r.nonzero (ap CheckReport.number (sym e)))) either

  pub told_unsound : (r : Refusal) → checked_report (Err r) ≡ check_answer s k → Refused s (number_of r)
  told_unsound r e =
      ⊎_elim
      (λ (w : Queue s × (check_answer s k ≡ found)). absurd (none_is_success r (ap CheckReport.number (e ∙ w.1))))
      (λ (f : Refused s (check_answer s k).number). subst (λ (y : CheckReport). Refused s y.number) (sym e) f) either

-- the cell that the list leads to in k steps is record k's
at_step : (l : List ℕ) (a k : ℕ) → k ≤ length l → get_or (a ∷ l) k 0 ≡ last_of a (take k l)
at_step l a zero h = refl
at_step [] a (suc k) h = absurd (not-suc-le-zero h)
at_step (b ∷ l) a (suc k) h = at_step l b k (le_of_suc-le-suc h)

module _ (s : List ℕ) (k cell n : ℕ) (t : SoundAnswer s k cell n) where
  -- there is a record k
  pub found_is : (leb 1 k && leb k n) ≡ not (eqb (cell_of s k) 0)
  found_is = ap (λ (m : ℕ). leb 1 k && leb k m) (t.records_is ∙ sym (length_records s)) ∙ sym (found_same s t.queue k)

  pub found_at : k ≤ n → cell ≡ cell_of s k
  unfolding cell_of reached
  found_at h = t.cell_is ∙ sym (at_step (used s) 0 k (omega (arith, t.records_is)))

-- there are at most 255 used cells
pub last_at : (s : List ℕ) (cell n : ℕ) → SoundAnswer s 255 cell n → cell ≡ last_used s
unfolding last_used reached
last_at s cell n t =
    let ls = lists_of s t.queue in
    t.cell_is ∙ ap (last_of 0) (take_all 255 (used s) (omega (arith, fill ls, ls.size.few)))
