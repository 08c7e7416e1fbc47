-- The answer to a line by its order of refusals: 9 where the form is wrong, and otherwise what Read answers.
-- Assumes nothing.
use mathlib.Core.Path.{◌≡◌, ap}
use mathlib.Core.Bool.{true, false, ◌&&◌}
use mathlib.Core.List.{List, [], ◌∷◌}
use Prim.Native.Nat.{ℕ}
use Rattle.modular_theory.proofs.Search.{holds}
use Rattle.code_theory.specs.Refusal.{Test, asks}
use Rattle.code_theory.specs.Operations.{decode_answer}
use Rattle.code_theory.proofs.Refusal.{past, stops}
use Rattle.lines_theory.specs.Line.{is_short, has_form, profile_of, symbols_of, refusal_line}
use Rattle.lines_theory.specs.Line.{answer_line, read_tests, read_answer, line_unless}
use Rattle.lines_theory.specs.Line.{line_answer}

module _ (l : List ℕ) where
  abbrev form : Test
  form = asks (is_short l && has_form l) 9

  abbrev later : List Test
  later = read_tests (profile_of l) (symbols_of l)

  pub line_bad : is_short l && has_form l ≡ false → line_answer l ≡ refusal_line 9
  unfolding line_answer
  line_bad e = ap (λ (n : ℕ). line_unless n l) (stops [] form later tt e)

  pub line_good : is_short l && has_form l ≡ true → line_answer l ≡ answer_line (profile_of l) (read_answer (profile_of l) (symbols_of l))
  unfolding line_answer read_answer decode_answer
  line_good e = ap (λ (n : ℕ). line_unless n l) (past (form ∷ []) later (holds _ e, tt))
