-- Syndromes count by their remainders mod q alone: the position of an error is the same for rows that are reduced.
-- Assumes nothing.
use mathlib.Core.Path.{◌≡◌, ap, ap₂, fun_ext}
use mathlib.Core.Bool.{Bool, true, false, ◌&&◌}
use mathlib.Core.List.{List}
use Prim.Native.Nat.{ℕ, ◌+◌, ◌*◌, ◌%◌, ◌<◌}
use lib.Dec.{ltb}
use lib.ListN.{get_or}
use lib.IntN.{ℤ}
use Rattle.modular_theory.specs.Residue.{Congruent}
use Rattle.modular_theory.specs.Search.{least}
use Rattle.modular_theory.proofs.Residue.{of_eq, same, ◌then◌, add, reduce}
use Rattle.code_theory.specs.Parameters.{Parameters}
use Rattle.decoding_theory.specs.Syndromes.{near_syndromes, column_entry, moved, index, column_of, times, moved_of}
use Rattle.decoding_theory.specs.Decoded.{position_count}
use Rattle.decoding_theory.proofs.Value.{tabulate_same}
use Rattle.locating_theory.specs.ErrorPosition.{is_error, gain_without, near_with, near_without, error_index, at, nowhere, error_position}

-- the rows of R are those of S mod q
pub record Reduced (p : Parameters) (R S : List ℕ) : Type 0 where
  pub row : (j : ℕ) → j < p.r → get_or R j 0 ≡ get_or S j 0 % p.q

module _ {p : Parameters} {R S : List ℕ} (h : Reduced p R S) where
  row_same : (j : ℕ) → j < p.r → Congruent p.q (get_or R j 0) (get_or S j 0)
  row_same j l = of_eq (h.row j l) then reduce p.q (get_or S j 0)

  moved_reduced : (c b : Bool) (k g : ℕ) → moved_of p c b k g R ≡ moved_of p c b k g S
  unfolding moved_of moved
  moved_reduced c b k g =
      let more : ℕ → ℕ = λ j. times p c b g * column_entry p j (column_of c b k) in
      tabulate_same (λ j. (get_or R j 0 + more j) % p.q) (λ j. (get_or S j 0 + more j) % p.q) p.r
      (λ j l. (add (row_same j l) (same (more j))).same)

module _ {p : Parameters} {R R' S S' : List ℕ} (h : Reduced p R S) (h' : Reduced p R' S') (b : Bool) (e : ℤ) where
  near_without_reduced : (k : ℕ) → near_without p b e R R' k ≡ near_without p b e S S' k
  unfolding near_without near_with
  near_without_reduced k =
      ap₂ (near_syndromes p) (moved_reduced h true b k (gain_without p e)) (moved_reduced h' false b k (gain_without p e))

  index_reduced : error_index p b e R R' ≡ error_index p b e S S'
  unfolding error_index
  index_reduced = ap (λ (t : ℕ → Bool). least t (position_count p b)) (fun_ext near_without_reduced)

  pub position_reduced : error_position p b e R R' ≡ error_position p b e S S'
  unfolding error_position
  position_reduced =
      ap
      (λ (k : ℕ).
      elim (is_error p.q e && ltb k (position_count p b)) [ true ↦ at (index b k + 1) | false ↦ nowhere ])
      index_reduced
