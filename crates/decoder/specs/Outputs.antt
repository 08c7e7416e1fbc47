-- The outputs of the decoder's steps.
-- Assumes nothing.
use Rattle.std.specs.Prelude.{◌≡◌, Bool, true, false, not, List, ℕ, zero, suc, ◌+◌, ◌*◌, length, get_or, set}
use Rattle.code_theory.specs.Parameters.{Parameters, message_length}
use Rattle.code_theory.specs.Component.{message}
use Rattle.decoding_theory.specs.Syndromes.{restored_by}
use Rattle.profiles.specs.declared.row.Row.{Row}
use Rattle.profiles.specs.Row.{parameters}
use Rattle.symbols.specs.Syndromes.{part}
use Rattle.decoder.specs.Received.{BodyArray}

-- outputs that a message each fits
pub record Outputs (t : Row) (first second : List ℕ) : Type 0 where
  pub first_long : length first ≡ message_length (parameters t)
  pub second_long : length second ≡ message_length (parameters t)

-- y is x with the component b, of which S is the syndrome, restored
pub record Restored (t : Row) (S : List ℕ) (b : Bool) (x y : List ℕ) : Type 0 where
  pub levels : BodyArray t y
  pub this : part b t.n y ≡ restored_by (parameters t) S (part b t.n x)
  pub other : part (not b) t.n y ≡ part (not b) t.n x

-- k symbols of a component, the one at index i in x at 2 i + side, from index i on put into the output from `next` on
abbrev pub copied_run : List ℕ → ℕ → ℕ → ℕ → ℕ → List ℕ → List ℕ
copied_run x side i zero next out = out
copied_run x side i (suc k) next out = set (copied_run x side i k next out) (next + k) (get_or x (2 * (i + k) + side) 0)

-- the outputs hold the messages of the components in x
pub record Messages (t : Row) (x first second : List ℕ) : Type 0 where
  pub first_is : first ≡ message (parameters t) (part true t.n x)
  pub second_is : second ≡ message (parameters t) (part false t.n x)

-- the outputs hold the messages of the components c and d, whose syndromes are S and S'
pub record RestoredMessages (p : Parameters) (c d S S' first second : List ℕ) : Type 0 where
  pub first_is : first ≡ message p (restored_by p S c)
  pub second_is : second ≡ message p (restored_by p S' d)
