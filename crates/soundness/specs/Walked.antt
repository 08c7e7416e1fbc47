-- What the walks over the lists of a queue find.
-- Assumes nothing.
use Rattle.std.specs.Prelude.{◌≡◌, Bool, true, false, Option, Some, is_some, List, ℕ, length, take}
use Rattle.queue_theory.specs.Lists.{last_of}
use Rattle.queue_theory.specs.Layout.{capacity}
use Rattle.queue_theory.specs.Chains.{chain, used}
use Rattle.queue_theory.specs.Sound.{is_list, sound}
use Rattle.soundness.specs.declared.cell.Kind.{Kind}
use Rattle.soundness.specs.declared.cell.Kind.TheVariants.{Used, Free}
use Rattle.soundness.specs.declared.lists.Walked.{Walked}
use Rattle.soundness.specs.Checked.{reached}
use Rattle.soundness.specs.Tally.{tallied}

-- by kind, as the definitions have it: true for used
abbrev pub is_used : Kind → Bool
is_used Used = true
is_used Free = false

-- a list of cells has been walked: the table t became t', the walk asked for cell k, or the last one, and met n cells
pub record Traversed (l t t' : List ℕ) (k cell n : ℕ) : Type 0 where
  pub seen : t' ≡ tallied t l
  pub cell_is : cell ≡ last_of 0 (take k l)
  pub records_is : n ≡ length l

pub record Walks (s : List ℕ) (kind : Bool) (first k : ℕ) (t t' : List ℕ) (r : Option Walked) : Type 0 where
  pub good_is : is_some r ≡ is_list s kind (capacity s) first
  pub found : (w : Walked) → r ≡ Some w → Traversed (chain s (capacity s) first) t t' k w.cell w.records

pub record WalksBoth (s : List ℕ) (k : ℕ) (r : Option Walked) : Type 0 where
  pub good_is : is_some r ≡ sound s
  pub cell_is : (w : Walked) → r ≡ Some w → w.cell ≡ reached s k
  pub records_is : (w : Walked) → r ≡ Some w → w.records ≡ length (used s)
