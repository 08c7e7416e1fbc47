-- What the decoder sums over a received word, as the definitions of crate decoding_theory have it.
-- Assumes nothing.
use Rattle.std.specs.Prelude.{◌≡◌, Bool, List, ℕ, suc, ◌≤◌, ◌<◌, T, length, get_or, nat_abs}
use Rattle.code_theory.specs.Parameters.{codeword_length}
use Rattle.code_theory.specs.Component.{symbols_below}
use Rattle.code_theory.specs.Balance.{neighbour_difference}
use Rattle.code_theory.specs.Codeword.{received}
use Rattle.decoding_theory.specs.Decoded.{Sums, sums, lack}
use Rattle.profiles.specs.declared.row.Row.{Row}
use Rattle.decoder.specs.declared.totals.Totals.{Totals}
use Rattle.profiles.specs.Row.{parameters, Valid}
use Rattle.symbols.specs.Syndromes.{rows, part}
use Rattle.symbols.specs.Weight.{check_of}
use Rattle.syndromes.specs.Rows.{FourRows, rows_of}
use Rattle.decoder.specs.Received.{BodyArray}

-- a word of levels that numbers 1 to 3 let through
pub record WholeWord (t : Row) (word : List ℕ) : Type 0 where
  pub valid : Valid t
  pub long : length word ≡ codeword_length (parameters t)
  pub below : T (symbols_below t.q word)

abbrev pub sums_of : Row → Totals → Sums
sums_of t s =
    record {
      excess = s.excess;
      asked = check_of s.asked;
      arrived = check_of s.arrived;
      first = rows_of t (rows s.syndromes.first);
      second = rows_of t (rows s.syndromes.second);
    }

-- the rest follows from the sums, and each is small: 97 symbols below 15 weigh at most 1358, as does their balancing value
pub record Totalled (t : Row) (s : Totals) : Type 0 where
  pub light : nat_abs s.excess ≤ 1358
  pub lacks : s.lack ≡ lack (parameters t) (sums_of t s)
  pub lack_below : s.lack < t.q
  pub asked_below : (b : Bool) → check_of s.asked b < t.q
  pub first_rows : FourRows t (rows s.syndromes.first)
  pub second_rows : FourRows t (rows s.syndromes.second)

-- x holds the differences of the body of the word u, after a symbol that is not looked at, and so its components
pub record Components (t : Row) (u x : List ℕ) : Type 0 where
  pub levels : BodyArray t x
  pub at : (j : ℕ) → suc j < t.balanced → get_or x (suc j) 0 ≡ neighbour_difference (parameters t) (get_or u j 0) (get_or u (suc j) 0)
  pub parts : (b : Bool) → part b t.n x ≡ received (parameters t) b u

-- s are the sums over the word, and x holds its components
pub record SummedWord (t : Row) (word x : List ℕ) (s : Totals) : Type 0 where
  pub totalled : Totalled t s
  pub are : sums_of t s ≡ sums (parameters t) word
  pub held : Components t word x
