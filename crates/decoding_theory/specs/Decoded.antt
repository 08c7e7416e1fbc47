-- Decoding in linear time: the sums over a received word once, then one test for each position that can have changed.
-- Assumes nothing.
use Rattle.std.specs.Prelude.{Bool, true, false, ◌&&◌, List, ℕ, suc, ◌+◌, ◌-◌, ◌%◌, eqb, ltb, get_or, set, ℤ, pos, neg_ℤ, ◌-ℤ◌}
use Rattle.modular_theory.specs.Residue.{remainder}
use Rattle.modular_theory.specs.Level.{level_of, is_zero}
use Rattle.modular_theory.specs.Search.{least}
use Rattle.modular_theory.specs.Sum.{weight}
use Rattle.code_theory.specs.Parameters.{edition13, edition18, Parameters, balanced_length, balancing_value}
use Rattle.code_theory.specs.Component.{message}
use Rattle.code_theory.specs.Codeword.{alpha, beta, body, received}
use Rattle.code_theory.specs.Reading.{Finding, correction_at, clean, corrected, Reading, read, unreadable}
use Rattle.decoding_theory.specs.Syndromes.{syndromes, near_syndromes, restored_by, index, moved_of}

-- the check symbol that a body asks for: α, over the odd positions (true), and β, over the even ones (false)
abbrev pub check_symbol : ℕ → Bool → List ℕ → ℕ
check_symbol q true w = alpha q w
check_symbol q false w = beta q w

-- the index of each in the word
abbrev pub check_index : Parameters → Bool → ℕ
check_index p true = balanced_length p
check_index p false = balanced_length p + 1

-- what is summed over a received word, once
pub record Sums : Type 0 where
  -- the weight of the body less its balancing value (01: middle): what the body exceeds it by
  pub excess : ℤ
  -- the check symbols, as the body asks for and as received
  pub asked : Bool → ℕ
  pub arrived : Bool → ℕ
  -- the syndromes of the components
  pub first : List ℕ
  pub second : List ℕ

-- the balancing value of the body
abbrev pub target : Parameters → ℕ
target p = balancing_value p.q (balanced_length p)

abbrev pub sums : Parameters → List ℕ → Sums
sums p v =
    record {
      excess = pos (weight (body p v)) -ℤ pos (target p);
      asked = λ b. check_symbol p.q b (body p v);
      arrived = λ b. get_or v (check_index p b) 0;
      first = syndromes p (received p true v);
      second = syndromes p (received p false v);
    }

-- f with the value y at b
abbrev pub update : Bool → ℕ → (Bool → ℕ) → Bool → ℕ
update true y f true = y
update true y f false = f false
update false y f true = f true
update false y f false = y

-- what the components gain, mod q, where a symbol of the body gains e; in edition 18 they lose it
abbrev pub gain_by : Parameters → ℕ → ℕ
gain_by p e = elim p.edition [ edition13 ↦ e | edition18 ↦ p.q - e ]

-- the sums once the symbol at index k of the parity b is e more, mod q, and the excess is a
abbrev pub moved_sums : Parameters → Bool → ℕ → ℕ → ℤ → Sums → Sums
moved_sums p b k e a t =
    record {
      excess = a;
      asked = update b ((t.asked b + e) % p.q) t.asked;
      arrived = t.arrived;
      first = moved_of p true b k (gain_by p e) t.first;
      second = moved_of p false b k (gain_by p e) t.second;
    }

-- what the changed symbol lacks, mod q
unfoldable pub lack : Parameters → Sums → ℕ
lack p s = remainder (neg_ℤ s.excess) p.q

-- what the components gain where that is added to it
abbrev pub gain : Parameters → Sums → ℕ
gain p s = gain_by p (lack p s)

-- the symbol in place of x that balances the body, by plain subtraction; q where it is no level
unfoldable pub balancing_symbol : Parameters → Sums → ℕ → ℕ
balancing_symbol p s x = level_of p.q (pos x -ℤ s.excess)

-- it is a level
unfoldable pub in_range : Parameters → Sums → ℕ → Bool
in_range p s x = ltb (balancing_symbol p s x) p.q

-- the check symbol of the parity b is off by as much as the weight, mod q
unfoldable pub off_by_lack : Parameters → Sums → Bool → Bool
off_by_lack p s b = eqb ((s.asked b + lack p s) % p.q) (s.arrived b)

-- the syndromes are near once the symbol at index k of the parity b is corrected
unfoldable pub near_after : Parameters → Sums → Bool → ℕ → Bool
near_after p s b k = near_syndromes p (moved_of p true b k (gain p s) s.first) (moved_of p false b k (gain p s) s.second)

-- the symbol x at index k of the parity b can be the one that changed
unfoldable pub fits : Parameters → Sums → Bool → ℕ → ℕ → Bool
fits p s b k x = in_range p s x && off_by_lack p s b && near_after p s b k

-- the positions of a parity
abbrev pub position_count : Parameters → Bool → ℕ
position_count p true = suc p.n
position_count p false = p.n

-- the first index of the parity b that fits; their number where none does
unfoldable pub first_fit : Parameters → Sums → Bool → List ℕ → ℕ
first_fit p s b v = least (λ k. fits p s b k (get_or v (index b k) 0)) (position_count p b)

-- the reading of a codeword u, whose components have the syndromes S and S'
unfoldable pub read_by : Parameters → Finding → List ℕ → List ℕ → List ℕ → Reading
read_by p f u S S' =
    read f (message p (restored_by p S (received p true u))) (message p (restored_by p S' (received p false u)))

-- with the symbol at index k of the parity b corrected
unfoldable pub read_fit : Parameters → Sums → Bool → ℕ → List ℕ → Reading
read_fit p s b k v =
    let i : ℕ = index b k in
    let y : ℕ = balancing_symbol p s (get_or v i 0) in
    let S : List ℕ = moved_of p true b k (gain p s) s.first in
    let S' : List ℕ = moved_of p false b k (gain p s) s.second in
    read_by p (corrected (correction_at i (get_or v i 0) y)) (set v i y) S S'

-- one check symbol, b's, disagrees with an unbalanced body
unfoldable pub decoded_body : Parameters → Sums → Bool → List ℕ → Reading
decoded_body p s b v = elim (ltb (first_fit p s b v) (position_count p b)) [ true ↦ read_fit p s b (first_fit p s b v) v | false ↦ unreadable ]

-- one check symbol, b's, disagrees with a balanced body
unfoldable pub decoded_check : Parameters → Sums → Bool → List ℕ → Reading
decoded_check p s b v = read_by p (corrected (correction_at (check_index p b) (s.arrived b) (s.asked b))) v s.first s.second

-- the check symbol is as asked
abbrev pub agrees : Sums → Bool → Bool
agrees s b = eqb (s.asked b) (s.arrived b)

unfoldable pub decoded_balanced : Parameters → Sums → List ℕ → Reading
decoded_balanced p s v =
    elim (near_syndromes p s.first s.second) [
      | true ↦
          elim (agrees s true) [
            | true ↦ elim (agrees s false) [ true ↦ read_by p clean v s.first s.second | false ↦ decoded_check p s false v ]
            | false ↦ elim (agrees s false) [ true ↦ decoded_check p s true v | false ↦ unreadable ]
          ]
      | false ↦ unreadable
    ]

unfoldable pub decoded_unbalanced : Parameters → Sums → List ℕ → Reading
decoded_unbalanced p s v =
    elim (agrees s true) [
      | true ↦ elim (agrees s false) [ true ↦ unreadable | false ↦ decoded_body p s false v ]
      | false ↦ elim (agrees s false) [ true ↦ decoded_body p s true v | false ↦ unreadable ]
    ]

-- the answer to v, by its sums
unfoldable pub decoded_by : Parameters → Sums → List ℕ → Reading
decoded_by p s v = elim (is_zero s.excess) [ true ↦ decoded_balanced p s v | false ↦ decoded_unbalanced p s v ]

unfoldable pub decoded : Parameters → List ℕ → Reading
decoded p v = decoded_by p (sums p v) v
