-- The symbol sent in place of a received one: q says that there is none.
-- Assumes nothing.
use Prim.Native.Nat.{ℕ, ◌<◌}
use lib.Dec.{T, ltb→lt}
use Rattle.code_theory.specs.Parameters.{Parameters}
use Rattle.decoding_theory.specs.Decoded.{Sums, balancing_symbol, in_range}

module _ (p : Parameters) (s : Sums) (x : ℕ) where
  pub sent_below : T (in_range p s x) → balancing_symbol p s x < p.q
  unfolding in_range
  sent_below h = ltb→lt _ _ h
