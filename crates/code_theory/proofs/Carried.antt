-- The pair that a word carries is a pair of messages: the symbols of its components are below q, restored or not, and each message has one
-- for each position without a check symbol.
-- Assumes nothing.
use mathlib.Core.Path.{◌≡◌, sym, ap, ◌∙◌}
use mathlib.Core.Bool.{Bool, true, false}
use mathlib.Core.List.{List, [], ◌∷◌}
use Prim.Native.Nat.{ℕ, zero, suc, ◌≤◌, ◌<◌}
use lib.ListN.{length, set, length-set}
use Rattle.modular_theory.proofs.Residue.{minus_below}
use Rattle.code_theory.specs.Parameters.{Parameters, Sized, message_length, codeword_length}
use Rattle.code_theory.specs.Component.{Below, in_code, check_at, message}
use Rattle.code_theory.specs.Balance.{differences}
use Rattle.code_theory.specs.Codeword.{alternate, body, received, restored, carried}
use Rattle.code_theory.specs.Claims.{CarriedMessages}
use Rattle.code_theory.proofs.Symbols.{symbol_below, symbols_below_lem, symbols_set}
use Rattle.code_theory.proofs.Merge.{cases, opposite, passing, length_keep, below_keep, word_of}
use Rattle.code_theory.proofs.Weights.{differences_below}
use Rattle.code_theory.proofs.Columns.{q_positive}
use Rattle.code_theory.proofs.Component.{message_count}
use Rattle.code_theory.proofs.Restored.{length_received}

below_alternate : (q : ℕ) (b : Bool) (z : List ℕ) → Below q z → Below q (alternate b z)
below_alternate q b [] h i = h i
below_alternate q true (x ∷ z) h zero = h 0
below_alternate q true (x ∷ z) h (suc i) = below_alternate q false z (λ j. h (suc j)) i
below_alternate q false (x ∷ z) h i = below_alternate q true z (λ j. h (suc j)) i

below_set : (q : ℕ) → 1 ≤ q → (c : List ℕ) (i y : ℕ) → y < q → Below q c → Below q (set c i y)
below_set q h c i y k b = symbol_below q h (set c i y) (symbols_set q c i y k (symbols_below_lem q c (λ j l. b j)))

below_restored : (p : Parameters) → 1 ≤ p.q → (c : List ℕ) → Below p.q c → Below p.q (restored p c)
unfolding restored
below_restored p h c k =
    cases (in_code p c) (λ e. rw (e, restored) k) (λ e. rw (e, restored) (below_set p.q h c _ _ (minus_below p.q _ 1 h) k))

pub below_carried : (p : Parameters) → 1 ≤ p.q → (b : Bool) (u : List ℕ) → Below p.q (carried p b u)
unfolding carried message received
below_carried p h b u =
    below_keep p.q _ (restored p (received p b u))
    (below_restored p h (received p b u)
    (below_alternate p.q b (differences p (body p u)) (differences_below p h (body p u))))

length_restored : (p : Parameters) (c : List ℕ) → length (restored p c) ≡ length c
unfolding restored
length_restored p c = cases (in_code p c) (λ e. rw (e, restored)) (λ e. rw (e, restored) (length-set c _ _))

length_carried : (p : Parameters) → Sized p → (b : Bool) (u : List ℕ) → length u ≡ codeword_length p
    → length (carried p b u) ≡ message_length p
unfolding carried message
length_carried p s b u e =
    length_keep (opposite (check_at p)) (restored p (received p b u))
    ∙ ap (passing (opposite (check_at p))) (length_restored p (received p b u) ∙ length_received p b u e)
    ∙ sym (message_count p s)

pub carried_messages : CarriedMessages
carried_messages p s u e b =
    word_of p.q (message_length p) (carried p b u) (length_carried p s b u e)
    (symbols_below_lem p.q (carried p b u) (λ i l. below_carried p (q_positive p s) b u i))
