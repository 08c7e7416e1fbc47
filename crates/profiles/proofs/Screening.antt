-- What a received word is, by the indices of its erased symbols; and what is known of a call of decode by what its word was found to be.
-- Assumes nothing.
use Rattle.std.proofs.Common.{◌≡◌, ℕ, ◌+◌, ◌≤◌, Bool, true, false, ◌&&◌, T, eqb, List, [], ◌∷◌, length, sym, refl, ap, ◌∙◌, arith, le-leb, Some, None, Result, Ok, Err}
use borrow.Author.Tests.{lt-leb}
use Rattle.modular_theory.proofs.Search.{holds, passes}
use Rattle.code_theory.specs.Parameters.{is_edition, edition_of}
use Rattle.code_theory.specs.Component.{symbols_below, erasure, levels_or_erasures}
use Rattle.code_theory.specs.Erasures.{erasures, erased_indices}
use Rattle.code_theory.specs.Profiles.{profile}
use Rattle.code_theory.specs.Refusal.{on_success}
use Rattle.code_theory.specs.Operations.{refused, decode_answer}
use Rattle.code_theory.proofs.Whole.{none_erased, levels_received, received_levels, length_indices}
use Rattle.profiles.specs.declared.row.Row.{Row}
use Rattle.refusals.specs.declared.Refusal.{Refusal}
use Rattle.refusals.specs.declared.Refusal.TheVariants.{Length, Symbol}
use Rattle.refusals.specs.declared.Refusal.TheVariants as refusal
use Rattle.refusals.specs.Number.{number_of}
use Rattle.refusals.proofs.Claims.{none_is_success}
use Rattle.profiles.specs.declared.erased.Erasures.{Erasures}
use Rattle.profiles.specs.declared.erased.Erasures.TheVariants.{Whole, One, Two}
use Rattle.profiles.specs.Row.{RowOf}
use Rattle.profiles.specs.Refusal.{decode_number, erasure_number, indices, Screening, screening, screened, erased_from, NextErased}
use Rattle.profiles.proofs.Refusing.{refuses_length, refuses_symbol, tests_others, decode_tests_lem, Admitted, admitted, refused_number}

abbrev report : ℕ → List ℕ → Screening
report n is = record { number = n; indices = is }

-- Where only the erasures are left to test.
module _ (u : List ℕ) where
  abbrev by_erasures : Screening
  by_erasures = screening (erasure_number 2 u) (erased_indices 0 u)

  few_are : {l : List ℕ} → erased_indices 0 u ≡ l → length l ≤ 2 → report 0 l ≡ by_erasures
  few_are e h = rw (e, le-leb (erasures u) 2 (omega (arith, length_indices 0 u, ap length e)))

  many_are : {l : List ℕ} → erased_indices 0 u ≡ l → 3 ≤ length l → report 11 [] ≡ by_erasures
  many_are e h = rw (lt-leb (erasures u) 2 (omega (arith, length_indices 0 u, ap length e)))

  pub screens_none : NextErased u 0 None → screened (Ok Whole) ≡ by_erasures
  screens_none none = few_are none (omega arith)

  module _ {a : ℕ} (first : NextErased u 0 (Some a)) where
    from_first : {l : List ℕ} → erased_from (a + 1) u ≡ l → erased_indices 0 u ≡ a ∷ l
    from_first e = first.1 ∙ ap (λ (l : List ℕ). a ∷ l) e

    pub screens_one : NextErased u (a + 1) None → screened (Ok (One a)) ≡ by_erasures
    screens_one none = few_are (from_first none) (omega arith)

    module _ {b : ℕ} (second : NextErased u (a + 1) (Some b)) where
      from_second : {l : List ℕ} → erased_from (b + 1) u ≡ l → erased_indices 0 u ≡ a ∷ b ∷ l
      from_second e = from_first (second.1 ∙ ap (λ (l : List ℕ). b ∷ l) e)

      pub screens_two : NextErased u (b + 1) None → screened (Ok (Two a b)) ≡ by_erasures
      screens_two none = few_are (from_second none) (omega arith)

      pub screens_more : {c : ℕ} → NextErased u (b + 1) (Some c) → screened (Err refusal.Erasures) ≡ by_erasures
      screens_more third = many_are (from_second third.1) (omega arith)

empty : (l : List ℕ) → length l ≡ 0 → l ≡ []
empty [] e = refl
empty (x ∷ l) e = absurd (omega arith)

-- By the tests of a row, of whatever numbers.
module _ (t : Row) (u : List ℕ) (k l : ℕ) where
  -- by number n
  abbrev by_number : ℕ → Screening
  by_number n = screening n (erased_indices 0 u)

  abbrev lengths : Bool
  lengths = eqb (length u) t.codeword && eqb k t.message && eqb l t.message

  pub screens_length : lengths ≡ false → screened (Err Length) ≡ by_number (decode_number t u k l)
  screens_length e = ap by_number (refuses_length (decode_tests_lem t u k l) e)

  module _ (long : lengths ≡ true) where
    pub screens_symbol : levels_or_erasures t.q u ≡ false → screened (Err Symbol) ≡ by_number (decode_number t u k l)
    screens_symbol e = ap by_number (refuses_symbol (decode_tests_lem t u k l) long e)

    pub screens_received : levels_or_erasures t.q u ≡ true → by_erasures u ≡ by_number (decode_number t u k l)
    screens_received e = ap by_number (tests_others (decode_tests_lem t u k l) long e)

    pub screens_levels : t.q ≤ erasure → symbols_below t.q u ≡ true → screened (Ok Whole) ≡ by_number (decode_number t u k l)
    screens_levels small e =
        let below : T (symbols_below t.q u) = holds _ e in
        let none : length (erased_indices 0 u) ≡ 0 = length_indices 0 u ∙ none_erased t.q small u below in
        few_are u (empty (erased_indices 0 u) none) (omega arith) ∙ screens_received (passes (levels_received t.q u below))

-- A call of decode in edition e and profile i: the received word u, found to be r, and outputs of k and l symbols.
module _ (e i : ℕ) (u : List ℕ) (k l : ℕ) {t : Row} (edition : is_edition e ≡ true) (of : RowOf (edition_of e) i t) (r : Result Erasures Refusal)
    (is : screened r ≡ screening (decode_number t u k l) (erased_indices 0 u)) where
  abbrev number_is : (screened r).number ≡ decode_number t u k l
  number_is = ap (λ (s : Screening). s.number) is

  pub screened_refused : {n : Refusal} → r ≡ Err n → decode_answer e i u k l ≡ refused (number_of n)
  screened_refused {n} f =
      let number : number_of n ≡ decode_number t u k l = sym (ap (λ (x : Result Erasures Refusal). (screened x).number) f) ∙ number_is in
      refused_number e i u k l edition of number (none_is_success n)

  module _ {a : Erasures} (f : r ≡ Ok a) where
    none_refuses : decode_number t u k l ≡ 0
    none_refuses = sym number_is ∙ ap (λ (x : Result Erasures Refusal). (screened x).number) f

    known : Admitted e i u k l
    known = admitted e i u k l edition of none_refuses

    indices_are : erased_indices 0 u ≡ indices a
    indices_are =
        sym (sym (ap (λ (x : Result Erasures Refusal). (screened x).indices) f)
        ∙ ap (λ (s : Screening). s.indices) is
        ∙ ap (λ (n : ℕ). on_success n (erased_indices 0 u) []) none_refuses)

  pub screened_whole : r ≡ Ok Whole → Admitted e i u k l × (erasures u ≡ 0) × T (symbols_below (profile i).q u)
  screened_whole f =
      let none : erasures u ≡ 0 = sym (length_indices 0 u) ∙ ap length (indices_are f) in
      (known f, none, received_levels (profile i).q u (known f).received none)

  pub screened_one : {a : ℕ} → r ≡ Ok (One a) → Admitted e i u k l × (erased_indices 0 u ≡ a ∷ [])
  screened_one f = (known f, indices_are f)

  pub screened_two : {a b : ℕ} → r ≡ Ok (Two a b) → Admitted e i u k l × (erased_indices 0 u ≡ a ∷ b ∷ [])
  screened_two f = (known f, indices_are f)
