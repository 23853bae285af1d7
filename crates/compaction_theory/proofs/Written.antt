-- The writing of the program is always accepted.
use Rattle.std.proofs.Common.{◌≡◌, ℕ, ◌+◌, ◌*◌, ◌≤◌, Bool, true, false, cond, List, ◌++◌, length, drop, replicate, ℤ, pos, Some, None, Ok, Option, Result, sym, refl, ap, ◌∙◌, subst, arith}
use Rattle.std.proofs.lemmas.Bool.{or_from}
use Rattle.fault.specs.declared.Fault.{Fault}
use Rattle.logic.specs.Clause.{flat}
use Rattle.dimacs.specs.Clauses.{numbers}
use Rattle.encoder_theory.specs.Meaning.{Meaning}
use Rattle.network_theory.specs.Layout.{Net, words_needed}
use Rattle.network_theory.specs.Runs.{Came}
use Rattle.cover_theory.specs.Parts.{Cover}
use Rattle.cover_theory.specs.Rule.{cover_of}
use Rattle.cover_theory.specs.Lies.{list_holding}
use Rattle.formula_theory.specs.declared.Size.{Size}
use Rattle.formula_theory.specs.Writing.{written_clauses, clause_count}
use Rattle.formula_theory.specs.Outcome.{Terms, words_short, range_unfit, list_short, words_fault, range_fault, list_fault, write_refusal, unless_refused, kept_if_refused, size_of, write_answer, early_refused, after_cover}
use Rattle.formula_theory.specs.Promise.{standing}
use Rattle.compaction_theory.specs.declared.Choice.{Choice}
use Rattle.compaction_theory.specs.Sorted.{clauses_in}
use Rattle.compaction_theory.specs.Choices.{meaning_of}
use Rattle.compaction_theory.specs.Printed.{cover_of_clauses}
use Rattle.compaction_theory.specs.Buffers.{asked}
use Rattle.compaction_theory.specs.Walks.{TakenNumbers}
use Rattle.compaction_theory.specs.Written.{given, Wrote, WroteNet, WroteAll}
use Rattle.compaction_theory.proofs.Related.{network_covered}
use Rattle.compaction_theory.proofs.Fitting.{writings_accepted}

-- ---- what is not refused

first_none : (b : Bool) (f : Fault) (rest : Option Fault) → cond b (Some f) rest ≡ None → (b ≡ false) × (rest ≡ None)
first_none true f rest e = let z : ◌≡◌ {A = ℕ} 0 1 = cc in absurd (omega arith)
first_none false f rest e = (refl, e)

answered_none : {X : Type 0} (o : Option Fault) (x y : X) → unless_refused o x ≡ Ok y → o ≡ None
answered_none None x y e = refl
answered_none (Some f) x y e = let z : ◌≡◌ {A = ℕ} 0 1 = cc in absurd (omega arith)

-- an accepted writing leaves the parts and the clauses
accepted_leaves : (n : ℕ) (clauses : List (List ℤ)) (M : Meaning) (work : ℕ) (list list' out out' : List ℤ) (r : Result Size Fault)
    → write_answer n (cover_of_clauses n clauses) M (given (pos (n + 1)) work (length list)) (length out) ≡ Ok (size_of M (cover_of_clauses n clauses))
    → Wrote n (cover_of_clauses n clauses) M (pos (n + 1)) work list list' out out' r
    → WroteAll n clauses M list list' out out' r
accepted_leaves n clauses M work list list' out out' r ok w =
    let C : Cover = cover_of_clauses n clauses in
    let t : Terms = given (pos (n + 1)) work (length list) in
    let none : write_refusal n C M t (length out) ≡ None = answered_none (write_refusal n C M t (length out)) (size_of M C) (size_of M C) ok in
    let words = first_none (words_short n t) words_fault _ none in
    let range = first_none (range_unfit n t) range_fault _ words.1 in
    let short = first_none (list_short C t) list_fault _ range.1 in
    let early : early_refused n t ≡ false = or_from (words_short n t) (range_unfit n t) words.0 range.0 in
    let filled : List ℤ = flat (written_clauses M C (n + 1)) ++ drop (2 * clause_count M C) out in
    record {
      answer = w.answer ∙ ok;
      parts =
          w.parts
          ∙ ap (λ (b : Bool). after_cover b (list_short C t) list (replicate (length list) (pos 0)) (list_holding C.parts (length list))) early
          ∙ ap (λ (b : Bool). cond b (replicate (length list) (pos 0)) (list_holding C.parts (length list))) short.0;
      written = w.clauses ∙ ap (λ (o : Option Fault). kept_if_refused o filled out) none;
    }

-- a writing from the network of the clauses' conflicts is accepted
pub wrote_all : (choice : Choice) (n : ℕ) (xs : List ℤ) → TakenNumbers n xs
    → (net : Net) → net.variables ≡ n → Came net (asked (clauses_in xs))
    → (first : ℤ) → first ≡ pos (n + 1) → (work : ℕ) (list list' out out' : List ℤ) (r : Result Size Fault)
    → words_needed n ≤ work → length xs ≤ length list → length xs ≤ length out
    → WroteNet net (meaning_of choice) first work list list' out out' r
    → WroteAll n (clauses_in xs) (meaning_of choice) list list' out out' r
wrote_all choice n xs t net vars came first e work list list' out out' r words room-list room_out w =
    let M : Meaning = meaning_of choice in
    let cs : List (List ℤ) = clauses_in xs in
    let all : length (numbers cs) ≡ length xs = ap length (sym t.whole) in
    let cover : cover_of net.variables (standing net) ≡ cover_of_clauses n cs = network_covered n cs t.clauses net vars came in
    let one : Wrote n (cover_of net.variables (standing net)) M first work list list' out out' r =
    subst (λ k. Wrote k (cover_of net.variables (standing net)) M first work list list' out out' r) vars w in
    let two : Wrote n (cover_of_clauses n cs) M first work list list' out out' r = subst (λ C. Wrote n C M first work list list' out out' r) cover one in
    let three : Wrote n (cover_of_clauses n cs) M (pos (n + 1)) work list list' out out' r = subst (λ z. Wrote n (cover_of_clauses n cs) M z work list list' out out' r) e two in
    accepted_leaves n cs M work list list' out out' r (writings_accepted choice n cs t.clauses work (length list) (length out) words (omega arith) (omega arith)) three
