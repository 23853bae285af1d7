-- A writing of the program: its auxiliaries are numbered from `first` up to the last number that there is.
use Rattle.std.specs.Prelude.{◌≡◌, ℕ, ◌+◌, ◌*◌, cond, List, ◌++◌, length, drop, ℤ, pos, Ok, Err, Result}
use Rattle.fault.specs.declared.Fault.{Fault}
use Rattle.logic.specs.Clause.{flat}
use Rattle.dimacs.specs.declared.Summary.{Summary}
use Rattle.encoder_theory.specs.Meaning.{Meaning}
use Rattle.network_theory.specs.Layout.{Net}
use Rattle.cover_theory.specs.Parts.{Cover}
use Rattle.cover_theory.specs.Rule.{cover_of}
use Rattle.cover_theory.specs.Lies.{list_holding}
use Rattle.formula_theory.specs.declared.Size.{Size}
use Rattle.formula_theory.specs.Writing.{written_clauses, clause_count}
use Rattle.formula_theory.specs.Outcome.{Terms, terms, most_auxiliary, size_of, write_answer, write_leaves, early_refused, list_after}
use Rattle.formula_theory.specs.Promise.{standing}
use Rattle.compaction_theory.specs.declared.Scale.{Scale}
use Rattle.compaction_theory.specs.Printed.{cover_of_clauses, variables_fit, count_fault}

-- what the call is given: `first`, and how many work words and list numbers
abbrev pub given : ℤ → ℕ → ℕ → Terms
given first work list = terms first (pos most_auxiliary) work list

-- it answered r, and left these numbers in the list and in the clause buffer
pub record Wrote (n : ℕ) (C : Cover) (M : Meaning) (first : ℤ) (work : ℕ) (list list' out out' : List ℤ) (r : Result Size Fault) : Type 0 where
  pub answer : r ≡ write_answer n C M (given first work (length list)) (length out)
  pub parts : list' ≡ list_after (early_refused n (given first work (length list))) C (given first work (length list)) list
  pub clauses : out' ≡ write_leaves n C M (given first work (length list)) out

-- for the cover of a network
abbrev pub WroteNet : Net → Meaning → ℤ → ℕ → List ℤ → List ℤ → List ℤ → List ℤ → Result Size Fault → Type 0
WroteNet net M first work list list' out out' r = Wrote net.variables (cover_of net.variables (standing net)) M first work list list' out out' r

-- it was accepted: the list holds the parts of the cover, and the buffer's start the clauses of these clauses' conflicts
pub record WroteAll (n : ℕ) (clauses : List (List ℤ)) (M : Meaning) (list list' out out' : List ℤ) (r : Result Size Fault) : Type 0 where
  pub answer : r ≡ Ok (size_of M (cover_of_clauses n clauses))
  pub parts : list' ≡ list_holding (cover_of_clauses n clauses).parts (length list)
  pub written : out' ≡ flat (written_clauses M (cover_of_clauses n clauses) (n + 1)) ++ drop (2 * clause_count M (cover_of_clauses n clauses)) out

-- what was read, unless n will not do
abbrev pub read_within : Scale → Result Summary Fault → Result Summary Fault
read_within scale (Err f) = Err f
read_within scale (Ok s) = cond (variables_fit scale s.variables) (Ok s) (Err count_fault)

-- the buffer holds the clauses of these clauses' conflicts at its start
pub record Holding (n : ℕ) (clauses : List (List ℤ)) (M : Meaning) (out : List ℤ) (size : Size) : Type 0 where
  pub counts : size ≡ size_of M (cover_of_clauses n clauses)
  pub rest : List ℤ
  pub written : out ≡ flat (written_clauses M (cover_of_clauses n clauses) (n + 1)) ++ rest
