-- That a program's buffers always suffice: none of the refusals 8, 9 and 10 comes out of it.
use Rattle.std.specs.Prelude.{◌≡◌, ℕ, ◌+◌, ◌*◌, ◌≤◌, ◌⊎◌, List, map, length, ℤ, pos, None, Ok, Err}
use Rattle.fault.specs.Fault.{number_of}
use Rattle.fault.specs.declared.Fault.{Fault}
use Rattle.dimacs.specs.Clauses.{numbers, ClausesOf}
use Rattle.dimacs.specs.Written.{write_refusal}
use Rattle.network_theory.specs.declared.Call.{Call}
use Rattle.network_theory.specs.declared.Call.TheVariants.{Add}
use Rattle.network_theory.specs.Layout.{Net, words_needed}
use Rattle.network_theory.specs.Runs.{Came}
use Rattle.cover_theory.specs.Rule.{cover_of}
use Rattle.formula_theory.specs.Outcome.{terms, most_auxiliary, size_of, write_answer}
use Rattle.formula_theory.specs.Promise.{standing}
use Rattle.compaction_theory.specs.declared.Choice.{Choice}
use Rattle.compaction_theory.specs.declared.Scale.{Scale}
use Rattle.compaction_theory.specs.Sorted.{conflicts_of}
use Rattle.compaction_theory.specs.Choices.{meaning_of}
use Rattle.compaction_theory.specs.Printed.{cover_of_clauses, compacted, compacted_variables, outcome}

-- the calls that clauses make on a network: an add for each conflict, in order
abbrev pub asked : List (List ℤ) → List Call
asked clauses = map (λ p. Add p.0 p.1) (conflicts_of clauses)

-- n variables and clauses that a program goes on with once it has read them
pub record Taken (n : ℕ) (clauses : List (List ℤ)) : Type 0 where
  pub some : 1 ≤ n
  pub few : n ≤ 4_096
  pub literals : ClausesOf n clauses
  pub few_clauses : length clauses ≤ 1_000_000
  pub few_numbers : length (numbers clauses) ≤ 33_554_433

-- the network that came by these calls is covered as the clauses are
abbrev pub NetworkCovered : Type 0
NetworkCovered = (n : ℕ) (clauses : List (List ℤ)) → Taken n clauses
    → (net : Net) → net.variables ≡ n → Came net (asked clauses)
    → cover_of net.variables (standing net) ≡ cover_of_clauses n clauses

-- a writing is accepted, given a part list and a clause buffer of as many numbers as were read
abbrev pub WritingAccepted : Type 0
WritingAccepted = (choice : Choice) (n : ℕ) (clauses : List (List ℤ)) → Taken n clauses
    → (work list room : ℕ) → words_needed n ≤ work → length (numbers clauses) ≤ list → length (numbers clauses) ≤ room
    → write_answer n (cover_of_clauses n clauses) (meaning_of choice) (terms (pos (n + 1)) (pos most_auxiliary) work list) room
    ≡ Ok (size_of (meaning_of choice) (cover_of_clauses n clauses))

-- no more numbers are printed than were read
abbrev pub FewerNumbers : Type 0
FewerNumbers = (choice : Choice) (n : ℕ) (clauses : List (List ℤ)) → Taken n clauses
    → length (numbers (compacted (meaning_of choice) n clauses)) ≤ length (numbers clauses)

-- the text has room in 24 bytes and 12 more for each number that was read
abbrev pub TextFits : Type 0
TextFits = (choice : Choice) (n : ℕ) (clauses : List (List ℤ)) → Taken n clauses
    → (room : ℕ) → 24 + 12 * length (numbers clauses) ≤ room
    → write_refusal (compacted_variables (meaning_of choice) n clauses) (numbers (compacted (meaning_of choice) n clauses)) room ≡ None

-- a fault that is printed has the number 1, or one of the text's from 13 on
abbrev pub NeverShort : Type 0
NeverShort = (scale : Scale) (text : List ℕ) (f : Fault) → outcome scale text ≡ Err f
    → (number_of f.refusal ≡ 1) ⊎ (13 ≤ number_of f.refusal)
