-- What the program prints for an input.
use Rattle.std.specs.Prelude.{ℕ, ◌+◌, Bool, cond, ◌&&◌, List, [], ◌∷◌, ◌++◌, map, length, take, replicate, ℤ, pos, Ok, Err, Result, nat_le, nat_lt}
use Rattle.fault.specs.Fault.{fault_text}
use Rattle.fault.specs.declared.Fault.{Fault}
use Rattle.fault.specs.declared.Layer.TheVariants.{Network}
use Rattle.fault.specs.declared.Refusal.TheVariants.{VariableCount, ClauseListFull}
use Rattle.logic.specs.Clause.{Clause}
use Rattle.dimacs.specs.declared.Summary.{Summary}
use Rattle.dimacs.specs.Clauses.{numbers}
use Rattle.dimacs.specs.Reading.{reading, fault_at}
use Rattle.dimacs.specs.Written.{text_of}
use Rattle.encoder_theory.specs.Meaning.{Meaning}
use Rattle.cover_theory.specs.Parts.{Cover}
use Rattle.cover_theory.specs.Rule.{cover_of}
use Rattle.formula_theory.specs.Writing.{written_clauses, auxiliary_count}
use Rattle.compaction_theory.specs.declared.Scale.{Scale}
use Rattle.compaction_theory.specs.Sorted.{clauses_in, conflicts_of, others_of, related}
use Rattle.compaction_theory.specs.Choices.{encoder_of, most_bytes, most_variables, number_room}

-- ---- the clauses

-- the cover of the conflicts among the clauses
abbrev pub cover_of_clauses : ℕ → List (List ℤ) → Cover
cover_of_clauses n clauses = cover_of n (related (conflicts_of clauses))

-- the two literals of a clause, as a clause of any length
abbrev pub literals_of : Clause → List ℤ
literals_of c = c.0 ∷ c.1 ∷ []

-- THE COMPACTED CLAUSES: those that the encoder writes for the cover, its auxiliaries numbered from n + 1; then all that are no conflicts
abbrev pub compacted : Meaning → ℕ → List (List ℤ) → List (List ℤ)
compacted M n clauses = map literals_of (written_clauses M (cover_of_clauses n clauses) (n + 1)) ++ others_of clauses

-- and their variables: the auxiliaries come after the n of the file
abbrev pub compacted_variables : Meaning → ℕ → List (List ℤ) → ℕ
compacted_variables M n clauses = n + auxiliary_count M (cover_of_clauses n clauses)

-- the file of the compacted clauses
abbrev pub compacted_text : Meaning → ℕ → List (List ℤ) → List ℕ
compacted_text M n clauses = text_of (compacted_variables M n clauses) (numbers (compacted M n clauses))

-- ---- what is refused, and what is printed

-- n will do: it is from 1 to the most variables
abbrev pub variables_fit : Scale → ℕ → Bool
variables_fit scale n = nat_le 1 n && nat_le n (most_variables scale)

abbrev pub count_fault : Fault
count_fault = record { refusal = VariableCount; layer = Network; place = 0 }

-- more bytes than the most are a fault there
abbrev pub length_fault : Scale → Fault
length_fault scale = fault_at ClauseListFull (most_bytes scale)

-- the buffer that a text is read into
abbrev pub blank : Scale → List ℕ → List ℤ
blank scale text = replicate (number_room scale (length text)) (pos 0)

-- the compacted file of what was read, or the reader's fault, or that n will not do
abbrev pub compacted_read : Scale → Meaning → Result Summary Fault → List ℤ → Result (List ℕ) Fault
compacted_read scale M (Err f) list = Err f
compacted_read scale M (Ok s) list =
    cond (variables_fit scale s.variables) (Ok (compacted_text M s.variables (clauses_in (take s.numbers list)))) (Err count_fault)

-- an input that is too long is refused before it is read
abbrev pub outcome : Scale → List ℕ → Result (List ℕ) Fault
outcome scale text =
    cond (nat_lt (most_bytes scale) (length text)) (Err (length_fault scale))
    (compacted_read scale (encoder_of text) (reading text (blank scale text)).answer (reading text (blank scale text)).list)

-- a file, or a fault on a line of its own
abbrev pub printed : Result (List ℕ) Fault → List ℕ
printed (Ok text) = text
printed (Err f) = fault_text f ++ 10 ∷ []
