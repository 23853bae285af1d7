-- From a cover in the list and the work words to the answer of a call.
use Rattle.std.specs.Prelude.{ℕ, ◌+◌, ◌*◌, ◌≤◌, Bool, cond, List, ◌++◌, length, drop, ℤ, pos, ◌+ℤ◌, Some, None, Ok, Err, Option, Result, nat_lt, unsigned_abs}
use Rattle.fault.specs.declared.Fault.{Fault}
use Rattle.logic.specs.Clause.{flat}
use Rattle.encoder_theory.specs.Meaning.{Meaning}
use Rattle.network_theory.specs.Layout.{Net, words_needed}
use Rattle.cover.specs.Outcome.{remaining_of}
use Rattle.cover_theory.specs.Lies.{words_holding}
use Rattle.cover_theory.specs.Parts.{Cover}
use Rattle.formula_theory.specs.declared.Size.{Size}
use Rattle.formula_theory.specs.Writing.{part_size, part_auxiliaries, over_parts, written_clauses, clause_count}
use Rattle.formula_theory.specs.Outcome.{Terms, words_fault, range_fault, exhausted_fault, buffer_fault, words_short, range_unfit, buffer_short, unless_refused, kept_if_refused}
use Rattle.writing_theory.specs.declared.Numbers.{Numbers}
use Rattle.writing_theory.specs.Listed.{Listed, parts_of, most_total}

-- the numbers for auxiliaries that are admitted
abbrev pub numbers_of : ℤ → ℤ → Numbers
numbers_of first last = record { first = unsigned_abs first; end = unsigned_abs (last +ℤ pos 1) }

-- the work words as a cover of the network that is not refused leaves them: the needed ones hold what remains, the rest is untouched
abbrev pub covered_words : Net → List ℕ → List ℕ
covered_words net old = words_holding net.variables (remaining_of net) ++ drop (words_needed net.variables) old

-- refusal 6, or the numbers
abbrev pub range_answer : ℕ → Terms → Result Numbers Fault
range_answer n t = cond (range_unfit n t) (Err range_fault) (Ok (numbers_of t.first t.last))

-- refusal 2, then 6, or the numbers
abbrev pub terms_answer : ℕ → Terms → Result Numbers Fault
terms_answer n t = cond (words_short n t) (Err words_fault) (range_answer n t)

-- the cover whose parts lie in the list, and of which these conflicts remain
abbrev pub cover_in : List ℤ → List (ℤ × ℤ) → Cover
cover_in xs pairs = record { parts = parts_of xs; remaining = pairs }

-- what the parts of the list take together with so many conflicts that remain
abbrev pub size_in : Meaning → List ℤ → ℕ → Size
size_in M xs remaining =
    record { clauses = over_parts (part_size M) (parts_of xs) + remaining; auxiliaries = over_parts (part_auxiliaries M) (parts_of xs) }

-- the list holds sound parts, and no total is too large
pub record Covering (n : ℕ) (M : Meaning) (xs : List ℤ) (remaining : ℕ) : Type 0 where
  pub listed : Listed n M (parts_of xs)
  pub few : over_parts (part_size M) (parts_of xs) + remaining ≤ most_total

-- the clauses of a cover at the start of the buffer, the rest untouched
abbrev pub put : Meaning → Cover → ℕ → List ℤ → List ℤ
put M C first out = flat (written_clauses M C first) ++ drop (2 * clause_count M C) out

-- refusal 9: so many auxiliaries are too many for the numbers
abbrev pub past_end : ℕ → Numbers → Bool
past_end count numbers = nat_lt numbers.end (numbers.first + count)

-- what is refused once the cover stands: 9, and in a writing then 10
abbrev pub late_measure : Size → Numbers → Option Fault
late_measure s numbers = cond (past_end s.auxiliaries numbers) (Some exhausted_fault) None

abbrev pub late_write : Size → Numbers → ℕ → Option Fault
late_write s numbers room = cond (past_end s.auxiliaries numbers) (Some exhausted_fault) (cond (buffer_short (2 * s.clauses) room) (Some buffer_fault) None)

abbrev pub measured : Size → Numbers → Result Size Fault
measured s numbers = unless_refused (late_measure s numbers) s

abbrev pub written_answer : Size → Numbers → ℕ → Result Size Fault
written_answer s numbers room = unless_refused (late_write s numbers room) s

abbrev pub written_leaves : Meaning → Cover → Size → Numbers → List ℤ → List ℤ
written_leaves M C s numbers out = kept_if_refused (late_write s numbers (length out)) (put M C numbers.first out) out
