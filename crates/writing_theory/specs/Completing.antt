-- From a cover in the part list to the values of its auxiliaries.
use Rattle.std.specs.Prelude.{ℕ, cond, List, ◌++◌, map, drop, ℤ, Some, Ok, Err, Option, Result}
use Rattle.std.specs.Option.{option_map}
use Rattle.fault.specs.declared.Fault.{Fault}
use Rattle.logic.specs.Clause.{Assignment}
use Rattle.encoder_theory.specs.Buffer.{byte}
use Rattle.encoder_theory.specs.Meaning.{Meaning}
use Rattle.cover_theory.specs.Parts.{Part}
use Rattle.cover_theory.specs.Rule.{Rel}
use Rattle.formula_theory.specs.Writing.{part_auxiliaries, over_parts, values_from}
use Rattle.formula_theory.specs.Outcome.{Terms, words_fault, range_fault, values_fault, exhausted_fault, buffer_fault, broken_fault, words_short, range_unfit, values_unfit, buffer_short, broken_from, unless_refused}
use Rattle.writing_theory.specs.declared.Numbers.{Numbers}
use Rattle.writing_theory.specs.Covering.{numbers_of, past_end}

-- refusal 2, then 6, then 7, or the numbers
abbrev pub valued_answer : ℕ → Terms → List ℕ → Result Numbers Fault
valued_answer n t values =
    cond (words_short n t) (Err words_fault)
    (cond (range_unfit n t) (Err range_fault)
    (cond (values_unfit n values) (Err values_fault)
    (Ok (numbers_of t.first t.last))))

-- the values of the parts' auxiliaries at the start of the buffer, the rest untouched
abbrev pub put_values : Meaning → List (Part ℤ) → Assignment → List ℕ → List ℕ
put_values M Ps s out = map byte (values_from M s Ps) ++ drop (over_parts (part_auxiliaries M) Ps) out

-- refusal 11: values that break a conflict of N literals
abbrev pub broken : ℕ → Rel → Assignment → Option Fault
broken N rel s = option_map broken_fault (broken_from N rel s N 0)

-- what is refused once the cover stands: 9, then 10, then 11
abbrev pub late_complete : ℕ → Numbers → ℕ → Option Fault → Option Fault
late_complete count numbers room last =
    cond (past_end count numbers) (Some exhausted_fault) (cond (buffer_short count room) (Some buffer_fault) last)

abbrev pub completed_answer : ℕ → Numbers → ℕ → Option Fault → Result ℕ Fault
completed_answer count numbers room last = unless_refused (late_complete count numbers room last) count
