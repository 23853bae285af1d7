-- What the calls of the formula layer answer and leave, told from the network, the encoder's meaning and what the caller lends.
use Rattle.std.specs.Prelude.{ℕ, List, length, ℤ, Result}
use Rattle.fault.specs.declared.Fault.{Fault}
use Rattle.encoder_theory.specs.Meaning.{Meaning}
use Rattle.network_theory.specs.Layout.{Net}
use Rattle.cover.specs.Outcome.{cover_of_net, conflicts_of}
use Rattle.formula_theory.specs.declared.Size.{Size}
use Rattle.formula_theory.specs.Outcome.{Terms, terms, measure_answer, write_answer, write_leaves, complete_answer, complete_leaves, early_refused, complete_early_refused, work_after, list_after}
use Rattle.writing_theory.specs.Covering.{covered_words}

-- the first and the last number for auxiliaries, and the work words and the list lent to the cover
abbrev pub lent : ℤ → ℤ → List ℕ → List ℤ → Terms
lent first last work list = terms first last (length work) (length list)

-- ---- answers; `room` is the length of the buffer to be filled
abbrev pub answer_of_measure : Net → Meaning → Terms → Result Size Fault
answer_of_measure net M t = measure_answer net.variables (cover_of_net net) M t

abbrev pub answer_of_write : Net → Meaning → Terms → ℕ → Result Size Fault
answer_of_write net M t room = write_answer net.variables (cover_of_net net) M t room

abbrev pub answer_of_complete : Net → Meaning → Terms → List ℕ → ℕ → Result ℕ Fault
answer_of_complete net M t values room = complete_answer net.variables (conflicts_of net) (cover_of_net net) M t values room

-- ---- what is left, from what was there
-- the work words and the list, after measure and write
abbrev pub words_left : Net → Terms → List ℕ → List ℕ
words_left net t old = work_after (early_refused net.variables t) net.variables (cover_of_net net) t old (covered_words net old)

abbrev pub list_left : Net → Terms → List ℤ → List ℤ
list_left net t old = list_after (early_refused net.variables t) (cover_of_net net) t old

-- and after complete
abbrev pub words_completed : Net → Terms → List ℕ → List ℕ → List ℕ
words_completed net t values old = work_after (complete_early_refused net.variables t values) net.variables (cover_of_net net) t old (covered_words net old)

abbrev pub list_completed : Net → Terms → List ℕ → List ℤ → List ℤ
list_completed net t values old = list_after (complete_early_refused net.variables t values) (cover_of_net net) t old

-- the buffer of clauses, after write
abbrev pub clauses_left : Net → Meaning → Terms → List ℤ → List ℤ
clauses_left net M t old = write_leaves net.variables (cover_of_net net) M t old

-- the buffer of bytes, after complete
abbrev pub bytes_left : Net → Meaning → Terms → List ℕ → List ℕ → List ℕ
bytes_left net M t values old = complete_leaves net.variables (conflicts_of net) (cover_of_net net) M t values old
