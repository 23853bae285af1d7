-- From the buffer that holds the written clauses to the text that is printed.
use Rattle.std.proofs.Common.{◌≡◌, ℕ, ◌+◌, ◌*◌, ◌<◌, ◌≤◌, Bool, true, false, cond, List, ◌++◌, map, length, ℤ, None, Ok, Err, Result, sym, refl, ap, ◌∙◌, arith}
use Rattle.std.proofs.lemmas.List.{length-append}
use Rattle.fault.specs.declared.Fault.{Fault}
use Rattle.logic.specs.Clause.{Clause, flat}
use Rattle.logic.proofs.Clauses.{length_flat}
use Rattle.dimacs.specs.Clauses.{numbers}
use Rattle.dimacs.specs.Written.{text_of, write_refusal}
use Rattle.encoder_theory.specs.Meaning.{Meaning}
use Rattle.formula_theory.specs.declared.Size.{Size}
use Rattle.formula_theory.specs.Writing.{written_clauses}
use Rattle.compaction_theory.specs.declared.Choice.{Choice}
use Rattle.compaction_theory.specs.Sorted.{others_of}
use Rattle.compaction_theory.specs.Choices.{meaning_of}
use Rattle.compaction_theory.specs.Printed.{cover_of_clauses, literals_of, compacted, compacted_variables, compacted_text}
use Rattle.compaction_theory.specs.Buffers.{Taken}
use Rattle.compaction_theory.specs.Written.{Holding}
use Rattle.compaction_theory.proofs.Picked.{lawful_choice}
use Rattle.compaction_theory.proofs.Sizes.{laws}
use Rattle.compaction_theory.proofs.Fitting.{compacted_writable, texts_fit}

module _ (choice : Choice) (n : ℕ) (clauses : List (List ℤ)) (t : Taken n clauses) (out : List ℤ) (size : Size) (h : Holding n clauses (meaning_of choice) out size) where
  abbrev M : Meaning
  M = meaning_of choice

  abbrev W : List Clause
  W = written_clauses M (cover_of_clauses n clauses) (n + 1)

  -- as many clauses stand there as are told
  pub held_count : length W ≡ size.clauses
  held_count = (laws n clauses t.literals M (lawful_choice choice) t.few t.few_clauses).counted ∙ sym (ap (λ (s : Size). s.clauses) h.counts)

  pub held_within : 2 * size.clauses ≤ length out
  held_within = omega (arith, ap length h.written, length-append (flat W) h.rest, length_flat W, held_count)

  -- the variables with the auxiliaries
  pub held_variables : n + size.auxiliaries ≡ compacted_variables M n clauses
  held_variables = ap (λ (s : Size). n + s.auxiliaries) h.counts

  pub held_few : n + size.auxiliaries < 1_000_000_000
  held_few = omega (arith, held_variables, (compacted_writable n clauses t M (lawful_choice choice)).few_variables)

  -- numbers that were put together from the buffer and the other clauses
  pub held_numbers : (zs slice : List ℤ) → slice ≡ out
      → ((V : List Clause) (rest : List ℤ) → length V ≡ size.clauses → slice ≡ flat V ++ rest → zs ≡ numbers (map literals_of V ++ others_of clauses))
      → zs ≡ numbers (compacted M n clauses)
  held_numbers zs slice e assembled = assembled W h.rest held_count (e ∙ h.written)

  -- the text of the numbers has room, and is the compacted text
  pub held_fits : (zs : List ℤ) → zs ≡ numbers (compacted M n clauses) → write_refusal (n + size.auxiliaries) zs (24 + 12 * length (numbers clauses)) ≡ None
  held_fits zs e =
      ap (λ m. write_refusal m zs (24 + 12 * length (numbers clauses))) held_variables
      ∙ ap (λ (l : List ℤ). write_refusal (compacted_variables M n clauses) l (24 + 12 * length (numbers clauses))) e
      ∙ texts_fit choice n clauses t (24 + 12 * length (numbers clauses)) (omega arith)
