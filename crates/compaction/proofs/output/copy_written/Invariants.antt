use Rattle.std.proofs.Common.{◌≡◌, List, ◌++◌, length, ℤ, vec_items}
use Rattle.std.specs.Slice.Iter.{chunks_exact_rest, chunks_exact_size}
use Rattle.logic.specs.Clause.{Clause, flat}
use Rattle.compaction_theory.specs.Walks.{Closed}
use Rattle.compaction.proofs.output.copy_written.Given as goal

abbrev pub invariant-loop-clause : goal.invariant-loop-clause
invariant-loop-clause l =
    (chunks_exact_size l.clause-iterator ≡ 2)
    × ((W : List Clause) (rest : List ℤ) → length W ≡ l.clauses → l.written ≡ flat W ++ rest
    → Closed W (chunks_exact_rest l.clause-iterator) (vec_items l.initial.out) (vec_items l.out))
