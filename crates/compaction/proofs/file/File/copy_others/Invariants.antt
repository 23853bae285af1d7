use Rattle.std.proofs.Common.{vec_items}
use Rattle.compaction_theory.specs.Sorted.{clauses_in}
use Rattle.compaction_theory.specs.Walks.{Copied}
use Rattle.compaction.proofs.file.File.copy_others.Given as goal

abbrev pub invariant-loop-clause : goal.invariant-loop-clause
invariant-loop-clause l =
    (goal.iterator-loop-clause).can_next l.clause-iterator
    × (goal.iterator-loop-clause).is_finite l.clause-iterator
    × Copied l.self.variables (clauses_in l.self.numbers.now) (clauses_in l.clause-iterator.rest.now) (vec_items l.initial.out) (vec_items l.out)
