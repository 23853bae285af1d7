use Rattle.network.specs.Views.{net_of}
use Rattle.compaction_theory.specs.Sorted.{clauses_in}
use Rattle.compaction_theory.specs.Walks.{Added}
use Rattle.compaction.proofs.file.File.add_conflicts.Given as goal

abbrev pub invariant-loop-clause : goal.invariant-loop-clause
invariant-loop-clause l =
    (goal.iterator-loop-clause).can_next l.clause-iterator
    × (goal.iterator-loop-clause).is_finite l.clause-iterator
    × Added l.self.variables (clauses_in l.self.numbers.now) (clauses_in l.clause-iterator.rest.now) (net_of l.net.matrix) l.count
