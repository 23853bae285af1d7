use Rattle.std.proofs.Common.{◌+◌, arith}
use Rattle.network.specs.Views.{net_of}
use Rattle.compaction_theory.specs.Sorted.{clauses_in}
use Rattle.compaction_theory.specs.Walks.{TakenNumbers, Added}
use Rattle.compaction_theory.proofs.Walks.{literals_small}
use Rattle.compaction_theory.proofs.Counting.{added_few, added_next, added_more}
use Rattle.compaction.proofs.file.File.add_conflicts.Goals as goal

-- the file after a turn
added : (c : goal.After-add_clause-count)
    → Added c.args.self.now.variables (clauses_in c.args.self.now.numbers.now) (clauses_in c.next.new.self.rest.now) (net_of c.add_clause-count.new.net.matrix) (c.loop-clause.count + c.add_clause-count.result)
added c =
    let t : TakenNumbers c.args.self.now.variables c.args.self.now.numbers.now = c.args.self.now.taken in
    added_more _ _ _ _ _ _ _ _ _ t.clauses c.loop-clause.invariant.2 c.in-Some.ensures.steps c.add_clause-count.ensures.variables c.add_clause-count.ensures.came c.add_clause-count.ensures.count

pub add_clause-count-requires : goal.add_clause-count-requires
add_clause-count-requires c =
    let t : TakenNumbers c.args.self.now.variables c.args.self.now.numbers.now = c.args.self.now.taken in
    literals_small _ _ t.clauses.few (added_next _ _ _ _ _ _ _ t.clauses c.loop-clause.invariant.2 c.in-Some.ensures.steps)

pub overflow_add-count : goal.overflow_add-count
overflow_add-count c =
    let t : TakenNumbers c.args.self.now.variables c.args.self.now.numbers.now = c.args.self.now.taken in
    let few = added_few _ _ _ _ _ t.clauses (added c) in
    omega arith

pub loop-clause-preserved : goal.loop-clause-preserved
loop-clause-preserved c = (tt, tt, added c)
