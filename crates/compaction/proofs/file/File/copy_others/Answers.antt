use Rattle.compaction_theory.specs.Walks.{TakenNumbers}
use Rattle.compaction_theory.proofs.Walks.{literals_small, copied_next}
use Rattle.compaction.proofs.file.File.copy_others.Goals as goal

pub conflict_of-requires : goal.conflict_of-requires
conflict_of-requires c =
    let t : TakenNumbers c.args.self.now.variables c.args.self.now.numbers.now = c.args.self.now.taken in
    literals_small _ _ t.clauses.few (copied_next _ _ _ _ _ _ _ c.loop-clause.invariant.2 c.in-Some.ensures.steps)
