use Rattle.std.proofs.Common.{◌∙◌}
use Rattle.compaction_theory.specs.Walks.{TakenNumbers}
use Rattle.compaction_theory.proofs.Counting.{closings_clauses, account_held}
use Rattle.compaction.proofs.file.File.account.Goals as goal

pub returns : goal.returns
returns c =
    let t : TakenNumbers c.args.self.now.variables c.args.self.now.numbers.now = c.args.self.now.taken in
    account_held c.args.self.now.choice _ _ t.clauses _ _ c.requires.holds _ _ _ c.requires.counts
    _ (c.count_closings.ensures.value ∙ closings_clauses c.args.self.now.numbers.now)
    _ c.args.numbers.now c.requires.numbers c.count_closings-2.ensures.value
