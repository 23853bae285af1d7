use Rattle.compaction_theory.proofs.Accounts.{compaction_balances}
use Rattle.compaction_theory.proofs.compaction_balances.Goals as goal

pub returns : goal.returns
returns c = compaction_balances
