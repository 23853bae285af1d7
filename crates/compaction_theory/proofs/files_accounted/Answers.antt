use Rattle.compaction_theory.proofs.Accounts.{account_when_printed, every_file_accounted}
use Rattle.compaction_theory.proofs.files_accounted.Goals as goal

pub returns : goal.returns
returns c = record { printed = account_when_printed; files = every_file_accounted }
