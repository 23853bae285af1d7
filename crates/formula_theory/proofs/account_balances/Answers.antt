use Rattle.formula_theory.proofs.Counts.{account_balances}
use Rattle.formula_theory.proofs.account_balances.Goals as goal

pub returns : goal.returns
returns c = account_balances
