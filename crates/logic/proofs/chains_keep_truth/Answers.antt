use Rattle.logic.proofs.Chains.{chain_holds}
use Rattle.logic.proofs.chains_keep_truth.Goals as goal

pub returns : goal.returns
returns c s L p q met k h = chain_holds s met k h
