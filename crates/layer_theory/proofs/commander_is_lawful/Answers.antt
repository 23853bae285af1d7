use Rattle.layer_theory.proofs.CommanderLaws.{commander_lawful}
use Rattle.layer_theory.proofs.commander_is_lawful.Goals as goal

pub returns : goal.returns
returns c = commander_lawful
