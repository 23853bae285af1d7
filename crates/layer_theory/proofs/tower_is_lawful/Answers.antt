use Rattle.layer_theory.proofs.TowerLaws.{tower_lawful}
use Rattle.layer_theory.proofs.tower_is_lawful.Goals as goal

pub returns : goal.returns
returns c = tower_lawful
