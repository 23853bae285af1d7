use Rattle.layer_theory.proofs.TowerLaws.{tower_built}
use Rattle.layer_theory.proofs.tower_stands_on_itself.Goals as goal

pub returns : goal.returns
returns c = tower_built
