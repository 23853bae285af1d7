use Rattle.std.proofs.Common.{refl}
use Rattle.layer_theory.proofs.examples.Goals as goal

pub returns : goal.returns
returns c = record {
  tower_5 = (refl, refl);
  tower_6 = (refl, refl);
  tower_256 = (refl, refl);
  commander_10 = (refl, refl);
}
