use Rattle.std.proofs.Common.{◌∙◌, rules}
use Rattle.encoder_theory.proofs.Answered.{all_valued}
use Rattle.layer_theory.specs.Tower.{tower}
use Rattle.layer_theory.proofs.TowerLaws.{tower_lawful}
use Rattle.layers.proofs.tower.TowerEncoder.values.Goals as goal

pub returns-clause-leaves : goal.returns-clause-leaves
returns-clause-leaves c =
    search rules ∙ all_valued tower tower_lawful c.args.members c.args.place c.args.out.now c.in_ok-check_values.ensures _ _ c.put_tower_values.new.out c.new.ensures c.put_tower_values.ensures
