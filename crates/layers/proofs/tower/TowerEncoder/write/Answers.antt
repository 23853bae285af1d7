use Rattle.std.proofs.Common.{◌∙◌, w32, SFits, rules}
use Rattle.std.proofs.lemmas.Int.{to_z-of_z}
use Rattle.encoder_theory.proofs.Answered.{write_admitted, all_written}
use Rattle.layer_theory.specs.Tower.{tower}
use Rattle.layer_theory.proofs.TowerLaws.{tower_lawful}
use Rattle.layers.proofs.tower.TowerEncoder.write.Goals as goal

pub put_tower-requires-clause-admits : goal.put_tower-requires-clause-admits
put_tower-requires-clause-admits c =
    let f : SFits w32 c.args.first = c.ranges.first in
    (write_admitted tower tower_lawful c.args.members.now c.args.first c.args.out.now _ (simp to_z-of_z at c.in_ok-first.ensures)).0

pub returns-clause-leaves : goal.returns-clause-leaves
returns-clause-leaves c =
    let f : SFits w32 c.args.first = c.ranges.first in
    search rules ∙ all_written tower tower_lawful c.args.members.now c.args.first c.args.out.now _ (simp to_z-of_z at c.in_ok-first.ensures) _ _ c.put_tower.new.out c.new.ensures c.put_tower.ensures
