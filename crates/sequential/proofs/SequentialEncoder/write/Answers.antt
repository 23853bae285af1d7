use Rattle.std.proofs.Common.{◌∙◌, w32, SFits, rules}
use Rattle.std.proofs.lemmas.Int.{to_z-of_z}
use Rattle.encoder_theory.specs.Sequential.{sequential}
use Rattle.encoder_theory.proofs.SequentialLaws.{sequential_lawful}
use Rattle.encoder_theory.proofs.Answered.{write_admitted, all_written}
use Rattle.sequential.proofs.SequentialEncoder.write.Goals as goal

pub put_sequence-requires-clause-admits : goal.put_sequence-requires-clause-admits
put_sequence-requires-clause-admits c =
    let f : SFits w32 c.args.first = c.ranges.first in
    (write_admitted sequential sequential_lawful c.args.members.now c.args.first c.args.out.now _ (simp to_z-of_z at c.in_ok-first.ensures)).0

pub returns-clause-leaves : goal.returns-clause-leaves
returns-clause-leaves c =
    let f : SFits w32 c.args.first = c.ranges.first in
    search rules ∙ all_written sequential sequential_lawful c.args.members.now c.args.first c.args.out.now _ (simp to_z-of_z at c.in_ok-first.ensures) _ _ c.put_sequence.new.out c.new.ensures c.put_sequence.ensures
