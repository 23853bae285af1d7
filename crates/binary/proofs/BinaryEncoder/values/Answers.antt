use Rattle.std.proofs.Common.{◌∙◌, rules}
use Rattle.encoder_theory.specs.Binary.{binary}
use Rattle.encoder_theory.proofs.BinaryLaws.{binary_lawful}
use Rattle.encoder_theory.proofs.Answered.{all_valued}
use Rattle.binary.proofs.BinaryEncoder.values.Goals as goal

pub returns-clause-leaves : goal.returns-clause-leaves
returns-clause-leaves c =
    search rules ∙ all_valued binary binary_lawful c.args.members c.args.place c.args.out.now c.in_ok-check_values.ensures _ _ c.put_values.new.out c.new.ensures c.put_values.ensures
