use Rattle.std.proofs.Common.{◌∙◌, w32, SFits, rules}
use Rattle.std.proofs.lemmas.Int.{to_z-of_z}
use Rattle.encoder_theory.specs.Pairwise.{pairwise}
use Rattle.encoder_theory.proofs.PairwiseLaws.{pairwise_lawful}
use Rattle.encoder_theory.proofs.Answered.{small_members, write_admitted, all_written}
use Rattle.pairwise.proofs.PairwiseEncoder.write.Goals as goal

pub put_pairs-requires-clause-small : goal.put_pairs-requires-clause-small
put_pairs-requires-clause-small c =
    let f : SFits w32 c.args.first = c.ranges.first in
    small_members c.args.members.now _ _ (write_admitted pairwise pairwise_lawful c.args.members.now c.args.first c.args.out.now _ (simp to_z-of_z at c.in_ok-check_write.ensures)).0

pub returns-clause-leaves : goal.returns-clause-leaves
returns-clause-leaves c =
    let f : SFits w32 c.args.first = c.ranges.first in
    search rules ∙ all_written pairwise pairwise_lawful c.args.members.now c.args.first c.args.out.now _ (simp to_z-of_z at c.in_ok-check_write.ensures) _ _ c.put_pairs.new.out c.new.ensures c.put_pairs.ensures
