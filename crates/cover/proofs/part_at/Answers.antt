use Rattle.std.proofs.Common.{◌∙◌}
use Rattle.cover.proofs.Walks.{part_here}
use Rattle.cover.proofs.part_at.Goals as goal

pub returns : goal.returns
returns c = record {
  value = c.read_part.ensures;
  reads = λ P rest s e. let h = part_here c.args.list.now c.args.at P rest s e in (c.read_part.ensures ∙ h.0, h.1);
}
