use Rattle.logic.proofs.Gluing.{gluing}
use Rattle.logic.proofs.lists_glue.Goals as goal

pub returns : goal.returns
returns c = gluing
