use Rattle.compaction_theory.proofs.Lines.{line_before, line_all}
use Rattle.compaction.proofs.choice.first_line.Goals as goal

pub returns-in-Some : goal.returns-in-Some
returns-in-Some c = line_before c.args.text.now c.in-Some.end c.in-Some.ensures

pub returns-in-None : goal.returns-in-None
returns-in-None c = line_all c.args.text.now c.in-None.ensures
