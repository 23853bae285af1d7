use Rattle.writing_theory.proofs.Parts.{Adding}
use Rattle.cover.specs.Left.{parts_left}
use Rattle.formula.proofs.parts.add_up.Given as goal

abbrev pub invariant-loop-part : goal.invariant-loop-part
invariant-loop-part g l = Adding (g.E.Encoder.meaning l.encoder) l.list l.total (parts_left l.part-iterator)
