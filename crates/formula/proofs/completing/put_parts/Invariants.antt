use Rattle.std.proofs.Common.{length}
use Rattle.filling.specs.Views.{filled}
use Rattle.formula_theory.specs.Outcome.{assignment_of}
use Rattle.writing_theory.proofs.Puts.{Valuing}
use Rattle.cover.specs.Left.{parts_left}
use Rattle.formula.proofs.completing.put_parts.Given as goal

abbrev pub invariant-loop-part : goal.invariant-loop-part
invariant-loop-part g l = Valuing (g.E.Encoder.meaning l.encoder) l.list (length l.values) (assignment_of l.values) (filled l.fn.out) (parts_left l.part-iterator) (filled l.out)
