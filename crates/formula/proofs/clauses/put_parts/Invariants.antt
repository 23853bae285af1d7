use Rattle.filling.specs.Views.{filled}
use Rattle.writing_theory.proofs.Puts.{Putting}
use Rattle.cover.specs.Left.{parts_left}
use Rattle.formula.proofs.clauses.put_parts.Given as goal

abbrev pub invariant-loop-part : goal.invariant-loop-part
invariant-loop-part g l = Putting (g.E.Encoder.meaning l.encoder) l.list l.first (filled l.fn.out) (parts_left l.part-iterator) l.next (filled l.out)
