use Rattle.filling.specs.Views.{filled}
use Rattle.logic.specs.Clause.{flat}
use Rattle.formula_theory.specs.Writing.{conflict_clauses}
use Rattle.writing_theory.proofs.Rests.{rows}
use Rattle.writing_theory.proofs.Still.{Still}
use Rattle.formula.specs.Rows.{remaining_in}
use Rattle.cover.specs.Views.{rel_of}
use Rattle.formula.proofs.remaining.put_remaining.Given as goal

abbrev pub invariant-loop-u : goal.invariant-loop-u
invariant-loop-u l = Still (filled l.fn.out) (flat (conflict_clauses (remaining_in l.rows))) (filled l.out) (rows l.rows.count (rel_of l.rows) l.u)
