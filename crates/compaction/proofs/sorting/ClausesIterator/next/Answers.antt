use Rattle.std.proofs.Common.{length, arith, ap}
use Rattle.compaction_theory.proofs.Walks.{first_clause, no_clause}
use Rattle.compaction.proofs.sorting.ClausesIterator.next.Goals as goal

pub returns-in_err-end-clause-steps : goal.returns-in_err-end-clause-steps
returns-in_err-end-clause-steps c =
    let none = no_clause c.args.self.now.rest.now (c.in_err-end.ensures) in
    rw c.from_residual.ensures (none, none)

pub returns-clause-steps : goal.returns-clause-steps
returns-clause-steps c = first_clause c.args.self.now.rest.now c.in_ok-end.end (c.in_ok-end.ensures)

pub returns-clause-goes : goal.returns-clause-goes
returns-clause-goes c =
    let fewer = ap length (first_clause c.args.self.now.rest.now c.in_ok-end.end (c.in_ok-end.ensures)) in
    record { on = λ e. (tt, e, omega (arith, fewer)); keeps = tt; rests = λ e. tt }
