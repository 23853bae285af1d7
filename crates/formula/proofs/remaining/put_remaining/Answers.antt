use Rattle.std.proofs.Common.{◌+◌, ◌-◌, sym}
use Rattle.filling.specs.Views.{filled}
use Rattle.logic.specs.Clause.{flat}
use Rattle.cover_theory.specs.Rule.{those}
use Rattle.formula_theory.specs.Writing.{conflict_clauses}
use Rattle.writing_theory.specs.Remaining.{row_clauses}
use Rattle.writing_theory.proofs.Still.{still_start, still_is, still_room, still_on}
use Rattle.writing_theory.proofs.Rests.{row_fits, rows, rows_room, rows_next, rows_all}
use Rattle.formula.specs.Rows.{remaining_in}
use Rattle.cover.specs.Views.{rel_of}
use Rattle.formula.proofs.remaining.put_remaining.Goals as goal

pub loop-u-init : goal.loop-u-init
loop-u-init c =
    let N = c.args.rows.now.count in
    let rel = rel_of c.args.rows.now in
    let f = filled c.args.out.now in
    let all = flat (conflict_clauses (remaining_in c.args.rows.now)) in
    still_is f all f all (rows N rel 0) (sym (rows_all N rel)) (still_start f all (rows_room N rel _ c.requires))

pub put_row-requires-clause-room : goal.put_row-requires-clause-room
put_row-requires-clause-room c =
    let N = c.args.rows.now.count in
    let rel = rel_of c.args.rows.now in
    let u = c.loop-u.u in
    let f = filled c.args.out.now in
    let g = filled c.loop-u.out in
    let all = flat (conflict_clauses (remaining_in c.args.rows.now)) in
    let ws = those (rel u) (N - (u + 1)) (u + 1) in
    row_fits u _ ws (still_room f all g (flat (row_clauses u ws)) (rows N rel (u + 1)) (still_is f all g _ _ (rows_next N rel u c.loop-u-test.true) c.loop-u.invariant))

pub loop-u-preserved : goal.loop-u-preserved
loop-u-preserved c =
    let N = c.args.rows.now.count in
    let rel = rel_of c.args.rows.now in
    let u = c.loop-u.u in
    let f = filled c.args.out.now in
    let g = filled c.loop-u.out in
    let all = flat (conflict_clauses (remaining_in c.args.rows.now)) in
    let ws = those (rel u) (N - (u + 1)) (u + 1) in
    still_on f all g (flat (row_clauses u ws)) (rows N rel (u + 1)) (still_is f all g _ _ (rows_next N rel u c.loop-u-test.true) c.loop-u.invariant) (filled c.put_row.new.out) c.put_row.ensures
