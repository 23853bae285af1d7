use Rattle.std.proofs.Common.{◌+◌, ◌-◌, sym, ap, ◌∙◌}
use Rattle.formula_theory.specs.Outcome.{assignment_of, broken_from, or_else}
use Rattle.writing_theory.proofs.Values.{rows_broken}
use Rattle.cover.specs.Views.{rel_of}
use Rattle.formula.proofs.broken.first_broken.Goals as goal

pub returns-in-Some : goal.returns-in-Some
returns-in-Some c =
    let N = c.args.rows.now.count in
    let rel = rel_of c.args.rows.now in
    let s = assignment_of c.args.values.now in
    sym (c.loop-u.invariant ∙ rows_broken N rel s c.loop-u.u c.loop-u-test.true
    ∙ ap (λ o. or_else o (broken_from N rel s (N - (c.loop-u.u + 1)) (c.loop-u.u + 1))) (sym c.in-Some.ensures))

pub loop-u-preserved : goal.loop-u-preserved
loop-u-preserved c =
    let N = c.args.rows.now.count in
    let rel = rel_of c.args.rows.now in
    let s = assignment_of c.args.values.now in
    c.loop-u.invariant ∙ rows_broken N rel s c.loop-u.u c.loop-u-test.true
    ∙ ap (λ o. or_else o (broken_from N rel s (N - (c.loop-u.u + 1)) (c.loop-u.u + 1))) (sym c.in_default.ensures)
