use Rattle.std.proofs.Common.{◌≡◌, ◌+◌, ◌-◌, Some, sym, ap, ◌∙◌, subst, arith, rules}
use Rattle.logic.specs.Literal.{literal}
use Rattle.cover_theory.specs.Rule.{those}
use Rattle.formula_theory.specs.Outcome.{assignment_of, broken_along}
use Rattle.writing_theory.specs.Remaining.{first_true, Below}
use Rattle.writing_theory.proofs.Rests.{those_below}
use Rattle.writing_theory.proofs.Values.{along_those, along_false, first_here}
use Rattle.cover.specs.Views.{rel_of}
use Rattle.cover.specs.Unread.{conflicts_left}
use Rattle.formula.proofs.broken.broken_at.Goals as goal

pub loop-w-init : goal.loop-w-init
loop-w-init c =
    let N = c.args.rows.now.count in
    let u = c.args.u in
    let e : conflicts_left c.into_iter-w-iterator.result ≡ those (rel_of c.args.rows.now u) (N - (u + 1)) (u + 1) = ap conflicts_left c.into_iter-w-iterator.ensures.into_iter_gives ∙ c.after-w-items.ensures in
    (ap (first_true (assignment_of c.args.values.now) u) (sym e), subst (Below N) (sym e) (those_below N (rel_of c.args.rows.now u) (N - (u + 1)) (u + 1) (omega arith)))

pub returns-then-is_true_at-2 : goal.returns-then-is_true_at-2
returns-then-is_true_at-2 c =
    let N = c.args.rows.now.count in
    let u = c.args.u in
    let s = assignment_of c.args.values.now in
    let h = sym c.is_true_at.ensures ∙ c.if-is_true_at.true in
    let k = sym c.is_true_at-in-loop-w.ensures ∙ c.if-is_true_at-2.true in
    let e : broken_along (rel_of c.args.rows.now) s u (N - (u + 1)) (u + 1) ≡ Some (literal u, literal c.in-Some.w) =
    along_those (rel_of c.args.rows.now) s u h (N - (u + 1)) (u + 1) ∙ c.loop-w.invariant.0 ∙ first_here s u c.in-Some.w (conflicts_left c.loop-w.w-iterator) _ c.in-Some.ensures.steps k in
    search rules

pub returns-in-None : goal.returns-in-None
returns-in-None c =
    let N = c.args.rows.now.count in
    let u = c.args.u in
    let s = assignment_of c.args.values.now in
    let h = sym c.is_true_at.ensures ∙ c.if-is_true_at.true in
    sym (along_those (rel_of c.args.rows.now) s u h (N - (u + 1)) (u + 1) ∙ c.loop-w.invariant.0 ∙ ap (first_true s u) c.in-None.ensures.steps.0)

pub returns-else-is_true_at : goal.returns-else-is_true_at
returns-else-is_true_at c =
    let N = c.args.rows.now.count in
    let u = c.args.u in
    let s = assignment_of c.args.values.now in
    let h = sym c.is_true_at.ensures ∙ c.if-is_true_at.false in
    sym (along_false (rel_of c.args.rows.now) s u h (N - (u + 1)) (u + 1))
