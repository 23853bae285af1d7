use Rattle.std.proofs.Common.{◌≡◌, ◌+◌, ◌-◌, [], ◌∷◌, sym, ap, ◌∙◌, subst, arith, rules}
use Rattle.filling.specs.Filled.{extended}
use Rattle.filling.specs.Views.{filled}
use Rattle.logic.specs.Literal.{literal}
use Rattle.logic.specs.Clause.{against, flat}
use Rattle.cover_theory.specs.Rule.{those}
use Rattle.writing_theory.specs.Remaining.{row_clauses, Below}
use Rattle.writing_theory.proofs.Still.{still_start, still_is, still_extended}
use Rattle.writing_theory.proofs.Rests.{those_below, row_room}
use Rattle.cover.specs.Views.{rel_of}
use Rattle.cover.specs.Unread.{conflicts_left}
use Rattle.formula.proofs.remaining.put_row.Goals as goal

pub loop-w-init : goal.loop-w-init
loop-w-init c =
    let N = c.args.rows.now.count in
    let u = c.args.u in
    let ws = those (rel_of c.args.rows.now u) (N - (u + 1)) (u + 1) in
    let f = filled c.args.out.now in
    let e : conflicts_left c.into_iter-w-iterator.result ≡ ws = ap conflicts_left c.into_iter-w-iterator.ensures.into_iter_gives ∙ c.after-w-items.ensures in (
      still_is f (flat (row_clauses u ws)) f _ _ (ap (λ vs. flat (row_clauses u vs)) (sym e)) (still_start f (flat (row_clauses u ws)) (row_room u _ ws c.requires.room)),
      subst (Below N) (sym e) (those_below N (rel_of c.args.rows.now u) (N - (u + 1)) (u + 1) (omega arith)),
    )

pub loop-w-preserved : goal.loop-w-preserved
loop-w-preserved c =
    let N = c.args.rows.now.count in
    let u = c.args.u in
    let w = c.in-Some.w in
    let L = against (literal u) (literal w) in
    let all = flat (row_clauses u (those (rel_of c.args.rows.now u) (N - (u + 1)) (u + 1))) in
    let f = filled c.args.out.now in
    let g = filled c.loop-w.out in
    let e : filled c.push_clause.new.out ≡ extended g (L.0 ∷ L.1 ∷ []) = search rules in
    let step = c.in-Some.ensures.steps in (
      still_extended f all g (L.0 ∷ L.1 ∷ []) _ (still_is f all g _ _ (ap (λ vs. flat (row_clauses u vs)) step) c.loop-w.invariant.0) (filled c.push_clause.new.out) e,
      (subst (Below N) step c.loop-w.invariant.1).1,
    )
