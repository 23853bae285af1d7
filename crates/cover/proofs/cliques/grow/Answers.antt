use Rattle.std.proofs.Common.{◌≡◌, ◌/◌, ◌<◌, length, get_or, take, sym, ap, ◌∙◌, subst, arith, length-set}
use lib.Bits.{bit_and}
use Rattle.std.proofs.lemmas.List.{take_all}
use Rattle.cover_theory.specs.Rows.{conflicts, Lowest}
use Rattle.cover_theory.proofs.Steps.{begins, again, ended, filled}
use Rattle.cover.proofs.Growth.{first_lowest, none_bare}
use Rattle.cover.proofs.cliques.grow.Goals as goal

pub loop-k-init : goal.loop-k-init
loop-k-init c =
    let rows = c.args.rows.now in
    let fit = rows.fit in (
      simp length-set (omega arith),
      begins rows.count rows.width rows.words.now fit.tidy fit.loose fit.small c.args.u c.args.w
          c.start.new.mask.words c.args.members.now c.requires.0 c.requires.1 (omega arith) c.start.ensures,
    )

pub loop-k-preserved : goal.loop-k-preserved
loop-k-preserved c =
    let rows = c.args.rows.now in
    let fit = rows.fit in
    let l = c.loop-k in
    let low : Lowest l.mask.words (l.from / 64) rows.width c.in-Some.c =
    first_lowest (conflicts rows.count rows.width rows.words.now) rows.width l.mask.words (take l.k l.members) l.from l.invariant.1.4 c.in-Some.c c.in-Some.ensures in (
      simp length-set l.invariant.0,
      again rows.count rows.width rows.words.now fit.tidy fit.loose fit.small c.args.u c.args.w
          l.k l.from l.mask.words l.members l.invariant.1 c.in-Some.c c.meet.new.self.words
          c.loop-k-test.true (omega (arith, l.invariant.0)) low
          (λ i p q. c.meet.ensures i p (omega (arith, c.row.ensures.length)) ∙ ap (bit_and (get_or l.mask.words i 0)) (c.row.ensures.words i q)),
    )

pub returns-in_default-clause-grows : goal.returns-in_default-clause-grows
returns-in_default-clause-grows c =
    let rows = c.args.rows.now in
    let fit = rows.fit in
    let l = c.loop-k in
    ended rows.count rows.width rows.words.now fit.tidy fit.loose fit.small c.args.u c.args.w l.k l.from l.mask.words l.members l.invariant.1
    (none_bare (conflicts rows.count rows.width rows.words.now) rows.width l.mask.words (take l.k l.members) l.from l.invariant.1.4 c.in_default.ensures)

pub returns-clause-grows : goal.returns-clause-grows
returns-clause-grows c =
    let rows = c.args.rows.now in
    let fit = rows.fit in
    let l = c.loop-k in
    sym (take_all l.k l.members (omega (arith, l.invariant.0)))
    ∙ filled rows.count rows.width rows.words.now fit.tidy fit.loose fit.small c.args.u c.args.w l.k l.from l.mask.words l.members l.invariant.1
    c.loop-k-test.false (omega (arith, l.invariant.0, l.invariant.1.0))

pub returns-clause-places : goal.returns-clause-places
returns-clause-places c i h =
    let l = c.loop-k in
    let all : take l.k l.members ≡ l.members = take_all l.k l.members (omega (arith, l.invariant.0)) in
    subst (λ z. z < c.args.rows.now.count) (ap (λ xs. get_or xs i 0) all) (l.invariant.1.6 i (omega (arith, ap length all)))
