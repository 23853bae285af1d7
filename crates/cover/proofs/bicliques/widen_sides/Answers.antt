use Rattle.std.proofs.Common.{◌≡◌, sym, ap, ◌∙◌, arith, ℕ, ◌≤◌, ◌<◌, get_or, ◌+◌, ◌*◌}
use lib.Bits.{bit_and}
use Rattle.cover_theory.specs.Rows.{held}
use Rattle.std.proofs.lemmas.Bool.{ltb-true, ltb-false}
use Rattle.cover_theory.proofs.Sides.{join_held, join_neat, meet_held, meet_neat, widen_no, widen_yes}
use Rattle.cover.specs.Views.{rel_of}
use Rattle.cover.proofs.bicliques.widen_sides.Goals as goal

pub returns-then-not-improves-clause-sides : goal.returns-then-not-improves-clause-sides
returns-then-not-improves-clause-sides c =
    let rows = c.args.rows.now in
    let l = c.loop-step in
    let A = l.sides.left.words in
    let B = l.sides.right.words in
    let fit = rows.fit in
    sym (widen_no rows.count (rel_of rows) (held rows.count A) (held rows.count B) l._step c.pick-c.result c.len-x.result c.len-y.result c.common.result c.loop-step-test.true
    c.pick-c.ensures.value (c.len-x.ensures.value rows.count fit.small l.invariant.0) (c.len-y.ensures.value rows.count fit.small l.invariant.1) c.common.ensures.value
    (ltb-false _ _ (sym (c.if-not-improves.ensures))))
    ∙ l.invariant.2

pub loop-step-preserved : goal.loop-step-preserved
loop-step-preserved c =
    let rows = c.args.rows.now in
    let l = c.loop-step in
    let A = l.sides.left.words in
    let B = l.sides.right.words in
    let fit = rows.fit in
    let w = c.pick-c.result in
    let hw = c.pick-c.ensures.bound in
    let met : (k : ℕ) → 0 ≤ k → k < rows.width → get_or c.meet.new.self.words k 0 ≡ bit_and (get_or B k 0) (get_or rows.words.now (w * rows.width + k) 0) =
    λ k p q. c.meet.ensures k p (omega (arith, c.row.ensures.length)) ∙ ap (bit_and (get_or B k 0)) (c.row.ensures.words k q) in (
      join_neat rows.count rows.width rows.words.now fit A B l.invariant.0 l.invariant.1 w hw c.insert.new.self.words c.insert.ensures,
      meet_neat rows.count rows.width rows.words.now fit A B l.invariant.0 l.invariant.1 w hw c.meet.new.self.words met,
      widen_yes rows.count (rel_of rows) (held rows.count A) (held rows.count B) l._step w c.len-x.result c.len-y.result c.common.result c.loop-step-test.true
          c.pick-c.ensures.value (c.len-x.ensures.value rows.count fit.small l.invariant.0) (c.len-y.ensures.value rows.count fit.small l.invariant.1) c.common.ensures.value
          (held rows.count c.insert.new.self.words) (held rows.count c.meet.new.self.words)
          (join_held rows.count rows.width rows.words.now fit A B l.invariant.0 l.invariant.1 w hw c.insert.new.self.words c.insert.ensures)
          (meet_held rows.count rows.width rows.words.now fit A B l.invariant.0 l.invariant.1 w hw c.meet.new.self.words met)
          (ltb-true _ _ (sym (c.if-not-improves.ensures)))
          ∙ l.invariant.2,
    )
