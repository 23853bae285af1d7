use Rattle.std.proofs.Common.{◌≡◌, not, ◌&&◌, ◌||◌, ltb, ap, ◌∙◌, arith}
use Rattle.cover_theory.specs.Rows.{marked}
use Rattle.cover.proofs.Erases.{erased_more, sides_left}
use Rattle.cover.specs.Views.{rel_in}
use Rattle.cover.proofs.remaining.Remaining.sever.Goals as goal

pub loop-u-preserved : goal.loop-u-preserved
loop-u-preserved c =
    let A = c.args.sides.now.left.words in
    let B = c.args.sides.now.right.words in (
      c.erase_if-in-loop-u.ensures.shape ∙ c.erase_if.ensures.shape ∙ c.loop-u.invariant.0,
      λ a b.
          erased_more c.loop-u.u a (rel_in c.args.self.now a b) (rel_in c.loop-u.self a b) (rel_in c.erase_if.new.self a b) (rel_in c.erase_if-in-loop-u.new.self a b)
          (marked A a) (marked B b) (marked B a) (marked A b) (c.loop-u.invariant.1 a b) (c.erase_if.ensures.gone a b) (c.erase_if-in-loop-u.ensures.gone a b),
    )

pub returns-clause-left : goal.returns-clause-left
returns-clause-left c =
    let self = c.args.self.now in
    let A = c.args.sides.now.left.words in
    let B = c.args.sides.now.right.words in
    let end : c.loop-u.u ≡ self.count = omega arith in
    sides_left self.count self.width self.words.now A B (rel_in c.loop-u.self)
    (λ a b. c.loop-u.invariant.1 a b ∙ ap (λ n. rel_in self a b && not (ltb a n && ((marked A a && marked B b) || (marked B a && marked A b)))) end)
