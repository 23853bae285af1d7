use Rattle.std.proofs.Common.{◌≡◌, not, ◌&&◌, get_or, take, refl, ap, ◌∙◌, arith}
use Rattle.std.proofs.lemmas.List.{take_all}
use Rattle.cover_theory.specs.Rule.{among}
use Rattle.cover_theory.specs.Rows.{marked}
use Rattle.cover_theory.proofs.Removes.{removed_more}
use Rattle.cover.proofs.Erases.{clique_left}
use Rattle.cover.specs.Views.{rel_in}
use Rattle.cover.proofs.remaining.Remaining.remove.Goals as goal

pub loop-u-preserved : goal.loop-u-preserved
loop-u-preserved c = (
  c.erase.ensures.shape ∙ c.loop-u.invariant.0,
  λ a b.
      removed_more _ _ _ (marked c.paint.new.self.words b) c.args.clique.now c.loop-u.u-index a (get_or c.args.clique.now c.loop-u.u-index 0) (omega arith) refl
      (c.loop-u.invariant.1 a b) (c.erase.ensures.gone a b),
)

pub returns-clause-left : goal.returns-clause-left
returns-clause-left c =
    let self = c.args.self.now in
    let fit = self.fit in
    let all : take c.loop-u.u-index c.args.clique.now ≡ c.args.clique.now = take_all c.loop-u.u-index c.args.clique.now (omega arith) in
    clique_left self.count self.width self.words.now c.paint.new.self.words c.args.clique.now (rel_in c.loop-u.self) fit.small c.paint.ensures
    (λ a b. c.loop-u.invariant.1 a b ∙ ap (λ l. rel_in self a b && not (among l a && marked c.paint.new.self.words b)) all)
