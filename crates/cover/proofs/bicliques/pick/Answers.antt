use Rattle.std.proofs.Common.{ℕ, sym, refl}
use Rattle.std.proofs.lemmas.Bool.{ltb-true, ltb-false}
use Rattle.cover_theory.specs.Rule.{score}
use Rattle.cover_theory.specs.Rows.{held}
use Rattle.cover_theory.proofs.Counts.{picks_new, picks_old}
use Rattle.cover.specs.Views.{rel_of}
use Rattle.cover.proofs.bicliques.pick.Goals as goal
use Rattle.cover.proofs.bicliques.pick.Goals.{then-beats, else-beats}

pub loop-c-preserved : goal.loop-c-preserved
loop-c-preserved c =
    let l = c.loop-c in
    let rows = c.args.rows.now in
    let sides = c.args.sides.now in
    let sc : ℕ → ℕ = score rows.count (rel_of rows) (held rows.count sides.left.words) (held rows.count sides.right.words) in
    elim c.if-beats.branch [
      | then-beats w ↦ picks_new sc rows.count l.c l.best l.top c.score_above-s.result _ _ _ c.loop-c-test.true l.invariant.1 (c.score_above-s.ensures.above (ltb-true _ _ (sym w.if-beats.ensures))) l.invariant.2 (ltb-true _ _ (sym w.if-beats.ensures)) w.best-is w.top-is
      | else-beats w ↦ picks_old sc rows.count l.c l.best l.top (sc l.c) _ _ _ c.loop-c-test.true l.invariant.1 refl l.invariant.2 l.invariant.0 (c.score_above-s.ensures.below (ltb-false _ _ (sym w.if-beats.ensures))) w.best-is w.top-is
    ]
