use Rattle.std.proofs.Common.{ℕ, ◌+◌, get_or, sym, refl}
use Rattle.std.proofs.lemmas.Bool.{ltb-true, ltb-false}
use Rattle.cover_theory.proofs.Counts.{picks_new, picks_old}
use Rattle.cover.proofs.bicliques.fullest.Goals as goal
use Rattle.cover.proofs.bicliques.fullest.Goals.{then-beats, else-beats}

pub loop-c-preserved : goal.loop-c-preserved
loop-c-preserved c =
    let l = c.loop-c in
    let sc : ℕ → ℕ = λ x. get_or c.args.degrees.now x 0 + 1 in
    elim c.if-beats.branch [
      | then-beats w ↦ picks_new sc c.args.count l.c l.best l.top _ _ _ _ c.loop-c-test.true l.invariant.1 refl l.invariant.2 (ltb-true _ _ (sym w.if-beats.ensures)) w.best-is w.top-is
      | else-beats w ↦ picks_old sc c.args.count l.c l.best l.top _ _ _ _ c.loop-c-test.true l.invariant.1 refl l.invariant.2 l.invariant.0 (ltb-false _ _ (sym w.if-beats.ensures)) w.best-is w.top-is
    ]
