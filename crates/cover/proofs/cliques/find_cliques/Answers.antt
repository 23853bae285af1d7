use Rattle.std.proofs.Common.{◌≡◌, ◌+◌, ◌-◌, ◌<◌, length, sym, ap, ◌∙◌, subst, arith}
use Rattle.filling.specs.Views.{filled}
use Rattle.cover_theory.specs.Rule.{visits, sweep}
use Rattle.cover_theory.specs.Rows.{Flat, told}
use Rattle.cover_theory.proofs.Visits.{sweep_more, sweep_short, sweep_all, sweep_start}
use Rattle.cover.specs.Views.{rel_in}
use Rattle.cover.proofs.Moves.{moved_none, moved_as, moved_on, moved_room, moved_count, on_none}
use Rattle.cover.proofs.cliques.find_cliques.Goals as goal

pub loop-u-init : goal.loop-u-init
loop-u-init c =
    let r = c.args.remaining.now in
    let f = filled c.args.list.now in
    (moved_none r f, sweep_start r.count (rel_in r, f.put))

pub returns-in_err-visit_row : goal.returns-in_err-visit_row
returns-in_err-visit_row c =
    let l = c.loop-u in
    let N = c.args.remaining.now.count in
    let state : Flat = (rel_in l.remaining, (filled l.list).put) in
    let room = length (filled l.list).put + length (filled l.list).rest in
    let n : l.remaining.count ≡ N = moved_count _ _ _ _ _ l.invariant.0 in
    let short : room < length (visits told N state l.u (N - (l.u + 1)) (l.u + 1)).1 =
    subst (λ k. room < length (visits told k state l.u (k - (l.u + 1)) (l.u + 1)).1) n c.in_err-visit_row.ensures in
    on_none _ _ _ c.from_residual.ensures
    (omega (arith, sweep_short N state l.u room c.loop-u-test.true short, moved_room _ _ _ _ _ l.invariant.0, ap (λ (s : Flat). length s.1) l.invariant.1))

pub loop-u-preserved : goal.loop-u-preserved
loop-u-preserved c =
    let l = c.loop-u in
    let N = c.args.remaining.now.count in
    let q = c.in_ok-visit_row.ensures in
    let state : Flat = (rel_in l.remaining, (filled l.list).put) in
    let n : l.remaining.count ≡ N = moved_count _ _ _ _ _ l.invariant.0 in (
      moved_as _ _ _ _ _ _ (moved_on _ _ _ _ _ _ _ _ l.invariant.0 q) (sym q.state),
      ap (λ (s : Flat). sweep told N s (N - (l.u + 1)) (l.u + 1)) q.state
          ∙ ap (λ k. sweep told N (visits told k state l.u (k - (l.u + 1)) (l.u + 1)) (N - (l.u + 1)) (l.u + 1)) n
          ∙ sym (sweep_more N state l.u c.loop-u-test.true) ∙ l.invariant.1,
    )

pub returns : goal.returns
returns c =
    let l = c.loop-u in
    moved_as _ _ _ _ _ _ l.invariant.0 (sym (sweep_all c.args.remaining.now.count (rel_in l.remaining, (filled l.list).put) l.u c.loop-u-test.false) ∙ l.invariant.1)
