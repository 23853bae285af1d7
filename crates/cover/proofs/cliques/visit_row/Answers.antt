use Rattle.std.proofs.Common.{◌≡◌, ◌+◌, ◌-◌, ◌<◌, length, sym, ap, ◌∙◌, subst, arith}
use Rattle.filling.specs.Views.{filled}
use Rattle.cover_theory.specs.Rule.{Rel, visit, visits}
use Rattle.cover_theory.specs.Rows.{Flat, told}
use Rattle.cover_theory.proofs.Visits.{row_step, row_end, row_short}
use Rattle.cover.specs.Reading.{Next}
use Rattle.cover.specs.Views.{rel_in}
use Rattle.cover.proofs.Growth.{conflict_in}
use Rattle.cover.proofs.Moves.{moved_as, moved_on, moved_room, moved_count, on_none}
use Rattle.cover.proofs.cliques.visit_row.Goals as goal

pub visit_pair-requires : goal.visit_pair-requires
visit_pair-requires c =
    let next : Next (rel_in c.loop-w.remaining) c.args.u c.loop-w.from c.in-Some.w = subst (λ (r : Rel). Next r c.args.u c.loop-w.from c.in-Some.w) c.rows.ensures.conflicts c.in-Some.ensures in
    (omega (arith, next.low, c.loop-w.invariant.1), next.here)

pub returns-in_err-visit_pair : goal.returns-in_err-visit_pair
returns-in_err-visit_pair c =
    let l = c.loop-w in
    let N = c.args.remaining.now.count in
    let w = c.in-Some.w in
    let next : Next (rel_in l.remaining) c.args.u l.from w = subst (λ (r : Rel). Next r c.args.u l.from w) c.rows.ensures.conflicts c.in-Some.ensures in
    let n : l.remaining.count ≡ N = moved_count _ _ _ _ _ l.invariant.0 in
    let high : w < N = let p = conflict_in l.remaining.count l.remaining.width l.remaining.words.now c.args.u w next.here in omega (arith, p.1) in
    let short : length (filled l.list).put + length (filled l.list).rest < length (visit told N (rel_in l.remaining, (filled l.list).put) c.args.u w).1 =
    subst (λ k. length (filled l.list).put + length (filled l.list).rest < length (visit told k (rel_in l.remaining, (filled l.list).put) c.args.u w).1) n c.in_err-visit_pair.ensures in
    let more = row_short N (rel_in l.remaining) (filled l.list).put c.args.u l.from w (length (filled l.list).put + length (filled l.list).rest) next.low high next.before short in
    on_none _ _ _ c.from_residual.ensures
    (omega (arith, more, moved_room _ _ _ _ _ l.invariant.0, ap (λ (s : Flat). length s.1) l.invariant.3))

pub loop-w-preserved : goal.loop-w-preserved
loop-w-preserved c =
    let l = c.loop-w in
    let N = c.args.remaining.now.count in
    let w = c.in-Some.w in
    let q = c.in_ok-visit_pair.ensures in
    let next : Next (rel_in l.remaining) c.args.u l.from w = subst (λ (r : Rel). Next r c.args.u l.from w) c.rows.ensures.conflicts c.in-Some.ensures in
    let n : l.remaining.count ≡ N = moved_count _ _ _ _ _ l.invariant.0 in
    let high : w < N = let p = conflict_in l.remaining.count l.remaining.width l.remaining.words.now c.args.u w next.here in omega (arith, p.1) in (
      moved_as _ _ _ _ _ _ (moved_on _ _ _ _ _ _ _ _ l.invariant.0 q) (sym q.state),
      omega (arith, next.low, l.invariant.1),
      omega arith,
      ap (λ (s : Flat). visits told N s c.args.u (N - (w + 1)) (w + 1)) q.state
          ∙ ap (λ k. visits told N (visit told k (rel_in l.remaining, (filled l.list).put) c.args.u w) c.args.u (N - (w + 1)) (w + 1)) n
          ∙ sym (row_step N (rel_in l.remaining) (filled l.list).put c.args.u l.from w next.low high next.before) ∙ l.invariant.3,
    )

pub returns : goal.returns
returns c =
    let l = c.loop-w in
    moved_as _ _ _ _ _ _ l.invariant.0
    (sym (row_end c.args.remaining.now.count (rel_in l.remaining) (filled l.list).put c.args.u l.from l.invariant.2
    (λ j h. ap (λ (r : Rel). r c.args.u j) (sym c.rows.ensures.conflicts) ∙ c.in_default.ensures j h)) ∙ l.invariant.3)
