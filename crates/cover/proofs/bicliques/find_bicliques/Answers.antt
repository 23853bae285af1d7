use Rattle.std.proofs.Common.{◌≡◌, ℕ, ◌+◌, ◌-◌, ◌*◌, ◌<◌, true, false, ◌||◌, cond, List, length, get_or, sym, ap, ◌∙◌, subst, arith}
use Rattle.std.proofs.lemmas.Bool.{leb-true, leb-false}
use Rattle.filling.specs.Views.{filled}
use Rattle.cover_theory.specs.Rule.{Rel, bicliques, gains, grown_sides, without_sides, count, shared, everyone}
use Rattle.cover_theory.specs.Rows.{Flat, SidesIn, held, marked, told, sides_part}
use Rattle.cover_theory.proofs.Degrees.{recounted}
use Rattle.cover_theory.proofs.Pairs.{test_gains, test_ends, loop_ends, loop_more, loop_short}
use Rattle.cover.specs.Views.{Moved, rel_in}
use Rattle.cover.proofs.Moves.{moved_as, moved_on, moved_room, moved_count, on_none}
use Rattle.cover.proofs.bicliques.find_bicliques.Goals as goal

-- the sides that grew, by the names of the loop
sides_at : (n w N W : ℕ) (r rel : Rel) (A B : List ℕ) → n ≡ N → w ≡ W → r ≡ rel → SidesIn n w A B (grown_sides n r) → SidesIn N W A B (grown_sides N rel)
sides_at n w N W r rel A B en ew er s =
    subst (λ q. SidesIn N W A B (grown_sides N q)) er (subst (λ k. SidesIn N k A B (grown_sides N r)) ew (subst (λ k. SidesIn k w A B (grown_sides k r)) en s))

-- and the degrees that are counted anew
degrees_at : (n N : ℕ) (r rel : Rel) (A B ds ds' : List ℕ) → n ≡ N → r ≡ rel
    → ((u : ℕ) → u < n → get_or ds' u 0 ≡ cond (marked A u || marked B u) (count (shared r (everyone n) u) n 0) (get_or ds u 0))
    → (u : ℕ) → u < N → get_or ds' u 0 ≡ cond (marked A u || marked B u) (count (shared rel (everyone N) u) N 0) (get_or ds u 0)
degrees_at n N r rel A B ds ds' en er h =
    subst (λ q. (u : ℕ) → u < N → get_or ds' u 0 ≡ cond (marked A u || marked B u) (count (shared q (everyone N) u) N 0) (get_or ds u 0)) er
    (subst (λ k. (u : ℕ) → u < k → get_or ds' u 0 ≡ cond (marked A u || marked B u) (count (shared r (everyone k) u) k 0) (get_or ds u 0)) en h)

pub returns-then-no_gain : goal.returns-then-no_gain
returns-then-no_gain c =
    let l = c.loop-step in
    let N = c.args.remaining.now.count in
    let A = c.grow_sides.new.sides.left.words in
    let B = c.grow_sides.new.sides.right.words in
    let n : l.remaining.count ≡ N = moved_count _ _ _ _ _ l.invariant.0 in
    let rows = c.rows-in-loop-step in
    let s = sides_at rows.result.count rows.result.width N l.remaining.width _ (rel_in l.remaining) A B (rows.ensures.count ∙ n) rows.ensures.width rows.ensures.conflicts c.grow_sides.ensures in
    let small = l.remaining.fit.small in
    let g : gains N (held N A, held N B) ≡ false =
    test_ends N (held N A, held N B) c.len-x.result c.len-y.result (c.len-x.ensures.value N (omega arith) s.left_neat) (c.len-y.ensures.value N (omega arith) s.right_neat) (leb-true _ _ (sym c.if-no_gain.ensures)) in
    moved_as _ _ _ _ _ _ l.invariant.0
    (sym (loop_ends N (N * N) l._step (rel_in l.remaining) (filled l.list).put (held N A, held N B) c.loop-step-test.true s.sides g) ∙ l.invariant.2)

pub returns-in_err-take_sides : goal.returns-in_err-take_sides
returns-in_err-take_sides c =
    let l = c.loop-step in
    let N = c.args.remaining.now.count in
    let A = c.grow_sides.new.sides.left.words in
    let B = c.grow_sides.new.sides.right.words in
    let n : l.remaining.count ≡ N = moved_count _ _ _ _ _ l.invariant.0 in
    let rows = c.rows-in-loop-step in
    let s = sides_at rows.result.count rows.result.width N l.remaining.width _ (rel_in l.remaining) A B (rows.ensures.count ∙ n) rows.ensures.width rows.ensures.conflicts c.grow_sides.ensures in
    let small = l.remaining.fit.small in
    let g : gains N (held N A, held N B) ≡ true =
    test_gains N (held N A, held N B) c.len-x.result c.len-y.result (c.len-x.ensures.value N (omega arith) s.left_neat) (c.len-y.ensures.value N (omega arith) s.right_neat) (leb-false _ _ (sym c.if-no_gain.ensures)) in
    let room = length (filled l.list).put + length (filled l.list).rest in
    let short : room < length (told (filled l.list).put (sides_part N A B)) = subst (λ k. room < length (told (filled l.list).put (sides_part k A B))) n c.in_err-take_sides.ensures in
    on_none _ _ _ c.from_residual.ensures
    (omega (
      arith,
      loop_short N (N * N) l._step (rel_in l.remaining) (filled l.list).put (held N A, held N B) c.loop-step-test.true s.sides g room short,
      moved_room _ _ _ _ _ l.invariant.0,
      ap (λ (t : Flat). length t.1) l.invariant.2,
    ))

pub loop-step-preserved : goal.loop-step-preserved
loop-step-preserved c =
    let l = c.loop-step in
    let N = c.args.remaining.now.count in
    let A = c.grow_sides.new.sides.left.words in
    let B = c.grow_sides.new.sides.right.words in
    let n : l.remaining.count ≡ N = moved_count _ _ _ _ _ l.invariant.0 in
    let rows = c.rows-in-loop-step in
    let s = sides_at rows.result.count rows.result.width N l.remaining.width _ (rel_in l.remaining) A B (rows.ensures.count ∙ n) rows.ensures.width rows.ensures.conflicts c.grow_sides.ensures in
    let small = l.remaining.fit.small in
    let g : gains N (held N A, held N B) ≡ true =
    test_gains N (held N A, held N B) c.len-x.result c.len-y.result (c.len-x.ensures.value N (omega arith) s.left_neat) (c.len-y.ensures.value N (omega arith) s.right_neat) (leb-false _ _ (sym c.if-no_gain.ensures)) in
    let t : Flat = (without_sides (rel_in l.remaining) (held N A, held N B), told (filled l.list).put (sides_part N A B)) in
    let q : Moved l.remaining c.take_sides.new.remaining (filled l.list) (filled c.take_sides.new.list) t =
    subst (λ k. Moved l.remaining c.take_sides.new.remaining (filled l.list) (filled c.take_sides.new.list) (without_sides (rel_in l.remaining) (held k A, held k B), told (filled l.list).put (sides_part k A B)))
    n c.in_ok-take_sides.ensures in
    let again = c.rows-in-loop-step-2 in (
      moved_as _ _ _ _ _ _ (moved_on _ _ _ _ _ _ _ _ l.invariant.0 q) (sym q.state),
      recounted N (rel_in l.remaining) (rel_in c.take_sides.new.remaining) A B l.degrees c.recount.new.degrees l.invariant.1 (ap (λ (z : Flat). z.0) q.state)
          (degrees_at again.result.count N _ (rel_in c.take_sides.new.remaining) A B l.degrees c.recount.new.degrees
          (again.ensures.count ∙ moved_count _ _ _ _ _ q ∙ n) again.ensures.conflicts c.recount.ensures),
      ap (λ (z : Flat). bicliques told N (N * N - (l._step + 1)) z) q.state
          ∙ sym (loop_more N (N * N) l._step (rel_in l.remaining) (filled l.list).put (held N A, held N B) c.loop-step-test.true s.sides g) ∙ l.invariant.2,
    )
