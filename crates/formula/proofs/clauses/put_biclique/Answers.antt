use Rattle.std.proofs.Common.{◌≡◌, ◌≤◌, [], ◌∷◌, map, get_or, pos, rules}
use Rattle.filling.specs.Filled.{extended}
use Rattle.filling.specs.Views.{filled}
use Rattle.logic.specs.Literal.{variable}
use Rattle.logic.specs.Clause.{against, flat}
use Rattle.encoder_theory.specs.Meaning.{last_end}
use Rattle.formula_theory.specs.Writing.{implication, biclique_clauses}
use Rattle.writing_theory.proofs.Still.{still_start}
use Rattle.writing_theory.proofs.Puts.{each_on, biclique_room}
use Rattle.formula.proofs.clauses.put_biclique.Goals as goal

pub loop-a-init : goal.loop-a-init
loop-a-init c = still_start (filled c.args.out.now) (flat (biclique_clauses c.args.left.now c.args.right.now (pos c.args.auxiliary)))
    (biclique_room c.args.left.now c.args.right.now c.args.auxiliary _ c.requires.room)

pub loop-a-preserved : goal.loop-a-preserved
loop-a-preserved c =
    let z = pos c.args.auxiliary in
    let a = get_or c.args.left.now c.loop-a.a-index (pos 0) in
    let small : variable a ≤ last_end = c.requires.left c.loop-a.a-index (pos 0) c.loop-a-test.true in
    let e : filled c.push_clause.new.out ≡ extended (filled c.loop-a.out) ((implication a z).0 ∷ (implication a z).1 ∷ []) = search rules in
    each_on (filled c.args.out.now) (flat (biclique_clauses c.args.left.now c.args.right.now z)) (λ a. implication a z) c.args.left.now
    c.loop-a.a-index c.loop-a-test.true (map (λ b. against z b) c.args.right.now) (filled c.loop-a.out) (filled c.push_clause.new.out) c.loop-a.invariant e

pub loop-b-preserved : goal.loop-b-preserved
loop-b-preserved c =
    let z = pos c.args.auxiliary in
    let b = get_or c.args.right.now c.loop-b.b-index (pos 0) in
    let small : variable b ≤ last_end = c.requires.right c.loop-b.b-index (pos 0) c.loop-b-test.true in
    let e : filled c.push_clause-in-loop-b.new.out ≡ extended (filled c.loop-b.out) ((against z b).0 ∷ (against z b).1 ∷ []) = search rules in
    each_on (filled c.args.out.now) (flat (biclique_clauses c.args.left.now c.args.right.now z)) (λ b. against z b) c.args.right.now
    c.loop-b.b-index c.loop-b-test.true [] (filled c.loop-b.out) (filled c.push_clause-in-loop-b.new.out) c.loop-b.invariant e
