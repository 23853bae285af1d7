use Rattle.std.proofs.Common.{◌+◌, ◌-◌, ◌≤◌, take, drop, subst, arith}
use Rattle.encoder_theory.specs.Meaning.{last_end}
use Rattle.formula_theory.specs.Writing.{part_auxiliaries}
use Rattle.writing_theory.specs.Listed.{SoundBelow}
use Rattle.writing_theory.proofs.Parts.{as_clique, as_biclique}
use Rattle.writing_theory.proofs.Puts.{clique_admits, sides_small}
use Rattle.formula.proofs.clauses.put_part.Goals as goal

pub put_clique-requires-clause-admits : goal.put_clique-requires-clause-admits
put_clique-requires-clause-admits g c =
    let M = g.E.Encoder.meaning c.args.encoder.now in
    let first = c.args.first in
    let at = c.in-Clique.at in
    let k = at + c.in-Clique.size - at in
    let e = as_clique c.args.list.now c.args.part at c.in-Clique.size k c.in-Clique.is (omega arith) in
    clique_admits M first (take k (drop at c.args.list.now)) (subst (SoundBelow first) e c.requires.sound) (subst (λ P. first + part_auxiliaries M P ≤ last_end) e c.requires.fits)

pub put_biclique-requires-clause-left : goal.put_biclique-requires-clause-left
put_biclique-requires-clause-left g c =
    let M = g.E.Encoder.meaning c.args.encoder.now in
    let first = c.args.first in
    let at = c.in-Biclique.at in
    let xs = c.args.list.now in
    let a = c.in-Biclique.left in
    let j = at + a - at in
    let e = as_biclique xs c.args.part at a c.in-Biclique.right j c.in-Biclique.right c.in-Biclique.is (omega arith) (omega arith) in
    let h : first + 1 ≤ last_end = subst (λ P. first + part_auxiliaries M P ≤ last_end) e c.requires.fits in
    (sides_small first (take j (drop at xs)) (take c.in-Biclique.right (drop (at + a) xs)) (subst (SoundBelow first) e c.requires.sound) (omega arith)).0

pub put_biclique-requires-clause-right : goal.put_biclique-requires-clause-right
put_biclique-requires-clause-right g c =
    let M = g.E.Encoder.meaning c.args.encoder.now in
    let first = c.args.first in
    let at = c.in-Biclique.at in
    let xs = c.args.list.now in
    let a = c.in-Biclique.left in
    let b = c.in-Biclique.right in
    let k = at + a + b - (at + a) in
    let e = as_biclique xs c.args.part at a b a k c.in-Biclique.is (omega arith) (omega arith) in
    let h : first + 1 ≤ last_end = subst (λ P. first + part_auxiliaries M P ≤ last_end) e c.requires.fits in
    (sides_small first (take a (drop at xs)) (take k (drop (at + a) xs)) (subst (SoundBelow first) e c.requires.sound) (omega arith)).1
