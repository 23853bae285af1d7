use Rattle.std.proofs.Common.{ltb, get_or, arith}
use Rattle.std.proofs.lemmas.Bool.{and_parts, ltb-true}
use Rattle.cover_theory.specs.Rows.{held, marked}
use Rattle.cover_theory.proofs.Degrees.{score_bound}
use Rattle.cover.specs.Views.{rel_of}
use Rattle.cover.proofs.bicliques.score_above.Goals as goal

pub returns-then-degrees-c-clause-below : goal.returns-then-degrees-c-clause-below
returns-then-degrees-c-clause-below c h =
    let N = c.args.rows.now.count in
    let A = c.args.sides.now.left.words in
    let B = c.args.sides.now.right.words in
    omega (
      arith,
      score_bound N (rel_of c.args.rows.now) (held N A) (held N B) c.args.c (get_or c.args.degrees.now c.args.c 0)
          (λ j g. ltb-true j N (and_parts (ltb j N) (marked B j) g).0) (c.requires.degrees c.args.c c.requires.literal),
    )
