use Rattle.std.proofs.Common.{ap, ◌∙◌}
use Rattle.cover_theory.specs.Rule.{Sides, widen, started_by}
use Rattle.cover_theory.proofs.Degrees.{fullest_is}
use Rattle.cover.specs.Views.{rel_of}
use Rattle.cover.proofs.bicliques.grow_sides.Goals as goal

pub returns : goal.returns
returns c =
    let N = c.args.rows.now.count in
    let rel = rel_of c.args.rows.now in
    record {
      left_neat = c.widen_sides.ensures.left;
      right_neat = c.widen_sides.ensures.right;
      sides = c.widen_sides.ensures.sides
          ∙ ap (λ (s : Sides). widen N rel N s)
          (c.start_sides.ensures.sides ∙ ap (λ x. started_by N rel x) (c.fullest.ensures.value ∙ fullest_is N rel c.args.degrees.now c.requires.some c.requires.degrees));
    }
