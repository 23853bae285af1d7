use Rattle.std.proofs.Common.{length, ◌∙◌, rules}
use Rattle.filling.specs.Views.{filled}
use Rattle.formula_theory.specs.Writing.{part_auxiliaries, over_parts}
use Rattle.formula_theory.specs.Outcome.{assignment_of}
use Rattle.writing_theory.specs.Listed.{parts_of}
use Rattle.writing_theory.specs.Completing.{broken}
use Rattle.writing_theory.proofs.Completes.{completed_left, values_all}
use Rattle.cover.specs.Views.{rel_of}
use Rattle.formula.proofs.completing.complete_covered.Goals as goal

pub returns-clause-leaves : goal.returns-clause-leaves
returns-clause-leaves g c =
    let M = g.E.Encoder.meaning c.args.encoder.now in
    let s = assignment_of c.args.values.now in
    let Ps = parts_of c.args.list.now in
    completed_left (over_parts (part_auxiliaries M) Ps) c.args.numbers (length c.args.out.now) (broken c.args.rows.now.count (rel_of c.args.rows.now) s)
    c.in_ok-auxiliaries.auxiliaries c.in_ok-auxiliaries.ensures _ _ _
    (search rules ∙ values_all M (g.met.E.Encoder.lawful c.args.encoder.now) (length c.args.values.now) s Ps c.requires.listed.sound _ _ (filled c.new.result) c.put_parts.new.out c.new.ensures c.put_parts.ensures)
