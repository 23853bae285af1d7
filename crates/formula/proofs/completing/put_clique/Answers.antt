use Rattle.std.proofs.Common.{length, refl, sym, ap, ◌∙◌, subst}
use Rattle.std.specs.Result.{IsOk}
use Rattle.filling.specs.Views.{filled}
use Rattle.encoder_theory.specs.Calls.{values_answer}
use Rattle.encoder_theory.specs.Appended.{values_appended}
use Rattle.formula_theory.specs.Writing.{chosen, true_place}
use Rattle.formula_theory.specs.Outcome.{assignment_of}
use Rattle.formula_theory.proofs.Models.{within_true}
use Rattle.writing_theory.proofs.Puts.{values_ok}
use Rattle.formula.specs.Chosen.{meaning_of}
use Rattle.formula.proofs.completing.put_clique.Goals as goal

pub unwrap-requires : goal.unwrap-requires
unwrap-requires g c =
    let N = meaning_of g.E.Encoder.meaning c.among-encoder.result in
    let xs = c.args.members.now in
    let s = assignment_of c.args.values.now in
    let f = filled c.args.out.now in
    let k = values_ok N (chosen (g.E.Encoder.meaning c.args.encoder.now) (length xs)) c.among-encoder.ensures (length xs) (true_place s xs) f c.requires.few (within_true s xs) c.requires.room in
    subst IsOk (sym (c.append_values.ensures.answers ∙ ap (λ t. values_answer N (length xs) t f.rest) c.true_place.ensures ∙ k.0)) refl

pub returns : goal.returns
returns g c =
    let N = meaning_of g.E.Encoder.meaning c.among-encoder.result in
    let xs = c.args.members.now in
    let s = assignment_of c.args.values.now in
    let f = filled c.args.out.now in
    let k = values_ok N (chosen (g.E.Encoder.meaning c.args.encoder.now) (length xs)) c.among-encoder.ensures (length xs) (true_place s xs) f c.requires.few (within_true s xs) c.requires.room in
    c.append_values.ensures.leaves ∙ ap (λ t. values_appended N (length xs) t f) c.true_place.ensures ∙ k.1
