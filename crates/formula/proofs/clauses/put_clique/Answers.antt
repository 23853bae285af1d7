use Rattle.std.proofs.Common.{◌≡◌, length, pos, refl, sym, ap, ◌∙◌, subst, arith, to_z, w32}
use Rattle.std.proofs.lemmas.Int.{to_z_pos}
use Rattle.std.specs.Result.{IsOk}
use Rattle.filling.specs.Views.{filled}
use Rattle.encoder_theory.specs.Calls.{write_answer}
use Rattle.encoder_theory.specs.Appended.{clauses_appended}
use Rattle.formula_theory.specs.Writing.{chosen}
use Rattle.writing_theory.proofs.Puts.{clauses_ok}
use Rattle.formula.specs.Chosen.{meaning_of}
use Rattle.formula.proofs.clauses.put_clique.Goals as goal

pub unwrap-requires : goal.unwrap-requires
unwrap-requires g c =
    let N = meaning_of g.E.Encoder.meaning c.among-encoder.result in
    let xs = c.args.members.now in
    let f = filled c.args.out.now in
    let e : to_z w32 c.args.first ≡ pos c.args.first = to_z_pos w32 c.args.first (omega (arith, c.requires.admits.fits)) in
    let k = clauses_ok N (chosen (g.E.Encoder.meaning c.args.encoder.now) (length xs)) c.among-encoder.ensures xs c.args.first f c.requires.admits c.requires.room in
    subst IsOk (sym (c.append_clauses.ensures.answers ∙ ap (λ z. write_answer N xs z f.rest) e ∙ k.0)) refl

pub returns : goal.returns
returns g c =
    let N = meaning_of g.E.Encoder.meaning c.among-encoder.result in
    let xs = c.args.members.now in
    let f = filled c.args.out.now in
    let e : to_z w32 c.args.first ≡ pos c.args.first = to_z_pos w32 c.args.first (omega (arith, c.requires.admits.fits)) in
    let k = clauses_ok N (chosen (g.E.Encoder.meaning c.args.encoder.now) (length xs)) c.among-encoder.ensures xs c.args.first f c.requires.admits c.requires.room in
    c.append_clauses.ensures.leaves ∙ ap (λ z. clauses_appended N xs z f) e ∙ k.1
