use Rattle.std.proofs.Common.{◌*◌, ◌≤◌, length, sym, ◌∙◌, subst, rules}
use Rattle.filling.specs.Filled.{Filled}
use Rattle.filling.specs.Views.{filled}
use Rattle.formula_theory.specs.Writing.{clause_count}
use Rattle.writing_theory.specs.Covering.{cover_in}
use Rattle.writing_theory.proofs.Covered.{remaining_room, put_all}
use Rattle.formula.specs.Rows.{remaining_in}
use Rattle.formula.proofs.covered.put_covered.Goals as goal

pub put_remaining-requires : goal.put_remaining-requires
put_remaining-requires g c =
    let M = g.E.Encoder.meaning c.args.encoder.now in
    let xs = c.args.list.now in
    let pairs = remaining_in c.args.rows.now in
    remaining_room M (g.met.E.Encoder.lawful c.args.encoder.now) xs pairs c.args.first c.requires.ready (filled c.new-out.result) (filled c.put_parts.new.out)
    (subst (λ (k : Filled _). 2 * clause_count M (cover_in xs pairs) ≤ length k.rest) (sym c.new-out.ensures) c.requires.room) c.put_parts.ensures

pub returns : goal.returns
returns g c =
    let M = g.E.Encoder.meaning c.args.encoder.now in
    search rules
    ∙ put_all M (g.met.E.Encoder.lawful c.args.encoder.now) c.args.list.now (remaining_in c.args.rows.now) c.args.first c.requires.ready _ _ (filled c.new-out.result) (filled c.put_parts.new.out)
    c.put_remaining.new.out c.new-out.ensures c.put_parts.ensures c.put_remaining.ensures
