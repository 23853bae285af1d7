use Rattle.std.proofs.Common.{sym, ap, ◌∙◌, subst, rules}
use Rattle.writing_theory.proofs.Parts.{Adding, adding_start, adding_moderate, adding_on, adding_end}
use Rattle.cover.specs.Left.{parts_left}
use Rattle.formula.proofs.parts.add_up.Goals as goal

pub loop-part-init : goal.loop-part-init
loop-part-init g c =
    let M = g.E.Encoder.meaning c.args.encoder.now in
    let xs = c.args.list.now in
    subst (Adding M xs (record { clauses = 0; auxiliaries = 0 })) (sym (ap parts_left c.into_iter-part-iterator.ensures.into_iter_gives ∙ c.new-part-items.ensures)) (adding_start M xs c.requires)

pub part_size-size-requires : goal.part_size-size-requires
part_size-size-requires g c =
    let M = g.E.Encoder.meaning c.args.encoder.now in
    let xs = c.args.list.now in
    adding_moderate M xs c.loop-part.total c.in-Some.part (parts_left c.next.new.self) (subst (Adding M xs c.loop-part.total) c.in-Some.ensures.steps c.loop-part.invariant) c.requires (search rules)

pub loop-part-preserved : goal.loop-part-preserved
loop-part-preserved g c =
    let M = g.E.Encoder.meaning c.args.encoder.now in
    let xs = c.args.list.now in
    adding_on M xs c.loop-part.total c.in-Some.part (parts_left c.next.new.self) (subst (Adding M xs c.loop-part.total) c.in-Some.ensures.steps c.loop-part.invariant) c.requires
    c.part_size-size.result c.part_size-size.ensures

pub returns : goal.returns
returns g c =
    let M = g.E.Encoder.meaning c.args.encoder.now in
    let xs = c.args.list.now in
    adding_end M xs c.loop-part.total (subst (Adding M xs c.loop-part.total) c.in-None.ensures.steps.0 c.loop-part.invariant)
