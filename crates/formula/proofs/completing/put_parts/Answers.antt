use Rattle.std.proofs.Common.{length, sym, ap, ◌∙◌, subst}
use Rattle.filling.specs.Views.{filled}
use Rattle.formula_theory.specs.Outcome.{assignment_of}
use Rattle.writing_theory.proofs.Puts.{Valuing, valuing_start, valued_sound, valued_room, valuing_on, valuing_end}
use Rattle.cover.specs.Left.{parts_left}
use Rattle.formula.proofs.completing.put_parts.Goals as goal

pub loop-part-init : goal.loop-part-init
loop-part-init g c =
    let M = g.E.Encoder.meaning c.args.encoder.now in
    let f = filled c.args.out.now in
    let n = length c.args.values.now in
    let s = assignment_of c.args.values.now in
    subst (λ ps. Valuing M c.args.list.now n s f ps f) (sym (ap parts_left c.into_iter-part-iterator.ensures.into_iter_gives ∙ c.new-part-items.ensures))
    (valuing_start M c.args.list.now n s f (g.met.E.Encoder.lawful c.args.encoder.now) c.requires.sound c.requires.room)

pub put_part-requires : goal.put_part-requires
put_part-requires g c =
    let M = g.E.Encoder.meaning c.args.encoder.now in
    let law = g.met.E.Encoder.lawful c.args.encoder.now in
    let xs = c.args.list.now in
    let n = length c.args.values.now in
    let s = assignment_of c.args.values.now in
    let f = filled c.args.out.now in
    let h = filled c.loop-part.out in
    let p = c.in-Some.part in
    let ps = parts_left c.next.new.self in
    let w = subst (λ qs. Valuing M xs n s f qs h) c.in-Some.ensures.steps c.loop-part.invariant in
    record { within = w.inside.0; sound = valued_sound M xs n s f law p ps h w; room = valued_room M xs n s f law p ps h w }

pub loop-part-preserved : goal.loop-part-preserved
loop-part-preserved g c =
    let M = g.E.Encoder.meaning c.args.encoder.now in
    let xs = c.args.list.now in
    let n = length c.args.values.now in
    let s = assignment_of c.args.values.now in
    let f = filled c.args.out.now in
    let h = filled c.loop-part.out in
    let p = c.in-Some.part in
    let ps = parts_left c.next.new.self in
    let w = subst (λ qs. Valuing M xs n s f qs h) c.in-Some.ensures.steps c.loop-part.invariant in
    valuing_on M xs n s f (g.met.E.Encoder.lawful c.args.encoder.now) p ps h w (filled c.put_part.new.out) c.put_part.ensures

pub returns : goal.returns
returns g c =
    let M = g.E.Encoder.meaning c.args.encoder.now in
    let n = length c.args.values.now in
    let s = assignment_of c.args.values.now in
    let f = filled c.args.out.now in
    let h = filled c.loop-part.out in
    valuing_end M c.args.list.now n s f h (subst (λ qs. Valuing M c.args.list.now n s f qs h) c.in-None.ensures.steps.0 c.loop-part.invariant)
