use Rattle.std.proofs.Common.{◌+◌, sym, ap, ◌∙◌, subst, rules}
use Rattle.filling.specs.Views.{filled}
use Rattle.formula_theory.specs.declared.Size.{Size}
use Rattle.writing_theory.proofs.Parts.{takes_read}
use Rattle.writing_theory.proofs.Puts.{Putting, putting_start, next_sound, next_moderate, next_fits, next_room, putting_on, putting_end}
use Rattle.cover.specs.Left.{parts_left}
use Rattle.formula.proofs.clauses.put_parts.Goals as goal

pub loop-part-init : goal.loop-part-init
loop-part-init g c =
    let M = g.E.Encoder.meaning c.args.encoder.now in
    let f = filled c.args.out.now in
    subst (λ ps. Putting M c.args.list.now c.args.first f ps c.args.first f) (sym (ap parts_left c.into_iter-part-iterator.ensures.into_iter_gives ∙ c.new-part-items.ensures))
    (putting_start M c.args.list.now c.args.first f (g.met.E.Encoder.lawful c.args.encoder.now) c.requires.ready c.requires.room)

pub put_part-requires : goal.put_part-requires
put_part-requires g c =
    let M = g.E.Encoder.meaning c.args.encoder.now in
    let law = g.met.E.Encoder.lawful c.args.encoder.now in
    let xs = c.args.list.now in
    let f = filled c.args.out.now in
    let n = c.loop-part.next in
    let h = filled c.loop-part.out in
    let p = c.in-Some.part in
    let ps = parts_left c.next.new.self in
    let w = subst (λ qs. Putting M xs c.args.first f qs n h) c.in-Some.ensures.steps c.loop-part.invariant in
    record {
      within = w.inside.0;
      sound = next_sound M xs c.args.first f law p ps n h w;
      fits = next_fits M xs c.args.first f law p ps n h w;
      room = next_room M xs c.args.first f law p ps n h w;
    }

pub part_size-requires : goal.part_size-requires
part_size-requires g c =
    let M = g.E.Encoder.meaning c.args.encoder.now in
    let xs = c.args.list.now in
    let f = filled c.args.out.now in
    let h = filled c.loop-part.out in
    let w = subst (λ qs. Putting M xs c.args.first f qs c.loop-part.next h) c.in-Some.ensures.steps c.loop-part.invariant in
    next_moderate M xs c.args.first f (g.met.E.Encoder.lawful c.args.encoder.now) c.in-Some.part (parts_left c.next.new.self) c.loop-part.next h w (search rules)

pub loop-part-preserved : goal.loop-part-preserved
loop-part-preserved g c =
    let M = g.E.Encoder.meaning c.args.encoder.now in
    let xs = c.args.list.now in
    let f = filled c.args.out.now in
    let n = c.loop-part.next in
    let h = filled c.loop-part.out in
    let p = c.in-Some.part in
    let w = subst (λ qs. Putting M xs c.args.first f qs n h) c.in-Some.ensures.steps c.loop-part.invariant in
    let a = ap (λ (z : Size). n + z.auxiliaries) (c.part_size.ensures ∙ takes_read M xs p w.inside.0) in
    putting_on M xs c.args.first f (g.met.E.Encoder.lawful c.args.encoder.now) p (parts_left c.next.new.self) n h w (n + c.part_size.result.auxiliaries) (filled c.put_part.new.out) a c.put_part.ensures

pub returns : goal.returns
returns g c =
    let M = g.E.Encoder.meaning c.args.encoder.now in
    let xs = c.args.list.now in
    let f = filled c.args.out.now in
    let h = filled c.loop-part.out in
    putting_end M xs c.args.first f c.loop-part.next h (subst (λ qs. Putting M xs c.args.first f qs c.loop-part.next h) c.in-None.ensures.steps.0 c.loop-part.invariant)
