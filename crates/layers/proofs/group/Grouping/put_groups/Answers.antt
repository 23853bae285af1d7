use Rattle.std.proofs.Common.{◌+◌, ◌*◌, ◌≤◌, length, sym, ◌∙◌, subst, arith, rules, w32}
use Rattle.std.proofs.lemmas.Int.{to_z_pos}
use Rattle.filling.specs.Views.{filled}
use Rattle.encoder_theory.specs.Meaning.{last_end}
use Rattle.encoder_theory.proofs.Answered.{told_is}
use Rattle.layer_theory.specs.Commander.{inner}
use Rattle.layer_theory.proofs.Put.{ListsPut, lists_none, lists_end, lists_next, next_fits}
use Rattle.layers.proofs.group.Grouping.put_groups.Goals as goal

pub loop-members-init : goal.loop-members-init
loop-members-init g c =
    let s = c.args.self in
    let G = g.G.Encoder.meaning c.args.group.now in
    record {
      positive = search rules;
      finite = search rules;
      size = search rules;
      put = lists_none (record {
        one = omega (arith, s.size.0);
        law = g.met.G.Encoder.lawful c.args.group.now;
        admits = c.requires.admits;
        room = subst (λ q. 2 * (inner s.k G).clauses q ≤ length (filled c.args.out.now).rest) (sym c.requires.members) c.requires.room;
      }) c.into_iter-members-iterator.result.rest.now (cc);
    }

pub overflow_cast-next : goal.overflow_cast-next
overflow_cast-next g c =
    let v = c.loop-members.invariant in
    let h = c.in-Some.ensures.steps.1 in
    let l = next_fits v.put c.in-Some.members.now c.next.new.self.rest.now _ v.size h.0 h.1 h.2 in
    let small : c.loop-members.next ≤ last_end = omega arith in
    search rules

pub unwrap-requires : goal.unwrap-requires
unwrap-requires g c =
    let v = c.loop-members.invariant in
    let h = c.in-Some.ensures.steps.1 in
    let l = next_fits v.put c.in-Some.members.now c.next.new.self.rest.now _ v.size h.0 h.1 h.2 in
    let z = to_z_pos w32 c.loop-members.next (omega arith) in
    let n = (lists_next v.put c.in-Some.members.now c.next.new.self.rest.now _ v.size h.0 h.1 h.2 _ z _ (filled c.append_clauses.new.out) c.append_clauses.ensures.answers c.append_clauses.ensures.leaves).0 in
    search rules

pub loop-members-preserved : goal.loop-members-preserved
loop-members-preserved g c =
    let v = c.loop-members.invariant in
    let h = c.in-Some.ensures.steps in
    let s = c.in-Some.members.now in
    let G = g.G.Encoder.meaning c.args.group.now in
    let l = next_fits v.put s c.next.new.self.rest.now _ v.size h.1.0 h.1.1 h.1.2 in
    let z = to_z_pos w32 c.loop-members.next (omega arith) in
    let n = (lists_next v.put s c.next.new.self.rest.now _ v.size h.1.0 h.1.1 h.1.2 _ z _ (filled c.append_clauses.new.out) c.append_clauses.ensures.answers c.append_clauses.ensures.leaves).1 in
    let a = (told_is (length s) (G.auxiliaries (length s)) c.unwrap-in-loop-members.result (sym c.unwrap-in-loop-members.ensures ∙ c.auxiliaries.ensures)).1 in
    record {
      positive = search rules;
      finite = search rules;
      size = h.0 ∙ v.size;
      put = subst (λ x. ListsPut c.args.self.k G c.args.members.now c.args.first (filled c.args.out.now) c.next.new.self.rest.now (c.loop-members.next + x) (filled c.append_clauses.new.out)) (sym a) n;
    }

pub returns : goal.returns
returns g c = lists_end c.loop-members.invariant.put c.in-None.ensures.steps.1.0
