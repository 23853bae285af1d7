use Rattle.std.proofs.Common.{w32, SFits}
use Rattle.std.proofs.lemmas.Int.{to_z-of_z}
use Rattle.network_theory.specs.declared.Call.TheVariants.{Add}
use Rattle.network_theory.proofs.Led.{add_taken, add_declined}
use Rattle.network_theory.proofs.Kept.{sound_same, after_sound}
use Rattle.network.specs.Views.{net_of}
use Rattle.network.proofs.matrix.Matrix.add.Goals as goal

pub returns-in_err-u-clause-network : goal.returns-in_err-u-clause-network
returns-in_err-u-clause-network c =
    let fa : SFits w32 c.args.a = c.ranges.a in
    let fb : SFits w32 c.args.b = c.ranges.b in
    add_declined (net_of c.args.self.now) c.args.a c.args.b _ c.in_err-u.field-0.0 (simp to_z-of_z at c.in_err-u.ensures.value)

pub invariant_of-self : goal.invariant_of-self
invariant_of-self c =
    let fa : SFits w32 c.args.a = c.ranges.a in
    let fb : SFits w32 c.args.b = c.ranges.b in
    let self = c.args.self.now in
    let added = add_taken (net_of self) c.args.a c.args.b c.in_ok-u.u c.in_ok-u.w c.join.new.words (simp to_z-of_z at c.in_ok-u.ensures.value) c.join.ensures in
    let s = sound_same _ _ added (after_sound (net_of self) (Add c.args.a c.args.b) (self.few, (self.room, (self.mutual, (self.apart, (self.trimmed, tt)))))) in
    record { few = s.0; room = s.1.0; «mutual» = s.1.1.0; apart = s.1.1.1.0; trimmed = s.1.1.1.1.0 }
