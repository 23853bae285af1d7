use Rattle.std.proofs.Common.{w32, SFits}
use Rattle.std.proofs.lemmas.Int.{to_z-of_z}
use Rattle.encoder_theory.proofs.Answered.{told_is}
use Rattle.encoder_theory.proofs.Appended.{clauses_kept, clauses_put}
use Rattle.encoder.proofs.append_clauses.Goals as goal

pub returns-in_err-write-clause-leaves : goal.returns-in_err-write-clause-leaves
returns-in_err-write-clause-leaves g c =
    let f : SFits w32 c.args.first = c.ranges.first in
    let out = c.args.out.now in
    let r = out.within in
    clauses_kept (g.E.Encoder.meaning c.args.encoder.now) (g.met.E.Encoder.lawful c.args.encoder.now) out.buffer.now out.buffer.ghost_name out.len c.args.members.now c.args.first
    c.write.new.out r (simp to_z-of_z at c.in_err-write.ensures.leaves) c.in_err-write.field-0.0 (simp to_z-of_z at c.in_err-write.ensures.answers)

pub returns-clause-leaves : goal.returns-clause-leaves
returns-clause-leaves g c =
    let f : SFits w32 c.args.first = c.ranges.first in
    let out = c.args.out.now in
    let M = g.E.Encoder.meaning c.args.encoder.now in
    clauses_put M (g.met.E.Encoder.lawful c.args.encoder.now) out.buffer.now out.buffer.ghost_name out.len c.args.members.now c.args.first
    c.write.new.out out.within (simp to_z-of_z at c.in_ok-write.ensures.leaves) c.in_ok-clauses.clauses (told_is _ _ _ c.in_ok-clauses.ensures).1
    (simp to_z-of_z at c.in_ok-write.ensures.answers)
