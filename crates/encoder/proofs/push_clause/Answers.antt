use Rattle.std.proofs.Common.{arith}
use Rattle.encoder_theory.proofs.Appended.{clause_put}
use Rattle.encoder.proofs.push_clause.Goals as goal

pub returns-then-room-ge2 : goal.returns-then-room-ge2
returns-then-room-ge2 c =
    let out = c.args.out.now in
    clause_put out.buffer.now c.put_clause.new.out out.buffer.ghost_name out.len c.args.clause out.within (omega arith) c.put_clause.ensures
