use Rattle.std.proofs.Common.{◌≡◌, ◌<◌, length, rules}
use Rattle.encoder_theory.specs.Binary.{bits, code_clause}
use Rattle.encoder_theory.proofs.BinaryPut.{code_next, codes_end}
use Rattle.binary.proofs.put_codes.Goals as goal

pub loop-l-preserved : goal.loop-l-preserved
loop-l-preserved c =
    let xs = c.args.members.now in
    let l : c.loop-l.l < bits (length xs) = search rules in
    let e : c.code_clause.result ≡ code_clause xs c.args.first c.loop-i.i c.loop-l.l = search rules in
    code_next xs c.args.first c.loop-i.i c.loop-l.l _ _ _ c.code_clause.result c.loop-i-test.true l e c.loop-l.invariant c.push_clause.ensures c.requires.room

pub loop-i-preserved : goal.loop-i-preserved
loop-i-preserved c = codes_end c.args.members.now c.args.first c.loop-i.i c.loop-l.l _ _ (search rules) c.loop-l.invariant
