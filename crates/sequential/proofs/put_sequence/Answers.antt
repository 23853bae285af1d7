use Rattle.std.proofs.Common.{◌≡◌, ◌+◌, ◌-◌, ◌≤◌, length, arith, rules}
use Rattle.logic.specs.Clause.{against}
use Rattle.encoder_theory.specs.Members.{member, auxiliary}
use Rattle.encoder_theory.specs.Sequential.{implies}
use Rattle.encoder_theory.proofs.SequentialPut.{between, links_next, links_end}
use Rattle.sequential.proofs.put_sequence.Goals as goal

pub loop-i-preserved : goal.loop-i-preserved
loop-i-preserved c =
    let xs = c.args.members.now in
    let two : 2 ≤ length xs = omega arith in
    let a : c.implication-in-loop-i.result ≡ implies (member (between xs c.args.first) c.loop-i.i) (auxiliary c.args.first (c.loop-i.i + 1)) = search rules in
    let b : c.implication-in-loop-i-2.result ≡ implies (auxiliary c.args.first (c.loop-i.i + 1 - 1)) (auxiliary c.args.first (c.loop-i.i + 1)) = search rules in
    let d : c.exclusion.result ≡ against (member (between xs c.args.first) c.loop-i.i) (auxiliary c.args.first c.loop-i.i) = search rules in
    links_next xs c.args.first two _ c.requires.room c.loop-i.i _ _ _ _ c.implication-in-loop-i.result c.implication-in-loop-i-2.result c.exclusion.result c.loop-i-test.true a
    b d c.loop-i.invariant c.push_clause-in-loop-i.ensures c.push_clause-in-loop-i-2.ensures c.push_clause-in-loop-i-3.ensures

pub returns-after-loop-i : goal.returns-after-loop-i
returns-after-loop-i c =
    let xs = c.args.members.now in
    let two : 2 ≤ length xs = omega arith in
    let d : c.exclusion-in-len2-up.result ≡ against (member xs (length xs - 1)) (auxiliary c.args.first (length (between xs c.args.first))) = search rules in
    links_end xs c.args.first two _ c.requires.room c.loop-i.i _ _ c.exclusion-in-len2-up.result c.loop-i.auto.i-end c.loop-i-test.false d c.loop-i.invariant
    c.push_clause-in-len2-up.ensures
