use Rattle.std.proofs.Common.{◌≡◌, ◌<◌, length, take, sym, ap, ◌∙◌, arith, rules}
use Rattle.logic.specs.Literal.{variable}
use Rattle.encoder_theory.specs.Members.{member}
use Rattle.encoder_theory.specs.Calls.{uses}
use Rattle.encoder_theory.proofs.Decided.{proper_end, proper_on, no_literal, not_below, repeated}
use Rattle.encoder.proofs.are_proper.Goals.{then-variable-eq0-via-then-variable-eq0, then-variable-eq0-via-else-variable-eq0+then-variable-first, then-variable-eq0-via-else-variable-eq0+else-variable-first+then-is_used}
use Rattle.encoder.proofs.are_proper.Goals as goal

pub loop-i-preserved : goal.loop-i-preserved
loop-i-preserved c =
    let xs = c.args.members.now in
    let i = c.loop-i.i in
    let v : c.unsigned_abs-variable.result ≡ variable (member xs i) = search rules in
    let z = c.if-variable-eq0.false in
    let f = c.if-variable-first.false in
    proper_on xs c.args.first i c.loop-i.invariant (omega arith) (omega (arith, v, z)) (omega (arith, v, f)) (ap (uses (take i xs)) (sym v) ∙ sym c.is_used.ensures ∙ c.if-is_used.false)

pub returns-then-variable-eq0 : goal.returns-then-variable-eq0
returns-then-variable-eq0 c =
    let xs = c.args.members.now in
    let i = c.loop-i.i in
    let l : i < length xs = omega arith in
    let v : c.unsigned_abs-variable.result ≡ variable (member xs i) = search rules in
    elim c.then-variable-eq0.branch [
      | then-variable-eq0-via-then-variable-eq0 w ↦ sym (no_literal xs c.args.first i l (sym v ∙ w.if-variable-eq0.true))
      | then-variable-eq0-via-else-variable-eq0+then-variable-first w ↦ sym (not_below xs c.args.first i l (let f = w.if-variable-first.true in omega (arith, v, f)))
      | then-variable-eq0-via-else-variable-eq0+else-variable-first+then-is_used w ↦ sym (repeated xs c.args.first i l (ap (uses (take i xs)) (sym v) ∙ sym w.is_used.ensures ∙ w.if-is_used.true))
    ]

pub returns : goal.returns
returns c = sym (proper_end c.args.members.now c.args.first c.loop-i.i (omega arith) c.loop-i.invariant)
