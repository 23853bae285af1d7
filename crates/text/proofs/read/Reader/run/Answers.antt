use Rattle.std.proofs.Common.{◌≡◌, length, Err, ap, ◌∙◌, arith, rules}
use Rattle.std.proofs.lemmas.Result.{err_from_is_err_and}
use Rattle.fault.specs.declared.Fault.{Fault}
use Rattle.text.proofs.Turns.{turn, halted, ends, ends_badly}
use Rattle.text.proofs.read.Reader.run.Goals as goal

pub loop-at-preserved : goal.loop-at-preserved
loop-at-preserved c = record {
  lender = search rules;
  same = turn c.loop-at.self c.take.new.self _ _ _ _ c.loop-at-test.true c.class_of.ensures.class c.take.ensures c.in_ok-take.was ∙ c.loop-at.invariant.same;
}

pub returns-in_err-take : goal.returns-in_err-take
returns-in_err-take c =
    let p = err_from_is_err_and c.from_residual.result c.from_residual.ensures.1 in
    let told = p.1 ∙ ap (λ (f : Fault). Err f) p.2 in
    record { reads = halted c.loop-at.self c.take.new.self _ _ _ _ _ _ c.loop-at-test.true c.class_of.ensures.class c.take.ensures c.in_err-take.was told ∙ c.loop-at.invariant.same; lender = search rules }

pub returns-in_err-end : goal.returns-in_err-end
returns-in_err-end c =
    let over : c.loop-at.at ≡ length c.args.text.now = omega arith in
    let p = err_from_is_err_and c.from_residual-in_err-end.result c.from_residual-in_err-end.ensures.1 in
    let told = p.1 ∙ ap (λ (f : Fault). Err f) p.2 in
    record { reads = ends_badly c.loop-at.self c.end.new.self _ _ _ _ _ over c.end.ensures c.in_err-end.was told ∙ c.loop-at.invariant.same; lender = search rules }

pub returns : goal.returns
returns c =
    let over : c.loop-at.at ≡ length c.args.text.now = omega arith in
    record { reads = ends c.loop-at.self c.end.new.self _ _ _ _ over c.end.ensures c.in_ok-end.was c.summary.ensures ∙ c.loop-at.invariant.same; lender = search rules }
