use Rattle.std.proofs.Common.{◌≡◌, ◌++◌, length, take, drop, vec_items, ap, ◌∙◌, rules}
use Rattle.std.proofs.lemmas.List.{take_at}
use Rattle.std.proofs.lemmas.Result.{IfOk-weaker}
use Rattle.compactor.specs.Printed.{outcome}
use Rattle.compactor.proofs.Rewrites.{ok_prints, err_prints, prints_keep}
use Rattle.compactor.proofs.compact.Goals as goal

pub rewrite-requires : goal.rewrite-requires
rewrite-requires c = (c.as_mut_slice.ensures.value ∙ c.in_ok-numbers.ensures.items_if_clones_equal (λ y h. search rules), search rules)

pub returns-in-Ok : goal.returns-in-Ok
returns-in-Ok c =
    let full : length c.rewrite.new.out ≡ c.in_ok-out.out.len = search rules in
    let left : take c.in_ok-out.out.len (c.rewrite.new.out ++ drop (length c.rewrite.new.out) c.in_ok-out.out.items) ≡ c.rewrite.new.out = take_at c.rewrite.new.out _ _ full in
    let e = c.truncate.ensures.items ∙ ap (take c.in-Ok.size) (left ∙ c.in-Ok.ensures.bytes) ∙ ok_prints (outcome c.args.text.now) c.in-Ok.size _ c.in-Ok.ensures.answer in
    record { prints = e; keeps = prints_keep c.args.text.now (vec_items c.truncate.new.self) e }

pub returns : goal.returns
returns c =
    let p = err_prints (outcome c.args.text.now) c.in-Err.fault c.in-Err.ensures.answer in
    record {
      prints = IfOk-weaker c.fault_line.result _ _ (λ v e. e ∙ p) c.fault_line.ensures;
      keeps = IfOk-weaker c.fault_line.result _ _ (λ v e. prints_keep c.args.text.now (vec_items v) (e ∙ p)) c.fault_line.ensures;
    }
