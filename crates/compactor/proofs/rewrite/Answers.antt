use Rattle.std.proofs.Common.{◌≡◌, ℕ, true, false, ltb, List, length, take, ℤ, pos, Ok, Option, Result, sym, ap, ◌∙◌, rules}
use Rattle.std.proofs.lemmas.List.{length-replicate}
use Rattle.fault.specs.declared.Fault.{Fault}
use Rattle.fault.specs.declared.Refusal.{Refusal}
use Rattle.dimacs.specs.Reading.{Reading, reading}
use Rattle.dimacs.specs.Written.{text_of, write_refusal, write_answer_of, write_leaves_of}
use Rattle.compactor.specs.Printed.{few_variables, empty_list, outcome, size_of, over}
use Rattle.compactor.proofs.Rewrites.{always_written, outcome_ok}
use Rattle.compactor.proofs.rewrite.Goals as goal

pub returns : goal.returns
returns c =
    let h = c.in_ok-found.ensures.files in
    let n : ℕ = c.in_ok-found.found.variables in
    let zs : List ℤ = take c.in_ok-found.found.numbers c.read.new.list in
    let wide : length c.args.numbers.now ≡ 16_384 = ap length c.requires.0 ∙ length-replicate 16_384 (pos 0) in
    let few : few_variables n ≡ true = search rules in
    let short : ltb 65_536 (length c.args.text.now) ≡ false = search rules in
    let none = ap (λ k. write_refusal n zs k) c.requires.1 ∙ always_written c.args.text.now c.in_ok-found.found c.args.numbers.now c.read.new.list wide h few in
    let same : reading c.args.text.now c.args.numbers.now ≡ reading c.args.text.now empty_list = ap (reading c.args.text.now) c.requires.0 in
    let ok : outcome c.args.text.now ≡ Ok (text_of n zs) =
    outcome_ok c.args.text.now c.in_ok-found.found c.read.new.list short
    (sym (c.in_ok-found.ensures.answer ∙ ap (λ (r : Reading). r.answer) same))
    (sym (c.in_ok-found.ensures.list ∙ ap (λ (r : Reading). r.list) same)) few in
    record {
      answer = c.write.ensures.answer ∙ ap (λ (x : Option Refusal). write_answer_of x (length (text_of n zs))) none ∙ sym (ap size_of ok);
      bytes = c.write.ensures.bytes ∙ ap (λ (x : Option Refusal). write_leaves_of x (text_of n zs) c.args.out.now) none ∙ sym (ap (λ (r : Result (List ℕ) Fault). over r c.args.out.now) ok);
    }
