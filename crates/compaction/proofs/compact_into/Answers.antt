use Rattle.std.proofs.Common.{◌≡◌, ℕ, false, ltb, List, length, take, ℤ, pos, Some, sym, ap, ◌∙◌, arith}
use Rattle.std.proofs.lemmas.List.{length-take, length-replicate}
use Rattle.std.proofs.lemmas.Result.{IfOk-weaker}
use Rattle.std.proofs.lemmas.Bool.{le-ltb}
use Rattle.dimacs.specs.declared.Summary.{Summary}
use Rattle.dimacs.specs.Reading.{Reading, reading}
use Rattle.compaction_theory.specs.Sorted.{clauses_in}
use Rattle.compaction_theory.specs.Choices.{most_bytes, meaning_of, number_room, choice_of, first_line}
use Rattle.compaction_theory.specs.declared.Choice.{Choice}
use Rattle.compaction_theory.specs.Printed.{blank, compacted_text, printed}
use Rattle.compaction_theory.specs.Account.{account_of}
use Rattle.compaction_theory.specs.Written.{read_within}
use Rattle.compaction_theory.proofs.Counting.{ok_account}
use Rattle.compaction_theory.proofs.Taken.{ok_outcome, taken_read}
use Rattle.compaction.proofs.compact_into.Goals as goal

pub invariant_of-file : goal.invariant_of-file
invariant_of-file c =
    let scale = c.args.scale in
    let text : List ℕ = c.args.text.now in
    let s : Summary = c.in-Ok.found in
    let after : List ℤ = c.read_within.new.numbers in
    let short : ltb (most_bytes scale) (length text) ≡ false = le-ltb _ _ c.requires.0 in
    let wide : length c.args.numbers.now ≡ number_room scale (length text) = ap length c.requires.1 ∙ length-replicate (number_room scale (length text)) (pos 0) in
    let r = c.in-Ok.ensures.file.room in
    record {
      taken = taken_read scale text (reading text c.args.numbers.now).answer s c.args.numbers.now after wide short c.in-Ok.ensures.answer c.in-Ok.ensures.file;
      within = omega (arith, length-take s.numbers after);
    }

pub returns-in-Ok : goal.returns-in-Ok
returns-in-Ok c =
    let scale = c.args.scale in
    let text : List ℕ = c.args.text.now in
    let s : Summary = c.in-Ok.found in
    let after : List ℤ = c.read_within.new.numbers in
    let short : ltb (most_bytes scale) (length text) ≡ false = le-ltb _ _ c.requires.0 in
    let same : reading text c.args.numbers.now ≡ reading text (blank scale text) = ap (reading text) c.requires.1 in
    let answer = c.in-Ok.ensures.answer ∙ ap (λ (x : Reading). read_within scale x.answer) same in
    let ok = ok_outcome scale text s short answer in
    let told = ok_account scale text s short answer in
    let list : after ≡ (reading text (blank scale text)).list = c.in-Ok.ensures.list ∙ ap (λ (x : Reading). x.list) same in
    let n : ℕ = s.variables in
    let read : clauses_in (take s.numbers after) ≡ clauses_in (take s.numbers (reading text (blank scale text)).list) =
    ap (λ (l : List ℤ). clauses_in (take s.numbers l)) list in
    record {
      prints = IfOk-weaker c.compacted.result _ _
          (λ p e. e
          ∙ ap (λ (x : Choice). compacted_text (meaning_of x) n (clauses_in (take s.numbers after))) c.choice_of.ensures
          ∙ ap (compacted_text (meaning_of (choice_of (first_line text))) n) read
          ∙ ap printed (sym ok))
          c.compacted.ensures.bytes;
      account = IfOk-weaker c.compacted.result _ _
          (λ p e. e
          ∙ ap (λ (x : Choice). Some (account_of (meaning_of x) n (clauses_in (take s.numbers after)))) c.choice_of.ensures
          ∙ ap (λ (cs : List (List ℤ)). Some (account_of (meaning_of (choice_of (first_line text))) n cs)) read
          ∙ sym told)
          c.compacted.ensures.account;
    }
