-- The account of a compaction: which texts have one, and that it balances.
use Rattle.std.proofs.Common.{◌≡◌, ℕ, ◌+◌, Bool, true, false, cond, ltb, List, map, length, take, ℤ, is_some, is_ok, Some, Ok, Err, Option, Result, refl, ap, ◌∙◌, arith, length-append}
use Rattle.std.proofs.lemmas.Bool.{cond-true, cond-false}
use Rattle.fault.specs.declared.Fault.{Fault}
use Rattle.dimacs.specs.declared.Summary.{Summary}
use Rattle.dimacs.specs.Reading.{reading}
use Rattle.encoder_theory.specs.Meaning.{Meaning}
use Rattle.formula_theory.specs.Writing.{written_clauses}
use Rattle.formula_theory.proofs.Counts.{account_balances}
use Rattle.formula_theory.proofs.Listed.{length_map}
use Rattle.compaction_theory.specs.declared.Account.{Account}
use Rattle.compaction_theory.specs.declared.Scale.{Scale}
use Rattle.compaction_theory.specs.Sorted.{clauses_in, others_of}
use Rattle.compaction_theory.specs.Choices.{encoder_of, most_bytes}
use Rattle.compaction_theory.specs.Printed.{cover_of_clauses, literals_of, variables_fit, blank, compacted_read}
use Rattle.compaction_theory.specs.Account.{account_of, account_read, AccountWhenPrinted, EveryFileAccounted, CompactionBalances}
use Rattle.compaction_theory.proofs.Sizes.{covered, laws, fewer_clauses}
use Rattle.compaction_theory.proofs.Compacting.{file_gets}
use Rattle.compaction_theory.proofs.Differing.{conflicts_differ}

-- ---- which texts have an account

-- two tests by one Bool agree if their ways do
ways_agree : (t : Bool) (a b : Option Account) (x y : Result (List ℕ) Fault) → is_some a ≡ is_ok x → is_some b ≡ is_ok y → is_some (cond t a b) ≡ is_ok (cond t x y)
ways_agree true a b x y e f = e
ways_agree false a b x y e f = f

read_printed : (scale : Scale) (M : Meaning) (r : Result Summary Fault) (list : List ℤ) → is_some (account_read scale M r list) ≡ is_ok (compacted_read scale M r list)
read_printed scale M (Err f) list = refl
read_printed scale M (Ok s) list = ways_agree (variables_fit scale s.variables) _ _ _ _ refl refl

pub account_when_printed : AccountWhenPrinted
account_when_printed scale text =
    ways_agree (ltb (most_bytes scale) (length text)) _ _ _ _ refl
    (read_printed scale (encoder_of text) (reading text (blank scale text)).answer (reading text (blank scale text)).list)

pub every_file_accounted : EveryFileAccounted
every_file_accounted scale text n clauses f =
    let g = file_gets scale text n clauses f in
    cond-false _ _ _ g.within
    ∙ ap (λ (r : Result Summary Fault). account_read scale (encoder_of text) r (reading text (blank scale text)).list) g.answer
    ∙ cond-true _ _ _ g.few
    ∙ ap (λ m. Some (account_of (encoder_of text) m (clauses_in (take g.summary.numbers (reading text (blank scale text)).list)))) g.count
    ∙ ap (λ (cs : List (List ℤ)). Some (account_of (encoder_of text) n cs)) g.read

-- ---- the balance

pub compaction_balances : CompactionBalances
compaction_balances M law n clauses t =
    let all = length-append (map literals_of (written_clauses M (cover_of_clauses n clauses) (n + 1))) (others_of clauses) in
    let written = length_map literals_of (written_clauses M (cover_of_clauses n clauses) (n + 1)) in
    let count = (laws n clauses t.literals M law t.few t.few_clauses).counted in
    let account = (account_balances M n (cover_of_clauses n clauses) (covered n clauses t.literals).sound).balance in
    let different = conflicts_differ n clauses t in
    record { balance = omega arith; never_more = fewer_clauses n clauses t.literals M law t.few t.few_clauses }
