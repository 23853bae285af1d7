-- A program's buffers always suffice: the writing is accepted, and its text fits.
use Rattle.std.proofs.Common.{◌≡◌, ℕ, ◌+◌, ◌*◌, ◌≤◌, false, cond, ◌||◌, ltb, leb, List, [], ◌∷◌, length, ℤ, pos, negsuc, nat_abs, None, decimal, Option, sym, ap, ◌∙◌, arith}
use Rattle.std.proofs.lemmas.Fmt.{length_signed_le, length-decimal-le}
use Rattle.std.proofs.lemmas.List.{length-append, length_push}
use Rattle.std.proofs.lemmas.Bool.{cond-false, le-ltb, lt-leb, or_from}
use Rattle.std.specs.List.{flat_map}
use Rattle.std.specs.Fmt.{signed_decimal}
use Rattle.fault.specs.declared.Fault.{Fault}
use Rattle.dimacs.specs.Clauses.{numbers, closes, closings, unclosed, exceeds}
use Rattle.dimacs.specs.File.{header_line}
use Rattle.dimacs.specs.Written.{spaced, text_of, write_refusal}
use Rattle.dimacs.proofs.Gathering.{numbers_within, numbers_over, numbers_count, unclosed_is}
use Rattle.dimacs.proofs.Numbered.{within_first}
use Rattle.dimacs.proofs.Writings.{Writable}
use Rattle.encoder_theory.specs.Meaning.{Meaning}
use Rattle.encoder_theory.specs.Laws.{Lawful}
use Rattle.network_theory.specs.Layout.{words_needed}
use Rattle.formula_theory.specs.Writing.{auxiliary_count, clause_count}
use Rattle.formula_theory.specs.Outcome as outcome
use Rattle.compaction_theory.specs.Choices.{meaning_of}
use Rattle.compaction_theory.specs.Printed.{cover_of_clauses, compacted, compacted_variables}
use Rattle.compaction_theory.specs.Buffers.{Taken, WritingAccepted, FewerNumbers, TextFits}
use Rattle.compaction_theory.proofs.Pairs.{numbers_counted}
use Rattle.compaction_theory.proofs.Picked.{lawful_choice}
use Rattle.compaction_theory.proofs.Sizes.{list_fits, few_written, auxiliaries_few, compacted_of, fewer_clauses, fewer_numbers}

-- ---- the writing

-- the numbers from n + 1 up to the last will do
range_fits : (n work list : ℕ) → n ≤ 4_096 → outcome.range_unfit n (outcome.terms (pos (n + 1)) (pos outcome.most_auxiliary) work list) ≡ false
range_fits n work list few =
    or_from (leb (n + 1) n) _ (lt-leb (n + 1) n (omega arith))
    (or_from (ltb outcome.most_auxiliary outcome.most_auxiliary) _ (le-ltb outcome.most_auxiliary outcome.most_auxiliary (omega arith)) (le-ltb (outcome.most_auxiliary + 1) (n + 1) (omega arith)))

module _ (n : ℕ) (clauses : List (List ℤ)) (t : Taken n clauses) (M : Meaning) (law : Lawful M) where
  pub writing_accepted : (work list room : ℕ) → words_needed n ≤ work → length (numbers clauses) ≤ list → length (numbers clauses) ≤ room
      → outcome.write_answer n (cover_of_clauses n clauses) M (outcome.terms (pos (n + 1)) (pos outcome.most_auxiliary) work list) room
      ≡ outcome.unless_refused None (outcome.size_of M (cover_of_clauses n clauses))
  writing_accepted work list room w k r =
      let parts = list_fits n clauses t.literals in
      let count = few_written n clauses t.literals M law in
      let aux = auxiliaries_few n clauses t.literals M law t.few t.few_clauses in
      let few = t.few in
      let e = numbers_counted clauses in
      ap (λ (o : Option Fault). outcome.unless_refused o (outcome.size_of M (cover_of_clauses n clauses)))
      (cond-false _ _ _ (le-ltb work (words_needed n) w)
      ∙ cond-false _ _ _ (range_fits n work list t.few)
      ∙ cond-false _ _ _ (le-ltb list _ (omega arith))
      ∙ cond-false _ _ _ (le-ltb (outcome.most_auxiliary + 1) (n + 1 + auxiliary_count M (cover_of_clauses n clauses)) (omega arith))
      ∙ cond-false _ _ _ (le-ltb room (2 * clause_count M (cover_of_clauses n clauses)) (omega arith)))

-- ---- the text

-- a number of at most nine digits takes at most eleven bytes
signed_short : (z : ℤ) → nat_abs z ≤ 999_999_998 → length (signed_decimal z) ≤ 10
signed_short (pos n) h = length_signed_le 9 (pos n) (omega arith) (omega arith)
signed_short (negsuc n) h = length_signed_le 9 (negsuc n) (omega arith) (omega arith)

spaced_short : (z : ℤ) → nat_abs z ≤ 999_999_998 → length (spaced z) ≤ 11
spaced_short z h = omega (arith, signed_short z h, length_push (signed_decimal z) (cond (closes z) 10 32))

body_short : (n : ℕ) (zs : List ℤ) → n ≤ 999_999_998 → exceeds n zs ≡ false → length (flat_map spaced zs) ≤ 11 * length zs
body_short n [] h w = omega arith
body_short n (z ∷ zs) h w =
    let p = within_first n z zs w in
    omega (arith, spaced_short z (omega (arith, p.0)), body_short n zs h p.1, length-append (spaced z) (flat_map spaced zs))

text_short : (n : ℕ) (zs : List ℤ) → n ≤ 999_999_998 → closings zs ≤ 1_000_000 → exceeds n zs ≡ false → length (text_of n zs) ≤ 24 + 11 * length zs
text_short n zs h k w =
    let header : length (header_line n (closings zs)) ≡ 7 + length (decimal n) + length (decimal (closings zs)) = simp length-append (omega arith) in
    omega (
      arith,
      length-append (header_line n (closings zs)) (10 ∷ flat_map spaced zs),
      header,
      body_short n zs h w,
      length-decimal-le 9 n (omega arith) (omega arith) (omega arith),
      length-decimal-le 7 (closings zs) (omega arith) (omega arith) (omega arith),
    )

none_met : (n : ℕ) (zs : List ℤ) (room : ℕ) → n ≤ 999_999_998 → closings zs ≤ 1_000_000 → exceeds n zs ≡ false → unclosed zs ≡ false → length (text_of n zs) ≤ room → write_refusal n zs room ≡ None
none_met n zs room h k w o r =
    let head : (ltb 999_999_999 n || ltb 1_000_000 (closings zs)) ≡ false = or_from (ltb 999_999_999 n) _ (le-ltb _ _ (omega arith)) (le-ltb _ _ k) in
    cond-false _ _ _ head ∙ cond-false _ _ _ w ∙ cond-false _ _ _ o ∙ cond-false _ _ _ (le-ltb _ _ r)

module _ (n : ℕ) (clauses : List (List ℤ)) (t : Taken n clauses) (M : Meaning) (law : Lawful M) where
  abbrev m : ℕ
  m = compacted_variables M n clauses

  abbrev zs : List ℤ
  zs = numbers (compacted M n clauses)

  few_variables : m ≤ 4_004_096
  few_variables = let a = auxiliaries_few n clauses t.literals M law t.few t.few_clauses in let b = t.few in omega arith

  count : closings zs ≡ length (compacted M n clauses)
  count = numbers_count m (compacted M n clauses) (compacted_of n clauses t.literals M law t.few t.few_clauses)

  -- the compacted clauses can be written
  pub compacted_writable : Writable m zs
  compacted_writable =
      let v = few_variables in
      let f = fewer_clauses n clauses t.literals M law t.few t.few_clauses in
      let c = t.few_clauses in
      let k = count in
      record {
        few_variables = omega arith;
        few_clauses = omega arith;
        within = numbers_within m (compacted M n clauses) (compacted_of n clauses t.literals M law t.few t.few_clauses);
        over = sym (unclosed_is zs) ∙ numbers_over (compacted M n clauses);
      }

  pub text_fits : (room : ℕ) → 24 + 12 * length (numbers clauses) ≤ room → write_refusal m zs room ≡ None
  text_fits room r =
      let v = few_variables in
      let u = compacted_writable in
      let f = fewer_numbers n clauses t.literals M law t.few t.few_clauses in
      let s = text_short m zs (omega arith) u.few_clauses u.within in
      none_met m zs room (omega arith) u.few_clauses u.within u.over (omega arith)

-- ---- the theorems

pub writings_accepted : WritingAccepted
writings_accepted choice n clauses t = writing_accepted n clauses t (meaning_of choice) (lawful_choice choice)

pub numbers_fewer : FewerNumbers
numbers_fewer choice n clauses t = fewer_numbers n clauses t.literals (meaning_of choice) (lawful_choice choice) t.few t.few_clauses

pub texts_fit : TextFits
texts_fit choice n clauses t = text_fits n clauses t (meaning_of choice) (lawful_choice choice)
