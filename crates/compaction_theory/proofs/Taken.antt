-- From what was read to what is printed.
use Rattle.std.proofs.Common.{◌≡◌, ℕ, Bool, true, false, ltb, leb, List, length, take, drop, ℤ, Ok, Err, Result, sym, refl, ap, ◌∙◌, subst, arith}
use Rattle.std.proofs.lemmas.List.{take_at}
use Rattle.std.proofs.lemmas.Bool.{cond-true, cond-false, and_parts, leb-true, ltb-false}
use Rattle.fault.specs.declared.Fault.{Fault}
use Rattle.dimacs.specs.declared.Summary.{Summary}
use Rattle.dimacs.specs.Clauses.{numbers}
use Rattle.dimacs.specs.Laws.{Holds}
use Rattle.dimacs.specs.Reading.{reading}
use Rattle.encoder_theory.specs.Meaning.{Meaning}
use Rattle.compaction_theory.specs.declared.Scale.{Scale}
use Rattle.compaction_theory.specs.Sorted.{clauses_in}
use Rattle.compaction_theory.specs.Choices.{encoder_of, most_bytes, most_variables, number_room}
use Rattle.compaction_theory.specs.Printed.{variables_fit, count_fault, length_fault, blank, compacted_read, compacted_text, outcome}
use Rattle.compaction_theory.specs.Promises.{Fits}
use Rattle.compaction_theory.specs.Buffers.{Taken}
use Rattle.compaction_theory.specs.Walks.{TakenNumbers}
use Rattle.compaction_theory.specs.Written.{read_within}
use Rattle.compaction_theory.proofs.Picked.{clauses_back}
use Rattle.compaction_theory.proofs.Compacting.{fits_taken}

-- what was read with variables that will do
within_ok : (scale : Scale) (M : Meaning) (r : Result Summary Fault) (list : List ℤ) (s : Summary) → ◌≡◌ {A = Result Summary Fault} (Ok s) (read_within scale r)
    → (compacted_read scale M r list ≡ Ok (compacted_text M s.variables (clauses_in (take s.numbers list)))) × (variables_fit scale s.variables ≡ true)
within_ok scale M (Err g) list s e = let z : ◌≡◌ {A = ℕ} 0 1 = cc in absurd (omega arith)
within_ok scale M (Ok t) list s e = by (variables_fit scale t.variables) refl
  where
    Goal : Type 0
    Goal = (compacted_read scale M (Ok t) list ≡ Ok (compacted_text M s.variables (clauses_in (take s.numbers list)))) × (variables_fit scale s.variables ≡ true)

    by : (b : Bool) → variables_fit scale t.variables ≡ b → Goal
    by true h =
        let x : ◌≡◌ {A = Result Summary Fault} (Ok s) (Ok t) = e ∙ cond-true _ _ _ h in
        let same : t ≡ s = cc in (
          cond-true (variables_fit scale t.variables) _ _ h ∙ ap (λ (u : Summary). Ok (compacted_text M u.variables (clauses_in (take u.numbers list)))) same,
          subst (λ (u : Summary). variables_fit scale u.variables ≡ true) same h,
        )
    by false h = let x : ◌≡◌ {A = Result Summary Fault} (Ok s) (Err count_fault) = e ∙ cond-false _ _ _ h in let z : ◌≡◌ {A = ℕ} 0 1 = cc in absurd (omega arith)

pub ok_outcome : (scale : Scale) (text : List ℕ) (s : Summary) → ltb (most_bytes scale) (length text) ≡ false
    → ◌≡◌ {A = Result Summary Fault} (Ok s) (read_within scale (reading text (blank scale text)).answer)
    → outcome scale text ≡ Ok (compacted_text (encoder_of text) s.variables (clauses_in (take s.numbers (reading text (blank scale text)).list)))
ok_outcome scale text s short e =
    cond-false _ _ _ short ∙ (within_ok scale (encoder_of text) (reading text (blank scale text)).answer (reading text (blank scale text)).list s e).0

-- a program goes on with what it read
pub taken_read : (scale : Scale) (text : List ℕ) (r : Result Summary Fault) (s : Summary) (before after : List ℤ) → length before ≡ number_room scale (length text)
    → ltb (most_bytes scale) (length text) ≡ false → ◌≡◌ {A = Result Summary Fault} (Ok s) (read_within scale r) → Holds text before s after
    → TakenNumbers s.variables (take s.numbers after)
taken_read scale text r s before after wide short e h =
    let n : ℕ = s.variables in
    let fit = and_parts (leb 1 n) (leb n (most_variables scale)) (within_ok scale (encoder_of text) r after s e).1 in
    let fits : Fits scale text n h.clauses = record {
      file = h.file;
      short = ltb-false (most_bytes scale) (length text) short;
      some = leb-true 1 n fit.0;
      few = leb-true n (most_variables scale) fit.1;
      room = omega (arith, h.lists, h.room, wide);
    } in
    let listed : take s.numbers after ≡ numbers h.clauses =
    ap (take s.numbers) h.leaves ∙ take_at (numbers h.clauses) (drop s.numbers before) s.numbers (sym h.lists) in
    let back : clauses_in (take s.numbers after) ≡ h.clauses = ap clauses_in listed ∙ clauses_back n h.clauses h.file.literals in
    record {
      whole = listed ∙ ap numbers (sym back);
      clauses = subst (Taken n) (sym back) (fits_taken scale text n h.clauses fits);
    }
