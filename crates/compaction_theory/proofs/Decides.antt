-- A compacted file is printed exactly for the files within the limits.
use Rattle.std.proofs.Common.{◌≡◌, ℕ, Bool, true, false, ltb, leb, List, length, ℤ, pos, Ok, Err, Result, sym, refl, ◌∙◌, arith, MatchResult}
use Rattle.std.proofs.lemmas.List.{length-replicate}
use Rattle.std.proofs.lemmas.Bool.{cond-true, cond-false, and_parts, leb-true, ltb-false}
use Rattle.fault.specs.declared.Fault.{Fault}
use Rattle.dimacs.specs.declared.Summary.{Summary}
use Rattle.dimacs.specs.Laws.{Holds, AcceptsFiles}
use Rattle.dimacs.specs.Reading.{reading}
use Rattle.dimacs.proofs.Texts.{every_text_decided}
use Rattle.compaction_theory.specs.declared.Scale.{Scale}
use Rattle.compaction_theory.specs.Choices.{encoder_of, most_bytes, most_variables, number_room}
use Rattle.compaction_theory.specs.Printed.{variables_fit, count_fault, length_fault, blank, compacted_read, outcome}
use Rattle.compaction_theory.specs.Promises.{Fits, Decided, EveryInputDecided}
use Rattle.compaction_theory.proofs.Compacting.{outcome_is}

never : {X : Type 0} (o : Result (List ℕ) Fault) (text : List ℕ) (f : Fault) → o ≡ Ok text → o ≡ Err f → X
never o text f p q = let z : ◌≡◌ {A = ℕ} 0 1 = cc in absurd (omega arith)

module _ (scale : Scale) (text : List ℕ) where
  abbrev list : List ℤ
  list = blank scale text

  abbrev Some-file : Type 0
  Some-file = (n : ℕ) × (clauses : List (List ℤ)) × Fits scale text n clauses

  -- what was read within the limits is a file within them
  read_fits : (s : Summary) (after : List ℤ) → ltb (most_bytes scale) (length text) ≡ false → variables_fit scale s.variables ≡ true → Holds text list s after → Some-file
  read_fits s after short few h =
      let n : ℕ = s.variables in
      let fit = and_parts (leb 1 n) (leb n (most_variables scale)) few in
      let wide : length list ≡ number_room scale (length text) = length-replicate (number_room scale (length text)) (pos 0) in (
        n,
        h.clauses,
        record {
          file = h.file;
          short = ltb-false (most_bytes scale) (length text) short;
          some = leb-true 1 n fit.0;
          few = leb-true n (most_variables scale) fit.1;
          room = omega (arith, h.lists, h.room, wide);
        },
      )

  -- a compacted file was printed, so the text was read without a fault and n will do
  printed_fits : (out : List ℕ) (short : ltb (most_bytes scale) (length text) ≡ false) (r : Result Summary Fault) (after : List ℤ) → AcceptsFiles text list r after
      → compacted_read scale (encoder_of text) r after ≡ Ok out → Some-file
  printed_fits out short (Err f) after none e = never _ out f e refl
  printed_fits out short (Ok s) after h e = by (variables_fit scale s.variables) refl
    where
      by : (b : Bool) → variables_fit scale s.variables ≡ b → Some-file
      by true few = read_fits s after short few h
      by false few = never (compacted_read scale (encoder_of text) (Ok s) after) out count_fault e (cond-false _ _ _ few)

  ok_fits : (out : List ℕ) → outcome scale text ≡ Ok out → Some-file
  ok_fits out e = by (ltb (most_bytes scale) (length text)) refl
    where
      by : (b : Bool) → ltb (most_bytes scale) (length text) ≡ b → Some-file
      by true long = never (outcome scale text) out (length_fault scale) e (cond-true _ _ _ long)
      by false short =
          printed_fits out short (reading text list).answer (reading text list).list (every_text_decided text list)
          (sym (cond-false (ltb (most_bytes scale) (length text)) (Err (length_fault scale)) _ short) ∙ e)

  pub decided : Decided scale text
  decided = by (outcome scale text) refl
    where
      by : (r : Result (List ℕ) Fault) → outcome scale text ≡ r → MatchResult r (λ out. Some-file) (λ f. (n : ℕ) (clauses : List (List ℤ)) → Fits scale text n clauses → ⊥)
      by (Ok out) e = ok_fits out e
      by (Err f) e = λ n clauses fits. never (outcome scale text) _ f (outcome_is scale text n clauses fits) e

pub every_input_decided : EveryInputDecided
every_input_decided scale text = decided scale text
