-- For every file within the limits an equivalent file is printed, and for files that say the same the same bytes.
use Rattle.std.proofs.Common.{◌≡◌, ℕ, ◌+◌, ◌≤◌, true, false, ltb, leb, List, ◌++◌, map, length, take, drop, ℤ, pos, Ok, Result, sym, refl, ap, ◌∙◌, subst, arith}
use Rattle.std.proofs.lemmas.List.{length-replicate, take_at}
use Rattle.std.proofs.lemmas.Bool.{cond-true, cond-false, le-leb, le-ltb, and_from}
use Rattle.fault.specs.declared.Fault.{Fault}
use Rattle.logic.specs.Literal.{complement}
use Rattle.dimacs.specs.declared.Summary.{Summary}
use Rattle.dimacs.specs.Clauses.{numbers}
use Rattle.dimacs.specs.File.{File}
use Rattle.dimacs.specs.Laws.{read_as}
use Rattle.dimacs.specs.Reading.{Reading, reading}
use Rattle.dimacs.specs.Written.{text_of}
use Rattle.dimacs.proofs.Gathering.{clauses_same}
use Rattle.dimacs.proofs.Writings.{written_file, file_reads}
use Rattle.encoder_theory.specs.Meaning.{Meaning}
use Rattle.encoder_theory.specs.Laws.{Lawful}
use Rattle.cover_theory.specs.Rule.{Rel, cover_of}
use Rattle.formula_theory.specs.Writing.{written_clauses, auxiliary_count}
use Rattle.formula_theory.specs.Promise.{SameAccepted}
use Rattle.formula_theory.proofs.Runs.{tells_same}
use Rattle.compaction_theory.specs.declared.Scale.{Scale}
use Rattle.compaction_theory.specs.declared.Scale.TheVariants.{Small, Large}
use Rattle.compaction_theory.specs.Sorted.{clauses_in, conflicts_of, others_of, related}
use Rattle.compaction_theory.specs.Choices.{first_line, choice_of, meaning_of, encoder_of, most_variables, most_bytes, number_room}
use Rattle.compaction_theory.specs.Printed.{literals_of, compacted, compacted_variables, compacted_text, variables_fit, blank, compacted_read, outcome, printed}
use Rattle.compaction_theory.specs.Promises.{Fits, Compacts, EveryFileCompacted, SaySame, SameFilesPrintAlike}
use Rattle.compaction_theory.specs.Buffers.{asked, Taken}
use Rattle.compaction_theory.proofs.Related.{clauses_tell, accepted_pair}
use Rattle.compaction_theory.proofs.Picked.{clauses_back, lawful_choice}
use Rattle.compaction_theory.proofs.Sizes.{compacted_of, fewer_clauses}
use Rattle.compaction_theory.proofs.Fitting.{compacted_writable}
use Rattle.compaction_theory.proofs.Equivalent.{same_models}

-- ---- the limits

few_of : (scale : Scale) (n : ℕ) → n ≤ most_variables scale → n ≤ 4_096
few_of Small n h = omega arith
few_of Large n h = h

room_of : (scale : Scale) (bytes : ℕ) → bytes ≤ most_bytes scale → number_room scale bytes ≤ 33_554_433
room_of Small bytes h = omega arith
room_of Large bytes h = omega arith

-- a program goes on with every file within its limits
pub fits_taken : (scale : Scale) (text : List ℕ) (n : ℕ) (clauses : List (List ℤ)) → Fits scale text n clauses → Taken n clauses
fits_taken scale text n clauses f =
    let r = room_of scale (length text) f.short in
    let k = f.room in
    record {
      some = f.some;
      few = few_of scale n f.few;
      literals = f.file.literals;
      few_clauses = f.file.few_clauses;
      few_numbers = omega arith;
    }

-- ---- what is printed

-- a file within the limits is read as its clauses, and its n will do
pub record Gets (scale : Scale) (text : List ℕ) (n : ℕ) (clauses : List (List ℤ)) : Type 0 where
  pub summary : Summary
  pub answer : (reading text (blank scale text)).answer ≡ Ok summary
  pub count : summary.variables ≡ n
  pub read : clauses_in (take summary.numbers (reading text (blank scale text)).list) ≡ clauses
  pub within : ltb (most_bytes scale) (length text) ≡ false
  pub few : variables_fit scale summary.variables ≡ true

pub file_gets : (scale : Scale) (text : List ℕ) (n : ℕ) (clauses : List (List ℤ)) → Fits scale text n clauses → Gets scale text n clauses
file_gets scale text n clauses f =
    let zs : List ℤ = numbers clauses in
    let wide : length (blank scale text) ≡ number_room scale (length text) = length-replicate (number_room scale (length text)) (pos 0) in
    let room = f.room in
    let got : reading text (blank scale text) ≡ read_as n (length clauses) zs (blank scale text) = file_reads text n clauses (blank scale text) f.file (omega arith) in
    let left : (reading text (blank scale text)).list ≡ zs ++ drop (length zs) (blank scale text) = ap (λ (r : Reading). r.list) got in
    record {
      summary = record { variables = n; clauses = length clauses; numbers = length zs };
      answer = ap (λ (r : Reading). r.answer) got;
      count = refl;
      read = ap (λ (x : List ℤ). clauses_in (take (length zs) x)) left
          ∙ ap clauses_in (take_at zs (drop (length zs) (blank scale text)) (length zs) refl) ∙ clauses_back n clauses f.file.literals;
      within = le-ltb (most_bytes scale) (length text) f.short;
      few = and_from (leb 1 n) _ (le-leb 1 n f.some) (le-leb n (most_variables scale) f.few);
    }

-- for a file within the limits, the file of its compacted clauses
pub outcome_is : (scale : Scale) (text : List ℕ) (n : ℕ) (clauses : List (List ℤ)) → Fits scale text n clauses
    → outcome scale text ≡ Ok (compacted_text (encoder_of text) n clauses)
outcome_is scale text n clauses f =
    let g = file_gets scale text n clauses f in
    cond-false _ _ _ g.within
    ∙ ap (λ (r : Result Summary Fault). compacted_read scale (encoder_of text) r (reading text (blank scale text)).list) g.answer
    ∙ cond-true _ _ _ g.few
    ∙ ap (λ m. Ok (compacted_text (encoder_of text) m (clauses_in (take g.summary.numbers (reading text (blank scale text)).list)))) g.count
    ∙ ap (λ (cs : List (List ℤ)). Ok (compacted_text (encoder_of text) n cs)) g.read

-- ---- what it keeps

-- the compacted text is a file of the compacted clauses
pub compacted_file : (n : ℕ) (clauses : List (List ℤ)) → Taken n clauses → (M : Meaning) → Lawful M
    → File (compacted_text M n clauses) (compacted_variables M n clauses) (compacted M n clauses)
compacted_file n clauses t M law =
    let m : ℕ = compacted_variables M n clauses in
    let f = written_file m (numbers (compacted M n clauses)) (compacted_writable n clauses t M law) in
    subst (File (compacted_text M n clauses) m)
    (clauses_same m m f.0 (compacted M n clauses) f.1.literals (compacted_of n clauses t.literals M law t.few t.few_clauses) f.2) f.1

pub compacts : (n : ℕ) (clauses : List (List ℤ)) → Taken n clauses → (M : Meaning) → Lawful M → Compacts n clauses (compacted_text M n clauses)
compacts n clauses t M law =
    let g = compacted_file n clauses t M law in
    record {
      variables = compacted_variables M n clauses;
      printed_clauses = compacted M n clauses;
      file = g;
      further = omega arith;
      reads_back = λ list room. file_reads (compacted_text M n clauses) (compacted_variables M n clauses) (compacted M n clauses) list g room;
      never_more = fewer_clauses n clauses t.literals M law t.few t.few_clauses;
      models = same_models n clauses t M law;
    }

pub every_file_compacted : EveryFileCompacted
every_file_compacted scale text n clauses f =
    subst (λ (r : Result (List ℕ) Fault). Compacts n clauses (printed r)) (sym (outcome_is scale text n clauses f))
    (compacts n clauses (fits_taken scale text n clauses f) (encoder_of text) (lawful_choice (choice_of (first_line text))))

-- ---- files that say the same

-- the same pair clauses make the same conflicts accepted,
same_accepted : (n : ℕ) (cs ds : List (List ℤ)) (text text' : List ℕ) → Taken n cs → Taken n ds → SaySame text text' cs ds → SameAccepted n (asked cs) (asked ds)
same_accepted n cs ds text text' t u same a b = (
  λ h. (accepted_pair n ds u.literals a b).1 ((same.pairs (complement a) (complement b)).0 ((accepted_pair n cs t.literals a b).0 h)),
  λ h. (accepted_pair n cs t.literals a b).1 ((same.pairs (complement a) (complement b)).1 ((accepted_pair n ds u.literals a b).0 h)),
)

-- the text, told from the relation and the other clauses
abbrev text_by : Meaning → ℕ → Rel → List (List ℤ) → List ℕ
text_by M n rel others = text_of (n + auxiliary_count M (cover_of n rel)) (numbers (map literals_of (written_clauses M (cover_of n rel) (n + 1)) ++ others))

-- and so are the same relation, whose cover, with the same others, makes the same text
pub same_text : (M : Meaning) (n : ℕ) (cs ds : List (List ℤ)) (text text' : List ℕ) → Taken n cs → Taken n ds → SaySame text text' cs ds → compacted_text M n cs ≡ compacted_text M n ds
same_text M n cs ds text text' t u same =
    let rels : related (conflicts_of cs) ≡ related (conflicts_of ds) =
    tells_same n (asked cs) (asked ds) (related (conflicts_of cs)) (related (conflicts_of ds)) (clauses_tell n cs t.literals) (clauses_tell n ds u.literals)
    (same_accepted n cs ds text text' t u same) in
    ap (λ rel. text_by M n rel (others_of cs)) rels ∙ ap (text_by M n (related (conflicts_of ds))) same.others

pub same_files_print_alike : SameFilesPrintAlike
same_files_print_alike scale text text' n cs ds f g same =
    ap printed (outcome_is scale text n cs f
    ∙ ap (λ choice. Ok (compacted_text (meaning_of choice) n cs)) same.encoder
    ∙ ap Ok (same_text (encoder_of text') n cs ds text text' (fits_taken scale text n cs f) (fits_taken scale text' n ds g) same)
    ∙ sym (outcome_is scale text' n ds g))
