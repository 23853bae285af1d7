-- A text is read without a fault exactly if it is a file with room in the list; what is written reads back.
use Rattle.std.proofs.Common.{◌≡◌, ℕ, ◌+◌, ◌<◌, ◌≤◌, false, List, [], ◌∷◌, ◌++◌, map, length, drop, ℤ, Ok, Err, decimal, Result, sym, refl, ap, ◌∙◌, subst, zero-add, arith}
use Rattle.std.proofs.lemmas.Fmt.{decimal_injective}
use Rattle.std.proofs.lemmas.List.{append_cancel_left}
use Rattle.std.proofs.lemmas.Bool.{true≢false}
use Rattle.std.specs.Fmt.{signed_decimal}
use Rattle.fault.specs.declared.Fault.{Fault}
use Rattle.dimacs.specs.declared.State.TheVariants.{LineStart}
use Rattle.dimacs.specs.declared.Summary.{Summary}
use Rattle.dimacs.specs.Bytes.{is_feed}
use Rattle.dimacs.specs.Clauses.{numbers, closings, exceeds}
use Rattle.dimacs.specs.File.{lines, words_outside, header_line, File}
use Rattle.dimacs.specs.Reading.{Reading, reading, read_on}
use Rattle.dimacs.specs.Laws.{Holds, NoFile, AcceptsFiles, EveryTextDecided}
use Rattle.dimacs.proofs.Scan.{fresh, scan, scan_is, split_is}
use Rattle.dimacs.proofs.Numbered.{machine, Reads, Fails, Decided}
use Rattle.dimacs.proofs.Body.{body_decided}
use Rattle.dimacs.proofs.HeaderLine.{digits_same, decimal_digits}
use Rattle.dimacs.proofs.Preamble.{at_start, After, Found, finds, lacks, header_found, words_some, outside_parts, outside_rest}
use Rattle.dimacs.proofs.Gathering.{Gathered, gather, clauses_same, numbers_within, numbers_over, numbers_count, put_all_start, same_words}

-- ---- a text is at most one file

headers_same : (n k m j : ℕ) → n < 1_000_000_000 → k ≤ 1_000_000 → m < 1_000_000_000 → j ≤ 1_000_000 → header_line n k ≡ header_line m j → (n ≡ m) × (k ≡ j)
headers_same n k m j few some few' some' e =
    let keyword : List ℕ = 112 ∷ 32 ∷ 99 ∷ 110 ∷ 102 ∷ 32 ∷ [] in
    let t = append_cancel_left keyword (decimal n ++ 32 ∷ decimal k) (decimal m ++ 32 ∷ decimal j) e in
    let s = digits_same (decimal n) (decimal m) (decimal k) (decimal j) 32 32 (decimal_digits n few) (decimal_digits m few') (λ d. true≢false (sym d)) (λ d. true≢false (sym d)) t in
    (decimal_injective n m (omega arith) (omega arith) s.0, decimal_injective k j (omega arith) (omega arith) s.2)

-- a header is no line that may stand before one
header_words : (n k : ℕ) (ls : List (List ℕ)) → words_outside (header_line n k ∷ ls) ≡ [] → ⊥
header_words n k ls w =
    let rest : List ℕ = 32 ∷ 99 ∷ 110 ∷ 102 ∷ 32 ∷ (decimal n ++ 32 ∷ decimal k) in
    words_some 112 rest refl (outside_parts 112 rest ls refl w).0

located_once : (before after body rest : List (List ℕ)) (n k m j : ℕ) → n < 1_000_000_000 → k ≤ 1_000_000 → m < 1_000_000_000 → j ≤ 1_000_000
    → words_outside before ≡ [] → words_outside after ≡ [] → before ++ header_line n k ∷ body ≡ after ++ header_line m j ∷ rest → (n ≡ m) × (k ≡ j) × (body ≡ rest)
located_once [] [] body rest n k m j few some few' some' p q e =
    let h : header_line n k ≡ header_line m j = cc in
    let s = headers_same n k m j few some few' some' h in
    (s.0, s.1, (cc))
located_once [] (y ∷ after) body rest n k m j few some few' some' p q e =
    let h : y ≡ header_line n k = cc in
    absurd (header_words n k after (subst (λ (l : List ℕ). words_outside (l ∷ after) ≡ []) h q))
located_once (x ∷ before) [] body rest n k m j few some few' some' p q e =
    let h : x ≡ header_line m j = cc in
    absurd (header_words m j before (subst (λ (l : List ℕ). words_outside (l ∷ before) ≡ []) h p))
located_once (x ∷ before) (y ∷ after) body rest n k m j few some few' some' p q e =
    let t : before ++ header_line n k ∷ body ≡ after ++ header_line m j ∷ rest = cc in
    located_once before after body rest n k m j few some few' some' (outside_rest x before p) (outside_rest y after q) t

-- a text is a file in one way at most
pub one_file : (text : List ℕ) (n m : ℕ) (cs ds : List (List ℤ)) → File text n cs → File text m ds → (n ≡ m) × (cs ≡ ds)
one_file text n m cs ds f g =
    let o = located_once f.before g.before f.body g.body n (length cs) m (length ds) f.few_variables f.few_clauses g.few_variables g.few_clauses f.header_first g.header_first (sym f.lined ∙ g.lined) in
    let w : map signed_decimal (numbers cs) ≡ map signed_decimal (numbers ds) = sym f.worded ∙ ap words_outside o.2 ∙ g.worded in
    let z = same_words n m (numbers cs) (numbers ds) f.few_variables g.few_variables (numbers_within n cs f.literals) (numbers_within m ds g.literals) w in
    (o.0, clauses_same n m cs ds f.literals g.literals z)

-- ---- every text is decided

pub lines_some : (text : List ℕ) → 0 < length (lines text)
lines_some text = omega (arith, ap length (split_is is_feed text))

module _ (text : List ℕ) (list : List ℤ) (n k : ℕ) (rest : List ℕ) (few : n < 1_000_000_000) (some : k ≤ 1_000_000) (a : After (lines text) n k (lines rest)) where
  -- what the reader accepted is a file
  holds : (s : Summary) (after : List ℤ) → Reads n k 0 0 false list (scan fresh rest) s after → Holds text list s after
  holds s after x =
      subst (λ (t : Summary). Holds text list t after) (sym x.says)
      (record {
        clauses = g.clauses;
        file = record {
          before = a.0;
          body = lines rest;
          lined = a.1 ∙ ap (λ (c : ℕ). a.0 ++ header_line n c ∷ lines rest) counted;
          header_first = a.2;
          header_ends = lines_some rest;
          worded = sym (scan_is rest fresh) ∙ x.worded ∙ ap (map signed_decimal) (sym g.same);
          few_variables = few;
          few_clauses = omega (arith, counted);
          literals = g.literals;
        };
        counts = counted;
        lists = listed;
        room = x.room;
        leaves =
            x.leaves ∙ put_all_start x.zs list (omega (arith, x.room))
            ∙ ap (λ (l : ℕ). x.zs ++ drop l list) (sym (zero-add (length x.zs)))
            ∙ ap (λ (l : List ℤ). l ++ drop (0 + length x.zs) list) (sym g.same);
      })
    where
      g : Gathered n x.zs false
      g = gather n x.zs false x.within x.over

      counted : k ≡ length g.clauses
      counted = sym x.count ∙ zero-add (closings x.zs) ∙ sym g.count

      listed : 0 + length x.zs ≡ length (numbers g.clauses)
      listed = zero-add (length x.zs) ∙ ap length (sym g.same)

  -- what it declined is none
  no_file : Fails n k 0 0 false list (scan fresh rest) → NoFile text list
  no_file never m clauses file room =
      let o = located_once a.0 file.before (lines rest) file.body n k m (length clauses) few some file.few_variables file.few_clauses a.2 file.header_first (sym a.1 ∙ file.lined) in
      never (numbers clauses)
      (scan_is rest fresh ∙ ap words_outside o.2 ∙ file.worded)
      (subst (λ (x : ℕ). exceeds x (numbers clauses) ≡ false) (sym o.0) (numbers_within m clauses file.literals))
      (omega arith)
      (numbers_over clauses)
      (zero-add (closings (numbers clauses)) ∙ numbers_count m clauses file.literals ∙ sym o.1)

  accepts : (answer : Result Summary Fault) (after : List ℤ) → Decided n k 0 0 false list (scan fresh rest) (record { answer = answer; list = after }) → AcceptsFiles text list answer after
  accepts (Ok s) after d = holds s after d
  accepts (Err f) after d = no_file d

pub every_text_decided : EveryTextDecided
every_text_decided text list = by (header_found list text at_start 0)
  where
    by : Found at_start list text (reading text list) → AcceptsFiles text list (reading text list).answer (reading text list).list
    by (finds n k at rest a few some e) =
        let r : Reading = read_on (machine n k LineStart 0 0 false) list at rest in
        subst (λ (x : Reading). AcceptsFiles text list x.answer x.list) (sym e)
        (accepts text list n k rest few some a r.answer r.list (body_decided n k few rest LineStart fresh 0 0 false list at (omega arith) refl))
    by (lacks f never) =
        subst (λ (x : Result Summary Fault). AcceptsFiles text list x (reading text list).list) (sym f.1)
        (λ n clauses file room. never n (length clauses) file.body file.few_variables file.few_clauses file.header_ends (file.before, file.lined, file.header_first))
