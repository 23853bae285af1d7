-- What was read within the program's limits is always written, and holds the same clauses.
use Rattle.std.proofs.Common.{◌≡◌, ℕ, ◌+◌, ◌*◌, ◌≤◌, true, false, cond, ◌||◌, ltb, leb, List, [], ◌∷◌, ◌++◌, map, length, take, drop, ℤ, pos, negsuc, nat_abs, None, Ok, Err, decimal, Result, sym, refl, ap, ◌∙◌, subst, arith}
use Rattle.std.proofs.lemmas.Fmt.{length_signed_le, length-decimal-le}
use Rattle.std.proofs.lemmas.List.{length-append, length_push, length-replicate, take_at}
use Rattle.std.proofs.lemmas.Bool.{cond-true, cond-false, le-ltb, and_parts, leb-true}
use Rattle.std.proofs.lemmas.Bool.Decides.{nat_tests}
use Rattle.std.specs.List.{flat_map}
use Rattle.std.specs.Fmt.{signed_decimal}
use Rattle.fault.specs.Fault.{fault_text}
use Rattle.fault.specs.declared.Fault.{Fault}
use Rattle.dimacs.specs.declared.Summary.{Summary}
use Rattle.dimacs.specs.Clauses.{numbers, closes, closings, unclosed, exceeds}
use Rattle.dimacs.specs.File.{File, header_line}
use Rattle.dimacs.specs.Laws.{Holds, read_as}
use Rattle.dimacs.specs.Reading.{Reading, reading}
use Rattle.dimacs.specs.Written.{spaced, text_of, write_refusal}
use Rattle.dimacs.proofs.Gathering.{numbers_within, numbers_over, numbers_count, unclosed_is}
use Rattle.dimacs.proofs.Numbered.{within_first}
use Rattle.dimacs.proofs.Writings.{Writable, written_file, file_reads}
use Rattle.compactor.specs.Printed.{few_variables, empty_list, rewritten, outcome, printed, size_of, over}
use Rattle.compactor.specs.Kept.{KeepsClauses}

-- a number of at most three digits takes at most five bytes
signed_short : (z : ℤ) → nat_abs z ≤ 256 → length (signed_decimal z) ≤ 4
signed_short (pos n) h = length_signed_le 3 (pos n) (omega arith) (omega arith)
signed_short (negsuc n) h = length_signed_le 3 (negsuc n) (omega arith) (omega arith)

spaced_short : (z : ℤ) → nat_abs z ≤ 256 → length (spaced z) ≤ 5
spaced_short z h = omega (arith, signed_short z h, length_push (signed_decimal z) (cond (closes z) 10 32))

body_short : (n : ℕ) (zs : List ℤ) → n ≤ 256 → exceeds n zs ≡ false → length (flat_map spaced zs) ≤ 5 * length zs
body_short n [] h w = omega arith
body_short n (z ∷ zs) h w =
    let p = within_first n z zs w in
    omega (arith, spaced_short z (omega (arith, p.0)), body_short n zs h p.1, length-append (spaced z) (flat_map spaced zs))

text_short : (n : ℕ) (zs : List ℤ) → n ≤ 256 → closings zs ≤ 1_000_000 → length zs ≤ 16_384 → exceeds n zs ≡ false → length (text_of n zs) ≤ 81_938
text_short n zs h k l w =
    let header : length (header_line n (closings zs)) ≡ 7 + length (decimal n) + length (decimal (closings zs)) = simp length-append (omega arith) in
    omega (
      arith,
      length-append (header_line n (closings zs)) (10 ∷ flat_map spaced zs),
      header,
      body_short n zs h w,
      length-decimal-le 3 n (omega arith) (omega arith) (omega arith),
      length-decimal-le 7 (closings zs) (omega arith) (omega arith) (omega arith),
    )

none_met : (n : ℕ) (zs : List ℤ) (room : ℕ) → n ≤ 256 → closings zs ≤ 1_000_000 → exceeds n zs ≡ false → unclosed zs ≡ false → length (text_of n zs) ≤ room → write_refusal n zs room ≡ None
none_met n zs room h k w o r =
    let head : (ltb 999_999_999 n || ltb 1_000_000 (closings zs)) ≡ false = grind (arith, nat_tests) in
    cond-false _ _ _ head ∙ cond-false _ _ _ w ∙ cond-false _ _ _ o ∙ cond-false _ _ _ (le-ltb _ _ r)

pub few_is : (n : ℕ) → few_variables n ≡ true → (1 ≤ n) × (n ≤ 256)
few_is n h = let p = and_parts (leb 1 n) (leb n 256) h in (leb-true 1 n p.0, leb-true n 256 p.1)

-- the numbers that were read are those of the file
pub listed_is : (text : List ℕ) (s : Summary) (before after : List ℤ) (h : Holds text before s after) → take s.numbers after ≡ numbers h.clauses
listed_is text s before after h = ap (take s.numbers) h.leaves ∙ take_at (numbers h.clauses) (drop s.numbers before) s.numbers (sym h.lists)

pub always_written : (text : List ℕ) (s : Summary) (before after : List ℤ) → length before ≡ 16_384 → Holds text before s after → few_variables s.variables ≡ true
    → write_refusal s.variables (take s.numbers after) 81_938 ≡ None
always_written text s before after l h few =
    let cs : List (List ℤ) = h.clauses in
    let n : ℕ = s.variables in
    let small : n ≤ 256 = (few_is n few).1 in
    let count : closings (numbers cs) ≤ 1_000_000 = omega (arith, numbers_count n cs h.file.literals, h.file.few_clauses) in
    let within : exceeds n (numbers cs) ≡ false = numbers_within n cs h.file.literals in
    let over : unclosed (numbers cs) ≡ false = sym (unclosed_is (numbers cs)) ∙ numbers_over cs in
    let room : length (numbers cs) ≤ 16_384 = omega (arith, h.lists, h.room, l) in
    ap (λ (zs : List ℤ). write_refusal n zs 81_938) (listed_is text s before after h)
    ∙ none_met n (numbers cs) 81_938 small count within over (text_short n (numbers cs) small count room within)

pub outcome_ok : (text : List ℕ) (s : Summary) (list : List ℤ) → ltb 65_536 (length text) ≡ false → (reading text empty_list).answer ≡ Ok s → (reading text empty_list).list ≡ list → few_variables s.variables ≡ true
    → outcome text ≡ Ok (text_of s.variables (take s.numbers list))
outcome_ok text s list short answer left few =
    cond-false _ _ _ short
    ∙ ap (λ (r : Result Summary Fault). rewritten r (reading text empty_list).list) answer
    ∙ ap (λ (x : List ℤ). rewritten (Ok s) x) left
    ∙ cond-true _ _ _ few

pub keeps_clauses : (text : List ℕ) → KeepsClauses text (printed (outcome text))
keeps_clauses text n cs file size one few room =
    let zs : List ℤ = numbers cs in
    let wide : length empty_list ≡ 16_384 = length-replicate 16_384 (pos 0) in
    let got : reading text empty_list ≡ read_as n (length cs) zs empty_list = file_reads text n cs empty_list file (omega (arith, wide)) in
    let s : Summary = record { variables = n; clauses = length cs; numbers = length zs } in
    let ok : few_variables n ≡ true = grind (arith, nat_tests) in
    let out : outcome text ≡ Ok (text_of n zs) =
    outcome_ok text s (zs ++ drop (length zs) empty_list) (le-ltb 65_536 (length text) size) (ap (λ (r : Reading). r.answer) got) (ap (λ (r : Reading). r.list) got) ok
    ∙ ap (λ (x : List ℤ). Ok (text_of n x)) (take_at zs (drop (length zs) empty_list) (length zs) refl) in
    let w : Writable n zs = record { few_variables = omega arith; few_clauses = omega (arith, numbers_count n cs file.literals, file.few_clauses); within = numbers_within n cs file.literals; over = sym (unclosed_is zs) ∙ numbers_over cs } in
    let f = written_file n zs w in
    let g : File (text_of n zs) n f.0 = f.1 in
    let same : length f.0 ≡ length cs = f.3 ∙ numbers_count n cs file.literals in
    subst (λ (r : Result (List ℕ) Fault). File (printed r) n cs) (sym out)
    (record {
      before = g.before;
      body = g.body;
      lined = g.lined ∙ ap (λ k. g.before ++ header_line n k ∷ g.body) same;
      header_first = g.header_first;
      header_ends = g.header_ends;
      worded = g.worded ∙ ap (map signed_decimal) f.2;
      few_variables = file.few_variables;
      few_clauses = file.few_clauses;
      literals = file.literals;
    })

-- what is printed, from what the work answered and left in its buffer
pub ok_prints : (o : Result (List ℕ) Fault) (size : ℕ) (bytes : List ℕ) → ◌≡◌ {A = Result ℕ Fault} (Ok size) (size_of o) → take size (over o bytes) ≡ printed o
ok_prints (Ok text) size bytes e = let k : size ≡ length text = cc in ap (λ n. take n (text ++ drop (length text) bytes)) k ∙ take_at text (drop (length text) bytes) (length text) refl
ok_prints (Err f) size bytes e = cc

pub err_prints : (o : Result (List ℕ) Fault) (f : Fault) → ◌≡◌ {A = Result ℕ Fault} (Err f) (size_of o) → fault_text f ++ 10 ∷ [] ≡ printed o
err_prints (Ok text) f e = cc
err_prints (Err g) f e = cc

-- the printed bytes keep the clauses
pub prints_keep : (text output : List ℕ) → output ≡ printed (outcome text) → KeepsClauses text output
prints_keep text output e = subst (λ (l : List ℕ). KeepsClauses text l) (sym e) (keeps_clauses text)
