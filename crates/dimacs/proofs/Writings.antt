-- What the writer accepts is a file, and reads back.
use Rattle.std.proofs.Common.{◌≡◌, ℕ, ◌<◌, ◌≤◌, Bool, true, false, cond, ◌||◌, ltb, List, [], ◌∷◌, ◌++◌, map, length, drop, ℤ, nat_abs, Some, None, Ok, Err, Option, Result, sym, refl, ap, ◌∙◌, subst, append_assoc, append-nil, arith}
use Rattle.std.proofs.lemmas.Bool.{and_parts, ltb-false, or_parts}
use Rattle.std.specs.List.{flat_map}
use Rattle.std.specs.Char.{is_ascii_digit}
use Rattle.std.specs.Fmt.{signed_decimal}
use Rattle.std.specs.Str.{all_ascii_digits}
use Rattle.fault.specs.declared.Fault.{Fault}
use Rattle.fault.specs.declared.Refusal.{Refusal}
use Rattle.fault.specs.declared.Refusal.TheVariants.{MalformedHeader, VariableAboveHeader, UnexpectedEnd}
use Rattle.dimacs.specs.declared.Summary.{Summary}
use Rattle.dimacs.specs.Bytes.{class_of}
use Rattle.dimacs.specs.Clauses.{numbers, closes, closings, exceeds, unclosed}
use Rattle.dimacs.specs.File.{lines, header_line, File}
use Rattle.dimacs.specs.Reading.{Reading, reading}
use Rattle.dimacs.specs.Written.{spaced, text_of, write_refusal}
use Rattle.dimacs.specs.Laws.{AcceptsFiles, read_as, EveryWritingReadsBack}
use Rattle.dimacs.proofs.Scan.{Carry, fresh, noted, word, kept, scan, scan_is, feeds, blanks, notes, no_feed}
use Rattle.dimacs.proofs.Spelling.{Led, Form, nought, plain, minus, form, class_digit}
use Rattle.dimacs.proofs.Numbered.{within_first}
use Rattle.dimacs.proofs.Preamble.{header_lines}
use Rattle.dimacs.proofs.Gathering.{Gathered, gather, unclosed_is}
use Rattle.dimacs.proofs.Texts.{one_file, lines_some, every_text_decided}

-- ---- the words that are written

-- no blank among the bytes
abbrev Solid : List ℕ → Type 0
Solid [] = Unit {0}
Solid (b ∷ u) = (blanks (class_of b) ≡ false) × Solid u

-- bytes that begin no comment
abbrev Plain : List ℕ → Type 0
Plain [] = ⊥
Plain (b ∷ u) = notes (class_of b) ≡ false

solid_step : (w : List ℕ) (b : ℕ) (bs : List ℕ) → blanks (class_of b) ≡ false → scan (word w) (b ∷ bs) ≡ scan (word (w ++ b ∷ [])) bs
solid_step w b bs h =
    ap (λ (t : Bool). cond t (kept w) [] ++ scan (cond (feeds (class_of b)) fresh (cond t (word []) (word (w ++ b ∷ [])))) bs) h
    ∙ ap (λ (t : Bool). scan (cond t fresh (word (w ++ b ∷ []))) bs) (no_feed (class_of b) h)

fresh_step : (b : ℕ) (bs : List ℕ) → blanks (class_of b) ≡ false → notes (class_of b) ≡ false → scan fresh (b ∷ bs) ≡ scan (word []) (b ∷ bs)
fresh_step b bs h c =
    ap (λ (t : Bool). scan (cond (feeds (class_of b)) fresh (cond t (word []) (cond (notes (class_of b)) noted (word (b ∷ []))))) bs) h
    ∙ ap (λ (t : Bool). scan (cond t fresh (cond (notes (class_of b)) noted (word (b ∷ [])))) bs) (no_feed (class_of b) h)
    ∙ ap (λ (t : Bool). scan (cond t noted (word (b ∷ []))) bs) c
    ∙ sym (solid_step [] b bs h)

through : (u w bs : List ℕ) → Solid u → scan (word w) (u ++ bs) ≡ scan (word (w ++ u)) bs
through [] w bs h = ap (λ (x : List ℕ). scan (word x) bs) (sym (append-nil w))
through (b ∷ u) w bs h =
    solid_step w b (u ++ bs) h.0 ∙ through u (w ++ b ∷ []) bs h.1 ∙ ap (λ (x : List ℕ). scan (word x) bs) (append_assoc w (b ∷ []) u)

-- a line's start, or a gap
abbrev carry : Bool → Carry
carry true = fresh
carry false = word []

from_gap : (a : ℕ) (w rest : List ℕ) (t : Bool) → Solid (a ∷ w) → scan (word []) ((a ∷ w) ++ cond t 10 32 ∷ rest) ≡ (a ∷ w) ∷ scan (carry t) rest
from_gap a w rest true h = through (a ∷ w) [] (10 ∷ rest) h
from_gap a w rest false h = through (a ∷ w) [] (32 ∷ rest) h

-- a word with a blank after it
word_scanned : (s : Bool) (u rest : List ℕ) (t : Bool) → Solid u → Plain u → scan (carry s) (u ++ cond t 10 32 ∷ rest) ≡ u ∷ scan (carry t) rest
word_scanned s [] rest t h p = absurd p
word_scanned true (a ∷ w) rest t h p = fresh_step a (w ++ cond t 10 32 ∷ rest) h.0 p ∙ from_gap a w rest t h
word_scanned false (a ∷ w) rest t h p = from_gap a w rest t h

solid_digits : (ds : List ℕ) → all_ascii_digits ds ≡ true → Solid ds
solid_digits [] h = tt
solid_digits (b ∷ ds) h = let p = and_parts (is_ascii_digit b) (all_ascii_digits ds) h in (ap blanks (class_digit b p.0), solid_digits ds p.1)

plain_digits : (ds : List ℕ) → Led ds → Plain ds
plain_digits [] l = omega (arith, l.some)
plain_digits (b ∷ ds) l = ap notes (class_digit b (and_parts (is_ascii_digit b) (all_ascii_digits ds) l.digits).0)

number_solid : (w : List ℕ) (size : ℕ) → Form w size → Solid w × Plain w
number_solid w size (nought e) = subst (λ (x : List ℕ). Solid x × Plain x) (sym e) ((refl, tt), refl)
number_solid w size (plain l v) = (solid_digits w l.digits, plain_digits w l)
number_solid w size (minus ds e l v) = subst (λ (x : List ℕ). Solid x × Plain x) (sym e) ((refl, solid_digits ds l.digits), refl)

written_words : (n : ℕ) → n < 1_000_000_000 → (zs : List ℤ) (s : Bool) → exceeds n zs ≡ false → scan (carry s) (flat_map spaced zs) ≡ map signed_decimal zs
written_words n few [] true h = refl
written_words n few [] false h = refl
written_words n few (z ∷ zs) s h =
    let p = within_first n z zs h in
    let f = number_solid (signed_decimal z) (nat_abs z) (form z (omega (arith, p.0))) in
    ap (scan (carry s)) (append_assoc (signed_decimal z) (cond (closes z) 10 32 ∷ []) (flat_map spaced zs))
    ∙ word_scanned s (signed_decimal z) (flat_map spaced zs) (closes z) f.0 f.1
    ∙ ap (λ (ws : List (List ℕ)). signed_decimal z ∷ ws) (written_words n few zs (closes z) p.1)

-- ---- the writer's text is a file

-- n and numbers that the writer does not decline for themselves
pub record Writable (n : ℕ) (zs : List ℤ) : Type 0 where
  pub few_variables : n < 1_000_000_000
  pub few_clauses : closings zs ≤ 1_000_000
  pub within : exceeds n zs ≡ false
  pub over : unclosed zs ≡ false

not_refused : (t : Bool) (refusal : Refusal) (rest : Option Refusal) → cond t (Some refusal) rest ≡ None → (t ≡ false) × (rest ≡ None)
not_refused true refusal rest e = cc
not_refused false refusal rest e = (refl, e)

pub writable : (n : ℕ) (zs : List ℤ) (room : ℕ) → write_refusal n zs room ≡ None → Writable n zs
writable n zs room e =
    let a = not_refused (ltb 999_999_999 n || ltb 1_000_000 (closings zs)) MalformedHeader _ e in
    let b = not_refused (exceeds n zs) VariableAboveHeader _ a.1 in
    let c = not_refused (unclosed zs) UnexpectedEnd _ b.1 in
    let p = or_parts (ltb 999_999_999 n) (ltb 1_000_000 (closings zs)) a.0 in
    record {
      few_variables = omega (arith, ltb-false 999_999_999 n p.0);
      few_clauses = ltb-false 1_000_000 (closings zs) p.1;
      within = b.0;
      over = c.0;
    }

pub written_file : (n : ℕ) (zs : List ℤ) → Writable n zs → (cs : List (List ℤ)) × File (text_of n zs) n cs × (numbers cs ≡ zs) × (length cs ≡ closings zs)
written_file n zs w =
    let g : Gathered n zs false = gather n zs false w.within (unclosed_is zs ∙ w.over) in (
      g.clauses,
      record {
        before = [];
        body = lines (flat_map spaced zs);
        lined = header_lines n (closings zs) (flat_map spaced zs) w.few_variables w.few_clauses ∙ ap (λ (k : ℕ). header_line n k ∷ lines (flat_map spaced zs)) (sym g.count);
        header_first = refl;
        header_ends = lines_some (flat_map spaced zs);
        worded = sym (scan_is (flat_map spaced zs) fresh) ∙ written_words n w.few_variables zs true w.within ∙ ap (map signed_decimal) (sym g.same);
        few_variables = w.few_variables;
        few_clauses = omega (arith, g.count, w.few_clauses);
        literals = g.literals;
      },
      g.same,
      g.count,
    )

-- ---- a file that the list has room for reads as what it holds

pub file_reads : (text : List ℕ) (n : ℕ) (cs : List (List ℤ)) (list : List ℤ) → File text n cs → length (numbers cs) ≤ length list → reading text list ≡ read_as n (length cs) (numbers cs) list
file_reads text n cs list file room = by (reading text list).answer (reading text list).list (every_text_decided text list)
  where
    by : (a : Result Summary Fault) (after : List ℤ) → AcceptsFiles text list a after → ◌≡◌ {A = Reading} (record { answer = a; list = after }) (read_as n (length cs) (numbers cs) list)
    by (Ok s) after h =
        let same = one_file text s.variables n h.clauses cs h.file file in
        let numbered : numbers h.clauses ≡ numbers cs = ap numbers same.1 in
        let count : s.clauses ≡ length cs = h.counts ∙ ap length same.1 in
        let size : s.numbers ≡ length (numbers cs) = h.lists ∙ ap length numbered in
        let left : after ≡ numbers cs ++ drop (length (numbers cs)) list = h.leaves ∙ ap (λ (x : List ℤ). x ++ drop s.numbers list) numbered ∙ ap (λ (k : ℕ). numbers cs ++ drop k list) size in
        λ i. record { answer = Ok (record { variables = same.0 i; clauses = count i; numbers = size i }); list = left i }
    by (Err f) after h = absurd (h n cs file room)

pub every_writing_reads_back : EveryWritingReadsBack
every_writing_reads_back n zs room e list fits =
    let f = written_file n zs (writable n zs room e) in
    file_reads (text_of n zs) n f.0 list f.1 (omega (arith, ap length f.2)) ∙ ap (λ (k : ℕ). read_as n k (numbers f.0) list) f.3 ∙ ap (λ (x : List ℤ). read_as n (closings zs) x list) f.2
