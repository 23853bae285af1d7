-- The reader in the lines before the header: it passes just comments and blanks.
use Rattle.std.proofs.Common.{◌≡◌, ℕ, ◌+◌, ◌<◌, ◌≤◌, Bool, true, false, cond, eqb, ◌⊎◌, List, [], ◌∷◌, ◌++◌, length, get_or, ℤ, decimal, sym, refl, ap, ◌∙◌, subst, inl, inr, append-nil, arith, length-append}
use Rattle.std.proofs.lemmas.Bool.{true≢false, cond-true, cond-false, cases_Bool, eqb-true, and_parts}
use Rattle.std.proofs.lemmas.Bool.Decides.{nat_tests}
use Rattle.std.specs.Char.{is_ascii_digit}
use Rattle.std.specs.Str.{all_ascii_digits}
use Rattle.fault.specs.declared.Refusal.TheVariants.{UnexpectedByte, UnexpectedEnd}
use Rattle.dimacs.specs.declared.Class.{Class}
use Rattle.dimacs.specs.declared.Class.TheVariants.{Space, OtherBlank, LineFeed, Minus, Digit, C, N, F, P, Other}
use Rattle.dimacs.specs.declared.State.{State}
use Rattle.dimacs.specs.declared.State.TheVariants.{LineStart, Gap, Comment, Keyword}
use Rattle.dimacs.specs.Bytes.{is_feed, is_blank, class_of}
use Rattle.dimacs.specs.File.{lines, words, is_comment, words_outside, header_line}
use Rattle.dimacs.specs.Steps.{go, stop, step_of}
use Rattle.dimacs.specs.Reading.{Reading, read_on}
use Rattle.dimacs.proofs.Scan.{blank_no_note, first, others, feeds, blanks, notes, feeds_is, blanks_is, notes_is, split_is, lines_passed, words_is, words_after, words_after_blank, words_after_more}
use Rattle.dimacs.proofs.Numbered.{machine}
use Rattle.dimacs.proofs.HeaderLine.{early, Refused, Headed, heads, misses, go_step, stop_step, stop_end, header_decided, decimal_digits}

-- ---- lines

abbrev Unfed : List ℕ → Type 0
Unfed [] = Unit {0}
Unfed (b ∷ l) = (is_feed b ≡ false) × Unfed l

-- a line and its line feed
lines_line : (x rest : List ℕ) → Unfed x → lines (x ++ 10 ∷ rest) ≡ x ∷ lines rest
lines_line [] rest h = refl
lines_line (b ∷ x) rest h = lines_passed b (x ++ 10 ∷ rest) h.0 ∙ ap (λ (ps : List (List ℕ)). (b ∷ first ps) ∷ others ps) (lines_line x rest h.1)

lines_cut : (t x y : List ℕ) (ys : List (List ℕ)) → lines t ≡ x ∷ y ∷ ys → (rest : List ℕ) × (t ≡ x ++ 10 ∷ rest) × (lines rest ≡ y ∷ ys)
lines_cut [] x y ys e = absurd (omega (arith, ap length e))
lines_cut (b ∷ t) x y ys e = by (cases_Bool (is_feed b)) (lines_cut t (first (lines t)) y ys)
  where
    by : (is_feed b ≡ true) ⊎ (is_feed b ≡ false) → (lines t ≡ first (lines t) ∷ y ∷ ys → (rest : List ℕ) × (t ≡ first (lines t) ++ 10 ∷ rest) × (lines rest ≡ y ∷ ys))
        → (rest : List ℕ) × (b ∷ t ≡ x ++ 10 ∷ rest) × (lines rest ≡ y ∷ ys)
    by (inl f) ih =
        let w : [] ∷ lines t ≡ x ∷ y ∷ ys = sym (cond-true (is_feed b) ([] ∷ lines t) _ f) ∙ e in
        let here : [] ≡ x = cc in
        let there : lines t ≡ y ∷ ys = cc in
        (t, ap (λ (c : ℕ). c ∷ t) (eqb-true b 10 f) ∙ ap (λ (l : List ℕ). l ++ 10 ∷ t) here, there)
    by (inr f) ih =
        let w : (b ∷ first (lines t)) ∷ others (lines t) ≡ x ∷ y ∷ ys = sym (lines_passed b t f) ∙ e in
        let here : b ∷ first (lines t) ≡ x = cc in
        let there : others (lines t) ≡ y ∷ ys = cc in
        let r = ih (split_is is_feed t ∙ ap (λ (l : List (List ℕ)). first (lines t) ∷ l) there) in
        (r.0, ap (λ (l : List ℕ). b ∷ l) r.1 ∙ ap (λ (l : List ℕ). l ++ 10 ∷ r.0) here, r.2)

digit_unfed : (b : ℕ) → is_ascii_digit b ≡ true → is_feed b ≡ false
digit_unfed b h = grind (arith, nat_tests)

unfed_digits : (ds : List ℕ) → all_ascii_digits ds ≡ true → Unfed ds
unfed_digits [] h = tt
unfed_digits (b ∷ ds) h = let p = and_parts (is_ascii_digit b) (all_ascii_digits ds) h in (digit_unfed b p.0, unfed_digits ds p.1)

unfed_append : (x y : List ℕ) → Unfed x → Unfed y → Unfed (x ++ y)
unfed_append [] y p q = q
unfed_append (b ∷ x) y p q = (p.0, unfed_append x y p.1 q)

unfed_header : (n k : ℕ) → n < 1_000_000_000 → k ≤ 1_000_000 → Unfed (header_line n k)
unfed_header n k few some =
    let rest : Unfed (decimal n ++ 32 ∷ decimal k) = unfed_append (decimal n) (32 ∷ decimal k) (unfed_digits (decimal n) (decimal_digits n few)) (refl, unfed_digits (decimal k) (decimal_digits k (omega arith))) in
    (refl, (refl, (refl, (refl, (refl, (refl, rest))))))

pub header_lines : (n k : ℕ) (rest : List ℕ) → n < 1_000_000_000 → k ≤ 1_000_000 → lines (header_line n k ++ 10 ∷ rest) ≡ header_line n k ∷ lines rest
header_lines n k rest few some = lines_line (header_line n k) rest (unfed_header n k few some)

-- ---- words of a line

words_blank : (b : ℕ) (l : List ℕ) → is_blank b ≡ true → words (b ∷ l) ≡ words l
words_blank b l h = words_is (b ∷ l) ∙ words_after_blank [] l b h ∙ sym (words_is l)

pub words_some : (b : ℕ) (l : List ℕ) → is_blank b ≡ false → words (b ∷ l) ≡ [] → ⊥
words_some b l h e =
    let w : words_after (b ∷ []) l ≡ [] = sym (words_after_more [] l b h) ∙ sym (words_is (b ∷ l)) ∙ e in
    omega (arith, ap length w)

both_empty : (xs ys : List (List ℕ)) → xs ++ ys ≡ [] → (xs ≡ []) × (ys ≡ [])
both_empty [] ys e = (refl, e)
both_empty (x ∷ xs) ys e = absurd (omega (arith, ap length e))

pub outside_rest : (l : List ℕ) (ls : List (List ℕ)) → words_outside (l ∷ ls) ≡ [] → words_outside ls ≡ []
outside_rest l ls e = (both_empty (cond (is_comment l) [] (words l)) (words_outside ls) e).1

pub outside_parts : (b : ℕ) (l : List ℕ) (ls : List (List ℕ)) → eqb b 99 ≡ false → words_outside ((b ∷ l) ∷ ls) ≡ [] → (words (b ∷ l) ≡ []) × (words_outside ls ≡ [])
outside_parts b l ls h e =
    let p = both_empty (cond (eqb b 99) [] (words (b ∷ l))) (words_outside ls) e in
    (sym (cond-false (eqb b 99) [] (words (b ∷ l)) h) ∙ p.0, p.1)

blank_no_p : (b : ℕ) → is_blank b ≡ true → b ≡ 112 → ⊥
blank_no_p b h e = grind (arith, nat_tests)

-- ---- where the header is

pub data Place : Type 0 where
  at_start : Place
  in_gap : Place
  in_comment : Place

abbrev pub state_of : Place → State
state_of at_start = LineStart
state_of in_gap = Gap
state_of in_comment = Comment

-- the lines begin with comments and blanks, and then the header and the body come
abbrev pub After : List (List ℕ) → ℕ → ℕ → List (List ℕ) → Type 0
After ls n k body = (before : List (List ℕ)) × (ls ≡ before ++ header_line n k ∷ body) × (words_outside before ≡ [])

-- the same of the bytes still to come, where the rest of the line is blank in a gap, and anything in a comment
abbrev pub Located : Place → List ℕ → ℕ → ℕ → List (List ℕ) → Type 0
Located at_start bs n k body = After (lines bs) n k body
Located in_gap bs n k body = (words (first (lines bs)) ≡ []) × After (others (lines bs)) n k body
Located in_comment bs n k body = After (others (lines bs)) n k body

-- a line's words, unless it is a comment
abbrev words_in : List ℕ → List (List ℕ)
words_in l = cond (is_comment l) [] (words l)

-- the first line is no header, so it is passed
passed : (l : List ℕ) (ls : List (List ℕ)) (n k : ℕ) (body : List (List ℕ)) → (get_or l 0 0 ≡ 112 → ⊥) → After (l ∷ ls) n k body → (words_outside (l ∷ []) ≡ []) × After ls n k body
passed l ls n k body no-p a = by a.0 a.1 a.2
  where
    by : (before : List (List ℕ)) → l ∷ ls ≡ before ++ header_line n k ∷ body → words_outside before ≡ [] → (words_outside (l ∷ []) ≡ []) × After ls n k body
    by [] e w = let h : l ≡ header_line n k = cc in absurd (no-p (ap (λ (x : List ℕ). get_or x 0 0) h))
    by (x ∷ before) e w =
        let h : x ≡ l = cc in
        let t : ls ≡ before ++ header_line n k ∷ body = cc in
        let p = both_empty (words_in x) (words_outside before) w in
        (append-nil (words_in l) ∙ ap words_in (sym h) ∙ p.0, (before, t, p.1))

pass : (l : List ℕ) (ls : List (List ℕ)) (n k : ℕ) (body : List (List ℕ)) → words_outside (l ∷ []) ≡ [] → After ls n k body → After (l ∷ ls) n k body
pass l ls n k body h a = (
  l ∷ a.0,
  ap (λ (x : List (List ℕ)). l ∷ x) a.1,
  ap (λ (x : List (List ℕ)). x ++ words_outside a.0) (sym (append-nil (words_in l)) ∙ h) ∙ a.2,
)

-- a byte within a line
module _ (b : ℕ) (bs : List ℕ) (unfed : is_feed b ≡ false) (n k : ℕ) (body : List (List ℕ)) where
  at_line : After (lines (b ∷ bs)) n k body → After ((b ∷ first (lines bs)) ∷ others (lines bs)) n k body
  at_line a = subst (λ (ls : List (List ℕ)). After ls n k body) (lines_passed b bs unfed) a

  to_line : After ((b ∷ first (lines bs)) ∷ others (lines bs)) n k body → After (lines (b ∷ bs)) n k body
  to_line a = subst (λ (ls : List (List ℕ)). After ls n k body) (sym (lines_passed b bs unfed)) a

  first_same : first (lines (b ∷ bs)) ≡ b ∷ first (lines bs)
  first_same = ap first (lines_passed b bs unfed)

  others_same : others (lines (b ∷ bs)) ≡ others (lines bs)
  others_same = ap others (lines_passed b bs unfed)

  start_gap : is_blank b ≡ true → Located at_start (b ∷ bs) n k body → Located in_gap bs n k body
  start_gap h a =
      let p = passed (b ∷ first (lines bs)) (others (lines bs)) n k body (λ e. blank_no_p b h e) (at_line a) in
      (sym (words_blank b (first (lines bs)) h) ∙ (outside_parts b (first (lines bs)) [] (blank_no_note b h) p.0).0, p.1)

  gap_start : is_blank b ≡ true → Located in_gap bs n k body → Located at_start (b ∷ bs) n k body
  gap_start h a =
      to_line (pass (b ∷ first (lines bs)) (others (lines bs)) n k body
      (append-nil (words_in (b ∷ first (lines bs))) ∙ cond-false (eqb b 99) [] (words (b ∷ first (lines bs))) (blank_no_note b h) ∙ words_blank b (first (lines bs)) h ∙ a.0) a.1)

  start_comment : eqb b 99 ≡ true → Located at_start (b ∷ bs) n k body → Located in_comment bs n k body
  start_comment h a = (passed (b ∷ first (lines bs)) (others (lines bs)) n k body (λ e. omega (arith, eqb-true b 99 h)) (at_line a)).1

  comment_start : eqb b 99 ≡ true → Located in_comment bs n k body → Located at_start (b ∷ bs) n k body
  comment_start h a =
      to_line (pass (b ∷ first (lines bs)) (others (lines bs)) n k body (append-nil (words_in (b ∷ first (lines bs))) ∙ cond-true (eqb b 99) [] (words (b ∷ first (lines bs))) h) a)

  start_other : is_blank b ≡ false → eqb b 99 ≡ false → (b ≡ 112 → ⊥) → Located at_start (b ∷ bs) n k body → ⊥
  start_other h c p a =
      let q = passed (b ∷ first (lines bs)) (others (lines bs)) n k body p (at_line a) in
      words_some b (first (lines bs)) h (outside_parts b (first (lines bs)) [] c q.0).0

  gap_gap : is_blank b ≡ true → Located in_gap (b ∷ bs) n k body → Located in_gap bs n k body
  gap_gap h a = (sym (words_blank b (first (lines bs)) h) ∙ ap words (sym first_same) ∙ a.0, subst (λ (ls : List (List ℕ)). After ls n k body) others_same a.1)

  gap_back : is_blank b ≡ true → Located in_gap bs n k body → Located in_gap (b ∷ bs) n k body
  gap_back h a = (ap words first_same ∙ words_blank b (first (lines bs)) h ∙ a.0, subst (λ (ls : List (List ℕ)). After ls n k body) (sym others_same) a.1)

  gap_other : is_blank b ≡ false → Located in_gap (b ∷ bs) n k body → ⊥
  gap_other h a = words_some b (first (lines bs)) h (ap words (sym first_same) ∙ a.0)

  comment_comment : Located in_comment (b ∷ bs) n k body → Located in_comment bs n k body
  comment_comment a = subst (λ (ls : List (List ℕ)). After ls n k body) others_same a

  comment_back : Located in_comment bs n k body → Located in_comment (b ∷ bs) n k body
  comment_back a = subst (λ (ls : List (List ℕ)). After ls n k body) (sym others_same) a

-- a line feed
feed_forth : (w : Place) (bs : List ℕ) (n k : ℕ) (body : List (List ℕ)) → Located w (10 ∷ bs) n k body → Located at_start bs n k body
feed_forth at_start bs n k body a = (passed [] (lines bs) n k body (λ e. omega arith) a).1
feed_forth in_gap bs n k body a = a.1
feed_forth in_comment bs n k body a = a

feed_back : (w : Place) (bs : List ℕ) (n k : ℕ) (body : List (List ℕ)) → Located at_start bs n k body → Located w (10 ∷ bs) n k body
feed_back at_start bs n k body a = pass [] (lines bs) n k body refl a
feed_back in_gap bs n k body a = (refl, a)
feed_back in_comment bs n k body a = a

-- no line is left for a body
few_lines : (ls : List (List ℕ)) (n k : ℕ) (body : List (List ℕ)) → length ls ≤ 1 → 0 < length body → After ls n k body → ⊥
few_lines ls n k body h b a = omega (arith, ap length a.1, length-append a.0 (header_line n k ∷ body))

end_none : (w : Place) (n k : ℕ) (body : List (List ℕ)) → 0 < length body → Located w [] n k body → ⊥
end_none at_start n k body b a = few_lines ([] ∷ []) n k body (omega arith) b a
end_none in_gap n k body b a = few_lines [] n k body (omega arith) b a.1
end_none in_comment n k body b a = few_lines [] n k body (omega arith) b a

-- a line that begins with `p` is the header
header_forth : (bs : List ℕ) (n k : ℕ) (body : List (List ℕ)) → 0 < length body → Located at_start (112 ∷ bs) n k body → (rest : List ℕ) × (112 ∷ bs ≡ header_line n k ++ 10 ∷ rest) × (lines rest ≡ body)
header_forth bs n k [] h a = absurd (omega arith)
header_forth bs n k (y ∷ ys) h a = by a.0 a.1 a.2
  where
    by : (before : List (List ℕ)) → lines (112 ∷ bs) ≡ before ++ header_line n k ∷ y ∷ ys → words_outside before ≡ [] → (rest : List ℕ) × (112 ∷ bs ≡ header_line n k ++ 10 ∷ rest) × (lines rest ≡ y ∷ ys)
    by [] e w = lines_cut (112 ∷ bs) (header_line n k) y ys e
    by (x ∷ before) e w =
        let t : (112 ∷ first (lines bs)) ∷ others (lines bs) ≡ x ∷ (before ++ header_line n k ∷ y ∷ ys) = sym (lines_passed 112 bs refl) ∙ e in
        let h : x ≡ 112 ∷ first (lines bs) = cc in
        let v : words_outside ((112 ∷ first (lines bs)) ∷ before) ≡ [] = subst (λ (l : List ℕ). words_outside (l ∷ before) ≡ []) h w in
        absurd (words_some 112 (first (lines bs)) refl (outside_parts 112 (first (lines bs)) before refl v).0)

header_back : (bs rest : List ℕ) (n k : ℕ) → n < 1_000_000_000 → k ≤ 1_000_000 → 112 ∷ bs ≡ header_line n k ++ 10 ∷ rest → Located at_start (112 ∷ bs) n k (lines rest)
header_back bs rest n k few some e = ([], ap lines e ∙ header_lines n k rest few some, refl)

-- ---- bytes by their class

abbrev is_p : Class → Bool
is_p Space = false
is_p OtherBlank = false
is_p LineFeed = false
is_p Minus = false
is_p (Digit d) = false
is_p C = false
is_p N = false
is_p F = false
is_p P = true
is_p Other = false

feed_of : (b : ℕ) → class_of b ≡ LineFeed → b ≡ 10
feed_of b h = grind (arith, nat_tests)

p_of : (b : ℕ) → class_of b ≡ P → b ≡ 112
p_of b h = grind (arith, nat_tests)

module _ (b : ℕ) (k : Class) (e : class_of b ≡ k) where
  unfed_class : feeds k ≡ false → is_feed b ≡ false
  unfed_class f = sym (feeds_is b) ∙ ap feeds e ∙ f

  blank_class : (t : Bool) → blanks k ≡ t → is_blank b ≡ t
  blank_class t f = sym (blanks_is b) ∙ ap blanks e ∙ f

  note_class : (t : Bool) → notes k ≡ t → eqb b 99 ≡ t
  note_class t f = sym (notes_is b) ∙ ap notes e ∙ f

  no_p_class : is_p k ≡ false → b ≡ 112 → ⊥
  no_p_class f q = true≢false (ap (λ (x : ℕ). is_p (class_of x)) (sym q) ∙ ap is_p e ∙ f)

-- the header is found and read, or there is none and the reader declines
pub data Found (w : Place) (list : List ℤ) (bs : List ℕ) (r : Reading) : Type 0 where
  finds : (n k at : ℕ) (rest : List ℕ) → Located w bs n k (lines rest) → n < 1_000_000_000 → k ≤ 1_000_000 → r ≡ read_on (machine n k LineStart 0 0 false) list at rest → Found w list bs r
  lacks : Refused r → ((n k : ℕ) (body : List (List ℕ)) → n < 1_000_000_000 → k ≤ 1_000_000 → 0 < length body → Located w bs n k body → ⊥) → Found w list bs r

found_move : {w v : Place} {list : List ℤ} {bs cs : List ℕ} {r t : Reading}
    → ((n k : ℕ) (body : List (List ℕ)) → Located v cs n k body → Located w bs n k body) → ((n k : ℕ) (body : List (List ℕ)) → Located w bs n k body → Located v cs n k body)
    → r ≡ t → Found v list cs t → Found w list bs r
found_move back forth e (finds n k at rest a few some u) = finds n k at rest (back n k (lines rest) a) few some (e ∙ u)
found_move back forth e (lacks f never) = lacks (f.0, ap (λ (x : Reading). x.answer) e ∙ f.1) (λ n k body few some h a. never n k body few some h (forth n k body a))

feed_goes : (w : Place) (at : ℕ) → step_of false (state_of w) LineFeed at ≡ go LineStart
feed_goes at_start at = refl
feed_goes in_gap at = refl
feed_goes in_comment at = refl

module _ (list : List ℤ) (b : ℕ) (bs : List ℕ) (at : ℕ) (later : (w : Place) → Found w list bs (read_on (early (state_of w)) list (at + 1) bs)) where
  by_class : (w : Place) (k : Class) (s : State) → class_of b ≡ k → step_of false (state_of w) k at ≡ go s → read_on (early (state_of w)) list at (b ∷ bs) ≡ read_on (early s) list (at + 1) bs
  by_class w k s e g = go_step (state_of w) list at s b bs (ap (λ (x : Class). step_of false (state_of w) x at) e ∙ g)

  feed_found : (w : Place) → class_of b ≡ LineFeed → Found w list (b ∷ bs) (read_on (early (state_of w)) list at (b ∷ bs))
  feed_found w e =
      found_move
      (λ n k body a. subst (λ (x : ℕ). Located w (x ∷ bs) n k body) (sym (feed_of b e)) (feed_back w bs n k body a))
      (λ n k body a. feed_forth w bs n k body (subst (λ (x : ℕ). Located w (x ∷ bs) n k body) (feed_of b e) a))
      (by_class w LineFeed LineStart e (feed_goes w at)) (later at_start)

  -- at a line's start
  start_blank : (k : Class) → class_of b ≡ k → feeds k ≡ false → blanks k ≡ true → step_of false LineStart k at ≡ go Gap → Found at_start list (b ∷ bs) (read_on (early LineStart) list at (b ∷ bs))
  start_blank k e f t g =
      let u = unfed_class b k e f in
      let v = blank_class b k e true t in
      found_move (λ n m body a. gap_start b bs u n m body v a) (λ n m body a. start_gap b bs u n m body v a) (by_class at_start k Gap e g) (later in_gap)

  start_stop : (k : Class) → class_of b ≡ k → feeds k ≡ false → blanks k ≡ false → notes k ≡ false → is_p k ≡ false → step_of false LineStart k at ≡ stop UnexpectedByte at
      → Found at_start list (b ∷ bs) (read_on (early LineStart) list at (b ∷ bs))
  start_stop k e f t c p g =
      lacks (stop_step LineStart list at b bs (UnexpectedByte, at, ap (λ (x : Class). step_of false LineStart x at) e ∙ g))
      (λ n m body few some h a. start_other b bs (unfed_class b k e f) n m body (blank_class b k e false t) (note_class b k e false c) (no_p_class b k e p) a)

  start_header : Headed list (112 ∷ []) bs (read_on (early (Keyword at 0)) list (at + 1) bs) → class_of b ≡ P → Found at_start list (b ∷ bs) (read_on (early LineStart) list at (b ∷ bs))
  start_header (heads n k there rest w few some u) e =
      finds n k there rest (subst (λ (x : ℕ). Located at_start (x ∷ bs) n k (lines rest)) (sym (p_of b e)) (header_back bs rest n k few some w)) few some (by_class at_start P (Keyword at 0) e refl ∙ u)
  start_header (misses f never) e =
      lacks (f.0, ap (λ (x : Reading). x.answer) (by_class at_start P (Keyword at 0) e refl) ∙ f.1)
      (λ n k body few some h a. let r = header_forth bs n k body h (subst (λ (x : ℕ). Located at_start (x ∷ bs) n k body) (p_of b e) a) in never n k r.0 few some r.1)

  start_found : (k : Class) → class_of b ≡ k → Found at_start list (b ∷ bs) (read_on (early LineStart) list at (b ∷ bs))
  start_found Space e = start_blank Space e refl refl refl
  start_found OtherBlank e = start_blank OtherBlank e refl refl refl
  start_found LineFeed e = feed_found at_start e
  start_found Minus e = start_stop Minus e refl refl refl refl refl
  start_found (Digit d) e = start_stop (Digit d) e refl refl refl refl refl
  start_found C e =
      let u = unfed_class b C e refl in
      let v = note_class b C e true refl in
      found_move (λ n m body a. comment_start b bs u n m body v a) (λ n m body a. start_comment b bs u n m body v a) (by_class at_start C Comment e refl) (later in_comment)
  start_found N e = start_stop N e refl refl refl refl refl
  start_found F e = start_stop F e refl refl refl refl refl
  start_found P e = start_header (header_decided list at bs (at + 1)) e
  start_found Other e = start_stop Other e refl refl refl refl refl

  -- in a gap
  gap_blank : (k : Class) → class_of b ≡ k → feeds k ≡ false → blanks k ≡ true → step_of false Gap k at ≡ go Gap → Found in_gap list (b ∷ bs) (read_on (early Gap) list at (b ∷ bs))
  gap_blank k e f t g =
      let u = unfed_class b k e f in
      let v = blank_class b k e true t in
      found_move (λ n m body a. gap_back b bs u n m body v a) (λ n m body a. gap_gap b bs u n m body v a) (by_class in_gap k Gap e g) (later in_gap)

  gap_stop : (k : Class) → class_of b ≡ k → feeds k ≡ false → blanks k ≡ false → step_of false Gap k at ≡ stop UnexpectedByte at → Found in_gap list (b ∷ bs) (read_on (early Gap) list at (b ∷ bs))
  gap_stop k e f t g =
      lacks (stop_step Gap list at b bs (UnexpectedByte, at, ap (λ (x : Class). step_of false Gap x at) e ∙ g))
      (λ n m body few some h a. gap_other b bs (unfed_class b k e f) n m body (blank_class b k e false t) a)

  gap_found : (k : Class) → class_of b ≡ k → Found in_gap list (b ∷ bs) (read_on (early Gap) list at (b ∷ bs))
  gap_found Space e = gap_blank Space e refl refl refl
  gap_found OtherBlank e = gap_blank OtherBlank e refl refl refl
  gap_found LineFeed e = feed_found in_gap e
  gap_found Minus e = gap_stop Minus e refl refl refl
  gap_found (Digit d) e = gap_stop (Digit d) e refl refl refl
  gap_found C e = gap_stop C e refl refl refl
  gap_found N e = gap_stop N e refl refl refl
  gap_found F e = gap_stop F e refl refl refl
  gap_found P e = gap_stop P e refl refl refl
  gap_found Other e = gap_stop Other e refl refl refl

  -- in a comment
  comment_goes : (k : Class) → class_of b ≡ k → feeds k ≡ false → step_of false Comment k at ≡ go Comment → Found in_comment list (b ∷ bs) (read_on (early Comment) list at (b ∷ bs))
  comment_goes k e f g =
      let u = unfed_class b k e f in
      found_move (λ n m body a. comment_back b bs u n m body a) (λ n m body a. comment_comment b bs u n m body a) (by_class in_comment k Comment e g) (later in_comment)

  comment_found : (k : Class) → class_of b ≡ k → Found in_comment list (b ∷ bs) (read_on (early Comment) list at (b ∷ bs))
  comment_found Space e = comment_goes Space e refl refl
  comment_found OtherBlank e = comment_goes OtherBlank e refl refl
  comment_found LineFeed e = feed_found in_comment e
  comment_found Minus e = comment_goes Minus e refl refl
  comment_found (Digit d) e = comment_goes (Digit d) e refl refl
  comment_found C e = comment_goes C e refl refl
  comment_found N e = comment_goes N e refl refl
  comment_found F e = comment_goes F e refl refl
  comment_found P e = comment_goes P e refl refl
  comment_found Other e = comment_goes Other e refl refl

  byte_found : (w : Place) → Found w list (b ∷ bs) (read_on (early (state_of w)) list at (b ∷ bs))
  byte_found at_start = start_found (class_of b) refl
  byte_found in_gap = gap_found (class_of b) refl
  byte_found in_comment = comment_found (class_of b) refl

end_stops : (w : Place) (list : List ℤ) (at : ℕ) → Refused (read_on (early (state_of w)) list at [])
end_stops at_start list at = stop_end LineStart list at (UnexpectedEnd, at, refl)
end_stops in_gap list at = stop_end Gap list at (UnexpectedEnd, at, refl)
end_stops in_comment list at = stop_end Comment list at (UnexpectedEnd, at, refl)

-- from any place before the header, the reader finds it just if it is there
pub header_found : (list : List ℤ) (bs : List ℕ) (w : Place) (at : ℕ) → Found w list bs (read_on (early (state_of w)) list at bs)
header_found list [] w at = lacks (end_stops w list at) (λ n k body few some h a. end_none w n k body h a)
header_found list (b ∷ bs) w at = byte_found list b bs at (λ v. header_found list bs v (at + 1)) w
