-- The words outside comments, found byte by byte.
use Rattle.std.proofs.Common.{◌≡◌, ℕ, Bool, true, false, cond, eqb, List, [], ◌∷◌, ◌++◌, sym, refl, ap, ◌∙◌, subst, append_assoc, append-nil, arith}
use Rattle.std.proofs.lemmas.Bool.{cond-true, cond-false, eqb-true}
use Rattle.std.proofs.lemmas.Bool.Decides.{nat_tests}
use Rattle.dimacs.specs.declared.Class.{Class}
use Rattle.dimacs.specs.declared.Class.TheVariants.{Space, OtherBlank, LineFeed, Minus, Digit, C, N, F, P, Other}
use Rattle.dimacs.specs.Bytes.{is_feed, is_blank, class_of}
use Rattle.dimacs.specs.File.{onto, split, nonempty, lines, words, words_outside}

-- the first piece and the others
abbrev pub first : List (List ℕ) → List ℕ
first [] = []
first (w ∷ ws) = w

abbrev pub others : List (List ℕ) → List (List ℕ)
others [] = []
others (w ∷ ws) = ws

abbrev pub feeds : Class → Bool
feeds Space = false
feeds OtherBlank = false
feeds LineFeed = true
feeds Minus = false
feeds (Digit d) = false
feeds C = false
feeds N = false
feeds F = false
feeds P = false
feeds Other = false

abbrev pub blanks : Class → Bool
blanks Space = true
blanks OtherBlank = true
blanks LineFeed = true
blanks Minus = false
blanks (Digit d) = false
blanks C = false
blanks N = false
blanks F = false
blanks P = false
blanks Other = false

abbrev pub notes : Class → Bool
notes Space = false
notes OtherBlank = false
notes LineFeed = false
notes Minus = false
notes (Digit d) = false
notes C = true
notes N = false
notes F = false
notes P = false
notes Other = false

pub feeds_is : (b : ℕ) → feeds (class_of b) ≡ is_feed b
feeds_is b = grind (arith, nat_tests)

pub blanks_is : (b : ℕ) → blanks (class_of b) ≡ is_blank b
blanks_is b = grind (arith, nat_tests)

pub notes_is : (b : ℕ) → notes (class_of b) ≡ eqb b 99
notes_is b = grind (arith, nat_tests)

-- what stands behind a byte: a line's start, a comment, or the word so far, which is empty in a gap
pub data Carry : Type 0 where
  fresh : Carry
  noted : Carry
  word : List ℕ → Carry

-- a word, unless it is empty
abbrev pub kept : List ℕ → List (List ℕ)
kept [] = []
kept (b ∷ w) = (b ∷ w) ∷ []

abbrev pub whole : Carry → List (List ℕ)
whole fresh = []
whole noted = []
whole (word w) = kept w

-- the words that a byte of this class ends
abbrev pub ends : Carry → Class → List (List ℕ)
ends fresh k = []
ends noted k = []
ends (word w) k = cond (blanks k) (kept w) []

abbrev pub turn : Carry → Class → ℕ → Carry
turn fresh k b = cond (feeds k) fresh (cond (blanks k) (word []) (cond (notes k) noted (word (b ∷ []))))
turn noted k b = cond (feeds k) fresh noted
turn (word w) k b = cond (feeds k) fresh (cond (blanks k) (word []) (word (w ++ b ∷ [])))

abbrev pub scan : Carry → List ℕ → List (List ℕ)
scan c [] = whole c
scan c (b ∷ bs) = ends c (class_of b) ++ scan (turn c (class_of b) b) bs

-- the words of a line that a word so far begins
abbrev pub words_after : List ℕ → List ℕ → List (List ℕ)
words_after w l = nonempty ((w ++ first (split is_blank l)) ∷ others (split is_blank l))

abbrev pub words_from : Carry → List ℕ → List (List ℕ)
words_from fresh bs = words_outside (lines bs)
words_from noted bs = words_outside (others (lines bs))
words_from (word w) bs = words_after w (first (lines bs)) ++ words_outside (others (lines bs))

pub onto_is : (b : ℕ) (ws : List (List ℕ)) → onto b ws ≡ (b ∷ first ws) ∷ others ws
onto_is b [] = refl
onto_is b (w ∷ ws) = refl

-- there is always a first piece
pub split_is : (p : ℕ → Bool) (bs : List ℕ) → split p bs ≡ first (split p bs) ∷ others (split p bs)
split_is p [] = refl
split_is p (b ∷ bs) = go (p b)
  where
    go : (t : Bool) → cond t ([] ∷ split p bs) (onto b (split p bs)) ≡ first (cond t ([] ∷ split p bs) (onto b (split p bs))) ∷ others (cond t ([] ∷ split p bs) (onto b (split p bs)))
    go true = refl
    go false = rw (onto_is b (split p bs))

pub split_picked : (p : ℕ → Bool) (b : ℕ) (bs : List ℕ) → p b ≡ true → split p (b ∷ bs) ≡ [] ∷ split p bs
split_picked p b bs h = cond-true (p b) _ _ h

pub split_passed : (p : ℕ → Bool) (b : ℕ) (bs : List ℕ) → p b ≡ false → split p (b ∷ bs) ≡ (b ∷ first (split p bs)) ∷ others (split p bs)
split_passed p b bs h = cond-false (p b) _ _ h ∙ onto_is b (split p bs)

kept_is : (w : List ℕ) → kept w ≡ nonempty ((w ++ []) ∷ [])
kept_is [] = refl
kept_is (b ∷ w) = ap (λ (v : List ℕ). (b ∷ v) ∷ []) (sym (append-nil w))

kept_more : (w : List ℕ) (ws : List (List ℕ)) → nonempty ((w ++ []) ∷ ws) ≡ kept w ++ nonempty ws
kept_more [] ws = refl
kept_more (b ∷ w) ws = ap (λ (v : List ℕ). (b ∷ v) ∷ nonempty ws) (append-nil w)

-- a blank ends the word so far
pub words_after_blank : (w l : List ℕ) (b : ℕ) → is_blank b ≡ true → words_after w (b ∷ l) ≡ kept w ++ words_after [] l
words_after_blank w l b h =
    ap (λ (ps : List (List ℕ)). nonempty ((w ++ first ps) ∷ others ps)) (split_picked is_blank b l h)
    ∙ kept_more w (split is_blank l)
    ∙ ap (λ (ps : List (List ℕ)). kept w ++ nonempty ps) (split_is is_blank l)

-- any other byte lengthens it
pub words_after_more : (w l : List ℕ) (b : ℕ) → is_blank b ≡ false → words_after w (b ∷ l) ≡ words_after (w ++ b ∷ []) l
words_after_more w l b h =
    ap (λ (ps : List (List ℕ)). nonempty ((w ++ first ps) ∷ others ps)) (split_passed is_blank b l h)
    ∙ ap (λ (v : List ℕ). nonempty (v ∷ others (split is_blank l))) (sym (append_assoc w (b ∷ []) (first (split is_blank l))))

-- the words of a line are those after an empty word
pub words_is : (l : List ℕ) → words l ≡ words_after [] l
words_is l = ap nonempty (split_is is_blank l)

pub lines_passed : (b : ℕ) (bs : List ℕ) → is_feed b ≡ false → lines (b ∷ bs) ≡ (b ∷ first (lines bs)) ∷ others (lines bs)
lines_passed b bs h = split_passed is_feed b bs h

feed_step : (c : Carry) (bs : List ℕ) → ends c LineFeed ++ words_from fresh bs ≡ words_from c (10 ∷ bs)
feed_step fresh bs = refl
feed_step noted bs = refl
feed_step (word w) bs = ap (λ (ws : List (List ℕ)). ws ++ words_outside (lines bs)) (kept_is w)

-- a line that is no comment, of whose bytes the first is b
line_step : (b : ℕ) (l : List ℕ) (ls : List (List ℕ)) → eqb b 99 ≡ false → words_after [] (b ∷ l) ++ words_outside ls ≡ words_outside ((b ∷ l) ∷ ls)
line_step b l ls h = ap (λ (ws : List (List ℕ)). ws ++ words_outside ls) (sym (words_is (b ∷ l)) ∙ sym (cond-false (eqb b 99) [] (words (b ∷ l)) h))

note_step : (b : ℕ) (l : List ℕ) (ls : List (List ℕ)) → eqb b 99 ≡ true → words_outside ls ≡ words_outside ((b ∷ l) ∷ ls)
note_step b l ls h = ap (λ (ws : List (List ℕ)). ws ++ words_outside ls) (sym (cond-true (eqb b 99) [] (words (b ∷ l)) h))

pub blank_no_note : (b : ℕ) → is_blank b ≡ true → eqb b 99 ≡ false
blank_no_note b h = grind (arith, nat_tests)

-- within a line
passed_step : (c : Carry) (b : ℕ) (bs : List ℕ) → is_feed b ≡ false → ends c (class_of b) ++ words_from (turn c (class_of b) b) bs ≡ words_from c (b ∷ bs)
passed_step fresh b bs f = blankness (is_blank b) refl (eqb b 99) refl
  where
    here : words_outside (lines (b ∷ bs)) ≡ words_outside ((b ∷ first (lines bs)) ∷ others (lines bs))
    here = ap words_outside (lines_passed b bs f)

    to : (t u : Bool) → is_blank b ≡ t → eqb b 99 ≡ u → turn fresh (class_of b) b ≡ cond t (word []) (cond u noted (word (b ∷ [])))
    to t u k e =
        cond-false (feeds (class_of b)) _ _ (feeds_is b ∙ f)
        ∙ ap (λ (x : Bool). cond x (word []) (cond (notes (class_of b)) noted (word (b ∷ [])))) (blanks_is b ∙ k)
        ∙ ap (λ (x : Bool). cond t (word []) (cond x noted (word (b ∷ [])))) (notes_is b ∙ e)

    blankness : (t : Bool) → is_blank b ≡ t → (u : Bool) → eqb b 99 ≡ u → words_from (turn fresh (class_of b) b) bs ≡ words_outside (lines (b ∷ bs))
    blankness true k u e =
        ap (λ (x : Carry). words_from x bs) (to true u k e)
        ∙ ap (λ (ws : List (List ℕ)). ws ++ words_outside (others (lines bs))) (sym (words_after_blank [] (first (lines bs)) b k))
        ∙ line_step b (first (lines bs)) (others (lines bs)) (blank_no_note b k)
        ∙ sym here
    blankness false k true e = ap (λ (x : Carry). words_from x bs) (to false true k e) ∙ note_step b (first (lines bs)) (others (lines bs)) e ∙ sym here
    blankness false k false e =
        ap (λ (x : Carry). words_from x bs) (to false false k e)
        ∙ ap (λ (ws : List (List ℕ)). ws ++ words_outside (others (lines bs))) (sym (words_after_more [] (first (lines bs)) b k))
        ∙ line_step b (first (lines bs)) (others (lines bs)) e
        ∙ sym here
passed_step noted b bs f =
    ap (λ (x : Carry). words_from x bs) (cond-false (feeds (class_of b)) fresh noted (feeds_is b ∙ f))
    ∙ ap (λ (ps : List (List ℕ)). words_outside (others ps)) (sym (lines_passed b bs f))
passed_step (word w) b bs f = blankness (is_blank b) refl
  where
    here : words_from (word w) (b ∷ bs) ≡ words_after w (b ∷ first (lines bs)) ++ words_outside (others (lines bs))
    here = ap (λ (ps : List (List ℕ)). words_after w (first ps) ++ words_outside (others ps)) (lines_passed b bs f)

    to : (t : Bool) → is_blank b ≡ t → turn (word w) (class_of b) b ≡ cond t (word []) (word (w ++ b ∷ []))
    to t k = cond-false (feeds (class_of b)) _ _ (feeds_is b ∙ f) ∙ ap (λ (x : Bool). cond x (word []) (word (w ++ b ∷ []))) (blanks_is b ∙ k)

    ended : (t : Bool) → is_blank b ≡ t → ends (word w) (class_of b) ≡ cond t (kept w) []
    ended t k = ap (λ (x : Bool). cond x (kept w) []) (blanks_is b ∙ k)

    blankness : (t : Bool) → is_blank b ≡ t → ends (word w) (class_of b) ++ words_from (turn (word w) (class_of b) b) bs ≡ words_from (word w) (b ∷ bs)
    blankness true k =
        ap (λ (x : Carry). ends (word w) (class_of b) ++ words_from x bs) (to true k)
        ∙ ap (λ (ws : List (List ℕ)). ws ++ words_from (word []) bs) (ended true k)
        ∙ sym (append_assoc (kept w) (words_after [] (first (lines bs))) (words_outside (others (lines bs))))
        ∙ ap (λ (ws : List (List ℕ)). ws ++ words_outside (others (lines bs))) (sym (words_after_blank w (first (lines bs)) b k))
        ∙ sym here
    blankness false k =
        ap (λ (x : Carry). ends (word w) (class_of b) ++ words_from x bs) (to false k)
        ∙ ap (λ (ws : List (List ℕ)). ws ++ words_from (word (w ++ b ∷ [])) bs) (ended false k)
        ∙ ap (λ (ws : List (List ℕ)). ws ++ words_outside (others (lines bs))) (sym (words_after_more w (first (lines bs)) b k))
        ∙ sym here

step_is : (c : Carry) (b : ℕ) (bs : List ℕ) → ends c (class_of b) ++ words_from (turn c (class_of b) b) bs ≡ words_from c (b ∷ bs)
step_is c b bs = feedness (is_feed b) refl
  where
    feed : (d : ℕ) → d ≡ 10 → ends c (class_of d) ++ words_from (turn c (class_of d) d) bs ≡ words_from c (d ∷ bs)
    feed d e = subst (λ (x : ℕ). ends c (class_of x) ++ words_from (turn c (class_of x) x) bs ≡ words_from c (x ∷ bs)) (sym e) (at_ten c)
      where
        at_ten : (x : Carry) → ends x LineFeed ++ words_from (turn x LineFeed 10) bs ≡ words_from x (10 ∷ bs)
        at_ten fresh = feed_step fresh bs
        at_ten noted = feed_step noted bs
        at_ten (word w) = feed_step (word w) bs

    feedness : (t : Bool) → is_feed b ≡ t → ends c (class_of b) ++ words_from (turn c (class_of b) b) bs ≡ words_from c (b ∷ bs)
    feedness true f = feed b (eqb-true b 10 f)
    feedness false f = passed_step c b bs f

whole_is : (c : Carry) → whole c ≡ words_from c []
whole_is fresh = refl
whole_is noted = refl
whole_is (word w) = kept_is w ∙ sym (append-nil (nonempty ((w ++ []) ∷ [])))

-- scanning a text finds its words outside comments
pub scan_is : (bs : List ℕ) (c : Carry) → scan c bs ≡ words_from c bs
scan_is [] c = whole_is c
scan_is (b ∷ bs) c = ap (λ (ws : List (List ℕ)). ends c (class_of b) ++ ws) (scan_is bs (turn c (class_of b) b)) ∙ step_is c b bs

pub no_feed : (k : Class) → blanks k ≡ false → feeds k ≡ false
no_feed Space h = refl
no_feed OtherBlank h = refl
no_feed LineFeed h = h
no_feed Minus h = refl
no_feed (Digit d) h = refl
no_feed C h = refl
no_feed N h = refl
no_feed F h = refl
no_feed P h = refl
no_feed Other h = refl

-- a word so far begins the first word found
pub scan_begins : (bs : List ℕ) (a : ℕ) (w : List ℕ) → (more : List ℕ) × (rest : List (List ℕ)) × (scan (word (a ∷ w)) bs ≡ ((a ∷ w) ++ more) ∷ rest)
scan_begins [] a w = ([], [], ap (λ (v : List ℕ). (a ∷ v) ∷ []) (sym (append-nil w)))
scan_begins (b ∷ bs) a w = by (blanks (class_of b)) refl (scan_begins bs a (w ++ b ∷ []))
  where
    by : (t : Bool) → blanks (class_of b) ≡ t
        → ((more : List ℕ) × (rest : List (List ℕ)) × (scan (word (a ∷ (w ++ b ∷ []))) bs ≡ ((a ∷ (w ++ b ∷ [])) ++ more) ∷ rest))
        → (more : List ℕ) × (rest : List (List ℕ)) × (scan (word (a ∷ w)) (b ∷ bs) ≡ ((a ∷ w) ++ more) ∷ rest)
    by true k ih = (
      [],
      scan (turn (word (a ∷ w)) (class_of b) b) bs,
      ap (λ (t : Bool). cond t ((a ∷ w) ∷ []) [] ++ scan (turn (word (a ∷ w)) (class_of b) b) bs) k
          ∙ ap (λ (v : List ℕ). (a ∷ v) ∷ scan (turn (word (a ∷ w)) (class_of b) b) bs) (sym (append-nil w)),
    )
    by false k ih = (
      b ∷ ih.0,
      ih.1,
      ap (λ (t : Bool). cond t ((a ∷ w) ∷ []) [] ++ scan (cond (feeds (class_of b)) fresh (cond t (word []) (word (a ∷ (w ++ b ∷ []))))) bs) k
          ∙ ap (λ (t : Bool). scan (cond t fresh (word (a ∷ (w ++ b ∷ [])))) bs) (no_feed (class_of b) k)
          ∙ ih.2
          ∙ ap (λ (v : List ℕ). (a ∷ v) ∷ ih.1) (append_assoc w (b ∷ []) ih.0),
    )
