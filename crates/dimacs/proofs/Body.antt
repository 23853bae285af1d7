-- Past the header the reader decides whether the words to come are the numbers of whole clauses.
use Rattle.std.proofs.Common.{◌≡◌, ℕ, suc, ◌+◌, ◌<◌, ◌≤◌, Bool, true, false, cond, eqb, ltb, List, [], ◌∷◌, ◌++◌, map, length, ℤ, nat_abs, sym, refl, ap, ◌∙◌, subst, append_assoc, append-nil, arith}
use Rattle.std.proofs.lemmas.Bool.{true≢false, ltb-true, ltb-false, eqb-true, eqb-false, and_from}
use Rattle.std.proofs.lemmas.Bool.Decides.{nat_tests}
use Rattle.fault.specs.declared.Refusal.TheVariants.{UnexpectedByte}
use Rattle.std.specs.Char.{is_ascii_digit}
use Rattle.std.specs.Fmt.{signed_decimal}
use Rattle.dimacs.specs.declared.Class.{Class}
use Rattle.dimacs.specs.declared.Class.TheVariants.{Space, OtherBlank, LineFeed, Minus, Digit, C, N, F, P, Other}
use Rattle.dimacs.specs.declared.Machine.{Machine}
use Rattle.dimacs.specs.declared.State.{State}
use Rattle.dimacs.specs.declared.State.TheVariants.{LineStart, Gap, Comment, Keyword, Variables, BeforeClauses, Clauses, Sign, Zero, Number}
use Rattle.dimacs.specs.Bytes.{class_of}
use Rattle.dimacs.specs.Clauses.{exceeds}
use Rattle.dimacs.specs.Steps.{Step, go, stop, step_of, end_of, on_gap, on_comment, on_sign, on_zero, on_number, grown}
use Rattle.dimacs.specs.Reading.{Reading, read_on, applied, listed_by, closed_by}
use Rattle.dimacs.proofs.Scan.{Carry, fresh, noted, word, kept, whole, ends, turn, scan, scan_begins}
use Rattle.dimacs.proofs.Spelling.{Led, Form, Sized, exact, Spelled, sign_on, form_at, no_first, no_minus, no_minus_more, no_nought_more, no_later, class_digit, digit_of, digit_bounds, led_push, sized_push, spelled_zero, spelled_sized}
use Rattle.dimacs.proofs.Numbered.{machine, Decided, Fits, within_first, stepped, closed_decided, ended_is}

-- what the reader's state says of the bytes behind it
abbrev pub Stands : State → Carry → Type 0
Stands LineStart c = c ≡ fresh
Stands Gap c = c ≡ word []
Stands Comment c = c ≡ noted
Stands (Keyword from matched) c = ⊥
Stands (Variables from value) c = ⊥
Stands (BeforeClauses from variables) c = ⊥
Stands (Clauses from variables value) c = ⊥
Stands (Sign from) c = c ≡ word (45 ∷ [])
Stands (Zero from) c = c ≡ word (48 ∷ [])
Stands (Number from negative size) c = (ds : List ℕ) × (c ≡ word (sign_on negative ds)) × Led ds × Sized ds size

abbrev is_digit : Class → Bool
is_digit Space = false
is_digit OtherBlank = false
is_digit LineFeed = false
is_digit Minus = false
is_digit (Digit d) = true
is_digit C = false
is_digit N = false
is_digit F = false
is_digit P = false
is_digit Other = false

abbrev is_minus : Class → Bool
is_minus Space = false
is_minus OtherBlank = false
is_minus LineFeed = false
is_minus Minus = true
is_minus (Digit d) = false
is_minus C = false
is_minus N = false
is_minus F = false
is_minus P = false
is_minus Other = false

pub no_digit : (b : ℕ) (k : Class) → class_of b ≡ k → is_digit k ≡ false → is_ascii_digit b ≡ true → ⊥
no_digit b k e f d = true≢false (sym (ap is_digit (class_digit b d)) ∙ ap is_digit e ∙ f)

not_minus : (b : ℕ) (k : Class) → class_of b ≡ k → is_minus k ≡ false → b ≡ 45 → ⊥
not_minus b k e f d = true≢false (ap (λ (x : ℕ). is_minus (class_of x)) (sym d) ∙ ap is_minus e ∙ f)

minus_of : (b : ℕ) → class_of b ≡ Minus → b ≡ 45
minus_of b h = grind (arith, nat_tests)

-- the first word is no number's
no_word : (w : List ℕ) (ws : List (List ℕ)) → ((size : ℕ) → Form w size → ⊥) → (n : ℕ) (zs : List ℤ) → n < 1_000_000_000 → exceeds n zs ≡ false → w ∷ ws ≡ map signed_decimal zs → ⊥
no_word w ws bad n [] few within e = let h : ◌≡◌ {A = ℕ} (suc (length ws)) 0 = ap length e in omega arith
no_word w ws bad n (z ∷ zs) few within e =
    let same : w ≡ signed_decimal z = cc in
    bad (nat_abs z) (form_at z w (omega (arith, (within_first n z zs within).0)) same)

-- whatever the word so far grows to is no number's
hopeless : (a : ℕ) (w bs : List ℕ) → ((size : ℕ) (more : List ℕ) → Form ((a ∷ w) ++ more) size → ⊥)
    → (n : ℕ) (zs : List ℤ) → n < 1_000_000_000 → exceeds n zs ≡ false → scan (word (a ∷ w)) bs ≡ map signed_decimal zs → ⊥
hopeless a w bs bad n zs few within e =
    let s = scan_begins bs a w in
    no_word ((a ∷ w) ++ s.0) s.1 (λ size f. bad size s.0 f) n zs few within (sym s.2 ∙ e)

one_digit : (b d : ℕ) → class_of b ≡ Digit d → 0 < d → Led (b ∷ []) × Sized (b ∷ []) d
one_digit b d e h =
    let p = digit_of b d e in
    let r = digit_bounds b p.0 in
    (record { digits = and_from _ _ p.0 refl; some = omega arith; leads = omega (arith, p.1) }, exact (omega (arith, p.1)) (omega (arith, p.1, r.1)))

-- a byte that begins a word
digit_start : (b d at : ℕ) (ws : List (List ℕ)) → class_of b ≡ Digit d → Fits (λ s. Stands s (word (b ∷ []))) [] ws (cond (eqb d 0) (go (Zero at)) (go (Number at false d)))
digit_start b d at ws e = by (eqb d 0) refl
  where
    by : (t : Bool) → eqb d 0 ≡ t → Fits (λ s. Stands s (word (b ∷ []))) [] ws (cond t (go (Zero at)) (go (Number at false d)))
    by true q =
        let p = digit_of b d e in
        let r = digit_bounds b p.0 in
        let same : b ≡ 48 = omega (arith, p.1, r.0, eqb-true d 0 q) in
        (ap (λ (x : ℕ). word (x ∷ [])) same, refl)
    by false q =
        let some : d ≡ 0 → ⊥ = eqb-false d 0 q in
        let o = one_digit b d e (omega arith) in
        ((b ∷ [], refl, o.0, o.1), refl)

bad_start : (b : ℕ) (k : Class) (bs : List ℕ) → class_of b ≡ k → is_digit k ≡ false → is_minus k ≡ false
    → (n : ℕ) (zs : List ℤ) → n < 1_000_000_000 → exceeds n zs ≡ false → scan (word (b ∷ [])) bs ≡ map signed_decimal zs → ⊥
bad_start b k bs e d m = hopeless b [] bs (λ size more f. no_first b more (not_minus b k e m) (no_digit b k e d) f)

fresh_fits : (k : Class) (b at : ℕ) (bs : List ℕ) → class_of b ≡ k → Fits (λ s. Stands s (turn fresh k b)) [] (scan (turn fresh k b) bs) (on_gap true true at k)
fresh_fits Space b at bs e = (refl, refl)
fresh_fits OtherBlank b at bs e = (refl, refl)
fresh_fits LineFeed b at bs e = (refl, refl)
fresh_fits Minus b at bs e = (ap (λ (x : ℕ). word (x ∷ [])) (minus_of b e), refl)
fresh_fits (Digit d) b at bs e = digit_start b d at (scan (word (b ∷ [])) bs) e
fresh_fits C b at bs e = (refl, refl)
fresh_fits N b at bs e = bad_start b N bs e refl refl
fresh_fits F b at bs e = bad_start b F bs e refl refl
fresh_fits P b at bs e = bad_start b P bs e refl refl
fresh_fits Other b at bs e = bad_start b Other bs e refl refl

gap_fits : (k : Class) (b at : ℕ) (bs : List ℕ) → class_of b ≡ k → Fits (λ s. Stands s (turn (word []) k b)) (ends (word []) k) (scan (turn (word []) k b) bs) (on_gap false true at k)
gap_fits Space b at bs e = (refl, refl)
gap_fits OtherBlank b at bs e = (refl, refl)
gap_fits LineFeed b at bs e = (refl, refl)
gap_fits Minus b at bs e = (ap (λ (x : ℕ). word (x ∷ [])) (minus_of b e), refl)
gap_fits (Digit d) b at bs e = digit_start b d at (scan (word (b ∷ [])) bs) e
gap_fits C b at bs e = bad_start b C bs e refl refl
gap_fits N b at bs e = bad_start b N bs e refl refl
gap_fits F b at bs e = bad_start b F bs e refl refl
gap_fits P b at bs e = bad_start b P bs e refl refl
gap_fits Other b at bs e = bad_start b Other bs e refl refl

comment_fits : (k : Class) (b : ℕ) (bs : List ℕ) → Fits (λ s. Stands s (turn noted k b)) [] (scan (turn noted k b) bs) (on_comment k)
comment_fits Space b bs = (refl, refl)
comment_fits OtherBlank b bs = (refl, refl)
comment_fits LineFeed b bs = (refl, refl)
comment_fits Minus b bs = (refl, refl)
comment_fits (Digit d) b bs = (refl, refl)
comment_fits C b bs = (refl, refl)
comment_fits N b bs = (refl, refl)
comment_fits F b bs = (refl, refl)
comment_fits P b bs = (refl, refl)
comment_fits Other b bs = (refl, refl)

lone_minus : (ws : List (List ℕ)) → (n : ℕ) (zs : List ℤ) → n < 1_000_000_000 → exceeds n zs ≡ false → (45 ∷ []) ∷ ws ≡ map signed_decimal zs → ⊥
lone_minus ws = no_word (45 ∷ []) ws (λ size f. no_minus f)

bad_after_minus : (b : ℕ) (bs : List ℕ) → (is_ascii_digit b ≡ true → 48 < b → ⊥)
    → (n : ℕ) (zs : List ℤ) → n < 1_000_000_000 → exceeds n zs ≡ false → scan (word (45 ∷ b ∷ [])) bs ≡ map signed_decimal zs → ⊥
bad_after_minus b bs d = hopeless 45 (b ∷ []) bs (λ size more f. no_minus_more b more d f)

sign_fits : (k : Class) (b from at : ℕ) (bs : List ℕ) → class_of b ≡ k
    → Fits (λ s. Stands s (turn (word (45 ∷ [])) k b)) (ends (word (45 ∷ [])) k) (scan (turn (word (45 ∷ [])) k b) bs) (on_sign from at k)
sign_fits Space b from at bs e = lone_minus (scan (word []) bs)
sign_fits OtherBlank b from at bs e = lone_minus (scan (word []) bs)
sign_fits LineFeed b from at bs e = lone_minus (scan fresh bs)
sign_fits Minus b from at bs e = bad_after_minus b bs (λ d h. no_digit b Minus e refl d)
sign_fits (Digit d) b from at bs e = by (ltb 0 d) refl
  where
    by : (t : Bool) → ltb 0 d ≡ t → Fits (λ s. Stands s (word (45 ∷ b ∷ []))) [] (scan (word (45 ∷ b ∷ [])) bs) (cond t (go (Number from true d)) (stop UnexpectedByte at))
    by true q = let o = one_digit b d e (ltb-true 0 d q) in ((b ∷ [], refl, o.0, o.1), refl)
    by false q = bad_after_minus b bs (λ a h. omega (arith, ltb-false 0 d q, (digit_of b d e).1))
sign_fits C b from at bs e = bad_after_minus b bs (λ d h. no_digit b C e refl d)
sign_fits N b from at bs e = bad_after_minus b bs (λ d h. no_digit b N e refl d)
sign_fits F b from at bs e = bad_after_minus b bs (λ d h. no_digit b F e refl d)
sign_fits P b from at bs e = bad_after_minus b bs (λ d h. no_digit b P e refl d)
sign_fits Other b from at bs e = bad_after_minus b bs (λ d h. no_digit b Other e refl d)

bad_after_nought : (b : ℕ) (bs : List ℕ) → (n : ℕ) (zs : List ℤ) → n < 1_000_000_000 → exceeds n zs ≡ false → scan (word (48 ∷ b ∷ [])) bs ≡ map signed_decimal zs → ⊥
bad_after_nought b bs = hopeless 48 (b ∷ []) bs (λ size more f. no_nought_more b more f)

zero_fits : (k : Class) (b from at : ℕ) (bs : List ℕ)
    → Fits (λ s. Stands s (turn (word (48 ∷ [])) k b)) (ends (word (48 ∷ [])) k) (scan (turn (word (48 ∷ [])) k b) bs) (on_zero from at k)
zero_fits Space b from at bs = (refl, (48 ∷ [], refl, spelled_zero))
zero_fits OtherBlank b from at bs = (refl, (48 ∷ [], refl, spelled_zero))
zero_fits LineFeed b from at bs = (refl, (48 ∷ [], refl, spelled_zero))
zero_fits Minus b from at bs = bad_after_nought b bs
zero_fits (Digit d) b from at bs = bad_after_nought b bs
zero_fits C b from at bs = bad_after_nought b bs
zero_fits N b from at bs = bad_after_nought b bs
zero_fits F b from at bs = bad_after_nought b bs
zero_fits P b from at bs = bad_after_nought b bs
zero_fits Other b from at bs = bad_after_nought b bs

-- a number's word is not empty
sign_some : (negative : Bool) (ds : List ℕ) → Led ds → (a : ℕ) × (w : List ℕ) × (sign_on negative ds ≡ a ∷ w)
sign_some true ds l = (45, ds, refl)
sign_some false [] l = absurd (omega (arith, l.some))
sign_some false (a ∷ ds) l = (a, ds, refl)

sign_push : (negative : Bool) (ds : List ℕ) (b : ℕ) → sign_on negative ds ++ b ∷ [] ≡ sign_on negative (ds ++ b ∷ [])
sign_push true ds b = refl
sign_push false ds b = refl

number_kept : (negative : Bool) (ds : List ℕ) → Led ds → kept (sign_on negative ds) ≡ sign_on negative ds ∷ []
number_kept true ds l = refl
number_kept false [] l = absurd (omega (arith, l.some))
number_kept false (a ∷ ds) l = refl

bad_after_number : (negative : Bool) (ds : List ℕ) (b : ℕ) (bs : List ℕ) → Led ds → (is_ascii_digit b ≡ true → ⊥)
    → (n : ℕ) (zs : List ℤ) → n < 1_000_000_000 → exceeds n zs ≡ false → scan (word (sign_on negative ds ++ b ∷ [])) bs ≡ map signed_decimal zs → ⊥
bad_after_number negative ds b bs l d n zs few within e =
    let s = sign_some negative ds l in
    hopeless s.0 (s.1 ++ b ∷ []) bs
    (λ size more f. no_later s.0 s.1 b more d (subst (λ (x : List ℕ). Form (s.0 ∷ x) size) (append_assoc s.1 (b ∷ []) more) f))
    n zs few within (subst (λ (x : List ℕ). scan (word (x ++ b ∷ [])) bs ≡ map signed_decimal zs) s.2 e)

module _ (negative : Bool) (ds : List ℕ) (size : ℕ) (l : Led ds) (z : Sized ds size) (from at b : ℕ) (bs : List ℕ) where
  number_ends : (w : List ℕ) × (kept (sign_on negative ds) ≡ w ∷ []) × Spelled w negative size
  number_ends = (sign_on negative ds, number_kept negative ds l, spelled_sized negative ds size l z)

  number_fits : (k : Class) → class_of b ≡ k
      → Fits (λ s. Stands s (turn (word (sign_on negative ds)) k b)) (ends (word (sign_on negative ds)) k) (scan (turn (word (sign_on negative ds)) k b) bs) (on_number from negative size at k)
  number_fits Space e = (refl, number_ends)
  number_fits OtherBlank e = (refl, number_ends)
  number_fits LineFeed e = (refl, number_ends)
  number_fits Minus e = bad_after_number negative ds b bs l (no_digit b Minus e refl)
  number_fits (Digit d) e =
      let p = digit_of b d e in
      ((ds ++ b ∷ [], ap word (sign_push negative ds b), led_push ds b l p.0, subst (λ (x : ℕ). Sized (ds ++ b ∷ []) (grown size x)) (sym p.1) (sized_push ds size b p.0 z)), refl)
  number_fits C e = bad_after_number negative ds b bs l (no_digit b C e refl)
  number_fits N e = bad_after_number negative ds b bs l (no_digit b N e refl)
  number_fits F e = bad_after_number negative ds b bs l (no_digit b F e refl)
  number_fits P e = bad_after_number negative ds b bs l (no_digit b P e refl)
  number_fits Other e = bad_after_number negative ds b bs l (no_digit b Other e refl)

-- each step of the reader fits what the byte ends and begins
step_fits : (s : State) (c : Carry) (b at : ℕ) (bs : List ℕ) → Stands s c
    → Fits (λ t. Stands t (turn c (class_of b) b)) (ends c (class_of b)) (scan (turn c (class_of b) b) bs) (step_of true s (class_of b) at)
step_fits LineStart c b at bs h =
    subst (λ (x : Carry). Fits (λ t. Stands t (turn x (class_of b) b)) (ends x (class_of b)) (scan (turn x (class_of b) b) bs) (on_gap true true at (class_of b))) (sym h) (fresh_fits (class_of b) b at bs refl)
step_fits Gap c b at bs h =
    subst (λ (x : Carry). Fits (λ t. Stands t (turn x (class_of b) b)) (ends x (class_of b)) (scan (turn x (class_of b) b) bs) (on_gap false true at (class_of b))) (sym h) (gap_fits (class_of b) b at bs refl)
step_fits Comment c b at bs h =
    subst (λ (x : Carry). Fits (λ t. Stands t (turn x (class_of b) b)) (ends x (class_of b)) (scan (turn x (class_of b) b) bs) (on_comment (class_of b))) (sym h) (comment_fits (class_of b) b bs)
step_fits (Keyword from matched) c b at bs h = absurd h
step_fits (Variables from value) c b at bs h = absurd h
step_fits (BeforeClauses from variables) c b at bs h = absurd h
step_fits (Clauses from variables value) c b at bs h = absurd h
step_fits (Sign from) c b at bs h =
    subst (λ (x : Carry). Fits (λ t. Stands t (turn x (class_of b) b)) (ends x (class_of b)) (scan (turn x (class_of b) b) bs) (on_sign from at (class_of b))) (sym h) (sign_fits (class_of b) b from at bs refl)
step_fits (Zero from) c b at bs h =
    subst (λ (x : Carry). Fits (λ t. Stands t (turn x (class_of b) b)) (ends x (class_of b)) (scan (turn x (class_of b) b) bs) (on_zero from at (class_of b))) (sym h) (zero_fits (class_of b) b from at bs)
step_fits (Number from negative size) c b at bs h =
    subst (λ (x : Carry). Fits (λ t. Stands t (turn x (class_of b) b)) (ends x (class_of b)) (scan (turn x (class_of b) b) bs) (on_number from negative size at (class_of b))) (sym h.1)
    (number_fits negative h.0 size h.2 h.3 from at b bs (class_of b) refl)

end_fits : (s : State) (c : Carry) (at : ℕ) → Stands s c → Fits (λ t. Unit {0}) (whole c) [] (end_of true s at)
end_fits LineStart c at h = (tt, ap whole h)
end_fits Gap c at h = (tt, ap whole h)
end_fits Comment c at h = (tt, ap whole h)
end_fits (Keyword from matched) c at h = absurd h
end_fits (Variables from value) c at h = absurd h
end_fits (BeforeClauses from variables) c at h = absurd h
end_fits (Clauses from variables value) c at h = absurd h
end_fits (Sign from) c at h = λ n zs few within e. lone_minus [] n zs few within (ap (λ (x : Carry). whole x ++ []) (sym h) ∙ e)
end_fits (Zero from) c at h = (tt, (48 ∷ [], ap whole h, spelled_zero))
end_fits (Number from negative size) c at h =
    (tt, (sign_on negative h.0, ap whole h.1 ∙ number_kept negative h.0 h.2, spelled_sized negative h.0 size h.2 h.3))

-- from any place past the header, the reader accepts just the words of whole clauses
pub body_decided : (n k : ℕ) → n < 1_000_000_000 → (bs : List ℕ) (s : State) (c : Carry) (listed closed : ℕ) (inside : Bool) (list : List ℤ) (at : ℕ)
    → listed ≤ length list → Stands s c → Decided n k listed closed inside list (scan c bs) (read_on (machine n k s listed closed inside) list at bs)
body_decided n k few [] s c listed closed inside list at h stands =
    let m : Machine = machine n k s listed closed inside in
    let t : Step = end_of true s at in
    subst (λ (x : List (List ℕ)). Decided n k listed closed inside list x (read_on m list at [])) (append-nil (whole c))
    (subst (λ (r : Reading). Decided n k listed closed inside list (whole c ++ []) r) (sym (ended_is (applied m t (length list)) (listed_by m t list) at))
    (stepped n k few listed closed inside list [] (λ x. Unit {0}) (λ lst x. record { answer = closed_by x.header x at; list = lst })
    (λ x l d i lst q u. closed_decided n k l d i lst x at q) s (whole c) t h (end_fits s c at stands)))
body_decided n k few (b ∷ bs) s c listed closed inside list at h stands =
    stepped n k few listed closed inside list (scan (turn c (class_of b) b) bs) (λ x. Stands x (turn c (class_of b) b)) (λ lst x. read_on x lst (at + 1) bs)
    (λ x l d i lst q u. body_decided n k few bs x (turn c (class_of b) b) l d i lst (at + 1) q u) s (ends c (class_of b)) (step_of true s (class_of b) at) h (step_fits s c b at bs stands)
