-- The words that numbers are written as.
use Rattle.std.proofs.Common.{◌≡◌, ℕ, zero, suc, ◌+◌, ◌-◌, ◌*◌, ◌^◌, ◌<◌, ◌≤◌, Bool, true, false, cond, ltb, List, [], ◌∷◌, ◌++◌, length, get_or, ℤ, pos, negsuc, neg_ℤ, nat_abs, decimal, sym, refl, ap, ◌∙◌, subst, arith, length-append, rules}
use lib.Signed.{mag}
use Rattle.std.proofs.lemmas.Bool.{cond-false, ltb-true, ltb-false, le-ltb, and_parts, and_from}
use Rattle.std.proofs.lemmas.Bool.Decides.{nat_tests}
use Rattle.std.proofs.lemmas.Str.Parse.{IsNumeralModel, numerals_by_fold}
use Rattle.std.proofs.lemmas.Fmt.{digits_decimal, digits_value-decimal, decimal_digit, decimal_nonempty, first_decimal, decimal-digits_value, signed_decimal_injective}
use Rattle.std.specs.Str.{all_ascii_digits}
use Rattle.std.specs.Char.{is_ascii_digit}
use Rattle.std.specs.Fmt.{signed_decimal}
use Rattle.dimacs.specs.declared.Class.TheVariants.{Digit}
use Rattle.dimacs.specs.Bytes.{class_of}
use Rattle.dimacs.specs.Reading.{literal_of}
use Rattle.dimacs.specs.Steps.{grown}

-- the number that digits write, after one so far
abbrev pub value_on : ℕ → List ℕ → ℕ
value_on n [] = n
value_on n (c ∷ cs) = value_on (10 * n + (c - 48)) cs

pub own : IsNumeralModel (λ ds. all_ascii_digits ds ≡ true) (value_on 0)
own = numerals_by_fold _ (search rules) value_on (search rules)

pub value_grows : (n : ℕ) (ds : List ℕ) → n ≤ value_on n ds
value_grows n [] = omega arith
value_grows n (c ∷ cs) = omega (arith, value_grows (10 * n + (c - 48)) cs)

pub value_append : (n : ℕ) (ds es : List ℕ) → value_on n (ds ++ es) ≡ value_on (value_on n ds) es
value_append n [] es = refl
value_append n (c ∷ cs) es = value_append (10 * n + (c - 48)) cs es

pub class_digit : (c : ℕ) → is_ascii_digit c ≡ true → class_of c ≡ Digit (c - 48)
class_digit c h = grind (arith, nat_tests)

pub digit_of : (c d : ℕ) → class_of c ≡ Digit d → (is_ascii_digit c ≡ true) × (d ≡ c - 48)
digit_of c d h = grind (arith, nat_tests)

pub digits_append : (ds es : List ℕ) → all_ascii_digits ds ≡ true → all_ascii_digits es ≡ true → all_ascii_digits (ds ++ es) ≡ true
digits_append [] es p q = q
digits_append (c ∷ cs) es p q = and_from _ _ (and_parts (is_ascii_digit c) (all_ascii_digits cs) p).0 (digits_append cs es (and_parts (is_ascii_digit c) (all_ascii_digits cs) p).1 q)

pub digits_rest : (ds es : List ℕ) → all_ascii_digits (ds ++ es) ≡ true → all_ascii_digits es ≡ true
digits_rest [] es p = p
digits_rest (c ∷ cs) es p = digits_rest cs es (and_parts (is_ascii_digit c) (all_ascii_digits (cs ++ es)) p).1

pub digit_bounds : (c : ℕ) → is_ascii_digit c ≡ true → (48 ≤ c) × (c ≤ 57)
digit_bounds c h = grind (arith, nat_tests)

-- digits, at least one, of which the first is not 0
pub record Led (ds : List ℕ) : Type 0 where
  pub digits : all_ascii_digits ds ≡ true
  pub some : 0 < length ds
  pub leads : 48 < get_or ds 0 0

pub led_decimal : (n : ℕ) → 0 < n → n < 2 ^ 64 → Led (decimal n)
led_decimal n p h = record { digits = digits_decimal own n h; some = decimal_nonempty n h; leads = first_decimal n p h }

pub decimal_led : (ds : List ℕ) → Led ds → value_on 0 ds < 2 ^ 64 → decimal (value_on 0 ds) ≡ ds
decimal_led ds l h = decimal-digits_value own ds l.digits l.some (λ e. absurd (omega (arith, l.leads))) h

pub led_push : (ds : List ℕ) (c : ℕ) → Led ds → is_ascii_digit c ≡ true → Led (ds ++ c ∷ [])
led_push [] c l h = absurd (omega (arith, l.some))
led_push (a ∷ ds) c l h = record { digits = digits_append (a ∷ ds) (c ∷ []) l.digits (and_from _ _ h refl); some = omega arith; leads = l.leads }

-- the forms of a number's word: `0`, digits that 0 does not lead, or a minus and such digits
pub data Form (w : List ℕ) (size : ℕ) : Type 0 where
  nought : w ≡ 48 ∷ [] → Form w size
  plain : Led w → value_on 0 w ≡ size → Form w size
  minus : (ds : List ℕ) → w ≡ 45 ∷ ds → Led ds → value_on 0 ds ≡ size → Form w size

pub form : (z : ℤ) → nat_abs z < 1_000_000_000 → Form (signed_decimal z) (nat_abs z)
form (pos zero) h = nought (decimal_digit 0 (omega arith))
form (pos (suc n)) h =
    let small : suc n < 2 ^ 64 = omega arith in
    plain (led_decimal (suc n) (omega arith) small) (digits_value-decimal own (suc n) small)
form (negsuc n) h =
    let small : suc n < 2 ^ 64 = omega arith in
    minus (decimal (suc n)) refl (led_decimal (suc n) (omega arith) small) (digits_value-decimal own (suc n) small)

pub form_at : (z : ℤ) (w : List ℕ) → nat_abs z < 1_000_000_000 → w ≡ signed_decimal z → Form w (nat_abs z)
form_at z w h e = subst (λ (v : List ℕ). Form v (nat_abs z)) (sym e) (form z h)

-- words that are no number's
pub no_first : {size : ℕ} (b : ℕ) (w : List ℕ) → (b ≡ 45 → ⊥) → (is_ascii_digit b ≡ true → ⊥) → Form (b ∷ w) size → ⊥
no_first b w m d (nought e) = let h : b ≡ 48 = cc in d (subst (λ (x : ℕ). is_ascii_digit x ≡ true) (sym h) refl)
no_first b w m d (plain l v) = d (and_parts (is_ascii_digit b) (all_ascii_digits w) l.digits).0
no_first b w m d (minus ds e l v) = let h : b ≡ 45 = cc in m h

pub no_minus : {size : ℕ} → Form (45 ∷ []) size → ⊥
no_minus (nought e) = let z : ◌≡◌ {A = ℕ} 45 48 = cc in omega arith
no_minus (plain l v) = omega (arith, l.leads)
no_minus (minus ds e l v) = let h : ds ≡ [] = cc in omega (arith, l.some, ap length h)

pub no_minus_more : {size : ℕ} (b : ℕ) (w : List ℕ) → (is_ascii_digit b ≡ true → 48 < b → ⊥) → Form (45 ∷ b ∷ w) size → ⊥
no_minus_more b w d (nought e) = let z : ◌≡◌ {A = ℕ} 45 48 = cc in omega arith
no_minus_more b w d (plain l v) = omega (arith, l.leads)
no_minus_more b w d (minus ds e l v) =
    let h : ds ≡ b ∷ w = cc in
    let k : Led (b ∷ w) = subst Led h l in
    d (and_parts (is_ascii_digit b) (all_ascii_digits w) k.digits).0 k.leads

pub no_nought_more : {size : ℕ} (b : ℕ) (w : List ℕ) → Form (48 ∷ b ∷ w) size → ⊥
no_nought_more b w (nought e) = omega (arith, ap length e)
no_nought_more b w (plain l v) = omega (arith, l.leads)
no_nought_more b w (minus ds e l v) = let z : ◌≡◌ {A = ℕ} 45 48 = cc in omega arith

pub no_later : {size : ℕ} (a : ℕ) (w : List ℕ) (b : ℕ) (more : List ℕ) → (is_ascii_digit b ≡ true → ⊥) → Form (a ∷ (w ++ b ∷ more)) size → ⊥
no_later a w b more d (nought e) = let h : length (w ++ b ∷ more) ≡ 0 = omega (arith, ap length e) in omega (arith, length-append w (b ∷ more))
no_later a w b more d (plain l v) =
    let h = (and_parts (is_ascii_digit a) (all_ascii_digits (w ++ b ∷ more)) l.digits).1 in
    d (and_parts (is_ascii_digit b) (all_ascii_digits more) (digits_rest w (b ∷ more) h)).0
no_later a w b more d (minus ds e l v) =
    let h : ds ≡ w ++ b ∷ more = cc in
    let k : all_ascii_digits (w ++ b ∷ more) ≡ true = subst (λ (x : List ℕ). all_ascii_digits x ≡ true) h l.digits in
    d (and_parts (is_ascii_digit b) (all_ascii_digits more) (digits_rest w (b ∷ more) k)).0

-- digits with a minus before them or not
abbrev pub sign_on : Bool → List ℕ → List ℕ
sign_on true ds = 45 ∷ ds
sign_on false ds = ds

pub form_value : {size : ℕ} (negative : Bool) (ds : List ℕ) → Led ds → Form (sign_on negative ds) size → value_on 0 ds ≡ size
form_value true ds k (nought e) = let z : ◌≡◌ {A = ℕ} 45 48 = cc in absurd (omega arith)
form_value true ds k (plain l v) = absurd (omega (arith, l.leads))
form_value true ds k (minus es e l v) = let h : ds ≡ es = cc in ap (value_on 0) h ∙ v
form_value false ds k (nought e) = absurd (omega (arith, k.leads, ap (λ (x : List ℕ). get_or x 0 0) e))
form_value false ds k (plain l v) = v
form_value false ds k (minus es e l v) = absurd (omega (arith, k.leads, ap (λ (x : List ℕ). get_or x 0 0) e))

pub led_value : (ds : List ℕ) → Led ds → 0 < value_on 0 ds
led_value [] l = absurd (omega (arith, l.some))
led_value (c ∷ cs) l = omega (arith, l.leads, value_grows (10 * 0 + (c - 48)) cs)

pub written : (negative : Bool) (ds : List ℕ) → Led ds → value_on 0 ds < 1_000_000_000 → sign_on negative ds ≡ signed_decimal (literal_of negative (value_on 0 ds))
written false ds l h = sym (decimal_led ds l (omega arith))
written true ds l h = at (value_on 0 ds) refl
  where
    at : (v : ℕ) → value_on 0 ds ≡ v → 45 ∷ ds ≡ signed_decimal (neg_ℤ (pos v))
    at zero e = absurd (omega (arith, led_value ds l))
    at (suc n) e = ap (λ (x : List ℕ). 45 ∷ x) (sym (decimal_led ds l (omega arith)) ∙ ap decimal e)

-- a size that is the digits' number, or its cap
pub data Sized (ds : List ℕ) (size : ℕ) : Type 0 where
  exact : value_on 0 ds ≡ size → size < 1_000_000_000 → Sized ds size
  over : size ≡ 1_000_000_000 → 1_000_000_000 ≤ value_on 0 ds → Sized ds size

pub sized_push : (ds : List ℕ) (size c : ℕ) → is_ascii_digit c ≡ true → Sized ds size → Sized (ds ++ c ∷ []) (grown size (c - 48))
sized_push ds size c d (exact e h) = by (ltb size 100_000_000) refl
  where
    more : value_on 0 (ds ++ c ∷ []) ≡ 10 * size + (c - 48)
    more = value_append 0 ds (c ∷ []) ∙ ap (λ (v : ℕ). 10 * v + (c - 48)) e

    by : (t : Bool) → ltb size 100_000_000 ≡ t → Sized (ds ++ c ∷ []) (cond t (10 * size + (c - 48)) 1_000_000_000)
    by true q = exact more (omega (arith, (digit_bounds c d).1, ltb-true size 100_000_000 q))
    by false q = over refl (omega (arith, more, ltb-false size 100_000_000 q))
sized_push ds size c d (over e h) =
    let q : ltb size 100_000_000 ≡ false = le-ltb size 100_000_000 (omega arith) in
    let more = value_append 0 ds (c ∷ []) in
    over (cond-false (ltb size 100_000_000) (10 * size + (c - 48)) 1_000_000_000 q) (omega (arith, more))

-- what a word says of the size that the reader has at its end
pub record Spelled (w : List ℕ) (negative : Bool) (size : ℕ) : Type 0 where
  pub same : size < 1_000_000_000 → w ≡ signed_decimal (literal_of negative size)
  pub never : 1_000_000_000 ≤ size → (z : ℤ) → nat_abs z < 1_000_000_000 → w ≡ signed_decimal z → ⊥

pub spelled_zero : Spelled (48 ∷ []) false 0
spelled_zero = record { same = λ h. sym (decimal_digit 0 (omega arith)); never = λ h z k e. omega arith }

pub spelled_sized : (negative : Bool) (ds : List ℕ) (size : ℕ) → Led ds → Sized ds size → Spelled (sign_on negative ds) negative size
spelled_sized negative ds size l (exact e h) =
    record { same = λ k. subst (λ (v : ℕ). sign_on negative ds ≡ signed_decimal (literal_of negative v)) e (written negative ds l (omega arith)); never = λ k z s q. omega arith }
spelled_sized negative ds size l (over e h) =
    record { same = λ k. absurd (omega arith); never = λ k z s q. omega (arith, form_value negative ds l (form_at z (sign_on negative ds) s q)) }

pub variable_literal : (negative : Bool) (size : ℕ) → nat_abs (literal_of negative size) ≡ size
variable_literal false size = refl
variable_literal true zero = refl
variable_literal true (suc n) = refl

mag_small : (z : ℤ) → nat_abs z < 1_000_000_000 → mag z < 2 ^ 63
mag_small (pos n) h = omega arith
mag_small (negsuc n) h = omega arith

pub same_signed : (y z : ℤ) → nat_abs y < 1_000_000_000 → nat_abs z < 1_000_000_000 → signed_decimal y ≡ signed_decimal z → y ≡ z
same_signed y z p q e = signed_decimal_injective y z (mag_small y p) (mag_small z q) e
