-- Which bits stand once one is set, or once the needed words are cleared.
use Rattle.std.proofs.Common.{◌≡◌, ℕ, ◌+◌, ◌-◌, ◌*◌, ◌/◌, ◌%◌, ◌^◌, ◌<◌, ◌≤◌, max, Bool, true, false, cond, ◌&&◌, ◌||◌, eqb, ◌≢◌, List, length, get_or, drop, replicate, sym, refl, ap, ◌∙◌, subst, ⊎_elim, arith, length-set, get_or-set_other, get_or-set_same}
use native.Mathlib.Nat.{div-eq_of_lt, zero-div}
use lib.Bits.{bit_or, or_step}
use Rattle.std.proofs.lemmas.Bool.{cases_order, cases_eq, eq-eqb, ne_eqb}
use Rattle.std.proofs.lemmas.Bool.Decides.{nat_tests}
use Rattle.std.proofs.lemmas.Nat.{or_shr, pow_below, pow-add, shl-shr}
use Rattle.std.proofs.lemmas.List.{length-append, length-drop, length-replicate, get_or_append_left, get_or-replicate, drop-set-lt}
use Rattle.network_theory.specs.Layout.{row_words, words_needed, bit, word_at, stands, with_bit, with_conflict, cleared}
use Rattle.network_theory.proofs.Places.{column_within, word_at_needed, word_at_within, same_word_at}

or_low : (a b : ℕ) → bit_or a b % 2 ≡ max (a % 2) (b % 2)
or_low a b = omega (arith, or_step a b)

or_bit : (x y k : ℕ) → bit_or x y / 2 ^ k % 2 ≡ max (x / 2 ^ k % 2) (y / 2 ^ k % 2)
or_bit x y k = ap (λ z. z % 2) (or_shr x y k) ∙ or_low (x / 2 ^ k) (y / 2 ^ k)

pow_same : (k : ℕ) → 2 ^ k / 2 ^ k ≡ 1
pow_same k = let e = shl-shr 1 k in let f : 1 * 2 ^ k ≡ 2 ^ k = omega arith in simp f at e

pow_less : (j k : ℕ) → j < k → 2 ^ j / 2 ^ k % 2 ≡ 0
pow_less j k h = ap (λ z. z % 2) (div-eq_of_lt (pow_below j k h))

pow_more : (d k : ℕ) → 2 ^ ((d + 1) + k) / 2 ^ k % 2 ≡ 0
pow_more d k =
    let e : 2 ^ ((d + 1) + k) ≡ 2 ^ (d + 1) * 2 ^ k = pow-add 2 (d + 1) k in
    let f : 2 ^ ((d + 1) + k) / 2 ^ k ≡ 2 ^ (d + 1) = ap (λ z. z / 2 ^ k) e ∙ shl-shr (2 ^ (d + 1)) k in
    let g : 2 ^ (d + 1) ≡ 2 ^ d * 2 = pow-add 2 d 1 in
    omega (arith, f, g)

pow_greater : (j k : ℕ) → k < j → 2 ^ j / 2 ^ k % 2 ≡ 0
pow_greater j k h =
    let e : ((j - k - 1) + 1) + k ≡ j = omega arith in
    subst (λ z. 2 ^ z / 2 ^ k % 2 ≡ 0) e (pow_more (j - k - 1) k)

-- 2 ^ j has the bit j and no other
pub pow_bit : (j k : ℕ) → 2 ^ j / 2 ^ k % 2 ≡ cond (eqb j k) 1 0
pow_bit j k =
    ⊎_elim
    (λ e. subst (λ z. 2 ^ j / 2 ^ z % 2 ≡ cond (eqb j z) 1 0) e (ap (λ z. z % 2) (pow_same j) ∙ sym (ap (λ b. cond b 1 0) (eq-eqb j j refl))))
    (⊎_elim (λ h. pow_less j k h ∙ sym (ap (λ b. cond b 1 0) (ne_eqb j k (λ e. omega arith))))
    (λ h. pow_greater j k h ∙ sym (ap (λ b. cond b 1 0) (ne_eqb j k (λ e. omega arith)))))
    (cases_order j k)

pub or_sets : (x j k : ℕ) → bit (bit_or x (2 ^ j)) k ≡ (bit x k || eqb j k)
or_sets x j k = let e = or_bit x (2 ^ j) k in let f = pow_bit j k in grind (arith, nat_tests)

or_none : (b : Bool) → (b || false) ≡ b
or_none true = refl
or_none false = refl

differ : (n u w u' w' : ℕ) → (word_at n u w ≡ word_at n u' w' → ⊥) → (eqb u u' && eqb w w') ≡ false
differ n u w u' w' ne =
    ⊎_elim
    (λ p. ⊎_elim (λ q. absurd (ne (cc))) (λ nq. let e = ne_eqb w w' nq in grind (arith, nat_tests)) (cases_eq w w'))
    (λ np. let e = ne_eqb u u' np in grind (arith, nat_tests)) (cases_eq u u')

-- one bit set: that one stands, and the others as before
pub stands_with_bit : (n : ℕ) (ws : List ℕ) (u w x y : ℕ) → w / 64 < row_words n → y / 64 < row_words n → word_at n u w < length ws
    → stands n (with_bit n ws u w) x y ≡ (stands n ws x y || (eqb u x && eqb w y))
stands_with_bit n ws u w x y h h' len =
    ⊎_elim
    (λ e.
    let s = same_word_at n u w x y h h' e in
    let g : get_or (with_bit n ws u w) (word_at n x y) 0 ≡ bit_or (get_or ws (word_at n x y) 0) (2 ^ (w % 64)) =
    subst (λ z. get_or (with_bit n ws u w) z 0 ≡ bit_or (get_or ws z 0) (2 ^ (w % 64))) e (get_or-set_same ws (word_at n u w) _ 0 len) in
    ap (λ z. bit z (y % 64)) g ∙ or_sets (get_or ws (word_at n x y) 0) (w % 64) (y % 64)
    ∙ ap (λ b. stands n ws x y || b)
    (let p = s.0 in let q = s.1 in let hyp : eqb (w % 64) (y % 64) ≡ (eqb u x && eqb w y) = grind (arith, nat_tests) in hyp))
    (λ ne.
    let ne' : word_at n x y ≢ word_at n u w = λ e. ne (sym e) in
    let no : (eqb u x && eqb w y) ≡ false = differ n u w x y ne in
    ap (λ z. bit z (y % 64)) (get_or-set_other ws (word_at n u w) (word_at n x y) _ 0 ne')
    ∙ sym (ap (λ b. stands n ws x y || b) no ∙ or_none (stands n ws x y)))
    (cases_eq (word_at n u w) (word_at n x y))

-- a conflict put in: it stands both ways, and the others as before
pub stands_with_conflict : (n : ℕ) (ws : List ℕ) (u w : ℕ) → words_needed n ≤ length ws → u < 2 * n → w < 2 * n
    → (x y : ℕ) → y / 64 < row_words n
    → stands n (with_conflict n ws u w) x y ≡ ((stands n ws x y || (eqb u x && eqb w y)) || (eqb w x && eqb u y))
stands_with_conflict n ws u w room hu hw x y hy =
    let len : length (with_bit n ws u w) ≡ length ws = simp length-set in
    stands_with_bit n (with_bit n ws u w) w u x y (column_within n u hu) hy (word_at_within n (with_bit n ws u w) w u (omega arith) hw hu)
    ∙ ap (λ z. z || (eqb w x && eqb u y)) (stands_with_bit n ws u w x y (column_within n w hw) hy (word_at_within n ws u w room hu hw))

pub length_with_conflict : (n : ℕ) (ws : List ℕ) (u w : ℕ) → length (with_conflict n ws u w) ≡ length ws
length_with_conflict n ws u w = simp length-set

-- cleared: none stands
pub stands_cleared : (n : ℕ) (ws : List ℕ) (u w : ℕ) → u < 2 * n → w / 64 < row_words n → stands n (cleared n ws) u w ≡ false
stands_cleared n ws u w hu hw =
    let lt : word_at n u w < words_needed n = word_at_needed n u w hu hw in
    let z : get_or (cleared n ws) (word_at n u w) 0 ≡ 0 =
    get_or_append_left (replicate (words_needed n) 0) (drop (words_needed n) ws) 0 (word_at n u w) (simp length-replicate lt)
    ∙ get_or-replicate (words_needed n) (word_at n u w) 0 0 lt in
    ap (λ x. bit x (w % 64)) z ∙ ap (λ x. eqb (x % 2) 1) (zero-div (2 ^ (w % 64)))

pub length_cleared : (n : ℕ) (ws : List ℕ) → words_needed n ≤ length ws → length (cleared n ws) ≡ length ws
length_cleared n ws h = simp (length-append, length-replicate, length-drop) (omega arith)

-- past the needed words nothing changes
pub rest_with_conflict : (n : ℕ) (ws : List ℕ) (u w : ℕ) → u < 2 * n → w < 2 * n
    → drop (words_needed n) (with_conflict n ws u w) ≡ drop (words_needed n) ws
rest_with_conflict n ws u w hu hw =
    drop-set-lt (words_needed n) (with_bit n ws u w) (word_at n w u) _ (word_at_needed n w u hw (column_within n u hu))
    ∙ drop-set-lt (words_needed n) ws (word_at n u w) _ (word_at_needed n u w hu (column_within n w hw))
