use Rattle.std.proofs.Common.{◌≡◌, ℕ, zero, suc, ◌+◌, ◌-◌, ◌*◌, ◌/◌, ◌%◌, ◌^◌, ◌<◌, ◌≤◌, min, max, true, false, cond, not, ◌&&◌, ◌||◌, eqb, leb, sym, refl, ap, ◌∙◌, subst, ⊎_elim, mul_assoc, one-add, arith}
use native.Mathlib.Nat.{div-eq_of_lt}
use lib.Bits.{bit_and, bit_or, bit_xor, differ, and_step, or_step, xor_step}
use lib.Count.{count_trailing_zeros, under}
use Rattle.std.proofs.lemmas.Bool.{eq-eqb, ne_eqb, cases_lt, le-leb, lt-leb, cases_order}
use Rattle.std.proofs.lemmas.Bool.Decides.{nat_tests}
use Rattle.std.proofs.lemmas.Nat.{and_shr, or_shr, xor_shr, pow_below, shr-shr, pow-add, shl-shr}
use Rattle.network_theory.specs.Layout.{bit}

and_low : (a b : ℕ) → bit_and a b % 2 ≡ min (a % 2) (b % 2)
and_low a b = omega (arith, and_step a b)

pub and_bit : (x y k : ℕ) → bit (bit_and x y) k ≡ (bit x k && bit y k)
and_bit x y k =
    let e : bit_and x y / 2 ^ k % 2 ≡ min (x / 2 ^ k % 2) (y / 2 ^ k % 2) = ap (λ z. z % 2) (and_shr x y k) ∙ and_low (x / 2 ^ k) (y / 2 ^ k) in
    grind (arith, nat_tests)

pub half : (n j : ℕ) → n / 2 ^ suc j ≡ n / 2 / 2 ^ j
half n j = ap (λ z. n / 2 ^ z) (sym (one-add j)) ∙ sym (shr-shr n 1 j)

below_go : (k n j d : ℕ) → d ≡ n % 2 → ((i : ℕ) → i < count_trailing_zeros k (n / 2) → n / 2 / 2 ^ i % 2 ≡ 0) → j < under d (count_trailing_zeros k (n / 2)) → n / 2 ^ j % 2 ≡ 0
below_go k n zero zero e ih h = omega arith
below_go k n (suc j) zero e ih h = ap (λ z. z % 2) (half n j) ∙ ih j (omega arith)
below_go k n j (suc d) e ih h = absurd (omega arith)

trailing_below : (k n j : ℕ) → j < count_trailing_zeros k n → n / 2 ^ j % 2 ≡ 0
unfolding count_trailing_zeros
trailing_below zero n j h = absurd (omega arith)
trailing_below (suc k) n j h = below_go k n j (n % 2) refl (λ i. trailing_below k (n / 2) i) h

at_go : (k n d : ℕ) → d ≡ n % 2 → (count_trailing_zeros k (n / 2) < k → n / 2 / 2 ^ count_trailing_zeros k (n / 2) % 2 ≡ 1) → under d (count_trailing_zeros k (n / 2)) < suc k → n / 2 ^ under d (count_trailing_zeros k (n / 2)) % 2 ≡ 1
at_go k n zero e ih h = ap (λ z. z % 2) (half n (count_trailing_zeros k (n / 2))) ∙ ih (omega arith)
at_go k n (suc d) e ih h = omega arith

trailing_at : (k n : ℕ) → count_trailing_zeros k n < k → n / 2 ^ count_trailing_zeros k n % 2 ≡ 1
unfolding count_trailing_zeros
trailing_at zero n h = absurd (omega arith)
trailing_at (suc k) n h = at_go k n (n % 2) refl (trailing_at k (n / 2)) h

lt_go : (k n d : ℕ) → d ≡ n % 2 → (0 < n / 2 → count_trailing_zeros k (n / 2) < k) → 0 < n → under d (count_trailing_zeros k (n / 2)) < suc k
lt_go k n zero e ih h = let p = ih (omega arith) in omega arith
lt_go k n (suc d) e ih h = omega arith

trailing_lt : (k n : ℕ) → 0 < n → n < 2 ^ k → count_trailing_zeros k n < k
unfolding count_trailing_zeros
trailing_lt zero n p h = absurd (omega arith)
trailing_lt (suc k) n p h =
    let e : 2 ^ suc k ≡ 2 * 2 ^ k = ap (λ z. 2 ^ z) (sym (one-add k)) ∙ pow-add 2 1 k in
    lt_go k n (n % 2) refl (λ q. trailing_lt k (n / 2) q (omega arith)) p

pub lowest_in : (x : ℕ) → 0 < x → x < 2 ^ 64 → count_trailing_zeros 64 x < 64
lowest_in x p h = trailing_lt 64 x p h

pub lowest_here : (x : ℕ) → 0 < x → x < 2 ^ 64 → bit x (count_trailing_zeros 64 x) ≡ true
lowest_here x p h = eq-eqb _ 1 (trailing_at 64 x (trailing_lt 64 x p h))

pub lowest_before : (x j : ℕ) → j < count_trailing_zeros 64 x → bit x j ≡ false
lowest_before x j h = let e = trailing_below 64 x j h in ne_eqb _ 1 (λ f. omega arith)

-- the k lowest bits away
split : (j k : ℕ) → j ≤ k → (k - j) + j ≡ k
split j k h = omega arith

pub high_bit : (x k j : ℕ) → bit (x / 2 ^ k * 2 ^ k) j ≡ (leb k j && bit x j)
high_bit x k j =
    ⊎_elim (λ h.
    -- j < k: the quotient is even
    let e : 2 ^ k ≡ 2 ^ (k - j - 1) * 2 * 2 ^ j =
    ap (λ z. 2 ^ z) (let q : k ≡ (k - j - 1 + 1) + j = omega arith in q) ∙ pow-add 2 (k - j - 1 + 1) j ∙ ap (λ z. z * 2 ^ j) (pow-add 2 (k - j - 1) 1) in
    let f : x / 2 ^ k * 2 ^ k ≡ (x / 2 ^ k * 2 ^ (k - j - 1) * 2) * 2 ^ j =
    ap (λ z. x / 2 ^ k * z) e ∙ sym (mul_assoc (x / 2 ^ k) (2 ^ (k - j - 1) * 2) (2 ^ j)) ∙ ap (λ z. z * 2 ^ j) (sym (mul_assoc (x / 2 ^ k) (2 ^ (k - j - 1)) 2)) in
    let g : x / 2 ^ k * 2 ^ k / 2 ^ j ≡ x / 2 ^ k * 2 ^ (k - j - 1) * 2 = ap (λ z. z / 2 ^ j) f ∙ shl-shr _ j in
    let l = lt-leb k j h in
    let z : x / 2 ^ k * 2 ^ k / 2 ^ j % 2 ≡ 0 = omega (arith, g) in
    ne_eqb _ 1 (λ q. omega (arith, q, z)) ∙ ap (λ b. b && bit x j) (sym l))
    (λ h.
    let s : k + (j - k) ≡ j = omega arith in
    let l = le-leb k j h in
    let e : x / 2 ^ k * 2 ^ k / 2 ^ j ≡ x / 2 ^ j =
    ap (λ z. x / 2 ^ k * 2 ^ k / 2 ^ z) (sym s) ∙ sym (shr-shr (x / 2 ^ k * 2 ^ k) k (j - k)) ∙ ap (λ z. z / 2 ^ (j - k)) (shl-shr (x / 2 ^ k) k)
    ∙ shr-shr x k (j - k) ∙ ap (λ z. x / 2 ^ z) s in
    ap (λ z. eqb (z % 2) 1) e ∙ ap (λ b. b && bit x j) (sym l))
    (cases_lt j k)

-- ---- a bit set, and bits taken away

or_low : (a b : ℕ) → bit_or a b % 2 ≡ max (a % 2) (b % 2)
or_low a b = omega (arith, or_step a b)

or_bit : (x y k : ℕ) → bit_or x y / 2 ^ k % 2 ≡ max (x / 2 ^ k % 2) (y / 2 ^ k % 2)
or_bit x y k = ap (λ z. z % 2) (or_shr x y k) ∙ or_low (x / 2 ^ k) (y / 2 ^ k)

pow_same : (k : ℕ) → 2 ^ k / 2 ^ k ≡ 1
pow_same k = let e = shl-shr 1 k in let f : 1 * 2 ^ k ≡ 2 ^ k = omega arith in simp f at e

pow_less : (j k : ℕ) → j < k → 2 ^ j / 2 ^ k % 2 ≡ 0
pow_less j k h = ap (λ z. z % 2) (div-eq_of_lt (pow_below j k h))

pow_more : (d k : ℕ) → 2 ^ ((d + 1) + k) / 2 ^ k % 2 ≡ 0
pow_more d k =
    let e : 2 ^ ((d + 1) + k) ≡ 2 ^ (d + 1) * 2 ^ k = pow-add 2 (d + 1) k in
    let f : 2 ^ ((d + 1) + k) / 2 ^ k ≡ 2 ^ (d + 1) = ap (λ z. z / 2 ^ k) e ∙ shl-shr (2 ^ (d + 1)) k in
    let g : 2 ^ (d + 1) ≡ 2 ^ d * 2 = pow-add 2 d 1 in
    omega (arith, f, g)

pow_greater : (j k : ℕ) → k < j → 2 ^ j / 2 ^ k % 2 ≡ 0
pow_greater j k h =
    let e : ((j - k - 1) + 1) + k ≡ j = omega arith in
    subst (λ z. 2 ^ z / 2 ^ k % 2 ≡ 0) e (pow_more (j - k - 1) k)

pow_bit : (j k : ℕ) → 2 ^ j / 2 ^ k % 2 ≡ cond (eqb j k) 1 0
pow_bit j k =
    ⊎_elim (λ e. subst (λ z. 2 ^ j / 2 ^ z % 2 ≡ cond (eqb j z) 1 0) e (ap (λ z. z % 2) (pow_same j) ∙ sym (ap (λ b. cond b 1 0) (eq-eqb j j refl))))
    (⊎_elim (λ h. pow_less j k h ∙ sym (ap (λ b. cond b 1 0) (ne_eqb j k (λ e. omega arith))))
    (λ h. pow_greater j k h ∙ sym (ap (λ b. cond b 1 0) (ne_eqb j k (λ e. omega arith))))) (cases_order j k)

pub put_bit : (x j k : ℕ) → bit (bit_or x (2 ^ j)) k ≡ (bit x k || eqb j k)
put_bit x j k =
    let e = or_bit x (2 ^ j) k in let f = pow_bit j k in
    grind (arith, nat_tests)

xor_digit : (x y : ℕ) → x < 2 → y < 2 → eqb (differ x (min x y)) 1 ≡ (eqb x 1 && not (eqb y 1))
xor_digit zero zero h g = refl
xor_digit zero (suc zero) h g = refl
xor_digit zero (suc (suc y)) h g = absurd (omega arith)
xor_digit (suc zero) zero h g = refl
xor_digit (suc zero) (suc zero) h g = refl
xor_digit (suc zero) (suc (suc y)) h g = absurd (omega arith)
xor_digit (suc (suc x)) y h g = absurd (omega arith)

differ_lt : (x y : ℕ) → x < 2 → y < 2 → differ x (min x y) < 2
differ_lt zero y h g = omega arith
differ_lt (suc zero) zero h g = omega arith
differ_lt (suc zero) (suc zero) h g = omega arith
differ_lt (suc zero) (suc (suc y)) h g = absurd (omega arith)
differ_lt (suc (suc x)) y h g = absurd (omega arith)

less_low : (a b : ℕ) → bit_xor a (bit_and a b) % 2 ≡ differ (a % 2) (min (a % 2) (b % 2))
less_low a b =
    let e : bit_xor a (bit_and a b) ≡ bit_xor (a / 2) (bit_and a b / 2) * 2 + differ (a % 2) (min (a % 2) (b % 2)) =
    xor_step a (bit_and a b) ∙ ap (λ z. bit_xor (a / 2) (bit_and a b / 2) * 2 + differ (a % 2) z) (and_low a b) in
    let l = differ_lt (a % 2) (b % 2) (omega arith) (omega arith) in
    omega (arith, e, l)

pub less_bit : (x m k : ℕ) → bit (bit_xor x (bit_and x m)) k ≡ (bit x k && not (bit m k))
less_bit x m k =
    ap (λ z. eqb (z % 2) 1) (xor_shr x (bit_and x m) k ∙ ap (λ z. bit_xor (x / 2 ^ k) z) (and_shr x m k))
    ∙ ap (λ z. eqb z 1) (less_low (x / 2 ^ k) (m / 2 ^ k)) ∙ xor_digit (x / 2 ^ k % 2) (m / 2 ^ k % 2) (omega arith) (omega arith)
