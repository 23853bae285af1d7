use Rattle.std.proofs.Common.{◌≡◌, ℕ, zero, suc, ◌+◌, ◌-◌, ◌*◌, ◌/◌, ◌%◌, ◌^◌, ◌<◌, ◌≤◌, false, cond, ◌&&◌, eqb, ltb, List, get_or, sym, refl, ap, ◌∙◌, ap₂, add-one, one-add, arith}
use lib.Count.{ones, ones_step}
use Rattle.std.proofs.lemmas.Bool.{lt-ltb, le-ltb, and_right, cond-true, cond-false}
use Rattle.std.proofs.lemmas.Bool.Decides.{nat_tests}
use Rattle.std.proofs.lemmas.Nat.{pow-add}
use Rattle.cover_theory.specs.Rule.{Side, count, shared, first_best}
use Rattle.network_theory.specs.Layout.{bit}
use Rattle.cover_theory.specs.Rows.{marked, stands_at, conflicts, Fit, held, Neat}
use Rattle.cover_theory.proofs.Digits.{half}
use Rattle.cover_theory.proofs.Grows.{agree}

pub count_as : (p q : Side) (k c d : ℕ) → ((t : ℕ) → t < k → p (c + t) ≡ q (d + t)) → count p k c ≡ count q k d
count_as p q zero c d h = refl
count_as p q (suc k) c d h =
    let e : p c ≡ q d = ap p (let z : c ≡ c + 0 = omega arith in z) ∙ h 0 (omega arith) ∙ ap q (let z : d + 0 ≡ d = omega arith in z) in
    ap₂ (λ b n. cond b 1 0 + n) e
    (count_as p q k (suc c) (suc d) (λ t g. ap p (let z : suc c + t ≡ c + suc t = omega arith in z) ∙ h (suc t) (omega arith) ∙ ap q (let z : d + suc t ≡ suc d + t = omega arith in z)))

pub count_split : (p : Side) (j k c : ℕ) → count p (j + k) c ≡ count p j c + count p k (c + j)
count_split p zero k c =
    ap (λ x. count p x c) (let z : 0 + k ≡ k = omega arith in z) ∙ ap (λ x. count p k x) (let z : c ≡ c + 0 = omega arith in z) ∙ (let z : count p k (c + 0) ≡ 0 + count p k (c + 0) = omega arith in z)
count_split p (suc j) k c =
    ap (λ x. count p x c) (let z : suc j + k ≡ suc (j + k) = omega arith in z)
    ∙ ap (λ x. cond (p c) 1 0 + x) (count_split p j k (suc c) ∙ ap (λ x. count p j (suc c) + count p k x) (let z : suc c + j ≡ c + suc j = omega arith in z))
    ∙ (let z : cond (p c) 1 0 + (count p j (suc c) + count p k (c + suc j)) ≡ (cond (p c) 1 0 + count p j (suc c)) + count p k (c + suc j) = omega arith in z)

count_none : (p : Side) (k c : ℕ) → ((j : ℕ) → c ≤ j → j < c + k → p j ≡ false) → count p k c ≡ 0
count_none p zero c h = refl
count_none p (suc k) c h = ap₂ (λ b n. cond b 1 0 + n) (h c (omega arith) (omega arith)) (count_none p k (suc c) (λ j g l. h j (omega arith) (omega arith)))

pub count_cut : (p : Side) (N M : ℕ) → N ≤ M → ((j : ℕ) → N ≤ j → j < M → p j ≡ false) → count p M 0 ≡ count p N 0
count_cut p N M h none =
    let e : N + (M - N) ≡ M = omega arith in
    let z = count_none p (M - N) (0 + N) (λ j g l. none j (omega arith) (omega arith)) in
    ap (λ x. count p x 0) (sym e) ∙ count_split p N (M - N) 0 ∙ omega arith

pub count_same : (p q : Side) (k : ℕ) → ((j : ℕ) → j < k → p j ≡ q j) → count p k 0 ≡ count q k 0
count_same p q k h = count_as p q k 0 0 (λ t g. ap p (let z : 0 + t ≡ t = omega arith in z) ∙ h t g ∙ ap q (let z : t ≡ 0 + t = omega arith in z))

low_digit : (n : ℕ) → n % 2 ≡ cond (eqb (n / 2 ^ 0 % 2) 1) 1 0
low_digit n = grind (arith, nat_tests)

pub ones_count : (k x : ℕ) → x < 2 ^ k → ones x ≡ count (bit x) k 0
unfolding ones
ones_count zero x h = ap ones (let z : x ≡ 0 = omega arith in z)
ones_count (suc k) x h =
    let e : 2 ^ suc k ≡ 2 * 2 ^ k = ap (λ z. 2 ^ z) (sym (one-add k)) ∙ pow-add 2 1 k in
    ones_step x ∙ ap₂ ◌+◌ (low_digit x)
    (ones_count k (x / 2) (omega arith)
    ∙ count_as (bit (x / 2)) (bit x) k 0 1 (λ t g. ap (λ z. bit (x / 2) z) (let z : 0 + t ≡ t = omega arith in z) ∙ ap (λ z. eqb (z % 2) 1) (sym (half x t)) ∙ ap (λ z. bit x z) (sym (one-add t))))

-- one word more
pub word_more : (p : Side) (i x : ℕ) → x < 2 ^ 64 → ((t : ℕ) → t < 64 → p (64 * i + t) ≡ bit x t) → count p (64 * (i + 1)) 0 ≡ count p (64 * i) 0 + ones x
word_more p i x fits h =
    ap (λ z. count p z 0) (let z : 64 * (i + 1) ≡ 64 * i + 64 = omega arith in z) ∙ count_split p (64 * i) 64 0
    ∙ ap (λ z. count p (64 * i) 0 + z) (count_as p (bit x) 64 (0 + 64 * i) 0 (λ t g. ap p (let z : 0 + 64 * i + t ≡ 64 * i + t = omega arith in z) ∙ h t g ∙ ap (bit x) (let z : t ≡ 0 + t = omega arith in z)) ∙ sym (ones_count 64 x fits))

place : (i t : ℕ) → t < 64 → ((64 * i + t) / 64 ≡ i) × ((64 * i + t) % 64 ≡ t)
place i t h = (omega arith, omega arith)

pub mask_word : (mask : List ℕ) (i t : ℕ) → t < 64 → marked mask (64 * i + t) ≡ bit (get_or mask i 0) t
mask_word mask i t h = ap₂ (λ y z. bit (get_or mask y 0) z) (place i t h).0 (place i t h).1

pub size_is : (N R : ℕ) (mask : List ℕ) → N ≤ 64 * R → Neat N R mask → count (marked mask) (64 * R) 0 ≡ count (held N mask) N 0
size_is N R mask small neat =
    count_cut (marked mask) N (64 * R) small neat ∙ count_same (marked mask) (held N mask) N (λ j h. ap (λ b. b && marked mask j) (sym (lt-ltb j N h)))

pub common_is : (N R : ℕ) (ws mask : List ℕ) (u : ℕ) → Fit N R ws → u < N
    → count (λ j. marked mask j && stands_at ws R u j) (64 * R) 0 ≡ count (shared (conflicts N R ws) (held N mask) u) N 0
common_is N R ws mask u fit hu =
    let small = fit.small in
    count_cut (λ j. marked mask j && stands_at ws R u j) N (64 * R) fit.small (λ j g l. and_right (marked mask j) _ (fit.tidy u j hu g l))
    ∙ count_same (λ j. marked mask j && stands_at ws R u j) (shared (conflicts N R ws) (held N mask) u) N
    (λ j h. ap₂ (λ a b. a && b) (ap (λ b. b && marked mask j) (sym (lt-ltb j N h))) (agree N R ws fit.tidy fit.small u j hu (omega arith)))

pub held_is : (N : ℕ) (mask : List ℕ) (c : ℕ) → c < N → marked mask c ≡ held N mask c
held_is N mask c h = ap (λ b. b && marked mask c) (sym (lt-ltb c N h))

best_step : (sc : ℕ → ℕ) (N c b : ℕ) → c < N → first_best sc (N - c) c b ≡ first_best sc (N - (c + 1)) (c + 1) (cond (ltb (sc b) (sc c)) c b)
best_step sc N c b h =
    ap (λ x. first_best sc x c b) (let e : N - c ≡ suc (N - (c + 1)) = omega arith in e)
    ∙ ap (λ x. first_best sc (N - (c + 1)) x (cond (ltb (sc b) (sc c)) c b)) (sym (add-one c))

pub best_takes : (sc : ℕ → ℕ) (N c b : ℕ) → c < N → sc b < sc c → first_best sc (N - (c + 1)) (c + 1) c ≡ first_best sc (N - c) c b
best_takes sc N c b h l = sym (best_step sc N c b h ∙ ap (λ x. first_best sc (N - (c + 1)) (c + 1) x) (cond-true (ltb (sc b) (sc c)) c b (lt-ltb (sc b) (sc c) l)))

pub best_keeps : (sc : ℕ → ℕ) (N c b : ℕ) → c < N → sc c ≤ sc b → first_best sc (N - (c + 1)) (c + 1) b ≡ first_best sc (N - c) c b
best_keeps sc N c b h l = sym (best_step sc N c b h ∙ ap (λ x. first_best sc (N - (c + 1)) (c + 1) x) (cond-false (ltb (sc b) (sc c)) c b (le-ltb (sc b) (sc c) l)))

module _ (sc : ℕ → ℕ) (N c b top s best' top' target : ℕ) (h : c < N) (p : top ≡ sc b) (q : s ≡ sc c) (inv : first_best sc (N - c) c b ≡ target) where
  pub picks_new : top < s → best' ≡ c → top' ≡ s → (best' < N) × (top' ≡ sc best') × (first_best sc (N - (c + 1)) (c + 1) best' ≡ target)
  picks_new l e f =
      (omega arith, f ∙ q ∙ ap sc (sym e), ap (λ x. first_best sc (N - (c + 1)) (c + 1) x) e ∙ best_takes sc N c b h (omega arith) ∙ inv)

  pub picks_old : b < N → s ≤ top → best' ≡ b → top' ≡ top → (best' < N) × (top' ≡ sc best') × (first_best sc (N - (c + 1)) (c + 1) best' ≡ target)
  picks_old hb l e f =
      (omega arith, f ∙ p ∙ ap sc (sym e), ap (λ x. first_best sc (N - (c + 1)) (c + 1) x) e ∙ best_keeps sc N c b h (omega arith) ∙ inv)
