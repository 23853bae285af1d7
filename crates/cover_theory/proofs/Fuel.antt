-- Each biclique takes a conflict away, so that the bicliques have ended after N * N of them.
use Rattle.std.proofs.Common.{◌≡◌, ℕ, zero, suc, ◌+◌, ◌*◌, ◌<◌, ◌≤◌, Bool, true, false, cond, ◌&&◌, [], ap, ◌∙◌, ⊎_elim, mul-zero, zero-mul, mul-suc, arith}
use Rattle.std.proofs.lemmas.Bool.{cond_both, cases_Bool, cases_eq, and_parts, and_right, or_left, not_from_true, ltb-true}
use Rattle.cover_theory.specs.Parts.{Part, biclique}
use Rattle.cover_theory.specs.Rule.{Rel, Side, Sides, count, those, grown_sides, without_sides, gains, bicliques, sweep, also, covering, Ended}
use Rattle.cover_theory.proofs.Degrees.{count_mono}
use Rattle.cover_theory.proofs.Splits.{Sided, sided_grown}

-- how many conflicts the k literals from c on have, counted both ways
abbrev total : ℕ → Rel → ℕ → ℕ → ℕ
total N r zero c = 0
total N r (suc k) c = count (r c) N 0 + total N r k (suc c)

bit_most : (b : Bool) → cond b 1 0 ≤ 1
bit_most true = omega arith
bit_most false = omega arith

pub count_most : (p : Side) (k c : ℕ) → count p k c ≤ k
count_most p zero c = omega arith
count_most p (suc k) c = omega (arith, bit_most (p c), count_most p k (suc c))

total_most : (N : ℕ) (r : Rel) (k c : ℕ) → total N r k c ≤ N * k
total_most N r zero c = omega arith
total_most N r (suc k) c = let e = mul-suc N k in omega (arith, count_most (r c) N 0, total_most N r k (suc c))

pub count_found : (p : Side) (k c : ℕ) → 0 < count p k c → (j : ℕ) × (c ≤ j) × (j < c + k) × (p j ≡ true)
count_found p zero c h = absurd (omega arith)
count_found p (suc k) c h = ⊎_elim
    (λ e. (c, omega arith, omega arith, e))
    (λ e. let z : cond (p c) 1 0 ≡ 0 = ap (λ b. cond {A = ℕ} b 1 0) e in let x = count_found p k (suc c) (omega arith) in (x.0, omega (arith, x.1), omega (arith, x.2), x.3))
    (cases_Bool (p c))

-- fewer where one is missing
pub count_fewer : (p q : Side) (k c j : ℕ) → ((i : ℕ) → q i ≡ true → p i ≡ true) → c ≤ j → j < c + k → p j ≡ true → q j ≡ false → count q k c < count p k c
count_fewer p q zero c j sub a b e f = absurd (omega arith)
count_fewer p q (suc k) c j sub a b e f = ⊎_elim
    (λ z.
    let x : cond (p c) 1 0 ≡ 1 = ap (λ b. cond {A = ℕ} b 1 0) (ap p z ∙ e) in let y : cond (q c) 1 0 ≡ 0 = ap (λ b. cond {A = ℕ} b 1 0) (ap q z ∙ f) in
    omega (arith, count_mono q p k (suc c) sub))
    (λ n. let l = count_fewer p q k (suc c) j sub (omega arith) (omega arith) e f in
    let m = count_mono q p 1 c sub in omega arith)
    (cases_eq c j)

total_mono : (N : ℕ) (r r' : Rel) (k c : ℕ) → ((u w : ℕ) → r' u w ≡ true → r u w ≡ true) → total N r' k c ≤ total N r k c
total_mono N r r' zero c sub = omega arith
total_mono N r r' (suc k) c sub = omega (arith, count_mono (r' c) (r c) N 0 (sub c), total_mono N r r' k (suc c) sub)

total_fewer : (N : ℕ) (r r' : Rel) (k c u w : ℕ) → ((u w : ℕ) → r' u w ≡ true → r u w ≡ true) → c ≤ u → u < c + k → w < N → r u w ≡ true → r' u w ≡ false → total N r' k c < total N r k c
total_fewer N r r' zero c u w sub a b h e f = absurd (omega arith)
total_fewer N r r' (suc k) c u w sub a b h e f = ⊎_elim
    (λ z. omega (arith, count_fewer (r c) (r' c) N 0 w (sub c) (omega arith) (omega arith) (ap (λ x. r x w) z ∙ e) (ap (λ x. r' x w) z ∙ f), total_mono N r r' k (suc c) sub))
    (λ n. omega (arith, count_mono (r' c) (r c) N 0 (sub c), total_fewer N r r' k (suc c) u w sub (omega arith) (omega arith) h e f))
    (cases_eq c u)

positive : (x y : ℕ) → x + y < x * y → (0 < x) × (0 < y)
positive zero y h = absurd (let z = zero-mul y in omega arith)
positive (suc x) zero h = absurd (let z = mul-zero (suc x) in omega arith)
positive (suc x) (suc y) h = (omega arith, omega arith)

-- sides with a gain have a conflict between them, which is taken away
takes_one : (N : ℕ) (r : Rel) (s : Sides) → Sided r s → gains N s ≡ true → total N (without_sides r s) N 0 < total N r N 0
takes_one N r s h g =
    let p = positive _ _ (ltb-true _ _ g) in
    let u = count_found s.0 N 0 p.0 in let w = count_found s.1 N 0 p.1 in
    total_fewer N r (without_sides r s) N 0 u.0 w.0 (λ x y e. (and_parts (r x y) _ e).0) (omega arith) (omega (arith, u.2)) (omega (arith, w.2))
    (h u.0 w.0 u.3 w.3)
    (and_right (r u.0 w.0) _ (not_from_true _ (or_left _ _ (ap (λ b. b && s.1 w.0) u.3 ∙ w.3))))

pub bicliques_end : {X : Type 0} (add : X → Part ℕ → X) (N k : ℕ) (s : Rel × X) → total N s.0 N 0 ≤ k → Ended N (bicliques add N k s).0
bicliques_end add N zero s h = ⊎_elim
    (λ e. absurd (let l = takes_one N s.0 (grown_sides N s.0) (sided_grown N s.0) e in omega arith)) (λ e. e) (cases_Bool (gains N (grown_sides N s.0)))
bicliques_end {X} add N (suc k) s h =
    let p = grown_sides N s.0 in
    let t : Rel × X = (without_sides s.0 p, add s.1 (biclique (those p.0 N 0) (those p.1 N 0))) in
    cond_both (gains N p) (bicliques add N k t) s (λ (z : Rel × X). Ended N z.0)
    (λ e. bicliques_end add N k t (let l = takes_one N s.0 p (sided_grown N s.0) e in omega arith)) (λ e. e)

-- the bicliques of a cover have ended
pub covering_ends : (N : ℕ) (rel : Rel) → Ended N (covering N rel).0
covering_ends N rel = bicliques_end also N (N * N) (sweep also N (rel, []) N 0) (total_most N (sweep also N (rel, []) N 0).0 N 0)
