use Rattle.std.proofs.Common.{◌≡◌, ℕ, zero, suc, ◌+◌, ◌-◌, ◌<◌, ◌≤◌, Bool, true, false, cond, leb, List, length, ℤ, sym, ap, ◌∙◌, ap₂, add-one, arith}
use Rattle.std.proofs.lemmas.List.{length-append}
use Rattle.std.proofs.lemmas.Bool.{cond-false}
use Rattle.cover_theory.specs.Rule.{Rel, without, grown, taken, visit, visits, sweep}
use Rattle.cover_theory.specs.Parts.{Part, clique}
use Rattle.cover_theory.specs.Rows.{listed, told, Flat}

-- ---- a row

module _ {X : Type 0} (emit : X → Part ℕ → X) (N u : ℕ) where
  visits_skip : (s : Rel × X) (d k w : ℕ) → ((j : ℕ) → w ≤ j → j < w + d → s.0 u j ≡ false) → visits emit N s u (d + k) w ≡ visits emit N s u k (w + d)
  visits_skip s zero k w h = ap₂ (λ x y. visits emit N s u x y) (let e : 0 + k ≡ k = omega arith in e) (let e : w ≡ w + 0 = omega arith in e)
  visits_skip s (suc d) k w h =
      ap (λ x. visits emit N s u x w) (let e : suc d + k ≡ suc (d + k) = omega arith in e)
      ∙ ap (λ x. visits emit N x u (d + k) (suc w)) (cond-false (s.0 u w) (taken emit s.0 (grown N s.0 u w) s.1) s (h w (omega arith) (omega arith)))
      ∙ visits_skip s d k (suc w) (λ j p q. h j (omega arith) (omega arith))
      ∙ ap (λ x. visits emit N s u k x) (let e : suc w + d ≡ w + suc d = omega arith in e)

  visits_past : (s : Rel × X) (from to : ℕ) → from ≤ to → to ≤ N → ((j : ℕ) → from ≤ j → j < to → s.0 u j ≡ false)
      → visits emit N s u (N - from) from ≡ visits emit N s u (N - to) to
  visits_past s from to h h' none =
      ap (λ x. visits emit N s u x from) (let e : N - from ≡ (to - from) + (N - to) = omega arith in e)
      ∙ visits_skip s (to - from) (N - to) from (λ j p q. none j p (omega arith))
      ∙ ap (λ x. visits emit N s u (N - to) x) (let e : from + (to - from) ≡ to = omega arith in e)

  visits_none : (s : Rel × X) (from : ℕ) → from ≤ N → ((j : ℕ) → from ≤ j → j < N → s.0 u j ≡ false) → visits emit N s u (N - from) from ≡ s
  visits_none s from h none = visits_past s from N h (omega arith) none ∙ ap (λ x. visits emit N s u x N) (let e : N - N ≡ 0 = omega arith in e)

  visits_to : (s : Rel × X) (from w : ℕ) → from ≤ w → w < N → ((j : ℕ) → from ≤ j → j < w → s.0 u j ≡ false)
      → visits emit N s u (N - from) from ≡ visits emit N (visit emit N s u w) u (N - (w + 1)) (w + 1)
  visits_to s from w h h' none =
      visits_past s from w h (omega arith) none
      ∙ ap (λ x. visits emit N s u x w) (let e : N - w ≡ suc (N - (w + 1)) = omega arith in e)
      ∙ ap (λ x. visits emit N (visit emit N s u w) u (N - (w + 1)) x) (sym (add-one w))

longer_cond : (b : Bool) (s t : Flat) (n : ℕ) → n ≤ length s.1 → n ≤ length t.1 → n ≤ length (cond b s t).1
longer_cond true s t n p q = p
longer_cond false s t n p q = q

visit_longer : (N : ℕ) (s : Flat) (u w : ℕ) → length s.1 ≤ length (visit told N s u w).1
visit_longer N s u w =
    longer_cond (s.0 u w) (taken told s.0 (grown N s.0 u w) s.1) s (length s.1)
    (longer_cond (leb 6 (length (grown N s.0 u w))) (without s.0 (grown N s.0 u w), told s.1 (clique (grown N s.0 u w))) (s.0, s.1) (length s.1)
    (omega (arith, length-append s.1 (listed (clique (grown N s.0 u w))))) (omega arith))
    (omega arith)

visits_longer : (N : ℕ) (s : Flat) (u k w : ℕ) → length s.1 ≤ length (visits told N s u k w).1
visits_longer N s u zero w = omega arith
visits_longer N s u (suc k) w = omega (arith, visit_longer N s u w, visits_longer N (visit told N s u w) u k (suc w))

-- what the loop of a row knows
module _ (N : ℕ) (rel : Rel) (xs : List ℤ) (u from : ℕ) where
  pub row_step : (w : ℕ) → from ≤ w → w < N → ((j : ℕ) → from ≤ j → j < w → rel u j ≡ false)
      → ◌≡◌ {A = Flat} (visits told N (rel, xs) u (N - from) from) (visits told N (visit told N (rel, xs) u w) u (N - (w + 1)) (w + 1))
  row_step w low high before = visits_to told N u (rel, xs) from w low high before

  pub row_end : from ≤ N → ((j : ℕ) → from ≤ j → rel u j ≡ false) → ◌≡◌ {A = Flat} (visits told N (rel, xs) u (N - from) from) (rel, xs)
  row_end high none = visits_none told N u (rel, xs) from high (λ j p q. none j p)

  pub row_short : (w n : ℕ) → from ≤ w → w < N → ((j : ℕ) → from ≤ j → j < w → rel u j ≡ false) → n < length (visit told N (rel, xs) u w).1
      → n < length (visits told N (rel, xs) u (N - from) from).1
  row_short w n low high before h =
      let e = ap (λ (s : Flat). length s.1) (row_step w low high before) in
      omega (arith, e, visits_longer N (visit told N (rel, xs) u w) u (N - (w + 1)) (w + 1))

-- ---- all rows

sweep_longer : (N : ℕ) (s : Flat) (k u : ℕ) → length s.1 ≤ length (sweep told N s k u).1
sweep_longer N s zero u = omega arith
sweep_longer N s (suc k) u = omega (arith, visits_longer N s u (N - suc u) (suc u), sweep_longer N (visits told N s u (N - suc u) (suc u)) k (suc u))

pub sweep_more : (N : ℕ) (s : Flat) (u : ℕ) → u < N → ◌≡◌ {A = Flat} (sweep told N s (N - u) u) (sweep told N (visits told N s u (N - (u + 1)) (u + 1)) (N - (u + 1)) (u + 1))
sweep_more N s u h =
    ap (λ x. sweep told N s x u) (let e : N - u ≡ suc (N - (u + 1)) = omega arith in e)
    ∙ ap (λ x. sweep told N (visits told N s u (N - x) x) (N - (u + 1)) x) (sym (add-one u))

pub sweep_short : (N : ℕ) (s : Flat) (u n : ℕ) → u < N → n < length (visits told N s u (N - (u + 1)) (u + 1)).1 → n < length (sweep told N s (N - u) u).1
sweep_short N s u n h g =
    omega (arith, ap (λ (t : Flat). length t.1) (sweep_more N s u h), sweep_longer N (visits told N s u (N - (u + 1)) (u + 1)) (N - (u + 1)) (u + 1))

pub sweep_all : (N : ℕ) (s : Flat) (u : ℕ) → N ≤ u → ◌≡◌ {A = Flat} (sweep told N s (N - u) u) s
sweep_all N s u h = ap (λ x. sweep told N s x u) (let e : N - u ≡ 0 = omega arith in e)

pub sweep_start : (N : ℕ) (s : Flat) → ◌≡◌ {A = Flat} (sweep told N s (N - 0) 0) (sweep told N s N 0)
sweep_start N s = ap (λ x. sweep told N s x 0) (let e : N - 0 ≡ N = omega arith in e)
