-- The sides of a biclique have stopped growing after N literals.
use Rattle.std.proofs.Common.{◌≡◌, ℕ, zero, suc, ◌+◌, ◌<◌, ◌≤◌, true, false, cond, eqb, ltb, refl, ap, ◌∙◌, subst, ap₂, ⊎_elim, mul-zero, arith}
use Rattle.std.proofs.lemmas.Bool.{cond_both, cond-true, cond-false, cases_Bool, cases_eq, cases_lt, and_parts, and_from, or_left, or_right, eq-eqb, lt-ltb, le-ltb, ltb-true, ltb-false, both_ways}
use Rattle.cover_theory.specs.Rule.{Rel, Side, Sides, count, shared, score, first_best, chosen, better, joined_by, widen, nobody, everyone, started_by, grown_sides, Settled}
use Rattle.cover_theory.proofs.Degrees.{count_mono}
use Rattle.cover_theory.proofs.Splits.{Sided, sided_join, sided_start}
use Rattle.cover_theory.proofs.Fuel.{count_most, count_found, count_fewer}

-- ---- the best is the largest

best_least : (sc : ℕ → ℕ) (k c b : ℕ) → sc b ≤ sc (first_best sc k c b)
best_least sc zero c b = omega arith
best_least sc (suc k) c b =
    cond_both (ltb (sc b) (sc c)) c b (λ z. sc b ≤ sc (first_best sc k (suc c) z))
    (λ e. omega (arith, ltb-true (sc b) (sc c) e, best_least sc k (suc c) c)) (λ e. best_least sc k (suc c) b)

best_max : (sc : ℕ → ℕ) (k c b j : ℕ) → c ≤ j → j < c + k → sc j ≤ sc (first_best sc k c b)
best_max sc zero c b j p q = absurd (omega arith)
best_max sc (suc k) c b j p q = ⊎_elim
    (λ e. subst (λ z. sc z ≤ sc (first_best sc (suc k) c b)) e
    (cond_both (ltb (sc b) (sc c)) c b (λ z. sc c ≤ sc (first_best sc k (suc c) z))
    (λ f. best_least sc k (suc c) c) (λ f. omega (arith, ltb-false (sc b) (sc c) f, best_least sc k (suc c) b))))
    (λ n. best_max sc k (suc c) (cond (ltb (sc b) (sc c)) c b) j (omega arith) (omega arith))
    (cases_eq c j)

best_in : (sc : ℕ → ℕ) (k c b M : ℕ) → b < M → c + k ≤ M → first_best sc k c b < M
best_in sc zero c b M p q = p
best_in sc (suc k) c b M p q =
    best_in sc k (suc c) (cond (ltb (sc b) (sc c)) c b) M (cond_both (ltb (sc b) (sc c)) c b (λ z. z < M) (λ _. omega arith) (λ _. p)) (omega arith)

-- ---- a full side

all_true : (k c : ℕ) → count (λ _. true) k c ≤ k
all_true k c = count_most (λ _. true) k c

full : (p : Side) (k c j : ℕ) → k ≤ count p k c → c ≤ j → j < c + k → p j ≡ true
full p k c j h a b = ⊎_elim (λ e. e)
    (λ e. absurd (let l = count_fewer (λ _. true) p k c j (λ i _. refl) a b refl e in omega (arith, all_true k c))) (cases_Bool (p j))

missing : (p : Side) (k c : ℕ) → count p k c < k → (j : ℕ) × (c ≤ j) × (j < c + k) × (p j ≡ false)
missing p zero c h = absurd (omega arith)
missing p (suc k) c h = ⊎_elim
    (λ e. let z : cond (p c) 1 0 ≡ 1 = ap (λ b. cond {A = ℕ} b 1 0) e in let x = missing p k (suc c) (omega arith) in (x.0, omega (arith, x.1), omega (arith, x.2), x.3))
    (λ e. (c, omega arith, omega arith, e)) (cases_Bool (p c))

module _ (N : ℕ) (r : Rel) (loose : (u : ℕ) → r u u ≡ true → ⊥) where
  Kept : Sides → Type 0
  Kept s = Sided r s × ((i : ℕ) → s.0 i ≡ true → i < N)

  -- all literals are in A, so none is in B
  none_left : (s : Sides) → Sided r s → N ≤ count s.0 N 0 → count s.1 N 0 ≡ 0
  none_left s h l = ⊎_elim
      (λ e. let w = count_found s.1 N 0 e in absurd (loose w.0 (h w.0 w.0 (full s.0 N 0 w.0 l (omega arith) (omega (arith, w.2))) w.3)))
      (λ e. omega arith) (cases_lt 0 (count s.1 N 0))

  full_settled : (s : Sides) → Sided r s → N ≤ count s.0 N 0 → Settled N r s
  full_settled s h l =
      let z = none_left s h l in
      let c = chosen N r s.0 s.1 in
      let m = count_mono (shared r s.1 c) s.1 N 0 (λ j e. (and_parts (s.1 j) (r c j) e).0) in
      let d : count (shared r s.1 c) N 0 ≡ 0 = omega arith in
      ap₂ (λ y e. better (count s.0 N 0) y (suc (count s.0 N 0)) e) z d
      ∙ le-ltb _ _ (omega (arith, mul-zero (count s.0 N 0), mul-zero (suc (count s.0 N 0))))

  -- while a literal is missing in A, the chosen one is outside A
  chosen_out : (s : Sides) → count s.0 N 0 < N → (s.0 (chosen N r s.0 s.1) ≡ false) × (chosen N r s.0 s.1 < N)
  chosen_out s l =
      let x = missing s.0 N 0 l in
      let sc = score N r s.0 s.1 in
      let top = best_max sc N 0 0 x.0 (omega arith) x.2 in
      let some : sc x.0 ≡ suc (count (shared r s.1 x.0) N 0) = cond-false (s.0 x.0) 0 _ x.3 in (
        ⊎_elim (λ e. absurd (let none : sc (chosen N r s.0 s.1) ≡ 0 = cond-true (s.0 (chosen N r s.0 s.1)) 0 _ e in omega arith)) (λ e. e) (cases_Bool (s.0 (chosen N r s.0 s.1))),
        best_in sc N 0 0 N (omega arith) (omega arith),
      )

  pub widen_settles : (k : ℕ) (s : Sides) → Sided r s → ((i : ℕ) → s.0 i ≡ true → i < N) → N ≤ k + count s.0 N 0 → Settled N r (widen N r k s)
  widen_settles zero s h small l = full_settled s h (omega arith)
  widen_settles (suc k) s h small l =
      let c = chosen N r s.0 s.1 in
      cond_both (better (count s.0 N 0) (count s.1 N 0) (suc (count s.0 N 0)) (count (shared r s.1 c) N 0))
      (widen N r k (joined_by N s.0 c, shared r s.1 c)) s (Settled N r)
      (λ e. ⊎_elim
      (λ g. let o = chosen_out s g in
      widen_settles k (joined_by N s.0 c, shared r s.1 c) (sided_join N r s c h) (λ i q. ltb-true i N (and_parts (ltb i N) _ q).0)
      (let more = count_fewer (joined_by N s.0 c) s.0 N 0 c (λ i q. and_from (ltb i N) _ (lt-ltb i N (small i q)) (or_left (s.0 i) (eqb c i) q)) (omega arith) (omega (arith, o.1))
      (and_from (ltb c N) _ (lt-ltb c N o.1) (or_right (s.0 c) (eqb c c) (eq-eqb c c refl))) o.0 in omega arith))
      (λ g. absurd (both_ways _ (full_settled s h g) e)) (cases_lt (count s.0 N 0) N))
      (λ e. e)

  pub grown_settles : Settled N r (grown_sides N r)
  grown_settles =
      let c = chosen N r nobody (everyone N) in
      widen_settles N (started_by N r c) (sided_start N r c) (λ i q. ltb-true i N (and_parts (ltb i N) _ q).0) (omega arith)
