-- The literals that conflict with one, read one after another.
use Rattle.std.proofs.Common.{◌≡◌, ℕ, zero, suc, ◌+◌, ◌-◌, ◌<◌, ◌≤◌, Bool, true, false, ◌&&◌, ltb, List, [], ◌∷◌, sym, refl, ap, ap₂, ◌∙◌, ⊎_elim, add-one, arith}
use Rattle.std.proofs.lemmas.Bool.{cases_lt, cond-true, cond-false}
use Rattle.cover_theory.specs.Rule.{Side, those}
use Rattle.cover_theory.specs.Rows.{Fit, conflicts, stands_at}

those_skip : (p : Side) (d k c : ℕ) → ((j : ℕ) → c ≤ j → j < c + d → p j ≡ false) → those p (d + k) c ≡ those p k (c + d)
those_skip p zero k c h = ap₂ (those p) (let e : 0 + k ≡ k = omega arith in e) (let e : c ≡ c + 0 = omega arith in e)
those_skip p (suc d) k c h =
    ap (λ n. those p n c) (let e : suc d + k ≡ suc (d + k) = omega arith in e)
    ∙ cond-false (p c) _ _ (h c (omega arith) (omega arith))
    ∙ those_skip p d k (suc c) (λ j a b. h j (omega arith) (omega arith))
    ∙ ap (those p k) (let e : suc c + d ≡ c + suc d = omega arith in e)

-- the first of them
pub those_first : (p : Side) (N from w : ℕ) → from ≤ w → w < N → p w ≡ true → ((j : ℕ) → from ≤ j → j < w → p j ≡ false) → those p (N - from) from ≡ w ∷ those p (N - (w + 1)) (w + 1)
those_first p N from w low high here before =
    ap (λ n. those p n from) (let e : N - from ≡ (w - from) + suc (N - (w + 1)) = omega arith in e)
    ∙ those_skip p (w - from) (suc (N - (w + 1))) from (λ j a b. before j a (omega arith))
    ∙ ap (those p (suc (N - (w + 1)))) (let e : from + (w - from) ≡ w = omega arith in e)
    ∙ cond-true (p w) _ _ here ∙ ap (λ n. w ∷ those p (N - (w + 1)) n) (sym (add-one w))

-- none of them
pub those_none : (p : Side) (k from : ℕ) → ((j : ℕ) → from ≤ j → p j ≡ false) → those p k from ≡ []
those_none p zero from none = refl
those_none p (suc k) from none = cond-false (p from) _ _ (none from (omega arith)) ∙ those_none p k (suc from) (λ j h. none j (omega arith))

-- a literal does not conflict with itself, so those from it on are those after it
pub those_after : (N R : ℕ) (ws : List ℕ) (u : ℕ) → Fit N R ws → those (conflicts N R ws u) (N - u) u ≡ those (conflicts N R ws u) (N - (u + 1)) (u + 1)
those_after N R ws u fit =
    let p = conflicts N R ws u in
    ⊎_elim
    (λ h.
    ap (λ n. those p n u) (let e : N - u ≡ 1 + (N - (u + 1)) = omega arith in e)
    ∙ those_skip p 1 (N - (u + 1)) u (λ j a b. let e : j ≡ u = omega arith in ap p e ∙ self u h))
    (λ h. ap (λ n. those p n u) (let e : N - u ≡ 0 = omega arith in e) ∙ sym (ap (λ n. those p n (u + 1)) (let e : N - (u + 1) ≡ 0 = omega arith in e))) (cases_lt u N)
  where
    both : (a b s : Bool) → s ≡ false → (a && (b && s)) ≡ false
    both true true s e = e
    both true false s e = refl
    both false b s e = refl

    self : (u : ℕ) → u < N → conflicts N R ws u u ≡ false
    self u h = both (ltb u N) (ltb u N) (stands_at ws R u u) (fit.loose u h)
