-- The conflict that complete names is the first that the values break; where none is named, they break none.
use Rattle.std.proofs.Common.{◌≡◌, ℕ, zero, suc, ◌+◌, ◌-◌, ◌<◌, ◌≤◌, true, false, ◌⊎◌, ℤ, is_some, Some, None, Option, sym, refl, ap, ◌∙◌, subst, inl, inr, ⊎_elim, arith}
use Rattle.std.proofs.lemmas.Bool.{true≢false, cases_Bool, cases_eq, cond-true, cond-false}
use Rattle.logic.specs.Literal.{literal}
use Rattle.logic.specs.Clause.{Assignment}
use Rattle.cover_theory.specs.Rule.{Rel}
use Rattle.formula_theory.specs.Outcome.{broken_at, broken_along, or_else, broken_from}

pub some_none : {X : Type 0} (x : X) → Some x ≡ None → ⊥
some_none x e = true≢false (ap is_some e)

pub some_same : {X : Type 0} (x y : X) → Some x ≡ Some y → x ≡ y
some_same x y e = cc

module _ (rel : Rel) (s : Assignment) where
  -- w is the first of those from low on at which a conflict of u is broken, and c that conflict
  abbrev FirstAlong : ℕ → ℕ → ℕ → ℤ × ℤ → Type 0
  FirstAlong u low high c = (w : ℕ) × (low ≤ w) × (w < high) × (broken_at rel s u w ≡ true) × (c ≡ (literal u, literal w))
      × ((y : ℕ) → low ≤ y → y < w → broken_at rel s u y ≡ false)

  along_none : (u k w : ℕ) → broken_along rel s u k w ≡ None → (y : ℕ) → w ≤ y → y < w + k → broken_at rel s u y ≡ false
  along_none u zero w e y l h = absurd (omega arith)
  along_none u (suc k) w e y l h =
      ⊎_elim
      (λ b. absurd (some_none (literal u, literal w) (sym (cond-true _ _ _ b) ∙ e)))
      (λ b. ⊎_elim (λ q. subst (λ z. broken_at rel s u z ≡ false) q b) (λ ne. along_none u k (suc w) (sym (cond-false _ _ _ b) ∙ e) y (omega arith) (omega arith)) (cases_eq w y))
      (cases_Bool (broken_at rel s u w))

  along_some : (u k w : ℕ) (c : ℤ × ℤ) → broken_along rel s u k w ≡ Some c → FirstAlong u w (w + k) c
  along_some u zero w c e = absurd (some_none c (sym e))
  along_some u (suc k) w c e =
      ⊎_elim
      (λ b. (w, omega arith, omega arith, b, sym (some_same (literal u, literal w) c (sym (cond-true _ _ _ b) ∙ e)), (λ y l h. absurd (omega arith))))
      (λ b. later b (along_some u k (suc w) c (sym (cond-false _ _ _ b) ∙ e)))
      (cases_Bool (broken_at rel s u w))
    where
      later : broken_at rel s u w ≡ false → FirstAlong u (suc w) (suc w + k) c → FirstAlong u w (w + suc k) c
      later b (x, l, h, t, q, f) = (
        x,
        omega arith,
        omega arith,
        t,
        q,
        (λ y ly hy. ⊎_elim (λ z. subst (λ v. broken_at rel s u v ≡ false) z b) (λ ne. f y (omega arith) hy) (cases_eq w y)),
      )

  -- (u, w) is the first broken pair from row low on
  abbrev pub FirstFrom : ℕ → ℕ → ℕ → ℤ × ℤ → Type 0
  FirstFrom N low high c = (u : ℕ) × (w : ℕ) × (low ≤ u) × (u < high) × (u < w) × (w < N) × (broken_at rel s u w ≡ true) × (c ≡ (literal u, literal w))
      × ((x y : ℕ) → low ≤ x → x < y → y < N → (x < u) ⊎ ((x ≡ u) × (y < w)) → broken_at rel s x y ≡ false)

  else_none : {X : Type 0} (x y : Option X) → or_else x y ≡ None → (x ≡ None) × (y ≡ None)
  else_none None y e = (refl, e)
  else_none (Some x) y e = absurd (some_none x e)

  else_some : {X : Type 0} (x y : Option X) (c : X) → or_else x y ≡ Some c → (x ≡ Some c) ⊎ ((x ≡ None) × (y ≡ Some c))
  else_some None y c e = inr (refl, e)
  else_some (Some x) y c e = inl e

  module _ (N : ℕ) where
    pub from_none : (k u : ℕ) → broken_from N rel s k u ≡ None → (x y : ℕ) → u ≤ x → x < u + k → x < y → y < N → broken_at rel s x y ≡ false
    from_none zero u e x y l h a b = absurd (omega arith)
    from_none (suc k) u e x y l h a b =
        let p = else_none (broken_along rel s u (N - suc u) (suc u)) _ e in
        ⊎_elim
        (λ q. subst (λ z. broken_at rel s z y ≡ false) q (along_none u (N - suc u) (suc u) p.0 y (omega arith) (omega arith)))
        (λ ne. from_none k (suc u) p.1 x y (omega arith) (omega arith) a b)
        (cases_eq u x)

    pub from_some : (k u : ℕ) (c : ℤ × ℤ) → u + k ≤ N → broken_from N rel s k u ≡ Some c → FirstFrom N u (u + k) c
    from_some zero u c m e = absurd (some_none c (sym e))
    from_some (suc k) u c m e =
        ⊎_elim
        (λ q. here (along_some u (N - suc u) (suc u) c q))
        (λ q. there q.0 (from_some k (suc u) c (omega arith) q.1))
        (else_some (broken_along rel s u (N - suc u) (suc u)) _ c e)
      where
        here : FirstAlong u (suc u) (suc u + (N - suc u)) c → FirstFrom N u (u + suc k) c
        here (w, l, h, t, q, f) = (
          u,
          w,
          omega arith,
          omega arith,
          omega arith,
          omega arith,
          t,
          q,
          (λ x y lx xy yn. ⊎_elim (λ z. absurd (omega arith)) (λ z. subst (λ v. broken_at rel s v y ≡ false) (sym z.0) (f y (omega (arith, z.0)) z.1))),
        )

        there : broken_along rel s u (N - suc u) (suc u) ≡ None → FirstFrom N (suc u) (suc u + k) c → FirstFrom N u (u + suc k) c
        there none (v, w, l, h, vw, wn, t, q, f) = (
          v,
          w,
          omega arith,
          omega arith,
          vw,
          wn,
          t,
          q,
          (λ x y lx xy yn before. ⊎_elim
              (λ z. subst (λ i. broken_at rel s i y ≡ false) z (along_none u (N - suc u) (suc u) none y (omega arith) (omega arith)))
              (λ ne. f x y (omega arith) xy yn before)
              (cases_eq u x)),
        )
