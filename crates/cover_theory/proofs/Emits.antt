-- The members of a side, one after another.
use Rattle.std.proofs.Common.{◌≡◌, ℕ, zero, suc, ◌+◌, ◌-◌, ◌<◌, ◌≤◌, Bool, true, false, cond, List, [], ◌∷◌, ◌++◌, map, length, refl, ap, ◌∙◌, add-one, arith}
use Rattle.std.proofs.lemmas.List.{length-append, length-map, map-append, append-nil}
use Rattle.std.proofs.lemmas.Bool.{cond-true, cond-false}
use Rattle.cover_theory.specs.Rule.{Side, those, count}
use Rattle.logic.specs.Literal.{literal}
use Rattle.cover_theory.proofs.Counts.{count_split}
use Rattle.cover_theory.proofs.Members.{length_those}

joined : (b : Bool) (c : ℕ) (xs ys : List ℕ) → cond b (c ∷ (xs ++ ys)) (xs ++ ys) ≡ cond b (c ∷ xs) xs ++ ys
joined true c xs ys = refl
joined false c xs ys = refl

those_more : (p : Side) (k c : ℕ) → those p (suc k) c ≡ those p k c ++ cond (p (c + k)) ((c + k) ∷ []) []
those_more p zero c = ap (λ x. cond (p x) (x ∷ []) []) (let e : c ≡ c + 0 = omega arith in e)
those_more p (suc k) c =
    ap (λ l. cond (p c) (c ∷ l) l) (those_more p k (suc c) ∙ ap (λ x. those p k (suc c) ++ cond (p x) (x ∷ []) []) (let e : suc c + k ≡ c + suc k = omega arith in e))
    ∙ joined (p c) c (those p k (suc c)) (cond (p (c + suc k)) ((c + suc k) ∷ []) [])

module _ (p : Side) (u : ℕ) where
  next : those p (u + 1) 0 ≡ those p u 0 ++ cond (p u) (u ∷ []) []
  next =
      ap (λ k. those p k 0) (add-one u) ∙ those_more p u 0
      ∙ ap (λ x. those p u 0 ++ cond (p x) (x ∷ []) []) (let e : 0 + u ≡ u = omega arith in e)

  pub emit_more : p u ≡ true → map literal (those p (u + 1) 0) ≡ map literal (those p u 0) ++ literal u ∷ []
  emit_more h = ap (map literal) (next ∙ ap (λ l. those p u 0 ++ l) (cond-true (p u) _ _ h)) ∙ map-append literal (those p u 0) (u ∷ [])

  pub emit_none : p u ≡ false → map literal (those p (u + 1) 0) ≡ map literal (those p u 0)
  emit_none h = ap (map literal) (next ∙ ap (λ l. those p u 0 ++ l) (cond-false (p u) _ _ h) ∙ append-nil (those p u 0))

  pub emit_room : (N : ℕ) → u < N → p u ≡ true → length (map literal (those p u 0)) + 1 ≤ count p N 0
  emit_room N h e =
      let all : count p N 0 ≡ count p (u + 1) 0 + count p (N - (u + 1)) (0 + (u + 1)) = ap (λ k. count p k 0) (let q : N ≡ u + 1 + (N - (u + 1)) = omega arith in q) ∙ count_split p (u + 1) (N - (u + 1)) 0 in
      let more : length (map literal (those p (u + 1) 0)) ≡ length (map literal (those p u 0)) + 1 = ap length (emit_more e) ∙ length-append (map literal (those p u 0)) (literal u ∷ []) in
      omega (arith, all, more, length-map (those p (u + 1) 0) literal, length_those p (u + 1) 0)
