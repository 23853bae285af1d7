-- The truth of literals, clauses and lists of clauses.
use Rattle.std.proofs.Common.{◌≡◌, zero, suc, ◌*◌, ◌≤◌, Bool, true, false, not, ◌⊎◌, ◌↔◌, List, [], ◌∷◌, ◌++◌, length, ℤ, pos, negsuc, sym, refl, ap, ◌∙◌, inl, inr, ⊎_elim, arith}
use Rattle.std.proofs.lemmas.Bool.{false≢true, both_ways, cases_Bool, not-true, not_from_false}
use Rattle.logic.specs.Literal.{variable, complement}
use Rattle.logic.specs.Clause.{Clause, against, Assignment, holds, Met, In, Satisfies, flat}

not_not : (b : Bool) → b ≡ not (not b)
not_not true = refl
not_not false = refl

-- the complement of a literal is true exactly if the literal is false
pub holds_complement : (s : Assignment) (a : ℤ) → 1 ≤ variable a → holds s (complement a) ≡ not (holds s a)
holds_complement s (pos zero) h = absurd (omega arith)
holds_complement s (pos (suc n)) h = refl
holds_complement s (negsuc n) h = not_not (s (suc n))

-- what is true is a literal
pub holds_literal : (s : Assignment) (a : ℤ) → holds s a ≡ true → 1 ≤ variable a
holds_literal s (pos zero) h = absurd (false≢true h)
holds_literal s (pos (suc n)) h = omega arith
holds_literal s (negsuc n) h = omega arith

-- the clause of a conflict is met exactly if the two literals are not both true
pub against_met : (s : Assignment) (a b : ℤ) → 1 ≤ variable a → 1 ≤ variable b
    → Met s (against a b) ↔ ((holds s a ≡ true) × (holds s b ≡ true) → ⊥)
against_met s a b la lb =
    let na = holds_complement s a la in
    let nb = holds_complement s b lb in (
      ⊎_elim (λ h k. both_ways _ (not-true _ (sym na ∙ h)) k.0) (λ h k. both_ways _ (not-true _ (sym nb ∙ h)) k.1),
      (λ none. ⊎_elim
          (λ ha. ⊎_elim (λ hb. absurd (none (ha, hb))) (λ hb. inr (nb ∙ not_from_false _ hb)) (cases_Bool (holds s b)))
          (λ ha. inl (na ∙ not_from_false _ ha)) (cases_Bool (holds s a))),
    )

-- an element of two lists one after the other is one of the first or of the second
pub in_left : {X : Type 0} (x : X) (xs ys : List X) → In x xs → In x (xs ++ ys)
in_left x [] ys h = absurd h
in_left x (z ∷ xs) ys h = ⊎_elim inl (λ k. inr (in_left x xs ys k)) h

pub in_right : {X : Type 0} (x : X) (xs ys : List X) → In x ys → In x (xs ++ ys)
in_right x [] ys h = h
in_right x (z ∷ xs) ys h = inr (in_right x xs ys h)

pub in_cases : {X : Type 0} (x : X) (xs ys : List X) → In x (xs ++ ys) → In x xs ⊎ In x ys
in_cases x [] ys h = inr h
in_cases x (z ∷ xs) ys h = ⊎_elim (λ e. inl (inl e)) (λ k. ⊎_elim (λ m. inl (inr m)) inr (in_cases x xs ys k)) h

pub satisfies_append : (s : Assignment) (L M : List Clause) → Satisfies s (L ++ M) ↔ (Satisfies s L × Satisfies s M)
satisfies_append s L M =
    ((λ h. ((λ c k. h c (in_left c L M k)), (λ c k. h c (in_right c L M k)))), (λ h c k. ⊎_elim (h.0 c) (h.1 c) (in_cases c L M k)))

-- clauses in a buffer
pub length_flat : (L : List Clause) → length (flat L) ≡ 2 * length L
length_flat [] = refl
length_flat (c ∷ L) = let e = length_flat L in omega arith

pub flat_append : (L M : List Clause) → flat (L ++ M) ≡ flat L ++ flat M
flat_append [] M = refl
flat_append (c ∷ L) M = ap (λ zs. c.0 ∷ c.1 ∷ zs) (flat_append L M)
