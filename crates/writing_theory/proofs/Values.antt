-- Values that tell which literals are true, and the first conflict that they break.
use Rattle.std.proofs.Common.{◌≡◌, ℕ, zero, suc, ◌+◌, ◌-◌, ◌<◌, Bool, true, false, cond, ◌&&◌, ◌||◌, List, [], ◌∷◌, ℤ, is_some, Some, None, Option, sym, refl, ap, ◌∙◌, inl, inr, add-one, arith}
use Rattle.std.proofs.lemmas.Bool.{cond-true, cond-false, and_left, and_right}
use Rattle.std.proofs.lemmas.Iterator.Adapters.{position_from-zero}
use Rattle.std.specs.List.{All, position, position_from}
use Rattle.std.specs.Option.{option_map}
use Rattle.logic.specs.Literal.{Literal, literal}
use Rattle.logic.specs.Clause.{Assignment, In, holds}
use Rattle.cover_theory.specs.Rule.{Rel, those}
use Rattle.formula_theory.specs.Writing.{true_place, some_true}
use Rattle.formula_theory.specs.Outcome.{broken_along, broken_from, or_else}
use Rattle.writing_theory.specs.Remaining.{first_true}

-- ---- the true literals of a list
module _ (s : Assignment) where
  place_from : (xs : List ℤ) (i : ℕ) → position_from (holds s) i xs ≡ option_map (λ j. j + i) (true_place s xs)
  place_from [] i = refl
  place_from (x ∷ xs) i = go (holds s x) (place_from xs (i + 1))
    where
      later : (o : Option ℕ) → option_map (λ j. j + (i + 1)) o ≡ option_map (λ j. j + i) (option_map (λ j. j + 1) o)
      later None = refl
      later (Some j) = let e : j + (i + 1) ≡ j + 1 + i = omega arith in ap Some e

      go : (b : Bool) → position_from (holds s) (i + 1) xs ≡ option_map (λ j. j + (i + 1)) (true_place s xs)
          → cond b (Some i) (position_from (holds s) (i + 1) xs) ≡ option_map (λ j. j + i) (cond b (Some 0) (option_map (λ j. j + 1) (true_place s xs)))
      go true h = let e : i ≡ 0 + i = omega arith in ap Some e
      go false h = h ∙ later (true_place s xs)

  pub true_place_is : (xs : List ℤ) → true_place s xs ≡ position (holds s) xs
  true_place_is xs = sym (position_from-zero (holds s) xs ∙ place_from xs 0 ∙ same (true_place s xs))
    where
      same : (o : Option ℕ) → option_map (λ j. j + 0) o ≡ o
      same None = refl
      same (Some j) = let e : j + 0 ≡ j = omega arith in ap Some e

  pub some_place : (xs : List ℤ) → some_true s xs ≡ is_some (true_place s xs)
  some_place [] = refl
  some_place (x ∷ xs) = go (holds s x) (some_place xs)
    where
      still : (o : Option ℕ) → is_some o ≡ is_some (option_map (λ i. i + 1) o)
      still None = refl
      still (Some i) = refl

      go : (b : Bool) → some_true s xs ≡ is_some (true_place s xs) → (b || some_true s xs) ≡ is_some (cond b (Some 0) (option_map (λ i. i + 1) (true_place s xs)))
      go true h = refl
      go false h = h ∙ still (true_place s xs)

pub literals_in : (n : ℕ) (xs : List ℤ) → ((p : ℤ) → In p xs → Literal n p) → All (Literal n) xs
literals_in n [] h i d l = absurd (omega arith)
literals_in n (x ∷ xs) h zero d l = h x (inl refl)
literals_in n (x ∷ xs) h (suc i) d l = literals_in n xs (λ p m. h p (inr m)) i d (omega arith)

-- ---- broken conflicts
module _ (rel : Rel) (s : Assignment) (u : ℕ) where
  -- of a true literal: the first true one of those in conflict with it
  pub along_those : holds s (literal u) ≡ true → (k w : ℕ) → broken_along rel s u k w ≡ first_true s u (those (rel u) k w)
  along_those e zero w = refl
  along_those e (suc k) w =
      ap (λ b. cond (rel u w && (b && holds s (literal w))) (Some (literal u, literal w)) (broken_along rel s u k (suc w))) e
      ∙ ap (cond (rel u w && holds s (literal w)) (Some (literal u, literal w))) (along_those e k (suc w))
      ∙ go (rel u w)
    where
      go : (b : Bool) → cond (b && holds s (literal w)) (Some (literal u, literal w)) (first_true s u (those (rel u) k (suc w)))
          ≡ first_true s u (cond b (w ∷ those (rel u) k (suc w)) (those (rel u) k (suc w)))
      go true = refl
      go false = refl

  -- a false literal breaks nothing
  pub along_false : holds s (literal u) ≡ false → (k w : ℕ) → broken_along rel s u k w ≡ None
  along_false e zero w = refl
  along_false e (suc k) w = cond-false _ _ _ (and_right (rel u w) _ (and_left (holds s (literal u)) _ e)) ∙ along_false e k (suc w)

-- row after row
pub rows_broken : (N : ℕ) (rel : Rel) (s : Assignment) (u : ℕ) → u < N
    → broken_from N rel s (N - u) u ≡ or_else (broken_along rel s u (N - (u + 1)) (u + 1)) (broken_from N rel s (N - (u + 1)) (u + 1))
rows_broken N rel s u l =
    let e : N - u ≡ suc (N - (u + 1)) = omega arith in
    ap (λ k. broken_from N rel s k u) e
    ∙ ap (λ v. or_else (broken_along rel s u (N - v) v) (broken_from N rel s (N - (u + 1)) v)) (sym (add-one u))

-- the first of those that are left
pub first_here : (s : Assignment) (u w : ℕ) (ws later : List ℕ) → ws ≡ w ∷ later → holds s (literal w) ≡ true → first_true s u ws ≡ Some (literal u, literal w)
first_here s u w ws later e t = ap (first_true s u) e ∙ cond-true (holds s (literal w)) _ _ t
