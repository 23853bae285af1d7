-- The rule that covers networks keeps what is asked of a rule.
use Rattle.std.proofs.Common.{◌≡◌, ℕ, ◌+◌, ◌/◌, true, sym, refl, ap, ◌∙◌}
use Rattle.logic.specs.Literal.{index, literal}
use Rattle.logic.proofs.Literals.{index_literal, variable_literal, literal_within}
use Rattle.cover_theory.specs.Rule.{Rel}
use Rattle.cover_theory.proofs.Partitions.{partition}
use Rattle.formula_theory.specs.Faithful.{Conflicts}
use Rattle.formula_theory.specs.Promise.{Between, Below, CoverPartitions}

module _ (n : ℕ) (rel : Rel) (below : Below n rel) (is : Conflicts n (Between n rel)) where
  at_indices : (u w : ℕ) → rel (index (literal u)) (index (literal w)) ≡ rel u w
  at_indices u w = ap (λ x. rel x (index (literal w))) (index_literal u) ∙ ap (rel u) (index_literal w)

  between : (u w : ℕ) → rel u w ≡ true → Between n rel (literal u) (literal w)
  between u w h = let b = below u w h in (literal_within n u b.0, literal_within n w b.1, at_indices u w ∙ h)

  back : (u w : ℕ) → rel u w ≡ true → rel w u ≡ true
  back u w h = sym (at_indices w u) ∙ (is.both_ways (literal u) (literal w) (between u w h)).2

  apart : (u w : ℕ) → rel u w ≡ true → u / 2 ≡ w / 2 → ⊥
  apart u w h e = is.distinct (literal u) (literal w) (between u w h) (variable_literal u ∙ ap (λ k. k + 1) e ∙ sym (variable_literal w))

pub cover_partitions : CoverPartitions
cover_partitions n rel below is =
    partition n rel (record { bound = below; back = back n rel below is; loose = λ u h. apart n rel below is u u h refl }) (apart n rel below is)
    (Between n rel) (λ p q h. h) (λ p q h. h)
