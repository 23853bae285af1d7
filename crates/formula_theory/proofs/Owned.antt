-- The written clauses are on original variables and auxiliaries only.
use Rattle.std.proofs.Common.{ℕ, ◌+◌, ◌<◌, ◌≤◌, List, [], ◌∷◌, map, length, ℤ, pos, refl, subst, inl, inr, ⊎_elim, arith}
use Rattle.logic.specs.Literal.{Literal}
use Rattle.logic.specs.Clause.{Clause, against, In}
use Rattle.logic.proofs.Literals.{variable_complement, complement_within}
use Rattle.logic.proofs.Clauses.{in_cases}
use Rattle.encoder_theory.specs.Members.{member}
use Rattle.encoder_theory.specs.Meaning.{Meaning, last_end}
use Rattle.encoder_theory.specs.Laws.{Lawful, Own}
use Rattle.cover_theory.specs.Parts.{Part, clique, biclique, Cover, Sound, Partition}
use Rattle.formula_theory.specs.Writing.{chosen, implication, part_clauses, part_auxiliaries, conflict_clauses, clauses_from, written_clauses, over_parts, auxiliary_count, Numbered}
use Rattle.formula_theory.specs.Faithful.{Conflicts, OnOwn}
use Rattle.formula_theory.proofs.Listed.{in_member, map_in}
use Rattle.formula_theory.proofs.Pieces.{clique_admitted, chosen_lawful}

abbrev Both : ℕ → ℕ → ℕ → Clause → Type 0
Both n z count c = OnOwn n z count c.0 × OnOwn n z count c.1

module _ (M : Meaning) (law : Lawful M) (n : ℕ) where
  clique_own : (z : ℕ) (xs : List ℤ) → Sound n (clique xs) → (p : ℤ) → Own (chosen M (length xs)) xs z p → OnOwn n z ((chosen M (length xs)).auxiliaries (length xs)) p
  clique_own z xs s p (inl (i, l, e)) = inl (let k = s.0 (member xs i) (in_member xs i l) in (omega (arith, k.0), omega (arith, k.1)))
  clique_own z xs s p (inr h) = inr h

  part_own : (z : ℕ) → n < z → (P : Part ℤ) → Sound n P → z + part_auxiliaries M P ≤ last_end → (c : Clause) → In c (part_clauses M P z) → Both n z (part_auxiliaries M P) c
  part_own z w (clique xs) s f c h =
      let o = (chosen_lawful M law (length xs)).well_formed.own xs z (clique_admitted M n z xs s w f) c h in
      (clique_own z xs s c.0 o.0, clique_own z xs s c.1 o.1)
  part_own z w (biclique xs ys) s f c h =
      ⊎_elim
      (λ k. let x = map_in (λ a. implication a (pos z)) xs c k in
      subst (Both n z 1) x.2 (inl (complement_within n x.0 (s.0 x.0 x.1)), inr (omega arith, omega arith)))
      (λ k. let x = map_in (λ b. against (pos z) b) ys c k in let e = variable_complement (pos z) in
      subst (Both n z 1) x.2 (inr (omega arith, omega arith), inl (complement_within n x.0 (s.1 x.0 x.1))))
      (in_cases c (map (λ a. implication a (pos z)) xs) (map (λ b. against (pos z) b) ys) h)

  wider : (z z' count count' : ℕ) → z ≤ z' → z' + count' ≤ z + count → (p : ℤ) → OnOwn n z' count' p → OnOwn n z count p
  wider z z' count count' l u p (inl h) = inl h
  wider z z' count count' l u p (inr h) = inr (omega (arith, h.0), omega (arith, h.1))

  module _ (R : List (ℤ × ℤ)) (lit : (p q : ℤ) → In (p, q) R → Literal n p × Literal n q) where
    rest_own : (z count : ℕ) (c : Clause) → In c (conflict_clauses R) → Both n z count c
    rest_own z count c h =
        let x = map_in (λ (d : ℤ × ℤ). against d.0 d.1) R c h in
        let l = lit x.0.0 x.0.1 x.1 in
        subst (Both n z count) x.2 (inl (complement_within n x.0.0 l.0), inl (complement_within n x.0.1 l.1))

    all_own : (Ps : List (Part ℤ)) (z : ℕ) → n < z → z + over_parts (part_auxiliaries M) Ps ≤ last_end → ((P : Part ℤ) → In P Ps → Sound n P)
        → (c : Clause) → In c (clauses_from M Ps R z) → Both n z (over_parts (part_auxiliaries M) Ps) c
    all_own [] z w f s c h = rest_own z 0 c h
    all_own (P ∷ Ps) z w f s c h =
        let a : ℕ = part_auxiliaries M P in
        let b : ℕ = over_parts (part_auxiliaries M) Ps in
        ⊎_elim
        (λ k. let o = part_own z w P (s P (inl refl)) (omega arith) c k in
        (wider z z (a + b) a (omega arith) (omega arith) c.0 o.0, wider z z (a + b) a (omega arith) (omega arith) c.1 o.1))
        (λ k. let o = all_own Ps (z + a) (omega arith) (omega arith) (λ X i. s X (inr i)) c k in
        (wider z (z + a) (a + b) b (omega arith) (omega arith) c.0 o.0, wider z (z + a) (a + b) b (omega arith) (omega arith) c.1 o.1))
        (in_cases c (part_clauses M P z) (clauses_from M Ps R (z + a)) h)

pub written_own : (X : ℤ → ℤ → Type 0) (M : Meaning) → Lawful M → (n : ℕ) (C : Cover) → Conflicts n X → Partition n X C
    → (first : ℕ) → Numbered n M C first → (c : Clause) → In c (written_clauses M C first) → Both n first (auxiliary_count M C) c
written_own X M law n C is v first w =
    all_own M law n C.remaining (λ p q h. is.original p q (v.left p q h)) C.parts first w.above w.fits v.sound
