-- The chains that a part's clauses have for the literals that it joins, and that a call admits each clique.
use Rattle.std.proofs.Common.{◌≡◌, ℕ, ◌+◌, ◌<◌, ◌≤◌, ◌≢◌, ◌↔◌, List, [], ◌∷◌, map, length, ℤ, pos, sym, refl, ap, ◌∙◌, subst, inl, inr, ⊎_elim, arith}
use Rattle.std.proofs.lemmas.Bool.{cond_both}
use Rattle.logic.specs.Literal.{variable, complement}
use Rattle.logic.specs.Clause.{Clause, against, In}
use Rattle.logic.specs.Chain.{Step, Chain, stay, via}
use Rattle.logic.proofs.Literals.{complement_complement, variable_complement}
use Rattle.logic.proofs.Clauses.{in_left, in_right}
use Rattle.logic.proofs.Chains.{one_step, chain_join, chain_more}
use Rattle.encoder_theory.specs.Members.{member}
use Rattle.encoder_theory.specs.Meaning.{Meaning, Admits, last_end}
use Rattle.encoder_theory.specs.Laws.{Lawful}
use Rattle.encoder_theory.specs.Pairwise.{pairwise}
use Rattle.encoder_theory.proofs.PairwiseLaws.{pairwise_lawful}
use Rattle.cover_theory.specs.Parts.{Part, clique, biclique, Cover, Joins, Remains, Sound, Partition}
use Rattle.formula_theory.specs.Writing.{chosen, implication, biclique_clauses, part_clauses, part_auxiliaries, conflict_clauses, clauses_from, written_clauses, over_parts, Numbered}
use Rattle.formula_theory.specs.Faithful.{Leads, stay as halt, via as onto, Told, LeadsByClauses}
use Rattle.formula_theory.proofs.Listed.{in_member, member_in, map_has, map_in}

-- ---- conflicts and their clauses
flip : (p q : ℤ) → complement p ≡ q → p ≡ complement q
flip p q e = sym (complement_complement p) ∙ ap complement e

in_as : (K : List (ℤ × ℤ)) (d : ℤ × ℤ) (p q : ℤ) → In d K → d.0 ≡ p → d.1 ≡ q → In (p, q) K
in_as K d p q h e f = subst (λ z. In (p, z) K) f (subst (λ z. In (z, d.1) K) e h)

abbrev clause_of : ℤ × ℤ → Clause
clause_of c = against c.0 c.1

-- a step in the clauses of conflicts is by a conflict, and a conflict gives a step
pub step_conflict : (K : List (ℤ × ℤ)) (p q : ℤ) → Step (conflict_clauses K) p q → Remains K p (complement q)
step_conflict K p q (inl h) =
    let r = map_in clause_of K _ h in
    inl (in_as K r.0 p (complement q) r.1 (flip _ _ (ap (λ (c : Clause). c.0) r.2) ∙ complement_complement p) (flip _ _ (ap (λ (c : Clause). c.1) r.2)))
step_conflict K p q (inr h) =
    let r = map_in clause_of K _ h in
    inr (in_as K r.0 (complement q) p r.1 (flip _ _ (ap (λ (c : Clause). c.0) r.2)) (flip _ _ (ap (λ (c : Clause). c.1) r.2) ∙ complement_complement p))

pub conflict_chain : (K : List (ℤ × ℤ)) (p q : ℤ) → Remains K p q → Chain (conflict_clauses K) p (complement q)
conflict_chain K p q (inl h) = one_step (inl (map_has clause_of K (p, q) h))
conflict_chain K p q (inr h) = one_step (inr (map_has clause_of K (q, p) h))

-- ---- chains told from conflicts
pub leads_join : {X : ℤ → ℤ → Type 0} {p q r : ℤ} → Leads X p q → Leads X q r → Leads X p r
leads_join halt l = l
leads_join (onto s k) l = onto s (leads_join k l)

pub lead : (X : ℤ → ℤ → Type 0) (p q : ℤ) → X p q → Leads X p (complement q)
lead X p q h = onto (subst (X p) (sym (complement_complement q)) h) halt

pub leads_chain : {X : ℤ → ℤ → Type 0} {L : List Clause} → ((p q : ℤ) → X p (complement q) → Chain L p q) → {p q : ℤ} → Leads X p q → Chain L p q
leads_chain f halt = stay
leads_chain f (onto h k) = chain_join (f _ _ h) (leads_chain f k)

pub chain_leads : {X : ℤ → ℤ → Type 0} {L : List Clause} → ((p q : ℤ) → Step L p q → X p (complement q)) → {p q : ℤ} → Chain L p q → Leads X p q
chain_leads f stay = halt
chain_leads f (via s k) = onto (f _ _ s) (chain_leads f k)

pub leads_clauses : (X : ℤ → ℤ → Type 0) (pairs : List (ℤ × ℤ)) → ((p q : ℤ) → X p q ↔ Remains pairs p q) → (p q : ℤ) → Leads X p q ↔ Chain (conflict_clauses pairs) p q
leads_clauses X pairs same p q = (
  leads_chain (λ x y h. subst (Chain (conflict_clauses pairs) x) (complement_complement y) (conflict_chain pairs x (complement y) ((same x (complement y)).0 h))),
  chain_leads (λ x y s. (same x (complement y)).1 (step_conflict pairs x y s)),
)

pub leads_by_clauses : LeadsByClauses
leads_by_clauses test = leads_clauses (Told test)

-- ---- parts
pub clique_admitted : (M : Meaning) (n z : ℕ) (xs : List ℤ) → Sound n (clique xs) → n < z
    → z + (chosen M (length xs)).auxiliaries (length xs) ≤ last_end → Admits (chosen M (length xs)) xs z
clique_admitted M n z xs s w f = record {
  few = s.3;
  starts = omega arith;
  fits = f;
  proper = record {
    literals = λ i l. (s.0 (member xs i) (in_member xs i l)).0;
    below = λ i l. let k = (s.0 (member xs i) (in_member xs i l)).1 in omega arith;
    distinct = s.1;
  };
}

module _ (M : Meaning) (law : Lawful M) where
  pub chosen_lawful : (m : ℕ) → Lawful (chosen M m)
  chosen_lawful m = cond_both _ M pairwise Lawful (λ e. law) (λ e. pairwise_lawful)

  module _ (n z : ℕ) (w : n < z) where
    clique_chain : (xs : List ℤ) → Sound n (clique xs) → z + (chosen M (length xs)).auxiliaries (length xs) ≤ last_end
        → (p q : ℤ) → In p xs → In q xs → p ≢ q → Chain ((chosen M (length xs)).list xs z) p (complement q)
    clique_chain xs s f p q ip iq ne =
        let a = member_in p xs ip in
        let b = member_in q xs iq in
        let same : a.0 ≡ b.0 → ⊥ = λ e. ne (a.2 ∙ ap (member xs) e ∙ sym b.2) in
        ((chosen_lawful (length xs)).exact_chains xs z (clique_admitted M n z xs s w f) p (complement q)
        (a.0, a.1, ap variable a.2) (b.0, b.1, variable_complement q ∙ ap variable b.2)
        (λ e. same (s.1 a.0 b.0 a.1 b.1 (sym (ap variable a.2) ∙ ap variable e ∙ variable_complement q ∙ ap variable b.2)))
        ).1 (a.0, b.0, a.1, b.1, same, a.2, ap complement b.2)

    biclique_chain : (xs ys : List ℤ) (p q : ℤ) → Joins (biclique xs ys) p q → Chain (biclique_clauses xs ys (pos z)) p (complement q)
    biclique_chain xs ys p q (inl h) =
        via (inl (in_left _ (map (λ a. implication a (pos z)) xs) (map (λ b. against (pos z) b) ys) (map_has (λ a. implication a (pos z)) xs p h.0)))
        (one_step (inl (in_right _ (map (λ a. implication a (pos z)) xs) (map (λ b. against (pos z) b) ys) (map_has (λ b. against (pos z) b) ys q h.1))))
    biclique_chain xs ys p q (inr h) =
        via (inr (in_right _ (map (λ a. implication a (pos z)) xs) (map (λ b. against (pos z) b) ys) (map_has (λ b. against (pos z) b) ys p h.0)))
        (one_step (inr (subst (λ y. In (complement q, y) (biclique_clauses xs ys (pos z))) (sym (complement_complement (pos z)))
        (in_left _ (map (λ a. implication a (pos z)) xs) (map (λ b. against (pos z) b) ys) (map_has (λ a. implication a (pos z)) xs q h.1)))))

    part_chain : (P : Part ℤ) → Sound n P → z + part_auxiliaries M P ≤ last_end → (p q : ℤ) → Joins P p q → Chain (part_clauses M P z) p (complement q)
    part_chain (clique xs) s f p q j = clique_chain xs s f p q j.0 j.1 j.2
    part_chain (biclique xs ys) s f p q j = biclique_chain xs ys p q j

  parts_chain : (n : ℕ) (Ps : List (Part ℤ)) (R : List (ℤ × ℤ)) (z : ℕ) → n < z → z + over_parts (part_auxiliaries M) Ps ≤ last_end
      → ((P : Part ℤ) → In P Ps → Sound n P) → (P : Part ℤ) → In P Ps → (p q : ℤ) → Joins P p q → Chain (clauses_from M Ps R z) p (complement q)
  parts_chain n [] R z w f s P h p q j = absurd h
  parts_chain n (Q ∷ Qs) R z w f s P (inl e) p q j =
      chain_more (λ c k. in_left c (part_clauses M Q z) (clauses_from M Qs R (z + part_auxiliaries M Q)) k)
      (part_chain n z w Q (s Q (inl refl)) (omega arith) p q (subst (λ X. Joins X p q) (sym e) j))
  parts_chain n (Q ∷ Qs) R z w f s P (inr h) p q j =
      chain_more (λ c k. in_right c (part_clauses M Q z) (clauses_from M Qs R (z + part_auxiliaries M Q)) k)
      (parts_chain n Qs R (z + part_auxiliaries M Q) (omega arith) (omega arith) (λ X k. s X (inr k)) P h p q j)

  rest_in : (Ps : List (Part ℤ)) (R : List (ℤ × ℤ)) (z : ℕ) (c : Clause) → In c (conflict_clauses R) → In c (clauses_from M Ps R z)
  rest_in [] R z c h = h
  rest_in (Q ∷ Qs) R z c h = in_right c (part_clauses M Q z) (clauses_from M Qs R (z + part_auxiliaries M Q)) (rest_in Qs R (z + part_auxiliaries M Q) c h)

  -- every conflict has its chain in what is written
  pub written_chain : (n : ℕ) (X : ℤ → ℤ → Type 0) (C : Cover) → Partition n X C → (first : ℕ) → Numbered n M C first
      → (p q : ℤ) → X p q → Chain (written_clauses M C first) p (complement q)
  written_chain n X C v first w p q h =
      ⊎_elim
      (λ (k : (P : Part ℤ) × In P C.parts × Joins P p q). parts_chain n C.parts C.remaining first w.above w.fits v.sound k.0 k.1 p q k.2)
      (λ k. chain_more (rest_in C.parts C.remaining first) (conflict_chain C.remaining p q k))
      (v.everywhere p q h)
