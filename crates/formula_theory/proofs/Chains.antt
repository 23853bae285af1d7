-- Chains in what is written, between original literals, are chains in the conflicts.
use Rattle.std.proofs.Common.{◌≡◌, ℕ, zero, suc, ◌+◌, ◌<◌, ◌≤◌, ◌⊎◌, List, [], ◌∷◌, ◌++◌, map, length, ℤ, pos, sym, refl, ap, ◌∙◌, subst, inl, inr, ⊎_elim, arith}
use lib.IntN.{ℤ_discrete, pos-ne-negsuc}
use Rattle.logic.specs.Literal.{variable, complement, Literal}
use Rattle.logic.specs.Clause.{Clause, against, In}
use Rattle.logic.specs.Chain.{Step, Chain, stay, via}
use Rattle.logic.specs.Gluing.{Uses}
use Rattle.logic.proofs.Literals.{complement_complement, variable_complement}
use Rattle.logic.proofs.Clauses.{in_cases}
use Rattle.logic.proofs.Gluing.{chain_ends, uses_cases, glue_two}
use Rattle.encoder_theory.specs.Members.{member, OnMember, OnAuxiliary}
use Rattle.encoder_theory.specs.Meaning.{Meaning, Admits, last_end}
use Rattle.encoder_theory.specs.Laws.{Lawful, Own}
use Rattle.cover_theory.specs.Parts.{Part, clique, biclique, Cover, Joins, Sound, Partition}
use Rattle.formula_theory.specs.Writing.{chosen, implication, part_clauses, part_auxiliaries, conflict_clauses, clauses_from, written_clauses, over_parts, Numbered}
use Rattle.formula_theory.specs.Faithful.{Conflicts, Leads, stay as halt, via as onto, SameChains}
use Rattle.formula_theory.proofs.Listed.{in_member, map_in}
use Rattle.formula_theory.proofs.Pieces.{step_conflict, leads_join, lead, leads_chain, chain_leads, clique_admitted, chosen_lawful, written_chain}

-- ---- which variables stand where: original ones, and w auxiliaries from z on
abbrev Area : ℕ → ℕ → ℕ → ℕ → Type 0
Area n z w v = (v ≤ n) ⊎ ((z ≤ v) × (v < z + w))

one_of : (P : ℕ → Type 0) (c : Clause) (v : ℕ) → P (variable c.0) → P (variable c.1) → (variable c.0 ≡ v) ⊎ (variable c.1 ≡ v) → P v
one_of P c v a b (inl e) = subst P e a
one_of P c v a b (inr e) = subst P e b

side_low : (n : ℕ) (xs : List ℤ) → ((p : ℤ) → In p xs → Literal n p) → (p : ℤ) → In p xs → variable (complement p) ≤ n
side_low n xs s p a = let e = variable_complement p in omega (arith, (s p a).1)

signs : (z : ℕ) → 0 < z → pos z ≡ complement (pos z) → ⊥
signs zero h e = omega arith
signs (suc k) h e = pos-ne-negsuc (suc k) k e

-- the two kinds of clauses of a biclique
abbrev up : ℕ → ℤ → Clause
up z a = implication a (pos z)

abbrev down : ℕ → ℤ → Clause
down z b = against (pos z) b

module _ (M : Meaning) (law : Lawful M) (n : ℕ) where
  own_area : (z w : ℕ) (xs : List ℤ) → Sound n (clique xs) → (p : ℤ) → OnMember xs p ⊎ OnAuxiliary z w p → Area n z w (variable p)
  own_area z w xs s p (inl (i, l, e)) = inl (let b = (s.0 (member xs i) (in_member xs i l)).1 in omega arith)
  own_area z w xs s p (inr h) = inr h

  sides_area : (z : ℕ) (xs ys : List ℤ) → Sound n (biclique xs ys) → (c : Clause) → In c (map (up z) xs) ⊎ In c (map (down z) ys)
      → Area n z 1 (variable c.0) × Area n z 1 (variable c.1)
  sides_area z xs ys s c (inl h) =
      let r = map_in (up z) xs c h in
      subst (λ (d : Clause). Area n z 1 (variable d.0) × Area n z 1 (variable d.1)) r.2 (inl (side_low n xs s.0 r.0 r.1), inr (omega arith, omega arith))
  sides_area z xs ys s c (inr h) =
      let r = map_in (down z) ys c h in
      let e = variable_complement (pos z) in
      subst (λ (d : Clause). Area n z 1 (variable d.0) × Area n z 1 (variable d.1)) r.2 (inr (omega arith, omega arith), inl (side_low n ys s.1 r.0 r.1))

  part_area : (z : ℕ) → n < z → (P : Part ℤ) → Sound n P → z + part_auxiliaries M P ≤ last_end
      → (v : ℕ) → Uses (part_clauses M P z) v → Area n z (part_auxiliaries M P) v
  part_area z w (clique xs) s f v (c, h, u) =
      let o = (chosen_lawful M law (length xs)).well_formed.own xs z (clique_admitted M n z xs s w f) c h in
      one_of (Area n z ((chosen M (length xs)).auxiliaries (length xs))) c v (own_area z _ xs s c.0 o.0) (own_area z _ xs s c.1 o.1) u
  part_area z w (biclique xs ys) s f v (c, h, u) =
      let o = sides_area z xs ys s c (in_cases c (map (up z) xs) (map (down z) ys) h) in
      one_of (Area n z 1) c v o.0 o.1 u

  rest_low : (R : List (ℤ × ℤ)) → ((p q : ℤ) → In (p, q) R → Literal n p × Literal n q) → (v : ℕ) → Uses (conflict_clauses R) v → v ≤ n
  rest_low R f v (c, h, u) =
      let r = map_in (λ (d : ℤ × ℤ). against d.0 d.1) R c h in
      let k = f r.0.0 r.0.1 r.1 in
      let e = variable_complement r.0.0 in
      let g = variable_complement r.0.1 in
      one_of (λ v. v ≤ n) c v
      (subst (λ (d : Clause). variable d.0 ≤ n) r.2 (omega (arith, k.0.1)))
      (subst (λ (d : Clause). variable d.1 ≤ n) r.2 (omega (arith, k.1.1))) u

  later_area : (R : List (ℤ × ℤ)) → ((p q : ℤ) → In (p, q) R → Literal n p × Literal n q)
      → (Ps : List (Part ℤ)) (z : ℕ) → n < z → z + over_parts (part_auxiliaries M) Ps ≤ last_end → ((P : Part ℤ) → In P Ps → Sound n P)
      → (v : ℕ) → Uses (clauses_from M Ps R z) v → (v ≤ n) ⊎ (z ≤ v)
  later_area R g [] z w f s v u = inl (rest_low R g v u)
  later_area R g (P ∷ Ps) z w f s v u =
      ⊎_elim
      (λ k. ⊎_elim inl (λ o. inr o.0) (part_area z w P (s P (inl refl)) (omega arith) v k))
      (λ k. ⊎_elim inl (λ o. inr (omega arith)) (later_area R g Ps (z + part_auxiliaries M P) (omega arith) (omega arith) (λ X h. s X (inr h)) v k))
      (uses_cases (part_clauses M P z) (clauses_from M Ps R (z + part_auxiliaries M P)) v u)

  -- an original literal in a clique's clauses is on a member's variable
  on_member : (z : ℕ) (xs : List ℤ) → n < z → (p : ℤ) → variable p ≤ n → Admits (chosen M (length xs)) xs z
      → Uses ((chosen M (length xs)).list xs z) (variable p) → OnMember xs p
  on_member z xs w p l ok (c, h, u) =
      let o = (chosen_lawful M law (length xs)).well_formed.own xs z ok c h in
      ⊎_elim (λ e. low c.0 e o.0) (λ e. low c.1 e o.1) u
    where
      low : (d : ℤ) → variable d ≡ variable p → Own (chosen M (length xs)) xs z d → OnMember xs p
      low d e (inl (i, k, f)) = (i, k, sym e ∙ f)
      low d e (inr k) = absurd (omega (arith, k.0))

  module _ (X : ℤ → ℤ → Type 0) where
    clique_leads : (z : ℕ) → n < z → (xs : List ℤ) → Sound n (clique xs) → z + (chosen M (length xs)).auxiliaries (length xs) ≤ last_end
        → ((p q : ℤ) → Joins (clique xs) p q → X p q)
        → (p q : ℤ) → variable p ≤ n → variable q ≤ n → Chain ((chosen M (length xs)).list xs z) p q → Leads X p q
    clique_leads z w xs s f g p q lp lq k = ends (chain_ends k) (ℤ_discrete p q)
      where
        ends : (p ≡ q) ⊎ (Uses ((chosen M (length xs)).list xs z) (variable p) × Uses ((chosen M (length xs)).list xs z) (variable q)) → Dec (p ≡ q) → Leads X p q
        ends u (yes e) = subst (Leads X p) e halt
        ends (inl e) (no ne) = absurd (ne e)
        ends (inr u) (no ne) =
            let ok = clique_admitted M n z xs s w f in
            let x = ((chosen_lawful M law (length xs)).exact_chains xs z ok p q (on_member z xs w p lp ok u.0) (on_member z xs w q lq ok u.1) ne).0 k in
            let eq : member xs x.1 ≡ complement q = sym (complement_complement (member xs x.1)) ∙ ap complement (sym x.6) in
            onto (g p (complement q) (
              subst (λ y. In y xs) (sym x.5) (in_member xs x.0 x.2),
              subst (λ y. In y xs) eq (in_member xs x.1 x.3),
              (λ e. x.4 (s.1 x.0 x.1 x.2 x.3 (ap variable (sym x.5 ∙ e ∙ sym eq)))),
            )) halt

    -- where a chain from p through a biclique's clauses may be: at an original literal, or at the auxiliary or its complement
    abbrev Reached : ℕ → List ℤ → List ℤ → ℤ → ℤ → Type 0
    Reached z xs ys p r = ((variable r ≤ n) × Leads X p r)
        ⊎ (((r ≡ pos z) × ((a : ℤ) × In a xs × Leads X p a)) ⊎ ((r ≡ complement (pos z)) × ((b : ℤ) × In b ys × Leads X p b)))

    module _ (z : ℕ) (w : n < z) (xs ys : List ℤ) (s : Sound n (biclique xs ys)) (f : (p q : ℤ) → Joins (biclique xs ys) p q → X p q) where
      low : (p r : ℤ) → Reached z xs ys p r → variable r ≤ n → Leads X p r
      low p r (inl m) l = m.1
      low p r (inr (inl m)) l = let e = ap variable m.0 in absurd (omega arith)
      low p r (inr (inr m)) l = let e = ap variable m.0 in let g = variable_complement (pos z) in absurd (omega arith)

      at_up : (p r : ℤ) → Reached z xs ys p r → r ≡ pos z → (a : ℤ) × In a xs × Leads X p a
      at_up p r (inl m) h = let e = ap variable h in absurd (omega (arith, m.0))
      at_up p r (inr (inl m)) h = m.1
      at_up p r (inr (inr m)) h = absurd (signs z (omega arith) (sym h ∙ m.0))

      at_down : (p r : ℤ) → Reached z xs ys p r → r ≡ complement (pos z) → (b : ℤ) × In b ys × Leads X p b
      at_down p r (inl m) h = let e = ap variable h in let g = variable_complement (pos z) in absurd (omega (arith, m.0))
      at_down p r (inr (inl m)) h = absurd (signs z (omega arith) (sym m.0 ∙ h))
      at_down p r (inr (inr m)) h = m.1

      go_up : (p r t : ℤ) → Reached z xs ys p r → (d : ℤ) → In d xs → r ≡ d → t ≡ pos z → Reached z xs ys p t
      go_up p r t m d a e h = inr (inl (h, (r, subst (λ y. In y xs) (sym e) a, low p r m (subst (λ x. variable x ≤ n) (sym e) (s.0 d a).1))))

      go_down : (p r t : ℤ) → Reached z xs ys p r → (d : ℤ) → In d ys → r ≡ d → t ≡ complement (pos z) → Reached z xs ys p t
      go_down p r t m d a e h = inr (inr (h, (r, subst (λ y. In y ys) (sym e) a, low p r m (subst (λ x. variable x ≤ n) (sym e) (s.1 d a).1))))

      out_up : (p r t : ℤ) → Reached z xs ys p r → (b : ℤ) → In b ys → r ≡ pos z → t ≡ complement b → Reached z xs ys p t
      out_up p r t m b i e h =
          let k = at_up p r m e in
          inl (
            subst (λ x. variable x ≤ n) (sym h) (side_low n ys s.1 b i),
            subst (Leads X p) (sym h) (leads_join k.2 (lead X k.0 b (f k.0 b (inl (k.1, i))))),
          )

      out_down : (p r t : ℤ) → Reached z xs ys p r → (a : ℤ) → In a xs → r ≡ complement (pos z) → t ≡ complement a → Reached z xs ys p t
      out_down p r t m a i e h =
          let k = at_down p r m e in
          inl (
            subst (λ x. variable x ≤ n) (sym h) (side_low n xs s.0 a i),
            subst (Leads X p) (sym h) (leads_join k.2 (lead X k.0 a (f k.0 a (inr (k.1, i))))),
          )

      same : (p q : ℤ) → complement p ≡ complement q → q ≡ p
      same p q e = sym (complement_complement q) ∙ ap complement (sym e) ∙ complement_complement p

      onward : (p r t : ℤ) → Reached z xs ys p r → Step (map (up z) xs ++ map (down z) ys) r t → Reached z xs ys p t
      onward p r t m (inl h) =
          ⊎_elim
          (λ k. let x = map_in (up z) xs _ k in go_up p r t m x.0 x.1 (same _ _ (ap (λ (c : Clause). c.0) x.2)) (sym (ap (λ (c : Clause). c.1) x.2)))
          (λ k. let x = map_in (down z) ys _ k in out_up p r t m x.0 x.1 (same _ _ (ap (λ (c : Clause). c.0) x.2)) (sym (ap (λ (c : Clause). c.1) x.2)))
          (in_cases _ (map (up z) xs) (map (down z) ys) h)
      onward p r t m (inr h) =
          ⊎_elim
          (λ k. let x = map_in (up z) xs _ k in out_down p r t m x.0 x.1 (sym (complement_complement r) ∙ ap complement (sym (ap (λ (c : Clause). c.1) x.2))) (sym (ap (λ (c : Clause). c.0) x.2)))
          (λ k. let x = map_in (down z) ys _ k in go_down p r t m x.0 x.1 (same _ _ (ap (λ (c : Clause). c.1) x.2)) (sym (ap (λ (c : Clause). c.0) x.2)))
          (in_cases _ (map (up z) xs) (map (down z) ys) h)

      through : {r q : ℤ} → Chain (map (up z) xs ++ map (down z) ys) r q → (p : ℤ) → Reached z xs ys p r → variable q ≤ n → Leads X p q
      through {r} stay p m l = low p r m l
      through {r} (via {q = t} h k) p m l = through k p (onward p r t m h) l

    part_leads : (z : ℕ) → n < z → (P : Part ℤ) → Sound n P → z + part_auxiliaries M P ≤ last_end → ((p q : ℤ) → Joins P p q → X p q)
        → (p q : ℤ) → variable p ≤ n → variable q ≤ n → Chain (part_clauses M P z) p q → Leads X p q
    part_leads z w (clique xs) s l f p q lp lq k = clique_leads z w xs s l f p q lp lq k
    part_leads z w (biclique xs ys) s l f p q lp lq k = through z w xs ys s f k p (inl (lp, halt)) lq

    module _ (is : Conflicts n X) (R : List (ℤ × ℤ)) (g : (p q : ℤ) → In (p, q) R → X p q) where
      rest_step : (p q : ℤ) → Step (conflict_clauses R) p q → X p (complement q)
      rest_step p q s = ⊎_elim (g p (complement q)) (λ h. is.both_ways (complement q) p (g (complement q) p h)) (step_conflict R p q s)

      all_lead : (Ps : List (Part ℤ)) (z : ℕ) → n < z → z + over_parts (part_auxiliaries M) Ps ≤ last_end
          → ((P : Part ℤ) → In P Ps → Sound n P) → ((P : Part ℤ) → In P Ps → (p q : ℤ) → Joins P p q → X p q)
          → (p q : ℤ) → variable p ≤ n → variable q ≤ n → Chain (clauses_from M Ps R z) p q → Leads X p q
      all_lead [] z w l s f p q lp lq k = chain_leads rest_step k
      all_lead (P ∷ Ps) z w l s f p q lp lq k =
          glue_two (λ v. v ≤ n) (Leads X) (λ x. halt) (λ x y t. leads_join) (part_clauses M P z) (clauses_from M Ps R (z + part_auxiliaries M P))
          (λ v a b. meet_at v (part_area z w P (s P (inl refl)) (omega arith) v a)
          (later_area R (λ x y h. is.original x y (g x y h)) Ps (z + part_auxiliaries M P) (omega arith) (omega arith) (λ X h. s X (inr h)) v b))
          (part_leads z w P (s P (inl refl)) (omega arith) (f P (inl refl)))
          (all_lead Ps (z + part_auxiliaries M P) (omega arith) (omega arith) (λ X h. s X (inr h)) (λ X h. f X (inr h)))
          p q lp lq k
        where
          meet_at : (v : ℕ) → Area n z (part_auxiliaries M P) v → (v ≤ n) ⊎ (z + part_auxiliaries M P ≤ v) → v ≤ n
          meet_at v (inl a) b = a
          meet_at v (inr a) (inl b) = b
          meet_at v (inr a) (inr b) = absurd (omega (arith, a.1))

pub same_chains : (X : ℤ → ℤ → Type 0) (M : Meaning) → Lawful M → (n : ℕ) (C : Cover) → Conflicts n X → Partition n X C
    → (first : ℕ) → Numbered n M C first → SameChains n X (written_clauses M C first)
same_chains X M law n C is v first w p q lp lq = (
  all_lead M law n X is C.remaining v.left C.parts first w.above w.fits v.sound v.joined p q lp.1 lq.1,
  leads_chain (λ x y h. subst (Chain (written_clauses M C first) x) (complement_complement y) (written_chain M law n X C v first w x (complement y) h)),
)
