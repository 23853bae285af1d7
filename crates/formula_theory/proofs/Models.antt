-- Assignments that break no conflict are just those that the written clauses allow.
use Rattle.std.proofs.Common.{◌≡◌, ℕ, zero, suc, ◌+◌, ◌-◌, ◌<◌, ◌≤◌, Bool, true, false, cond, not, ◌||◌, ltb, ◌≢◌, ◌⊎◌, List, [], ◌∷◌, ◌++◌, map, length, get_or, ℤ, pos, negsuc, Some, None, Option, sym, refl, ap, ◌∙◌, subst, inl, inr, ⊎_elim, arith, length-append, get_or-append-add}
use lib.ListN.{get_or-append}
use Rattle.std.specs.Option.{option_map}
use Rattle.std.proofs.lemmas.Bool.{cases_Bool, both_ways, cond-true, cond-false, lt-ltb, le-ltb, eq-eqb, ne_eqb, or_left, or_right, cases_eq}
use Rattle.logic.specs.Literal.{variable, Literal}
use Rattle.logic.specs.Clause.{against, Assignment, holds, Met, In, Satisfies}
use Rattle.logic.proofs.Literals.{not_both, complement_holds, holds_variable}
use Rattle.logic.proofs.Clauses.{in_cases, against_met}
use Rattle.logic.proofs.Chains.{chain_holds}
use Rattle.encoder_theory.specs.Members.{member, Within, at_place, OneTrue, Takes}
use Rattle.encoder_theory.specs.Meaning.{Meaning, last_end}
use Rattle.encoder_theory.specs.Laws.{Lawful}
use Rattle.cover_theory.specs.Parts.{Part, clique, biclique, Cover, Joins, Sound, Partition}
use Rattle.formula_theory.specs.Writing.{implication, part_clauses, part_auxiliaries, conflict_clauses, clauses_from, written_clauses, over_parts, auxiliary_count, true_place, some_true, part_values, values_from, auxiliary_values, with_values, Numbered}
use Rattle.formula_theory.specs.Faithful.{Conflicts, BreaksNone, SameModels}
use Rattle.formula_theory.proofs.Listed.{in_member, map_in}
use Rattle.formula_theory.proofs.Pieces.{clique_admitted, chosen_lawful, written_chain}

-- ---- the one true member
abbrev next : Option ℕ → Option ℕ
next t = option_map (λ i. i + 1) t

first_next : (t : Option ℕ) → at_place (next t) 0 ≡ false
first_next None = refl
first_next (Some i) = ne_eqb 0 (i + 1) (λ e. omega arith)

later_next : (t : Option ℕ) (i : ℕ) → at_place (next t) (suc i) ≡ at_place t i
later_next None i = refl
later_next (Some j) i = ⊎_elim
    (λ e. eq-eqb (suc i) (j + 1) (omega arith) ∙ sym (eq-eqb i j e))
    (λ n. ne_eqb (suc i) (j + 1) (λ e. n (omega arith)) ∙ sym (ne_eqb i j n))
    (cases_eq i j)

within_next : (t : Option ℕ) (m : ℕ) → Within t m → Within (next t) (suc m)
within_next None m h = tt
within_next (Some j) m h = omega arith

pub within_true : (s : Assignment) (xs : List ℤ) → Within (true_place s xs) (length xs)
within_true s [] = tt
within_true s (x ∷ xs) = go (holds s x) (within_true s xs)
  where
    go : (b : Bool) → Within (true_place s xs) (length xs) → Within (cond b (Some 0) (next (true_place s xs))) (suc (length xs))
    go true h = omega arith
    go false h = within_next (true_place s xs) (length xs) h

pub one_true : (s : Assignment) (xs : List ℤ)
    → ((i j : ℕ) → i < length xs → j < length xs → i ≢ j → holds s (member xs i) ≡ true → holds s (member xs j) ≡ true → ⊥)
    → OneTrue s xs (true_place s xs)
one_true s [] h i l = absurd (omega arith)
one_true s (x ∷ xs) h i l =
    go (holds s x) refl i l (one_true s xs (λ i j li lj n. h (suc i) (suc j) (omega arith) (omega arith) (λ e. n (omega arith))))
  where
    other : (b : Bool) → (b ≡ true → ⊥) → b ≡ false
    other true f = absurd (f refl)
    other false f = refl

    go : (b : Bool) → holds s x ≡ b → (i : ℕ) → i < length (x ∷ xs) → OneTrue s xs (true_place s xs)
        → holds s (member (x ∷ xs) i) ≡ at_place (cond b (Some 0) (next (true_place s xs))) i
    go true e zero l o = e
    go true e (suc i) l o = other (holds s (member xs i)) (λ t. h 0 (suc i) (omega arith) l (λ z. omega arith) e t) ∙ sym (ne_eqb (suc i) 0 (λ z. omega arith))
    go false e zero l o = e ∙ sym (first_next (true_place s xs))
    go false e (suc i) l o = o i (omega arith) ∙ sym (later_next (true_place s xs) i)

-- ---- some true literal
some_has : (s : Assignment) (xs : List ℤ) (p : ℤ) → In p xs → holds s p ≡ true → some_true s xs ≡ true
some_has s [] p h t = absurd h
some_has s (x ∷ xs) p (inl e) t = or_left (holds s x) (some_true s xs) (ap (holds s) e ∙ t)
some_has s (x ∷ xs) p (inr h) t = or_right (holds s x) (some_true s xs) (some_has s xs p h t)

some_found : (s : Assignment) (xs : List ℤ) → some_true s xs ≡ true → (p : ℤ) × In p xs × (holds s p ≡ true)
some_found s [] h = absurd (both_ways false refl h)
some_found s (x ∷ xs) h = go (holds s x) refl (some_found s xs) h
  where
    go : (b : Bool) → holds s x ≡ b → (some_true s xs ≡ true → (p : ℤ) × In p xs × (holds s p ≡ true)) → (b || some_true s xs) ≡ true
        → (p : ℤ) × In p (x ∷ xs) × (holds s p ≡ true)
    go true e f h = (x, inl refl, e)
    go false e f h = let r = f h in (r.0, inr r.1, r.2)

-- ---- assignments that agree
pub holds_same : (s t : Assignment) (p : ℤ) → s (variable p) ≡ t (variable p) → holds s p ≡ holds t p
holds_same s t (pos zero) e = refl
holds_same s t (pos (suc n)) e = e
holds_same s t (negsuc n) e = ap not e

-- ---- values part by part
pub takes_left : (s : Assignment) (f : ℕ) (us vs : List Bool) → Takes s f (us ++ vs) → Takes s f us
takes_left s f us vs h k l =
    let e = length-append us vs in h k (omega arith) ∙ get_or-append us vs false k l

pub takes_right : (s : Assignment) (f : ℕ) (us vs : List Bool) → Takes s f (us ++ vs) → Takes s (f + length us) vs
takes_right s f us vs h k l =
    let e = length-append us vs in
    let a : f + length us + k ≡ f + (length us + k) = omega arith in
    ap s a ∙ h (length us + k) (omega arith) ∙ get_or-append-add us vs k false

pub below_kept : (s : Assignment) (first : ℕ) (vs : List Bool) (v : ℕ) → v < first → with_values s first vs v ≡ s v
below_kept s first vs v l = cond-true (ltb v first) _ _ (lt-ltb v first l)

pub values_taken : (s : Assignment) (first : ℕ) (vs : List Bool) → Takes (with_values s first vs) first vs
values_taken s first vs k l =
    let e : first + k - first ≡ k = omega arith in
    cond-false (ltb (first + k) first) _ _ (le-ltb _ _ (omega arith))
    ∙ cond-true (ltb (first + k) (first + length vs)) _ _ (lt-ltb _ _ (omega arith))
    ∙ ap (λ n. get_or vs n false) e

module _ (M : Meaning) (law : Lawful M) (n : ℕ) where
  pub length_part : (s : Assignment) (P : Part ℤ) → Sound n P → length (part_values M s P) ≡ part_auxiliaries M P
  length_part s (clique xs) o = (chosen_lawful M law (length xs)).well_formed.valued (length xs) (true_place s xs) o.3 (within_true s xs)
  length_part s (biclique xs ys) o = refl

  pub length_values : (s : Assignment) (Ps : List (Part ℤ)) → ((P : Part ℤ) → In P Ps → Sound n P) → length (values_from M s Ps) ≡ over_parts (part_auxiliaries M) Ps
  length_values s [] o = refl
  length_values s (P ∷ Ps) o =
      let e = length_part s P (o P (inl refl)) in
      let f = length_values s Ps (λ Q h. o Q (inr h)) in
      let g = length-append (part_values M s P) (values_from M s Ps) in omega arith

  -- an assignment t that agrees with s on the original variables, and has the values of s from z on
  module _ (s t : Assignment) (same : (v : ℕ) → v ≤ n → t v ≡ s v) where
    as_s : (p : ℤ) → variable p ≤ n → holds t p ≡ holds s p
    as_s p l = holds_same t s p (same (variable p) l)

    part_met : (z : ℕ) → n < z → (P : Part ℤ) → Sound n P → z + part_auxiliaries M P ≤ last_end
        → ((p q : ℤ) → Joins P p q → holds s p ≡ true → holds s q ≡ true → ⊥)
        → Takes t z (part_values M s P) → Satisfies t (part_clauses M P z)
    part_met z w (clique xs) o l f k c h =
        (chosen_lawful M law (length xs)).completable xs z (clique_admitted M n z xs o w l) t (true_place s xs) (within_true s xs)
        (λ i li. as_s (member xs i) (o.0 (member xs i) (in_member xs i li)).1
        ∙ one_true s xs (λ i j li lj ne. f (member xs i) (member xs j)
        (in_member xs i li, in_member xs j lj, (λ e. ne (o.1 i j li lj (ap variable e))))) i li) k c h
    part_met z w (biclique xs ys) o l f k c h =
        let e : z ≡ z + 0 = omega arith in
        let y : holds t (pos z) ≡ some_true s xs = holds_variable t z (omega arith) ∙ ap t e ∙ k 0 (omega arith) in
        ⊎_elim
        (λ i. let x = map_in (λ a. implication a (pos z)) xs c i in subst (Met t) x.2 (up_met y x.0 x.1 (cases_Bool (holds s x.0))))
        (λ i. let x = map_in (λ b. against (pos z) b) ys c i in subst (Met t) x.2 (down_met y x.0 x.1 (cases_Bool (some_true s xs))))
        (in_cases c (map (λ a. implication a (pos z)) xs) (map (λ b. against (pos z) b) ys) h)
      where
        up_met : holds t (pos z) ≡ some_true s xs → (p : ℤ) → In p xs → (holds s p ≡ true) ⊎ (holds s p ≡ false) → Met t (implication p (pos z))
        up_met y p i (inl e) = inr (y ∙ some_has s xs p i e)
        up_met y p i (inr e) = inl (complement_holds t p (o.0 p i).0 (as_s p (o.0 p i).1 ∙ e))

        down_met : holds t (pos z) ≡ some_true s xs → (q : ℤ) → In q ys → (some_true s xs ≡ true) ⊎ (some_true s xs ≡ false) → Met t (against (pos z) q)
        down_met y q i (inl e) =
            let x = some_found s xs e in
            ⊎_elim (λ u. absurd (f x.0 q (inl (x.1, i)) x.2 u)) (λ u. inr (complement_holds t q (o.1 q i).0 (as_s q (o.1 q i).1 ∙ u))) (cases_Bool (holds s q))
        down_met y q i (inr e) = inl (complement_holds t (pos z) (omega arith) (y ∙ e))

    module _ (R : List (ℤ × ℤ)) (lit : (p q : ℤ) → In (p, q) R → Literal n p × Literal n q)
        (g : (p q : ℤ) → In (p, q) R → holds s p ≡ true → holds s q ≡ true → ⊥) where
      rest_met : Satisfies t (conflict_clauses R)
      rest_met c h =
          let x = map_in (λ (d : ℤ × ℤ). against d.0 d.1) R c h in
          let l = lit x.0.0 x.0.1 x.1 in
          subst (Met t) x.2 ((against_met t x.0.0 x.0.1 l.0.0 l.1.0).1
          (λ both. g x.0.0 x.0.1 x.1 (sym (as_s x.0.0 l.0.1) ∙ both.0) (sym (as_s x.0.1 l.1.1) ∙ both.1)))

      all_met : (Ps : List (Part ℤ)) (z : ℕ) → n < z → z + over_parts (part_auxiliaries M) Ps ≤ last_end → ((P : Part ℤ) → In P Ps → Sound n P)
          → ((P : Part ℤ) → In P Ps → (p q : ℤ) → Joins P p q → holds s p ≡ true → holds s q ≡ true → ⊥)
          → Takes t z (values_from M s Ps) → Satisfies t (clauses_from M Ps R z)
      all_met [] z w l o f k c h = rest_met c h
      all_met (P ∷ Ps) z w l o f k c h =
          let e = length_part s P (o P (inl refl)) in
          let k' = subst (λ m. Takes t (z + m) (values_from M s Ps)) e (takes_right t z (part_values M s P) (values_from M s Ps) k) in
          ⊎_elim
          (part_met z w P (o P (inl refl)) (omega arith) (f P (inl refl)) (takes_left t z (part_values M s P) (values_from M s Ps) k) c)
          (all_met Ps (z + part_auxiliaries M P) (omega arith) (omega arith) (λ X i. o X (inr i)) (λ X i. f X (inr i)) k' c)
          (in_cases c (part_clauses M P z) (clauses_from M Ps R (z + part_auxiliaries M P)) h)

module _ (X : ℤ → ℤ → Type 0) (M : Meaning) (law : Lawful M) (n : ℕ) (C : Cover) (is : Conflicts n X) (v : Partition n X C) (first : ℕ) (w : Numbered n M C first) where
  -- any assignment that agrees with s on the original variables and has the defined values
  pub values_satisfy : (s t : Assignment) → ((v : ℕ) → v ≤ n → t v ≡ s v) → Takes t first (auxiliary_values M C s) → BreaksNone X s → Satisfies t (written_clauses M C first)
  values_satisfy s t same takes none =
      all_met M law n s t same
      C.remaining (λ p q h. is.original p q (v.left p q h)) (λ p q h. none p q (v.left p q h))
      C.parts first w.above w.fits v.sound (λ P h p q j. none p q (v.joined P h p q j)) takes

  pub completed : (s : Assignment) → BreaksNone X s → Satisfies (with_values s first (auxiliary_values M C s)) (written_clauses M C first)
  completed s none =
      let vs = auxiliary_values M C s in
      let a = w.above in
      values_satisfy s (with_values s first vs) (λ x l. below_kept s first vs x (omega arith)) (values_taken s first vs) none

  -- an assignment that satisfies the written clauses breaks no conflict
  pub satisfied_breaks_none : (t : Assignment) → Satisfies t (written_clauses M C first) → BreaksNone X t
  satisfied_breaks_none t met p q h tp tq = not_both t q tq (chain_holds t met (written_chain M law n X C v first w p q h) tp)

  pub same_models : SameModels X (written_clauses M C first) first (auxiliary_count M C)
  same_models s = (
    λ none. (auxiliary_values M C s, length_values M law n s C.parts v.sound, completed s none),
    λ (vs, e, met) p q h tp tq.
        let t = with_values s first vs in
        let l = is.original p q h in
        let a = w.above in
        let up = holds_same t s p (below_kept s first vs (variable p) (omega (arith, l.0.1))) in
        let uq = holds_same t s q (below_kept s first vs (variable q) (omega (arith, l.1.1))) in
        satisfied_breaks_none t met p q h (up ∙ tp) (uq ∙ tq),
  )
