-- The conflicts of clauses, as pairs: which clauses they come from, and which other clauses there are.
use Rattle.std.proofs.Common.{◌≡◌, ℕ, suc, ◌+◌, ◌*◌, Bool, true, false, cond, eqb, ◌⊎◌, List, [], ◌∷◌, ◌++◌, length, ℤ, pos, is_some, Some, None, Option, sym, refl, ap, ◌∙◌, subst, inl, inr, ⊎_elim, arith, length-append}
use Rattle.std.proofs.lemmas.Bool.{eqb-false, ne_eqb, cond-false}
use Rattle.std.specs.Option.{option_to_list}
use Rattle.logic.specs.Literal.{variable, complement, Literal}
use Rattle.logic.specs.Clause.{In}
use Rattle.logic.proofs.Literals.{variable_complement, complement_within}
use Rattle.logic.proofs.Clauses.{in_left, in_right, in_cases}
use Rattle.dimacs.specs.Clauses.{numbers, LiteralsOf, ClausesOf}
use Rattle.compaction_theory.specs.Sorted.{conflict_of, conflicts_of, others_of}

-- ---- one clause

-- p is the conflict of the clause
abbrev pub Says : List ℤ → ℤ × ℤ → Type 0
Says c p = (x : ℤ) × (y : ℤ) × (c ≡ x ∷ y ∷ []) × (variable x ≡ variable y → ⊥) × (p ≡ (complement x, complement y))

pub said : (c : List ℤ) (p : ℤ × ℤ) → In p (option_to_list (conflict_of c)) → Says c p
said [] p h = absurd h
said (x ∷ []) p h = absurd h
said (x ∷ (y ∷ [])) p h = by (eqb (variable x) (variable y)) refl h
  where
    by : (b : Bool) → eqb (variable x) (variable y) ≡ b → In p (option_to_list (cond b None (Some (complement x, complement y)))) → Says (x ∷ y ∷ []) p
    by true e k = absurd k
    by false e (inl q) = (x, y, refl, eqb-false _ _ e, sym q)
    by false e (inr q) = absurd q
said (x ∷ (y ∷ (z ∷ zs))) p h = absurd h

pub pair_says : (x y : ℤ) → (variable x ≡ variable y → ⊥) → conflict_of (x ∷ y ∷ []) ≡ Some (complement x, complement y)
pair_says x y ne = cond-false (eqb (variable x) (variable y)) _ _ (ne_eqb _ _ ne)

-- ---- all of them

-- a conflict comes from a clause of two literals on different variables
pub conflict_from : (cs : List (List ℤ)) (p : ℤ × ℤ) → In p (conflicts_of cs)
    → (x : ℤ) × (y : ℤ) × In (x ∷ y ∷ []) cs × (variable x ≡ variable y → ⊥) × (p ≡ (complement x, complement y))
conflict_from [] p h = absurd h
conflict_from (c ∷ cs) p h =
    ⊎_elim
    (λ k. let r = said c p k in (r.0, r.1, inl r.2, r.3, r.4))
    (λ k. let r = conflict_from cs p k in (r.0, r.1, inr r.2, r.3, r.4))
    (in_cases p (option_to_list (conflict_of c)) (conflicts_of cs) h)

-- and every such clause says one
pub conflict_has : (cs : List (List ℤ)) (x y : ℤ) → In (x ∷ y ∷ []) cs → (variable x ≡ variable y → ⊥) → In (complement x, complement y) (conflicts_of cs)
conflict_has [] x y h ne = absurd h
conflict_has (c ∷ cs) x y (inl e) ne =
    in_left (complement x, complement y) (option_to_list (conflict_of c)) (conflicts_of cs)
    (subst (λ (o : Option (ℤ × ℤ)). In (complement x, complement y) (option_to_list o)) (sym (ap conflict_of e ∙ pair_says x y ne)) (inl refl))
conflict_has (c ∷ cs) x y (inr h) ne = in_right (complement x, complement y) (option_to_list (conflict_of c)) (conflicts_of cs) (conflict_has cs x y h ne)

-- the literals of a clause among others
pub clause_of : (n : ℕ) (cs : List (List ℤ)) → ClausesOf n cs → (c : List ℤ) → In c cs → LiteralsOf n c
clause_of n [] l c h = absurd h
clause_of n (d ∷ cs) l c (inl e) = subst (LiteralsOf n) e l.0
clause_of n (d ∷ cs) l c (inr h) = clause_of n cs l.1 c h

-- a conflict of clauses on n variables is between literals of n, on different variables
abbrev pub Proper : ℕ → ℤ × ℤ → Type 0
Proper n p = Literal n p.0 × Literal n p.1 × (variable p.0 ≡ variable p.1 → ⊥)

pub conflict_proper : (n : ℕ) (cs : List (List ℤ)) → ClausesOf n cs → (p : ℤ × ℤ) → In p (conflicts_of cs) → Proper n p
conflict_proper n cs l p h =
    let r = conflict_from cs p h in
    let k = clause_of n cs l (r.0 ∷ r.1 ∷ []) r.2 in
    subst (Proper n) (sym r.4) (
      complement_within n r.0 k.0,
      complement_within n r.1 k.1.0,
      (λ e. r.3 (sym (variable_complement r.0) ∙ e ∙ variable_complement r.1)),
    )

-- ---- the other clauses

-- a clause that says a conflict is a pair; any other stands among the others
pub sorted : (cs : List (List ℤ)) (c : List ℤ) → In c cs → ((p : ℤ × ℤ) × Says c p × In p (conflicts_of cs)) ⊎ In c (others_of cs)
sorted [] c h = absurd h
sorted (d ∷ cs) c (inl e) = subst (λ x. ((p : ℤ × ℤ) × Says x p × In p (conflicts_of (d ∷ cs))) ⊎ In x (others_of (d ∷ cs))) e (by (conflict_of d) refl)
  where
    by : (o : Option (ℤ × ℤ)) → conflict_of d ≡ o → ((p : ℤ × ℤ) × Says d p × In p (conflicts_of (d ∷ cs))) ⊎ In d (others_of (d ∷ cs))
    by None q = inr (subst (λ (o : Option (ℤ × ℤ)). In d (cond (is_some o) (others_of cs) (d ∷ others_of cs))) (sym q) (inl refl))
    by (Some p) q =
        let i : In p (option_to_list (conflict_of d)) = subst (λ (o : Option (ℤ × ℤ)). In p (option_to_list o)) (sym q) (inl refl) in
        inl (p, said d p i, in_left p (option_to_list (conflict_of d)) (conflicts_of cs) i)
sorted (d ∷ cs) c (inr h) =
    ⊎_elim
    (λ (k : (p : ℤ × ℤ) × Says c p × In p (conflicts_of cs)). inl (k.0, k.1, in_right k.0 (option_to_list (conflict_of d)) (conflicts_of cs) k.2))
    (λ k. inr (by (conflict_of d) k))
    (sorted cs c h)
  where
    by : (o : Option (ℤ × ℤ)) → In c (others_of cs) → In c (cond (is_some o) (others_of cs) (d ∷ others_of cs))
    by None k = inr k
    by (Some p) k = k

pub other_from : (cs : List (List ℤ)) (c : List ℤ) → In c (others_of cs) → In c cs
other_from [] c h = h
other_from (d ∷ cs) c h = by (conflict_of d) (other_from cs c) h
  where
    by : (o : Option (ℤ × ℤ)) → (In c (others_of cs) → In c cs) → In c (cond (is_some o) (others_of cs) (d ∷ others_of cs)) → In c (d ∷ cs)
    by None rest (inl e) = inl e
    by None rest (inr k) = inr (rest k)
    by (Some p) rest k = inr (rest k)

pub others_of_all : (n : ℕ) (cs : List (List ℤ)) → ClausesOf n cs → ClausesOf n (others_of cs)
others_of_all n [] l = tt
others_of_all n (c ∷ cs) l = by (conflict_of c) (others_of_all n cs l.1)
  where
    by : (o : Option (ℤ × ℤ)) → ClausesOf n (others_of cs) → ClausesOf n (cond (is_some o) (others_of cs) (c ∷ others_of cs))
    by None rest = (l.0, rest)
    by (Some p) rest = rest

-- ---- how many

-- each clause is a conflict or one of the others
pub clauses_counted : (cs : List (List ℤ)) → length (conflicts_of cs) + length (others_of cs) ≡ length cs
clauses_counted [] = refl
clauses_counted (c ∷ cs) = by (conflict_of c) (clauses_counted cs)
  where
    by : (o : Option (ℤ × ℤ)) → length (conflicts_of cs) + length (others_of cs) ≡ length cs
        → length (option_to_list o ++ conflicts_of cs) + length (cond (is_some o) (others_of cs) (c ∷ others_of cs)) ≡ suc (length cs)
    by None e = omega arith
    by (Some p) e = omega arith

-- a conflict takes three numbers: two literals and a closing 0
pub numbers_counted : (cs : List (List ℤ)) → 3 * length (conflicts_of cs) + length (numbers (others_of cs)) ≡ length (numbers cs)
numbers_counted [] = refl
numbers_counted (c ∷ cs) = by (conflict_of c) refl (numbers_counted cs)
  where
    by : (o : Option (ℤ × ℤ)) → conflict_of c ≡ o → 3 * length (conflicts_of cs) + length (numbers (others_of cs)) ≡ length (numbers cs)
        → 3 * length (option_to_list o ++ conflicts_of cs) + length (numbers (cond (is_some o) (others_of cs) (c ∷ others_of cs))) ≡ length (numbers (c ∷ cs))
    by None q e =
        let a = length-append c (pos 0 ∷ numbers cs) in
        let b = length-append c (pos 0 ∷ numbers (others_of cs)) in omega arith
    by (Some p) q e =
        let a = length-append c (pos 0 ∷ numbers cs) in
        let r = said c p (subst (λ (o : Option (ℤ × ℤ)). In p (option_to_list o)) (sym q) (inl refl)) in
        let l : length c ≡ 2 = ap length r.2 in omega arith
