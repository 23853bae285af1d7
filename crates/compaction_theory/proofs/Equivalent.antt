-- An assignment satisfies clauses exactly if some values of the further variables make it satisfy the compacted ones.
use Rattle.std.proofs.Common.{◌≡◌, ℕ, zero, suc, ◌+◌, ◌-◌, ◌<◌, ◌≤◌, Bool, true, not, ◌⊎◌, ◌↔◌, List, [], ◌∷◌, ◌++◌, map, length, ℤ, pos, negsuc, sym, refl, ap, ◌∙◌, subst, inl, inr, ⊎_elim, arith}
use Rattle.std.proofs.lemmas.Bool.{cases_Bool}
use Rattle.logic.specs.Literal.{variable, complement, Literal}
use Rattle.logic.specs.Clause.{Clause, Assignment, holds, In, Satisfies}
use Rattle.logic.proofs.Literals.{complement_holds, not_both}
use Rattle.logic.proofs.Clauses.{in_left, in_right, in_cases}
use Rattle.dimacs.specs.Clauses.{LiteralsOf, ClausesOf}
use Rattle.encoder_theory.specs.Meaning.{Meaning}
use Rattle.encoder_theory.specs.Laws.{Lawful}
use Rattle.network_theory.specs.Runs.{Accepted}
use Rattle.formula_theory.specs.Writing.{written_clauses, with_values}
use Rattle.formula_theory.specs.Faithful.{BreaksNone, FaithfulTo}
use Rattle.formula_theory.proofs.Listed.{map_has, map_in}
use Rattle.formula_theory.proofs.Models.{below_kept}
use Rattle.compaction_theory.specs.Sorted.{conflicts_of, others_of}
use Rattle.compaction_theory.specs.Printed.{cover_of_clauses, literals_of, compacted, compacted_variables}
use Rattle.compaction_theory.specs.Promises.{SatisfiesAll}
use Rattle.compaction_theory.specs.Buffers.{asked, Taken}
use Rattle.compaction_theory.proofs.Pairs.{Says, clause_of, sorted, other_from, conflict_proper}
use Rattle.compaction_theory.proofs.Related.{accepted_pair, in_accepted}
use Rattle.compaction_theory.proofs.Sizes.{laws}

-- a clause has a true literal
abbrev True : Assignment → List ℤ → Type 0
True s c = (a : ℤ) × In a c × (holds s a ≡ true)

-- ---- clauses on the variables up to n do not see the others

holds_below : (n : ℕ) (s t : Assignment) → ((v : ℕ) → v < n + 1 → t v ≡ s v) → (a : ℤ) → variable a ≤ n → holds t a ≡ holds s a
holds_below n s t same (pos zero) l = refl
holds_below n s t same (pos (suc v)) l = same (suc v) (omega arith)
holds_below n s t same (negsuc v) l = ap not (same (suc v) (omega arith))

literal_of : (n : ℕ) (c : List ℤ) → LiteralsOf n c → (a : ℤ) → In a c → Literal n a
literal_of n [] l a h = absurd h
literal_of n (b ∷ c) l a (inl e) = subst (Literal n) e l.0
literal_of n (b ∷ c) l a (inr h) = literal_of n c l.1 a h

-- ---- pairs

-- a true literal of two
either : (s : Assignment) (x y : ℤ) → True s (x ∷ y ∷ []) → (holds s x ≡ true) ⊎ (holds s y ≡ true)
either s x y (a, inl e, h) = inl (ap (holds s) e ∙ h)
either s x y (a, inr (inl e), h) = inr (ap (holds s) e ∙ h)
either s x y (a, inr (inr k), h) = absurd k

from_either : (s : Assignment) (x y : ℤ) → (holds s x ≡ true) ⊎ (holds s y ≡ true) → True s (x ∷ y ∷ [])
from_either s x y (inl h) = (x, inl refl, h)
from_either s x y (inr h) = (y, inr (inl refl), h)

-- the clause of a pair and the conflict that it says
refuted : (s : Assignment) (p q : ℤ) → True s (complement p ∷ complement q ∷ []) → holds s p ≡ true → holds s q ≡ true → ⊥
refuted s p q h hp hq = ⊎_elim (not_both s p hp) (not_both s q hq) (either s (complement p) (complement q) h)

unbroken : (s : Assignment) (x y : ℤ) → 1 ≤ variable x → 1 ≤ variable y → (holds s (complement x) ≡ true → holds s (complement y) ≡ true → ⊥) → True s (x ∷ y ∷ [])
unbroken s x y lx ly none =
    from_either s x y (⊎_elim inl
    (λ fx. ⊎_elim inr (λ fy. absurd (none (complement_holds s x lx fx) (complement_holds s y ly fy))) (cases_Bool (holds s y)))
    (cases_Bool (holds s x)))

-- ---- the clauses of a file

module _ (n : ℕ) (clauses : List (List ℤ)) (l : ClausesOf n clauses) where
  -- satisfied clauses leave no conflict broken
  breaks_none : (s : Assignment) → SatisfiesAll s clauses → BreaksNone (Accepted n (asked clauses)) s
  breaks_none s all p q h hp hq =
      ⊎_elim
      (λ i. refuted s p q (all _ i) hp hq)
      (λ i. refuted s q p (all _ i) hq hp)
      ((accepted_pair n clauses l p q).0 h).1

  -- and where none is broken, the clauses are satisfied if the others are
  satisfied : (s : Assignment) → BreaksNone (Accepted n (asked clauses)) s → SatisfiesAll s (others_of clauses) → SatisfiesAll s clauses
  satisfied s none others c h = ⊎_elim (λ (k : (p : ℤ × ℤ) × Says c p × In p (conflicts_of clauses)). pair k.0 k.1 k.2) (others c) (sorted clauses c h)
    where
      pair : (p : ℤ × ℤ) → Says c p → In p (conflicts_of clauses) → True s c
      pair p (x, y, e, ne, f) i =
          let k = clause_of n clauses l (x ∷ y ∷ []) (subst (λ d. In d clauses) e h) in
          subst (True s) (sym e) (unbroken s x y k.0.0 k.1.0.0
          (none (complement x) (complement y)
          (in_accepted n (conflicts_of clauses) (conflict_proper n clauses l) p (complement x) (complement y) i (inl (ap (λ (c : ℤ × ℤ). c.0) f, ap (λ (c : ℤ × ℤ). c.1) f)))))

  -- other clauses under an assignment that agrees up to n
  others_kept : (s t : Assignment) → ((a : ℤ) → variable a ≤ n → holds t a ≡ holds s a) → SatisfiesAll s (others_of clauses) → SatisfiesAll t (others_of clauses)
  others_kept s t same all c h =
      let r = all c h in
      let k = literal_of n c (clause_of n clauses l c (other_from clauses c h)) r.0 r.1 in
      (r.0, r.1, same r.0 k.1 ∙ r.2)

-- ---- the written clauses

pairs_satisfied : (s : Assignment) (W : List Clause) (ds : List (List ℤ)) → Satisfies s W → SatisfiesAll s ds → SatisfiesAll s (map literals_of W ++ ds)
pairs_satisfied s W ds sat all c h =
    ⊎_elim
    (λ i. let r = map_in literals_of W c i in subst (True s) r.2 (from_either s r.0.0 r.0.1 (sat r.0 r.1)))
    (all c)
    (in_cases c (map literals_of W) ds h)

satisfied_pairs : (s : Assignment) (W : List Clause) (ds : List (List ℤ)) → SatisfiesAll s (map literals_of W ++ ds) → Satisfies s W
satisfied_pairs s W ds all c h = either s c.0 c.1 (all (literals_of c) (in_left (literals_of c) (map literals_of W) ds (map_has literals_of W c h)))

-- ---- the law
module _ (n : ℕ) (clauses : List (List ℤ)) (t : Taken n clauses) (M : Meaning) (law : Lawful M) where
  abbrev W : List Clause
  W = written_clauses M (cover_of_clauses n clauses) (n + 1)

  faithful : FaithfulTo n (Accepted n (asked clauses)) M (cover_of_clauses n clauses) (n + 1)
  faithful = laws n clauses t.literals M law t.few t.few_clauses

  kept : (s : Assignment) (vs : List Bool) (a : ℤ) → variable a ≤ n → holds (with_values s (n + 1) vs) a ≡ holds s a
  kept s vs = holds_below n s (with_values s (n + 1) vs) (below_kept s (n + 1) vs)

  pub same_models : (s : Assignment) → SatisfiesAll s clauses
      ↔ ((vs : List Bool) × (length vs ≡ compacted_variables M n clauses - n) × SatisfiesAll (with_values s (n + 1) vs) (compacted M n clauses))
  same_models s = (
    λ all.
        let r = (faithful.models s).0 (breaks_none n clauses t.literals s all) in
        let e = r.1 in (
          r.0,
          omega arith,
          pairs_satisfied (with_values s (n + 1) r.0) W (others_of clauses) r.2
              (others_kept n clauses t.literals s (with_values s (n + 1) r.0) (kept s r.0) (λ c i. all c (other_from clauses c i))),
        ),
    λ h.
        let e = h.1 in
        let none = (faithful.models s).1 (h.0, omega arith, satisfied_pairs (with_values s (n + 1) h.0) W (others_of clauses) h.2) in
        satisfied n clauses t.literals s none
        (others_kept n clauses t.literals (with_values s (n + 1) h.0) s (λ a k. sym (kept s h.0 a k))
        (λ c i. h.2 c (in_right c (map literals_of W) (others_of clauses) i))),
  )
