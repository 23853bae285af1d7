-- The conflicts of clauses, as calls on a network and as a relation by index.
use Rattle.std.proofs.Common.{◌≡◌, ℕ, ◌*◌, ◌<◌, true, ◌&&◌, ◌||◌, eqb, ◌⊎◌, ◌↔◌, List, [], ◌∷◌, map, ℤ, sym, refl, ap, ◌∙◌, subst, inl, inr, ⊎_elim}
use Rattle.std.proofs.lemmas.Bool.{false≢true, eqb-true, eq-eqb, and_parts, and_from, or_cases, or_left, or_right}
use Rattle.logic.specs.Literal.{variable, complement, index, literal}
use Rattle.logic.specs.Clause.{In}
use Rattle.logic.proofs.Literals.{index_below, literal_index, index_literal, variable_complement, complement_complement}
use Rattle.dimacs.specs.Clauses.{ClausesOf}
use Rattle.network_theory.specs.declared.Call.{Call}
use Rattle.network_theory.specs.declared.Call.TheVariants.{Add}
use Rattle.network_theory.specs.Layout.{Net}
use Rattle.network_theory.specs.Runs.{Undeclined, Adds, Accepted, Came}
use Rattle.cover_theory.specs.Rule.{cover_of}
use Rattle.formula_theory.specs.Promise.{standing, Tells}
use Rattle.formula_theory.proofs.Listed.{map_has, map_in}
use Rattle.formula_theory.proofs.Runs.{standing_tells, tells_same}
use Rattle.compaction_theory.specs.Sorted.{conflicts_of, related}
use Rattle.compaction_theory.specs.Promises.{HasPair}
use Rattle.compaction_theory.specs.Buffers.{asked, NetworkCovered}
use Rattle.compaction_theory.proofs.Pairs.{Proper, conflict_from, conflict_has, conflict_proper}

-- ---- the relation

-- the pair has the indices u and w, in either order
abbrev pub At : ℤ × ℤ → ℕ → ℕ → Type 0
At p u w = ((index p.0 ≡ u) × (index p.1 ≡ w)) ⊎ ((index p.0 ≡ w) × (index p.1 ≡ u))

both : (a b u w : ℕ) → (eqb a u && eqb b w) ≡ true → (a ≡ u) × (b ≡ w)
both a b u w h = let p = and_parts (eqb a u) (eqb b w) h in (eqb-true a u p.0, eqb-true b w p.1)

both_from : (a b u w : ℕ) → a ≡ u → b ≡ w → (eqb a u && eqb b w) ≡ true
both_from a b u w e f = and_from (eqb a u) (eqb b w) (eq-eqb a u e) (eq-eqb b w f)

pub related_in : (ps : List (ℤ × ℤ)) (u w : ℕ) → related ps u w ≡ true → (p : ℤ × ℤ) × In p ps × At p u w
related_in [] u w h = absurd (false≢true h)
related_in (p ∷ ps) u w h =
    ⊎_elim
    (λ k. (p, inl refl, ⊎_elim (λ i. inl (both _ _ u w i)) (λ i. inr (both _ _ w u i)) (or_cases (eqb (index p.0) u && eqb (index p.1) w) _ k)))
    (λ k. let r = related_in ps u w k in (r.0, inr r.1, r.2))
    (or_cases ((eqb (index p.0) u && eqb (index p.1) w) || (eqb (index p.0) w && eqb (index p.1) u)) (related ps u w) h)

here : (p : ℤ × ℤ) (u w : ℕ) → At p u w → ((eqb (index p.0) u && eqb (index p.1) w) || (eqb (index p.0) w && eqb (index p.1) u)) ≡ true
here p u w (inl e) = or_left _ _ (both_from _ _ u w e.0 e.1)
here p u w (inr e) = or_right (eqb (index p.0) u && eqb (index p.1) w) _ (both_from _ _ w u e.0 e.1)

pub in_related : (ps : List (ℤ × ℤ)) (u w : ℕ) (p : ℤ × ℤ) → In p ps → At p u w → related ps u w ≡ true
in_related [] u w p h a = absurd h
in_related (q ∷ ps) u w p (inl e) a = or_left _ _ (here q u w (subst (λ z. At z u w) (sym e) a))
in_related (q ∷ ps) u w p (inr h) a =
    or_right ((eqb (index q.0) u && eqb (index q.1) w) || (eqb (index q.0) w && eqb (index q.1) u)) _ (in_related ps u w p h a)

-- ---- the calls

abbrev add : ℤ × ℤ → Call
add p = Add p.0 p.1

-- an add of a proper pair is not declined
pub undeclined : (n : ℕ) (p : ℤ × ℤ) → Proper n p → Undeclined n (add p)
undeclined n p h = (h.0, h.1, (λ e. h.2 (ap variable e)), (λ e. h.2 (ap variable e ∙ variable_complement p.1)))

-- the add of a pair, in terms of the pair
adds : (p : ℤ × ℤ) (call : Call) (a b : ℤ) → add p ≡ call → Adds call a b → Adds (add p) a b
adds p call a b e h = subst (λ (c : Call). Adds c a b) (sym e) h

module _ (n : ℕ) (ps : List (ℤ × ℤ)) (proper : (p : ℤ × ℤ) → In p ps → Proper n p) where
  -- what is accepted is one of the pairs, in either order
  pub accepted_in : (a b : ℤ) → Accepted n (map add ps) a b → (p : ℤ × ℤ) × In p ps × Adds (add p) a b
  accepted_in a b h = let r = map_in add ps h.0 h.1 in (r.0, r.1, adds r.0 h.0 a b r.2 h.2.1)

  pub in_accepted : (p : ℤ × ℤ) (a b : ℤ) → In p ps → Adds (add p) a b → Accepted n (map add ps) a b
  in_accepted p a b h k = (add p, map_has add ps p h, (undeclined n p (proper p h), k))

  named : (p : ℤ × ℤ) (u w : ℕ) → Proper n p → At p u w → Adds (add p) (literal u) (literal w)
  named p u w h (inl e) = inl (sym (literal_index p.0 h.0.0) ∙ ap literal e.0, sym (literal_index p.1 h.1.0) ∙ ap literal e.1)
  named p u w h (inr e) = inr (sym (literal_index p.0 h.0.0) ∙ ap literal e.0, sym (literal_index p.1 h.1.0) ∙ ap literal e.1)

  placed : (p : ℤ × ℤ) (u w : ℕ) → Adds (add p) (literal u) (literal w) → At p u w
  placed p u w (inl e) = inl (ap index e.0 ∙ index_literal u, ap index e.1 ∙ index_literal w)
  placed p u w (inr e) = inr (ap index e.0 ∙ index_literal w, ap index e.1 ∙ index_literal u)

  within : (p : ℤ × ℤ) (u w : ℕ) → Proper n p → At p u w → (u < 2 * n) × (w < 2 * n)
  within p u w h (inl e) = (subst (λ x. x < 2 * n) e.0 (index_below n p.0 h.0), subst (λ x. x < 2 * n) e.1 (index_below n p.1 h.1))
  within p u w h (inr e) = (subst (λ x. x < 2 * n) e.1 (index_below n p.1 h.1), subst (λ x. x < 2 * n) e.0 (index_below n p.0 h.0))

  -- the relation of proper pairs tells just what their adds make accepted
  pub pairs_tell : Tells n (map add ps) (related ps)
  pairs_tell u w = (
    λ e.
        let r = related_in ps u w e in
        let h = proper r.0 r.1 in
        let l = within r.0 u w h r.2 in
        (l.0, l.1, in_accepted r.0 (literal u) (literal w) r.1 (named r.0 u w h r.2)),
    λ h.
        let r = accepted_in (literal u) (literal w) h.2 in
        in_related ps u w r.0 r.1 (placed r.0 u w r.2),
  )

-- ---- the clauses

module _ (n : ℕ) (clauses : List (List ℤ)) (l : ClausesOf n clauses) where
  -- the relation of the clauses' conflicts tells what their calls make accepted
  pub clauses_tell : Tells n (asked clauses) (related (conflicts_of clauses))
  clauses_tell = pairs_tell n (conflicts_of clauses) (conflict_proper n clauses l)

  turned : (p : ℤ × ℤ) (a b : ℤ) → In p (conflicts_of clauses) → Adds (add p) a b → HasPair clauses (complement a) (complement b)
  turned p a b h k =
      let r = conflict_from clauses p h in by r.0 r.1 r.2 r.3 (ap (λ (c : ℤ × ℤ). c.0) r.4) (ap (λ (c : ℤ × ℤ). c.1) r.4) k
    where
      by : (x y : ℤ) → In (x ∷ y ∷ []) clauses → (variable x ≡ variable y → ⊥) → p.0 ≡ complement x → p.1 ≡ complement y → Adds (add p) a b
          → HasPair clauses (complement a) (complement b)
      by x y i ne e f (inl k) =
          let u : x ≡ complement a = sym (complement_complement x) ∙ ap complement (sym e ∙ k.0) in
          let v : y ≡ complement b = sym (complement_complement y) ∙ ap complement (sym f ∙ k.1) in
          ((λ q. ne (ap variable u ∙ q ∙ sym (ap variable v))), inl (subst (λ z. In (z ∷ complement b ∷ []) clauses) u (subst (λ z. In (x ∷ z ∷ []) clauses) v i)))
      by x y i ne e f (inr k) =
          let u : x ≡ complement b = sym (complement_complement x) ∙ ap complement (sym e ∙ k.0) in
          let v : y ≡ complement a = sym (complement_complement y) ∙ ap complement (sym f ∙ k.1) in
          ((λ q. ne (ap variable u ∙ sym q ∙ sym (ap variable v))), inr (subst (λ z. In (z ∷ complement a ∷ []) clauses) u (subst (λ z. In (x ∷ z ∷ []) clauses) v i)))

  -- a conflict is accepted exactly if its clause is one of the clauses, in either order
  pub accepted_pair : (a b : ℤ) → Accepted n (asked clauses) a b ↔ HasPair clauses (complement a) (complement b)
  accepted_pair a b = (
    λ h. let r = accepted_in n (conflicts_of clauses) (conflict_proper n clauses l) a b h in turned r.0 a b r.1 r.2,
    λ h. ⊎_elim
        (λ i. in_accepted n (conflicts_of clauses) (conflict_proper n clauses l) (complement (complement a), complement (complement b)) a b
        (conflict_has clauses (complement a) (complement b) i h.0) (inl (complement_complement a, complement_complement b)))
        (λ i. in_accepted n (conflicts_of clauses) (conflict_proper n clauses l) (complement (complement b), complement (complement a)) a b
        (conflict_has clauses (complement b) (complement a) i (λ e. h.0 (sym e))) (inr (complement_complement b, complement_complement a)))
        h.1,
  )

  -- what stands in a network that came by the clauses' calls is the relation of the clauses
  pub standing_related : (net : Net) → net.variables ≡ n → Came net (asked clauses) → standing net ≡ related (conflicts_of clauses)
  standing_related net e came =
      tells_same n (asked clauses) (asked clauses) (standing net) (related (conflicts_of clauses))
      (subst (λ k. Tells k (asked clauses) (standing net)) e (standing_tells net (asked clauses) came)) clauses_tell (λ a b. ((λ h. h), (λ h. h)))

pub network_covered : NetworkCovered
network_covered n clauses t net e came =
    ap (λ k. cover_of k (standing net)) e ∙ ap (cover_of n) (standing_related n clauses t.literals net e came)
