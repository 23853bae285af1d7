-- The number of different conflicts: one more at a time, and that the cover holds as many.
use Rattle.std.proofs.Common.{◌≡◌, ℕ, ◌+◌, Bool, true, false, cond, ◌⊎◌, List, [], ◌∷◌, ◌++◌, length, ℤ, sym, refl, ap, ◌∙◌, subst, inl, inr, ⊎_elim, arith}
use Rattle.std.proofs.lemmas.List.{append-nil, append_assoc}
use Rattle.std.proofs.lemmas.Bool.{false≢true, both_ways}
use Rattle.logic.specs.Literal.{index}
use Rattle.logic.specs.Clause.{In}
use Rattle.logic.proofs.Literals.{index_injective}
use Rattle.logic.proofs.Clauses.{in_left, in_right, in_cases}
use Rattle.network_theory.specs.Runs.{Accepted}
use Rattle.dimacs.specs.Clauses.{ClausesOf}
use Rattle.cover_theory.specs.Parts.{Remains, Once}
use Rattle.formula_theory.specs.Faithful.{conflict_count}
use Rattle.formula_theory.specs.Counting.{conflict_list}
use Rattle.formula_theory.proofs.Counted.{no_longer, counted}
use Rattle.compaction_theory.specs.Sorted.{conflicts_of, related}
use Rattle.compaction_theory.specs.Printed.{cover_of_clauses}
use Rattle.compaction_theory.specs.Buffers.{asked}
use Rattle.compaction_theory.specs.Account.{new_after, differing, CountsOnce, ConflictsDiffer}
use Rattle.compaction_theory.proofs.Pairs.{Proper, conflict_proper}
use Rattle.compaction_theory.proofs.Related.{At, related_in, in_related, accepted_in, in_accepted}
use Rattle.compaction_theory.proofs.Sizes.{Same, same_as, same_added, conflicts, covered}

-- ---- one more at the end

-- the pair stands among the conflicts, in either order
abbrev is_seen : List (ℤ × ℤ) → ℤ × ℤ → Bool
is_seen seen p = related seen (index p.0) (index p.1)

new_more : (seen ps : List (ℤ × ℤ)) (p : ℤ × ℤ) → new_after seen (ps ++ p ∷ []) ≡ new_after seen ps + cond (is_seen (seen ++ ps) p) 0 1
new_more seen [] p = rw append-nil (omega arith)
new_more seen (q ∷ ps) p =
    let e = new_more (seen ++ q ∷ []) ps p in
    let f : cond {A = ℕ} (is_seen ((seen ++ q ∷ []) ++ ps) p) 0 1 ≡ cond {A = ℕ} (is_seen (seen ++ q ∷ ps) p) 0 1 =
    ap (λ (l : List (ℤ × ℤ)). cond {A = ℕ} (is_seen l p) 0 1) (append_assoc seen (q ∷ []) ps) in omega arith

pub differing_more : CountsOnce
differing_more ps p = new_more [] ps p

-- ---- what was seen

-- a pair at the indices of another, which is at u and w
at_through : (q r : ℤ × ℤ) (u w : ℕ) → At q (index r.0) (index r.1) → At r u w → At q u w
at_through q r u w (inl a) (inl b) = inl (a.0 ∙ b.0, a.1 ∙ b.1)
at_through q r u w (inl a) (inr b) = inr (a.0 ∙ b.0, a.1 ∙ b.1)
at_through q r u w (inr a) (inl b) = inr (a.0 ∙ b.1, a.1 ∙ b.0)
at_through q r u w (inr a) (inr b) = inl (a.0 ∙ b.1, a.1 ∙ b.0)

-- a pair at the indices of one that was seen was seen
seen_like : (seen : List (ℤ × ℤ)) (r p : ℤ × ℤ) → is_seen seen r ≡ true → At r (index p.0) (index p.1) → is_seen seen p ≡ true
seen_like seen r p s a =
    let k = related_in seen (index r.0) (index r.1) s in
    in_related seen (index p.0) (index p.1) k.0 k.1 (at_through k.0 r (index p.0) (index p.1) k.2 a)

seen_left : (seen more : List (ℤ × ℤ)) (p : ℤ × ℤ) → is_seen seen p ≡ true → is_seen (seen ++ more) p ≡ true
seen_left seen more p s =
    let k = related_in seen (index p.0) (index p.1) s in
    in_related (seen ++ more) (index p.0) (index p.1) k.0 (in_left k.0 seen more k.1) k.2

seen_last : (seen : List (ℤ × ℤ)) (r p : ℤ × ℤ) → At r (index p.0) (index p.1) → is_seen (seen ++ r ∷ []) p ≡ true
seen_last seen r p a = in_related (seen ++ r ∷ []) (index p.0) (index p.1) r (in_right r seen (r ∷ []) (inl refl)) a

seen_cases : (seen : List (ℤ × ℤ)) (r p : ℤ × ℤ) → is_seen (seen ++ r ∷ []) p ≡ true → (is_seen seen p ≡ true) ⊎ At r (index p.0) (index p.1)
seen_cases seen r p s =
    let k = related_in (seen ++ r ∷ []) (index p.0) (index p.1) s in
    ⊎_elim
    (λ i. inl (in_related seen (index p.0) (index p.1) k.0 i k.2))
    (λ i. inr (⊎_elim (λ e. subst (λ z. At z (index p.0) (index p.1)) (sym e) k.2) (λ z. absurd z) i))
    (in_cases k.0 seen (r ∷ []) k.1)

-- ---- the conflicts that come first

abbrev firsts_after : List (ℤ × ℤ) → List (ℤ × ℤ) → List (ℤ × ℤ)
firsts_after seen [] = []
firsts_after seen (p ∷ ps) = cond (is_seen seen p) (firsts_after (seen ++ p ∷ []) ps) (p ∷ firsts_after (seen ++ p ∷ []) ps)

length_firsts : (seen ps : List (ℤ × ℤ)) → length (firsts_after seen ps) ≡ new_after seen ps
length_firsts seen [] = refl
length_firsts seen (p ∷ ps) = by (is_seen seen p) (length_firsts (seen ++ p ∷ []) ps)
  where
    by : (t : Bool) → length (firsts_after (seen ++ p ∷ []) ps) ≡ new_after (seen ++ p ∷ []) ps
        → length (cond t (firsts_after (seen ++ p ∷ []) ps) (p ∷ firsts_after (seen ++ p ∷ []) ps)) ≡ cond t 0 1 + new_after (seen ++ p ∷ []) ps
    by true e = omega arith
    by false e = omega arith

-- they are some of the conflicts,
firsts_in : (seen ps : List (ℤ × ℤ)) (q : ℤ × ℤ) → In q (firsts_after seen ps) → In q ps
firsts_in seen [] q h = h
firsts_in seen (p ∷ ps) q h = by (is_seen seen p) (firsts_in (seen ++ p ∷ []) ps q) h
  where
    by : (t : Bool) → (In q (firsts_after (seen ++ p ∷ []) ps) → In q ps)
        → In q (cond t (firsts_after (seen ++ p ∷ []) ps) (p ∷ firsts_after (seen ++ p ∷ []) ps)) → In q (p ∷ ps)
    by true rest k = inr (rest k)
    by false rest (inl e) = inl e
    by false rest (inr k) = inr (rest k)

-- none of them was seen before,
firsts_new : (seen ps : List (ℤ × ℤ)) (q : ℤ × ℤ) → In q (firsts_after seen ps) → is_seen seen q ≡ true → ⊥
firsts_new seen [] q h s = absurd h
firsts_new seen (p ∷ ps) q h s = by (is_seen seen p) refl (λ k. firsts_new (seen ++ p ∷ []) ps q k (seen_left seen (p ∷ []) q s)) h
  where
    by : (t : Bool) → is_seen seen p ≡ t → (In q (firsts_after (seen ++ p ∷ []) ps) → ⊥)
        → In q (cond t (firsts_after (seen ++ p ∷ []) ps) (p ∷ firsts_after (seen ++ p ∷ []) ps)) → ⊥
    by true e rest k = rest k
    by false e rest (inl f) = both_ways (is_seen seen p) e (subst (λ (z : ℤ × ℤ). is_seen seen z ≡ true) (sym f) s)
    by false e rest (inr k) = rest k

-- each is there once,
firsts_once : (seen ps : List (ℤ × ℤ)) → Once (firsts_after seen ps)
firsts_once seen [] = tt
firsts_once seen (p ∷ ps) = by (is_seen seen p) (firsts_once (seen ++ p ∷ []) ps)
  where
    gone : Remains (firsts_after (seen ++ p ∷ []) ps) p.0 p.1 → ⊥
    gone (inl h) = firsts_new (seen ++ p ∷ []) ps p h (seen_last seen p p (inl (refl, refl)))
    gone (inr h) = firsts_new (seen ++ p ∷ []) ps (p.1, p.0) h (seen_last seen p (p.1, p.0) (inr (refl, refl)))

    by : (t : Bool) → Once (firsts_after (seen ++ p ∷ []) ps) → Once (cond t (firsts_after (seen ++ p ∷ []) ps) (p ∷ firsts_after (seen ++ p ∷ []) ps))
    by true rest = rest
    by false rest = (gone, rest)

-- and every conflict was seen before or is at the indices of one of them
firsts_has : (seen ps : List (ℤ × ℤ)) (p : ℤ × ℤ) → In p ps
    → (is_seen seen p ≡ true) ⊎ ((q : ℤ × ℤ) × In q (firsts_after seen ps) × At q (index p.0) (index p.1))
firsts_has seen [] p h = absurd h
firsts_has seen (r ∷ ps) p (inl e) = by (is_seen seen r) refl
  where
    by : (t : Bool) → is_seen seen r ≡ t → (is_seen seen p ≡ true)
        ⊎ ((q : ℤ × ℤ) × In q (cond t (firsts_after (seen ++ r ∷ []) ps) (r ∷ firsts_after (seen ++ r ∷ []) ps)) × At q (index p.0) (index p.1))
    by true s = inl (subst (λ (z : ℤ × ℤ). is_seen seen z ≡ true) e s)
    by false s = inr (r, inl refl, inl (ap (λ (z : ℤ × ℤ). index z.0) e, ap (λ (z : ℤ × ℤ). index z.1) e))
firsts_has seen (r ∷ ps) p (inr h) = by (is_seen seen r) refl (firsts_has (seen ++ r ∷ []) ps p h)
  where
    by : (t : Bool) → is_seen seen r ≡ t
        → (is_seen (seen ++ r ∷ []) p ≡ true) ⊎ ((q : ℤ × ℤ) × In q (firsts_after (seen ++ r ∷ []) ps) × At q (index p.0) (index p.1))
        → (is_seen seen p ≡ true)
        ⊎ ((q : ℤ × ℤ) × In q (cond t (firsts_after (seen ++ r ∷ []) ps) (r ∷ firsts_after (seen ++ r ∷ []) ps)) × At q (index p.0) (index p.1))
    by true s (inl k) = inl (⊎_elim (λ i. i) (λ a. seen_like seen r p s a) (seen_cases seen r p k))
    by true s (inr (q, i, a)) = inr (q, i, a)
    by false s (inl k) = ⊎_elim inl (λ a. inr (r, inl refl, a)) (seen_cases seen r p k)
    by false s (inr (q, i, a)) = inr (q, inr i, a)

-- ---- as many as the cover holds

-- proper pairs at the same indices are the same, in either order
same_at : (n : ℕ) (p q : ℤ × ℤ) → Proper n p → Proper n q → At q (index p.0) (index p.1) → Same q p
same_at n p q h k (inl a) =
    let e : p.0 ≡ q.0 = index_injective p.0 q.0 h.0.0 k.0.0 (sym a.0) in
    let f : p.1 ≡ q.1 = index_injective p.1 q.1 h.1.0 k.1.0 (sym a.1) in
    inl (λ i. (e i, f i))
same_at n p q h k (inr a) =
    let e : p.0 ≡ q.1 = index_injective p.0 q.1 h.0.0 k.1.0 (sym a.1) in
    let f : p.1 ≡ q.0 = index_injective p.1 q.0 h.1.0 k.0.0 (sym a.0) in
    inr (λ i. (e i, f i))

module _ (n : ℕ) (clauses : List (List ℤ)) (l : ClausesOf n clauses) where
  abbrev proper : (p : ℤ × ℤ) → In p (conflicts_of clauses) → Proper n p
  proper = conflict_proper n clauses l

  abbrev firsts : List (ℤ × ℤ)
  firsts = firsts_after [] (conflicts_of clauses)

  abbrev held : List (ℤ × ℤ)
  held = conflict_list (cover_of_clauses n clauses)

  -- each conflict of the cover is one that comes first,
  held_first : (c : ℤ × ℤ) → Accepted n (asked clauses) c.0 c.1 → (q : ℤ × ℤ) × In q firsts × Same c q
  held_first c h =
      let r = accepted_in n (conflicts_of clauses) proper c.0 c.1 h in
      ⊎_elim
      (λ s. absurd (false≢true s))
      (λ (k : (q : ℤ × ℤ) × In q firsts × At q (index r.0.0) (index r.0.1)).
      (k.0, k.1, same_as c k.0 r.0 (same_added c r.0 r.2) (same_at n r.0 k.0 (proper r.0 r.1) (proper k.0 (firsts_in [] (conflicts_of clauses) k.0 k.1)) k.2)))
      (firsts_has [] (conflicts_of clauses) r.0 r.1)

  -- and each that comes first is a conflict of the cover
  first_held : (q : ℤ × ℤ) → Remains held q.0 q.1 → (c : ℤ × ℤ) × In c held × Same q c
  first_held q (inl h) = (q, h, inl refl)
  first_held q (inr h) = ((q.1, q.0), h, inr refl)

  pub conflicts_differ_in : differing (conflicts_of clauses) ≡ conflict_count (cover_of_clauses n clauses)
  conflicts_differ_in =
      let k = counted n (Accepted n (asked clauses)) (cover_of_clauses n clauses) (conflicts n clauses l) (covered n clauses l) in
      let a = no_longer Same same_as held firsts k.once (λ c i. held_first c ((k.exactly c.0 c.1).1 (inl i))) in
      let b = no_longer Same same_as firsts held (firsts_once [] (conflicts_of clauses))
      (λ q i. first_held q ((k.exactly q.0 q.1).0
      (in_accepted n (conflicts_of clauses) proper q q.0 q.1 (firsts_in [] (conflicts_of clauses) q i) (inl (refl, refl))))) in
      let e = k.number in
      let f = length_firsts [] (conflicts_of clauses) in omega arith

pub conflicts_differ : ConflictsDiffer
conflicts_differ n clauses t = conflicts_differ_in n clauses t.literals
