-- A cover has each conflict once, so there are no more conflicts than calls, nor than pairs of literals.
use Rattle.std.proofs.Common.{◌≡◌, ℕ, zero, suc, ◌+◌, ◌-◌, ◌*◌, ◌<◌, ◌≤◌, ◌⊎◌, ◌↔◌, List, [], ◌∷◌, length, ℤ, sym, refl, ap, ◌∙◌, subst, inl, inr, ⊎_elim, mul-le-mul_left, mul-suc, arith, length-append}
use Rattle.std.proofs.lemmas.Bool.{cases_eq}
use Rattle.logic.specs.Literal.{variable, index, literal}
use Rattle.logic.specs.Clause.{In}
use Rattle.logic.proofs.Literals.{index_below, literal_index}
use Rattle.network_theory.specs.declared.Call.{Call}
use Rattle.network_theory.specs.declared.Call.TheVariants.{Add}
use Rattle.network_theory.specs.Runs.{Adds, Accepted}
use Rattle.cover_theory.specs.Parts.{Part, clique, biclique, Cover, Joins, Remains, Sound, Apart, Once, Partition}
use Rattle.formula_theory.specs.Writing.{pairs_among, part_auxiliaries, over_parts}
use Rattle.formula_theory.specs.Faithful.{Conflicts, Told, part_conflicts, conflict_count}
use Rattle.formula_theory.specs.Promise.{standing}
use Rattle.formula_theory.specs.Counting.{across, part_pairs, pairs_from, conflict_list, Counted, ConflictsCounted, NoMoreThanCalls, FewAuxiliaries}
use Rattle.formula_theory.proofs.Pieces.{chosen_lawful}
use Rattle.formula_theory.proofs.Counts.{account_balances}
use Rattle.formula_theory.proofs.Runs.{accepted_conflicts, accepted_covered, standing_tells}
use Rattle.formula_theory.proofs.Pairs.{remains_cases, remains_left, remains_right, once_append, across_has, part_joins, joins_part, part_once, length_across, length_part}

-- ---- the conflicts of a cover
length_from : (Ps : List (Part ℤ)) (R : List (ℤ × ℤ)) → length (pairs_from Ps R) ≡ over_parts part_conflicts Ps + length R
length_from [] R = omega arith
length_from (P ∷ Ps) R =
    let a = length-append (part_pairs P) (pairs_from Ps R) in
    let b = length_part P in
    let c = length_from Ps R in omega arith

-- a pair stands in a part's pairs, or remains
abbrev Held : List (Part ℤ) → List (ℤ × ℤ) → ℤ → ℤ → Type 0
Held Ps R p q = ((P : Part ℤ) × In P Ps × Joins P p q) ⊎ Remains R p q

from_held : (n : ℕ) (R : List (ℤ × ℤ)) (Ps : List (Part ℤ)) → ((P : Part ℤ) → In P Ps → Sound n P) → (p q : ℤ) → Remains (pairs_from Ps R) p q → Held Ps R p q
from_held n R [] s p q h = inr h
from_held n R (P ∷ Ps) s p q h =
    ⊎_elim
    (λ k. inl (P, inl refl, part_joins n P (s P (inl refl)) p q k))
    (λ k. ⊎_elim (λ (i : (Q : Part ℤ) × In Q Ps × Joins Q p q). inl (i.0, inr i.1, i.2)) inr (from_held n R Ps (λ Q i. s Q (inr i)) p q k))
    (remains_cases (part_pairs P) (pairs_from Ps R) p q h)

held_from : (R : List (ℤ × ℤ)) (Ps : List (Part ℤ)) (p q : ℤ) → Held Ps R p q → Remains (pairs_from Ps R) p q
held_from R [] p q (inl (P, i, j)) = absurd i
held_from R [] p q (inr h) = h
held_from R (Q ∷ Qs) p q (inl (P, inl e, j)) = remains_left (part_pairs Q) (pairs_from Qs R) p q (joins_part Q p q (subst (λ Z. Joins Z p q) (sym e) j))
held_from R (Q ∷ Qs) p q (inl (P, inr i, j)) = remains_right (part_pairs Q) (pairs_from Qs R) p q (held_from R Qs p q (inl (P, i, j)))
held_from R (Q ∷ Qs) p q (inr h) = remains_right (part_pairs Q) (pairs_from Qs R) p q (held_from R Qs p q (inr h))

from_once : (n : ℕ) (R : List (ℤ × ℤ)) → Once R → (Ps : List (Part ℤ)) → ((P : Part ℤ) → In P Ps → Sound n P) → Apart Ps
    → ((P : Part ℤ) → In P Ps → (p q : ℤ) → Joins P p q → Remains R p q → ⊥) → Once (pairs_from Ps R)
from_once n R o [] s a b = o
from_once n R o (P ∷ Ps) s a b =
    once_append (part_pairs P) (pairs_from Ps R) (part_once n P (s P (inl refl))) (from_once n R o Ps (λ Q i. s Q (inr i)) a.1 (λ Q i. b Q (inr i)))
    (λ p q h k.
    let j = part_joins n P (s P (inl refl)) p q h in
    ⊎_elim (λ (i : (Q : Part ℤ) × In Q Ps × Joins Q p q). a.0 i.0 i.1 p q j i.2) (b P (inl refl) p q j)
    (from_held n R Ps (λ Q i. s Q (inr i)) p q k))

-- ---- a list whose elements each have a partner of their own in another is no longer than that
taken_out : {Y : Type 0} (y : Y) (L : List Y) → In y L → (L' : List Y) × (length L ≡ suc (length L')) × ((z : Y) → In z L → (z ≡ y) ⊎ In z L')
taken_out y [] h = absurd h
taken_out y (x ∷ L) (inl e) = (L, refl, (λ z k. ⊎_elim (λ f. inl (sym f ∙ e)) inr k))
taken_out y (x ∷ L) (inr h) =
    let r = taken_out y L h in
    (x ∷ r.0, ap suc r.1, (λ z k. ⊎_elim (λ f. inr (inl f)) (λ i. ⊎_elim inl (λ m. inr (inr m)) (r.2 z i)) k))

module _ {Y : Type 0} (Partner : ℤ × ℤ → Y → Type 0) (own : (c d : ℤ × ℤ) (y : Y) → Partner c y → Partner d y → (d ≡ c) ⊎ (d ≡ (c.1, c.0))) where
  pub no_longer : (K : List (ℤ × ℤ)) (L : List Y) → Once K → ((c : ℤ × ℤ) → In c K → (y : Y) × In y L × Partner c y) → length K ≤ length L
  no_longer [] L o f = omega arith
  no_longer (c ∷ K) L o f =
      let r = f c (inl refl) in
      let s = taken_out r.0 L r.1 in
      let h = no_longer K s.0 o.1 (λ d i. rest r.0 r.2 s.0 s.2 d i (f d (inr i))) in
      let e = s.1 in omega arith
    where
      rest : (y : Y) → Partner c y → (L' : List Y) → ((z : Y) → In z L → (z ≡ y) ⊎ In z L') → (d : ℤ × ℤ) → In d K
          → (z : Y) × In z L × Partner d z → (z : Y) × In z L' × Partner d z
      rest y pc L' g d i (z, iz, pd) =
          ⊎_elim
          (λ e. absurd (o.0 (⊎_elim (λ q. inl (subst (λ x. In x K) q i)) (λ q. inr (subst (λ x. In x K) q i)) (own c d y pc (subst (Partner d) e pd)))))
          (λ m. (z, m, pd))
          (g z iz)

-- ---- partners: pairs of literals
literals_below : ℕ → List ℤ
literals_below zero = []
literals_below (suc k) = literal k ∷ literals_below k

below_length : (k : ℕ) → length (literals_below k) ≡ k
unfolding literals_below
below_length zero = refl
below_length (suc k) = ap suc (below_length k)

below_has : (k : ℕ) (p : ℤ) → 1 ≤ variable p → index p < k → In p (literals_below k)
unfolding literals_below
below_has zero p l h = absurd (omega arith)
below_has (suc k) p l h = ⊎_elim (λ e. inl (ap literal (sym e) ∙ literal_index p l)) (λ ne. inr (below_has k p l (omega arith))) (cases_eq (index p) k)

module _ (n : ℕ) (X : ℤ → ℤ → Type 0) (C : Cover) (is : Conflicts n X) (v : Partition n X C) where
  exactly : (p q : ℤ) → X p q ↔ Remains (conflict_list C) p q
  exactly p q = (
    λ h. held_from C.remaining C.parts p q (v.everywhere p q h),
    λ h. ⊎_elim
        (λ (k : (P : Part ℤ) × In P C.parts × Joins P p q). v.joined k.0 k.1 p q k.2)
        (λ k. ⊎_elim (v.left p q) (λ i. is.both_ways q p (v.left q p i)) k)
        (from_held n C.remaining C.parts v.sound p q h),
  )

  once : Once (conflict_list C)
  once = from_once n C.remaining v.once C.parts v.sound v.apart v.beside

  number : length (conflict_list C) ≡ conflict_count C
  number = length_from C.parts C.remaining

  conflict : (c : ℤ × ℤ) → In c (conflict_list C) → X c.0 c.1
  conflict c h = (exactly c.0 c.1).1 (inl h)

  few : length (conflict_list C) ≤ 2 * n * (2 * n)
  few =
      let e = length_across (literals_below (2 * n)) (literals_below (2 * n)) in
      let f = below_length (2 * n) in
      let g : length (across (literals_below (2 * n)) (literals_below (2 * n))) ≡ 2 * n * (2 * n) = e ∙ ap (λ k. k * length (literals_below (2 * n))) f ∙ ap (λ k. 2 * n * k) f in
      let h = no_longer (λ c d. d ≡ c) (λ c d y a b. inl (sym b ∙ a)) (conflict_list C) (across (literals_below (2 * n)) (literals_below (2 * n))) once
      (λ c i.
      let l = is.original c.0 c.1 (conflict c i) in (
        c,
        across_has (literals_below (2 * n)) (literals_below (2 * n)) c.0 c.1
            (below_has (2 * n) c.0 l.0.0 (index_below n c.0 l.0)) (below_has (2 * n) c.1 l.1.0 (index_below n c.1 l.1)),
        refl,
      )) in
      subst (λ k. length (conflict_list C) ≤ k) g h

  pub counted : Counted n X C
  counted = record { exactly = exactly; once = once; number = number; bounded = subst (λ k. k ≤ 2 * n * (2 * n)) number few }

pub conflicts_counted : ConflictsCounted
conflicts_counted n test C is v = counted n (Told test) C is v

-- ---- partners: calls
one_pair : (c d : ℤ × ℤ) (call : Call) → Adds call c.0 c.1 → Adds call d.0 d.1 → (d ≡ c) ⊎ (d ≡ (c.1, c.0))
one_pair c d (Add x y) (inl a) (inl b) = inl (pair d c (sym b.0 ∙ a.0) (sym b.1 ∙ a.1))
  where
    pair : (d c : ℤ × ℤ) → d.0 ≡ c.0 → d.1 ≡ c.1 → d ≡ c
    pair d c e f = ap (λ u. (u, d.1)) e ∙ ap (λ w. (c.0, w)) f
one_pair c d (Add x y) (inl a) (inr b) = inr (ap (λ u. (u, d.1)) (sym b.1 ∙ a.1) ∙ ap (λ w. (c.1, w)) (sym b.0 ∙ a.0))
one_pair c d (Add x y) (inr a) (inl b) = inr (ap (λ u. (u, d.1)) (sym b.0 ∙ a.0) ∙ ap (λ w. (c.1, w)) (sym b.1 ∙ a.1))
one_pair c d (Add x y) (inr a) (inr b) = inl (ap (λ u. (u, d.1)) (sym b.1 ∙ a.1) ∙ ap (λ w. (c.0, w)) (sym b.0 ∙ a.0))

pub no_more_than_calls : NoMoreThanCalls
no_more_than_calls rule good net calls came M =
    let n : ℕ = net.variables in
    let C : Cover = rule n (standing net) in
    let v = accepted_covered rule good n calls (standing net) (standing_tells net calls came) in
    let is = accepted_conflicts n calls in
    let h = no_longer (λ c call. Adds call c.0 c.1) one_pair (conflict_list C) calls (once n (Accepted n calls) C is v)
    (λ c i. let a = conflict n (Accepted n calls) C is v c i in (a.0, a.1, a.2.1)) in
    let e = number n (Accepted n calls) C is v in
    let b = (account_balances M n C v.sound).never_more in omega arith

-- ---- auxiliaries
-- six or more members have more than a quarter of their square as pairs
quarter : (m : ℕ) → 6 ≤ m → m * m ≤ 4 * pairs_among m
quarter zero h = absurd (omega arith)
quarter (suc k) h =
    let a : suc k - 1 ≡ k = omega arith in
    let l : 2 ≤ k = omega arith in
    let b = mul-suc (suc k) k in
    let c = mul-le-mul_left (suc k) l in
    rw a (omega arith)

pub few_auxiliaries : FewAuxiliaries
few_auxiliaries n test C v M law =
    let e = all C.parts v.sound in omega arith
  where
    one : (P : Part ℤ) → Sound n P → part_auxiliaries M P ≤ 4 * part_conflicts P
    one (clique xs) s =
        let b = (chosen_lawful M law (length xs)).bounded.auxiliaries (length xs) s.3 in
        let q = quarter (length xs) s.2 in omega arith
    one (biclique xs ys) s = let h = s.5 in omega arith

    all : (Ps : List (Part ℤ)) → ((P : Part ℤ) → In P Ps → Sound n P) → over_parts (part_auxiliaries M) Ps ≤ 4 * over_parts part_conflicts Ps
    all [] s = omega arith
    all (P ∷ Ps) s = let a = one P (s P (inl refl)) in let b = all Ps (λ Q i. s Q (inr i)) in omega arith
