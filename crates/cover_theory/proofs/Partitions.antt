-- The cover of the rule is a partition of the conflicts, and a function of them alone.
use Rattle.std.proofs.Common.{◌≡◌, ℕ, zero, suc, ◌+◌, ◌-◌, ◌*◌, ◌/◌, ◌<◌, ◌≤◌, true, List, [], ◌∷◌, ◌++◌, map, length, ℤ, pos, sym, refl, ap, ◌∙◌, subst, ap₂, inl, inr, ⊎_elim, arith}
use Rattle.std.proofs.lemmas.List.{length-map}
use Rattle.std.proofs.lemmas.Bool.{cases_order}
use Rattle.logic.specs.Literal.{variable, Literal, index, literal}
use Rattle.logic.specs.Clause.{In}
use Rattle.logic.proofs.Literals.{index_literal, variable_literal, literal_index, literal_within}
use Rattle.logic.proofs.Clauses.{in_left, in_right, in_cases}
use Rattle.cover_theory.specs.Parts.{Part, clique, biclique, Joins, Remains, DistinctVariables, NoRepeats, Sound, Apart, Once, Partition}
use Rattle.cover_theory.specs.Rule.{Rel, those, covering, pairs_from, of_literals, cover_of}
use Rattle.cover_theory.proofs.Members.{in_map, map_in, get_or_in, those_in, in_those, those_once, map_once}
use Rattle.cover_theory.proofs.Splits.{Given, Split, SoundAt, ApartAt, Pairwise, covering_splits}

same_literal : (u w : ℕ) → literal u ≡ literal w → u ≡ w
same_literal u w e = sym (index_literal u) ∙ ap index e ∙ index_literal w

-- ---- parts

pub joins_back : (P : Part ℕ) (p q : ℤ) → Joins (of_literals P) p q → (u : ℕ) × (w : ℕ) × (literal u ≡ p) × (literal w ≡ q) × Joins P u w
joins_back (clique ms) p q j =
    let x = in_map literal ms p j.0 in let y = in_map literal ms q j.1 in
    (x.0, y.0, x.2, y.2, (x.1, y.1, λ e. j.2 (sym x.2 ∙ ap literal e ∙ y.2)))
joins_back (biclique xs ys) p q (inl j) =
    let x = in_map literal xs p j.0 in let y = in_map literal ys q j.1 in (x.0, y.0, x.2, y.2, inl (x.1, y.1))
joins_back (biclique xs ys) p q (inr j) =
    let x = in_map literal ys p j.0 in let y = in_map literal xs q j.1 in (x.0, y.0, x.2, y.2, inr (x.1, y.1))

pub joins_forth : (P : Part ℕ) (u w : ℕ) → Joins P u w → Joins (of_literals P) (literal u) (literal w)
joins_forth (clique ms) u w j = (map_in literal ms u j.0, map_in literal ms w j.1, λ e. j.2 (same_literal u w e))
joins_forth (biclique xs ys) u w (inl j) = inl (map_in literal xs u j.0, map_in literal ys w j.1)
joins_forth (biclique xs ys) u w (inr j) = inr (map_in literal ys u j.0, map_in literal xs w j.1)

apart_literals : (Ps : List (Part ℕ)) → ApartAt Ps → Apart (map of_literals Ps)
apart_literals [] h = tt
apart_literals (P ∷ Ps) h = (
  (λ Q q p p' j k.
      let x = in_map of_literals Ps Q q in
      let a = joins_back P p p' j in
      let b = joins_back x.0 p p' (subst (λ z. Joins z p p') (sym x.2) k) in
      let e = same_literal b.0 a.0 (b.2 ∙ sym a.2) in
      let f = same_literal b.1 a.1 (b.3 ∙ sym a.3) in
      h.0 x.0 x.1 a.0 a.1 a.4 (subst (λ z. Joins x.0 a.0 z) f (subst (λ z. Joins x.0 z b.1) e b.4))),
  apart_literals Ps h.1,
)

distinct : (rel : Rel) → ((u w : ℕ) → rel u w ≡ true → u / 2 ≡ w / 2 → ⊥) → (ms : List ℕ) → Pairwise rel ms → DistinctVariables (map literal ms)
distinct rel apart [] h i j p q e = absurd (omega arith)
distinct rel apart (m ∷ ms) h zero zero p q e = refl
distinct rel apart (m ∷ ms) h zero (suc j) p q e =
    let x = in_map literal ms _ (get_or_in (map literal ms) j (pos 0) (omega arith)) in
    absurd (apart m x.0 (h.0 x.0 x.1).0 (let f : variable (literal m) ≡ variable (literal x.0) = e ∙ ap variable (sym x.2) in omega (arith, f, variable_literal m, variable_literal x.0)))
distinct rel apart (m ∷ ms) h (suc i) zero p q e =
    let x = in_map literal ms _ (get_or_in (map literal ms) i (pos 0) (omega arith)) in
    absurd (apart m x.0 (h.0 x.0 x.1).0 (let f : variable (literal m) ≡ variable (literal x.0) = sym e ∙ ap variable (sym x.2) in omega (arith, f, variable_literal m, variable_literal x.0)))
distinct rel apart (m ∷ ms) h (suc i) (suc j) p q e = ap suc (distinct rel apart ms h.1 i j (omega arith) (omega arith) e)

literals : (n : ℕ) (xs : List ℕ) → ((c : ℕ) → In c xs → c < 2 * n) → (p : ℤ) → In p (map literal xs) → Literal n p
literals n xs h p i = let x = in_map literal xs p i in subst (Literal n) x.2 (literal_within n x.0 (h x.0 x.1))

sound_literals : (n : ℕ) (rel : Rel) → ((u w : ℕ) → rel u w ≡ true → u / 2 ≡ w / 2 → ⊥) → (P : Part ℕ) → SoundAt (2 * n) rel P → Sound n (of_literals P)
sound_literals n rel apart (clique ms) h =
    let l = length-map ms literal in
    (literals n ms h.0, distinct rel apart ms h.1, omega (arith, h.2), omega (arith, h.3))
sound_literals n rel apart (biclique xs ys) h = (
  literals n xs h.0,
  literals n ys h.1,
  map_once literal same_literal xs h.2,
  map_once literal same_literal ys h.3,
  (λ p i j. let x = in_map literal xs p i in let y = in_map literal ys p j in
      h.4 x.0 x.1 (subst (λ z. In z ys) (same_literal y.0 x.0 (y.2 ∙ sym x.2)) y.1)),
  subst (λ z. z + length (map literal ys) < z * length (map literal ys)) (sym (length-map xs literal))
      (subst (λ z. length xs + z < length xs * z) (sym (length-map ys literal)) h.5),
)

-- ---- remaining pairs

abbrev At : ℕ → Rel → ℕ → ℕ → ℤ → ℤ → Type 0
At N r k c p q = (u : ℕ) × (w : ℕ) × (literal u ≡ p) × (literal w ≡ q) × (r u w ≡ true) × (c ≤ u) × (u < w)

pub pairs_back : (N : ℕ) (r : Rel) (k c : ℕ) (p q : ℤ) → In (p, q) (pairs_from N r k c) → At N r k c p q
pairs_back N r zero c p q i = absurd i
pairs_back N r (suc k) c p q i = ⊎_elim
    (λ j. let x = in_map (λ w. (literal c, literal w)) (those (r c) (N - suc c) (suc c)) (p, q) j in
    let t = those_in (r c) (N - suc c) (suc c) x.0 x.1 in
    (c, x.0, ap (λ (z : ℤ × ℤ). z.0) x.2, ap (λ (z : ℤ × ℤ). z.1) x.2, t.2, omega arith, omega (arith, t.0)))
    (λ j. let x = pairs_back N r k (suc c) p q j in (x.0, x.1, x.2, x.3, x.4, omega (arith, x.5), x.6))
    (in_cases (p, q) (map (λ w. (literal c, literal w)) (those (r c) (N - suc c) (suc c))) (pairs_from N r k (suc c)) i)

pub pairs_forth : (N : ℕ) (r : Rel) (k c u w : ℕ) → c ≤ u → u < c + k → u < w → w < N → r u w ≡ true → In (literal u, literal w) (pairs_from N r k c)
pairs_forth N r zero c u w a b l h e = absurd (omega arith)
pairs_forth N r (suc k) c u w a b l h e = ⊎_elim
    (λ f. in_left (literal u, literal w) (map (λ w. (literal c, literal w)) (those (r c) (N - suc c) (suc c))) (pairs_from N r k (suc c))
    (subst (λ z. In {X = ℤ × ℤ} (literal z, literal w) (map (λ w. (literal c, literal w)) (those (r c) (N - suc c) (suc c)))) f
    (map_in (λ w. (literal c, literal w)) (those (r c) (N - suc c) (suc c)) w (in_those (r c) (N - suc c) (suc c) w (omega (arith, f), omega (arith, f), subst (λ z. r z w ≡ true) (sym f) e)))))
    (⊎_elim (λ g. in_right (literal u, literal w) (map (λ w. (literal c, literal w)) (those (r c) (N - suc c) (suc c))) (pairs_from N r k (suc c)) (pairs_forth N r k (suc c) u w (omega arith) (omega arith) l h e))
    (λ g. absurd (omega arith))) (cases_order c u)

once_append : (xs ys : List (ℤ × ℤ)) → Once xs → Once ys → ((p q : ℤ) → In (p, q) xs → Remains ys p q → ⊥) → Once (xs ++ ys)
once_append [] ys a b f = b
once_append (x ∷ xs) ys a b f = (
  (λ r. ⊎_elim
      (λ i. ⊎_elim (λ j. a.0 (inl j)) (λ j. f x.0 x.1 (inl refl) (inl j)) (in_cases (x.0, x.1) xs ys i))
      (λ i. ⊎_elim (λ j. a.0 (inr j)) (λ j. f x.0 x.1 (inl refl) (inr j)) (in_cases (x.1, x.0) xs ys i)) r),
  once_append xs ys a.1 b (λ p q i. f p q (inr i)),
)

once_row : (u : ℕ) (ws : List ℕ) → ((w : ℕ) → In w ws → u < w) → NoRepeats ws → Once (map (λ w. (literal u, literal w)) ws)
once_row u [] h g = tt
once_row u (w ∷ ws) h g = (
  (λ r. ⊎_elim
      (λ i. let x = in_map (λ w. (literal u, literal w)) ws (literal u, literal w) i in
      g.0 (subst (λ z. In z ws) (same_literal x.0 w (ap (λ (z : ℤ × ℤ). z.1) x.2)) x.1))
      (λ i. let x = in_map (λ w. (literal u, literal w)) ws (literal w, literal u) i in
      let e = same_literal u w (ap (λ (z : ℤ × ℤ). z.0) x.2) in omega (arith, h w (inl refl))) r),
  once_row u ws (λ z i. h z (inr i)) g.1,
)

pub pairs_once : (N : ℕ) (r : Rel) (k c : ℕ) → Once (pairs_from N r k c)
pairs_once N r zero c = tt
pairs_once N r (suc k) c =
    once_append (map (λ w. (literal c, literal w)) (those (r c) (N - suc c) (suc c))) (pairs_from N r k (suc c))
    (once_row c (those (r c) (N - suc c) (suc c)) (λ w i. omega (arith, (those_in (r c) (N - suc c) (suc c) w i).0)) (those_once (r c) (N - suc c) (suc c)))
    (pairs_once N r k (suc c))
    (λ p q i m. let x = in_map (λ w. (literal c, literal w)) (those (r c) (N - suc c) (suc c)) (p, q) i in
    let e : literal c ≡ p = ap (λ (z : ℤ × ℤ). z.0) x.2 in
    ⊎_elim
    (λ j. let y = pairs_back N r k (suc c) p q j in omega (arith, y.5, same_literal y.0 c (y.2 ∙ sym e)))
    (λ j. let y = pairs_back N r k (suc c) q p j in omega (arith, y.5, y.6, same_literal y.1 c (y.3 ∙ sym e))) m)

-- ---- THE PARTITION

module _ (n : ℕ) (rel : Rel) (g : Given (2 * n) rel) (apart : (u w : ℕ) → rel u w ≡ true → u / 2 ≡ w / 2 → ⊥)
    (Clash : ℤ → ℤ → Type 0)
    (tells : (p q : ℤ) → Clash p q → Literal n p × Literal n q × (rel (index p) (index q) ≡ true))
    (clash : (p q : ℤ) → Literal n p × Literal n q × (rel (index p) (index q) ≡ true) → Clash p q) where
  at : (u w : ℕ) (p q : ℤ) → literal u ≡ p → literal w ≡ q → rel u w ≡ true → Clash p q
  at u w p q e f h =
      let b = g.bound u w h in
      clash p q (
        subst (Literal n) e (literal_within n u b.0),
        subst (Literal n) f (literal_within n w b.1),
        ap₂ rel (ap index (sym e) ∙ index_literal u) (ap index (sym f) ∙ index_literal w) ∙ h,
      )

  whole : Split (2 * n) rel (covering (2 * n) rel)
  whole = covering_splits (2 * n) rel g

  remains : (u w : ℕ) (p q : ℤ) → literal u ≡ p → literal w ≡ q → (covering (2 * n) rel).0 u w ≡ true → Remains (cover_of n rel).remaining p q
  remains u w p q e f h =
      let b = g.bound u w (whole.within u w h) in
      ⊎_elim (λ z. absurd (g.loose u (whole.within u u (subst (λ y. (covering (2 * n) rel).0 u y ≡ true) (sym z) h))))
      (⊎_elim
      (λ l. inl (subst (λ z. In z (cover_of n rel).remaining) (ap₂ (λ (a b : ℤ). (a, b)) e f) (pairs_forth (2 * n) (covering (2 * n) rel).0 (2 * n) 0 u w (omega arith) (omega (arith, b.0)) l b.1 h)))
      (λ l. inr (subst (λ z. In z (cover_of n rel).remaining) (ap₂ (λ (a b : ℤ). (a, b)) f e) (pairs_forth (2 * n) (covering (2 * n) rel).0 (2 * n) 0 w u (omega arith) (omega (arith, b.1)) l b.0 (whole.back u w h)))))
      (cases_order u w)

  pub partition : Partition n Clash (cover_of n rel)
  partition = record {
    sound = λ P i. let x = in_map of_literals (covering (2 * n) rel).1 P i in subst (Sound n) x.2 (sound_literals n rel apart x.0 (whole.sound x.0 x.1));
    joined = λ P i p q j. let x = in_map of_literals (covering (2 * n) rel).1 P i in
        let y = joins_back x.0 p q (subst (λ z. Joins z p q) (sym x.2) j) in
        at y.0 y.1 p q y.2 y.3 (whole.joined x.0 x.1 y.0 y.1 y.4);
    left = λ p q i. let y = pairs_back (2 * n) (covering (2 * n) rel).0 (2 * n) 0 p q i in at y.0 y.1 p q y.2 y.3 (whole.within y.0 y.1 y.4);
    everywhere = λ p q c. let t = tells p q c in
        let e = literal_index p t.0.0 in let f = literal_index q t.1.0 in
        ⊎_elim
        (λ x. inl (
          of_literals x.0,
          map_in of_literals (covering (2 * n) rel).1 x.0 x.1,
          subst (λ z. Joins (of_literals x.0) z q) e (subst (λ z. Joins (of_literals x.0) (literal (index p)) z) f (joins_forth x.0 (index p) (index q) x.2)),
        ))
        (λ h. inr (remains (index p) (index q) p q e f h)) (whole.everywhere (index p) (index q) t.2);
    apart = apart_literals (covering (2 * n) rel).1 whole.apart;
    once = pairs_once (2 * n) (covering (2 * n) rel).0 (2 * n) 0;
    beside = λ P i p q j m. let x = in_map of_literals (covering (2 * n) rel).1 P i in
        let y = joins_back x.0 p q (subst (λ z. Joins z p q) (sym x.2) j) in
        ⊎_elim
        (λ k. let z = pairs_back (2 * n) (covering (2 * n) rel).0 (2 * n) 0 p q k in
        whole.beside x.0 x.1 y.0 y.1 y.4
        (ap₂ (covering (2 * n) rel).0 (same_literal y.0 z.0 (y.2 ∙ sym z.2)) (same_literal y.1 z.1 (y.3 ∙ sym z.3)) ∙ z.4))
        (λ k. let z = pairs_back (2 * n) (covering (2 * n) rel).0 (2 * n) 0 q p k in
        whole.beside x.0 x.1 y.0 y.1 y.4
        (ap₂ (covering (2 * n) rel).0 (same_literal y.0 z.1 (y.2 ∙ sym z.3)) (same_literal y.1 z.0 (y.3 ∙ sym z.2)) ∙ whole.back z.0 z.1 z.4)) m;
  }
