-- Each step of the rule keeps the conflicts split: every one remains or is in exactly one part. Over indices.
use Rattle.std.proofs.Common.{◌≡◌, ℕ, zero, suc, ◌+◌, ◌-◌, ◌*◌, ◌<◌, ◌≤◌, Bool, true, false, cond, not, ◌&&◌, ◌||◌, eqb, ltb, leb, ◌≢◌, ◌⊎◌, List, [], ◌∷◌, ◌++◌, length, sym, refl, ap, ◌∙◌, subst, inl, inr, ⊎_elim, arith, length-append}
use Rattle.std.proofs.lemmas.Bool.{false≢true, eqb-true, or_cases, or_left, or_right, cond_both, cases_Bool, and_parts, and_from, not-true, not_from_false, both_ways, ltb-true, leb-true}
use Rattle.logic.specs.Clause.{In}
use Rattle.logic.proofs.Clauses.{in_left, in_right, in_cases}
use Rattle.cover_theory.specs.Parts.{Part, clique, biclique, Joins, NoRepeats}
use Rattle.cover_theory.specs.Rule.{Rel, among, clashes, joins, grow, grown, without, taken, visit, visits, sweep, Sides, count, those, shared, chosen, better, joined_by, widen, nobody, everyone, started_by, grown_sides, without_sides, gains, bicliques, also, covering}
use Rattle.cover_theory.proofs.Members.{among_in, in_among, those_in, in_those, length_those, those_once}

-- what the rule is given: conflicts of N literals, both ways, none of a literal with itself
pub record Given (N : ℕ) (rel : Rel) : Type 0 where
  pub bound : (u w : ℕ) → rel u w ≡ true → (u < N) × (w < N)
  pub back : (u w : ℕ) → rel u w ≡ true → rel w u ≡ true
  pub loose : (u : ℕ) → rel u u ≡ true → ⊥

-- every two of the members are in conflict
abbrev pub Pairwise : Rel → List ℕ → Type 0
Pairwise rel [] = Unit {0}
Pairwise rel (m ∷ ms) = ((c : ℕ) → In c ms → (rel m c ≡ true) × (rel c m ≡ true)) × Pairwise rel ms

abbrev pub SoundAt : ℕ → Rel → Part ℕ → Type 0
SoundAt N rel (clique ms) = ((c : ℕ) → In c ms → c < N) × Pairwise rel ms × (6 ≤ length ms) × (length ms ≤ 256)
SoundAt N rel (biclique xs ys) =
    ((c : ℕ) → In c xs → c < N) × ((c : ℕ) → In c ys → c < N) × NoRepeats xs × NoRepeats ys
    × ((c : ℕ) → In c xs → In c ys → ⊥) × (length xs + length ys < length xs * length ys)

abbrev pub ApartAt : List (Part ℕ) → Type 0
ApartAt [] = Unit {0}
ApartAt (P ∷ Ps) = ((Q : Part ℕ) → In Q Ps → (u w : ℕ) → Joins P u w → Joins Q u w → ⊥) × ApartAt Ps

pub record Split (N : ℕ) (rel : Rel) (s : Rel × List (Part ℕ)) : Type 0 where
  pub within : (u w : ℕ) → s.0 u w ≡ true → rel u w ≡ true
  pub back : (u w : ℕ) → s.0 u w ≡ true → s.0 w u ≡ true
  pub sound : (P : Part ℕ) → In P s.1 → SoundAt N rel P
  pub joined : (P : Part ℕ) → In P s.1 → (u w : ℕ) → Joins P u w → rel u w ≡ true
  pub everywhere : (u w : ℕ) → rel u w ≡ true → ((P : Part ℕ) × In P s.1 × Joins P u w) ⊎ (s.0 u w ≡ true)
  pub apart : ApartAt s.1
  pub beside : (P : Part ℕ) → In P s.1 → (u w : ℕ) → Joins P u w → s.0 u w ≡ true → ⊥

pub nothing_yet : (N : ℕ) (rel : Rel) → Given N rel → Split N rel (rel, [])
nothing_yet N rel g = record {
  within = λ u w h. h;
  back = g.back;
  sound = λ P h. absurd h;
  joined = λ P h. absurd h;
  everywhere = λ u w h. inr h;
  apart = tt;
  beside = λ P h. absurd h;
}

-- ---- one more part

in_push : (P Q : Part ℕ) (Ps : List (Part ℕ)) → In Q (also Ps P) → In Q Ps ⊎ (P ≡ Q)
in_push P Q Ps h = ⊎_elim (λ i. inl i) (λ i. ⊎_elim (λ e. inr e) (λ z. absurd z) i) (in_cases Q Ps (P ∷ []) h)

apart_push : (Ps : List (Part ℕ)) (P : Part ℕ) → ApartAt Ps → ((Q : Part ℕ) → In Q Ps → (u w : ℕ) → Joins Q u w → Joins P u w → ⊥) → ApartAt (also Ps P)
apart_push [] P h f = ((λ Q q. absurd q), tt)
apart_push (R ∷ Ps) P h f = (
  (λ Q q u w j k. ⊎_elim (λ i. h.0 Q i u w j k) (λ e. f R (inl refl) u w j (subst (λ z. Joins z u w) (sym e) k)) (in_push P Q Ps q)),
  apart_push Ps P h.1 (λ Q q. f Q (inr q)),
)

module _ (N : ℕ) (rel r : Rel) (Ps : List (Part ℕ)) (old : Split N rel (r, Ps)) (P : Part ℕ) (r' : Rel)
    (sound : SoundAt N rel P)
    (live : (u w : ℕ) → Joins P u w → r u w ≡ true)
    (less : (u w : ℕ) → r' u w ≡ true → (r u w ≡ true) × (Joins P u w → ⊥))
    (kept : (u w : ℕ) → r u w ≡ true → Joins P u w ⊎ (r' u w ≡ true))
    (back : (u w : ℕ) → r' u w ≡ true → r' w u ≡ true) where
  pub added : Split N rel (r', also Ps P)
  added = record {
    within = λ u w h. old.within u w (less u w h).0;
    back = back;
    sound = λ Q q. ⊎_elim (λ i. old.sound Q i) (λ e. subst (SoundAt N rel) e sound) (in_push P Q Ps q);
    joined = λ Q q u w j. ⊎_elim (λ i. old.joined Q i u w j) (λ e. old.within u w (live u w (subst (λ z. Joins z u w) (sym e) j))) (in_push P Q Ps q);
    everywhere = λ u w h. ⊎_elim
        (λ x. inl (x.0, in_left x.0 Ps (P ∷ []) x.1, x.2))
        (λ s. ⊎_elim (λ j. inl (P, in_right P Ps (P ∷ []) (inl refl), j)) (λ s'. inr s') (kept u w s)) (old.everywhere u w h);
    apart = apart_push Ps P old.apart (λ Q q u w j k. old.beside Q q u w j (live u w k));
    beside = λ Q q u w j s. ⊎_elim (λ i. old.beside Q i u w j (less u w s).0) (λ e. (less u w s).1 (subst (λ z. Joins z u w) (sym e) j)) (in_push P Q Ps q);
  }

-- ---- cliques

pairwise_push : (r : Rel) (ms : List ℕ) (c : ℕ) → ((u w : ℕ) → r u w ≡ true → r w u ≡ true) → Pairwise r ms → clashes r ms c ≡ true → Pairwise r (ms ++ c ∷ [])
pairwise_push r [] c back h k = ((λ d i. absurd i), tt)
pairwise_push r (m ∷ ms) c back h k =
    let p = and_parts (r m c) (clashes r ms c) k in (
      (λ d i. ⊎_elim (λ j. h.0 d j)
          (⊎_elim (λ e. (subst (λ z. r m z ≡ true) e p.0, subst (λ z. r z m ≡ true) e (back m c p.0))) (λ z. absurd z))
          (in_cases d ms (c ∷ []) i)),
      pairwise_push r ms c back h.1 p.1,
    )

-- what a growing clique keeps
abbrev Growing : Rel → List ℕ → Type 0
Growing r ms = Pairwise r ms × (length ms ≤ 256)

grow_keeps : (r : Rel) → ((u w : ℕ) → r u w ≡ true → r w u ≡ true) → (ms : List ℕ) (k c : ℕ) → Growing r ms → Growing r (grow r ms k c)
grow_keeps r back ms zero c h = h
grow_keeps r back ms (suc k) c h =
    grow_keeps r back (cond (joins r ms c) (ms ++ c ∷ []) ms) k (suc c)
    (cond_both (joins r ms c) (ms ++ c ∷ []) ms (Growing r)
    (λ e. let p = and_parts (clashes r ms c) (ltb (length ms) 256) e in let l = ltb-true (length ms) 256 p.1 in
    (pairwise_push r ms c back h.0 p.0, omega (arith, length-append ms (c ∷ []))))
    (λ e. h))

pairwise_in : (r : Rel) (ms : List ℕ) (u w : ℕ) → Pairwise r ms → In u ms → In w ms → u ≢ w → r u w ≡ true
pairwise_in r [] u w h i j ne = absurd i
pairwise_in r (m ∷ ms) u w h (inl e) (inl f) ne = absurd (ne (sym e ∙ f))
pairwise_in r (m ∷ ms) u w h (inl e) (inr j) ne = subst (λ z. r z w ≡ true) e (h.0 w j).0
pairwise_in r (m ∷ ms) u w h (inr i) (inl f) ne = subst (λ z. r u z ≡ true) f (h.0 u i).1
pairwise_in r (m ∷ ms) u w h (inr i) (inr j) ne = pairwise_in r ms u w h.1 i j ne

pairwise_mono : (r rel : Rel) → ((u w : ℕ) → r u w ≡ true → rel u w ≡ true) → (ms : List ℕ) → Pairwise r ms → Pairwise rel ms
pairwise_mono r rel f [] h = tt
pairwise_mono r rel f (m ∷ ms) h = ((λ c i. (f m c (h.0 c i).0, f c m (h.0 c i).1)), pairwise_mono r rel f ms h.1)

-- members of a clique of two or more have a conflict
has_conflict : (r : Rel) (ms : List ℕ) (c : ℕ) → 2 ≤ length ms → Pairwise r ms → In c ms → (d : ℕ) × (r c d ≡ true)
has_conflict r [] c l h i = absurd i
has_conflict r (a ∷ []) c l h i = absurd (omega arith)
has_conflict r (a ∷ b ∷ ms) c l h (inl e) = (b, subst (λ z. r z b ≡ true) e (h.0 b (inl refl)).0)
has_conflict r (a ∷ b ∷ ms) c l h (inr i) = (a, (h.0 c i).1)

-- ---- sides: every literal of A conflicts with every one of B

abbrev pub Sided : Rel → Sides → Type 0
Sided r s = (u w : ℕ) → s.0 u ≡ true → s.1 w ≡ true → r u w ≡ true

abbrev between : Sides → ℕ → ℕ → Bool
between s u w = (s.0 u && s.1 w) || (s.1 u && s.0 w)

pub sided_join : (N : ℕ) (r : Rel) (s : Sides) (c : ℕ) → Sided r s → Sided r (joined_by N s.0 c, shared r s.1 c)
sided_join N r s c h u w a b =
    let p = and_parts (s.1 w) (r c w) b in
    ⊎_elim (λ e. h u w e p.0) (λ e. subst (λ z. r z w ≡ true) (eqb-true c u e) p.1) (or_cases (s.0 u) (eqb c u) (and_parts (ltb u N) _ a).1)

pub sided_widen : (N : ℕ) (r : Rel) (k : ℕ) (s : Sides) → Sided r s → Sided r (widen N r k s)
sided_widen N r zero s h = h
sided_widen N r (suc k) s h =
    cond_both (better (count s.0 N 0) (count s.1 N 0) (suc (count s.0 N 0)) (count (shared r s.1 (chosen N r s.0 s.1)) N 0))
    (widen N r k (joined_by N s.0 (chosen N r s.0 s.1), shared r s.1 (chosen N r s.0 s.1))) s (Sided r)
    (λ e. sided_widen N r k (joined_by N s.0 (chosen N r s.0 s.1), shared r s.1 (chosen N r s.0 s.1)) (sided_join N r s (chosen N r s.0 s.1) h))
    (λ e. h)

pub sided_start : (N : ℕ) (r : Rel) (c : ℕ) → Sided r (started_by N r c)
sided_start N r c u w a b =
    ⊎_elim (λ e. absurd (false≢true e)) (λ e. subst (λ z. r z w ≡ true) (eqb-true c u e) (and_parts (everyone N w) (r c w) b).1) (or_cases false (eqb c u) (and_parts (ltb u N) _ a).1)

pub sided_grown : (N : ℕ) (r : Rel) → Sided r (grown_sides N r)
sided_grown N r = sided_widen N r N (started_by N r (chosen N r nobody (everyone N))) (sided_start N r (chosen N r nobody (everyone N)))

module _ (N : ℕ) (rel : Rel) (g : Given N rel) where
  module _ (r : Rel) (Ps : List (Part ℕ)) (old : Split N rel (r, Ps)) where
    loose : (u : ℕ) → r u u ≡ true → ⊥
    loose u h = g.loose u (old.within u u h)

    -- a clique becomes a part
    clique_added : (ms : List ℕ) → Growing r ms → 6 ≤ length ms → Split N rel (without r ms, also Ps (clique ms))
    clique_added ms h six =
        added N rel r Ps old (clique ms) (without r ms)
        ((λ c i. let d = has_conflict r ms c (omega arith) h.0 i in (g.bound c d.0 (old.within c d.0 d.1)).0), pairwise_mono r rel old.within ms h.0, six, h.1)
        (λ u w j. pairwise_in r ms u w h.0 j.0 j.1 j.2)
        (λ u w s. let p = and_parts (r u w) (not (among ms u && among ms w)) s in
        (p.0, λ j. both_ways (among ms u && among ms w) (not-true _ p.1) (and_from (among ms u) (among ms w) (in_among ms u j.0) (in_among ms w j.1))))
        (λ u w s. ⊎_elim
        (λ e. let p = and_parts (among ms u) (among ms w) e in inl (among_in ms u p.0, among_in ms w p.1, λ f. loose u (subst (λ z. r u z ≡ true) (sym f) s)))
        (λ e. inr (and_from (r u w) _ s (not_from_false _ e))) (cases_Bool (among ms u && among ms w)))
        (λ u w s. let p = and_parts (r u w) (not (among ms u && among ms w)) s in
        and_from (r w u) _ (old.back u w p.0) (ap not (swap (among ms w) (among ms u)) ∙ p.1))
      where
        swap : (a b : Bool) → (a && b) ≡ (b && a)
        swap true true = refl
        swap true false = refl
        swap false true = refl
        swap false false = refl

    -- the sides become a part
    sides_added : (s : Sides) → Sided r s → gains N s ≡ true → Split N rel (without_sides r s, also Ps (biclique (those s.0 N 0) (those s.1 N 0)))
    sides_added s h gain =
        added N rel r Ps old (biclique (those s.0 N 0) (those s.1 N 0)) (without_sides r s) (
          (λ c i. omega (arith, (those_in s.0 N 0 c i).1)),
          (λ c i. omega (arith, (those_in s.1 N 0 c i).1)),
          those_once s.0 N 0,
          those_once s.1 N 0,
          (λ c i j. loose c (h c c (those_in s.0 N 0 c i).2 (those_in s.1 N 0 c j).2)),
          subst (λ z. z + length (those s.1 N 0) < z * length (those s.1 N 0)) (sym (length_those s.0 N 0))
              (subst (λ z. count s.0 N 0 + z < count s.0 N 0 * z) (sym (length_those s.1 N 0)) (ltb-true _ _ gain)),
        )
        (λ u w j. ⊎_elim (λ i. h u w (those_in s.0 N 0 u i.0).2 (those_in s.1 N 0 w i.1).2)
        (λ i. old.back w u (h w u (those_in s.0 N 0 w i.1).2 (those_in s.1 N 0 u i.0).2)) j)
        (λ u w k. let p = and_parts (r u w) (not (between s u w)) k in (p.0, λ j. both_ways (between s u w) (not-true _ p.1) (joins_between u w j)))
        (λ u w k. let l = g.bound u w (old.within u w k) in ⊎_elim
        (λ e. inl (⊎_elim
        (λ f. let p = and_parts (s.0 u) (s.1 w) f in inl (in_those s.0 N 0 u (omega arith, omega (arith, l.0), p.0), in_those s.1 N 0 w (omega arith, omega (arith, l.1), p.1)))
        (λ f. let p = and_parts (s.1 u) (s.0 w) f in inr (in_those s.1 N 0 u (omega arith, omega (arith, l.0), p.0), in_those s.0 N 0 w (omega arith, omega (arith, l.1), p.1)))
        (or_cases (s.0 u && s.1 w) (s.1 u && s.0 w) e)))
        (λ e. inr (and_from (r u w) _ k (not_from_false _ e))) (cases_Bool (between s u w)))
        (λ u w k. let p = and_parts (r u w) (not (between s u w)) k in and_from (r w u) _ (old.back u w p.0) (ap not (turn (s.0 w) (s.1 u) (s.1 w) (s.0 u)) ∙ p.1))
      where
        joins_between : (u w : ℕ) → Joins (biclique (those s.0 N 0) (those s.1 N 0)) u w → between s u w ≡ true
        joins_between u w j = ⊎_elim
            (λ i. or_left _ _ (and_from (s.0 u) (s.1 w) (those_in s.0 N 0 u i.0).2 (those_in s.1 N 0 w i.1).2))
            (λ i. or_right _ _ (and_from (s.1 u) (s.0 w) (those_in s.1 N 0 u i.0).2 (those_in s.0 N 0 w i.1).2)) j

        turn : (a b c d : Bool) → ((a && b) || (c && d)) ≡ ((d && c) || (b && a))
        turn true true true true = refl
        turn true true true false = refl
        turn true true false true = refl
        turn true true false false = refl
        turn true false true true = refl
        turn true false true false = refl
        turn true false false true = refl
        turn true false false false = refl
        turn false true true true = refl
        turn false true true false = refl
        turn false true false true = refl
        turn false true false false = refl
        turn false false true true = refl
        turn false false true false = refl
        turn false false false true = refl
        turn false false false false = refl

  -- a visit
  pub visit_splits : (s : Rel × List (Part ℕ)) (u w : ℕ) → Split N rel s → Split N rel (visit also N s u w)
  visit_splits s u w h =
      cond_both (s.0 u w) (taken also s.0 (grown N s.0 u w) s.1) s (Split N rel)
      (λ e. cond_both (leb 6 (length (grown N s.0 u w))) (without s.0 (grown N s.0 u w), also s.1 (clique (grown N s.0 u w))) (s.0, s.1) (Split N rel)
      (λ f. clique_added s.0 s.1 h (grown N s.0 u w)
      (grow_keeps s.0 h.back (u ∷ w ∷ []) (N - suc w) (suc w)
      (((λ c i. ⊎_elim (λ q. (subst (λ z. s.0 u z ≡ true) q e, subst (λ z. s.0 z u ≡ true) q (h.back u w e))) (λ z. absurd z) i), ((λ c i. absurd i), tt)), omega arith))
      (leb-true 6 (length (grown N s.0 u w)) f))
      (λ f. h))
      (λ e. h)

  pub visits_splits : (s : Rel × List (Part ℕ)) (u k w : ℕ) → Split N rel s → Split N rel (visits also N s u k w)
  visits_splits s u zero w h = h
  visits_splits s u (suc k) w h = visits_splits (visit also N s u w) u k (suc w) (visit_splits s u w h)

  pub sweep_splits : (s : Rel × List (Part ℕ)) (k u : ℕ) → Split N rel s → Split N rel (sweep also N s k u)
  sweep_splits s zero u h = h
  sweep_splits s (suc k) u h = sweep_splits (visits also N s u (N - suc u) (suc u)) k (suc u) (visits_splits s u (N - suc u) (suc u) h)

  pub bicliques_split : (k : ℕ) (s : Rel × List (Part ℕ)) → Split N rel s → Split N rel (bicliques also N k s)
  bicliques_split zero s h = h
  bicliques_split (suc k) s h =
      let p = grown_sides N s.0 in
      cond_both (gains N p) (bicliques also N k (without_sides s.0 p, also s.1 (biclique (those p.0 N 0) (those p.1 N 0)))) s (Split N rel)
      (λ e. bicliques_split k (without_sides s.0 p, also s.1 (biclique (those p.0 N 0) (those p.1 N 0)))
      (sides_added s.0 s.1 h p (sided_grown N s.0) e))
      (λ e. h)

  pub covering_splits : Split N rel (covering N rel)
  covering_splits = bicliques_split (N * N) (sweep also N (rel, []) N 0) (sweep_splits (rel, []) N 0 (nothing_yet N rel g))
