-- Pairs of the members of a part: which they are, that each stands once, and how many there are.
use Rattle.std.proofs.Common.{◌≡◌, ℕ, zero, suc, ◌+◌, ◌-◌, ◌*◌, ◌≢◌, ◌⊎◌, List, [], ◌∷◌, ◌++◌, map, length, ℤ, sym, refl, ap, ◌∙◌, subst, inl, inr, ⊎_elim, suc-mul, zero-mul, mul-suc, arith, length-append}
use Rattle.logic.specs.Literal.{variable}
use Rattle.logic.specs.Clause.{In}
use Rattle.logic.proofs.Clauses.{in_left, in_right, in_cases}
use Rattle.cover_theory.specs.Parts.{Part, clique, biclique, Joins, Remains, DistinctVariables, NoRepeats, Sound, Once}
use Rattle.formula_theory.specs.Writing.{pairs_among}
use Rattle.formula_theory.specs.Faithful.{part_conflicts}
use Rattle.formula_theory.specs.Counting.{pairs_of, across, part_pairs}
use Rattle.formula_theory.proofs.Listed.{member_in, map_has, map_in, length_map}

-- ---- in either order
pub remains_cases : (K L : List (ℤ × ℤ)) (p q : ℤ) → Remains (K ++ L) p q → Remains K p q ⊎ Remains L p q
remains_cases K L p q (inl h) = ⊎_elim (λ k. inl (inl k)) (λ k. inr (inl k)) (in_cases (p, q) K L h)
remains_cases K L p q (inr h) = ⊎_elim (λ k. inl (inr k)) (λ k. inr (inr k)) (in_cases (q, p) K L h)

pub remains_left : (K L : List (ℤ × ℤ)) (p q : ℤ) → Remains K p q → Remains (K ++ L) p q
remains_left K L p q (inl h) = inl (in_left (p, q) K L h)
remains_left K L p q (inr h) = inr (in_left (q, p) K L h)

pub remains_right : (K L : List (ℤ × ℤ)) (p q : ℤ) → Remains L p q → Remains (K ++ L) p q
remains_right K L p q (inl h) = inl (in_right (p, q) K L h)
remains_right K L p q (inr h) = inr (in_right (q, p) K L h)

-- lists that have no pair in common
pub once_append : (K L : List (ℤ × ℤ)) → Once K → Once L → ((p q : ℤ) → Remains K p q → Remains L p q → ⊥) → Once (K ++ L)
once_append [] L a b f = b
once_append (c ∷ K) L a b f = (
  (λ h. ⊎_elim a.0 (f c.0 c.1 (inl (inl refl))) (remains_cases K L c.0 c.1 h)),
  once_append K L a.1 b (λ p q h. f p q (⊎_elim (λ k. inl (inr k)) (λ k. inr (inr k)) h)),
)

-- ---- the pairs of one element with a list
abbrev row : ℤ → List ℤ → List (ℤ × ℤ)
row x ys = map (λ y. (x, y)) ys

row_in : (x : ℤ) (ys : List ℤ) (p q : ℤ) → In (p, q) (row x ys) → (p ≡ x) × In q ys
row_in x ys p q h =
    let r = map_in (λ y. (x, y)) ys (p, q) h in
    (sym (ap (λ (c : ℤ × ℤ). c.0) r.2), subst (λ z. In z ys) (ap (λ (c : ℤ × ℤ). c.1) r.2) r.1)

row_has : (x : ℤ) (ys : List ℤ) (p q : ℤ) → x ≡ p → In q ys → In (p, q) (row x ys)
row_has x ys p q e h = subst (λ z. In (z, q) (row x ys)) e (map_has (λ y. (x, y)) ys q h)

row_once : (x : ℤ) (ys : List ℤ) → (In x ys → ⊥) → NoRepeats ys → Once (row x ys)
row_once x [] f d = tt
row_once x (y ∷ ys) f d = (
  ⊎_elim (λ h. d.0 (row_in x ys x y h).1) (λ h. f (inr (row_in x ys y x h).1)),
  row_once x ys (λ h. f (inr h)) d.1,
)

-- ---- the pairs of a clique
pairs_in : (xs : List ℤ) → NoRepeats xs → (p q : ℤ) → In (p, q) (pairs_of xs) → In p xs × In q xs × (p ≢ q)
pairs_in [] d p q h = absurd h
pairs_in (x ∷ xs) d p q h =
    ⊎_elim
    (λ k. let r = row_in x xs p q k in (inl (sym r.0), inr r.1, (λ e. d.0 (subst (λ z. In z xs) (sym e ∙ r.0) r.1))))
    (λ k. let r = pairs_in xs d.1 p q k in (inr r.0, inr r.1, r.2))
    (in_cases (p, q) (row x xs) (pairs_of xs) h)

pairs_has : (xs : List ℤ) (p q : ℤ) → In p xs → In q xs → p ≢ q → Remains (pairs_of xs) p q
pairs_has [] p q a b ne = absurd a
pairs_has (x ∷ xs) p q (inl e) (inl f) ne = absurd (ne (sym e ∙ f))
pairs_has (x ∷ xs) p q (inl e) (inr b) ne = inl (in_left (p, q) (row x xs) (pairs_of xs) (row_has x xs p q e b))
pairs_has (x ∷ xs) p q (inr a) (inl f) ne = inr (in_left (q, p) (row x xs) (pairs_of xs) (row_has x xs q p f a))
pairs_has (x ∷ xs) p q (inr a) (inr b) ne = remains_right (row x xs) (pairs_of xs) p q (pairs_has xs p q a b ne)

pairs_once : (xs : List ℤ) → NoRepeats xs → Once (pairs_of xs)
pairs_once [] d = tt
pairs_once (x ∷ xs) d =
    once_append (row x xs) (pairs_of xs) (row_once x xs d.0 d.1) (pairs_once xs d.1)
    (λ p q h k. d.0 (⊎_elim (λ i. subst (λ z. In z xs) (row_in x xs p q i).0 (both p q k).0) (λ i. subst (λ z. In z xs) (row_in x xs q p i).0 (both p q k).1) h))
  where
    both : (p q : ℤ) → Remains (pairs_of xs) p q → In p xs × In q xs
    both p q (inl k) = let r = pairs_in xs d.1 p q k in (r.0, r.1)
    both p q (inr k) = let r = pairs_in xs d.1 q p k in (r.1, r.0)

-- ---- the pairs of a biclique
across_in : (xs ys : List ℤ) (p q : ℤ) → In (p, q) (across xs ys) → In p xs × In q ys
across_in [] ys p q h = absurd h
across_in (x ∷ xs) ys p q h =
    ⊎_elim
    (λ k. let r = row_in x ys p q k in (inl (sym r.0), r.1))
    (λ k. let r = across_in xs ys p q k in (inr r.0, r.1))
    (in_cases (p, q) (row x ys) (across xs ys) h)

pub across_has : (xs ys : List ℤ) (p q : ℤ) → In p xs → In q ys → In (p, q) (across xs ys)
across_has [] ys p q a b = absurd a
across_has (x ∷ xs) ys p q (inl e) b = in_left (p, q) (row x ys) (across xs ys) (row_has x ys p q e b)
across_has (x ∷ xs) ys p q (inr a) b = in_right (p, q) (row x ys) (across xs ys) (across_has xs ys p q a b)

across_once : (xs ys : List ℤ) → NoRepeats xs → NoRepeats ys → ((p : ℤ) → In p xs → In p ys → ⊥) → Once (across xs ys)
across_once [] ys d e f = tt
across_once (x ∷ xs) ys d e f =
    once_append (row x ys) (across xs ys) (row_once x ys (f x (inl refl)) e) (across_once xs ys d.1 e (λ p h. f p (inr h))) clash
  where
    -- x is neither in xs nor in ys
    gone : (p q : ℤ) → p ≡ x → Remains (across xs ys) p q → ⊥
    gone p q e' (inl k) = d.0 (subst (λ z. In z xs) e' (across_in xs ys p q k).0)
    gone p q e' (inr k) = f x (inl refl) (subst (λ z. In z ys) e' (across_in xs ys q p k).1)

    turn : (p q : ℤ) → Remains (across xs ys) p q → Remains (across xs ys) q p
    turn p q (inl k) = inr k
    turn p q (inr k) = inl k

    clash : (p q : ℤ) → Remains (row x ys) p q → Remains (across xs ys) p q → ⊥
    clash p q (inl i) k = gone p q (row_in x ys p q i).0 k
    clash p q (inr i) k = gone q p (row_in x ys q p i).0 (turn p q k)

-- ---- parts
no_repeats : (xs : List ℤ) → DistinctVariables xs → NoRepeats xs
no_repeats [] d = tt
no_repeats (x ∷ xs) d = (
  (λ h. let r = member_in x xs h in let z = d 0 (suc r.0) (omega arith) (omega (arith, r.1)) (ap variable r.2) in omega arith),
  no_repeats xs (λ i j li lj e. let z = d (suc i) (suc j) (omega arith) (omega arith) e in omega arith),
)

pub joins_turn : (P : Part ℤ) (p q : ℤ) → Joins P p q → Joins P q p
joins_turn (clique xs) p q h = (h.1, h.0, (λ e. h.2 (sym e)))
joins_turn (biclique xs ys) p q h = ⊎_elim (λ k. inr (k.1, k.0)) (λ k. inl (k.1, k.0)) h

part_in : (n : ℕ) (P : Part ℤ) → Sound n P → (p q : ℤ) → In (p, q) (part_pairs P) → Joins P p q
part_in n (clique xs) s p q h = pairs_in xs (no_repeats xs s.1) p q h
part_in n (biclique xs ys) s p q h = inl (across_in xs ys p q h)

pub part_joins : (n : ℕ) (P : Part ℤ) → Sound n P → (p q : ℤ) → Remains (part_pairs P) p q → Joins P p q
part_joins n P s p q (inl h) = part_in n P s p q h
part_joins n P s p q (inr h) = joins_turn P q p (part_in n P s q p h)

pub joins_part : (P : Part ℤ) (p q : ℤ) → Joins P p q → Remains (part_pairs P) p q
joins_part (clique xs) p q h = pairs_has xs p q h.0 h.1 h.2
joins_part (biclique xs ys) p q h = ⊎_elim (λ k. inl (across_has xs ys p q k.0 k.1)) (λ k. inr (across_has xs ys q p k.1 k.0)) h

pub part_once : (n : ℕ) (P : Part ℤ) → Sound n P → Once (part_pairs P)
part_once n (clique xs) s = pairs_once xs (no_repeats xs s.1)
part_once n (biclique xs ys) s = across_once xs ys s.2 s.3 s.4

-- ---- how many
tri : (m : ℕ) → m + pairs_among m ≡ pairs_among (suc m)
tri zero = refl
tri (suc k) =
    let a : suc (suc k) - 1 ≡ suc k = omega arith in
    let b : suc k - 1 ≡ k = omega arith in
    rw (a, b) (omega (arith, suc-mul (suc k) (suc k), mul-suc (suc k) k))

length_pairs : (xs : List ℤ) → length (pairs_of xs) ≡ pairs_among (length xs)
length_pairs [] = refl
length_pairs (x ∷ xs) =
    length-append (row x xs) (pairs_of xs) ∙ ap (λ k. k + length (pairs_of xs)) (length_map (λ y. (x, y)) xs)
    ∙ ap (λ k. length xs + k) (length_pairs xs) ∙ tri (length xs)

pub length_across : (xs ys : List ℤ) → length (across xs ys) ≡ length xs * length ys
length_across [] ys = sym (zero-mul (length ys))
length_across (x ∷ xs) ys =
    let a = length-append (row x ys) (across xs ys) in
    let b : length (row x ys) ≡ length ys = length_map (λ y. (x, y)) ys in
    let c = length_across xs ys in
    let d : length (x ∷ xs) * length ys ≡ length xs * length ys + length ys = suc-mul (length xs) (length ys) in omega arith

pub length_part : (P : Part ℤ) → length (part_pairs P) ≡ part_conflicts P
length_part (clique xs) = length_pairs xs
length_part (biclique xs ys) = length_across xs ys
