-- Members of lists, of cliques and of sides.
use Rattle.std.proofs.Common.{◌≡◌, ℕ, zero, suc, ◌+◌, ◌<◌, ◌≤◌, true, cond, eqb, List, [], ◌∷◌, map, length, get_or, sym, refl, ap, ◌∙◌, subst, inl, inr, ⊎_elim, arith}
use Rattle.std.proofs.lemmas.Bool.{false≢true, eqb-true, eq-eqb, or_cases, or_left, or_right, cond_both, cond-true, cond-false, cases_eq}
use Rattle.logic.specs.Clause.{In}
use Rattle.cover_theory.specs.Parts.{NoRepeats}
use Rattle.cover_theory.specs.Rule.{among, Side, count, those}

pub in_map : {X Y : Type 0} (f : X → Y) (xs : List X) (y : Y) → In y (map f xs) → (x : X) × In x xs × (f x ≡ y)
in_map f [] y h = absurd h
in_map f (x ∷ xs) y (inl e) = (x, inl refl, e)
in_map f (x ∷ xs) y (inr h) = let r = in_map f xs y h in (r.0, inr r.1, r.2)

pub map_in : {X Y : Type 0} (f : X → Y) (xs : List X) (x : X) → In x xs → In (f x) (map f xs)
map_in f [] x h = absurd h
map_in f (y ∷ ys) x (inl e) = inl (ap f e)
map_in f (y ∷ ys) x (inr h) = inr (map_in f ys x h)

pub among_in : (ms : List ℕ) (c : ℕ) → among ms c ≡ true → In c ms
among_in [] c h = absurd (false≢true h)
among_in (m ∷ ms) c h = ⊎_elim (λ e. inl (eqb-true m c e)) (λ e. inr (among_in ms c e)) (or_cases (eqb m c) (among ms c) h)

pub in_among : (ms : List ℕ) (c : ℕ) → In c ms → among ms c ≡ true
in_among [] c h = absurd h
in_among (m ∷ ms) c (inl e) = or_left (eqb m c) (among ms c) (eq-eqb m c e)
in_among (m ∷ ms) c (inr h) = or_right (eqb m c) (among ms c) (in_among ms c h)

pub get_or_in : {X : Type 0} (xs : List X) (i : ℕ) (d : X) → i < length xs → In (get_or xs i d) xs
get_or_in [] i d h = absurd (omega arith)
get_or_in (x ∷ xs) zero d h = inl refl
get_or_in (x ∷ xs) (suc i) d h = inr (get_or_in xs i d (omega arith))

-- ---- the members of a side

abbrev pub Within : Side → ℕ → ℕ → ℕ → Type 0
Within p k c j = (c ≤ j) × (j < c + k) × (p j ≡ true)

pub those_in : (p : Side) (k c j : ℕ) → In j (those p k c) → Within p k c j
those_in p zero c j = λ h. absurd h
those_in p (suc k) c j =
    cond_both (p c) (c ∷ those p k (suc c)) (those p k (suc c)) (λ l. In j l → Within p (suc k) c j)
    (λ e h. ⊎_elim (λ f. (omega arith, omega arith, subst (λ z. p z ≡ true) f e)) (λ g. let r = those_in p k (suc c) j g in (omega (arith, r.0), omega (arith, r.1), r.2)) h)
    (λ e h. let r = those_in p k (suc c) j h in (omega (arith, r.0), omega (arith, r.1), r.2))

pub in_those : (p : Side) (k c j : ℕ) → Within p k c j → In j (those p k c)
in_those p zero c j h = absurd (omega (arith, h.0, h.1))
in_those p (suc k) c j h =
    cond_both (p c) (c ∷ those p k (suc c)) (those p k (suc c)) (λ l. In j l)
    (λ e. ⊎_elim (λ f. inl f) (λ g. inr (in_those p k (suc c) j (omega (arith, h.0), omega (arith, h.1), h.2))) (cases_eq c j))
    (λ e. ⊎_elim (λ f. absurd (false≢true (sym e ∙ subst (λ z. p z ≡ true) (sym f) h.2))) (λ g. in_those p k (suc c) j (omega (arith, h.0), omega (arith, h.1), h.2)) (cases_eq c j))

pub length_those : (p : Side) (k c : ℕ) → length (those p k c) ≡ count p k c
length_those p zero c = refl
length_those p (suc k) c =
    cond_both (p c) (c ∷ those p k (suc c)) (those p k (suc c)) (λ l. length l ≡ cond (p c) 1 0 + count p k (suc c))
    (λ e. let r = length_those p k (suc c) in let f : cond (p c) 1 0 ≡ 1 = cond-true {A = ℕ} (p c) 1 0 e in omega arith)
    (λ e. let r = length_those p k (suc c) in let f : cond (p c) 1 0 ≡ 0 = cond-false {A = ℕ} (p c) 1 0 e in omega arith)

pub those_once : (p : Side) (k c : ℕ) → NoRepeats (those p k c)
those_once p zero c = tt
those_once p (suc k) c =
    cond_both (p c) (c ∷ those p k (suc c)) (those p k (suc c)) NoRepeats
    (λ e. ((λ h. let r = those_in p k (suc c) c h in omega (arith, r.0)), those_once p k (suc c)))
    (λ e. those_once p k (suc c))

pub map_once : {X Y : Type 0} (f : X → Y) → ((x y : X) → f x ≡ f y → x ≡ y) → (xs : List X) → NoRepeats xs → NoRepeats (map f xs)
map_once f inj [] h = tt
map_once f inj (x ∷ xs) h =
    ((λ i. let r = in_map f xs (f x) i in h.0 (subst (λ z. In z xs) (inj r.0 x r.2) r.1)), map_once f inj xs h.1)
