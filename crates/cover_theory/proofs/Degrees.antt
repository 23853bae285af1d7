-- Degrees, the fullest literal, and scores bounded by degrees.
use Rattle.std.proofs.Common.{◌≡◌, ℕ, zero, suc, ◌+◌, ◌*◌, ◌/◌, ◌%◌, ◌^◌, ◌<◌, ◌≤◌, Bool, true, false, cond, not, ◌&&◌, ◌||◌, eqb, ltb, List, get_or, sym, refl, ap, ◌∙◌, ap₂, ⊎_elim, arith}
use native.Mathlib.Nat.{zero-div}
use Rattle.std.proofs.lemmas.Bool.{cases_lt, lt-ltb, le-ltb, and_right, and_parts, and_from, cond_both, false≢true, or_parts, or_from, ne_eqb}
use Rattle.network_theory.specs.Layout.{bit}
use Rattle.cover_theory.specs.Rule.{Rel, Side, Sides, count, shared, everyone, nobody, score, first_best, chosen, joined_by, started_by, without_sides}
use Rattle.cover_theory.specs.Rows.{marked, stands_at, conflicts, Fit, held, Degrees, SidesIn}
use Rattle.cover_theory.proofs.Counts.{count_cut, count_same}
use Rattle.cover_theory.proofs.Grows.{agree}

pub degree_word : (ws : List ℕ) (R u i t : ℕ) → t < 64 → stands_at ws R u (64 * i + t) ≡ bit (get_or ws (u * R + i) 0) t
degree_word ws R u i t h =
    ap₂ (λ y z. bit (get_or ws (u * R + y) 0) z) (let e : (64 * i + t) / 64 ≡ i = omega arith in e) (let e : (64 * i + t) % 64 ≡ t = omega arith in e)

pub degree_is : (N R : ℕ) (ws : List ℕ) (u : ℕ) → Fit N R ws → u < N → count (stands_at ws R u) (64 * R) 0 ≡ count (shared (conflicts N R ws) (everyone N) u) N 0
degree_is N R ws u fit hu =
    let small = fit.small in
    count_cut (stands_at ws R u) N (64 * R) fit.small (λ j g l. fit.tidy u j hu g l)
    ∙ count_same (stands_at ws R u) (shared (conflicts N R ws) (everyone N) u) N
    (λ j h. agree N R ws fit.tidy fit.small u j hu (omega arith) ∙ ap (λ b. b && conflicts N R ws u j) (sym (lt-ltb j N h)))

bit_mono : (a b : Bool) → (a ≡ true → b ≡ true) → cond a 1 0 ≤ cond b 1 0
bit_mono true true h = omega arith
bit_mono true false h = absurd (false≢true (h refl))
bit_mono false true h = omega arith
bit_mono false false h = omega arith

pub count_mono : (p q : Side) (k c : ℕ) → ((j : ℕ) → p j ≡ true → q j ≡ true) → count p k c ≤ count q k c
count_mono p q zero c h = omega arith
count_mono p q (suc k) c h = omega (arith, bit_mono (p c) (q c) (h c), count_mono p q k (suc c) h)

-- no literal scores more than one above its degree
pub score_bound : (N : ℕ) (rel : Rel) (a b : Side) (c d : ℕ) → ((j : ℕ) → b j ≡ true → j < N) → d ≡ count (shared rel (everyone N) c) N 0 → score N rel a b c ≤ d + 1
score_bound N rel a b c d small e =
    let m = count_mono (shared rel b c) (shared rel (everyone N) c) N 0 (λ j h. let p = and_parts (b j) (rel c j) h in and_from (ltb j N) (rel c j) (lt-ltb j N (small j p.0)) p.1) in
    cond_both (a c) 0 (suc (count (shared rel b c) N 0)) (λ z. z ≤ d + 1) (λ _. omega arith) (λ _. omega arith)

best_same : (f g : ℕ → ℕ) (k c b : ℕ) → ((j : ℕ) → j < c + k → f j ≡ g j) → b < c + k → first_best f k c b ≡ first_best g k c b
best_same f g zero c b h l = refl
best_same f g (suc k) c b h l =
    let e : ltb (f b) (f c) ≡ ltb (g b) (g c) = ap₂ ltb (h b (omega arith)) (h c (omega arith)) in
    ap (λ z. first_best f k (suc c) (cond z c b)) e
    ∙ best_same f g k (suc c) (cond (ltb (g b) (g c)) c b) (λ j m. h j (omega arith))
    (cond_both (ltb (g b) (g c)) c b (λ z. z < suc c + k) (λ _. omega arith) (λ _. omega arith))

-- the fullest by degrees is the one that the rule starts from
pub fullest_is : (N : ℕ) (rel : Rel) (ds : List ℕ) → 0 < N → Degrees N rel ds → first_best (λ c. get_or ds c 0 + 1) N 0 0 ≡ chosen N rel nobody (everyone N)
fullest_is N rel ds h deg =
    best_same (λ c. get_or ds c 0 + 1) (score N rel nobody (everyone N)) N 0 0
    (λ j l. let e = deg j (omega arith) in omega arith) (omega arith)

-- ---- the first sides

pub start_sides : (N R : ℕ) (ws a a' b' : List ℕ) (c : ℕ) → Fit N R ws → c < N
    → ((k : ℕ) → k < R → get_or a k 0 ≡ 0) → ((j : ℕ) → marked a' j ≡ (marked a j || eqb c j)) → ((k : ℕ) → k < R → get_or b' k 0 ≡ get_or ws (c * R + k) 0)
    → SidesIn N R a' b' (started_by N (conflicts N R ws) c)
start_sides N R ws a a' b' c fit hc empty joins copied = record {
  left_neat = λ j h g. joins j ∙ or_from (marked a j) (eqb c j) (bare j g) (ne_eqb c j (λ e. omega arith));
  right_neat = λ j h g. row j g ∙ fit.tidy c j hc h g;
  sides = λ i. ((λ j. left j i), (λ j. right j i));
}
  where
    bare : (j : ℕ) → j < 64 * R → marked a j ≡ false
    bare j g = ap (λ z. bit z (j % 64)) (empty (j / 64) (omega arith)) ∙ ap (λ z. eqb (z % 2) 1) (zero-div (2 ^ (j % 64)))

    row : (j : ℕ) → j < 64 * R → marked b' j ≡ stands_at ws R c j
    row j g = ap (λ z. bit z (j % 64)) (copied (j / 64) (omega arith))

    left : (j : ℕ) → held N a' j ≡ joined_by N nobody c j
    left j = ⊎_elim
        (λ h. let small = fit.small in ap (λ z. ltb j N && z) (joins j ∙ ap (λ z. z || eqb c j) (bare j (omega arith))))
        (λ h. ap (λ z. z && marked a' j) (le-ltb j N h) ∙ sym (ap (λ z. z && (false || eqb c j)) (le-ltb j N h))) (cases_lt j N)

    right : (j : ℕ) → held N b' j ≡ shared (conflicts N R ws) (everyone N) c j
    right j = ⊎_elim
        (λ h. let small = fit.small in ap (λ z. ltb j N && z) (row j (omega arith) ∙ agree N R ws fit.tidy fit.small c j hc (omega arith)))
        (λ h. ap (λ z. z && marked b' j) (le-ltb j N h) ∙ sym (ap (λ z. z && conflicts N R ws c j) (le-ltb j N h))) (cases_lt j N)

-- ---- degrees after the sides are taken away

pub same_degree : (N : ℕ) (r : Rel) (s : Sides) (u : ℕ) → s.0 u ≡ false → s.1 u ≡ false → count (shared r (everyone N) u) N 0 ≡ count (shared (without_sides r s) (everyone N) u) N 0
same_degree N r s u a b =
    count_same (shared r (everyone N) u) (shared (without_sides r s) (everyone N) u) N
    (λ j h. ap (λ z. ltb j N && z) (kept (r u j) (s.1 j) (s.0 j) ∙ sym (ap₂ (λ x y. r u j && not ((x && s.1 j) || (y && s.0 j))) a b)))
  where
    kept : (t p q : Bool) → t ≡ (t && not ((false && p) || (false && q)))
    kept true p q = refl
    kept false p q = refl

pub recounted : (N : ℕ) (r r' : Rel) (a b ds ds' : List ℕ) → Degrees N r ds → r' ≡ without_sides r (held N a, held N b)
    → ((u : ℕ) → u < N → get_or ds' u 0 ≡ cond (marked a u || marked b u) (count (shared r' (everyone N) u) N 0) (get_or ds u 0))
    → Degrees N r' ds'
recounted N r r' a b ds ds' deg left new u h =
    new u h ∙ cond_both (marked a u || marked b u) (count (shared r' (everyone N) u) N 0) (get_or ds u 0) (λ z. z ≡ count (shared r' (everyone N) u) N 0)
    (λ e. refl)
    (λ e. let p = or_parts (marked a u) (marked b u) e in
    deg u h ∙ same_degree N r (held N a, held N b) u (and_right (ltb u N) _ p.0) (and_right (ltb u N) _ p.1)
    ∙ ap (λ (q : Rel). count (shared q (everyone N) u) N 0) (sym left))
