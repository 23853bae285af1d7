-- The tests of a call's members and place say what the laws ask for.
use Rattle.std.proofs.Common.{◌≡◌, ℕ, zero, suc, ◌+◌, ◌<◌, ◌≤◌, Bool, true, false, not, ◌&&◌, ◌||◌, eqb, ltb, leb, List, [], ◌∷◌, length, take, ℤ, pos, negsuc, Some, None, Decides, Option, sym, refl, ap, ◌∙◌, subst, ⊎_elim, arith}
use Rattle.std.proofs.lemmas.Bool.{ltb-true, lt-ltb, leb-true, le-leb, eq-eqb, ne_eqb, cases_eq, cases_lt, both_ways, false_from_ne_true, and_parts, and_from, and_left, or_from, or_left, or_right, not-true, not_from_false}
use Rattle.std.proofs.lemmas.List.{get_or-take, length-take-le}
use Rattle.logic.specs.Literal.{variable}
use Rattle.encoder_theory.specs.Members.{member, Proper, Within}
use Rattle.encoder_theory.specs.Meaning.{Admitted, most_members, last_end}
use Rattle.encoder_theory.specs.Calls.{uses, is_proper, is_admitted, is_placed}

uses_at : (xs : List ℤ) (v i : ℕ) → i < length xs → variable (member xs i) ≡ v → uses xs v ≡ true
uses_at [] v i l e = absurd (omega arith)
uses_at (x ∷ xs) v zero l e = or_left (eqb (variable x) v) (uses xs v) (eq-eqb (variable x) v e)
uses_at (x ∷ xs) v (suc i) l e = or_right (eqb (variable x) v) (uses xs v) (uses_at xs v i (omega arith) e)

uses_none : (xs : List ℤ) (v : ℕ) → ((i : ℕ) → i < length xs → variable (member xs i) ≡ v → ⊥) → uses xs v ≡ false
uses_none [] v h = refl
uses_none (x ∷ xs) v h = or_from (eqb (variable x) v) (uses xs v) (ne_eqb (variable x) v (λ e. h 0 (omega arith) e)) (uses_none xs v (λ i l e. h (suc i) (omega arith) e))

proper_cons : (x : ℤ) (xs : List ℤ) (f : ℕ) → 1 ≤ variable x → variable x < f → uses xs (variable x) ≡ false → Proper xs f → Proper (x ∷ xs) f
proper_cons x xs f a b n t = record { literals = s; below = w; distinct = d }
  where
    s : (i : ℕ) → i < length (x ∷ xs) → 1 ≤ variable (member (x ∷ xs) i)
    s zero l = a
    s (suc i) l = t.literals i (omega arith)

    w : (i : ℕ) → i < length (x ∷ xs) → variable (member (x ∷ xs) i) < f
    w zero l = b
    w (suc i) l = t.below i (omega arith)

    d : (i j : ℕ) → i < length (x ∷ xs) → j < length (x ∷ xs) → variable (member (x ∷ xs) i) ≡ variable (member (x ∷ xs) j) → i ≡ j
    d zero zero li lj e = refl
    d zero (suc j) li lj e = absurd (both_ways (uses xs (variable x)) n (uses_at xs (variable x) j (omega arith) (sym e)))
    d (suc i) zero li lj e = absurd (both_ways (uses xs (variable x)) n (uses_at xs (variable x) i (omega arith) e))
    d (suc i) (suc j) li lj e = ap suc (t.distinct i j (omega arith) (omega arith) e)

proper_true : (xs : List ℤ) (f : ℕ) → is_proper xs f ≡ true → Proper xs f
proper_true [] f h = record { literals = λ i l. absurd (omega arith); below = λ i l. absurd (omega arith); distinct = λ i j li lj e. absurd (omega arith) }
proper_true (x ∷ xs) f h =
    let p = and_parts (leb 1 (variable x) && ltb (variable x) f && not (uses xs (variable x))) (is_proper xs f) h in
    let q = and_parts (leb 1 (variable x) && ltb (variable x) f) (not (uses xs (variable x))) p.0 in
    let r = and_parts (leb 1 (variable x)) (ltb (variable x) f) q.0 in
    proper_cons x xs f (leb-true 1 (variable x) r.0) (ltb-true (variable x) f r.1) (not-true (uses xs (variable x)) q.1) (proper_true xs f p.1)

proper_from : (xs : List ℤ) (f : ℕ) → Proper xs f → is_proper xs f ≡ true
proper_from [] f p = refl
proper_from (x ∷ xs) f p =
    and_from _ _
    (and_from _ _
    (and_from _ _ (le-leb 1 (variable x) (p.literals 0 (omega arith))) (lt-ltb (variable x) f (p.below 0 (omega arith))))
    (not_from_false (uses xs (variable x)) (uses_none xs (variable x) (λ i l e. let z = p.distinct (suc i) 0 (omega arith) (omega arith) e in omega arith))))
    (proper_from xs f (record {
      literals = λ i l. p.literals (suc i) (omega arith);
      below = λ i l. p.below (suc i) (omega arith);
      distinct = λ i j li lj e. let z = p.distinct (suc i) (suc j) (omega arith) (omega arith) e in omega arith;
    }))

-- what uses tells of the members
used_at : (xs : List ℤ) (v : ℕ) → uses xs v ≡ true → (j : ℕ) × (j < length xs) × (variable (member xs j) ≡ v)
used_at [] v h = absurd (both_ways false refl h)
used_at (x ∷ xs) v h = ⊎_elim
    (λ e. (0, omega arith, e))
    (λ d. let p = used_at xs v (later (eqb (variable x) v) (uses xs v) (ne_eqb (variable x) v d) h) in (suc p.0, omega arith, p.2))
    (cases_eq (variable x) v)
  where
    later : (a b : Bool) → a ≡ false → (a || b) ≡ true → b ≡ true
    later true b e h = absurd (both_ways true e refl)
    later false b e h = h

-- the members before the place i are literals on distinct variables below first
pub record ProperTo (xs : List ℤ) (first i : ℕ) : Type 0 where
  pub literals : (k : ℕ) → k < i → 1 ≤ variable (member xs k)
  pub below : (k : ℕ) → k < i → variable (member xs k) < first
  pub distinct : (j k : ℕ) → j < i → k < i → variable (member xs j) ≡ variable (member xs k) → j ≡ k

pub proper_start : (xs : List ℤ) (f : ℕ) → ProperTo xs f 0
proper_start xs f = record { literals = λ k l. absurd (omega arith); below = λ k l. absurd (omega arith); distinct = λ j k lj lk e. absurd (omega arith) }

pub proper_end : (xs : List ℤ) (f i : ℕ) → i ≡ length xs → ProperTo xs f i → is_proper xs f ≡ true
proper_end xs f i e p = proper_from xs f (record {
  literals = λ k l. p.literals k (omega arith);
  below = λ k l. p.below k (omega arith);
  distinct = λ j k lj lk d. p.distinct j k (omega arith) (omega arith) d;
})

-- one more, which is a literal below first, on the variable of none before it
pub proper_on : (xs : List ℤ) (f i : ℕ) → ProperTo xs f i → i < length xs → 1 ≤ variable (member xs i) → variable (member xs i) < f
    → uses (take i xs) (variable (member xs i)) ≡ false → ProperTo xs f (i + 1)
proper_on xs f i p l a b n = record {
  literals = λ k h. ⊎_elim (λ s. p.literals k s) (λ s. subst (λ j. 1 ≤ variable (member xs j)) (let e : i ≡ k = omega arith in e) a) (cases_lt k i);
  below = λ k h. ⊎_elim (λ s. p.below k s) (λ s. subst (λ j. variable (member xs j) < f) (let e : i ≡ k = omega arith in e) b) (cases_lt k i);
  distinct = λ j k hj hk e. ⊎_elim
      (λ sj. ⊎_elim (λ sk. p.distinct j k sj sk e) (λ sk. absurd (apart j sj (e ∙ ap (λ m. variable (member xs m)) (let q : k ≡ i = omega arith in q)))) (cases_lt k i))
      (λ sj. ⊎_elim (λ sk. absurd (apart k sk (sym e ∙ ap (λ m. variable (member xs m)) (let q : j ≡ i = omega arith in q)))) (λ sk. omega arith) (cases_lt k i))
      (cases_lt j i);
}
  where
    apart : (j : ℕ) → j < i → variable (member xs j) ≡ variable (member xs i) → ⊥
    apart j s e =
        let m : member (take i xs) j ≡ member xs j = get_or-take i xs j (pos 0) s in
        let t = length-take-le i xs (omega arith) in
        both_ways (uses (take i xs) (variable (member xs i))) n
        (uses_at (take i xs) (variable (member xs i)) j (omega arith) (ap variable m ∙ e))

-- one that is no literal, or not below first, or on the variable of one before it
improper : (xs : List ℤ) (f : ℕ) → (Proper xs f → ⊥) → is_proper xs f ≡ false
improper xs f h = false_from_ne_true (is_proper xs f) (λ e. h (proper_true xs f e))

pub no_literal : (xs : List ℤ) (f i : ℕ) → i < length xs → variable (member xs i) ≡ 0 → is_proper xs f ≡ false
no_literal xs f i l e = improper xs f (λ p. let z = p.literals i l in omega arith)

pub not_below : (xs : List ℤ) (f i : ℕ) → i < length xs → f ≤ variable (member xs i) → is_proper xs f ≡ false
not_below xs f i l e = improper xs f (λ p. let z = p.below i l in omega arith)

pub repeated : (xs : List ℤ) (f i : ℕ) → i < length xs → uses (take i xs) (variable (member xs i)) ≡ true → is_proper xs f ≡ false
repeated xs f i l e =
    let u = used_at (take i xs) (variable (member xs i)) e in
    let s : u.0 < i = let z = u.1 in let t = length-take-le i xs (omega arith) in omega arith in
    let m : member (take i xs) u.0 ≡ member xs u.0 = get_or-take i xs u.0 (pos 0) s in
    improper xs f (λ p. let z = p.distinct u.0 i (omega arith) l (sym (ap variable m) ∙ u.2) in omega arith)

pub admitted_decides : (xs : List ℤ) (first n : ℕ) → Decides (is_admitted xs (pos first) n) (Admitted xs first n)
admitted_decides xs first n = (
  λ h.
      let p = and_parts (leb (length xs) most_members && leb 1 first && leb (first + n) last_end) (is_proper xs first) h in
      let q = and_parts (leb (length xs) most_members && leb 1 first) (leb (first + n) last_end) p.0 in
      let r = and_parts (leb (length xs) most_members) (leb 1 first) q.0 in
      record {
        few = leb-true (length xs) most_members r.0;
        starts = leb-true 1 first r.1;
        fits = leb-true (first + n) last_end q.1;
        proper = proper_true xs first p.1;
      },
  λ k. and_from _ _ (and_from _ _ (and_from _ _ (le-leb (length xs) most_members k.few) (le-leb 1 first k.starts)) (le-leb (first + n) last_end k.fits)) (proper_from xs first k.proper),
)

-- with too many members no call is fit
pub many_refused : (xs : List ℤ) (first : ℤ) (n : ℕ) → leb (length xs) most_members ≡ false → is_admitted xs first n ≡ false
many_refused xs (pos first) n h = and_left _ _ (and_left _ _ (and_left _ _ h))
many_refused xs (negsuc k) n h = refl

-- what an admitted call knows of its first number
pub admitted_first : (xs : List ℤ) (first : ℤ) (n : ℕ) → is_admitted xs first n ≡ true → (z : ℕ) × (first ≡ pos z) × Admitted xs z n
admitted_first xs (pos z) n h = (z, refl, (admitted_decides xs z n).0 h)
admitted_first xs (negsuc k) n h = absurd (both_ways false refl h)

pub placed_decides : (m : ℕ) (t : Option ℕ) → Decides (is_placed m t) ((m ≤ most_members) × Within t m)
placed_decides m None = (λ h. (leb-true m most_members h, tt), λ k. le-leb m most_members k.0)
placed_decides m (Some t) = (
  λ h. let p = and_parts (leb m most_members) (ltb t m) h in (leb-true m most_members p.0, ltb-true t m p.1),
  λ k. and_from _ _ (le-leb m most_members k.0) (lt-ltb t m k.1),
)
