-- The rule forms groups, and what follows for places and sizes.
use Rattle.std.proofs.Common.{◌≡◌, ℕ, zero, suc, ◌+◌, ◌-◌, ◌*◌, ◌/◌, ◌<◌, ◌≤◌, true, false, cond, eqb, ltb, leb, ◌⊎◌, Some, None, Option, sym, refl, ap, ◌∙◌, subst, inl, inr, ⊎_elim, mul-le-mul_right, mod-lt, suc-mul, div-add-mod', arith}
use Rattle.std.proofs.lemmas.Bool.{le-leb, lt-leb, leb-true, ltb-true, lt-ltb, eq-eqb, ne_eqb, cases_lt, cases_eq, cases_order, cond-true, cond-false, cond_both, cases_Bool, both_ways, and_from, and_parts}
use Rattle.encoder_theory.specs.Members.{Within, at_place}
use Rattle.layer_theory.specs.Grouping.{groups, start, Formed, size, sum, group_of, group_place, lies, place_in}
use Rattle.layer_theory.specs.Theorems.{Lying}

pub rule_forms : (k m : ℕ) → 1 ≤ k → Formed k m (groups k m) (start k m)
rule_forms k m one =
    let e = div-add-mod' (m + (k - 1)) k in
    let kp : 0 < k = omega arith in
    let l = mod-lt (m + (k - 1)) kp in
    record {
      begins = let z : 0 * k ≡ 0 = omega arith in omega arith;
      ends = omega arith;
      some = λ i b. let s = suc-mul i k in let r : (i + 1) * k ≡ i * k + k = omega arith in let q = mul-le-mul_right k (add_one_at i b) in omega arith;
      most = λ i b. let s = suc-mul i k in let r : (i + 1) * k ≡ i * k + k = omega arith in omega arith;
      needed = omega arith;
    }
  where
    add_one_at : (i : ℕ) → i < groups k m → suc i ≤ groups k m
    add_one_at i b = omega arith

module _ (k m n : ℕ) (s : ℕ → ℕ) (r : Formed k m n s) where
  -- later groups begin later
  pub rises : (i j : ℕ) → i ≤ j → j ≤ n → s i ≤ s j
  rises i zero l b = let e : i ≡ 0 = omega arith in subst (λ q. s q ≤ s 0) (sym e) (omega arith)
  rises i (suc j) l b = ⊎_elim
      (λ (e : i ≡ suc j). subst (λ q. s q ≤ s (suc j)) (sym e) (omega arith))
      (λ ne.
      let a = rises i j (omega arith) (omega arith) in
      let c = r.some j (omega arith) in
      let e : j + 1 ≡ suc j = omega arith in
      let f = ap s e in
      omega arith)
      (cases_eq i (suc j))

  pub ends_within : (i : ℕ) → i < n → s (i + 1) ≤ m
  ends_within i l = let a = rises (i + 1) n (omega arith) (omega arith) in let e = r.ends in omega arith

  pub size_some : (i : ℕ) → i < n → 1 ≤ size s i
  size_some i l = let a = r.some i l in omega arith

  pub size_most : (i : ℕ) → i < n → size s i ≤ k
  size_most i l = let a = r.most i l in omega arith

  pub size_within : (i : ℕ) → i < n → size s i ≤ m
  size_within i l = let a = ends_within i l in omega arith

  -- the group of a place
  module _ (p : ℕ) where
    abbrev ended : ℕ → ℕ
    ended i = cond (leb (s (i + 1)) p) 1 0

    abbrev Found : ℕ → ℕ → Type 0
    Found i g = (g < i) × (s g ≤ p) × (p < s (g + 1))

    found : (i : ℕ) → i ≤ n → ((s i ≤ p) × (sum i ended ≡ i)) ⊎ Found i (sum i ended)
    found zero l = inl (omega (arith, r.begins), refl)
    found (suc i) l = ⊎_elim
        (λ (h : (s i ≤ p) × (sum i ended ≡ i)). ⊎_elim
        (λ (lo : s (i + 1) ≤ p).
        let e : i + 1 ≡ suc i = omega arith in
        let f = ap s e in
        let one : ended i ≡ 1 = cond-true (leb (s (i + 1)) p) 1 0 (le-leb _ _ lo) in
        inl (omega arith, omega (arith, h.1)))
        (λ (hi : p < s (i + 1)).
        let none : ended i ≡ 0 = cond-false (leb (s (i + 1)) p) 1 0 (lt-leb _ _ hi) in
        let e : sum (suc i) ended ≡ i = omega (arith, h.1) in
        inr (subst (λ g. Found (suc i) g) (sym e) (omega arith, h.0, hi)))
        (le_or_less (s (i + 1)) p))
        (λ (h : Found i (sum i ended)).
        let up = rises (sum i ended + 1) (i + 1) (omega (arith, h.0)) (omega arith) in
        let none : ended i ≡ 0 = cond-false (leb (s (i + 1)) p) 1 0 (lt-leb _ _ (omega (arith, h.2))) in
        let e : sum (suc i) ended ≡ sum i ended = omega arith in
        inr (subst (λ g. Found (suc i) g) (sym e) (omega (arith, h.0), h.1, h.2)))
        (found i (omega arith))
      where
        le_or_less : (a b : ℕ) → (a ≤ b) ⊎ (b < a)
        le_or_less a b = ⊎_elim (λ h. inr h) (λ h. inl h) (cases_lt b a)

    module _ (l : p < m) where
      abbrev g : ℕ
      g = group_of n s p

      at_found : Found n g
      at_found = ⊎_elim (λ (h : (s n ≤ p) × (sum n ended ≡ n)). absurd (omega (arith, h.0, r.ends))) (λ h. h) (found n (omega arith))

      pub lying : Lying n s p
      lying = record { is_group = at_found.0; from = at_found.1; before = at_found.2; only = only }
        where
          only : (i : ℕ) → i < n → s i ≤ p → p < s (i + 1) → i ≡ g
          only i b lo hi = ⊎_elim
              (λ e. e)
              (⊎_elim
              (λ (q : i < g). let a = rises (i + 1) g (omega arith) (omega (arith, at_found.0)) in absurd (omega (arith, at_found.1)))
              (λ (q : g < i). let a = rises (g + 1) i (omega arith) (omega arith) in absurd (omega (arith, at_found.2))))
              (cases_order i g)

  pub group_is : (p i : ℕ) → i < n → s i ≤ p → p < s (i + 1) → i ≡ group_of n s p
  group_is p i l lo hi = let e = ends_within i l in (lying p (omega arith)).only i l lo hi

  -- a place that may be absent
  pub within_groups : (t : Option ℕ) → Within t m → Within (group_place n s t) n
  within_groups None w = tt
  within_groups (Some t) w = (lying t w).is_group

  lies_there : (t i : ℕ) → s i ≤ t → t < s (i + 1) → lies s (Some t) i ≡ true
  lies_there t i lo hi = and_from _ _ (le-leb _ _ lo) (lt-ltb _ _ hi)

  lies_so : (t i : ℕ) → lies s (Some t) i ≡ true → (s i ≤ t) × (t < s (i + 1))
  lies_so t i h = let q = and_parts (leb (s i) t) (ltb t (s (i + 1))) h in (leb-true _ _ q.0, ltb-true _ _ q.1)

  -- the command of a group is true exactly at the group of the place
  pub lies_is : (t : Option ℕ) (i : ℕ) → Within t m → i < n → lies s t i ≡ at_place (group_place n s t) i
  lies_is None i w l = refl
  lies_is (Some t) i w l = ⊎_elim
      (λ (h : lies s (Some t) i ≡ true). let q = lies_so t i h in h ∙ sym (eq-eqb i _ ((lying t w).only i l q.0 q.1)))
      (λ (h : lies s (Some t) i ≡ false). h ∙ sym (ne_eqb i _ (λ e.
      let y = lying t w in
      both_ways _ h (lies_there t i (subst (λ j. s j ≤ t) (sym e) y.from) (subst (λ j. t < s (j + 1)) (sym e) y.before)))))
      (cases_Bool (lies s (Some t) i))

  pub within_place : (t : Option ℕ) (i : ℕ) → Within (place_in s t i) (size s i)
  within_place None i = tt
  within_place (Some t) i = cond_both (lies s (Some t) i) (Some (t - s i)) None (λ o. Within o (size s i))
      (λ h. let q = lies_so t i h in omega (arith, q.0, q.1)) (λ h. tt)

  pub place_at : (t : Option ℕ) (i p : ℕ) → p < size s i → at_place t (s i + p) ≡ at_place (place_in s t i) p
  place_at None i p l = refl
  place_at (Some t) i p l = cond_both (lies s (Some t) i) (Some (t - s i)) None (λ o. eqb (s i + p) t ≡ at_place o p)
      (λ h. let q = lies_so t i h in ⊎_elim
      (λ (e : p ≡ t - s i). eq-eqb (s i + p) t (omega (arith, q.0)) ∙ sym (eq-eqb p (t - s i) e))
      (λ ne. ne_eqb (s i + p) t (λ e. ne (omega arith)) ∙ sym (ne_eqb p (t - s i) ne))
      (cases_eq p (t - s i)))
      (λ h. ne_eqb (s i + p) t (λ e. both_ways _ h (lies_there t i (omega arith) (omega arith))))

  -- there are no more groups than members
  begins_after : (i : ℕ) → i ≤ n → i ≤ s i
  begins_after zero l = omega arith
  begins_after (suc i) l =
      let a = begins_after i (omega arith) in
      let b = r.some i (omega arith) in
      let e : i + 1 ≡ suc i = omega arith in
      let f = ap s e in
      omega arith

  pub groups_within : n ≤ m
  groups_within = let a = begins_after n (omega arith) in let e = r.ends in omega arith

-- the group of a place is the place divided by k
pub group_of-div : (k m p : ℕ) → 1 ≤ k → p < m → group_of (groups k m) (start k m) p ≡ p / k
group_of-div k m p one l =
    let f = rule_forms k m one in
    let kp : 0 < k = omega arith in
    let e = div-add-mod' p k in
    let r = mod-lt p kp in
    let z = suc-mul (p / k) k in
    let q : (p / k + 1) * k ≡ p / k * k + k = omega arith in
    let ends = f.ends in
    let b : p / k < groups k m =
    ⊎_elim (λ h. h) (λ h. let g = mul-le-mul_right k h in absurd (omega arith)) (cases_lt (p / k) (groups k m)) in
    sym (group_is k m (groups k m) (start k m) f p (p / k) b (omega arith) (omega arith))
