-- The laws that follow from the others: an encoder that shows its core keeps them all.
use Rattle.std.proofs.Common.{◌≡◌, ℕ, zero, suc, ◌+◌, ◌-◌, ◌*◌, ◌<◌, ◌≤◌, Bool, true, false, cond, not, eqb, ltb, ◌≢◌, ◌⊎◌, List, [], ◌∷◌, length, get_or, ℤ, pos, negsuc, Some, None, Option, sym, refl, ap, ◌∙◌, subst, inl, inr, ⊎_elim, mul-le-mul_right, arith}
use Rattle.std.proofs.lemmas.Bool.{eq-eqb, ne_eqb, lt-ltb, le-ltb, cases_eq, cases_order, cond-true, cond-false, both_ways}
use Rattle.logic.specs.Literal.{variable, complement}
use Rattle.logic.specs.Clause.{Clause, Assignment, holds, Satisfies}
use Rattle.logic.specs.Chain.{Chain}
use Rattle.logic.proofs.Literals.{same_variable, not_both, complement_holds, complement_complement}
use Rattle.logic.proofs.Chains.{chain_holds, chain_back}
use Rattle.encoder_theory.specs.Members.{member, Proper, Within, at_place, OneTrue, AtMostOneTrue, Takes, Excludes}
use Rattle.encoder_theory.specs.Meaning.{Meaning, Admits}
use Rattle.encoder_theory.specs.Laws.{WellFormed, Completable, Bounded, Lawful}

-- what an encoder has to show: of the chains only that each member leads to the complement of each later one
pub record Core (M : Meaning) : Type 0 where
  pub well_formed : WellFormed M
  pub completable : Completable M
  pub leads : (xs : List ℤ) (first : ℕ) → Admits M xs first → (i j : ℕ) → i < j → j < length xs
      → Chain (M.list xs first) (member xs i) (complement (member xs j))
  pub bounded : Bounded M

-- for the bounds
pub below_square : (m : ℕ) → m ≤ m * m
below_square zero = omega arith
below_square (suc k) = let l : 1 ≤ suc k = omega arith in let e = mul-le-mul_right (suc k) l in omega arith

-- an assignment with its one true member at t, and the auxiliaries at vs
abbrev signed : ℤ → Bool → Bool
signed (pos n) b = b
signed (negsuc n) b = not b

abbrev assign : List ℤ → ℕ → Option ℕ → ℕ → Bool
assign [] k t n = false
assign (x ∷ xs) k t n = cond (eqb (variable x) n) (signed x (at_place t k)) (assign xs (suc k) t n)

assign_at : (xs : List ℤ) (k : ℕ) (t : Option ℕ) (i : ℕ) → i < length xs
    → ((i j : ℕ) → i < length xs → j < length xs → variable (member xs i) ≡ variable (member xs j) → i ≡ j)
    → assign xs k t (variable (member xs i)) ≡ signed (member xs i) (at_place t (k + i))
assign_at [] k t i h apart = absurd (omega arith)
assign_at (x ∷ xs) k t zero h apart =
    let e : k ≡ k + 0 = omega arith in
    cond-true (eqb (variable x) (variable x)) _ _ (eq-eqb _ _ refl) ∙ ap (λ n. signed x (at_place t n)) e
assign_at (x ∷ xs) k t (suc i) h apart =
    let e : suc k + i ≡ k + suc i = omega arith in
    let l : i < length xs = omega arith in
    cond-false (eqb (variable x) (variable (member xs i))) _ _ (ne_eqb _ _ (λ q. let z = apart 0 (suc i) (omega arith) h q in omega arith))
    ∙ assign_at xs (suc k) t i l (λ i j p q r. let s = apart (suc i) (suc j) (omega arith) (omega arith) r in omega arith)
    ∙ ap (λ n. signed (member xs i) (at_place t n)) e

holds_signed : (s : Assignment) (p : ℤ) (b : Bool) → 1 ≤ variable p → s (variable p) ≡ signed p b → holds s p ≡ b
holds_signed s (pos zero) b z e = absurd (omega arith)
holds_signed s (pos (suc n)) b z e = e
holds_signed s (negsuc n) b z e = ap not e ∙ twice b
  where
    twice : (b : Bool) → not (not b) ≡ b
    twice true = refl
    twice false = refl

abbrev world : List ℤ → ℕ → List Bool → Option ℕ → Assignment
world xs first vs t n = cond (ltb n first) (assign xs 0 t n) (get_or vs (n - first) false)

world_one : (xs : List ℤ) (first : ℕ) (vs : List Bool) (t : Option ℕ) → Proper xs first → OneTrue (world xs first vs t) xs t
world_one xs first vs t p i l =
    let e : 0 + i ≡ i = omega arith in
    holds_signed (world xs first vs t) (member xs i) (at_place t i) (p.literals i l)
    (cond-true (ltb (variable (member xs i)) first) _ _ (lt-ltb _ _ (p.below i l)) ∙ assign_at xs 0 t i l p.distinct ∙ ap (λ n. signed (member xs i) (at_place t n)) e)

world_takes : (xs : List ℤ) (first : ℕ) (vs : List Bool) (t : Option ℕ) → Takes (world xs first vs t) first vs
world_takes xs first vs t k l =
    let e : first + k - first ≡ k = omega arith in
    cond-false (ltb (first + k) first) _ _ (le-ltb _ _ (omega arith)) ∙ ap (λ n. get_or vs n false) e

module _ (M : Meaning) (core : Core M) (xs : List ℤ) (first : ℕ) (ok : Admits M xs first) where
  abbrev L : List Clause
  L = M.list xs first

  -- a chain turned round leads from each member to the complement of each earlier one
  leads_any : (i j : ℕ) → i < length xs → j < length xs → i ≢ j → Chain L (member xs i) (complement (member xs j))
  leads_any i j li lj n = ⊎_elim
      (λ e. absurd (n e))
      (⊎_elim
      (λ l. core.leads xs first ok i j l lj)
      (λ l. subst (λ p. Chain L p (complement (member xs j))) (complement_complement (member xs i)) (chain_back (core.leads xs first ok j i l li))))
      (cases_order i j)

  one_most : (s : Assignment) → Satisfies s L → AtMostOneTrue s xs
  one_most s met i j li lj hi hj =
      ⊎_elim (λ e. e) (λ n. absurd (not_both s (member xs j) hj (chain_holds s met (leads_any i j li lj n) hi))) (cases_eq i j)

  -- no chain leads from a literal that is true with the place t to one that is false
  forced : (t : Option ℕ) → Within t (length xs) → (x y : ℤ) → Chain L x y
      → ((s : Assignment) → OneTrue s xs t → holds s x ≡ true) → ((s : Assignment) → OneTrue s xs t → holds s y ≡ true → ⊥) → ⊥
  forced t w x y k fx fy =
      let vs = M.values (length xs) t in
      let one = world_one xs first vs t ok.proper in
      let met = core.completable xs first ok (world xs first vs t) t w one (world_takes xs first vs t) in
      fy (world xs first vs t) one (chain_holds (world xs first vs t) met k (fx (world xs first vs t) one))

  true_at : (i : ℕ) (s : Assignment) → i < length xs → OneTrue s xs (Some i) → holds s (member xs i) ≡ true
  true_at i s l o = o i l ∙ eq-eqb i i refl

  false_at : (i j : ℕ) (s : Assignment) → i < length xs → j ≢ i → OneTrue s xs (Some j) → holds s (member xs i) ≡ false
  false_at i j s l n o = o i l ∙ ne_eqb i j (λ e. n (sym e))

  led_to : (i j : ℕ) → i < length xs → j < length xs → (x y : ℤ) → x ≢ y
      → (x ≡ member xs i) ⊎ (x ≡ complement (member xs i)) → (y ≡ member xs j) ⊎ (y ≡ complement (member xs j)) → Chain L x y → Excludes xs x y
  led_to i j li lj x y ne (inl e) (inl f) k =
      absurd (forced (Some i) li x y k
      (λ s o. ap (holds s) e ∙ true_at i s li o)
      (λ s o h. both_ways _ (false_at j i s lj (λ z. ne (e ∙ ap (member xs) z ∙ sym f)) o) (sym (ap (holds s) f) ∙ h)))
  led_to i j li lj x y ne (inl e) (inr f) k =
      ⊎_elim
      (λ z. absurd (forced (Some i) li x y k
      (λ s o. ap (holds s) e ∙ true_at i s li o)
      (λ s o h. not_both s (member xs j) (sym (ap (λ n. holds s (member xs n)) z) ∙ true_at i s li o) (sym (ap (holds s) f) ∙ h))))
      (λ n. (i, j, li, lj, n, e, f))
      (cases_eq i j)
  led_to i j li lj x y ne (inr e) (inl f) k =
      absurd (forced None tt x y k
      (λ s o. ap (holds s) e ∙ complement_holds s (member xs i) (ok.proper.literals i li) (o i li))
      (λ s o h. both_ways _ (o j lj) (sym (ap (holds s) f) ∙ h)))
  led_to i j li lj x y ne (inr e) (inr f) k =
      absurd (forced (Some j) lj x y k
      (λ s o. ap (holds s) e ∙ complement_holds s (member xs i) (ok.proper.literals i li) (false_at i j s li (λ z. ne (e ∙ ap (λ n. complement (member xs n)) (sym z) ∙ sym f)) o))
      (λ s o h. not_both s (member xs j) (true_at j s lj o) (sym (ap (holds s) f) ∙ h)))

pub lawful : (M : Meaning) → Core M → Lawful M
lawful M core = record {
  well_formed = core.well_formed;
  at_most_one = λ xs first ok. one_most M core xs first ok;
  completable = core.completable;
  exact_chains = λ xs first ok x y mx my ne. (
    λ k. led_to M core xs first ok mx.0 my.0 mx.1 my.1 x y ne (same_variable x (member xs mx.0) mx.2) (same_variable y (member xs my.0) my.2) k,
    λ h. subst (λ z. Chain (M.list xs first) z y) (sym h.5) (subst (λ z. Chain (M.list xs first) (member xs h.0) z) (sym h.6) (leads_any M core xs first ok h.0 h.1 h.2 h.3 h.4)),
  );
  bounded = core.bounded;
}
