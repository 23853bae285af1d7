-- Sequential keeps the laws.
use Rattle.std.proofs.Common.{◌≡◌, ℕ, zero, suc, ◌+◌, ◌-◌, ◌*◌, ◌<◌, ◌≤◌, true, false, ltb, List, [], ◌∷◌, length, ℤ, Some, None, Option, sym, refl, ap, ◌∙◌, subst, inl, inr, ⊎_elim, mul-le-mul_right, arith, length-append}
use Rattle.std.proofs.lemmas.Bool.{eqb-true, leb-true, le-leb, lt-leb, lt-ltb, le-ltb, cases_lt, cases_Bool, cond-true, cond-false}
use Rattle.std.proofs.lemmas.List.FromFn.{length-map-range_with_len, get_or-map-range_with_len}
use Rattle.logic.specs.Literal.{complement}
use Rattle.logic.specs.Clause.{Clause, Assignment, holds, Met, In, against}
use Rattle.logic.specs.Chain.{Chain, stay, via}
use Rattle.logic.proofs.Literals.{variable_complement, complement_holds, holds_variable}
use Rattle.logic.proofs.Clauses.{in_left, in_right, in_cases}
use Rattle.logic.proofs.Chains.{one_step, chain_join}
use Rattle.encoder_theory.specs.Each.{each, table}
use Rattle.encoder_theory.specs.Members.{member, auxiliary, at_place, OneTrue, Takes}
use Rattle.encoder_theory.specs.Meaning.{Admits}
use Rattle.encoder_theory.specs.Laws.{Own, Lawful}
use Rattle.encoder_theory.specs.Sequential.{implies, link, sequence, reached, sequential}
use Rattle.encoder_theory.proofs.Each.{in_each, each_has, length_each}
use Rattle.encoder_theory.proofs.Derive.{Core, lawful, below_square}

-- the three kinds of clauses: a member raises its auxiliary, an auxiliary the next, and excludes the next member
data Kind (xs : List ℤ) (first : ℕ) (c : Clause) : Type 0 where
  raises : (i : ℕ) → i + 1 < length xs → c ≡ implies (member xs i) (auxiliary first i) → Kind xs first c
  passes : (i : ℕ) → i + 2 < length xs → c ≡ implies (auxiliary first i) (auxiliary first (i + 1)) → Kind xs first c
  stops : (i : ℕ) → i + 1 < length xs → c ≡ against (member xs (i + 1)) (auxiliary first i) → Kind xs first c

module _ (xs : List ℤ) (first : ℕ) (two : 2 ≤ length xs) where
  abbrev m : ℕ
  m = length xs

  abbrev middle : List Clause
  middle = each 1 (m - 2) (link xs first)

  abbrev last : List Clause
  last = against (member xs (m - 1)) (auxiliary first (m - 2)) ∷ []

  in_link : (c : Clause) (i : ℕ) → 1 ≤ i → i + 1 < m → In c (link xs first i) → Kind xs first c
  in_link c i l u (inl e) = raises i u (sym e)
  in_link c i l u (inr (inl e)) =
      let n : i - 1 + 1 ≡ i = omega arith in
      passes (i - 1) (omega arith) (sym e ∙ ap (λ k. implies (auxiliary first (i - 1)) (auxiliary first k)) (sym n))
  in_link c i l u (inr (inr (inl e))) =
      let n : i - 1 + 1 ≡ i = omega arith in
      stops (i - 1) (omega arith) (sym e ∙ ap (λ k. against (member xs k) (auxiliary first (i - 1))) (sym n))
  in_link c i l u (inr (inr (inr h))) = absurd h

  in_last : (c : Clause) → In c last → Kind xs first c
  in_last c (inl e) =
      let n : m - 2 + 1 ≡ m - 1 = omega arith in
      stops (m - 2) (omega arith) (sym e ∙ ap (λ k. against (member xs k) (auxiliary first (m - 2))) (sym n))
  in_last c (inr h) = absurd h

  in_sequence : (c : Clause) → In c (sequence xs first m) → Kind xs first c
  in_sequence c (inl e) = raises 0 (omega arith) (sym e)
  in_sequence c (inr h) = ⊎_elim
      (λ k. let r = in_each (link xs first) c 1 (m - 2) k in in_link c r.0 r.1 (omega (arith, r.2)) r.3)
      (λ k. in_last c k)
      (in_cases c middle last h)

  linked : (c : Clause) (i : ℕ) → 1 ≤ i → i + 1 < m → In c (link xs first i) → In c (sequence xs first m)
  linked c i l u h = inr (in_left c middle last (each_has (link xs first) c 1 (m - 2) i l (omega arith) h))

  has_raises : (i : ℕ) → i + 1 < m → In (implies (member xs i) (auxiliary first i)) (sequence xs first m)
  has_raises zero u = inl refl
  has_raises (suc i) u = linked _ (suc i) (omega arith) u (inl refl)

  has_passes : (i : ℕ) → i + 2 < m → In (implies (auxiliary first i) (auxiliary first (i + 1))) (sequence xs first m)
  has_passes i u =
      let n : i + 1 - 1 ≡ i = omega arith in
      linked _ (i + 1) (omega arith) (omega arith) (inr (inl (ap (λ k. implies (auxiliary first k) (auxiliary first (i + 1))) n)))

  has_stops : (i : ℕ) → i + 1 < m → In (against (member xs (i + 1)) (auxiliary first i)) (sequence xs first m)
  has_stops i u = ⊎_elim
      (λ l. let n : i + 1 - 1 ≡ i = omega arith in
      linked _ (i + 1) (omega arith) (omega arith) (inr (inr (inl (ap (λ k. against (member xs (i + 1)) (auxiliary first k)) n)))))
      (λ g. let a : m - 1 ≡ i + 1 = omega arith in
      let b : m - 2 ≡ i = omega arith in
      inr (in_right _ middle last (inl (ap (λ k. against (member xs k) (auxiliary first (m - 2))) a ∙ ap (λ k. against (member xs (i + 1)) (auxiliary first k)) b))))
      (cases_lt (i + 2) m)

  -- an auxiliary leads to each d places on
  rises : (i d : ℕ) → i + d + 1 < m → Chain (sequence xs first m) (auxiliary first i) (auxiliary first (i + d))
  rises i zero u = let e : i ≡ i + 0 = omega arith in subst (λ k. Chain (sequence xs first m) (auxiliary first i) (auxiliary first k)) e stay
  rises i (suc d) u =
      let e : i + d + 1 ≡ i + suc d = omega arith in
      subst (λ k. Chain (sequence xs first m) (auxiliary first i) (auxiliary first k)) e
      (chain_join (rises i d (omega arith)) (one_step (inl (has_passes (i + d) (omega arith)))))

  leads_on : (i j : ℕ) → i < j → j < m → Chain (sequence xs first m) (member xs i) (complement (member xs j))
  leads_on i j l lj =
      let a : i + (j - 1 - i) ≡ j - 1 = omega arith in
      let b : j - 1 + 1 ≡ j = omega arith in
      via (inl (has_raises i (omega arith)))
      (chain_join (subst (λ k. Chain (sequence xs first m) (auxiliary first i) (auxiliary first k)) a (rises i (j - 1 - i) (omega arith)))
      (one_step (inr (subst (λ k. In (against (member xs k) (auxiliary first (j - 1))) (sequence xs first m)) b (has_stops (j - 1) (omega arith))))))

  length_sequence : length (sequence xs first m) ≡ 3 * m - 4
  length_sequence =
      let a = length-append middle last in
      let b = length_each (link xs first) 3 1 (m - 2) (λ k. refl) in
      omega arith

-- the truth of the auxiliaries
module _ (t : Option ℕ) where
  raised : (i : ℕ) → at_place t i ≡ true → reached t i ≡ true
  raised = by t
    where
      by : (t : Option ℕ) (i : ℕ) → at_place t i ≡ true → reached t i ≡ true
      by None i h = h
      by (Some t) i h = le-leb t i (let e = eqb-true i t h in omega arith)

  passed : (i : ℕ) → reached t i ≡ true → reached t (i + 1) ≡ true
  passed = by t
    where
      by : (t : Option ℕ) (i : ℕ) → reached t i ≡ true → reached t (i + 1) ≡ true
      by None i h = h
      by (Some t) i h = le-leb t (i + 1) (let e = leb-true t i h in omega arith)

  stopped : (i : ℕ) → at_place t (i + 1) ≡ true → reached t i ≡ false
  stopped = by t
    where
      by : (t : Option ℕ) (i : ℕ) → at_place t (i + 1) ≡ true → reached t i ≡ false
      by None i h = refl
      by (Some t) i h = lt-leb t i (let e = eqb-true (i + 1) t h in omega arith)

module _ (xs : List ℤ) (first : ℕ) (ok : Admits sequential xs first) (s : Assignment) (t : Option ℕ) (one : OneTrue s xs t)
    (takes : Takes s first (sequential.values (length xs) t)) where
  known : (i : ℕ) → i + 1 < length xs → holds s (auxiliary first i) ≡ reached t i
  known i u =
      let n = length-map-range_with_len (reached t) 0 (length xs - 1) in
      let l : i < length (table (length xs - 1) (reached t)) = omega arith in
      holds_variable s (first + i) (omega (arith, ok.starts))
      ∙ takes i l ∙ get_or-map-range_with_len (reached t) 0 (length xs - 1) i i false (omega arith) (omega arith)

  drop_member : (i : ℕ) → i < length xs → at_place t i ≡ false → holds s (complement (member xs i)) ≡ true
  drop_member i l h = complement_holds s (member xs i) (ok.proper.literals i l) (one i l ∙ h)

  drop_auxiliary : (i : ℕ) → i + 1 < length xs → reached t i ≡ false → holds s (complement (auxiliary first i)) ≡ true
  drop_auxiliary i l h = complement_holds s (auxiliary first i) (omega (arith, ok.starts)) (known i l ∙ h)

  kind_met : (c : Clause) → Kind xs first c → Met s c
  kind_met c (raises i u e) = subst (Met s) (sym e) (⊎_elim
      (λ h. inr (known i u ∙ raised t i h))
      (λ h. inl (drop_member i (omega arith) h))
      (cases_Bool (at_place t i)))
  kind_met c (passes i u e) = subst (Met s) (sym e) (⊎_elim
      (λ h. inr (known (i + 1) (omega arith) ∙ passed t i h))
      (λ h. inl (drop_auxiliary i (omega arith) h))
      (cases_Bool (reached t i)))
  kind_met c (stops i u e) = subst (Met s) (sym e) (⊎_elim
      (λ h. inr (drop_auxiliary i u (stopped t i h)))
      (λ h. inl (drop_member (i + 1) u h))
      (cases_Bool (at_place t (i + 1))))

module _ (xs : List ℤ) (first : ℕ) where
  on_member : (i : ℕ) → i < length xs → Own sequential xs first (complement (member xs i))
  on_member i l = inl (i, l, variable_complement (member xs i))

  on_auxiliary : (i : ℕ) → i + 1 < length xs → Own sequential xs first (auxiliary first i)
  on_auxiliary i l = inr (omega arith, omega arith)

  on_complement : (i : ℕ) → i + 1 < length xs → Own sequential xs first (complement (auxiliary first i))
  on_complement i l = inr (let e = variable_complement (auxiliary first i) in (omega arith, omega arith))

  kind_own : (c : Clause) → Kind xs first c → Own sequential xs first c.0 × Own sequential xs first c.1
  kind_own c (raises i u e) = subst (λ (d : Clause). Own sequential xs first d.0 × Own sequential xs first d.1) (sym e) (on_member i (omega arith), on_auxiliary i u)
  kind_own c (passes i u e) = subst (λ (d : Clause). Own sequential xs first d.0 × Own sequential xs first d.1) (sym e) (on_complement i (omega arith), on_auxiliary (i + 1) (omega arith))
  kind_own c (stops i u e) = subst (λ (d : Clause). Own sequential xs first d.0 × Own sequential xs first d.1) (sym e) (on_member (i + 1) u, on_complement i u)

  -- below two members there is nothing to show
  pub whole : 2 ≤ length xs → sequential.list xs first ≡ sequence xs first (length xs)
  whole l = cond-false (ltb (length xs) 2) [] (sequence xs first (length xs)) (le-ltb (length xs) 2 l)

  pub none : length xs < 2 → sequential.list xs first ≡ []
  none l = cond-true (ltb (length xs) 2) [] (sequence xs first (length xs)) (lt-ltb (length xs) 2 l)

  in_list : (c : Clause) → In c (sequential.list xs first) → Kind xs first c
  in_list c h = ⊎_elim
      (λ l. absurd (subst (In c) (none l) h))
      (λ l. in_sequence xs first l c (subst (In c) (whole l) h))
      (cases_lt (length xs) 2)

  pub length_list : length (sequential.list xs first) ≡ 3 * length xs - 4
  length_list = ⊎_elim
      (λ l. let e : length (sequential.list xs first) ≡ 0 = ap length (none l) in omega arith)
      (λ l. ap length (whole l) ∙ length_sequence xs first l)
      (cases_lt (length xs) 2)

sequential_core : Core sequential
sequential_core = record {
  well_formed = record {
    counted = λ xs first ok. length_list xs first;
    own = λ xs first ok c h. kind_own xs first c (in_list xs first c h);
    valued = λ m t l w. length-map-range_with_len (reached t) 0 (m - 1);
  };
  completable = λ xs first ok s t w one takes c h. kind_met xs first ok s t one takes c (in_list xs first c h);
  leads = λ xs first ok i j l lj.
      let two : 2 ≤ length xs = omega arith in
      subst (λ L. Chain L (member xs i) (complement (member xs j))) (sym (whole xs first two)) (leads_on xs first two i j l lj);
  bounded = record { clauses = λ m l. under m; auxiliaries = λ m l. let e = below_square m in omega arith };
}
  where
    under : (m : ℕ) → 3 * m - 4 ≤ m * m
    under zero = omega arith
    under (suc zero) = omega arith
    under (suc (suc zero)) = omega arith
    under (suc (suc (suc k))) = let e = mul-le-mul_right (suc (suc (suc k))) (three k) in omega arith
      where
        three : (k : ℕ) → 3 ≤ suc (suc (suc k))
        three k = omega arith

pub sequential_lawful : Lawful sequential
sequential_lawful = lawful sequential sequential_core
