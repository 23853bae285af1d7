-- Pairwise keeps the laws.
use Rattle.std.proofs.Common.{◌≡◌, ℕ, zero, suc, ◌+◌, ◌-◌, ◌*◌, ◌/◌, ◌<◌, ◌≤◌, true, false, List, [], ◌∷◌, length, ℤ, Some, None, Option, sym, refl, ap, ◌∙◌, subst, inl, inr, ⊎_elim, suc-mul, mul-le-mul_left, mul-suc, arith, length-append}
use Rattle.std.proofs.lemmas.Bool.{ne_eqb, eqb-true, cases_Bool}
use Rattle.logic.specs.Literal.{variable}
use Rattle.logic.specs.Clause.{Clause, Assignment, Met, In, against}
use Rattle.logic.proofs.Literals.{variable_complement, complement_holds}
use Rattle.logic.proofs.Chains.{one_step}
use Rattle.encoder_theory.specs.Each.{each}
use Rattle.encoder_theory.specs.Members.{member, Proper, at_place, OneTrue}
use Rattle.encoder_theory.specs.Laws.{Lawful}
use Rattle.encoder_theory.specs.Pairwise.{pairs_of, pairs, pairwise}
use Rattle.encoder_theory.proofs.Each.{in_single, in_each, each_has, length_each}
use Rattle.encoder_theory.proofs.Derive.{Core, lawful}

-- another place than that of the true member
pub other_place : (t : Option ℕ) (i j : ℕ) → i < j → at_place t i ≡ true → at_place t j ≡ false
other_place None i j l h = refl
other_place (Some t) i j l h = let e = eqb-true i t h in ne_eqb j t (λ f. omega arith)

module _ (xs : List ℤ) where
  abbrev pair : ℕ → ℕ → Clause
  pair i j = against (member xs i) (member xs j)

  pairs_has : (i j : ℕ) → i < j → j < length xs → In (pair i j) (pairs xs)
  pairs_has i j l h =
      each_has (pairs_of xs) (pair i j) 0 (length xs) i (omega arith) (omega arith)
      (each_has (λ k. pair i k ∷ []) (pair i j) (i + 1) (length xs - (i + 1)) j (omega arith) (omega arith) (inl refl))

  abbrev Pair : Clause → Type 0
  Pair c = (i : ℕ) × (j : ℕ) × (i < j) × (j < length xs) × (c ≡ pair i j)

  pairs_in : (c : Clause) → In c (pairs xs) → Pair c
  pairs_in c h =
      let r = in_each (pairs_of xs) c 0 (length xs) h in
      let q = in_each (λ k. pair r.0 k ∷ []) c (r.0 + 1) (length xs - (r.0 + 1)) r.3 in
      (r.0, q.0, omega (arith, q.1), omega (arith, q.2, r.2), in_single c (pair r.0 q.0) q.3)

tri : (m : ℕ) → suc m * (suc m - 1) / 2 ≡ m + m * (m - 1) / 2
tri zero = refl
tri (suc k) =
    let a : suc (suc k) - 1 ≡ suc k = omega arith in
    let b : suc k - 1 ≡ k = omega arith in
    rw (a, b) (omega (arith, suc-mul (suc k) (suc k), mul-suc (suc k) k))

-- the pairs of the last n members
length_pairs_from : (xs : List ℤ) (a n : ℕ) → a + n ≡ length xs → length (each a n (pairs_of xs)) ≡ n * (n - 1) / 2
length_pairs_from xs a zero e = refl
length_pairs_from xs a (suc n) e =
    let w : length xs - (a + 1) ≡ n = omega arith in
    let r : length (pairs_of xs a) ≡ n = length_each (λ j. against (member xs a) (member xs j) ∷ []) 1 (a + 1) (length xs - (a + 1)) (λ k. refl) ∙ one (length xs - (a + 1)) n w in
    length-append (pairs_of xs a) (each (a + 1) n (pairs_of xs))
    ∙ ap (λ k. k + length (each (a + 1) n (pairs_of xs))) r
    ∙ ap (λ k. n + k) (length_pairs_from xs (a + 1) n (omega arith))
    ∙ sym (tri n)
  where
    one : (a b : ℕ) → a ≡ b → a * 1 ≡ b
    one a b e = omega arith

pub length_pairs : (xs : List ℤ) → length (pairs xs) ≡ length xs * (length xs - 1) / 2
length_pairs xs = length_pairs_from xs 0 (length xs) (omega arith)

pair_met : (xs : List ℤ) (first : ℕ) → Proper xs first → (s : Assignment) (t : Option ℕ) → OneTrue s xs t → (c : Clause) → Pair xs c → Met s c
pair_met xs first p s t o c (i, j, l, lj, e) =
    let li : i < length xs = omega arith in
    subst (Met s) (sym e) (⊎_elim
    (λ h. inr (complement_holds s (member xs j) (p.literals j lj) (o j lj ∙ other_place t i j l h)))
    (λ h. inl (complement_holds s (member xs i) (p.literals i li) (o i li ∙ h)))
    (cases_Bool (at_place t i)))

pairwise_core : Core pairwise
pairwise_core = record {
  well_formed = record {
    counted = λ xs first ok. length_pairs xs;
    own = λ xs first ok c h.
        let r = pairs_in xs c h in (
          inl (r.0, omega (arith, r.2, r.3), ap (λ (d : Clause). variable d.0) r.4 ∙ variable_complement (member xs r.0)),
          inl (r.1, r.3, ap (λ (d : Clause). variable d.1) r.4 ∙ variable_complement (member xs r.1)),
        );
    valued = λ m t l w. refl;
  };
  completable = λ xs first ok s t w o k c h. pair_met xs first ok.proper s t o c (pairs_in xs c h);
  leads = λ xs first ok i j l lj. one_step (inl (pairs_has xs i j l lj));
  bounded = record {
    clauses = λ m l. let k = mul-le-mul_left m (less m) in omega arith;
    auxiliaries = λ m l. omega arith;
  };
}
  where
    less : (m : ℕ) → m - 1 ≤ m
    less m = omega arith

pub pairwise_lawful : Lawful pairwise
pairwise_lawful = lawful pairwise pairwise_core
