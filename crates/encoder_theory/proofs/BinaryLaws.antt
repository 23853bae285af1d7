-- Binary keeps the laws.
use Rattle.std.proofs.Common.{◌≡◌, ℕ, zero, suc, ◌+◌, ◌*◌, ◌/◌, ◌%◌, ◌^◌, ◌<◌, ◌≤◌, Bool, true, false, eqb, leb, ◌≢◌, List, [], ◌∷◌, length, ℤ, Some, None, Option, sym, refl, ap, ◌∙◌, subst, inl, inr, ⊎_elim, mul-le-mul_left, max, arith, pow_pos, shr-shr}
use native.Mathlib.Nat.{two-pow-succ}
use Rattle.std.specs.Int.{IsPowerOfTwo}
use Rattle.std.proofs.Math.Pow.{pow_mono}
use Rattle.std.proofs.lemmas.Bool.{eqb-true, eqb-false, leb-true, leb-false, cases_eq, cases_lt, cases_Bool, cond-true, cond-false, both_ways}
use Rattle.std.proofs.lemmas.Nat.{mod_below, pow_below}
use Rattle.std.proofs.lemmas.List.FromFn.{length-map-range_with_len, get_or-map-range_with_len}
use Rattle.logic.specs.Literal.{variable, complement}
use Rattle.logic.specs.Clause.{Clause, Assignment, holds, Met, In}
use Rattle.logic.specs.Chain.{Chain, via, stay}
use Rattle.logic.proofs.Literals.{variable_complement, complement_complement, complement_holds, holds_variable}
use Rattle.encoder_theory.specs.Each.{each, table}
use Rattle.encoder_theory.specs.Members.{member, auxiliary, at_place, OneTrue, Takes}
use Rattle.encoder_theory.specs.Meaning.{Admits, most_members}
use Rattle.encoder_theory.specs.Laws.{Own, Lawful}
use Rattle.encoder_theory.specs.Binary.{bits_from, bits, Least, bit, as_bit, code_clause, codes, code, binary}
use Rattle.encoder_theory.proofs.Each.{in_single, in_each, each_has, length_each}
use Rattle.encoder_theory.proofs.Derive.{Core, lawful, below_square}

-- the number of bits

least_from : (n from m : ℕ) → ((k : ℕ) → k < from → 2 ^ k < m) → m ≤ 2 ^ (from + n) → Least m (bits_from n from m)
least_from zero from m below enough = record {
  enough = let e : from + 0 ≡ from = omega arith in subst (λ k. m ≤ 2 ^ k) e enough;
  least = λ k h. ⊎_elim (λ l. absurd (let b = below k l in omega arith)) (λ l. l) (cases_lt k from);
}
least_from (suc n) from m below enough = ⊎_elim
    (λ h. subst (Least m) (sym (cond-true (leb m (2 ^ from)) from (bits_from n (from + 1) m) h)) (record {
      enough = leb-true m (2 ^ from) h;
      least = λ k e. ⊎_elim (λ l. absurd (let b = below k l in omega arith)) (λ l. l) (cases_lt k from);
    }))
    (λ h. subst (Least m) (sym (cond-false (leb m (2 ^ from)) from (bits_from n (from + 1) m) h))
    (least_from n (from + 1) m
    (λ k l. ⊎_elim
    (λ (e : k ≡ from). subst (λ i. 2 ^ i < m) (sym e) (leb-false m (2 ^ from) h))
    (λ (ne : k ≢ from). below k (omega arith))
    (cases_eq k from))
    (let e : from + suc n ≡ from + 1 + n = omega arith in subst (λ k. m ≤ 2 ^ k) e enough)))
    (cases_Bool (leb m (2 ^ from)))

below_power : (m : ℕ) → m ≤ 2 ^ m
below_power zero = omega arith
below_power (suc m) = let h = below_power m in let p = pow_pos m in rw two-pow-succ (omega arith)

pub bits_least : (m : ℕ) → Least m (bits m)
bits_least m = least_from m 0 m (λ k l. absurd (omega arith)) (let e : m ≡ 0 + m = omega arith in subst (λ k. m ≤ 2 ^ k) e (below_power m))

-- and the only one with both properties
pub bits_only : (m b : ℕ) → m ≤ 2 ^ b → ((k : ℕ) → k < b → 2 ^ k < m) → b ≡ bits m
bits_only m b enough below =
    let l = bits_least m in
    let u = l.least b enough in
    ⊎_elim (λ h. absurd (let p = below (bits m) h in let q = l.enough in omega arith)) (λ h. omega arith) (cases_lt (bits m) b)

-- the exponent of the next power of two
pub bits_power : (m r k : ℕ) → IsPowerOfTwo r → m ≤ r → r / 2 < max 1 m → 2 ^ k ≤ r → r < 2 * 2 ^ k → k ≡ bits m
bits_power m r k (j, e) enough tight l u =
    let s = two-pow-succ k in
    let same : r ≡ 2 ^ k =
    ⊎_elim
    (λ (h : j < k). absurd (let p = pow_below j k h in omega arith))
    (λ (h : k ≤ j). ⊎_elim (λ (q : k ≡ j). e ∙ ap (λ i. 2 ^ i) (sym q)) (λ (ne : k ≢ j). absurd (let p : 2 ^ suc k ≤ 2 ^ j = pow_mono (omega arith) in omega arith)) (cases_eq k j))
    (cases_lt j k) in
    bits_only m k (omega arith)
    (λ i h. let p : 2 ^ suc i ≤ 2 ^ k = pow_mono (omega arith) in let q = two-pow-succ i in let z = pow_pos i in omega arith)

pub bits_below : (m : ℕ) → bits m ≤ m
bits_below m = (bits_least m).least m (below_power m)

-- as many bits as a call can need
pub bits_few : (m : ℕ) → m ≤ most_members → bits m ≤ 8
bits_few m l = (bits_least m).least 8 l

-- different numbers differ in a bit

bit_suc : (i l : ℕ) → bit (i / 2) l ≡ bit i (suc l)
bit_suc i l = let e : 1 + l ≡ suc l = omega arith in ap (λ k. eqb (k % 2) 1) (shr-shr i 1 l ∙ ap (λ k. i / 2 ^ k) e)

same_bit : (a b : ℕ) → a < 2 → b < 2 → eqb a 1 ≡ eqb b 1 → a ≡ b
same_bit a b la lb e = ⊎_elim
    (λ h. let f = eqb-true a 1 h in let g = eqb-true b 1 (sym e ∙ h) in omega arith)
    (λ h. let f = eqb-false a 1 h in let g = eqb-false b 1 (sym e ∙ h) in ⊎_elim (λ p. absurd (f p)) (λ p. ⊎_elim (λ q. absurd (g q)) (λ q. zeros a b la lb p q) (cases_eq b 1)) (cases_eq a 1))
    (cases_Bool (eqb a 1))
  where
    zeros : (a b : ℕ) → a < 2 → b < 2 → a ≢ 1 → b ≢ 1 → a ≡ b
    zeros zero zero la lb p q = refl
    zeros zero (suc zero) la lb p q = absurd (q refl)
    zeros zero (suc (suc b)) la lb p q = absurd (omega arith)
    zeros (suc zero) b la lb p q = absurd (p refl)
    zeros (suc (suc a)) b la lb p q = absurd (omega arith)

differ : (b i j : ℕ) → i < 2 ^ b → j < 2 ^ b → i ≢ j → (l : ℕ) × (l < b) × (bit i l ≢ bit j l)
differ zero i j li lj ne = absurd (ne (omega arith))
differ (suc b) i j li lj ne =
    let e = two-pow-succ b in
    ⊎_elim
    (λ (same : i % 2 ≡ j % 2).
    let r = differ b (i / 2) (j / 2) (omega arith) (omega arith) (λ h. ne (omega arith)) in
    (suc r.0, omega (arith, r.1), λ h. r.2 (bit_suc i r.0 ∙ h ∙ sym (bit_suc j r.0))))
    (λ (other : i % 2 ≡ j % 2 → ⊥). (0, omega arith, λ h. other (lowest i j h)))
    (cases_eq (i % 2) (j % 2))
  where
    lowest : (i j : ℕ) → bit i 0 ≡ bit j 0 → i % 2 ≡ j % 2
    lowest i j h =
        let p = same_bit (i / 1 % 2) (j / 1 % 2) (mod_below (i / 1) 2 (omega arith)) (mod_below (j / 1) 2 (omega arith)) h in
        omega arith

-- the clauses

as_bit_other : (b d : Bool) (z : ℤ) → b ≢ d → as_bit d z ≡ complement (as_bit b z)
as_bit_other true true z ne = absurd (ne refl)
as_bit_other true false z ne = refl
as_bit_other false true z ne = sym (complement_complement z)
as_bit_other false false z ne = absurd (ne refl)

as_bit_holds : (s : Assignment) (b : Bool) (z : ℤ) → 1 ≤ variable z → holds s z ≡ b → holds s (as_bit b z) ≡ true
as_bit_holds s true z l h = h
as_bit_holds s false z l h = complement_holds s z l h

as_bit_variable : (b : Bool) (z : ℤ) → variable (as_bit b z) ≡ variable z
as_bit_variable true z = refl
as_bit_variable false z = variable_complement z

module _ (xs : List ℤ) (first : ℕ) where
  abbrev m : ℕ
  m = length xs

  abbrev row : ℕ → List Clause
  row i = each 0 (bits m) (λ l. code_clause xs first i l ∷ [])

  codes_has : (i l : ℕ) → i < m → l < bits m → In (code_clause xs first i l) (codes xs first)
  codes_has i l li ll =
      each_has row (code_clause xs first i l) 0 m i (omega arith) (omega arith)
      (each_has (λ k. code_clause xs first i k ∷ []) (code_clause xs first i l) 0 (bits m) l (omega arith) (omega arith) (inl refl))

  abbrev Coded : Clause → Type 0
  Coded c = (i : ℕ) × (l : ℕ) × (i < m) × (l < bits m) × (c ≡ code_clause xs first i l)

  codes_in : (c : Clause) → In c (codes xs first) → Coded c
  codes_in c h =
      let r = in_each row c 0 m h in
      let q = in_each (λ k. code_clause xs first r.0 k ∷ []) c 0 (bits m) r.3 in
      (r.0, q.0, omega (arith, r.2), omega (arith, q.2), in_single c (code_clause xs first r.0 q.0) q.3)

  pub length_codes : length (codes xs first) ≡ m * bits m
  length_codes = length_each row (bits m) 0 m (λ i. length_each (λ l. code_clause xs first i l ∷ []) 1 0 (bits m) (λ l. refl) ∙ one (bits m))
    where
      one : (a : ℕ) → a * 1 ≡ a
      one a = omega arith

  leads_on : (i j : ℕ) → i < j → j < m → Chain (codes xs first) (member xs i) (complement (member xs j))
  leads_on i j l lj =
      let e = (bits_least m).enough in
      let r = differ (bits m) i j (omega arith) (omega arith) (λ h. omega arith) in
      let turned = as_bit_other (bit i r.0) (bit j r.0) (auxiliary first r.0) r.2 in
      via (inl (codes_has i r.0 (omega arith) r.1))
      (via (inr (subst (λ z. In (complement (member xs j), z) (codes xs first)) turned (codes_has j r.0 lj r.1))) stay)

  coded_own : (c : Clause) → Coded c → Own binary xs first c.0 × Own binary xs first c.1
  coded_own c (i, l, li, ll, e) =
      let v = as_bit_variable (bit i l) (auxiliary first l) in
      subst (λ (d : Clause). Own binary xs first d.0 × Own binary xs first d.1) (sym e)
      (inl (i, li, variable_complement (member xs i)), inr (omega arith, omega arith))

code_at : (t : Option ℕ) (i l : ℕ) → at_place t i ≡ true → code t l ≡ bit i l
code_at None i l h = absurd (both_ways false refl h)
code_at (Some t) i l h = ap (λ k. bit k l) (sym (eqb-true i t h))

module _ (xs : List ℤ) (first : ℕ) (ok : Admits binary xs first) (s : Assignment) (t : Option ℕ) (one : OneTrue s xs t)
    (takes : Takes s first (binary.values (length xs) t)) where
  known : (l : ℕ) → l < bits (length xs) → holds s (auxiliary first l) ≡ code t l
  known l u =
      let n = length-map-range_with_len (code t) 0 (bits (length xs)) in
      let h : l < length (table (bits (length xs)) (code t)) = omega arith in
      holds_variable s (first + l) (omega (arith, ok.starts))
      ∙ takes l h ∙ get_or-map-range_with_len (code t) 0 (bits (length xs)) l l false u (omega arith)

  coded_met : (c : Clause) → Coded xs first c → Met s c
  coded_met c (i, l, li, ll, e) = subst (Met s) (sym e) (⊎_elim
      (λ h. inr (as_bit_holds s (bit i l) (auxiliary first l) (omega (arith, ok.starts)) (known l ll ∙ code_at t i l h)))
      (λ h. inl (complement_holds s (member xs i) (ok.proper.literals i li) (one i li ∙ h)))
      (cases_Bool (at_place t i)))

binary_core : Core binary
binary_core = record {
  well_formed = record {
    counted = λ xs first ok. length_codes xs first;
    own = λ xs first ok c h. coded_own xs first c (codes_in xs first c h);
    valued = λ m t l w. length-map-range_with_len (code t) 0 (bits m);
  };
  completable = λ xs first ok s t w one takes c h. coded_met xs first ok s t one takes c (codes_in xs first c h);
  leads = λ xs first ok i j l lj. leads_on xs first i j l lj;
  bounded = record {
    clauses = λ m l. mul-le-mul_left m (bits_below m);
    auxiliaries = λ m l. let b = bits_below m in let e = below_square m in omega arith;
  };
}

pub binary_lawful : Lawful binary
binary_lawful = lawful binary binary_core
