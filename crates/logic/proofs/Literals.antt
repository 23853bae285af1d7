-- Literals, their variable, complement and index: every layer above cites these.
use Rattle.std.proofs.Common.{◌≡◌, ℕ, zero, suc, ◌+◌, ◌-◌, ◌*◌, ◌/◌, ◌%◌, ◌<◌, ◌≤◌, true, false, cond, not, eqb, ◌⊎◌, ℤ, pos, negsuc, Decides, refl, ap, ◌∙◌, inl, inr, ⊎_elim, arith}
use lib.IntN.{neg_ℤ-neg_ℤ}
use Rattle.std.proofs.lemmas.Bool.{cases_eq, cond-true, cond-false, eq-eqb, ne_eqb, both_ways, not-false}
use Rattle.std.proofs.lemmas.Bool.Decides.{nat_tests}
use Rattle.logic.specs.Literal.{variable, complement, Literal, is_literal, index, literal}
use Rattle.logic.specs.Clause.{Assignment, holds}

-- the test tells what is a literal
pub is_literal_decides : (n : ℕ) (a : ℤ) → Decides (is_literal n a) (Literal n a)
is_literal_decides n a = ((λ h. grind (arith, nat_tests)), (λ h. grind (arith, nat_tests)))

-- the index of a literal on the variables 1 to n is below 2n
pub index_below : (n : ℕ) (a : ℤ) → Literal n a → index a < 2 * n
index_below n (pos v) h = omega arith
index_below n (negsuc k) h = omega arith

-- different literals have different indices
pub index_injective : (a b : ℤ) → 1 ≤ variable a → 1 ≤ variable b → index a ≡ index b → a ≡ b
index_injective (pos v) (pos w) p q e = ap pos (omega arith)
index_injective (pos v) (negsuc k) p q e = absurd (omega arith)
index_injective (negsuc k) (pos v) p q e = absurd (omega arith)
index_injective (negsuc j) (negsuc k) p q e = ap negsuc (omega arith)

-- the two literals of the variable v have the indices 2v - 2 and 2v - 1
pub variable_index : (a : ℤ) → 1 ≤ variable a → variable a ≡ index a / 2 + 1
variable_index (pos v) p = omega arith
variable_index (negsuc k) p = omega arith

literal_even : (u : ℕ) → u % 2 ≡ 0 → literal u ≡ pos (u / 2 + 1)
literal_even u e = cond-true (eqb (u % 2) 0) _ _ (eq-eqb (u % 2) 0 e)

literal_odd : (u : ℕ) → (u % 2 ≡ 0 → ⊥) → literal u ≡ negsuc (u / 2)
literal_odd u ne = cond-false (eqb (u % 2) 0) _ _ (ne_eqb (u % 2) 0 ne)

-- from an index to its literal and back
pub index_literal : (u : ℕ) → index (literal u) ≡ u
index_literal u =
    ⊎_elim (λ e. ap index (literal_even u e) ∙ omega arith) (λ ne. ap index (literal_odd u ne) ∙ omega arith) (cases_eq (u % 2) 0)

pub variable_literal : (u : ℕ) → variable (literal u) ≡ u / 2 + 1
variable_literal u =
    ⊎_elim (λ e. ap variable (literal_even u e)) (λ ne. ap variable (literal_odd u ne) ∙ omega arith) (cases_eq (u % 2) 0)

-- from a literal to its index and back
pub literal_index : (a : ℤ) → 1 ≤ variable a → literal (index a) ≡ a
literal_index a p =
    let v = variable_literal (index a) in
    index_injective (literal (index a)) a (omega arith) p (index_literal (index a))

-- an index below 2n is that of a literal on the variables 1 to n
pub literal_within : (n u : ℕ) → u < 2 * n → Literal n (literal u)
literal_within n u h = let v = variable_literal u in (omega arith, omega arith)

pub complement_complement : (a : ℤ) → complement (complement a) ≡ a
complement_complement a = neg_ℤ-neg_ℤ a

pub variable_complement : (a : ℤ) → variable (complement a) ≡ variable a
variable_complement (pos zero) = refl
variable_complement (pos (suc v)) = refl
variable_complement (negsuc k) = refl

pub complement_within : (n : ℕ) (a : ℤ) → Literal n a → Literal n (complement a)
complement_within n a h = let e = variable_complement a in (omega arith, omega arith)

-- the complement's index is the other of the two
pub index_complement : (a : ℤ) → 1 ≤ variable a → index (complement a) ≡ cond (eqb (index a % 2) 0) (index a + 1) (index a - 1)
index_complement (pos zero) p = absurd (omega arith)
index_complement (pos (suc v)) p = grind (arith, nat_tests)
index_complement (negsuc k) p = grind (arith, nat_tests)

-- no literal is its own complement
pub complement_other : (a : ℤ) → 1 ≤ variable a → a ≡ complement a → ⊥
complement_other a p e =
    let i = index_complement a p in let f = ap index e in
    let g : index a ≡ cond (eqb (index a % 2) 0) (index a + 1) (index a - 1) = f ∙ i in
    ⊎_elim (λ z. omega (arith, g ∙ cond-true (eqb (index a % 2) 0) _ _ (eq-eqb (index a % 2) 0 z)))
    (λ z. omega (arith, g ∙ cond-false (eqb (index a % 2) 0) _ _ (ne_eqb (index a % 2) 0 z)))
    (cases_eq (index a % 2) 0)

-- two literals on one variable are the same or complements
pub same_variable : (a b : ℤ) → variable a ≡ variable b → (a ≡ b) ⊎ (a ≡ complement b)
same_variable (pos v) (pos w) e = inl (ap pos e)
same_variable (negsuc j) (negsuc k) e = inl (ap negsuc (omega arith))
same_variable (pos v) (negsuc k) e = inr (ap pos e)
same_variable (negsuc k) (pos zero) e = absurd (omega arith)
same_variable (negsuc k) (pos (suc v)) e = inr (ap negsuc (omega arith))

-- which is to say: their indices have the same half
pub same_half : (a b : ℤ) → 1 ≤ variable a → 1 ≤ variable b → Decides (eqb (index a / 2) (index b / 2)) (variable a ≡ variable b)
same_half a b p q =
    let e = variable_index a p in let f = variable_index b q in
    ((λ h. grind (arith, nat_tests)), (λ h. grind (arith, nat_tests)))

-- a variable as a literal
pub holds_variable : (s : Assignment) (n : ℕ) → 1 ≤ n → holds s (pos n) ≡ s n
holds_variable s zero l = absurd (omega arith)
holds_variable s (suc n) l = refl

-- a literal and its complement are not both true
pub not_both : (s : Assignment) (p : ℤ) → holds s p ≡ true → holds s (complement p) ≡ true → ⊥
not_both s (pos zero) h k = both_ways false refl h
not_both s (pos (suc n)) h k = both_ways (not (s (suc n))) (ap not h) k
not_both s (negsuc n) h k = both_ways (not (s (suc n))) (ap not k) h

-- and one of them is true
pub complement_holds : (s : Assignment) (p : ℤ) → 1 ≤ variable p → holds s p ≡ false → holds s (complement p) ≡ true
complement_holds s (pos zero) l h = absurd (omega arith)
complement_holds s (pos (suc n)) l h = ap not h
complement_holds s (negsuc n) l h = not-false (s (suc n)) h
