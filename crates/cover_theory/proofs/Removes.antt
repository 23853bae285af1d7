use Rattle.std.proofs.Common.{◌≡◌, ℕ, ◌+◌, ◌*◌, ◌/◌, ◌%◌, ◌<◌, ◌≤◌, Bool, true, false, not, ◌&&◌, ◌||◌, eqb, ◌≢◌, List, [], ◌∷◌, ◌++◌, length, get_or, take, set, sym, refl, ap, ◌∙◌, ap₂, ⊎_elim, mul_comm, arith, get_or-set_other, get_or-set_same}
use Rattle.std.proofs.lemmas.Bool.{cases_eq, cases_order, eq-eqb, ne_eqb}
use Rattle.std.proofs.lemmas.Bool.Decides.{nat_tests}
use Rattle.std.proofs.lemmas.Nat.{mul-le}
use Rattle.std.proofs.lemmas.List.{take_more}
use Rattle.cover_theory.specs.Rule.{among}
use Rattle.network_theory.specs.Layout.{bit}
use Rattle.cover_theory.specs.Rows.{marked, stands_at}

or_none : (b : Bool) → (b || false) ≡ b
or_none true = refl
or_none false = refl

or_assoc : (a b c : Bool) → ((a || b) || c) ≡ (a || (b || c))
or_assoc true b c = refl
or_assoc false b c = refl

pub among_push : (ms : List ℕ) (c j : ℕ) → among (ms ++ c ∷ []) j ≡ (among ms j || eqb c j)
among_push [] c j = or_none (eqb c j)
among_push (m ∷ ms) c j = ap (λ b. eqb m j || b) (among_push ms c j) ∙ sym (or_assoc (eqb m j) (among ms j) (eqb c j))

-- ---- paint

same_bit : (c j : ℕ) → j / 64 ≡ c / 64 → eqb (c % 64) (j % 64) ≡ eqb c j
same_bit c j e = grind (arith, nat_tests)

pub marked_set : (mask : List ℕ) (c j y : ℕ) → c / 64 < length mask → ((i : ℕ) → bit y i ≡ (bit (get_or mask (c / 64) 0) i || eqb (c % 64) i))
    → marked (set mask (c / 64) y) j ≡ (marked mask j || eqb c j)
marked_set mask c j y h y-is =
    ⊎_elim (λ e.
    ap (λ z. bit z (j % 64)) (ap (λ z. get_or (set mask (c / 64) y) z 0) e ∙ get_or-set_same mask (c / 64) y 0 h) ∙ y-is (j % 64)
    ∙ ap₂ (λ z b. bit (get_or mask z 0) (j % 64) || b) (sym e) (same_bit c j e))
    (λ ne.
    let ne' : j / 64 ≢ c / 64 = ne in
    ap (λ z. bit z (j % 64)) (get_or-set_other mask (c / 64) (j / 64) y 0 ne')
    ∙ sym (ap (λ b. marked mask j || b) (ne_eqb c j (λ e. ne (ap (λ z. z / 64) (sym e)))) ∙ or_none (marked mask j)))
    (cases_eq (j / 64) (c / 64))

-- ---- erase

and_true : (b : Bool) → (b && true) ≡ b
and_true true = refl
and_true false = refl

-- one row less
module _ (ws vs mask : List ℕ) (N R c : ℕ)
    (inside : (i j : ℕ) → i < R → bit (get_or vs (c * R + i) 0) j ≡ (bit (get_or ws (c * R + i) 0) j && not (bit (get_or mask i 0) j)))
    (before : (k : ℕ) → k < c * R → get_or vs k 0 ≡ get_or ws k 0)
    (after : (k : ℕ) → c * R + R ≤ k → get_or vs k 0 ≡ get_or ws k 0) where
  pub erased : (u j : ℕ) → j < 64 * R → stands_at vs R u j ≡ (stands_at ws R u j && not (eqb c u && marked mask j))
  erased u j h =
      ⊎_elim (λ e.
      ap (λ z. stands_at vs R z j) (sym e) ∙ inside (j / 64) (j % 64) (omega arith)
      ∙ ap₂ (λ z b. stands_at ws R z j && not (b && marked mask j)) e (sym (eq-eqb c u e)))
      (λ ne.
      let same : get_or vs (u * R + j / 64) 0 ≡ get_or ws (u * R + j / 64) 0 =
      ⊎_elim (λ e. absurd (ne e)) (⊎_elim
      (λ l. after (u * R + j / 64) (omega (arith, mul-le (c + 1) R u R (omega arith) (omega arith), mul_comm (c + 1) R, mul_comm c R)))
      (λ l. before (u * R + j / 64) (omega (arith, mul-le (u + 1) R c R (omega arith) (omega arith), mul_comm (u + 1) R, mul_comm u R)))) (cases_order c u) in
      ap (λ z. bit z (j % 64)) same ∙ sym (ap (λ b. stands_at ws R u j && not (b && marked mask j)) (ne_eqb c u ne) ∙ and_true (stands_at ws R u j)))
      (cases_eq c u)

law : (s a e m : Bool) → ((s && not (a && m)) && not (e && m)) ≡ (s && not ((a || e) && m))
law true true true true = refl
law true true true false = refl
law true true false true = refl
law true true false false = refl
law true false true true = refl
law true false true false = refl
law true false false true = refl
law true false false false = refl
law false a e m = refl

pub removed_more : (s₀ s₁ s₂ m : Bool) (xs : List ℕ) (i u c : ℕ) → i < length xs → c ≡ get_or xs i 0
    → s₁ ≡ (s₀ && not (among (take i xs) u && m)) → s₂ ≡ (s₁ && not (eqb c u && m)) → s₂ ≡ (s₀ && not (among (take (i + 1) xs) u && m))
removed_more s₀ s₁ s₂ m xs i u c h e p q =
    q ∙ ap (λ b. b && not (eqb c u && m)) p ∙ law s₀ (among (take i xs) u) (eqb c u) m
    ∙ ap (λ b. s₀ && not (b && m)) (ap (λ z. among (take i xs) u || eqb z u) e ∙ sym (ap (λ z. among z u) (take_more xs i 0 h) ∙ among_push (take i xs) (get_or xs i 0) u))

none : (s m : Bool) → s ≡ (s && not (false && m))
none true m = refl
none false m = refl
