use Rattle.std.proofs.Common.{◌≡◌, ℕ, suc, ◌+◌, ◌-◌, ◌*◌, ◌/◌, ◌<◌, ◌≤◌, Bool, true, false, ◌&&◌, ◌||◌, eqb, ltb, List, get_or, sym, refl, ap, ◌∙◌, ap₂, ⊎_elim, add-one, arith}
use lib.Bits.{bit_and}
use Rattle.std.proofs.lemmas.Bool.{cases_lt, lt-ltb, le-ltb, and_left, cond-true, cond-false, or_from, ne_eqb}
use Rattle.cover_theory.specs.Rule.{Rel, Side, Sides, count, shared, chosen, better, joined_by, widen}
use Rattle.cover_theory.specs.Rows.{marked, stands_at, conflicts, Fit, held, Neat}
use Rattle.cover_theory.proofs.Grows.{agree}
use Rattle.cover_theory.proofs.Starts.{mark_and}

-- ---- widening

join_law : (l m e : Bool) → (l && (m || e)) ≡ (l && ((l && m) || e))
join_law true m e = refl
join_law false m e = refl

module _ (N R : ℕ) (ws : List ℕ) (fit : Fit N R ws) (a b : List ℕ) (na : Neat N R a) (nb : Neat N R b) (c : ℕ) (hc : c < N) where
  module _ (a' : List ℕ) (joins : (j : ℕ) → marked a' j ≡ (marked a j || eqb c j)) where
    pub join_held : held N a' ≡ joined_by N (held N a) c
    join_held = λ i j. at j i
      where
        at : (j : ℕ) → held N a' j ≡ joined_by N (held N a) c j
        at j = ap (λ z. ltb j N && z) (joins j) ∙ join_law (ltb j N) (marked a j) (eqb c j)

    pub join_neat : Neat N R a'
    join_neat j h g = joins j ∙ or_from (marked a j) (eqb c j) (na j h g) (ne_eqb c j (λ e. omega arith))

  module _ (b' : List ℕ) (met : (k : ℕ) → 0 ≤ k → k < R → get_or b' k 0 ≡ bit_and (get_or b k 0) (get_or ws (c * R + k) 0)) where
    both : (j : ℕ) → j < 64 * R → marked b' j ≡ (marked b j && stands_at ws R c j)
    both j h = mark_and b' _ _ j (met (j / 64) (omega arith) (omega arith))

    pub meet_held : held N b' ≡ shared (conflicts N R ws) (held N b) c
    meet_held = λ i j. at j i
      where
        three : (l m r : Bool) → (l && (m && r)) ≡ ((l && m) && r)
        three true m r = refl
        three false m r = refl

        at : (j : ℕ) → held N b' j ≡ shared (conflicts N R ws) (held N b) c j
        at j = ⊎_elim (λ h.
            let small = fit.small in
            ap (λ z. ltb j N && z) (both j (omega arith) ∙ ap (λ z. marked b j && z) (agree N R ws fit.tidy fit.small c j hc (omega arith)))
            ∙ three (ltb j N) (marked b j) (conflicts N R ws c j))
            (λ h. ap (λ z. z && marked b' j) (le-ltb j N h) ∙ sym (ap (λ z. (z && marked b j) && conflicts N R ws c j) (le-ltb j N h))) (cases_lt j N)

    pub meet_neat : Neat N R b'
    meet_neat j h g = both j g ∙ and_left (marked b j) (stands_at ws R c j) (nb j h g)

module _ (N : ℕ) (rel : Rel) (A B : Side) (i c x y d : ℕ) (hi : i < N) (c-is : c ≡ chosen N rel A B) (x-is : x ≡ count A N 0) (y-is : y ≡ count B N 0) (d-is : d ≡ count (shared rel B c) N 0) where
  test_is : (t : Bool) → ltb (x * y + (x + 1) + d) ((x + 1) * d + x + y) ≡ t → better (count A N 0) (count B N 0) (suc (count A N 0)) (count (shared rel B (chosen N rel A B)) N 0) ≡ t
  test_is t h =
      let e : better x y (suc x) d ≡ t = ap (λ z. ltb (x * y + z + d) (z * d + x + y)) (sym (add-one x)) ∙ h in
      ap₂ (λ p q. better p q (suc p) (count (shared rel B (chosen N rel A B)) N 0)) (sym x-is) (sym y-is)
      ∙ ap (λ z. better x y (suc x) z) (sym (d-is ∙ ap (λ z. count (shared rel B z) N 0) c-is)) ∙ e

  pub widen_no : (x + 1) * d + x + y ≤ x * y + (x + 1) + d → ◌≡◌ {A = Sides} (widen N rel (N - i) (A, B)) (A, B)
  widen_no h =
      ap (λ z. widen N rel z (A, B)) (let e : N - i ≡ suc (N - (i + 1)) = omega arith in e)
      ∙ cond-false (better (count A N 0) (count B N 0) (suc (count A N 0)) (count (shared rel B (chosen N rel A B)) N 0)) _ _ (test_is false (le-ltb _ _ h))

  pub widen_yes : (A' B' : Side) → A' ≡ joined_by N A c → B' ≡ shared rel B c → x * y + (x + 1) + d < (x + 1) * d + x + y
      → ◌≡◌ {A = Sides} (widen N rel (N - (i + 1)) (A', B')) (widen N rel (N - i) (A, B))
  widen_yes A' B' ea eb h =
      sym (ap (λ z. widen N rel z (A, B)) (let e : N - i ≡ suc (N - (i + 1)) = omega arith in e)
      ∙ cond-true (better (count A N 0) (count B N 0) (suc (count A N 0)) (count (shared rel B (chosen N rel A B)) N 0)) _ _ (test_is true (lt-ltb _ _ h))
      ∙ ap (λ z. widen N rel (N - (i + 1)) (joined_by N A z, shared rel B z)) (sym c-is)
      ∙ (λ k. widen N rel (N - (i + 1)) (sym ea k, sym eb k)))
