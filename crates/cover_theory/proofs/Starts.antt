use Rattle.std.proofs.Common.{◌≡◌, ℕ, ◌+◌, ◌-◌, ◌*◌, ◌/◌, ◌%◌, ◌<◌, ◌≤◌, Bool, true, false, ◌&&◌, leb, ◌≢◌, List, [], ◌∷◌, length, get_or, take, set, sym, refl, ap, ◌∙◌, subst, ap₂, ⊎_elim, mul_comm, add-one, arith, get_or-set_other, get_or-set_same}
use lib.Bits.{bit_and}
use Rattle.std.proofs.lemmas.Bool.{cases_eq, le-leb}
use Rattle.std.proofs.lemmas.Bool.Decides.{nat_tests}
use Rattle.std.proofs.lemmas.Nat.{mul-le}
use Rattle.cover_theory.specs.Rule.{Rel, clashes, grow, grown}
use Rattle.network_theory.specs.Layout.{bit}
use Rattle.cover_theory.specs.Rows.{marked, stands_at, conflicts, Tidy, Masks}
use Rattle.cover_theory.proofs.Digits.{and_bit}
use Rattle.cover_theory.proofs.Grows.{agree, past}

-- a row of words lies within all of them
pub row_in : (count rows u len : ℕ) → u < count → count * rows ≤ len → u * rows + rows ≤ len
row_in count rows u len h room = omega (arith, mul-le (u + 1) rows count rows (omega arith) (omega arith), mul_comm (u + 1) rows, mul_comm u rows)

pub mark_and : (mask : List ℕ) (x y j : ℕ) → get_or mask (j / 64) 0 ≡ bit_and x y → marked mask j ≡ (bit x (j % 64) && bit y (j % 64))
mark_and mask x y j e = ap (λ z. bit z (j % 64)) e ∙ and_bit x y (j % 64)

level : (f j : ℕ) → j / 64 ≡ f / 64 → leb (f % 64) (j % 64) ≡ leb f j
level f j e = grind (arith, nat_tests)

module _ (mask ws : List ℕ) (R u w f y : ℕ) (h : f / 64 < R) (room : R ≤ length mask)
    (shared : (k : ℕ) → f / 64 ≤ k → k < R → get_or mask k 0 ≡ bit_and (get_or ws (u * R + k) 0) (get_or ws (w * R + k) 0))
    (y-is : (j : ℕ) → bit y j ≡ (leb (f % 64) j && bit (get_or mask (f / 64) 0) j)) where
  both : (j : ℕ) → 64 * (f / 64) ≤ j → j < 64 * R → marked mask j ≡ (stands_at ws R u j && stands_at ws R w j)
  both j p q = mark_and mask _ _ j (shared (j / 64) (omega arith) (omega arith))

  pub started : (j : ℕ) → 64 * (f / 64) ≤ j → j < 64 * R → marked (set mask (f / 64) y) j ≡ (leb f j && (stands_at ws R u j && stands_at ws R w j))
  started j p q =
      ⊎_elim (λ e.
      let same : get_or (set mask (f / 64) y) (j / 64) 0 ≡ y = subst (λ z. get_or (set mask (f / 64) y) z 0 ≡ y) (sym e) (get_or-set_same mask (f / 64) y 0 (omega arith)) in
      ap (λ z. bit z (j % 64)) same ∙ y-is (j % 64) ∙ ap (λ b. b && bit (get_or mask (f / 64) 0) (j % 64)) (level f j e)
      ∙ ap (λ z. leb f j && bit (get_or mask z 0) (j % 64)) (sym e) ∙ ap (λ b. leb f j && b) (both j p q))
      (λ ne.
      let ne' : j / 64 ≢ f / 64 = ne in
      ap (λ z. bit z (j % 64)) (get_or-set_other mask (f / 64) (j / 64) y 0 ne') ∙ both j p q
      ∙ ap (λ b. b && (stands_at ws R u j && stands_at ws R w j)) (sym (le-leb f j (omega arith))))
      (cases_eq (j / 64) (f / 64))

and_true : (a : Bool) → a ≡ (a && true)
and_true true = refl
and_true false = refl

pub two : (xs : List ℕ) (u w : ℕ) → 2 ≤ length xs → take 2 (set (set xs 0 u) 1 w) ≡ u ∷ w ∷ []
two [] u w h = absurd (omega arith)
two (x ∷ []) u w h = absurd (omega arith)
two (x ∷ y ∷ xs) u w h = refl

module _ (N R : ℕ) (ws : List ℕ) (tidy : Tidy N R ws) (small : N ≤ 64 * R) (u w : ℕ) (hu : u < N) (hw : w < N) where
  pub first_ends : (j : ℕ) → N ≤ j → clashes (conflicts N R ws) (u ∷ w ∷ []) j ≡ false
  first_ends j h = ap (λ b. b && (conflicts N R ws w j && true)) (past N R ws tidy small u j h)

  pub first_masks : (mask : List ℕ) → ((j : ℕ) → 64 * ((w + 1) / 64) ≤ j → j < 64 * R → marked mask j ≡ (leb (w + 1) j && (stands_at ws R u j && stands_at ws R w j)))
      → Masks (conflicts N R ws) R mask (w + 1) (u ∷ w ∷ [])
  first_masks mask m j p q =
      m j p q ∙ ap₂ (λ a b. leb (w + 1) j && (a && b)) (agree N R ws tidy small u j hu q) (agree N R ws tidy small w j hw q ∙ and_true (conflicts N R ws w j))

pub first_grown : (N : ℕ) (rel : Rel) (u w : ℕ) → grow rel (u ∷ w ∷ []) (N - (w + 1)) (w + 1) ≡ grown N rel u w
first_grown N rel u w = ap (λ z. grow rel (u ∷ w ∷ []) (N - z) z) (add-one w)
