use Rattle.std.proofs.Common.{◌≡◌, ℕ, zero, suc, ◌+◌, ◌-◌, ◌*◌, ◌/◌, ◌<◌, ◌≤◌, false, ◌&&◌, leb, List, [], ◌∷◌, ◌++◌, length, get_or, take, set, sym, ◌∙◌, subst, arith}
use lib.Bits.{bit_and}
use Rattle.std.proofs.lemmas.List.{take_more_set, length-take-le}
use Rattle.cover_theory.specs.Rule.{clashes, grow, grown}
use Rattle.cover_theory.specs.Rows.{marked, stands_at, conflicts, Tidy, Loose, Masks, Lowest, Bare}
use Rattle.cover_theory.proofs.Grows.{c_lt, go_on, ends_on, masks_on, stop_bare, grow_full}
use Rattle.cover_theory.proofs.Starts.{mark_and, two, first_ends, first_masks, first_grown}

-- the state of the loop that grows the clique of u and w, with k members
abbrev pub Growing : ℕ → ℕ → List ℕ → ℕ → ℕ → ℕ → ℕ → List ℕ → List ℕ → Type 0
Growing N R ws u w k from mask ms =
    (k ≤ 256) × (2 ≤ k) × (from ≤ N)
    × ((j : ℕ) → N ≤ j → clashes (conflicts N R ws) ms j ≡ false)
    × Masks (conflicts N R ws) R mask from ms
    × (grow (conflicts N R ws) ms (N - from) from ≡ grown N (conflicts N R ws) u w)
    × ((i : ℕ) → i < length ms → get_or ms i 0 < N)

two_places : (N u w : ℕ) → u < N → w < N → (i : ℕ) → i < length (u ∷ w ∷ []) → get_or (u ∷ w ∷ []) i 0 < N
two_places N u w p q zero h = p
two_places N u w p q (suc zero) h = q
two_places N u w p q (suc (suc i)) h = absurd (omega arith)

places_push : (N c : ℕ) (ms : List ℕ) → ((i : ℕ) → i < length ms → get_or ms i 0 < N) → c < N → (i : ℕ) → i < length (ms ++ c ∷ []) → get_or (ms ++ c ∷ []) i 0 < N
places_push N c [] p q zero h = q
places_push N c [] p q (suc i) h = absurd (omega arith)
places_push N c (m ∷ ms) p q zero h = p zero (omega arith)
places_push N c (m ∷ ms) p q (suc i) h = places_push N c ms (λ i g. p (suc i) (omega arith)) q i (omega arith)

module _ (N R : ℕ) (ws : List ℕ) (tidy : Tidy N R ws) (loose : Loose N R ws) (small : N ≤ 64 * R) (u w : ℕ) where
  pub begins : (mask xs : List ℕ) → u < w → w < N → 2 ≤ length xs
      → ((j : ℕ) → 64 * ((w + 1) / 64) ≤ j → j < 64 * R → marked mask j ≡ (leb (w + 1) j && (stands_at ws R u j && stands_at ws R w j)))
      → Growing N R ws u w 2 (w + 1) mask (take 2 (set (set xs 0 u) 1 w))
  begins mask xs hu hw room m =
      subst (Growing N R ws u w 2 (w + 1) mask) (sym (two xs u w room))
      (omega arith, omega arith, omega arith, first_ends N R ws tidy small u w (omega arith) hw, first_masks N R ws tidy small u w (omega arith) hw mask m, first_grown N (conflicts N R ws) u w, two_places N u w (omega arith) hw)

  module _ (k from : ℕ) (mask xs : List ℕ) (inv : Growing N R ws u w k from mask (take k xs)) where
    pub again : (c : ℕ) (mask' : List ℕ) → k < 256 → k < length xs → Lowest mask (from / 64) R c
        → ((i : ℕ) → c / 64 ≤ i → i < R → get_or mask' i 0 ≡ bit_and (get_or mask i 0) (get_or ws (c * R + i) 0))
        → Growing N R ws u w (k + 1) (c + 1) mask' (take (k + 1) (set xs k c))
    again c mask' full room low met =
        let len : length (take k xs) ≡ k = length-take-le k xs (omega arith) in
        let lt : c < N = c_lt N R ws tidy loose small (take k xs) mask from inv.3 inv.4 c low in
        subst (Growing N R ws u w (k + 1) (c + 1) mask') (sym (take_more_set xs k c room)) (
          omega arith,
          omega (arith, inv.1),
          omega arith,
          ends_on N R ws tidy loose small (take k xs) mask from inv.3 inv.4 c low,
          masks_on N R ws tidy loose small (take k xs) mask from inv.3 inv.4 c low mask' (λ j p q. mark_and mask' _ _ j (met (j / 64) (omega arith) (omega arith))),
          sym (go_on N R ws tidy loose small (take k xs) mask from inv.3 inv.4 c low (omega arith)) ∙ inv.5,
          places_push N c (take k xs) inv.6 lt,
        )

    pub ended : Bare mask (from / 64) (64 * R) → take k xs ≡ grown N (conflicts N R ws) u w
    ended bare = sym (stop_bare N R ws tidy loose small (take k xs) mask from inv.3 inv.4 inv.2 bare) ∙ inv.5

    pub filled : 256 ≤ k → k ≤ length xs → take k xs ≡ grown N (conflicts N R ws) u w
    filled full room =
        let len : length (take k xs) ≡ k = length-take-le k xs room in
        sym (grow_full (conflicts N R ws) (take k xs) N from inv.2 (omega arith)) ∙ inv.5
