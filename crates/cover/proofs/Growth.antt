-- A clique that grows by a mask's first words.
use Rattle.std.proofs.Common.{◌≡◌, ℕ, ◌*◌, ◌/◌, ◌%◌, ◌<◌, ◌≤◌, true, false, leb, ltb, List, length, take, Some, None, Option, MatchOption, sym, ap, ◌∙◌, ⊎_elim, arith}
use Rattle.std.proofs.lemmas.List.{length-take-le, get_or-take}
use Rattle.std.proofs.lemmas.Bool.{cases_lt, lt-leb, ltb-true, and_left, and_parts}
use Rattle.network_theory.specs.Layout.{bit}
use Rattle.cover_theory.specs.Rule.{Rel, clashes}
use Rattle.cover_theory.specs.Rows.{marked, stands_at, conflicts, Masks, Lowest, Bare}
use Rattle.cover.specs.Bits.{FirstMarked}

-- the first words of a mask
module _ (R : ℕ) (mask : List ℕ) (from : ℕ) (room : R ≤ length mask) where
  seen : (j : ℕ) → j < 64 * R → marked (take R mask) j ≡ marked mask j
  seen j h = ap (λ z. bit z (j % 64)) (get_or-take R mask (j / 64) 0 (omega arith))

  pub first_taken : (r : Option ℕ) → MatchOption r ((j : ℕ) → from ≤ j → j < 64 * length (take R mask) → marked (take R mask) j ≡ false) (FirstMarked (take R mask) (64 * length (take R mask)) from)
      → MatchOption r ((j : ℕ) → from ≤ j → j < 64 * R → marked mask j ≡ false) (FirstMarked mask (64 * R) from)
  first_taken None none = let len = length-take-le R mask room in λ j p q. sym (seen j q) ∙ none j p (omega arith)
  first_taken (Some w) f =
      let len = length-take-le R mask room in
      let high : w < 64 * R = omega (arith, f.high) in
      record { low = f.low; high = high; here = sym (seen w high) ∙ f.here; before = λ j p q. sym (seen j (omega arith)) ∙ f.before j p q }

module _ (rel : Rel) (R : ℕ) (mask ms : List ℕ) (from : ℕ) (masks : Masks rel R mask from ms) where
  none_below : (j : ℕ) → 64 * (from / 64) ≤ j → j < 64 * R → j < from → marked mask j ≡ false
  none_below j p r q = masks j p r ∙ and_left (leb from j) (clashes rel ms j) (lt-leb from j q)

  pub first_lowest : (c : ℕ) → FirstMarked mask (64 * R) from c → Lowest mask (from / 64) R c
  first_lowest c f =
      let low = f.low in
      let high = f.high in
      record {
        low = omega arith;
        high = high;
        here = f.here;
        before = λ j p q. ⊎_elim (λ h. none_below j p (omega arith) h) (λ h. f.before j h q) (cases_lt j from);
      }

  pub none_bare : ((j : ℕ) → from ≤ j → j < 64 * R → marked mask j ≡ false) → Bare mask (from / 64) (64 * R)
  none_bare none j p q = ⊎_elim (λ h. none_below j p q h) (λ h. none j h q) (cases_lt j from)

-- both literals of a conflict are in range
pub conflict_in : (N R : ℕ) (ws : List ℕ) (u w : ℕ) → conflicts N R ws u w ≡ true → (u < N) × (w < N)
conflict_in N R ws u w e =
    let p = and_parts (ltb u N) _ e in
    let q = and_parts (ltb w N) (stands_at ws R u w) p.1 in
    (ltb-true u N p.0, ltb-true w N q.0)
