-- The conflicts that remain: row after row, conflict after conflict.
use Rattle.std.proofs.Common.{◌≡◌, ℕ, zero, suc, ◌+◌, ◌-◌, ◌*◌, ◌<◌, ◌≤◌, Bool, true, false, cond, List, [], ◌∷◌, ◌++◌, map, length, ℤ, sym, ap, ◌∙◌, add-one, arith}
use Rattle.std.proofs.lemmas.List.{length-map, map-append}
use Rattle.std.proofs.lemmas.Simd.{map-map}
use Rattle.logic.specs.Literal.{literal}
use Rattle.logic.specs.Clause.{against, flat}
use Rattle.logic.proofs.Clauses.{length_flat, flat_append}
use Rattle.cover_theory.specs.Rule.{Rel, Side, those, pairs_from}
use Rattle.formula_theory.specs.Writing.{conflict_clauses}
use Rattle.writing_theory.specs.Remaining.{row_clauses, Below}

-- ---- those that a test tells
pub those_below : (N : ℕ) (p : Side) (k c : ℕ) → c + k ≤ N → Below N (those p k c)
those_below N p zero c h = tt
those_below N p (suc k) c h = go (p c) (those_below N p k (suc c) (omega arith))
  where
    go : (b : Bool) → Below N (those p k (suc c)) → Below N (cond b (c ∷ those p k (suc c)) (those p k (suc c)))
    go true r = (omega arith, r)
    go false r = r

-- ---- the clauses of the rows
length_row : (u : ℕ) (ws : List ℕ) → length (flat (row_clauses u ws)) ≡ 2 * length ws
length_row u ws = length_flat (row_clauses u ws) ∙ ap (λ k. 2 * k) (length-map ws (λ w. against (literal u) (literal w)))

pub row_room : (u m : ℕ) (ws : List ℕ) → 2 * length ws ≤ m → length (flat (row_clauses u ws)) ≤ m
row_room u m ws h = omega (arith, length_row u ws)

pub row_fits : (u m : ℕ) (ws : List ℕ) → length (flat (row_clauses u ws)) ≤ m → 2 * length ws ≤ m
row_fits u m ws h = omega (arith, length_row u ws)

module _ (N : ℕ) (rel : Rel) where
  pub rows_room : (m : ℕ) → 2 * length (pairs_from N rel N 0) ≤ m → length (flat (conflict_clauses (pairs_from N rel N 0))) ≤ m
  rows_room m h = omega (arith, length_flat (conflict_clauses (pairs_from N rel N 0)), length-map (pairs_from N rel N 0) (λ c. against c.0 c.1))

  -- the clauses of the literals from u on
  abbrev pub rows : ℕ → List ℤ
  rows u = flat (conflict_clauses (pairs_from N rel (N - u) u))

  pub rows_next : (u : ℕ) → u < N → rows u ≡ flat (row_clauses u (those (rel u) (N - (u + 1)) (u + 1))) ++ rows (u + 1)
  rows_next u l =
      let e : N - u ≡ suc (N - (u + 1)) = omega arith in
      let row = those (rel u) (N - suc u) (suc u) in
      let later = pairs_from N rel (N - (u + 1)) (suc u) in
      ap (λ k. flat (conflict_clauses (pairs_from N rel k u))) e
      ∙ ap flat (map-append (λ c. against c.0 c.1) (map (λ w. (literal u, literal w)) row) later)
      ∙ ap (λ L. flat (L ++ conflict_clauses later)) (map-map (λ (c : ℤ × ℤ). against c.0 c.1) (λ (w : ℕ). (literal u, literal w)) row)
      ∙ flat_append (row_clauses u row) (conflict_clauses later)
      ∙ ap (λ v. flat (row_clauses u (those (rel u) (N - v) v)) ++ flat (conflict_clauses (pairs_from N rel (N - (u + 1)) v))) (sym (add-one u))

  pub rows_all : rows 0 ≡ flat (conflict_clauses (pairs_from N rel N 0))
  rows_all = let e : N - 0 ≡ N = omega arith in ap (λ k. flat (conflict_clauses (pairs_from N rel k 0))) e
