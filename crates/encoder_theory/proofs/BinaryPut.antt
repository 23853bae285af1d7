-- The codes as they are put, member by member.
use Rattle.std.proofs.Common.{◌≡◌, ℕ, ◌+◌, ◌*◌, ◌<◌, ◌≤◌, List, [], ◌∷◌, length, ℤ, sym, ap, ◌∙◌, arith}
use Rattle.std.proofs.lemmas.List.{append-nil}
use Rattle.filling.specs.Filled.{Filled, after, extended}
use Rattle.logic.specs.Clause.{Clause, flat}
use Rattle.encoder_theory.specs.Each.{each}
use Rattle.encoder_theory.specs.Binary.{bits, code_clause, binary}
use Rattle.encoder_theory.proofs.BinaryLaws.{length_codes}
use Rattle.encoder_theory.proofs.Rows.{before, row_end, cell_next}

module _ (xs : List ℤ) (first : ℕ) where
  -- all codes of the members before i, and the first k of the member at i
  abbrev pub codes_before : ℕ → ℕ → List Clause
  codes_before = before (λ i. 0) (λ i. bits (length xs)) (code_clause xs first)

  pub code_next : (i k : ℕ) (f g h : Filled ℤ) (c : Clause) → i < length xs → k < bits (length xs) → c ≡ code_clause xs first i k
      → g ≡ after f (flat (codes_before i k)) → h ≡ extended g (c.0 ∷ c.1 ∷ []) → 2 * binary.clauses (length xs) ≤ length f.rest
      → h ≡ after f (flat (codes_before i (k + 1)))
  code_next i k f g h c l u e so put room =
      let n = length_codes xs first in
      let z : 0 + k ≡ k = omega arith in
      cell_next (λ i. 0) (λ i. bits (length xs)) (code_clause xs first) (length xs) i k f g h c l u (e ∙ ap (code_clause xs first i) (omega arith)) so put (omega arith)

  pub codes_end : (i k : ℕ) (f g : Filled ℤ) → k ≡ bits (length xs) → g ≡ after f (flat (codes_before i k)) → g ≡ after f (flat (codes_before (i + 1) 0))
  codes_end i k f g e so =
      row_end (λ i. 0) (λ i. bits (length xs)) (code_clause xs first) i k f g e so
      ∙ ap (λ cs. after f (flat cs)) (sym (append-nil (each 0 (i + 1) (λ j. each 0 (bits (length xs)) (λ l. code_clause xs first j l ∷ [])))))
