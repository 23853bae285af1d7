-- The pairs as they are put, member by member.
use Rattle.std.proofs.Common.{◌≡◌, ℕ, ◌+◌, ◌-◌, ◌*◌, ◌<◌, ◌≤◌, List, [], ◌∷◌, length, take, drop, ℤ, pos, sym, ap, ◌∙◌, subst, arith, length-drop}
use Rattle.std.proofs.lemmas.List.{take_all, get_or-drop}
use Rattle.filling.specs.Filled.{Filled, after, extended}
use Rattle.logic.specs.Literal.{variable}
use Rattle.logic.specs.Clause.{Clause, against, flat}
use Rattle.encoder_theory.specs.Each.{each}
use Rattle.encoder_theory.specs.Members.{member}
use Rattle.encoder_theory.specs.Meaning.{last_end}
use Rattle.encoder_theory.specs.Pairwise.{pairs_of, pairwise}
use Rattle.encoder_theory.proofs.PairwiseLaws.{length_pairs}
use Rattle.encoder_theory.proofs.Rows.{before, row_end, cell_next}

module _ (xs : List ℤ) where
  -- all pairs of the members before i, and the first k of the member at i
  abbrev pub pairs_before : ℕ → ℕ → List Clause
  pairs_before = before (λ i. i + 1) (λ i. length xs - (i + 1)) (λ i j. against (member xs i) (member xs j))

  -- the members after i
  abbrev pub later : ℕ → List ℤ
  later i = take (length xs - (i + 1)) (drop (i + 1) xs)

  later_is : (i : ℕ) → later i ≡ drop (i + 1) xs
  later_is i = let d = length-drop (i + 1) xs in take_all (length xs - (i + 1)) (drop (i + 1) xs) (omega arith)

  length_later : (i : ℕ) → length (later i) ≡ length xs - (i + 1)
  length_later i = ap length (later_is i) ∙ length-drop (i + 1) xs

  member_later : (i k : ℕ) → member (later i) k ≡ member xs (i + 1 + k)
  member_later i k = ap (λ ys. member ys k) (later_is i) ∙ get_or-drop (i + 1) xs k (pos 0)

  pub small_later : ((i : ℕ) → i < length xs → variable (member xs i) ≤ last_end) → (i k : ℕ) → k < length (later i) → variable (member (later i) k) ≤ last_end
  small_later small i k l =
      let m = length_later i in
      let s = small (i + 1 + k) (omega arith) in
      subst (λ x. variable x ≤ last_end) (sym (member_later i k)) s

  pub pair_next : (i k : ℕ) (f g h : Filled ℤ) (c : Clause) → i < length xs → k < length (later i) → c ≡ against (member xs i) (member (later i) k)
      → g ≡ after f (flat (pairs_before i k)) → h ≡ extended g (c.0 ∷ c.1 ∷ []) → 2 * pairwise.clauses (length xs) ≤ length f.rest
      → h ≡ after f (flat (pairs_before i (k + 1)))
  pair_next i k f g h c l u e so put room =
      let n = length_pairs xs in
      let m = length_later i in
      cell_next (λ i. i + 1) (λ i. length xs - (i + 1)) (λ i j. against (member xs i) (member xs j)) (length xs) i k f g h c l (omega arith)
      (e ∙ ap (against (member xs i)) (member_later i k)) so put (omega arith)

  pub pairs_end : (i k : ℕ) (f g : Filled ℤ) → k ≤ length (later i) → length (later i) ≤ k
      → g ≡ after f (flat (pairs_before i k)) → g ≡ after f (flat (each 0 (i + 1) (pairs_of xs)))
  pairs_end i k f g l u so =
      let m = length_later i in
      row_end (λ i. i + 1) (λ i. length xs - (i + 1)) (λ i j. against (member xs i) (member xs j)) i k f g (omega arith) so
