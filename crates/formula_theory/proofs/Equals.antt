-- What is written depends on what an encoder counts and lists, and not on its values.
use Rattle.std.proofs.Common.{◌≡◌, ℕ, ◌+◌, ◌<◌, ◌≤◌, Bool, true, false, cond, ltb, List, [], ◌∷◌, ◌++◌, length, ℤ, refl, ap, ◌∙◌, subst, inl, inr, arith}
use Rattle.std.proofs.lemmas.Bool.{cond-true}
use Rattle.logic.specs.Clause.{In}
use Rattle.encoder_theory.specs.Meaning.{Meaning, Admits, Equal, last_end}
use Rattle.encoder_theory.specs.Pairwise.{pairwise}
use Rattle.cover_theory.specs.Parts.{Part, clique, biclique, Sound}
use Rattle.formula_theory.specs.Writing.{pairs_among, chosen, part_clauses, part_auxiliaries, clauses_from, over_parts, part_size}
use Rattle.formula_theory.specs.Faithful.{EqualsWriteAlike}
use Rattle.formula_theory.proofs.Pieces.{clique_admitted}

pub over_parts_same : (f g : Part ℤ → ℕ) (Ps : List (Part ℤ)) → ((P : Part ℤ) → In P Ps → f P ≡ g P) → over_parts f Ps ≡ over_parts g Ps
over_parts_same f g [] s = refl
over_parts_same f g (P ∷ Ps) s = ap (λ k. k + over_parts f Ps) (s P (inl refl)) ∙ ap (λ k. g P + k) (over_parts_same f g Ps (λ Q h. s Q (inr h)))

module _ (M N : Meaning) (e : Equal M N) (n : ℕ) where
  abbrev used : Meaning → ℕ → Bool
  used E m = ltb (E.clauses m) (pairs_among m)

  same_used : (m : ℕ) → m ≤ 256 → used M m ≡ used N m
  same_used m l = ap (λ k. ltb k (pairs_among m)) (e.clauses m l)

  -- what the two encoders have in common, the chosen ones have
  same_chosen : {Y : Type 0} (f : Meaning → Y) (m : ℕ) → m ≤ 256 → (used M m ≡ true → f M ≡ f N) → f (chosen M m) ≡ f (chosen N m)
  same_chosen f m l h = go (used M m) (used N m) (same_used m l) h
    where
      go : (b c : Bool) → b ≡ c → (b ≡ true → f M ≡ f N) → f (cond b M pairwise) ≡ f (cond c N pairwise)
      go b true q k = ap (λ x. f (cond x M pairwise)) q ∙ k q
      go b false q k = ap (λ x. f (cond x M pairwise)) q

  same_auxiliaries : (P : Part ℤ) → Sound n P → part_auxiliaries M P ≡ part_auxiliaries N P
  same_auxiliaries (biclique xs ys) s = refl
  same_auxiliaries (clique xs) s = same_chosen (λ E. E.auxiliaries (length xs)) (length xs) s.3 (λ t. e.auxiliaries (length xs) s.3)

  same_size : (P : Part ℤ) → Sound n P → part_size M P ≡ part_size N P
  same_size (biclique xs ys) s = refl
  same_size (clique xs) s = same_chosen (λ E. E.clauses (length xs)) (length xs) s.3 (λ t. e.clauses (length xs) s.3)

  same_part : (z : ℕ) → n < z → (P : Part ℤ) → Sound n P → z + part_auxiliaries M P ≤ last_end → part_clauses M P z ≡ part_clauses N P z
  same_part z w (biclique xs ys) s f = refl
  same_part z w (clique xs) s f =
      same_chosen (λ E. E.list xs z) (length xs) s.3
      (λ t. e.list xs z (subst (λ (E : Meaning). Admits E xs z) (cond-true (used M (length xs)) M pairwise t) (clique_admitted M n z xs s w f)))

  same_clauses : (Ps : List (Part ℤ)) (R : List (ℤ × ℤ)) (z : ℕ) → n < z → z + over_parts (part_auxiliaries M) Ps ≤ last_end
      → ((P : Part ℤ) → In P Ps → Sound n P) → clauses_from M Ps R z ≡ clauses_from N Ps R z
  same_clauses [] R z w f s = refl
  same_clauses (P ∷ Ps) R z w f s =
      ap (λ L. L ++ clauses_from M Ps R (z + part_auxiliaries M P)) (same_part z w P (s P (inl refl)) (omega arith))
      ∙ ap (λ L. part_clauses N P z ++ L)
      (same_clauses Ps R (z + part_auxiliaries M P) (omega arith) (omega arith) (λ Q h. s Q (inr h))
      ∙ ap (λ k. clauses_from N Ps R (z + k)) (same_auxiliaries P (s P (inl refl))))

pub equals_write_alike : EqualsWriteAlike
equals_write_alike M N e n C s = (
  over_parts_same _ _ C.parts (λ P h. same_auxiliaries M N e n P (s P h)),
  ap (λ k. k + length C.remaining) (over_parts_same _ _ C.parts (λ P h. same_size M N e n P (s P h))),
  λ first w. same_clauses M N e n C.parts C.remaining first w.above w.fits s,
)
