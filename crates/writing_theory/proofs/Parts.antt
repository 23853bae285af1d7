-- The parts that are read from a list.
use Rattle.std.proofs.Common.{◌≡◌, ℕ, zero, suc, ◌+◌, ◌^◌, ◌<◌, ◌≤◌, List, [], ◌∷◌, ◌++◌, length, take, drop, ℤ, Some, None, Option, refl, sym, ap, ◌∙◌, ap₂, inl, inr, append_assoc, arith, length-append}
use Rattle.std.proofs.lemmas.List.{length-drop, drop_at, drop-drop, take_at, length-take-le}
use Rattle.logic.specs.Clause.{In}
use Rattle.encoder_theory.specs.Meaning.{Meaning}
use Rattle.cover_theory.specs.Parts.{Part, clique, biclique, Sound}
use Rattle.cover_theory.specs.Lies.{numbers_of, numbers}
use Rattle.cover_theory.specs.Rows.{Sized}
use Rattle.formula_theory.specs.declared.Size.{Size}
use Rattle.formula_theory.specs.Writing.{part_size, part_auxiliaries, over_parts}
use Rattle.cover.specs.Walk.{end_of, placed, part_at, followed, parts_from, parts_in}
use Rattle.cover.proofs.Walks.{part_none, part_here, part_ends}
use Rattle.cover.specs.declared.Part.{Part as Placed}
use Rattle.cover.specs.declared.Part.TheVariants.{Clique, Biclique}
use Rattle.writing_theory.specs.Listed.{read_part, read_parts, parts_of, Inside, Listed, Moderate, clique_takes, takes, totals, most_total}

-- ---- a part that lies in the list is read back
sized : (n : ℕ) (P : Part ℤ) → Sound n P → Sized (P ∷ [])
sized n (clique xs) s = (omega (arith, s.2), tt)
sized n (biclique [] ys) s = absurd (omega (arith, s.5))
sized n (biclique (x ∷ xs) ys) s = (omega arith, tt)

read_placed : (xs : List ℤ) (at : ℕ) (P : Part ℤ) (rest : List ℤ) → drop at xs ≡ numbers_of P ++ rest → read_part xs (placed at P) ≡ P
read_placed xs at (clique ms) rest e =
    ap clique (ap (take (length ms)) (sym (drop-drop 1 at xs) ∙ ap (drop 1) e) ∙ take_at ms rest (length ms) refl)
read_placed xs at (biclique ls rs) rest e =
    let d : drop (at + 2) xs ≡ ls ++ (rs ++ rest) = sym (drop-drop 2 at xs) ∙ ap (drop 2) e ∙ append_assoc ls rs rest in
    let a : take (length ls) (drop (at + 2) xs) ≡ ls = ap (take (length ls)) d ∙ take_at ls _ (length ls) refl in
    let b : take (length rs) (drop (at + 2 + length ls) xs) ≡ rs =
    ap (take (length rs)) (sym (drop-drop (length ls) (at + 2) xs) ∙ ap (drop (length ls)) d ∙ drop_at ls _ (length ls) refl) ∙ take_at rs _ (length rs) refl in
    ap (λ ys. biclique ys (take (length rs) (drop (at + 2 + length ls) xs))) a ∙ ap (biclique ls) b

numbered : (P : Part ℤ) → 1 ≤ length (numbers_of P)
numbered (clique xs) = omega arith
numbered (biclique xs ys) = omega arith

-- where the numbers of parts stand, these parts are read
module _ (n : ℕ) (xs : List ℤ) where
  read_from : (k at : ℕ) (Ps : List (Part ℤ)) → ((P : Part ℤ) → In P Ps → Sound n P) → drop at xs ≡ numbers Ps → length xs ≤ at + k → read_parts xs (parts_from xs k at) ≡ Ps
  read_from zero at [] s e l = refl
  read_from (suc k) at [] s e l = ap (λ o. read_parts xs (followed o (λ P. parts_from xs k (end_of P)))) (part_none xs at 0 e)
  read_from zero at (P ∷ Ps) s e l = absurd (omega (arith, length-drop at xs, ap length e, length-append (numbers_of P) (numbers Ps), numbered P))
  read_from (suc k) at (P ∷ Ps) s e l =
      let h = part_here xs at P (numbers Ps) (sized n P (s P (inl refl))) e in
      let m = (part_ends xs at (placed at P) h.0).0 in
      ap (λ o. read_parts xs (followed o (λ Q. parts_from xs k (end_of Q)))) h.0
      ∙ ap (λ Q. Q ∷ read_parts xs (parts_from xs k (end_of (placed at P)))) (read_placed xs at P (numbers Ps) e)
      ∙ ap (λ Qs. P ∷ Qs) (read_from k (end_of (placed at P)) Ps (λ Q i. s Q (inr i)) h.1 (omega arith))

  pub parts_read : (Ps : List (Part ℤ)) → ((P : Part ℤ) → In P Ps → Sound n P) → xs ≡ numbers Ps → parts_of xs ≡ Ps
  parts_read Ps s e = read_from (length xs) 0 Ps s e (omega arith)

-- the parts that are read end within the list
pub inside_from : (xs : List ℤ) (k at : ℕ) → Inside xs (parts_from xs k at)
inside_from xs zero at = tt
inside_from xs (suc k) at = go (part_at xs at) refl (λ b. inside_from xs k b)
  where
    go : (o : Option Placed) → part_at xs at ≡ o → ((b : ℕ) → Inside xs (parts_from xs k b)) → Inside xs (followed o (λ P. parts_from xs k (end_of P)))
    go None e h = tt
    go (Some P) e h = ((part_ends xs at P e).1, h (end_of P))

-- ---- a part that ends within the list takes what its place and sizes tell
taken : (xs : List ℤ) (at m : ℕ) → at + m ≤ length xs → length (take m (drop at xs)) ≡ m
taken xs at m l = length-take-le m (drop at xs) (omega (arith, length-drop at xs))

pub takes_read : (M : Meaning) (xs : List ℤ) (p : Placed) → end_of p ≤ length xs
    → takes M p ≡ record { clauses = part_size M (read_part xs p); auxiliaries = part_auxiliaries M (read_part xs p) }
takes_read M xs (Clique at m) l = ap (clique_takes M) (sym (taken xs at m l))
takes_read M xs (Biclique at a b) l =
    let e = taken xs at a (omega arith) in
    let f = taken xs (at + a) b l in
    ap (λ k. record { clauses = k; auxiliaries = 1 }) (let q : a + b ≡ length (take a (drop at xs)) + length (take b (drop (at + a) xs)) = omega arith in q)

pub moderate_read : (n : ℕ) (xs : List ℤ) (p : Placed) → end_of p ≤ length xs → length xs < 2 ^ 64 → Sound n (read_part xs p) → Moderate p
moderate_read n xs (Clique at m) l h s = omega (arith, taken xs at m l, s.3)
moderate_read n xs (Biclique at a b) l h s = omega arith

-- a part told by its place and sizes
pub as_clique : (xs : List ℤ) (p : Placed) (at m k : ℕ) → p ≡ Clique at m → m ≡ k → read_part xs p ≡ clique (take k (drop at xs))
as_clique xs p at m k is e = ap (read_part xs) is ∙ ap (λ j. clique (take j (drop at xs))) e

pub as_biclique : (xs : List ℤ) (p : Placed) (at a b j k : ℕ) → p ≡ Biclique at a b → a ≡ j → b ≡ k → read_part xs p ≡ biclique (take j (drop at xs)) (take k (drop (at + a) xs))
as_biclique xs p at a b j k is e f =
    ap (read_part xs) is ∙ ap (λ i. biclique (take i (drop at xs)) (take b (drop (at + a) xs))) e ∙ ap (λ i. biclique (take j (drop at xs)) (take i (drop (at + a) xs))) f

-- ---- adding up what the parts take: the parts ps are still to be added to the total
pub record Adding (M : Meaning) (xs : List ℤ) (total : Size) (ps : List Placed) : Type 0 where
  pub clauses : total.clauses + over_parts (part_size M) (read_parts xs ps) ≡ over_parts (part_size M) (parts_of xs)
  pub auxiliaries : total.auxiliaries + over_parts (part_auxiliaries M) (read_parts xs ps) ≡ over_parts (part_auxiliaries M) (parts_of xs)
  pub inside : Inside xs ps
  pub sound : (n : ℕ) × ((P : Part ℤ) → In P (read_parts xs ps) → Sound n P)

module _ (M : Meaning) (xs : List ℤ) where
  pub adding_start : (ok : (n : ℕ) × Listed n M (parts_of xs)) → Adding M xs (record { clauses = 0; auxiliaries = 0 }) (parts_in xs)
  adding_start ok = record { clauses = omega arith; auxiliaries = omega arith; inside = inside_from xs (length xs) 0; sound = (ok.0, ok.1.sound) }

  module _ (total : Size) (p : Placed) (ps : List Placed) (w : Adding M xs total (p ∷ ps)) (ok : (n : ℕ) × Listed n M (parts_of xs)) where
    pub adding_moderate : length xs < 2 ^ 64 → Moderate p
    adding_moderate h = moderate_read w.sound.0 xs p w.inside.0 h (w.sound.1 (read_part xs p) (inl refl))

    module _ (s : Size) (told : s ≡ takes M p) where
      both : s ≡ record { clauses = part_size M (read_part xs p); auxiliaries = part_auxiliaries M (read_part xs p) }
      both = told ∙ takes_read M xs p w.inside.0

      pub adding_on : Adding M xs (record { clauses = total.clauses + s.clauses; auxiliaries = total.auxiliaries + s.auxiliaries }) ps
      adding_on = record {
        clauses = let a = w.clauses in omega (arith, ap (λ (z : Size). z.clauses) both);
        auxiliaries = let b = w.auxiliaries in omega (arith, ap (λ (z : Size). z.auxiliaries) both);
        inside = w.inside.1;
        sound = (w.sound.0, λ P i. w.sound.1 P (inr i));
      }

  pub adding_end : (total : Size) → Adding M xs total [] → total ≡ totals M (parts_of xs)
  adding_end total w =
      let a = w.clauses in
      let b = w.auxiliaries in
      let c : total.clauses ≡ over_parts (part_size M) (parts_of xs) = omega arith in
      let d : total.auxiliaries ≡ over_parts (part_auxiliaries M) (parts_of xs) = omega arith in
      ap₂ (λ k j. record { clauses = k; auxiliaries = j }) c d
