-- A list that holds parts is read part by part.
use Rattle.std.proofs.Common.{◌≡◌, ℕ, zero, suc, ◌+◌, ◌<◌, ◌≤◌, leb, List, [], ◌∷◌, ◌++◌, length, get_or, drop, replicate, ℤ, pos, negsuc, is_some, Some, None, Option, sym, refl, ap, ◌∙◌, subst, ap₂, append_assoc, arith}
use Rattle.std.proofs.lemmas.List.{get_or-drop, length-drop, length-append, drop_at, drop-drop}
use Rattle.std.proofs.lemmas.Bool.{cond-true, cond_both, le-leb, leb-true, false≢true}
use Rattle.cover_theory.specs.Parts.{Part as PartOf, clique, biclique}
use Rattle.cover_theory.specs.Lies.{minus, numbers_of, numbers, clique_count, biclique_count}
use Rattle.cover_theory.specs.Rows.{Sized}
use Rattle.cover.specs.declared.Part.{Part}
use Rattle.cover.specs.declared.Part.TheVariants.{Clique, Biclique}
use Rattle.cover.specs.Walk.{end_of, within, part_from, part_at, placed, cliques_in, bicliques_in, followed, parts_from, parts_in, summed}

head_at : (list ns : List ℤ) (at k : ℕ) → drop at list ≡ ns → get_or list (at + k) (pos 0) ≡ get_or ns k (pos 0)
head_at list ns at k e = sym (get_or-drop at list k (pos 0)) ∙ ap (λ l. get_or l k (pos 0)) e

head_zero : (list ns : List ℤ) (at : ℕ) → drop at list ≡ ns → get_or list at (pos 0) ≡ get_or ns 0 (pos 0)
head_zero list ns at e = ap (λ k. get_or list k (pos 0)) (let q : at ≡ at + 0 = omega arith in q) ∙ head_at list ns at 0 e

none_zero : (z : ℕ) → get_or (replicate z (pos 0)) 0 (pos 0) ≡ pos 0
none_zero zero = refl
none_zero (suc z) = refl

-- where only zeros follow, no part begins
pub part_none : (list : List ℤ) (at z : ℕ) → drop at list ≡ replicate z (pos 0) → part_at list at ≡ None
part_none list at z e = ap (λ h. part_from (length list) at h (get_or list (at + 1) (pos 0))) (head_zero list (replicate z (pos 0)) at e ∙ none_zero z)

from_clique : (room at m : ℕ) (next : ℤ) → 0 < m → part_from room at (pos m) next ≡ within room (Clique (at + 1) m)
from_clique room at zero next h = absurd (omega arith)
from_clique room at (suc m) next h = refl

from_biclique : (room at x y : ℕ) → 0 < x → part_from room at (minus x) (pos y) ≡ within room (Biclique (at + 2) x y)
from_biclique room at zero y h = absurd (omega arith)
from_biclique room at (suc x) y h = refl

long : (list ns : List ℤ) (at n : ℕ) → drop at list ≡ ns → n ≤ length ns → 0 < n → at + n ≤ length list
long list ns at n e h p = omega (arith, length-drop at list, ap length e)

-- where a part's numbers stand, that part begins, and what follows it comes after
pub part_here : (list : List ℤ) (at : ℕ) (Q : PartOf ℤ) (rest : List ℤ) → Sized (Q ∷ []) → drop at list ≡ numbers_of Q ++ rest
    → (part_at list at ≡ Some (placed at Q)) × (drop (end_of (placed at Q)) list ≡ rest)
part_here list at (clique ms) rest s e =
    let len = length-append (pos (length ms) ∷ ms) rest in (
      ap (λ h. part_from (length list) at h (get_or list (at + 1) (pos 0))) (head_zero list _ at e) ∙ from_clique (length list) at (length ms) _ s.0
          ∙ cond-true (leb (at + 1 + length ms) (length list)) _ _ (le-leb _ _ (let l = long list _ at (1 + length ms) e (omega arith) (omega arith) in omega arith)),
      ap (λ n. drop n list) (let q : at + 1 + length ms ≡ at + (1 + length ms) = omega arith in q) ∙ sym (drop-drop (1 + length ms) at list) ∙ ap (drop (1 + length ms)) e
          ∙ drop_at (pos (length ms) ∷ ms) rest (1 + length ms) (omega arith),
    )
part_here list at (biclique xs ys) rest s e =
    let len = length-append (minus (length xs) ∷ pos (length ys) ∷ (xs ++ ys)) rest in
    let both = length-append xs ys in (
      ap₂ (λ h k. part_from (length list) at h k) (head_zero list _ at e) (head_at list _ at 1 e) ∙ from_biclique (length list) at (length xs) (length ys) s.0
          ∙ cond-true (leb (at + 2 + length xs + length ys) (length list)) _ _ (le-leb _ _ (let l = long list _ at (2 + length xs + length ys) e (omega arith) (omega arith) in omega arith)),
      ap (λ n. drop n list) (let q : at + 2 + length xs + length ys ≡ at + (2 + length xs + length ys) = omega arith in q) ∙ sym (drop-drop (2 + length xs + length ys) at list) ∙ ap (drop (2 + length xs + length ys)) e
          ∙ drop_at (minus (length xs) ∷ pos (length ys) ∷ (xs ++ ys)) rest (2 + length xs + length ys) (omega arith),
    )

-- a part that is read lies further on, and within the list
within_some : (room : ℕ) (P Q : Part) → within room P ≡ Some Q → (end_of P ≤ room) × (P ≡ Q)
within_some room P Q =
    cond_both (leb (end_of P) room) (Some P) None (λ o. o ≡ Some Q → (end_of P ≤ room) × (P ≡ Q))
    (λ e h. (leb-true (end_of P) room e, let p : P ≡ Q = cc in p)) (λ e h. absurd (false≢true (ap is_some h)))

ends : (room at : ℕ) (P : Part) (h k : ℤ) → part_from room at h k ≡ Some P → (at < end_of P) × (end_of P ≤ room)
ends room at P (pos zero) k e = absurd (false≢true (ap is_some e))
ends room at P (pos (suc m)) k e =
    let w = within_some room (Clique (at + 1) (suc m)) P e in
    subst (λ z. (at < end_of z) × (end_of z ≤ room)) w.1 (omega arith, w.0)
ends room at P (negsuc m) (negsuc k) e = absurd (false≢true (ap is_some e))
ends room at P (negsuc m) (pos y) e =
    let w = within_some room (Biclique (at + 2) (suc m) y) P e in
    subst (λ z. (at < end_of z) × (end_of z ≤ room)) w.1 (omega arith, w.0)

pub part_ends : (list : List ℤ) (at : ℕ) (P : Part) → part_at list at ≡ Some P → (at < end_of P) × (end_of P ≤ length list)
part_ends list at P e = ends (length list) at P (get_or list at (pos 0)) (get_or list (at + 1) (pos 0)) e

-- ---- all parts

none_from : (list : List ℤ) (at m : ℕ) → part_at list at ≡ None → parts_from list m at ≡ []
none_from list at zero e = refl
none_from list at (suc m) e = ap (λ x. followed x (λ R. parts_from list m (end_of R))) e

some_from : (list : List ℤ) (at m : ℕ) (P : Part) → part_at list at ≡ Some P → parts_from list (suc m) at ≡ P ∷ parts_from list m (end_of P)
some_from list at m P e = ap (λ x. followed x (λ R. parts_from list m (end_of R))) e

past_none : (list : List ℤ) (at : ℕ) → length list ≤ at → part_at list at ≡ None
past_none list at h = go (part_at list at) refl
  where
    go : (o : Option Part) → part_at list at ≡ o → part_at list at ≡ None
    go None e = e
    go (Some P) e = let p = part_ends list at P e in absurd (omega (arith, p.0, p.1))

-- however many more parts could be read
parts_same : (list : List ℤ) (m k at : ℕ) → length list ≤ at + m → length list ≤ at + k → parts_from list m at ≡ parts_from list k at
parts_same list zero k at p q = sym (none_from list at k (past_none list at (omega arith)))
parts_same list (suc m) zero at p q = none_from list at (suc m) (past_none list at (omega arith))
parts_same list (suc m) (suc k) at p q = go (part_at list at) refl (λ P h. parts_same list m k (end_of P) (omega arith) (omega arith))
  where
    go : (o : Option Part) → part_at list at ≡ o → ((P : Part) → at < end_of P → parts_from list m (end_of P) ≡ parts_from list k (end_of P)) → parts_from list (suc m) at ≡ parts_from list (suc k) at
    go None e more = none_from list at (suc m) e ∙ sym (none_from list at (suc k) e)
    go (Some P) e more = some_from list at m P e ∙ ap (λ l. P ∷ l) (more P (part_ends list at P e).0) ∙ sym (some_from list at k P e)

-- the part at a place is the first of those from there on
pub first_left : (list : List ℤ) (at at' : ℕ) (P : Part) → Some P ≡ part_at list at → at' ≡ end_of P → parts_from list (length list) at ≡ P ∷ parts_from list (length list) at'
first_left list at at' P e f =
    parts_same list (length list) (suc (length list)) at (omega arith) (omega arith) ∙ some_from list at (length list) P (sym e)
    ∙ ap (λ n. P ∷ parts_from list (length list) n) (sym f)

-- there are no more parts than numbers
pub parts_few : (list : List ℤ) (m at : ℕ) → length (parts_from list m at) ≤ m
parts_few list zero at = omega arith
parts_few list (suc m) at = go (part_at list at) refl (λ P. parts_few list m (end_of P))
  where
    go : (o : Option Part) → part_at list at ≡ o → ((P : Part) → length (parts_from list m (end_of P)) ≤ m) → length (parts_from list (suc m) at) ≤ suc m
    go None e more = omega (arith, ap length (none_from list at (suc m) e))
    go (Some P) e more = omega (arith, ap length (some_from list at m P e), more P)

sized_one : (Q : PartOf ℤ) (Qs : List (PartOf ℤ)) → Sized (Q ∷ Qs) → Sized (Q ∷ []) × Sized Qs
sized_one (clique ms) Qs s = ((s.0, tt), s.1)
sized_one (biclique xs ys) Qs s = ((s.0, tt), s.1)

counted : (at : ℕ) (Q : PartOf ℤ) (Qs : List (PartOf ℤ)) → (clique_count (Q ∷ Qs) ≡ cliques_in (placed at Q) + clique_count Qs) × (biclique_count (Q ∷ Qs) ≡ bicliques_in (placed at Q) + biclique_count Qs)
counted at (clique ms) Qs = (omega arith, omega arith)
counted at (biclique xs ys) Qs = (omega arith, omega arith)

-- where a list holds a cover's parts, as many cliques and bicliques are read as those
read_from : (list : List ℤ) (z m at : ℕ) (Ps : List (PartOf ℤ)) → length list ≤ at + m → Sized Ps → drop at list ≡ numbers Ps ++ replicate z (pos 0)
    → (summed cliques_in (parts_from list m at) ≡ clique_count Ps) × (summed bicliques_in (parts_from list m at) ≡ biclique_count Ps)
read_from list z m at [] h s e =
    let n = none_from list at m (part_none list at z e) in
    (ap (summed cliques_in) n, ap (summed bicliques_in) n)
read_from list z m at (Q ∷ Qs) h s e =
    let o = sized_one Q Qs s in
    let here = part_here list at Q (numbers Qs ++ replicate z (pos 0)) o.0 (e ∙ append_assoc (numbers_of Q) (numbers Qs) (replicate z (pos 0))) in
    let ends = part_ends list at (placed at Q) here.0 in
    let k = counted at Q Qs in
    let step = parts_same list m (suc m) at h (omega arith) ∙ some_from list at m (placed at Q) here.0 in
    let rest = read_from list z m (end_of (placed at Q)) Qs (omega (arith, ends.0)) o.1 here.1 in
    (omega (arith, ap (summed cliques_in) step, rest.0, k.0), omega (arith, ap (summed bicliques_in) step, rest.1, k.1))

pub parts_read : (list : List ℤ) (Ps : List (PartOf ℤ)) (z : ℕ) → Sized Ps → list ≡ numbers Ps ++ replicate z (pos 0)
    → (summed cliques_in (parts_in list) ≡ clique_count Ps) × (summed bicliques_in (parts_in list) ≡ biclique_count Ps)
parts_read list Ps z s e = read_from list z (length list) 0 Ps (omega arith) s e
