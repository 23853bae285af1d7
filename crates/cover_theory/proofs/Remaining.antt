-- How many conflicts remain.
use Rattle.std.proofs.Common.{◌≡◌, ℕ, zero, suc, ◌+◌, ◌-◌, ◌*◌, ◌^◌, ◌<◌, ◌≤◌, Bool, ◌&&◌, leb, List, [], ◌∷◌, map, length, get_or, ℤ, sym, refl, ap, ◌∙◌, inl, inr, zero-mul, add-one, arith}
use lib.Count.{ones}
use Rattle.std.proofs.lemmas.List.{length-append, length-map}
use Rattle.std.proofs.lemmas.Bool.{le-leb, lt-leb, and_left, and_right}
use Rattle.logic.specs.Literal.{literal}
use Rattle.logic.specs.Clause.{In}
use Rattle.network_theory.specs.Layout.{bit}
use Rattle.cover_theory.specs.Parts.{Part, clique, biclique, Sound}
use Rattle.cover_theory.specs.Rule.{Rel, count, those, pairs_from}
use Rattle.cover_theory.specs.Rows.{stands_at, conflicts, Fit, Sized}
use Rattle.cover_theory.proofs.Counts.{count_cut, count_split, count_as, word_more}
use Rattle.cover_theory.proofs.Degrees.{degree_word}
use Rattle.cover_theory.proofs.Grows.{agree}
use Rattle.cover_theory.proofs.Members.{length_those}

-- the conflicts of u from `from` on, over all bits of its row
abbrev pub from_on : List ℕ → ℕ → ℕ → ℕ → ℕ → Bool
from_on ws R u from j = leb from j && stands_at ws R u j

pub none_below : (ws : List ℕ) (R u from i : ℕ) → 64 * i ≤ from → count (from_on ws R u from) (64 * i) 0 ≡ 0
none_below ws R u from i h = count_cut (from_on ws R u from) 0 (64 * i) (omega arith) (λ j a b. and_left (leb from j) _ (lt-leb from j (omega arith)))

pub word_on : (ws : List ℕ) (R u from i y : ℕ) → y < 2 ^ 64
    → ((t : ℕ) → t < 64 → bit y t ≡ (leb from (64 * i + t) && bit (get_or ws (u * R + i) 0) t))
    → count (from_on ws R u from) (64 * (i + 1)) 0 ≡ count (from_on ws R u from) (64 * i) 0 + ones y
word_on ws R u from i y fits h =
    word_more (from_on ws R u from) i y fits (λ t l. ap (λ b. leb from (64 * i + t) && b) (degree_word ws R u i t l) ∙ sym (h t l))

pub rest_is : (N R : ℕ) (ws : List ℕ) (u : ℕ) → Fit N R ws → u < N → count (from_on ws R u (u + 1)) (64 * R) 0 ≡ count (conflicts N R ws u) (N - (u + 1)) (u + 1)
rest_is N R ws u fit hu =
    let small = fit.small in
    let q = from_on ws R u (u + 1) in
    let z = count_cut q 0 (u + 1) (omega arith) (λ j a b. and_left (leb (u + 1) j) _ (lt-leb (u + 1) j (omega arith))) in
    let s : count q (u + 1 + (N - (u + 1))) 0 ≡ count q (u + 1) 0 + count q (N - (u + 1)) (0 + (u + 1)) = count_split q (u + 1) (N - (u + 1)) 0 in
    let t : count q (N - (u + 1)) (0 + (u + 1)) ≡ count (conflicts N R ws u) (N - (u + 1)) (u + 1) =
    count_as q (conflicts N R ws u) (N - (u + 1)) (0 + (u + 1)) (u + 1)
    (λ k l. ap q (let e : 0 + (u + 1) + k ≡ u + 1 + k = omega arith in e) ∙ ap (λ b. b && stands_at ws R u (u + 1 + k)) (le-leb (u + 1) (u + 1 + k) (omega arith))
    ∙ agree N R ws fit.tidy fit.small u (u + 1 + k) hu (omega arith)) in
    count_cut q N (64 * R) fit.small (λ j a b. and_right (leb (u + 1) j) _ (fit.tidy u j hu a b))
    ∙ ap (λ n. count q n 0) (let e : N ≡ u + 1 + (N - (u + 1)) = omega arith in e) ∙ s ∙ omega arith

-- the pairs of one more row
pub pairs_more : (N : ℕ) (r : Rel) (u : ℕ) → u < N → length (pairs_from N r (N - u) u) ≡ count (r u) (N - (u + 1)) (u + 1) + length (pairs_from N r (N - (u + 1)) (u + 1))
pairs_more N r u h =
    ap (λ k. length (pairs_from N r k u)) (let e : N - u ≡ suc (N - (u + 1)) = omega arith in e)
    ∙ length-append (map (λ w. (literal u, literal w)) (those (r u) (N - suc u) (suc u))) (pairs_from N r (N - (u + 1)) (suc u))
    ∙ ap (λ n. n + length (pairs_from N r (N - (u + 1)) (suc u))) (length-map (those (r u) (N - suc u) (suc u)) (λ w. (literal u, literal w)) ∙ length_those (r u) (N - suc u) (suc u))
    ∙ ap (λ n. count (r u) (N - n) n + length (pairs_from N r (N - (u + 1)) n)) (sym (add-one u))

pub pairs_start : (N : ℕ) (r : Rel) → length (pairs_from N r (N - 0) 0) ≡ length (pairs_from N r N 0)
pairs_start N r = ap (λ k. length (pairs_from N r k 0)) (let e : N - 0 ≡ N = omega arith in e)

pub pairs_over : (N : ℕ) (r : Rel) (u : ℕ) → N ≤ u → length (pairs_from N r (N - u) u) ≡ 0
pairs_over N r u h = ap (λ k. length (pairs_from N r k u)) (let e : N - u ≡ 0 = omega arith in e)

-- sound parts are not empty
pub sized : (n : ℕ) (Ps : List (Part ℤ)) → ((P : Part ℤ) → In P Ps → Sound n P) → Sized Ps
sized n [] h = tt
sized n (clique ms ∷ Ps) h = let s = h (clique ms) (inl refl) in (omega (arith, s.2), sized n Ps (λ P i. h P (inr i)))
sized n (biclique xs ys ∷ Ps) h =
    let s = h (biclique xs ys) (inl refl) in (above (length xs) (length ys) s.5, sized n Ps (λ P i. h P (inr i)))
  where
    above : (x y : ℕ) → x + y < x * y → 0 < x
    above zero y l = absurd (let z = zero-mul y in omega arith)
    above (suc x) y l = omega arith
