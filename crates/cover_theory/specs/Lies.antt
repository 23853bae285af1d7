-- How a cover lies in a list of numbers and in words; how many numbers and parts it has.
use Rattle.std.specs.Prelude.{ℕ, zero, suc, ◌+◌, ◌-◌, ◌*◌, ◌/◌, ◌%◌, Bool, cond, ◌&&◌, List, [], ◌∷◌, ◌++◌, map, length, replicate, ℤ, pos, neg_ℤ, nat_lt}
use Rattle.std.specs.List.{range_with_len}
use Rattle.network_theory.specs.Layout.{row_words, words_needed, stands}
use Rattle.cover_theory.specs.Parts.{Part, clique, biclique}
use Rattle.cover_theory.specs.Rule.{Rel}

-- minus k
abbrev pub minus : ℕ → ℤ
minus k = neg_ℤ (pos k)

-- the numbers of a part: a clique is its size and its members, a biclique -|A|, |B|, A, B
abbrev pub numbers_of : Part ℤ → List ℤ
numbers_of (clique ms) = pos (length ms) ∷ ms
numbers_of (biclique xs ys) = minus (length xs) ∷ pos (length ys) ∷ (xs ++ ys)

-- the parts one after the other
abbrev pub numbers : List (Part ℤ) → List ℤ
numbers [] = []
numbers (P ∷ Ps) = numbers_of P ++ numbers Ps

-- a list of `room` numbers that holds the parts, with zeros to its end
abbrev pub list_holding : List (Part ℤ) → ℕ → List ℤ
list_holding Ps room = numbers Ps ++ replicate (room - length (numbers Ps)) (pos 0)

-- the numbers of cliques and of bicliques
abbrev pub clique_count : List (Part ℤ) → ℕ
clique_count [] = 0
clique_count (clique ms ∷ Ps) = suc (clique_count Ps)
clique_count (biclique xs ys ∷ Ps) = clique_count Ps

abbrev pub biclique_count : List (Part ℤ) → ℕ
biclique_count [] = 0
biclique_count (clique ms ∷ Ps) = biclique_count Ps
biclique_count (biclique xs ys ∷ Ps) = suc (biclique_count Ps)

-- the conflicts of n variables that lie in words, in the layout of a network; none past the 2n literals
abbrev pub conflicts_in : ℕ → List ℕ → Rel
conflicts_in n ws u w = nat_lt u (2 * n) && (nat_lt w (2 * n) && stands n ws u w)

-- the number of k bits whose bit j is p j; bit 0 is the lowest
abbrev pub word : ℕ → (ℕ → Bool) → ℕ
word zero p = 0
word (suc k) p = cond (p 0) 1 0 + 2 * word k (λ j. p (suc j))

-- the needed words that hold a relation in the layout of a network: word i is word i % row_words n of the row i / row_words n
abbrev pub words_holding : ℕ → Rel → List ℕ
words_holding n rel = map (λ i. word 64 (λ j. rel (i / row_words n) (64 * (i % row_words n) + j))) (range_with_len 0 (words_needed n))
