-- THE RULE that covers conflicts: cliques first, then bicliques.
-- Literals go by their index here, from 0 to N - 1, and a relation tells which of them are in conflict.
use Rattle.std.specs.Prelude.{◌≡◌, ℕ, zero, suc, ◌+◌, ◌-◌, ◌*◌, Bool, true, false, cond, not, ◌&&◌, ◌||◌, List, [], ◌∷◌, ◌++◌, map, length, ℤ, ◌==◌, ◌≢◌, nat_le, nat_lt}
use Rattle.logic.specs.Literal.{literal}
use Rattle.cover_theory.specs.Parts.{Part, clique, biclique, Cover}

-- which pairs are in conflict; here mostly: which conflicts remain
abbrev pub Rel : Type 0
Rel = ℕ → ℕ → Bool

-- ---- cliques

-- a clique has at most so many members, and becomes a part if it has at least so many
abbrev pub most_members : ℕ
most_members = 256

abbrev pub fewest_members : ℕ
fewest_members = 6

-- c is one of ms
abbrev pub among : List ℕ → ℕ → Bool
among [] c = false
among (m ∷ ms) c = m == c || among ms c

-- the conflicts of c with all of ms remain
abbrev pub clashes : Rel → List ℕ → ℕ → Bool
clashes rel [] c = true
clashes rel (m ∷ ms) c = rel m c && clashes rel ms c

-- c joins the clique ms
abbrev pub joins : Rel → List ℕ → ℕ → Bool
joins rel ms c = clashes rel ms c && nat_lt (length ms) most_members

-- the clique ms after the k literals from c on are tried, in order
abbrev pub grow : Rel → List ℕ → ℕ → ℕ → List ℕ
grow rel ms zero c = ms
grow rel ms (suc k) c = grow rel (cond (joins rel ms c) (ms ++ c ∷ []) ms) k (suc c)

-- the clique that grows from u and w: each literal after w is tried
abbrev pub grown : ℕ → Rel → ℕ → ℕ → List ℕ
grown N rel u w = grow rel (u ∷ w ∷ []) (N - suc w) (suc w)

-- what remains once the conflicts within ms no longer do
abbrev pub without : Rel → List ℕ → Rel
without rel ms u w = rel u w && not (among ms u && among ms w)

-- The rule goes on from (what remains, what the parts so far made), where `add x P` is x with one more part P:
-- x is the list of the parts, or the numbers that stand for them.

-- a clique of six or more becomes a part; a smaller one is dropped
abbrev pub taken : {X : Type 0} → (X → Part ℕ → X) → Rel → List ℕ → X → Rel × X
taken add rel ms x = cond (nat_le fewest_members (length ms)) (without rel ms, add x (clique ms)) (rel, x)

-- the pair u, w is visited: if it remains, its clique is grown
abbrev pub visit : {X : Type 0} → (X → Part ℕ → X) → ℕ → Rel × X → ℕ → ℕ → Rel × X
visit add N s u w = cond (s.0 u w) (taken add s.0 (grown N s.0 u w) s.1) s

-- the pairs of u with the k literals from w on
abbrev pub visits : {X : Type 0} → (X → Part ℕ → X) → ℕ → Rel × X → ℕ → ℕ → ℕ → Rel × X
visits add N s u zero w = s
visits add N s u (suc k) w = visits add N (visit add N s u w) u k (suc w)

-- the pairs of the k literals from u on, each with all after it: rising u, then rising w
abbrev pub sweep : {X : Type 0} → (X → Part ℕ → X) → ℕ → Rel × X → ℕ → ℕ → Rel × X
sweep add N s zero u = s
sweep add N s (suc k) u = sweep add N (visits add N s u (N - suc u) (suc u)) k (suc u)

-- ---- bicliques: a side tells which literals are in it

abbrev pub Side : Type 0
Side = ℕ → Bool

-- the sides A and B
abbrev pub Sides : Type 0
Sides = Side × Side

-- how many of the k literals from c on are in the side, and which, in order
abbrev pub count : Side → ℕ → ℕ → ℕ
count p zero c = 0
count p (suc k) c = cond (p c) 1 0 + count p k (suc c)

abbrev pub those : Side → ℕ → ℕ → List ℕ
those p zero c = []
those p (suc k) c = cond (p c) (c ∷ those p k (suc c)) (those p k (suc c))

-- the first of the k literals from c on with the largest score, or b if none of them scores more than b
abbrev pub first_best : (ℕ → ℕ) → ℕ → ℕ → ℕ → ℕ
first_best score zero c b = b
first_best score (suc k) c b = first_best score k (suc c) (cond (nat_lt (score b) (score c)) c b)

-- those of B that conflict with c
abbrev pub shared : Rel → Side → ℕ → Side
shared rel b c j = b j && rel c j

-- a literal outside A scores its remaining conflicts into B, and one more; those in A score 0
abbrev pub score : ℕ → Rel → Side → Side → ℕ → ℕ
score N rel a b c = cond (a c) 0 (suc (count (shared rel b c) N 0))

-- the literal outside A with most remaining conflicts into B, the lowest at ties
abbrev pub chosen : ℕ → Rel → Side → Side → ℕ
chosen N rel a b = first_best (score N rel a b) N 0 0

-- the gain of x literals against y is x * y - x - y, a signed number: that of x' against y' is larger
abbrev pub better : ℕ → ℕ → ℕ → ℕ → Bool
better x y x' y' = nat_lt (x * y + x' + y') (x' * y' + x + y)

-- A with c
abbrev pub joined_by : ℕ → Side → ℕ → Side
joined_by N a c j = nat_lt j N && (a j || c == j)

-- c joins A, and B shrinks to those that it conflicts with, if that makes the gain larger; `more` goes on from there
abbrev pub widened : ℕ → Rel → (Sides → Sides) → Sides → ℕ → Sides
widened N rel more s c =
    cond (better (count s.0 N 0) (count s.1 N 0) (suc (count s.0 N 0)) (count (shared rel s.1 c) N 0))
    (more (joined_by N s.0 c, shared rel s.1 c)) s

-- the sides grow until the gain would not; k literals at most join
abbrev pub widen : ℕ → Rel → ℕ → Sides → Sides
widen N rel zero s = s
widen N rel (suc k) s = widened N rel (widen N rel k) s (chosen N rel s.0 s.1)

-- the sides have stopped growing: the literal that would join A next does not make the gain larger
abbrev pub Settled : ℕ → Rel → Sides → Type 0
Settled N rel s = better (count s.0 N 0) (count s.1 N 0) (suc (count s.0 N 0)) (count (shared rel s.1 (chosen N rel s.0 s.1)) N 0) ≡ false

abbrev pub nobody : Side
nobody j = false

abbrev pub everyone : ℕ → Side
everyone N j = nat_lt j N

-- A is c alone, and B all that c still conflicts with
abbrev pub started_by : ℕ → Rel → ℕ → Sides
started_by N rel c = (joined_by N nobody c, shared rel (everyone N) c)

-- the sides grown from the literal with most remaining conflicts, the lowest at ties
abbrev pub grown_sides : ℕ → Rel → Sides
grown_sides N rel = widen N rel N (started_by N rel (chosen N rel nobody (everyone N)))

-- every growth ends by the rule and not by its bound of N steps, if no literal conflicts with itself
abbrev pub GrowthSettles : Type 0
GrowthSettles = (N : ℕ) (rel : Rel) → ((u : ℕ) → rel u u ≢ true) → Settled N rel (grown_sides N rel)

-- what remains once the conflicts between the sides no longer do
abbrev pub without_sides : Rel → Sides → Rel
without_sides rel s u w = rel u w && not ((s.0 u && s.1 w) || (s.1 u && s.0 w))

-- the gain of the sides is above 0
abbrev pub gains : ℕ → Sides → Bool
gains N s = nat_lt (count s.0 N 0 + count s.1 N 0) (count s.0 N 0 * count s.1 N 0)

-- the sides become a part if their gain is above 0, and `more` goes on from there; otherwise bicliques end
abbrev pub paired : {X : Type 0} → (X → Part ℕ → X) → ℕ → (Rel × X → Rel × X) → Rel × X → Sides → Rel × X
paired add N more s p = cond (gains N p) (more (without_sides s.0 p, add s.1 (biclique (those p.0 N 0) (those p.1 N 0)))) s

-- at most k bicliques, one after the other
abbrev pub bicliques : {X : Type 0} → (X → Part ℕ → X) → ℕ → ℕ → Rel × X → Rel × X
bicliques add N zero s = s
bicliques add N (suc k) s = paired add N (bicliques add N k) s (grown_sides N s.0)

-- the bicliques have ended: the sides grown from the fullest literal have no gain
abbrev pub Ended : ℕ → Rel → Type 0
Ended N rel = gains N (grown_sides N rel) ≡ false

-- ---- the cover

-- cliques, then bicliques; there are at most N * N, since each takes a conflict away
abbrev pub ruled : {X : Type 0} → (X → Part ℕ → X) → ℕ → Rel × X → Rel × X
ruled add N s = bicliques add N (N * N) (sweep add N s N 0)

abbrev pub also : List (Part ℕ) → Part ℕ → List (Part ℕ)
also Ps P = Ps ++ P ∷ []

-- what the rule makes of a relation on N literals: what remains, and the parts
abbrev pub covering : ℕ → Rel → Rel × List (Part ℕ)
covering N rel = ruled also N (rel, [])

-- the pairs u < w of a relation, by u and then by w; those of the k literals from u on
abbrev pub pairs_from : ℕ → Rel → ℕ → ℕ → List (ℤ × ℤ)
pairs_from N rel zero u = []
pairs_from N rel (suc k) u = map (λ w. (literal u, literal w)) (those (rel u) (N - suc u) (suc u)) ++ pairs_from N rel k (suc u)

-- a part of literals instead of their indices
abbrev pub of_literals : Part ℕ → Part ℤ
of_literals (clique ms) = clique (map literal ms)
of_literals (biclique xs ys) = biclique (map literal xs) (map literal ys)

-- THE COVER of the conflicts `rel` of n variables: 2n literals
abbrev pub cover_of : ℕ → Rel → Cover
cover_of n rel = record {
  parts = map of_literals (covering (2 * n) rel).1;
  remaining = pairs_from (2 * n) (covering (2 * n) rel).0 (2 * n) 0;
}
