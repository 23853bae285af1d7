-- What the code of the cover keeps true of its words: rows of R words, and masks as long as a row.
use Rattle.std.specs.Prelude.{◌≡◌, ℕ, ◌+◌, ◌*◌, ◌/◌, ◌%◌, ◌<◌, ◌≤◌, Bool, true, false, ◌&&◌, List, [], ◌∷◌, ◌++◌, map, length, take, drop, ℤ, pos, nat_le, nat_lt, slice_index}
use Rattle.logic.specs.Literal.{literal}
use Rattle.network_theory.specs.Layout.{bit}
use Rattle.cover_theory.specs.Parts.{Part, clique, biclique}
use Rattle.cover_theory.specs.Rule.{Rel, clashes, Side, Sides, count, those, shared, everyone, widen}
use Rattle.cover_theory.specs.Lies.{minus}

-- the literal j is in the mask
abbrev pub marked : List ℕ → ℕ → Bool
marked mask j = bit (slice_index mask (j / 64)) (j % 64)

-- the conflict of u and w stands, in rows of R words
abbrev pub stands_at : List ℕ → ℕ → ℕ → ℕ → Bool
stands_at ws R u w = bit (slice_index ws (u * R + w / 64)) (w % 64)

-- the conflicts of N literals that lie in the words; none past N
abbrev pub conflicts : ℕ → ℕ → List ℕ → Rel
conflicts N R ws u w = nat_lt u N && (nat_lt w N && stands_at ws R u w)

-- the bits of a row past N are 0
abbrev pub Tidy : ℕ → ℕ → List ℕ → Type 0
Tidy N R ws = (u w : ℕ) → u < N → N ≤ w → w < 64 * R → stands_at ws R u w ≡ false

-- no literal conflicts with itself
abbrev pub Loose : ℕ → ℕ → List ℕ → Type 0
Loose N R ws = (u : ℕ) → u < N → stands_at ws R u u ≡ false

-- the words hold the conflicts of N literals
pub record Fit (N R : ℕ) (ws : List ℕ) : Type 0 where
  pub tidy : Tidy N R ws
  pub loose : Loose N R ws
  pub small : N ≤ 64 * R
  pub few : R ≤ 128
  pub room : N * R ≤ length ws

-- the side that lies in a mask
abbrev pub held : ℕ → List ℕ → Side
held N mask j = nat_lt j N && marked mask j

-- no bit of the mask past N
abbrev pub Neat : ℕ → ℕ → List ℕ → Type 0
Neat N R mask = (j : ℕ) → N ≤ j → j < 64 * R → marked mask j ≡ false

-- the sides a and b, in masks, grew to c and d
abbrev pub Widens : ℕ → Rel → List ℕ → List ℕ → List ℕ → List ℕ → Type 0
Widens N rel a b c d = ◌≡◌ {A = Sides} (held N c, held N d) (widen N rel N (held N a, held N b))

-- each literal's number of conflicts
abbrev pub Degrees : ℕ → Rel → List ℕ → Type 0
Degrees N rel ds = (u : ℕ) → u < N → slice_index ds u ≡ count (shared rel (everyone N) u) N 0

-- the masks a and b hold these sides, and no bit past N
pub record SidesIn (N R : ℕ) (a b : List ℕ) (s : Sides) : Type 0 where
  pub left_neat : Neat N R a
  pub right_neat : Neat N R b
  pub sides : ◌≡◌ {A = Sides} (held N a, held N b) s

-- the part of two sides that lie in masks
abbrev pub sides_part : ℕ → List ℕ → List ℕ → Part ℕ
sides_part N a b = biclique (those (held N a) N 0) (those (held N b) N 0)

-- no bit is set from the word `from` up to the bit `to`
abbrev pub Bare : List ℕ → ℕ → ℕ → Type 0
Bare mask from to = (j : ℕ) → 64 * from ≤ j → j < to → marked mask j ≡ false

-- c is the lowest bit that is set in the words from..to
pub record Lowest (mask : List ℕ) (from to c : ℕ) : Type 0 where
  pub low : 64 * from ≤ c
  pub high : c < 64 * to
  pub here : marked mask c ≡ true
  pub before : Bare mask from c

-- the mask, from the word of `from` on, has those from `from` on that conflict with all of ms
abbrev pub Masks : Rel → ℕ → List ℕ → ℕ → List ℕ → Type 0
Masks rel R mask from ms = (j : ℕ) → 64 * (from / 64) ≤ j → j < 64 * R → marked mask j ≡ (nat_le from j && clashes rel ms j)

-- the first literal from `from` on that conflicts with u
pub record First (ws : List ℕ) (R u from w : ℕ) : Type 0 where
  pub low : from ≤ w
  pub high : w < 64 * R
  pub here : stands_at ws R u w ≡ true
  pub before : (j : ℕ) → from ≤ j → j < w → stands_at ws R u j ≡ false

-- the numbers of a part, from the indices of its members
abbrev pub listed : Part ℕ → List ℤ
listed (clique ms) = pos (length ms) ∷ map literal ms
listed (biclique xs ys) = minus (length xs) ∷ pos (length ys) ∷ (map literal xs ++ map literal ys)

-- the rule's state with the list's numbers in place of the parts
abbrev pub Flat : Type 0
Flat = Rel × List ℤ

abbrev pub told : List ℤ → Part ℕ → List ℤ
told xs P = xs ++ listed P

-- the words ws and the list xs, used up to `at`, became vs and ys, used up to `to`, and stand for s
pub record Went (N R : ℕ) (ws vs : List ℕ) (xs ys : List ℤ) (at to : ℕ) (s : Flat) : Type 0 where
  pub fit : Fit N R vs
  pub rest : (i : ℕ) → N * R ≤ i → slice_index vs i ≡ slice_index ws i
  pub state : ◌≡◌ {A = Flat} (conflicts N R vs, take to ys) s
  pub tail : drop to ys ≡ drop to xs
  pub low : at ≤ to
  pub high : to ≤ length xs

-- no clique and no first side is empty
abbrev pub Sized : List (Part ℤ) → Type 0
Sized [] = Unit {0}
Sized (clique ms ∷ Ps) = (0 < length ms) × Sized Ps
Sized (biclique xs ys ∷ Ps) = (0 < length xs) × Sized Ps
