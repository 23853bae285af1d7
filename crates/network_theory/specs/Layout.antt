-- How conflicts lie in 64-bit words: a square of bits with a row and a column for each literal, by index.
use Rattle.std.specs.Prelude.{◌≡◌, ℕ, ◌+◌, ◌*◌, ◌/◌, ◌%◌, ◌^◌, ◌<◌, ◌≤◌, Bool, true, false, List, ◌++◌, drop, replicate, ℤ, ◌==◌, ◌≢◌, bit_or, slice_index, slice_set}
use Rattle.logic.specs.Literal.{variable, Literal, index}

-- the words of a row: 2n ÷ 64, rounded up
abbrev pub row_words : ℕ → ℕ
row_words n = (2 * n + 63) / 64

-- the words that a network of n variables needs: a row for each of its 2n literals
abbrev pub words_needed : ℕ → ℕ
words_needed n = 2 * n * row_words n

-- bit k of the number x is 1; bit 0 is the lowest
abbrev pub bit : ℕ → ℕ → Bool
bit x k = x / 2 ^ k % 2 == 1

-- the word in which row u has its column w
abbrev pub word_at : ℕ → ℕ → ℕ → ℕ
word_at n u w = u * row_words n + w / 64

-- the conflict of the indices u and w stands in these words
abbrev pub stands : ℕ → List ℕ → ℕ → ℕ → Bool
stands n ws u w = bit (slice_index ws (word_at n u w)) (w % 64)

-- the words with the bit of row u and column w set
abbrev pub with_bit : ℕ → List ℕ → ℕ → ℕ → List ℕ
with_bit n ws u w = slice_set ws (word_at n u w) (bit_or (slice_index ws (word_at n u w)) (2 ^ (w % 64)))

-- the words with the conflict of the indices u and w put in, both ways
abbrev pub with_conflict : ℕ → List ℕ → ℕ → ℕ → List ℕ
with_conflict n ws u w = with_bit n (with_bit n ws u w) w u

-- the needed words zero, the others as they were
abbrev pub cleared : ℕ → List ℕ → List ℕ
cleared n ws = replicate (words_needed n) 0 ++ drop (words_needed n) ws

-- a network: its number of variables, and all the words lent to it, of which it lies in the first
pub record Net : Type 0 where
  pub variables : ℕ
  pub words : List ℕ

-- the literals a and b are in conflict
abbrev pub Conflict : Net → ℤ → ℤ → Type 0
Conflict net a b = Literal net.variables a × Literal net.variables b × (stands net.variables net.words (index a) (index b) ≡ true)

-- the words past the needed ones
abbrev pub beyond : Net → List ℕ
beyond net = drop (words_needed net.variables) net.words

-- What is true of every network:
-- conflicts stand both ways,
abbrev pub Mutual : Net → Type 0
Mutual net = (a b : ℤ) → Conflict net a b → stands net.variables net.words (index b) (index a) ≡ true

-- none joins two literals of one variable, so none a literal to itself or to its complement,
abbrev pub Apart : Net → Type 0
Apart net = (a b : ℤ) → Conflict net a b → variable a ≢ variable b

-- and the bits that a row has past its 2n columns are 0
abbrev pub Trimmed : Net → Type 0
Trimmed net = (u w : ℕ) → (u < 2 * net.variables) × (2 * net.variables ≤ w) × (w < 64 * row_words net.variables) → stands net.variables net.words u w ≡ false
