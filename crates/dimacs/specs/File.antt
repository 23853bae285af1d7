-- Well-formed files, by lines and words.
use Rattle.std.specs.Prelude.{◌≡◌, ℕ, ◌<◌, ◌≤◌, Bool, false, cond, List, [], ◌∷◌, ◌++◌, map, length, ℤ, codes, decimal, ◌==◌}
use Rattle.std.specs.Fmt.{signed_decimal}
use Rattle.dimacs.specs.Bytes.{is_feed, is_blank}
use Rattle.dimacs.specs.Clauses.{numbers, ClausesOf}

-- the pieces between the bytes that a test picks; n such bytes leave n + 1 pieces, some perhaps empty
abbrev pub onto : ℕ → List (List ℕ) → List (List ℕ)
onto b [] = (b ∷ []) ∷ []
onto b (w ∷ ws) = (b ∷ w) ∷ ws

abbrev pub split : (ℕ → Bool) → List ℕ → List (List ℕ)
split p [] = [] ∷ []
split p (b ∷ bs) = cond (p b) ([] ∷ split p bs) (onto b (split p bs))

abbrev pub nonempty : List (List ℕ) → List (List ℕ)
nonempty [] = []
nonempty ([] ∷ ws) = nonempty ws
nonempty ((b ∷ w) ∷ ws) = (b ∷ w) ∷ nonempty ws

-- a text's lines, apart by line feeds
abbrev pub lines : List ℕ → List (List ℕ)
lines text = split is_feed text

-- a line's words, apart by blanks
abbrev pub words : List ℕ → List (List ℕ)
words line = nonempty (split is_blank line)

-- a line whose first character is `c` is a comment
abbrev pub is_comment : List ℕ → Bool
is_comment [] = false
is_comment (b ∷ bs) = b == 99

-- the words of all lines that are no comments
abbrev pub words_outside : List (List ℕ) → List (List ℕ)
words_outside [] = []
words_outside (l ∷ ls) = cond (is_comment l) [] (words l) ++ words_outside ls

-- the line `p cnf n k`
abbrev pub header_line : ℕ → ℕ → List ℕ
header_line n k = codes "p cnf " ++ (decimal n ++ (codes " " ++ decimal k))

-- The text is a file of n variables with these clauses: a header line, closed by a line feed; before it nothing but
-- comments and blanks; after it, comments apart, words that are the clauses' literals in order, each clause closed by 0.
-- A number is written in decimal, with a minus if it is negative, and is not led by 0 unless it is 0.
pub record File (text : List ℕ) (n : ℕ) (clauses : List (List ℤ)) : Type 0 where
  pub before : List (List ℕ)
  pub body : List (List ℕ)
  pub lined : lines text ≡ before ++ header_line n (length clauses) ∷ body
  pub header_first : words_outside before ≡ []
  pub header_ends : 0 < length body
  pub worded : words_outside body ≡ map signed_decimal (numbers clauses)
  pub few_variables : n < 1_000_000_000
  pub few_clauses : length clauses ≤ 1_000_000
  pub literals : ClausesOf n clauses
