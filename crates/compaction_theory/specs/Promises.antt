-- What the program keeps, in the words of files.
use Rattle.std.specs.Prelude.{◌≡◌, ℕ, ◌+◌, ◌-◌, ◌≤◌, Bool, true, ◌⊎◌, ◌↔◌, List, [], ◌∷◌, length, ℤ, MatchResult, ◌≢◌}
use Rattle.logic.specs.Literal.{variable}
use Rattle.logic.specs.Clause.{Assignment, holds, In}
use Rattle.dimacs.specs.Clauses.{numbers}
use Rattle.dimacs.specs.File.{File}
use Rattle.dimacs.specs.Laws.{read_as}
use Rattle.dimacs.specs.Reading.{reading}
use Rattle.formula_theory.specs.Writing.{with_values}
use Rattle.compaction_theory.specs.declared.Scale.{Scale}
use Rattle.compaction_theory.specs.declared.Scale.TheVariants.{Large}
use Rattle.compaction_theory.specs.Sorted.{others_of}
use Rattle.compaction_theory.specs.Choices.{first_line, choice_of, most_bytes, most_variables, number_room}
use Rattle.compaction_theory.specs.Printed.{outcome, printed}

-- the text is a file of n variables with these clauses, within the limits of the program
pub record Fits (scale : Scale) (text : List ℕ) (n : ℕ) (clauses : List (List ℤ)) : Type 0 where
  pub file : File text n clauses
  pub short : length text ≤ most_bytes scale
  pub some : 1 ≤ n
  pub few : n ≤ most_variables scale
  pub room : length (numbers clauses) ≤ number_room scale (length text)

-- a large program has room for the numbers of every file: each is a word, and words are apart
abbrev pub LargeHasRoom : Type 0
LargeHasRoom = (text : List ℕ) (n : ℕ) (clauses : List (List ℤ)) → File text n clauses → length (numbers clauses) ≤ number_room Large (length text)

-- every clause, of whatever length, has a true literal
abbrev pub SatisfiesAll : Assignment → List (List ℤ) → Type 0
SatisfiesAll s clauses = (c : List ℤ) → In c clauses → (a : ℤ) × In a c × (holds s a ≡ true)

-- THE PRINTED FILE of a file of n variables with these clauses
pub record Compacts (n : ℕ) (clauses : List (List ℤ)) (output : List ℕ) : Type 0 where
  pub variables : ℕ
  pub printed_clauses : List (List ℤ)
  -- it is a file, with the variables of the input and further ones,
  pub file : File output variables printed_clauses
  pub further : n ≤ variables
  -- that our own reader reads as just these clauses, into every list with room for them;
  pub reads_back : (list : List ℤ) → length (numbers printed_clauses) ≤ length list
      → reading output list ≡ read_as variables (length printed_clauses) (numbers printed_clauses) list
  -- it has no more clauses than the input,
  pub never_more : length printed_clauses ≤ length clauses
  -- and an assignment satisfies the input's clauses exactly if some values of the further variables make it satisfy the printed ones
  pub models : (s : Assignment) → SatisfiesAll s clauses
      ↔ ((vs : List Bool) × (length vs ≡ variables - n) × SatisfiesAll (with_values s (n + 1) vs) printed_clauses)

-- what is printed for a text that is a file within the limits
abbrev pub CompactsFile : Scale → List ℕ → List ℕ → Type 0
CompactsFile scale text output = (n : ℕ) (clauses : List (List ℤ)) → Fits scale text n clauses → Compacts n clauses output

abbrev pub EveryFileCompacted : Type 0
EveryFileCompacted = (scale : Scale) (text : List ℕ) → CompactsFile scale text (printed (outcome scale text))

-- a compacted file is printed exactly for the texts that are files within the limits
abbrev pub Decided : Scale → List ℕ → Type 0
Decided scale text = MatchResult (outcome scale text)
    (λ output. (n : ℕ) × (clauses : List (List ℤ)) × Fits scale text n clauses)
    (λ f. (n : ℕ) (clauses : List (List ℤ)) → Fits scale text n clauses → ⊥)

abbrev pub EveryInputDecided : Type 0
EveryInputDecided = (scale : Scale) (text : List ℕ) → Decided scale text

-- the pair (x y), on different variables, is one of the clauses, in either order
abbrev pub HasPair : List (List ℤ) → ℤ → ℤ → Type 0
HasPair clauses x y = (variable x ≢ variable y) × (In (x ∷ y ∷ []) clauses ⊎ In (y ∷ x ∷ []) clauses)

-- TWO FILES THAT SAY THE SAME: first lines that pick the same encoder, as equal ones do; the same other clauses in the same order;
-- and the same pair clauses, in whatever order, however often, and either literal first
pub record SaySame (text text' : List ℕ) (clauses clauses' : List (List ℤ)) : Type 0 where
  pub encoder : choice_of (first_line text) ≡ choice_of (first_line text')
  pub others : others_of clauses ≡ others_of clauses'
  pub pairs : (x y : ℤ) → HasPair clauses x y ↔ HasPair clauses' x y

-- any file that says the same, within the limits, prints the same bytes
abbrev pub PrintsAlike : Scale → List ℕ → List ℕ → Type 0
PrintsAlike scale text output =
    (text' : List ℕ) (n : ℕ) (clauses clauses' : List (List ℤ)) → Fits scale text n clauses → Fits scale text' n clauses'
    → SaySame text text' clauses clauses' → output ≡ printed (outcome scale text')

abbrev pub SameFilesPrintAlike : Type 0
SameFilesPrintAlike = (scale : Scale) (text : List ℕ) → PrintsAlike scale text (printed (outcome scale text))
