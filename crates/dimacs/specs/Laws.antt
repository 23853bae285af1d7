-- What reading and writing keep, in the words of files.
use Rattle.std.specs.Prelude.{◌≡◌, ℕ, ◌≤◌, List, ◌++◌, length, drop, ℤ, None, Ok, Result, MatchResult}
use Rattle.fault.specs.declared.Fault.{Fault}
use Rattle.dimacs.specs.declared.Summary.{Summary}
use Rattle.dimacs.specs.Clauses.{numbers, closings}
use Rattle.dimacs.specs.File.{File}
use Rattle.dimacs.specs.Reading.{Reading, reading}
use Rattle.dimacs.specs.Written.{text_of, write_refusal}

-- the text is a file, the list has room for it, and the answer and the list are what it holds; the rest of the list stays
pub record Holds (text : List ℕ) (before : List ℤ) (s : Summary) (after : List ℤ) : Type 0 where
  pub clauses : List (List ℤ)
  pub file : File text s.variables clauses
  pub counts : s.clauses ≡ length clauses
  pub lists : s.numbers ≡ length (numbers clauses)
  pub room : s.numbers ≤ length before
  pub leaves : after ≡ numbers clauses ++ drop s.numbers before

-- the text is no file for which the list has room
abbrev pub NoFile : List ℕ → List ℤ → Type 0
NoFile text list = (n : ℕ) (clauses : List (List ℤ)) → File text n clauses → length (numbers clauses) ≤ length list → ⊥

-- a text is accepted exactly if it is a file and the list has room for it, and then it is read as what it holds
abbrev pub AcceptsFiles : List ℕ → List ℤ → Result Summary Fault → List ℤ → Type 0
AcceptsFiles text before answer after = MatchResult answer (λ s. Holds text before s after) (λ f. NoFile text before)

-- a text is a file in one way at most
abbrev pub OneFile : List ℕ → Type 0
OneFile text = (n m : ℕ) (cs ds : List (List ℤ)) → File text n cs → File text m ds → (n ≡ m) × (cs ≡ ds)

-- what the reader makes of n and these numbers, into a list
abbrev pub read_as : ℕ → ℕ → List ℤ → List ℤ → Reading
read_as n k zs list = record { answer = Ok (record { variables = n; clauses = k; numbers = length zs }); list = zs ++ drop (length zs) list }

-- whatever the writer accepts reads back as the same n and the same numbers, into every list with room for them
abbrev pub ReadsBack : ℕ → List ℤ → List ℕ → Type 0
ReadsBack n zs text = (list : List ℤ) → length zs ≤ length list → reading text list ≡ read_as n (closings zs) zs list

abbrev pub EveryTextDecided : Type 0
EveryTextDecided = (text : List ℕ) (list : List ℤ) → AcceptsFiles text list (reading text list).answer (reading text list).list

abbrev pub EveryWritingReadsBack : Type 0
EveryWritingReadsBack = (n : ℕ) (zs : List ℤ) (room : ℕ) → write_refusal n zs room ≡ None → ReadsBack n zs (text_of n zs)
