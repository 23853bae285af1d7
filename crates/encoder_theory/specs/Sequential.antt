-- Sequential: the auxiliary at i says that a member up to i is true.
use Rattle.std.specs.Prelude.{ℕ, ◌-◌, ◌*◌, Bool, false, cond, List, [], ◌∷◌, ◌++◌, length, ℤ, Some, None, Option, nat_le, nat_lt}
use Rattle.logic.specs.Literal.{complement}
use Rattle.logic.specs.Clause.{Clause, against}
use Rattle.encoder_theory.specs.Each.{each, table}
use Rattle.encoder_theory.specs.Members.{member, auxiliary}
use Rattle.encoder_theory.specs.Meaning.{Meaning}

-- p is true only if q is
abbrev pub implies : ℤ → ℤ → Clause
implies p q = (complement p, q)

-- the three clauses of the member at i, between the first and the last
abbrev pub link : List ℤ → ℕ → ℕ → List Clause
link xs first i =
    implies (member xs i) (auxiliary first i)
    ∷ implies (auxiliary first (i - 1)) (auxiliary first i)
    ∷ against (member xs i) (auxiliary first (i - 1))
    ∷ []

-- the clauses over m members, two or more
abbrev pub sequence : List ℤ → ℕ → ℕ → List Clause
sequence xs first m =
    implies (member xs 0) (auxiliary first 0)
    ∷ (each 1 (m - 2) (link xs first) ++ (against (member xs (m - 1)) (auxiliary first (m - 2)) ∷ []))

-- there is a true member, and its place is i or before
abbrev pub reached : Option ℕ → ℕ → Bool
reached None i = false
reached (Some t) i = nat_le t i

-- nothing below two members: the differences stop at 0
abbrev pub sequential : Meaning
sequential = record {
  clauses = λ m. 3 * m - 4;
  auxiliaries = λ m. m - 1;
  list = λ xs first. cond (nat_lt (length xs) 2) [] (sequence xs first (length xs));
  values = λ m t. table (m - 1) (reached t);
}
