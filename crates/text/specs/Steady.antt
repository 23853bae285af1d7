-- The bounds that the reader keeps on what it remembers, so that its sums fit.
use Rattle.std.specs.Prelude.{ℕ, ◌<◌, ◌≤◌}
use Rattle.dimacs.specs.declared.Class.{Class}
use Rattle.dimacs.specs.declared.Class.TheVariants.{Space, OtherBlank, LineFeed, Minus, Digit, C, N, F, P, Other}
use Rattle.dimacs.specs.declared.Machine.{Machine}
use Rattle.dimacs.specs.declared.State.{State}
use Rattle.dimacs.specs.declared.State.TheVariants.{LineStart, Gap, Comment, Keyword, Variables, BeforeClauses, Clauses, Sign, Zero, Number}
use Rattle.dimacs.specs.Reading.{limit_of}

-- a digit is below ten
abbrev pub Decimal : Class → Type 0
Decimal Space = Unit {0}
Decimal OtherBlank = Unit {0}
Decimal LineFeed = Unit {0}
Decimal Minus = Unit {0}
Decimal (Digit d) = d < 10
Decimal C = Unit {0}
Decimal N = Unit {0}
Decimal F = Unit {0}
Decimal P = Unit {0}
Decimal Other = Unit {0}

-- the header's n and k, as far as a state holds them
abbrev pub variables_of : State → ℕ
variables_of LineStart = 0
variables_of Gap = 0
variables_of Comment = 0
variables_of (Keyword from matched) = 0
variables_of (Variables from value) = value
variables_of (BeforeClauses from variables) = variables
variables_of (Clauses from variables value) = variables
variables_of (Sign from) = 0
variables_of (Zero from) = 0
variables_of (Number from negative size) = 0

abbrev pub clauses_of : State → ℕ
clauses_of LineStart = 0
clauses_of Gap = 0
clauses_of Comment = 0
clauses_of (Keyword from matched) = 0
clauses_of (Variables from value) = 0
clauses_of (BeforeClauses from variables) = 0
clauses_of (Clauses from variables value) = value
clauses_of (Sign from) = 0
clauses_of (Zero from) = 0
clauses_of (Number from negative size) = 0

-- they are within a header's limits
abbrev pub Small : State → Type 0
Small s = (variables_of s < 1_000_000_000) × (clauses_of s ≤ 1_000_000)

pub record Steady (m : Machine) (room : ℕ) : Type 0 where
  pub small : Small m.state
  pub limited : limit_of m.header < 1_000_000_000
  pub within : m.listed ≤ room
  pub few : m.closed ≤ m.listed
