-- Which conflicts a list of calls makes accepted, told from the calls alone, and the law that just these stand.
use Rattle.std.specs.Prelude.{◌≡◌, ℕ, ◌⊎◌, ◌↔◌, List, ℤ, ◌≢◌}
use Rattle.logic.specs.Literal.{complement, Literal}
use Rattle.logic.specs.Clause.{In}
use Rattle.network_theory.specs.declared.Call.{Call}
use Rattle.network_theory.specs.declared.Call.TheVariants.{Add}
use Rattle.network_theory.specs.Layout.{Net, Conflict}
use Rattle.network_theory.specs.Calls.{opened, run}

-- the call meets none of its refusals
abbrev pub Undeclined : ℕ → Call → Type 0
Undeclined n (Add a b) = Literal n a × Literal n b × (a ≢ b) × (a ≢ complement b)

-- the call adds the conflict {a, b}, in either order
abbrev pub Adds : Call → ℤ → ℤ → Type 0
Adds (Add x y) a b = ((x ≡ a) × (y ≡ b)) ⊎ ((x ≡ b) × (y ≡ a))

-- the call makes {a, b} accepted
abbrev pub Accepts : ℕ → Call → ℤ → ℤ → Type 0
Accepts n call a b = Undeclined n call × Adds call a b

-- {a, b} is accepted: some call of the list made it so. Order and repetition do not matter
abbrev pub Accepted : ℕ → List Call → ℤ → ℤ → Type 0
Accepted n calls a b = (call : Call) × In call calls × Accepts n call a b

-- THE LAW: exactly the accepted conflicts stand
abbrev pub Exact : Net → List Call → Type 0
Exact net calls = (a b : ℤ) → Conflict net a b ↔ Accepted net.variables calls a b

-- by this call the conflicts grow by what it makes accepted, and by nothing else
abbrev pub Grows : Net → Call → Net → Type 0
Grows net call net' = (a b : ℤ) → Conflict net' a b ↔ (Conflict net a b ⊎ Accepts net.variables call a b)

-- the network came by these calls: it was opened on lent words, whatever they held, and then called in this order
pub record Came (net : Net) (calls : List Call) : Type 0 where
  pub asked : ℕ
  pub lent : List ℕ
  pub led : net ≡ run (opened asked lent) calls
