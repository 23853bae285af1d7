-- Literals of 32 bits, as the code computes them.
use Rattle.std.proofs.Common.{◌≤◌, ℤ, pos, negsuc, arith, w32, SFits}
use Rattle.logic.specs.Literal.{variable}
use Rattle.encoder_theory.specs.Meaning.{last_end}

pub small_fits : (x : ℤ) → variable x ≤ last_end → SFits w32 x
small_fits (pos n) h = record { sfits = omega arith }
small_fits (negsuc n) h = record { sfits = omega arith }
