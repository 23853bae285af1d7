-- What is read of a relation between literals.
use Rattle.std.specs.Prelude.{◌≡◌, ℕ, ◌<◌, ◌≤◌, true, false}
use Rattle.cover_theory.specs.Rule.{Rel}

-- w is the first literal from `from` on that conflicts with u
pub record Next (rel : Rel) (u from w : ℕ) : Type 0 where
  pub low : from ≤ w
  pub here : rel u w ≡ true
  pub before : (j : ℕ) → from ≤ j → j < w → rel u j ≡ false
