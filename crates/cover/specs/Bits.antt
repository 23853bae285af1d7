-- Bits that are set in a list of words.
use Rattle.std.specs.Prelude.{◌≡◌, ℕ, ◌<◌, ◌≤◌, true, false, List}
use Rattle.cover_theory.specs.Rows.{marked}

-- w is the lowest bit of from..end that is set
pub record FirstMarked (words : List ℕ) (end from w : ℕ) : Type 0 where
  pub low : from ≤ w
  pub high : w < end
  pub here : marked words w ≡ true
  pub before : (j : ℕ) → from ≤ j → j < w → marked words j ≡ false
