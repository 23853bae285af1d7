-- The numbers of a network that was just opened.
use Rattle.std.proofs.Common.{◌≡◌, ℕ, ◌≤◌, List, length, arith}
use Rattle.std.proofs.lemmas.Bool.Decides.{nat_tests}
use Rattle.network_theory.specs.Layout.{words_needed}
use Rattle.network_theory.specs.Calls.{most_variables, opened_variables, opened}
use Rattle.network_theory.proofs.Marks.{length_cleared}

pub few_opened : (n words : ℕ) → opened_variables n words ≤ most_variables
few_opened n words = grind (arith, nat_tests)

room_opened_at : (n words : ℕ) → words_needed (opened_variables n words) ≤ words
room_opened_at n words = grind (arith, nat_tests)

pub length_opened : (n : ℕ) (lent : List ℕ) → length (opened n lent).words ≡ length lent
length_opened n lent = length_cleared (opened_variables n (length lent)) lent (room_opened_at n (length lent))

pub room_opened : (n : ℕ) (lent : List ℕ) → words_needed (opened n lent).variables ≤ length (opened n lent).words
room_opened n lent = omega (arith, room_opened_at n (length lent), length_opened n lent)
