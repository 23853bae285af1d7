-- Two literals against two have gain 0, and make no part; two against three make a biclique.
use Rattle.std.specs.Prelude.{◌≡◌, ℕ, ◌+◌, ◌*◌, ◌%◌, Bool, ◌&&◌, ◌||◌, [], ◌∷◌, pos, ◌==◌, nat_le, nat_lt}
use Rattle.cover_theory.specs.Parts.{biclique}
use Rattle.cover_theory.specs.Rule.{Rel, cover_of}

-- u is one of the literals a + 1 to a + k, by index
abbrev pub one_of : ℕ → ℕ → ℕ → Bool
one_of a k u = u % 2 == 0 && (nat_le (2 * a) u && nat_lt u (2 * (a + k)))

-- the literals 1 to x against the literals x + 1 to x + y
abbrev pub against : ℕ → ℕ → Rel
against x y u w = (one_of 0 x u && one_of x y w) || (one_of x y u && one_of 0 x w)

abbrev pub TwoAgainstTwo : Type 0
TwoAgainstTwo = cover_of 4 (against 2 2) ≡ record { parts = []; remaining = (pos 1, pos 3) ∷ (pos 1, pos 4) ∷ (pos 2, pos 3) ∷ (pos 2, pos 4) ∷ [] }

abbrev pub TwoAgainstThree : Type 0
TwoAgainstThree = cover_of 5 (against 2 3) ≡ record { parts = biclique (pos 1 ∷ pos 2 ∷ []) (pos 3 ∷ pos 4 ∷ pos 5 ∷ []) ∷ []; remaining = [] }
