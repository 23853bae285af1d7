use Rattle.std.proofs.Common.{◌≡◌, ℕ, not, ◌&&◌, ◌||◌, ltb}
use Rattle.cover_theory.specs.Rows.{marked}
use Rattle.cover.specs.Views.{rel_in, shape_of}
use Rattle.cover.proofs.remaining.Remaining.sever.Given as goal

abbrev pub invariant-loop-u : goal.invariant-loop-u
invariant-loop-u l =
    (shape_of l.self ≡ shape_of l.initial.self)
    × ((a b : ℕ) → rel_in l.self a b ≡ (rel_in l.initial.self a b && not (ltb a l.u && ((marked l.sides.left.words a && marked l.sides.right.words b) || (marked l.sides.right.words a && marked l.sides.left.words b)))))
