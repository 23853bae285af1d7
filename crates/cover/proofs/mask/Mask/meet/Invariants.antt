use Rattle.std.proofs.Common.{◌≡◌, ℕ, ◌<◌, ◌≤◌, get_or}
use lib.Bits.{bit_and}
use Rattle.cover.proofs.mask.Mask.meet.Given as goal

abbrev pub invariant-loop-i : goal.invariant-loop-i
invariant-loop-i l =
    ((k : ℕ) → l.from ≤ k → k < l.i → get_or l.self.words k 0 ≡ bit_and (get_or l.initial.self.words k 0) (get_or l.row k 0))
    × ((k : ℕ) → l.i ≤ k → get_or l.self.words k 0 ≡ get_or l.initial.self.words k 0)
