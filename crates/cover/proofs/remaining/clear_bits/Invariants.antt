use Rattle.std.proofs.Common.{◌≡◌, ℕ, ◌<◌, ◌≤◌, not, ◌&&◌, get_or}
use Rattle.network_theory.specs.Layout.{bit}
use Rattle.cover.proofs.remaining.clear_bits.Given as goal

abbrev pub invariant-loop-i : goal.invariant-loop-i
invariant-loop-i l =
    ((k j : ℕ) → k < l.i → bit (get_or l.row k 0) j ≡ (bit (get_or l.initial.row k 0) j && not (bit (get_or l.mask.words k 0) j)))
    × ((k : ℕ) → l.i ≤ k → get_or l.row k 0 ≡ get_or l.initial.row k 0)
