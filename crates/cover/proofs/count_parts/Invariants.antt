use Rattle.std.proofs.Common.{◌≡◌, ◌+◌, ◌≤◌, length}
use Rattle.cover.specs.Walk.{cliques_in, bicliques_in, parts_in, summed}
use Rattle.cover.specs.Left.{parts_left}
use Rattle.cover.proofs.count_parts.Given as goal

abbrev pub invariant-loop-part : goal.invariant-loop-part
invariant-loop-part l =
    (goal.iterator-loop-part).can_next l.part-iterator
    × (goal.iterator-loop-part).is_finite l.part-iterator
    × (l.cliques + l.bicliques + length (parts_left l.part-iterator) ≤ length l.list)
    × (l.cliques + summed cliques_in (parts_left l.part-iterator) ≡ summed cliques_in (parts_in l.list))
    × (l.bicliques + summed bicliques_in (parts_left l.part-iterator) ≡ summed bicliques_in (parts_in l.list))
