use Rattle.std.proofs.Common.{◌≡◌, ◌≤◌, length, drop}
use Rattle.std.specs.List.{flat_map}
use Rattle.dimacs.specs.Written.{spaced}
use Rattle.filling.specs.Filled.{after}
use Rattle.filling.specs.Views.{filled}
use Rattle.text.proofs.write.put_numbers.Given as goal

abbrev pub invariant-loop-z : goal.invariant-loop-z
invariant-loop-z l = record {
  room : length (flat_map spaced (drop l.z-index l.numbers)) ≤ length (filled l.out).rest;
  same : after (filled l.out) (flat_map spaced (drop l.z-index l.numbers)) ≡ after (filled l.initial.out) (flat_map spaced l.numbers);
}
