use Rattle.std.proofs.Common.{refl}
use Rattle.std.specs.Fmt.{digits}
use Rattle.examples.proofs.examples_hold.Goals as goal

pub returns : goal.returns
unfolding digits
returns c = record {
  words = (refl, refl);
  binary_counts = (refl, refl, refl);
  binary_chosen = ((refl, refl), (refl, refl), (refl, refl));
  binary_auxiliaries = (refl, refl);
  sequential_counts = ((refl, refl), (refl, refl), (refl, refl));
  tower_counts = ((refl, refl), (refl, refl), (refl, refl));
  commander_counts = (refl, refl);
  pairwise_list = refl;
  binary_list = refl;
  binary_values = refl;
  sequential_list = refl;
  sequential_values = refl;
  two_by_two = refl;
  two_by_two_takes = (refl, refl);
  two_by_three = refl;
  two_by_three_takes = (refl, refl);
  two_by_three_written = refl;
  program = refl;
}
