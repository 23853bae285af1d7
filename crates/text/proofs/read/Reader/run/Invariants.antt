use Rattle.std.proofs.Common.{◌≡◌, drop}
use Rattle.dimacs.specs.Reading.{read_on}
use Rattle.text.proofs.read.Reader.run.Given as goal

-- reading on from here ends as reading the whole text does
abbrev pub invariant-loop-at : goal.invariant-loop-at
invariant-loop-at l = record {
  lender : l.self.list.ghost_name ≡ l.initial.self.list.ghost_name;
  same : read_on l.self.machine l.self.list.now l.at (drop l.at l.text) ≡ read_on l.initial.self.machine l.initial.self.list.now 0 l.text;
}
