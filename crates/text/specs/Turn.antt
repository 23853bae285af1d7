-- What a step of the reader answers and leaves.
use Rattle.std.specs.Prelude.{◌≡◌, ℕ, List, length, Ok, Err, Result}
use Rattle.fault.specs.declared.Fault.{Fault}
use Rattle.dimacs.specs.declared.Machine.{Machine}
use Rattle.dimacs.specs.declared.Summary.{Summary}
use Rattle.dimacs.specs.Steps.{Step}
use Rattle.dimacs.specs.Reading.{Reading, applied, listed_by, read_on}
use Rattle.text.specs.declared.read.Reader.{Reader}

abbrev pub told : Result Machine Fault → Result (Unit {0}) Fault
told (Ok n) = Ok tt
told (Err f) = Err f

-- a machine that declines stays as it is
abbrev pub kept : Machine → Result Machine Fault → Machine
kept m (Ok n) = n
kept m (Err f) = m

-- what a step answered, and where it left the reader
pub record Turned (before : Reader) (step : Step) (answer : Result (Unit {0}) Fault) (after : Reader) : Type 0 where
  pub answers : answer ≡ told (applied before.machine step (length before.list.now))
  pub machine : after.machine ≡ kept before.machine (applied before.machine step (length before.list.now))
  pub list : after.list.now ≡ listed_by before.machine step before.list.now
  pub lender : after.list.ghost_name ≡ before.list.ghost_name

-- what reading a text to its end answered, and where it left the reader
pub record Ran (before : Reader) (text : List ℕ) (answer : Result Summary Fault) (after : Reader) : Type 0 where
  pub reads : ◌≡◌ {A = Reading} (record { answer = answer; list = after.list.now }) (read_on before.machine before.list.now 0 text)
  pub lender : after.list.ghost_name ≡ before.list.ghost_name
