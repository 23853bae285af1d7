-- The parts that are still to be read of a list.
use Rattle.std.specs.Prelude.{List, length}
use Rattle.cover.specs.declared.Part.{Part}
use Rattle.cover.specs.declared.Parts.{Parts}
use Rattle.cover.specs.Walk.{parts_from}

abbrev pub parts_left : Parts → List Part
parts_left s = parts_from s.list.now (length s.list.now) s.at
