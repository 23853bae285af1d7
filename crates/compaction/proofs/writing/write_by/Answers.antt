use Rattle.std.proofs.Common.{w32, SFits}
use Rattle.std.proofs.lemmas.Int.{to_z-of_z}
use Rattle.compaction.proofs.writing.write_by.Goals as goal

pub returns-in-Pairwise : goal.returns-in-Pairwise
returns-in-Pairwise c = let fits : SFits w32 c.args.first = c.ranges.first in rw c.in-Pairwise.is (simp to_z-of_z at c.write_with.ensures)

pub returns-in-Binary : goal.returns-in-Binary
returns-in-Binary c = let fits : SFits w32 c.args.first = c.ranges.first in rw c.in-Binary.is (simp to_z-of_z at c.write_with-in-Binary.ensures)

pub returns-in-Sequential : goal.returns-in-Sequential
returns-in-Sequential c = let fits : SFits w32 c.args.first = c.ranges.first in rw c.in-Sequential.is (simp to_z-of_z at c.write_with-in-Sequential.ensures)

pub returns-in-Commander : goal.returns-in-Commander
returns-in-Commander c = let fits : SFits w32 c.args.first = c.ranges.first in rw c.in-Commander.is (rw c.new.ensures.size at (simp to_z-of_z at c.write_with-in-Commander.ensures))

pub returns-in-Tower : goal.returns-in-Tower
returns-in-Tower c = let fits : SFits w32 c.args.first = c.ranges.first in rw c.in-Tower.is (simp to_z-of_z at c.write_with-in-Tower.ensures)
