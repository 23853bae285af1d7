use Rattle.compaction_theory.proofs.Room.{large_has_room}
use Rattle.compaction_theory.proofs.large_has_room.Goals as goal

pub returns : goal.returns
returns c = large_has_room
