use Rattle.std.proofs.Common.{◌≡◌, drop}
use Rattle.text.specs.Room.{room_left}
use Rattle.text.proofs.write.room_after.Given as goal

abbrev pub invariant-loop-z : goal.invariant-loop-z
invariant-loop-z l = room_left (drop l.z-index l.numbers) l.left ≡ room_left l.numbers l.room
