use Rattle.std.proofs.Common.{length}
use Rattle.layers.proofs.tower.+put_tower.Given as goal

abbrev pub decreases-put_tower : goal.decreases-put_tower
decreases-put_tower l = length l.members.now
