use Rattle.layers.proofs.tower.+tower_auxiliaries.Given as goal

abbrev pub decreases-tower_auxiliaries : goal.decreases-tower_auxiliaries
decreases-tower_auxiliaries l = l.members
