use Rattle.layers.proofs.tower.+put_tower_values.Given as goal

abbrev pub decreases-put_tower_values : goal.decreases-put_tower_values
decreases-put_tower_values l = l.members
