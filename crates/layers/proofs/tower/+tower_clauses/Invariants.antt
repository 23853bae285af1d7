use Rattle.layers.proofs.tower.+tower_clauses.Given as goal

abbrev pub decreases-tower_clauses : goal.decreases-tower_clauses
decreases-tower_clauses l = l.members
