-- The network that a matrix holds. An open and a sealed network hold their matrix alike.
use Rattle.network_theory.specs.Layout.{Net}
use Rattle.network.specs.declared.matrix.Matrix.{Matrix}

abbrev pub net_of : Matrix → Net
net_of m = record { variables = m.variables; words = m.words.now }
