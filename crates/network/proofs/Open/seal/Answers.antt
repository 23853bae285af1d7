use Rattle.network_theory.proofs.Led.{came_exact}
use Rattle.network.proofs.Open.seal.Goals as goal

pub returns-clause-exact : goal.returns-clause-exact
returns-clause-exact c = λ calls k. came_exact _ calls k
