use Rattle.std.proofs.Common.{◌+◌, ◌≤◌, ap, arith, rules}
use Rattle.encoder_theory.specs.Pairwise.{pairwise}
use Rattle.encoder_theory.proofs.Inner.{few_auxiliaries}
use Rattle.layer_theory.specs.Tower.{tower}
use Rattle.layer_theory.proofs.TowerLaws.{tower_lawful}
use Rattle.layer_theory.proofs.Put.{auxiliaries_are, tower_at}
use Rattle.layers.proofs.tower.+tower_auxiliaries.Goals as goal

pub overflow_add-result : goal.overflow_add-result
overflow_add-result t c =
    let b = few_auxiliaries tower tower_lawful c.count.result c.count.ensures.few in
    let e = c.tower_auxiliaries.ensures in
    let small : c.auxiliaries-2.result + c.tower_auxiliaries.result ≤ 140_000 = omega (arith, c.auxiliaries-2.ensures.small) in
    search rules

pub returns : goal.returns
returns t c =
    let s = c.in-Some.groups in
    let e = auxiliaries_are s.k s.members pairwise tower tower (tower_at s.k s.members c.in-Some.ensures.0) s.parted in
    let m = ap tower.auxiliaries c.in-Some.ensures.1 in
    let n = ap tower.auxiliaries c.count.ensures.formed in
    let a = c.auxiliaries-2.ensures.told in
    let b = c.tower_auxiliaries.ensures in
    omega arith
