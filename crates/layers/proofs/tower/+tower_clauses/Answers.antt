use Rattle.std.proofs.Common.{◌+◌, ◌≤◌, ap, arith, rules}
use Rattle.encoder_theory.specs.Pairwise.{pairwise}
use Rattle.encoder_theory.proofs.Inner.{few_clauses}
use Rattle.layer_theory.specs.Tower.{tower}
use Rattle.layer_theory.proofs.TowerLaws.{tower_lawful}
use Rattle.layer_theory.proofs.Put.{clauses_are, tower_at}
use Rattle.layers.proofs.tower.+tower_clauses.Goals as goal

pub overflow_add-result : goal.overflow_add-result
overflow_add-result t c =
    let b = few_clauses tower tower_lawful c.count.result c.count.ensures.few in
    let e = c.tower_clauses.ensures in
    let small : c.clauses-2.result + c.tower_clauses.result ≤ 140_000 = omega (arith, c.clauses-2.ensures.small) in
    search rules

pub returns : goal.returns
returns t c =
    let s = c.in-Some.groups in
    let e = clauses_are s.k s.members pairwise tower tower (tower_at s.k s.members c.in-Some.ensures.0) s.parted in
    let m = ap tower.clauses c.in-Some.ensures.1 in
    let n = ap tower.clauses c.count.ensures.formed in
    let a = c.clauses-2.ensures.told in
    let b = c.tower_clauses.ensures in
    omega arith
