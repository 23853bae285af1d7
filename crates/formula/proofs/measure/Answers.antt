use Rattle.std.proofs.Common.{◌≡◌, length, Ok, Result, ap, ◌∙◌, to_z-of_z}
use Rattle.fault.specs.declared.Fault.{Fault}
use Rattle.formula_theory.specs.Outcome.{terms}
use Rattle.writing_theory.specs.declared.Numbers.{Numbers}
use Rattle.writing_theory.specs.Covering.{terms_answer}
use Rattle.writing_theory.proofs.Calls.{covering, ends_measured}
use Rattle.formula.proofs.measure.Goals as goal

pub measure_covered-requires : goal.measure_covered-requires
measure_covered-requires g c =
    let m = c.args.net.now.matrix in
    let old = c.args.work.now in
    let ol = c.args.list.now in
    let M = g.E.Encoder.meaning c.args.encoder.now in
    let ff = c.ranges.first in
    let fl = c.ranges.last in
    let e : ◌≡◌ {A = Result Numbers Fault} (Ok c.in_ok-numbers.numbers) (terms_answer c.variables.result (terms c.args.first c.args.last (length old) (length ol))) =
    simp to_z-of_z at c.in_ok-numbers.ensures in
    let a = c.in_ok-covered.ensures in (
      m.variables,
      (covering m.variables m.words.now M c.args.first c.args.last old ol c.in_ok-numbers.numbers
          (e ∙ ap (λ n. terms_answer n (terms c.args.first c.args.last (length old) (length ol))) c.variables.ensures) c.cover.new.work c.cover.new.list a.words a.list c.in_ok-covered.covered a.answer
          c.args.net.now.matrix.mutual c.args.net.now.matrix.apart c.args.net.now.matrix.few (g.met.E.Encoder.lawful c.args.encoder.now) a.partition a.within c.cover.auto.list).covering,
    )

pub returns-clause-answer : goal.returns-clause-answer
returns-clause-answer g c =
    let m = c.args.net.now.matrix in
    let old = c.args.work.now in
    let ol = c.args.list.now in
    let M = g.E.Encoder.meaning c.args.encoder.now in
    let ff = c.ranges.first in
    let fl = c.ranges.last in
    let e : ◌≡◌ {A = Result Numbers Fault} (Ok c.in_ok-numbers.numbers) (terms_answer c.variables.result (terms c.args.first c.args.last (length old) (length ol))) =
    simp to_z-of_z at c.in_ok-numbers.ensures in
    let h : ◌≡◌ {A = Result Numbers Fault} (Ok c.in_ok-numbers.numbers) (terms_answer m.variables (terms c.args.first c.args.last (length old) (length ol))) =
    e ∙ ap (λ n. terms_answer n (terms c.args.first c.args.last (length old) (length ol))) c.variables.ensures in
    let a = c.in_ok-covered.ensures in
    let v = covering m.variables m.words.now M c.args.first c.args.last old ol c.in_ok-numbers.numbers h c.cover.new.work c.cover.new.list a.words a.list c.in_ok-covered.covered a.answer
    c.args.net.now.matrix.mutual c.args.net.now.matrix.apart c.args.net.now.matrix.few (g.met.E.Encoder.lawful c.args.encoder.now) a.partition a.within c.cover.auto.list in
    ends_measured m.variables m.words.now M c.args.first c.args.last old ol c.in_ok-numbers.numbers h c.cover.new.work c.cover.new.list a.words a.list c.in_ok-covered.covered a.answer v
    c.measure_covered.result c.measure_covered.ensures
