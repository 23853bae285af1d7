use Rattle.std.proofs.Common.{◌≡◌, ◌*◌, ◌≤◌, length, take, Ok, Err, Result, sym, ap, ap₂, ◌∙◌, subst, to_z-of_z}
use Rattle.std.proofs.lemmas.Result.{err_from_is_err_and}
use Rattle.fault.specs.declared.Fault.{Fault}
use Rattle.network_theory.specs.Layout.{row_words}
use Rattle.cover_theory.specs.Rule.{pairs_from}
use Rattle.cover_theory.specs.Rows.{conflicts, Fit}
use Rattle.formula_theory.specs.Outcome.{terms, write_answer}
use Rattle.writing_theory.specs.declared.Numbers.{Numbers}
use Rattle.writing_theory.specs.Covering.{terms_answer}
use Rattle.writing_theory.proofs.Calls.{Writes, covering, writes_early, writes_short, numbers_fit, writes_done}
use Rattle.formula.specs.Rows.{remaining_in}
use Rattle.cover.specs.Outcome.{cover_of_net}
use Rattle.network.specs.Views.{net_of}
use Rattle.formula.proofs.write.Given.{Over}
use Rattle.formula.proofs.write.Goals as goal

-- declined by the checks
unchecked : (g : Over) (c : goal.After-from_residual g) → Writes c.args.net.now.matrix.variables c.args.net.now.matrix.words.now (g.E.Encoder.meaning c.args.encoder.now) (g.met.E.Encoder.lawful c.args.encoder.now)
    c.args.first c.args.last c.args.work.now c.args.list.now c.args.out.now c.from_residual.result c.args.out.now
unchecked g c =
    let m = c.args.net.now.matrix in
    let M = g.E.Encoder.meaning c.args.encoder.now in
    let law = g.met.E.Encoder.lawful c.args.encoder.now in
    let old = c.args.work.now in
    let ol = c.args.list.now in
    let ff = c.ranges.first in
    let fl = c.ranges.last in
    let e : ◌≡◌ {A = Result Numbers Fault} (Err c.in_err-numbers.field-0.0) (terms_answer c.variables-n.result (terms c.args.first c.args.last (length old) (length ol))) =
    simp to_z-of_z at c.in_err-numbers.ensures in
    let h : ◌≡◌ {A = Result Numbers Fault} (Err c.in_err-numbers.field-0.0) (terms_answer m.variables (terms c.args.first c.args.last (length old) (length ol))) =
    e ∙ ap (λ n. terms_answer n (terms c.args.first c.args.last (length old) (length ol))) c.variables-n.ensures in
    let p = err_from_is_err_and c.from_residual.result c.from_residual.ensures.1 in
    let k = writes_early m.variables m.words.now M law c.args.first c.args.last old ol c.args.out.now c.in_err-numbers.field-0.0 h in
    rw (p.1, p.2) k

pub returns-in_err-numbers-clause-clauses : goal.returns-in_err-numbers-clause-clauses
returns-in_err-numbers-clause-clauses g c = (unchecked g c).leaves

pub returns-in_err-numbers-clause-every_run : goal.returns-in_err-numbers-clause-every_run
returns-in_err-numbers-clause-every_run g c = (unchecked g c).every_run

pub returns-in_err-numbers-clause-any_other : goal.returns-in_err-numbers-clause-any_other
returns-in_err-numbers-clause-any_other g c = (unchecked g c).any_other

-- declined by the cover
uncovered : (g : Over) (c : goal.After-from_residual-in_err-covered g) → Writes c.args.net.now.matrix.variables c.args.net.now.matrix.words.now (g.E.Encoder.meaning c.args.encoder.now) (g.met.E.Encoder.lawful c.args.encoder.now)
    c.args.first c.args.last c.args.work.now c.args.list.now c.args.out.now c.from_residual-in_err-covered.result c.args.out.now
uncovered g c =
    let m = c.args.net.now.matrix in
    let M = g.E.Encoder.meaning c.args.encoder.now in
    let law = g.met.E.Encoder.lawful c.args.encoder.now in
    let old = c.args.work.now in
    let ol = c.args.list.now in
    let ff = c.ranges.first in
    let fl = c.ranges.last in
    let e : ◌≡◌ {A = Result Numbers Fault} (Ok c.in_ok-numbers.numbers) (terms_answer c.variables-n.result (terms c.args.first c.args.last (length old) (length ol))) =
    simp to_z-of_z at c.in_ok-numbers.ensures in
    let h : ◌≡◌ {A = Result Numbers Fault} (Ok c.in_ok-numbers.numbers) (terms_answer m.variables (terms c.args.first c.args.last (length old) (length ol))) =
    e ∙ ap (λ n. terms_answer n (terms c.args.first c.args.last (length old) (length ol))) c.variables-n.ensures in
    let p = err_from_is_err_and c.from_residual-in_err-covered.result c.from_residual-in_err-covered.ensures.1 in
    let k = writes_short m.variables m.words.now M law c.args.first c.args.last old ol c.args.out.now c.in_ok-numbers.numbers h c.in_err-covered.field-0.0 c.in_err-covered.ensures.answer in
    rw (p.1, p.2) k

pub returns-in_err-covered-clause-every_run : goal.returns-in_err-covered-clause-every_run
returns-in_err-covered-clause-every_run g c = (uncovered g c).every_run

pub returns-in_err-covered-clause-any_other : goal.returns-in_err-covered-clause-any_other
returns-in_err-covered-clause-any_other g c = (uncovered g c).any_other

pub rows_of-requires : goal.rows_of-requires
rows_of-requires g c =
    let m = c.args.net.now.matrix in
    let M = g.E.Encoder.meaning c.args.encoder.now in
    let law = g.met.E.Encoder.lawful c.args.encoder.now in
    let old = c.args.work.now in
    let ol = c.args.list.now in
    let ff = c.ranges.first in
    let fl = c.ranges.last in
    let e : ◌≡◌ {A = Result Numbers Fault} (Ok c.in_ok-numbers.numbers) (terms_answer c.variables-n.result (terms c.args.first c.args.last (length old) (length ol))) =
    simp to_z-of_z at c.in_ok-numbers.ensures in
    let h : ◌≡◌ {A = Result Numbers Fault} (Ok c.in_ok-numbers.numbers) (terms_answer m.variables (terms c.args.first c.args.last (length old) (length ol))) =
    e ∙ ap (λ n. terms_answer n (terms c.args.first c.args.last (length old) (length ol))) c.variables-n.ensures in
    let a = c.in_ok-covered.ensures in
    let v = covering m.variables m.words.now M c.args.first c.args.last old ol c.in_ok-numbers.numbers h c.cover.new.work c.cover.new.list a.words a.list c.in_ok-covered.covered a.answer
    c.args.net.now.matrix.mutual c.args.net.now.matrix.apart c.args.net.now.matrix.few law a.partition a.within c.cover.auto.list in
    subst (λ n. Fit (2 * n) (row_words n) c.cover.new.work × n ≤ 4096) (sym c.variables-n.ensures) (v.fit, c.args.net.now.matrix.few)

pub write_covered-requires : goal.write_covered-requires
write_covered-requires g c =
    let m = c.args.net.now.matrix in
    let M = g.E.Encoder.meaning c.args.encoder.now in
    let law = g.met.E.Encoder.lawful c.args.encoder.now in
    let old = c.args.work.now in
    let ol = c.args.list.now in
    let ff = c.ranges.first in
    let fl = c.ranges.last in
    let e : ◌≡◌ {A = Result Numbers Fault} (Ok c.in_ok-numbers.numbers) (terms_answer c.variables-n.result (terms c.args.first c.args.last (length old) (length ol))) =
    simp to_z-of_z at c.in_ok-numbers.ensures in
    let h : ◌≡◌ {A = Result Numbers Fault} (Ok c.in_ok-numbers.numbers) (terms_answer m.variables (terms c.args.first c.args.last (length old) (length ol))) =
    e ∙ ap (λ n. terms_answer n (terms c.args.first c.args.last (length old) (length ol))) c.variables-n.ensures in
    let a = c.in_ok-covered.ensures in
    let v = covering m.variables m.words.now M c.args.first c.args.last old ol c.in_ok-numbers.numbers h c.cover.new.work c.cover.new.list a.words a.list c.in_ok-covered.covered a.answer
    c.args.net.now.matrix.mutual c.args.net.now.matrix.apart c.args.net.now.matrix.few law a.partition a.within c.cover.auto.list in
    let b = c.rows_of.ensures in
    let pairs : remaining_in c.rows_of.result ≡ pairs_from (2 * m.variables) (conflicts (2 * m.variables) (row_words m.variables) c.cover.new.work) (2 * m.variables) 0 =
    ap₂ (λ N R. pairs_from N (conflicts N R c.rows_of.result.words.now) N 0) b.count b.width
    ∙ ap₂ (λ n ws. pairs_from (2 * n) (conflicts (2 * n) (row_words n) ws) (2 * n) 0) c.variables-n.ensures b.words in
    let f = numbers_fit m.variables m.words.now M law c.args.first c.args.last old ol c.args.out.now c.in_ok-numbers.numbers h in
    record { covering = (m.variables, f.0, v.covering); numbers = f.1; counted = v.counted ∙ ap length (sym (pairs ∙ v.left)) }

-- written, or declined late
written : (g : Over) (c : goal.After-out-1 g)
    → (c.write_covered.result ≡ write_answer c.args.net.now.matrix.variables (cover_of_net (net_of c.args.net.now.matrix)) (g.E.Encoder.meaning c.args.encoder.now)
    (terms c.args.first c.args.last (length c.args.work.now) (length c.args.list.now)) (length c.args.out.now))
    × Writes c.args.net.now.matrix.variables c.args.net.now.matrix.words.now (g.E.Encoder.meaning c.args.encoder.now) (g.met.E.Encoder.lawful c.args.encoder.now)
    c.args.first c.args.last c.args.work.now c.args.list.now c.args.out.now c.write_covered.result c.write_covered.new.out
written g c =
    let m = c.args.net.now.matrix in
    let M = g.E.Encoder.meaning c.args.encoder.now in
    let law = g.met.E.Encoder.lawful c.args.encoder.now in
    let old = c.args.work.now in
    let ol = c.args.list.now in
    let ff = c.ranges.first in
    let fl = c.ranges.last in
    let e : ◌≡◌ {A = Result Numbers Fault} (Ok c.in_ok-numbers.numbers) (terms_answer c.variables-n.result (terms c.args.first c.args.last (length old) (length ol))) =
    simp to_z-of_z at c.in_ok-numbers.ensures in
    let h : ◌≡◌ {A = Result Numbers Fault} (Ok c.in_ok-numbers.numbers) (terms_answer m.variables (terms c.args.first c.args.last (length old) (length ol))) =
    e ∙ ap (λ n. terms_answer n (terms c.args.first c.args.last (length old) (length ol))) c.variables-n.ensures in
    let a = c.in_ok-covered.ensures in
    let v = covering m.variables m.words.now M c.args.first c.args.last old ol c.in_ok-numbers.numbers h c.cover.new.work c.cover.new.list a.words a.list c.in_ok-covered.covered a.answer
    c.args.net.now.matrix.mutual c.args.net.now.matrix.apart c.args.net.now.matrix.few law a.partition a.within c.cover.auto.list in
    let b = c.rows_of.ensures in
    let pairs : remaining_in c.rows_of.result ≡ pairs_from (2 * m.variables) (conflicts (2 * m.variables) (row_words m.variables) c.cover.new.work) (2 * m.variables) 0 =
    ap₂ (λ N R. pairs_from N (conflicts N R c.rows_of.result.words.now) N 0) b.count b.width
    ∙ ap₂ (λ n ws. pairs_from (2 * n) (conflicts (2 * n) (row_words n) ws) (2 * n) 0) c.variables-n.ensures b.words in
    writes_done m.variables m.words.now M law c.args.first c.args.last old ol c.args.out.now c.in_ok-numbers.numbers h c.in_ok-covered.covered a.answer
    (take c.in_ok-covered.covered.used c.cover.new.list) c.cover.new.work c.in_ok-covered.covered.remaining (remaining_in c.rows_of.result) v pairs
    c.write_covered.result c.write_covered.new.out c.write_covered.ensures.answer c.write_covered.ensures.leaves

pub returns-clause-answer : goal.returns-clause-answer
returns-clause-answer g c = (written g c).0

pub returns-clause-clauses : goal.returns-clause-clauses
returns-clause-clauses g c = (written g c).1.leaves

pub returns-clause-every_run : goal.returns-clause-every_run
returns-clause-every_run g c = (written g c).1.every_run

pub returns-clause-any_other : goal.returns-clause-any_other
returns-clause-any_other g c = (written g c).1.any_other
