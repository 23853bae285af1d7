use Rattle.std.proofs.Common.{◌≡◌, ◌*◌, ◌≤◌, length, take, Ok, Err, Result, sym, refl, ap, ap₂, ◌∙◌, subst, to_z-of_z}
use Rattle.std.proofs.lemmas.Result.{err_from_is_err_and}
use Rattle.fault.specs.declared.Fault.{Fault}
use Rattle.network_theory.specs.Layout.{row_words}
use Rattle.cover_theory.specs.Lies.{conflicts_in}
use Rattle.cover_theory.specs.Rows.{conflicts, Fit}
use Rattle.cover_theory.proofs.Nets.{net_fit}
use Rattle.formula_theory.specs.Writing.{part_auxiliaries, over_parts}
use Rattle.formula_theory.specs.Outcome.{terms, assignment_of, kept_if_refused}
use Rattle.writing_theory.specs.declared.Numbers.{Numbers}
use Rattle.writing_theory.specs.Listed.{Listed, parts_of}
use Rattle.writing_theory.specs.Completing.{valued_answer, broken, late_complete, completed_answer, put_values}
use Rattle.writing_theory.proofs.Calls.{covering, completes_early, completes_short, completes_done, terms_fit, values_counted}
use Rattle.cover.specs.Views.{rel_of}
use Rattle.formula.proofs.complete.Goals as goal

pub returns-in_err-numbers : goal.returns-in_err-numbers
returns-in_err-numbers g c =
    let m = c.args.net.now.matrix in
    let n = m.variables in
    let M = g.E.Encoder.meaning c.args.encoder.now in
    let law = g.met.E.Encoder.lawful c.args.encoder.now in
    let old = c.args.work.now in
    let ol = c.args.list.now in
    let vs = c.args.values.now in
    let ff = c.ranges.first in
    let fl = c.ranges.last in
    let t = terms c.args.first c.args.last (length old) (length ol) in
    let e : ◌≡◌ {A = Result Numbers Fault} (Err c.in_err-numbers.field-0.0) (valued_answer c.variables-n.result t vs) = simp to_z-of_z at c.in_err-numbers.ensures in
    let h : ◌≡◌ {A = Result Numbers Fault} (Err c.in_err-numbers.field-0.0) (valued_answer n t vs) = e ∙ ap (λ j. valued_answer j t vs) c.variables-n.ensures in
    let k = completes_early n m.words.now M law c.args.first c.args.last old ol vs c.args.out.now c.in_err-numbers.field-0.0 h in
    let p = err_from_is_err_and c.from_residual.result c.from_residual.ensures.1 in
    record { answer = rw (p.1, p.2) k.answers; words = k.words_left; list = k.list_left; bytes = k.bytes_left; completes = rw (p.1, p.2) k.promise }

pub returns-in_err-covered : goal.returns-in_err-covered
returns-in_err-covered g c =
    let m = c.args.net.now.matrix in
    let n = m.variables in
    let M = g.E.Encoder.meaning c.args.encoder.now in
    let law = g.met.E.Encoder.lawful c.args.encoder.now in
    let old = c.args.work.now in
    let ol = c.args.list.now in
    let vs = c.args.values.now in
    let ff = c.ranges.first in
    let fl = c.ranges.last in
    let t = terms c.args.first c.args.last (length old) (length ol) in
    let e : ◌≡◌ {A = Result Numbers Fault} (Ok c.in_ok-numbers.numbers) (valued_answer c.variables-n.result t vs) = simp to_z-of_z at c.in_ok-numbers.ensures in
    let h : ◌≡◌ {A = Result Numbers Fault} (Ok c.in_ok-numbers.numbers) (valued_answer n t vs) = e ∙ ap (λ j. valued_answer j t vs) c.variables-n.ensures in
    let a = c.in_err-covered.ensures in
    let k = completes_short n m.words.now M law c.args.first c.args.last old ol vs c.args.out.now c.in_ok-numbers.numbers h c.cover.new.work c.cover.new.list a.words a.list
    c.in_err-covered.field-0.0 a.answer in
    let p = err_from_is_err_and c.from_residual-in_err-covered.result c.from_residual-in_err-covered.ensures.1 in
    record { answer = rw (p.1, p.2) k.answers; words = k.words_left; list = k.list_left; bytes = k.bytes_left; completes = rw (p.1, p.2) k.promise }

pub rows_of-requires : goal.rows_of-requires
rows_of-requires g c =
    let net = c.args.net.now in
    let m = net.matrix in
    let fit = net_fit m.variables m.words.now net.matrix.mutual net.matrix.apart m.words.now net.matrix.trimmed net.matrix.few net.matrix.room (λ i l. refl) in (
      subst (λ n. Fit (2 * n) (row_words n) c.words.result.now) (sym c.variables-n.ensures) (subst (λ ws. Fit (2 * m.variables) (row_words m.variables) ws) (sym c.words.ensures) fit),
      subst (λ n. n ≤ 4096) (sym c.variables-n.ensures) net.matrix.few,
    )

pub complete_covered-requires : goal.complete_covered-requires
complete_covered-requires g c =
    let m = c.args.net.now.matrix in
    let n = m.variables in
    let M = g.E.Encoder.meaning c.args.encoder.now in
    let law = g.met.E.Encoder.lawful c.args.encoder.now in
    let old = c.args.work.now in
    let ol = c.args.list.now in
    let vs = c.args.values.now in
    let ff = c.ranges.first in
    let fl = c.ranges.last in
    let t = terms c.args.first c.args.last (length old) (length ol) in
    let e : ◌≡◌ {A = Result Numbers Fault} (Ok c.in_ok-numbers.numbers) (valued_answer c.variables-n.result t vs) = simp to_z-of_z at c.in_ok-numbers.ensures in
    let h : ◌≡◌ {A = Result Numbers Fault} (Ok c.in_ok-numbers.numbers) (valued_answer n t vs) = e ∙ ap (λ j. valued_answer j t vs) c.variables-n.ensures in
    let a = c.in_ok-covered.ensures in
    let v = covering n m.words.now M c.args.first c.args.last old ol c.in_ok-numbers.numbers
    (terms_fit n m.words.now M law c.args.first c.args.last old ol vs c.args.out.now c.in_ok-numbers.numbers h)
    c.cover.new.work c.cover.new.list a.words a.list c.in_ok-covered.covered a.answer
    c.args.net.now.matrix.mutual c.args.net.now.matrix.apart c.args.net.now.matrix.few law a.partition a.within c.cover.auto.list in
    let many = values_counted n m.words.now M law c.args.first c.args.last old ol vs c.args.out.now c.in_ok-numbers.numbers h in
    record {
      listed = subst (λ k. Listed k M (parts_of (take c.in_ok-covered.covered.used c.cover.new.list))) (sym many) v.covering.listed;
      fit = c.rows_of.ensures.count ∙ ap (λ k. 2 * k) (c.variables-n.ensures ∙ sym many);
    }

pub returns : goal.returns
returns g c =
    let m = c.args.net.now.matrix in
    let n = m.variables in
    let M = g.E.Encoder.meaning c.args.encoder.now in
    let law = g.met.E.Encoder.lawful c.args.encoder.now in
    let old = c.args.work.now in
    let ol = c.args.list.now in
    let vs = c.args.values.now in
    let ff = c.ranges.first in
    let fl = c.ranges.last in
    let t = terms c.args.first c.args.last (length old) (length ol) in
    let e : ◌≡◌ {A = Result Numbers Fault} (Ok c.in_ok-numbers.numbers) (valued_answer c.variables-n.result t vs) = simp to_z-of_z at c.in_ok-numbers.ensures in
    let h : ◌≡◌ {A = Result Numbers Fault} (Ok c.in_ok-numbers.numbers) (valued_answer n t vs) = e ∙ ap (λ j. valued_answer j t vs) c.variables-n.ensures in
    let a = c.in_ok-covered.ensures in
    let v = covering n m.words.now M c.args.first c.args.last old ol c.in_ok-numbers.numbers
    (terms_fit n m.words.now M law c.args.first c.args.last old ol vs c.args.out.now c.in_ok-numbers.numbers h)
    c.cover.new.work c.cover.new.list a.words a.list c.in_ok-covered.covered a.answer
    c.args.net.now.matrix.mutual c.args.net.now.matrix.apart c.args.net.now.matrix.few law a.partition a.within c.cover.auto.list in
    let b = c.rows_of.ensures in
    let s = assignment_of vs in
    let xs = take c.in_ok-covered.covered.used c.cover.new.list in
    let out = c.args.out.now in
    let numbers = c.in_ok-numbers.numbers in
    let last : broken c.rows_of.result.count (rel_of c.rows_of.result) s ≡ broken (2 * n) (conflicts_in n m.words.now) s =
    ap₂ (λ N R. broken N (conflicts N R c.rows_of.result.words.now) s) b.count b.width
    ∙ ap₂ (λ k ws. broken (2 * k) (conflicts (2 * k) (row_words k) ws) s) c.variables-n.ensures (b.words ∙ c.words.ensures) in
    let k = completes_done n m.words.now M law c.args.first c.args.last old ol vs out numbers h c.cover.new.work c.cover.new.list a.words a.list
    c.in_ok-covered.covered a.answer xs c.cover.new.work c.in_ok-covered.covered.remaining v c.complete_covered.result c.complete_covered.new.out
    (c.complete_covered.ensures.answer ∙ ap (completed_answer (over_parts (part_auxiliaries M) (parts_of xs)) numbers (length out)) last)
    (c.complete_covered.ensures.leaves
    ∙ ap (λ o. kept_if_refused (late_complete (over_parts (part_auxiliaries M) (parts_of xs)) numbers (length out) o) (put_values M (parts_of xs) s out) out) last) in
    record { answer = k.answers; words = k.words_left; list = k.list_left; bytes = k.bytes_left; completes = k.promise }
