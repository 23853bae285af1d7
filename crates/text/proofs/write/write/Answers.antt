use Rattle.std.proofs.Common.{length, sym, ap, ◌∙◌, rules}
use Rattle.dimacs.specs.Written.{write_refusal}
use Rattle.filling.specs.Filled.{Filled}
use Rattle.text.proofs.Accepted.{reads_back}
use Rattle.text.proofs.Admitted.{refused, finished}
use Rattle.text.proofs.write.write.Goals as goal

pub returns-in_err-clauses-clause-bytes : goal.returns-in_err-clauses-clause-bytes
returns-in_err-clauses-clause-bytes c = refused (write_refusal c.args.variables c.args.numbers.now (length c.args.out.now)) _ _ _ _ (sym c.in_err-clauses.ensures)

pub returns : goal.returns
returns c =
    let done = finished c.args.variables c.in_ok-clauses.clauses c.args.numbers.now c.args.out.now _ _ c.put_numbers.new.out
    c.in_ok-clauses.ensures (ap (λ (f : Filled _). f.put) c.new-text.ensures) (ap (λ (f : Filled _). f.rest) c.new-text.ensures) c.put_header.ensures c.put_numbers.ensures in
    record { answer = done.0; bytes = search rules ∙ done.1; reads_back = reads_back _ _ c.args.out.now _ _ done.0 (search rules ∙ done.1) }
