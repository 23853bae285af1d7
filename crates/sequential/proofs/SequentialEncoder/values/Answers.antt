use Rattle.std.proofs.Common.{◌≡◌, ◌-◌, ◌++◌, map, length, take, drop, ap, ◌∙◌, arith}
use Rattle.std.proofs.lemmas.List.{length-take-le}
use Rattle.encoder_theory.specs.Buffer.{byte}
use Rattle.encoder_theory.specs.Each.{table}
use Rattle.encoder_theory.specs.Sequential.{sequential, reached}
use Rattle.encoder_theory.proofs.SequentialLaws.{sequential_lawful}
use Rattle.encoder_theory.proofs.Answered.{values_admitted, values_put}
use Rattle.sequential.proofs.SequentialEncoder.values.Goals as goal

pub returns-clause-leaves : goal.returns-clause-leaves
returns-clause-leaves c =
    let m = c.args.members in
    let out = c.args.out.now in
    let n = c.auxiliary_count.ensures in
    let r = values_admitted sequential sequential_lawful m c.args.place out c.in_ok-check_values.ensures in
    let l : length (take c.auxiliary_count.result out) ≡ m - 1 = length-take-le c.auxiliary_count.result out (omega (arith, r.2)) ∙ n in
    values_put sequential sequential_lawful m c.args.place out c.in_ok-check_values.ensures _
    (ap (λ z. z ++ drop c.auxiliary_count.result out) (c.put_values.ensures ∙ ap (λ k. map byte (table k (reached c.args.place))) l)
    ∙ ap (λ k. map byte (table (m - 1) (reached c.args.place)) ++ drop k out) n)
