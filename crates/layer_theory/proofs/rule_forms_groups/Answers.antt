use Rattle.layer_theory.proofs.Rule.{rule_forms, lying}
use Rattle.layer_theory.proofs.rule_forms_groups.Goals as goal

pub returns : goal.returns
returns c = record { rule = rule_forms; places = lying }
