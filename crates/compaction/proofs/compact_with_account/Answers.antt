use Rattle.std.proofs.Common.{ℕ, List, sym, subst}
use Rattle.std.proofs.lemmas.Result.{IfOk-weaker}
use Rattle.compaction_theory.specs.Promises.{CompactsFile, PrintsAlike}
use Rattle.compaction_theory.proofs.Compacting.{every_file_compacted, same_files_print_alike}
use Rattle.compaction_theory.proofs.Decides.{every_input_decided}
use Rattle.compaction_theory.proofs.Faults.{never_short}
use Rattle.compaction.proofs.compact_with_account.Goals as goal

pub returns : goal.returns
returns c =
    let scale = c.args.scale in
    let text : List ℕ = c.args.text.now in
    record {
      prints = c.compact_input.ensures.prints;
      compacts = IfOk-weaker c.compact_input.result _ _ (λ v e. subst (CompactsFile scale text) (sym e) (every_file_compacted scale text)) c.compact_input.ensures.prints;
      alike = IfOk-weaker c.compact_input.result _ _ (λ v e. subst (PrintsAlike scale text) (sym e) (same_files_print_alike scale text)) c.compact_input.ensures.prints;
      decided = every_input_decided scale text;
      never_short = never_short;
      account = c.compact_input.ensures.account;
    }
