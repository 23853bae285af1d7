use Rattle.network_theory.proofs.Kept.{sound_same, opened_sound}
use Rattle.network.proofs.matrix.Matrix.empty.Goals as goal

pub invariant_of-result : goal.invariant_of-result
invariant_of-result c =
    let s = sound_same _ _ c.clear-variables.ensures (opened_sound c.args.n c.args.words.now) in
    record { few = s.0; room = s.1.0; «mutual» = s.1.1.0; apart = s.1.1.1.0; trimmed = s.1.1.1.1.0 }
