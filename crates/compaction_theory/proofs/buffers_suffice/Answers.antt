use Rattle.compaction_theory.proofs.Fitting.{writings_accepted, numbers_fewer, texts_fit}
use Rattle.compaction_theory.proofs.Faults.{never_short}
use Rattle.compaction_theory.proofs.buffers_suffice.Goals as goal

pub returns : goal.returns
returns c = record { writing = writings_accepted; numbers = numbers_fewer; text = texts_fit; refusals = never_short }
