-- What the encoder that a clique uses means.
use Rattle.encoder_theory.specs.Meaning.{Meaning}
use Rattle.encoder_theory.specs.Laws.{Lawful}
use Rattle.encoder_theory.specs.Pairwise.{pairwise}
use Rattle.encoder_theory.proofs.PairwiseLaws.{pairwise_lawful}
use Rattle.formula.specs.declared.chosen.Chosen.{Chosen}
use Rattle.formula.specs.declared.chosen.Chosen.TheVariants.{Given, Pairwise}

-- with `meaning` for the given one
abbrev pub meaning_of : {E : Type 0} → (E → Meaning) → Chosen E → Meaning
meaning_of meaning (Given e) = meaning e.now
meaning_of meaning Pairwise = pairwise

pub lawful_of : {E : Type 0} (meaning : E → Meaning) → ((e : E) → Lawful (meaning e)) → (c : Chosen E) → Lawful (meaning_of meaning c)
lawful_of meaning lawful (Given e) = lawful e.now
lawful_of meaning lawful Pairwise = pairwise_lawful
