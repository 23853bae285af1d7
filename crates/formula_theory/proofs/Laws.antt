-- The laws of what is written, together.
use Rattle.std.proofs.Common.{ℕ, ℤ}
use Rattle.encoder_theory.specs.Meaning.{Meaning}
use Rattle.encoder_theory.specs.Laws.{Lawful}
use Rattle.cover_theory.specs.Parts.{Cover, Partition}
use Rattle.formula_theory.specs.Writing.{Numbered}
use Rattle.formula_theory.specs.Faithful.{Conflicts, Told, FaithfulTo, WritingIsFaithful}
use Rattle.formula_theory.proofs.Chains.{same_chains}
use Rattle.formula_theory.proofs.Models.{length_values, completed, same_models}
use Rattle.formula_theory.proofs.Counts.{length_written}
use Rattle.formula_theory.proofs.Owned.{written_own}

-- for conflicts told by any relation
pub faithful_to : (X : ℤ → ℤ → Type 0) (M : Meaning) → Lawful M → (n : ℕ) (C : Cover) → Conflicts n X → Partition n X C
    → (first : ℕ) → Numbered n M C first → FaithfulTo n X M C first
faithful_to X M law n C is v first w = record {
  models = same_models X M law n C is v first w;
  chains = same_chains X M law n C is v first w;
  valued = λ s. length_values M law n s C.parts v.sound;
  completion = completed X M law n C is v first w;
  counted = length_written M law n C v.sound first w;
  own = written_own X M law n C is v first w;
}

pub writing_is_faithful : WritingIsFaithful
writing_is_faithful M law n test C = faithful_to (Told test) M law n C
