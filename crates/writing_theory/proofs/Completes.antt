-- Completing: the values of all parts from the buffer's start on, and what is then refused or left.
use Rattle.std.proofs.Common.{◌≡◌, ℕ, ◌≤◌, Bool, true, false, cond, List, [], ◌++◌, map, drop, ℤ, Some, None, Ok, Err, Option, sym, refl, ap, ◌∙◌}
use Rattle.std.proofs.lemmas.List.{length-map}
use Rattle.std.proofs.lemmas.Bool.{ltb-false}
use base.Fml.{GName}
use Rattle.fault.specs.declared.Fault.{Fault}
use Rattle.filling.specs.Filled.{Filled, after, whole}
use Rattle.filling.specs.Views.{filled}
use Rattle.filling.specs.declared.Filling.{Filling}
use Rattle.filling.proofs.Extended.{whole_is}
use Rattle.logic.specs.Clause.{Assignment, In}
use Rattle.encoder_theory.specs.Buffer.{byte}
use Rattle.encoder_theory.specs.Meaning.{Meaning}
use Rattle.encoder_theory.specs.Laws.{Lawful}
use Rattle.cover_theory.specs.Parts.{Part, Sound}
use Rattle.formula_theory.specs.Writing.{values_from}
use Rattle.formula_theory.specs.Outcome.{exhausted_fault, buffer_fault, buffer_short, unless_refused, kept_if_refused}
use Rattle.formula_theory.proofs.Models.{length_values}
use Rattle.writing_theory.specs.declared.Numbers.{Numbers}
use Rattle.writing_theory.specs.Covering.{past_end}
use Rattle.writing_theory.specs.Completing.{put_values, late_complete, completed_answer}

-- an answer is refused, or it is not
pub unless_err : {X Z : Type 0} (o : Option Fault) (f : Fault) (x : X) (new old : Z) → Err f ≡ unless_refused o x → old ≡ kept_if_refused o new old
unless_err None f x new old e = absurd cc
unless_err (Some g) f x new old e = refl

pub unless_ok : {X : Type 0} (o : Option Fault) (x y : X) → Ok y ≡ unless_refused o x → (o ≡ None) × (y ≡ x)
unless_ok None x y e = (refl, cc)
unless_ok (Some g) x y e = absurd cc

module _ (count : ℕ) (numbers : Numbers) (room : ℕ) (last : Option Fault) (k : ℕ) (e : Ok k ≡ completed_answer count numbers room last) where
  pub completed_left : {Z : Type 0} (new old now : Z) → now ≡ new → now ≡ kept_if_refused (late_complete count numbers room last) new old
  completed_left new old now h = h ∙ sym (ap (λ o. kept_if_refused o new old) (unless_ok (late_complete count numbers room last) count k e).0)

-- the values, from the buffer's start on
pub values_all : (M : Meaning) (law : Lawful M) (n : ℕ) (s : Assignment) (Ps : List (Part ℤ)) → ((P : Part ℤ) → In P Ps → Sound n P)
    → (name : GName) (old : List ℕ) (f : Filled ℕ) (g : Filling ℕ) → f ≡ record { put = []; rest = old; lender = name } → filled g ≡ after f (map byte (values_from M s Ps))
    → g.buffer.now ≡ put_values M Ps s old
values_all M law n s Ps o name old f g ef eg =
    let vs = map byte (values_from M s Ps) in
    whole_is g ∙ ap whole (eg ∙ ap (λ (k : Filled ℕ). after k vs) ef)
    ∙ ap (λ k. vs ++ drop k old) (length-map (values_from M s Ps) byte ∙ length_values M law n s Ps o)
