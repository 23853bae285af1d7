-- An answer that may decline, taken apart again.
use Rattle.std.proofs.Common.{◌≡◌, ℕ, true, false, not, is_some, is_ok, Some, None, Ok, Err, Option, refl, arith}
use Rattle.fault.specs.declared.Fault.{Fault}
use Rattle.fault.specs.declared.Refusal.{Refusal}
use Rattle.network_theory.specs.Calls.{answered}

-- a call that declined answers the same fault whatever it would have answered
pub err_answered : {X Y : Type 0} (o : Option Refusal) (x : X) (y : Y) (e : Fault) → Err e ≡ answered o x → (is_some o ≡ true) × (Err e ≡ answered o y)
err_answered None x y e h = let z : ◌≡◌ {A = ℕ} 0 1 = cc in absurd (omega arith)
err_answered (Some k) x y e h = (refl, cc)

-- a call that was taken had no reason to decline, and answers what it was to answer
pub ok_answered : {X : Type 0} (o : Option Refusal) (x z : X) → Ok z ≡ answered o x → (is_some o ≡ false) × (z ≡ x)
ok_answered None x z h = (refl, cc)
ok_answered (Some k) x z h = let n : ◌≡◌ {A = ℕ} 0 1 = cc in absurd (omega arith)

pub is_ok_answered : {X : Type 0} (o : Option Refusal) (x : X) → is_ok (answered o x) ≡ not (is_some o)
is_ok_answered None x = refl
is_ok_answered (Some k) x = refl
