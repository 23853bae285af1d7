-- Which faults come out of the reader and of the program.
use Rattle.std.proofs.Common.{◌≡◌, ℕ, ◌+◌, ◌≤◌, Bool, true, false, eqb, ltb, leb, ◌⊎◌, List, [], ◌∷◌, length, ℤ, is_some, Some, None, Ok, Err, Option, Result, refl, subst, inl, inr, arith}
use Rattle.std.proofs.lemmas.Bool.{cond_both}
use Rattle.fault.specs.Fault.{number_of}
use Rattle.fault.specs.declared.Fault.{Fault}
use Rattle.dimacs.specs.declared.Class.{Class}
use Rattle.dimacs.specs.declared.Header.{Header}
use Rattle.dimacs.specs.declared.Machine.{Machine}
use Rattle.dimacs.specs.declared.State.{State}
use Rattle.dimacs.specs.declared.State.TheVariants.{LineStart, Gap, Comment, Keyword, Variables, BeforeClauses, Clauses, Sign, Zero, Number}
use Rattle.dimacs.specs.declared.Summary.{Summary}
use Rattle.dimacs.specs.Bytes.{class_of}
use Rattle.dimacs.specs.Steps.{Step, go, head, put, stop, on_gap, on_comment, on_keyword, on_variables, on_before_clauses, on_clauses, on_sign, on_zero, on_number, step_of, end_of}
use Rattle.dimacs.specs.Reading.{Reading, limit_of, applied, listed_by, closed_by, ended, following, step_at, end_at, read_on, start, reading}
use Rattle.encoder_theory.specs.Meaning.{Meaning}
use Rattle.compaction_theory.specs.declared.Scale.{Scale}
use Rattle.compaction_theory.specs.Choices.{encoder_of, most_bytes}
use Rattle.compaction_theory.specs.Printed.{variables_fit, blank, compacted_read, outcome}
use Rattle.compaction_theory.specs.Buffers.{NeverShort}

-- a step declines by the numbers from 13 on alone
abbrev Late : Step → Type 0
Late (go s) = Unit {0}
Late (head n k) = Unit {0}
Late (put from negative size next) = Unit {0}
Late (stop refusal place) = 13 ≤ number_of refusal

gap_late : (first headed : Bool) (at : ℕ) (c : Class) → Late (on_gap first headed at c)
gap_late first headed at c = grind arith

comment_late : (c : Class) → Late (on_comment c)
comment_late c = grind arith

keyword_late : (from matched : ℕ) (c : Class) → Late (on_keyword from matched c)
keyword_late from matched c = grind arith

variables_late : (from value : ℕ) (c : Class) → Late (on_variables from value c)
variables_late from value c = grind arith

before_late : (from variables : ℕ) (c : Class) → Late (on_before_clauses from variables c)
before_late from variables c = grind arith

clauses_late : (from variables value : ℕ) (c : Class) → Late (on_clauses from variables value c)
clauses_late from variables value c = grind arith

sign_late : (from at : ℕ) (c : Class) → Late (on_sign from at c)
sign_late from at c = grind arith

zero_late : (from at : ℕ) (c : Class) → Late (on_zero from at c)
zero_late from at c = grind arith

number_late : (from : ℕ) (negative : Bool) (size at : ℕ) (c : Class) → Late (on_number from negative size at c)
number_late from negative size at c = grind arith

step_late : (headed : Bool) (s : State) (c : Class) (at : ℕ) → Late (step_of headed s c at)
step_late headed LineStart c at = gap_late true headed at c
step_late headed Gap c at = gap_late false headed at c
step_late headed Comment c at = comment_late c
step_late headed (Keyword from matched) c at = keyword_late from matched c
step_late headed (Variables from value) c at = variables_late from value c
step_late headed (BeforeClauses from variables) c at = before_late from variables c
step_late headed (Clauses from variables value) c at = clauses_late from variables value c
step_late headed (Sign from) c at = sign_late from at c
step_late headed (Zero from) c at = zero_late from at c
step_late headed (Number from negative size) c at = number_late from negative size at c

end_late : (headed : Bool) (s : State) (len : ℕ) → Late (end_of headed s len)
end_late headed s len = grind arith

-- ---- the reader

-- a fault has a number from 13 on
abbrev Safe : {X : Type 0} → Result X Fault → Type 0
Safe (Ok x) = Unit {0}
Safe (Err f) = 13 ≤ number_of f.refusal

applied_safe : (m : Machine) (step : Step) (room : ℕ) → Late step → Safe (applied m step room)
applied_safe m (go s) room h = tt
applied_safe m (head n k) room h = tt
applied_safe m (put from negative size next) room h =
    cond_both (ltb (limit_of m.header) size) _ _ Safe (λ e. omega arith) (λ e. cond_both (leb room m.listed) _ _ Safe (λ f. omega arith) (λ f. tt))
applied_safe m (stop refusal place) room h = h

closed_safe : (h : Option Header) (m : Machine) (len : ℕ) → Safe (closed_by h m len)
closed_safe None m len = omega arith
closed_safe (Some h) m len =
    cond_both m.inside _ _ Safe (λ e. omega arith) (λ e. cond_both (eqb m.closed h.clauses) _ _ Safe (λ f. tt) (λ f. omega arith))

ended_safe : (r : Result Machine Fault) (len : ℕ) → Safe r → Safe (ended r len)
ended_safe (Ok m) len h = closed_safe m.header m len
ended_safe (Err f) len h = h

following_safe : (r : Result Machine Fault) (list : List ℤ) (rest : Machine → Reading) → Safe r → ((m : Machine) → Safe (rest m).answer) → Safe (following r list rest).answer
following_safe (Ok m) list rest h k = k m
following_safe (Err f) list rest h k = h

read_safe : (text : List ℕ) (m : Machine) (list : List ℤ) (at : ℕ) → Safe (read_on m list at text).answer
read_safe [] m list at = ended_safe (applied m (end_at m at) (length list)) at (applied_safe m (end_at m at) (length list) (end_late (is_some m.header) m.state at))
read_safe (b ∷ bs) m list at =
    following_safe (applied m (step_at m at b) (length list)) _ _
    (applied_safe m (step_at m at b) (length list) (step_late (is_some m.header) m.state (class_of b) at))
    (λ n. read_safe bs n (listed_by m (step_at m at b) list) (at + 1))

-- ---- the program

-- a fault has the number 1 or one from 13 on
abbrev Fine : Result (List ℕ) Fault → Type 0
Fine (Ok text) = Unit {0}
Fine (Err f) = (number_of f.refusal ≡ 1) ⊎ (13 ≤ number_of f.refusal)

compacted_fine : (scale : Scale) (M : Meaning) (r : Result Summary Fault) (list : List ℤ) → Safe r → Fine (compacted_read scale M r list)
compacted_fine scale M (Err f) list h = inr h
compacted_fine scale M (Ok s) list h = cond_both (variables_fit scale s.variables) _ _ Fine (λ e. tt) (λ e. inl refl)

outcome_fine : (scale : Scale) (text : List ℕ) → Fine (outcome scale text)
outcome_fine scale text =
    cond_both (ltb (most_bytes scale) (length text)) _ _ Fine
    (λ e. inr (omega arith))
    (λ e. compacted_fine scale (encoder_of text) (reading text (blank scale text)).answer (reading text (blank scale text)).list (read_safe text start (blank scale text) 0))

pub never_short : NeverShort
never_short scale text f e = subst Fine e (outcome_fine scale text)
