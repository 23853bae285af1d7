-- When each call on a network declines, what it answers, and what it leaves in the words.
use Rattle.std.specs.Prelude.{ℕ, Bool, cond, not, ◌&&◌, ◌||◌, List, [], ◌∷◌, length, ℤ, is_some, Some, None, Ok, Err, Option, Result, ◌==◌, nat_lt}
use Rattle.fault.specs.declared.Fault.{Fault}
use Rattle.fault.specs.declared.Refusal.{Refusal}
use Rattle.fault.specs.declared.Refusal.TheVariants.{VariableCount, WordsShort, LiteralOutOfRange, RepeatedLiteral, ComplementaryPair}
use Rattle.fault.specs.declared.Layer.TheVariants.{Network}
use Rattle.logic.specs.Literal.{complement, is_literal, index}
use Rattle.network_theory.specs.declared.Call.{Call}
use Rattle.network_theory.specs.declared.Call.TheVariants.{Add}
use Rattle.network_theory.specs.Layout.{words_needed, stands, with_conflict, cleared, Net}

-- a network has at most 4,096 variables
abbrev pub most_variables : ℕ
most_variables = 4096

-- the fault with which a call on a network declines
abbrev pub declines : Refusal → Fault
declines k = record { refusal = k; layer = Network; place = 0 }

-- the answer x, unless there is a reason to decline
abbrev pub answered : {X : Type 0} → Option Refusal → X → Result X Fault
answered None x = Ok x
answered (Some k) x = Err (declines k)

-- why n variables will not do with so many words, if they will not: refusal 1, then 2
abbrev pub misfit : ℕ → ℕ → Option Refusal
misfit n words =
    cond (n == 0 || nat_lt most_variables n) (Some VariableCount)
    (cond (nat_lt words (words_needed n)) (Some WordsShort)
    None)

-- the variables of the network that is opened for n variables on so many words: with unfit numbers it has none
abbrev pub opened_variables : ℕ → ℕ → ℕ
opened_variables n words = cond (is_some (misfit n words)) 0 n

-- the network that is opened for n variables on these words; one of 0 variables needs no word, and so has none cleared
abbrev pub opened : ℕ → List ℕ → Net
opened n lent = record {
  variables = opened_variables n (length lent);
  words = cleared (opened_variables n (length lent)) lent;
}

-- why a call on an open network of n variables is declined, if it is: an add by refusal 3, then 4, then 5.
-- Literals are the same if their indices are
abbrev pub objection : ℕ → Call → Option Refusal
objection n (Add a b) =
    cond (not (is_literal n a && is_literal n b)) (Some LiteralOutOfRange)
    (cond (index a == index b) (Some RepeatedLiteral)
    (cond (index a == index (complement b)) (Some ComplementaryPair)
    None))

-- what an add of a and b answers: whether the conflict is new
abbrev pub add_answer : Net → ℤ → ℤ → Result Bool Fault
add_answer net a b = answered (objection net.variables (Add a b)) (not (stands net.variables net.words (index a) (index b)))

-- the words after a call: as before where it is declined
abbrev pub words_after : Net → Call → List ℕ
words_after net (Add a b) = cond (is_some (objection net.variables (Add a b))) net.words (with_conflict net.variables net.words (index a) (index b))

-- the network after a call
abbrev pub after : Net → Call → Net
after net call = record { variables = net.variables; words = words_after net call }

-- and after a list of calls, each taken or declined
abbrev pub run : Net → List Call → Net
run net [] = net
run net (call ∷ calls) = run (after net call) calls
