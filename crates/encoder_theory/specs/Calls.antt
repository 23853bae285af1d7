-- What the four calls of an encoder answer, and what they leave in the buffer.
use Rattle.std.specs.Prelude.{ℕ, ◌+◌, ◌*◌, Bool, true, false, cond, not, ◌&&◌, List, [], ◌∷◌, ◌++◌, map, length, drop, ℤ, pos, negsuc, Some, None, Ok, Err, Option, Result, ◌==◌, nat_le, nat_lt, unsigned_abs}
use Rattle.std.specs.List.{list_any}
use Rattle.fault.specs.declared.Fault.{Fault}
use Rattle.fault.specs.declared.Layer.TheVariants.{Encoder}
use Rattle.fault.specs.declared.Refusal.TheVariants.{BufferShort, UnfitMembers}
use Rattle.logic.specs.Literal.{variable}
use Rattle.logic.specs.Clause.{flat}
use Rattle.encoder_theory.specs.Buffer.{byte}
use Rattle.encoder_theory.specs.Meaning.{Meaning, most_members, last_end}

-- number 12: the members, the first number or the place will not do
abbrev pub unfit : Fault
unfit = record { refusal = UnfitMembers; layer = Encoder; place = 0 }

-- number 10: the buffer is too short
abbrev pub short : Fault
short = record { refusal = BufferShort; layer = Encoder; place = 0 }

-- a member is on the variable v
abbrev pub uses : List ℤ → ℕ → Bool
uses xs v = list_any (λ x. variable x == v) xs

-- the members are literals on distinct variables below first
abbrev pub is_proper : List ℤ → ℕ → Bool
is_proper [] first = true
is_proper (x ∷ xs) first = nat_le 1 (variable x) && nat_lt (variable x) first && not (uses xs (variable x)) && is_proper xs first

-- a call admits the members with n auxiliaries from first on
abbrev pub is_admitted : List ℤ → ℤ → ℕ → Bool
is_admitted xs (pos first) n = nat_le (length xs) most_members && nat_le 1 first && nat_le (first + n) last_end && is_proper xs first
is_admitted xs (negsuc k) n = false

-- a call admits the place among m members
abbrev pub is_placed : ℕ → Option ℕ → Bool
is_placed m None = nat_le m most_members
is_placed m (Some t) = nat_le m most_members && nat_lt t m

-- 12 unless the call is fit, then 10 unless there is room
abbrev pub answer : {X : Type 0} → Bool → Bool → X → Result X Fault
answer fit room x = cond fit (cond room (Ok x) (Err short)) (Err unfit)

-- new, if the call is not declined; a declined call leaves what was there
abbrev pub left : {X : Type 0} → Bool → Bool → X → X → X
left fit room new old = cond fit (cond room new old) old

-- what a call that tells the number n of m members answers
abbrev pub told : ℕ → ℕ → Result ℕ Fault
told m n = answer (nat_le m most_members) true n

module _ (M : Meaning) where
  -- a call admits the members, and the buffer has room for the clauses
  abbrev pub clauses_fit : List ℤ → ℤ → Bool
  clauses_fit xs first = is_admitted xs first (M.auxiliaries (length xs))

  abbrev pub clauses_room : List ℤ → List ℤ → Bool
  clauses_room xs out = nat_le (2 * M.clauses (length xs)) (length out)

  -- what `write` answers
  abbrev pub write_answer : List ℤ → ℤ → List ℤ → Result (Unit {0}) Fault
  write_answer xs first out = answer (clauses_fit xs first) (clauses_room xs out) tt

  -- the clauses stand at the start of the buffer, two numbers each
  abbrev pub written : List ℤ → ℕ → List ℤ → List ℤ
  written xs first out = flat (M.list xs first) ++ drop (2 * M.clauses (length xs)) out

  -- what `write` leaves in the buffer; an admitted first number is not negative
  abbrev pub write_leaves : List ℤ → ℤ → List ℤ → List ℤ
  write_leaves xs first out = left (clauses_fit xs first) (clauses_room xs out) (written xs (unsigned_abs first) out) out

  -- the buffer has room for the values
  abbrev pub values_room : ℕ → List ℕ → Bool
  values_room m out = nat_le (M.auxiliaries m) (length out)

  -- what `values` answers
  abbrev pub values_answer : ℕ → Option ℕ → List ℕ → Result (Unit {0}) Fault
  values_answer m t out = answer (is_placed m t) (values_room m out) tt

  -- the values stand at the start of the buffer, as bytes 0 and 1
  abbrev pub filled : ℕ → Option ℕ → List ℕ → List ℕ
  filled m t out = map byte (M.values m t) ++ drop (M.auxiliaries m) out

  -- what `values` leaves in the buffer
  abbrev pub values_leaves : ℕ → Option ℕ → List ℕ → List ℕ
  values_leaves m t out = left (is_placed m t) (values_room m out) (filled m t out) out
