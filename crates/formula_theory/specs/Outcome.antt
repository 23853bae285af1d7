-- What measure, write and complete answer, and what they leave in every buffer.
use Rattle.std.specs.Prelude.{◌≡◌, ℕ, zero, suc, ◌-◌, ◌*◌, Bool, true, cond, not, ◌&&◌, ◌||◌, List, [], ◌∷◌, ◌++◌, map, length, drop, replicate, ℤ, pos, ◌+ℤ◌, Some, None, Ok, Err, Option, Result, ◌==◌, int_le, int_lt, nat_le, nat_lt, slice_index, unsigned_abs}
use Rattle.std.specs.Option.{option_map}
use Rattle.fault.specs.declared.Fault.{Fault}
use Rattle.fault.specs.declared.Layer.TheVariants.{Network, Formula, Cover as CoverLayer}
use Rattle.fault.specs.declared.Refusal.TheVariants.{WordsShort, AuxiliaryRange, UnfitValues, PartListShort, AuxiliariesExhausted, BufferShort, BrokenConflict}
use Rattle.logic.specs.Literal.{literal}
use Rattle.logic.specs.Clause.{Assignment, holds, flat}
use Rattle.encoder_theory.specs.Buffer.{byte}
use Rattle.encoder_theory.specs.Meaning.{Meaning}
use Rattle.network_theory.specs.Layout.{words_needed, cleared}
use Rattle.cover_theory.specs.Parts.{Cover}
use Rattle.cover_theory.specs.Rule.{Rel}
use Rattle.cover_theory.specs.Lies.{numbers, list_holding}
use Rattle.formula_theory.specs.declared.Size.{Size}
use Rattle.formula_theory.specs.Writing.{written_clauses, auxiliary_count, clause_count, auxiliary_values}

-- what a call is given beside the network and the encoder: the first and the last number for auxiliaries,
-- and how many work words and list numbers are lent to the cover
pub record Terms : Type 0 where
  pub first : ℤ
  pub last : ℤ
  pub work : ℕ
  pub list : ℕ

abbrev pub terms : ℤ → ℤ → ℕ → ℕ → Terms
terms first last work list = record { first = first; last = last; work = work; list = list }

-- no auxiliary is numbered above this
abbrev pub most_auxiliary : ℕ
most_auxiliary = 1_000_000_000

-- the number of the first auxiliary, where `first` will do
abbrev pub start : Terms → ℕ
start t = unsigned_abs t.first

-- ---- the faults

-- number 2 is the network's, whoever answers it
abbrev pub words_fault : Fault
words_fault = record { refusal = WordsShort; layer = Network; place = 0 }

abbrev pub range_fault : Fault
range_fault = record { refusal = AuxiliaryRange; layer = Formula; place = 0 }

abbrev pub values_fault : Fault
values_fault = record { refusal = UnfitValues; layer = Formula; place = 0 }

-- number 8 is the cover's
abbrev pub list_fault : Fault
list_fault = record { refusal = PartListShort; layer = CoverLayer; place = 0 }

abbrev pub exhausted_fault : Fault
exhausted_fault = record { refusal = AuxiliariesExhausted; layer = Formula; place = 0 }

abbrev pub buffer_fault : Fault
buffer_fault = record { refusal = BufferShort; layer = Formula; place = 0 }

-- number 11 names its conflict
abbrev pub broken_fault : ℤ × ℤ → Fault
broken_fault c = record { refusal = BrokenConflict c.0 c.1; layer = Formula; place = 0 }

-- ---- when each is met

-- 2: fewer work words than the network needs
abbrev pub words_short : ℕ → Terms → Bool
words_short n t = nat_lt t.work (words_needed n)

-- 6: first is not above n, last is too large, or last + 1 is below first
abbrev pub range_unfit : ℕ → Terms → Bool
range_unfit n t = int_le t.first (pos n) || (int_lt (pos most_auxiliary) t.last || int_lt (t.last +ℤ pos 1) t.first)

-- 7: other than n values, or one besides 0 and 1
abbrev pub are_bits : List ℕ → Bool
are_bits [] = true
are_bits (b ∷ bs) = nat_le b 1 && are_bits bs

abbrev pub values_unfit : ℕ → List ℕ → Bool
values_unfit n values = not (length values == n && are_bits values)

-- 8: the list is too short for the parts
abbrev pub list_short : Cover → Terms → Bool
list_short C t = nat_lt t.list (length (numbers C.parts))

-- 9: the auxiliaries would pass last
abbrev pub exhausted : Meaning → Cover → Terms → Bool
exhausted M C t = int_lt (t.last +ℤ pos 1) (t.first +ℤ pos (auxiliary_count M C))

-- 10: a buffer of so many elements is too short for what is to be put there
abbrev pub buffer_short : ℕ → ℕ → Bool
buffer_short needed room = nat_lt room needed

-- 11: the first of the conflicts, by the index of the one literal and then of the other, that has both literals true
abbrev pub broken_at : Rel → Assignment → ℕ → ℕ → Bool
broken_at rel s u w = rel u w && (holds s (literal u) && holds s (literal w))

-- among the conflicts of u with the k literals from w on
abbrev pub broken_along : Rel → Assignment → ℕ → ℕ → ℕ → Option (ℤ × ℤ)
broken_along rel s u zero w = None
broken_along rel s u (suc k) w = cond (broken_at rel s u w) (Some (literal u, literal w)) (broken_along rel s u k (suc w))

-- x, or else y
abbrev pub or_else : {X : Type 0} → Option X → Option X → Option X
or_else None y = y
or_else (Some x) y = Some x

-- among the conflicts of the k literals from u on, each with all of N after it
abbrev pub broken_from : ℕ → Rel → Assignment → ℕ → ℕ → Option (ℤ × ℤ)
broken_from N rel s zero u = None
broken_from N rel s (suc k) u = or_else (broken_along rel s u (N - suc u) (suc u)) (broken_from N rel s k (suc u))

abbrev pub first_broken : ℕ → Rel → Assignment → Option (ℤ × ℤ)
first_broken n rel s = broken_from (2 * n) rel s (2 * n) 0

-- the assignment of the variables 1, 2, .. that bytes tell: 1 is true
abbrev pub assignment_of : List ℕ → Assignment
assignment_of values v = slice_index values (v - 1) == 1

-- ---- what is refused: of several, the smallest number

abbrev pub measure_refusal : ℕ → Cover → Meaning → Terms → Option Fault
measure_refusal n C M t =
    cond (words_short n t) (Some words_fault)
    (cond (range_unfit n t) (Some range_fault)
    (cond (list_short C t) (Some list_fault)
    (cond (exhausted M C t) (Some exhausted_fault)
    None)))

abbrev pub write_refusal : ℕ → Cover → Meaning → Terms → ℕ → Option Fault
write_refusal n C M t room =
    cond (words_short n t) (Some words_fault)
    (cond (range_unfit n t) (Some range_fault)
    (cond (list_short C t) (Some list_fault)
    (cond (exhausted M C t) (Some exhausted_fault)
    (cond (buffer_short (2 * clause_count M C) room) (Some buffer_fault)
    None))))

abbrev pub complete_refusal : ℕ → Rel → Cover → Meaning → Terms → List ℕ → ℕ → Option Fault
complete_refusal n rel C M t values room =
    cond (words_short n t) (Some words_fault)
    (cond (range_unfit n t) (Some range_fault)
    (cond (values_unfit n values) (Some values_fault)
    (cond (list_short C t) (Some list_fault)
    (cond (exhausted M C t) (Some exhausted_fault)
    (cond (buffer_short (auxiliary_count M C) room) (Some buffer_fault)
    (option_map broken_fault (first_broken n rel (assignment_of values))))))))

-- ---- answers

-- the answer x, unless the call is refused
abbrev pub unless_refused : {X : Type 0} → Option Fault → X → Result X Fault
unless_refused None x = Ok x
unless_refused (Some f) x = Err f

-- the numbers of clauses and auxiliaries
abbrev pub size_of : Meaning → Cover → Size
size_of M C = record { clauses = clause_count M C; auxiliaries = auxiliary_count M C }

abbrev pub measure_answer : ℕ → Cover → Meaning → Terms → Result Size Fault
measure_answer n C M t = unless_refused (measure_refusal n C M t) (size_of M C)

abbrev pub write_answer : ℕ → Cover → Meaning → Terms → ℕ → Result Size Fault
write_answer n C M t room = unless_refused (write_refusal n C M t room) (size_of M C)

-- what write answers, told from what measure answers: the buffer may be too short as well
abbrev pub if_room : ℕ → Result Size Fault → Result Size Fault
if_room room (Ok s) = cond (buffer_short (2 * s.clauses) room) (Err buffer_fault) (Ok s)
if_room room (Err f) = Err f

abbrev pub MeasureForetells : Type 0
MeasureForetells = (n : ℕ) (C : Cover) (M : Meaning) (t : Terms) (room : ℕ) → write_answer n C M t room ≡ if_room room (measure_answer n C M t)

-- complete answers the number of auxiliaries
abbrev pub complete_answer : ℕ → Rel → Cover → Meaning → Terms → List ℕ → ℕ → Result ℕ Fault
complete_answer n rel C M t values room = unless_refused (complete_refusal n rel C M t values room) (auxiliary_count M C)

-- ---- buffers

-- a buffer after a call: new, but as it was where the call is refused
abbrev pub kept_if_refused : {X : Type 0} → Option Fault → X → X → X
kept_if_refused None new old = new
kept_if_refused (Some f) new old = old

-- the clauses from the buffer's start, two numbers each; the rest untouched
abbrev pub write_leaves : ℕ → Cover → Meaning → Terms → List ℤ → List ℤ
write_leaves n C M t out =
    kept_if_refused (write_refusal n C M t (length out)) (flat (written_clauses M C (start t)) ++ drop (2 * clause_count M C) out) out

-- each auxiliary's byte at its number minus first; the rest untouched
abbrev pub complete_leaves : ℕ → Rel → Cover → Meaning → Terms → List ℕ → List ℕ → List ℕ
complete_leaves n rel C M t values out =
    kept_if_refused (complete_refusal n rel C M t values (length out)) (map byte (auxiliary_values M C (assignment_of values)) ++ drop (auxiliary_count M C) out) out

-- what the call is refused for before it covers: measure and write by 2 and 6, complete also by 7
abbrev pub early_refused : ℕ → Terms → Bool
early_refused n t = words_short n t || range_unfit n t

abbrev pub complete_early_refused : ℕ → Terms → List ℕ → Bool
complete_early_refused n t values = words_short n t || (range_unfit n t || values_unfit n values)

-- a buffer that is lent to the cover: as it was where the call is refused before it covers,
-- zero where the list is too short, and otherwise, refused later or not, as the cover leaves it
abbrev pub after_cover : {X : Type 0} → Bool → Bool → X → X → X → X
after_cover early short old zeroed covered = cond early old (cond short zeroed covered)

-- the work words; `covered` is what the cover leaves there
abbrev pub work_after : Bool → ℕ → Cover → Terms → List ℕ → List ℕ → List ℕ
work_after early n C t old covered = after_cover early (list_short C t) old (cleared n old) covered

-- the list
abbrev pub list_after : Bool → Cover → Terms → List ℤ → List ℤ
list_after early C t old = after_cover early (list_short C t) old (replicate (length old) (pos 0)) (list_holding C.parts (length old))
