-- What the reader does at a byte, by its state and the byte's class.
use Rattle.std.specs.Prelude.{ℕ, ◌+◌, ◌*◌, Bool, true, false, cond, not, ◌&&◌, ◌==◌, nat_le, nat_lt}
use Rattle.fault.specs.declared.Refusal.{Refusal}
use Rattle.fault.specs.declared.Refusal.TheVariants.{UnexpectedByte, MalformedHeader, UnexpectedEnd}
use Rattle.dimacs.specs.declared.Class.{Class}
use Rattle.dimacs.specs.declared.Class.TheVariants.{Space, OtherBlank, LineFeed, Minus, Digit, C, N, F, P, Other}
use Rattle.dimacs.specs.declared.State.{State}
use Rattle.dimacs.specs.declared.State.TheVariants.{LineStart, Gap, Comment, Keyword, Variables, BeforeClauses, Clauses, Sign, Zero, Number}

pub data Step : Type 0 where
  -- go on in a state
  go : State → Step
  -- the header is over, with its n and k
  head : ℕ → ℕ → Step
  -- a number is over, with its first byte's place, its sign and size; go on in a state
  put : ℕ → Bool → ℕ → State → Step
  -- decline, at a place
  stop : Refusal → ℕ → Step

-- at a line's start or in a gap
abbrev pub on_gap : Bool → Bool → ℕ → Class → Step
on_gap first headed at Space = go Gap
on_gap first headed at OtherBlank = go Gap
on_gap first headed at LineFeed = go LineStart
on_gap first headed at Minus = cond headed (go (Sign at)) (stop UnexpectedByte at)
on_gap first headed at (Digit d) = cond headed (cond (d == 0) (go (Zero at)) (go (Number at false d))) (stop UnexpectedByte at)
on_gap first headed at C = cond first (go Comment) (stop UnexpectedByte at)
on_gap first headed at N = stop UnexpectedByte at
on_gap first headed at F = stop UnexpectedByte at
on_gap first headed at P = cond (first && not headed) (go (Keyword at 0)) (stop UnexpectedByte at)
on_gap first headed at Other = stop UnexpectedByte at

abbrev pub on_comment : Class → Step
on_comment Space = go Comment
on_comment OtherBlank = go Comment
on_comment LineFeed = go LineStart
on_comment Minus = go Comment
on_comment (Digit d) = go Comment
on_comment C = go Comment
on_comment N = go Comment
on_comment F = go Comment
on_comment P = go Comment
on_comment Other = go Comment

-- after `p`, the bytes ` cnf ` in order, and then a digit
abbrev pub on_keyword : ℕ → ℕ → Class → Step
on_keyword from matched Space = cond (matched == 0) (go (Keyword from 1)) (cond (matched == 4) (go (Keyword from 5)) (stop MalformedHeader from))
on_keyword from matched OtherBlank = stop MalformedHeader from
on_keyword from matched LineFeed = stop MalformedHeader from
on_keyword from matched Minus = stop MalformedHeader from
on_keyword from matched (Digit d) = cond (matched == 5) (go (Variables from d)) (stop MalformedHeader from)
on_keyword from matched C = cond (matched == 1) (go (Keyword from 2)) (stop MalformedHeader from)
on_keyword from matched N = cond (matched == 2) (go (Keyword from 3)) (stop MalformedHeader from)
on_keyword from matched F = cond (matched == 3) (go (Keyword from 4)) (stop MalformedHeader from)
on_keyword from matched P = stop MalformedHeader from
on_keyword from matched Other = stop MalformedHeader from

-- in the digits of n: at most nine, not led by 0
abbrev pub on_variables : ℕ → ℕ → Class → Step
on_variables from value Space = go (BeforeClauses from value)
on_variables from value OtherBlank = stop MalformedHeader from
on_variables from value LineFeed = stop MalformedHeader from
on_variables from value Minus = stop MalformedHeader from
on_variables from value (Digit d) = cond (nat_lt 0 value && nat_lt value 100_000_000) (go (Variables from (10 * value + d))) (stop MalformedHeader from)
on_variables from value C = stop MalformedHeader from
on_variables from value N = stop MalformedHeader from
on_variables from value F = stop MalformedHeader from
on_variables from value P = stop MalformedHeader from
on_variables from value Other = stop MalformedHeader from

abbrev pub on_before_clauses : ℕ → ℕ → Class → Step
on_before_clauses from variables Space = stop MalformedHeader from
on_before_clauses from variables OtherBlank = stop MalformedHeader from
on_before_clauses from variables LineFeed = stop MalformedHeader from
on_before_clauses from variables Minus = stop MalformedHeader from
on_before_clauses from variables (Digit d) = go (Clauses from variables d)
on_before_clauses from variables C = stop MalformedHeader from
on_before_clauses from variables N = stop MalformedHeader from
on_before_clauses from variables F = stop MalformedHeader from
on_before_clauses from variables P = stop MalformedHeader from
on_before_clauses from variables Other = stop MalformedHeader from

-- in the digits of k: at most 1,000,000, not led by 0
abbrev pub on_clauses : ℕ → ℕ → ℕ → Class → Step
on_clauses from variables value Space = stop MalformedHeader from
on_clauses from variables value OtherBlank = stop MalformedHeader from
on_clauses from variables value LineFeed = head variables value
on_clauses from variables value Minus = stop MalformedHeader from
on_clauses from variables value (Digit d) = cond (nat_lt 0 value && nat_le (10 * value + d) 1_000_000) (go (Clauses from variables (10 * value + d))) (stop MalformedHeader from)
on_clauses from variables value C = stop MalformedHeader from
on_clauses from variables value N = stop MalformedHeader from
on_clauses from variables value F = stop MalformedHeader from
on_clauses from variables value P = stop MalformedHeader from
on_clauses from variables value Other = stop MalformedHeader from

abbrev pub on_sign : ℕ → ℕ → Class → Step
on_sign from at Space = stop UnexpectedByte at
on_sign from at OtherBlank = stop UnexpectedByte at
on_sign from at LineFeed = stop UnexpectedByte at
on_sign from at Minus = stop UnexpectedByte at
on_sign from at (Digit d) = cond (nat_lt 0 d) (go (Number from true d)) (stop UnexpectedByte at)
on_sign from at C = stop UnexpectedByte at
on_sign from at N = stop UnexpectedByte at
on_sign from at F = stop UnexpectedByte at
on_sign from at P = stop UnexpectedByte at
on_sign from at Other = stop UnexpectedByte at

abbrev pub on_zero : ℕ → ℕ → Class → Step
on_zero from at Space = put from false 0 Gap
on_zero from at OtherBlank = put from false 0 Gap
on_zero from at LineFeed = put from false 0 LineStart
on_zero from at Minus = stop UnexpectedByte at
on_zero from at (Digit d) = stop UnexpectedByte at
on_zero from at C = stop UnexpectedByte at
on_zero from at N = stop UnexpectedByte at
on_zero from at F = stop UnexpectedByte at
on_zero from at P = stop UnexpectedByte at
on_zero from at Other = stop UnexpectedByte at

-- a number with one digit more; those from 1,000,000,000 on, which no header allows, count as that
abbrev pub grown : ℕ → ℕ → ℕ
grown size d = cond (nat_lt size 100_000_000) (10 * size + d) 1_000_000_000

abbrev pub on_number : ℕ → Bool → ℕ → ℕ → Class → Step
on_number from negative size at Space = put from negative size Gap
on_number from negative size at OtherBlank = put from negative size Gap
on_number from negative size at LineFeed = put from negative size LineStart
on_number from negative size at Minus = stop UnexpectedByte at
on_number from negative size at (Digit d) = go (Number from negative (grown size d))
on_number from negative size at C = stop UnexpectedByte at
on_number from negative size at N = stop UnexpectedByte at
on_number from negative size at F = stop UnexpectedByte at
on_number from negative size at P = stop UnexpectedByte at
on_number from negative size at Other = stop UnexpectedByte at

-- the step at a byte of this class and place; `headed` says whether the header is behind it
abbrev pub step_of : Bool → State → Class → ℕ → Step
step_of headed LineStart c at = on_gap true headed at c
step_of headed Gap c at = on_gap false headed at c
step_of headed Comment c at = on_comment c
step_of headed (Keyword from matched) c at = on_keyword from matched c
step_of headed (Variables from value) c at = on_variables from value c
step_of headed (BeforeClauses from variables) c at = on_before_clauses from variables c
step_of headed (Clauses from variables value) c at = on_clauses from variables value c
step_of headed (Sign from) c at = on_sign from at c
step_of headed (Zero from) c at = on_zero from at c
step_of headed (Number from negative size) c at = on_number from negative size at c

-- the step at the text's end, at its length
abbrev pub end_of : Bool → State → ℕ → Step
end_of headed LineStart len = cond headed (go LineStart) (stop UnexpectedEnd len)
end_of headed Gap len = cond headed (go Gap) (stop UnexpectedEnd len)
end_of headed Comment len = cond headed (go Comment) (stop UnexpectedEnd len)
end_of headed (Keyword from matched) len = stop MalformedHeader from
end_of headed (Variables from value) len = stop MalformedHeader from
end_of headed (BeforeClauses from variables) len = stop MalformedHeader from
end_of headed (Clauses from variables value) len = stop MalformedHeader from
end_of headed (Sign from) len = stop UnexpectedEnd len
end_of headed (Zero from) len = put from false 0 LineStart
end_of headed (Number from negative size) len = put from negative size LineStart
