-- Blanks, line feeds, and the class of a byte.
use Rattle.std.specs.Prelude.{ℕ, ◌-◌, Bool, cond, ◌&&◌, ◌||◌, ◌==◌, nat_le}
use Rattle.dimacs.specs.declared.Class.{Class}
use Rattle.dimacs.specs.declared.Class.TheVariants.{Space, OtherBlank, LineFeed, Minus, Digit, C, N, F, P, Other}

-- the byte that ends a line
abbrev pub is_feed : ℕ → Bool
is_feed b = b == 10

-- space, tab, carriage return and line feed
abbrev pub is_blank : ℕ → Bool
is_blank b = b == 32 || (b == 9 || (b == 13 || b == 10))

abbrev pub class_of : ℕ → Class
class_of b =
    cond (b == 32) Space (
    cond (b == 9 || b == 13) OtherBlank (
    cond (b == 10) LineFeed (
    cond (b == 45) Minus (
    cond (nat_le 48 b && nat_le b 57) (Digit (b - 48)) (
    cond (b == 99) C (
    cond (b == 110) N (
    cond (b == 102) F (
    cond (b == 112) P Other))))))))
