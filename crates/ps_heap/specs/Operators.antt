-- The operators: the value that each gives, or the trap that it ends in.
use Rattle.std.specs.Prelude.{ℤ, pos, negsuc, ◌+ℤ◌, ◌-ℤ◌, ◌*ℤ◌, neg_ℤ, ◌^◌, Bool, false, nat_lt, nat_eq, not, if◌then◌else◌, int_div, int_rem, int_lt, int_le}
use Rattle.ps_base.specs.declared.trap.Trap.{Trap}
use Rattle.ps_base.specs.declared.trap.Trap.TheVariants.{Overflow, ZeroDivisor}
use Rattle.ps_base.specs.declared.operator.Operator.{Operator}
use Rattle.ps_base.specs.declared.operator.Operator.TheVariants.{Add, Sub, Mul, Div, Rem}
use Rattle.ps_base.specs.declared.operator.Relation.{Relation}
use Rattle.ps_base.specs.declared.operator.Relation.TheVariants.{Equal, NotEqual, Less, LessEqual, Greater, GreaterEqual}

-- what an operator on ints does
pub data Answer : Type 0 where
  Gives : (value : ℤ) → Answer
  Traps : (trap : Trap) → Answer

-- an int has 32 bits, with its sign
abbrev pub is_int : ℤ → Bool
is_int (pos n) = nat_lt n (2 ^ 31)
is_int (negsuc n) = nat_lt n (2 ^ 31)

-- the number where it is an int, and else the trap of an overflow
abbrev pub in_range : ℤ → Answer
in_range z = if is_int z then Gives z else Traps Overflow

abbrev pub is_same : ℤ → ℤ → Bool
is_same (pos a) (pos b) = nat_eq a b
is_same (pos a) (negsuc b) = false
is_same (negsuc a) (pos b) = false
is_same (negsuc a) (negsuc b) = nat_eq a b

abbrev pub add_of : ℤ → ℤ → Answer
add_of a b = in_range (a +ℤ b)

abbrev pub sub_of : ℤ → ℤ → Answer
sub_of a b = in_range (a -ℤ b)

abbrev pub mul_of : ℤ → ℤ → Answer
mul_of a b = in_range (a *ℤ b)

-- the quotient towards zero; the divisor is tested before the range
abbrev pub div_of : ℤ → ℤ → Answer
div_of a b = if is_same b (pos 0) then Traps ZeroDivisor else in_range (int_div a b)

-- the remainder, which has the sign of the dividend
abbrev pub rem_of : ℤ → ℤ → Answer
rem_of a b = if is_same b (pos 0) then Traps ZeroDivisor else Gives (int_rem a b)

abbrev pub neg_of : ℤ → Answer
neg_of a = in_range (neg_ℤ a)

abbrev pub arith_of : Operator → ℤ → ℤ → Answer
arith_of Add a b = add_of a b
arith_of Sub a b = sub_of a b
arith_of Mul a b = mul_of a b
arith_of Div a b = div_of a b
arith_of Rem a b = rem_of a b

abbrev pub relation_of : Relation → ℤ → ℤ → Bool
relation_of Equal a b = is_same a b
relation_of NotEqual a b = not (is_same a b)
relation_of Less a b = int_lt a b
relation_of LessEqual a b = int_le a b
relation_of Greater a b = int_lt b a
relation_of GreaterEqual a b = int_le b a
