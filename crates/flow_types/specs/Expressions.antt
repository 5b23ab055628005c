use Rattle.std.specs.Prelude.{ℕ, Bool, not, ◌&&◌, ◌||◌, if◌then◌else◌, nat_le, nat_lt, List, ◌++◌, take, length, slice_index, ℤ, pos, ◌+ℤ◌, ◌-ℤ◌, ◌*ℤ◌, int_div, int_rem, zero, suc}
use Rattle.std.specs.Int.{int_wrap, w64}
use Rattle.std.specs.Ordering.{is_eq, is_ne, is_lt, is_le, is_gt, is_ge, int_eq}
use Rattle.flow_types.specs.declared.value.Value.{Value}
use Rattle.flow_types.specs.declared.value.Value.TheVariants as value
use Rattle.flow_types.specs.declared.expr.UnOp.{UnOp}
use Rattle.flow_types.specs.declared.expr.UnOp.TheVariants as un
use Rattle.flow_types.specs.declared.expr.BinOp.{BinOp}
use Rattle.flow_types.specs.declared.expr.BinOp.TheVariants as bin
use Rattle.flow_types.specs.declared.expr.Expr.{Expr, fold-Expr}
use Rattle.flow_types.specs.declared.expr.Expr.TheOpen as open_expr
use Rattle.flow_types.specs.Values.{value_cmp, long_of, flag_of, bytes_of}
use Rattle.flow_types.specs.Tuples.{Tuple, field}

-- The values of expressions. Arithmetic is Java's; division by zero is this project's own.

-- the one Long that is congruent to a number modulo 2^64
abbrev pub wrap : ℤ → ℤ
wrap n = int_wrap w64 n

-- division toward zero; 0 where the divisor is 0, and the least Long by -1 is the least Long
abbrev pub div : ℤ → ℤ → ℤ
div a b = if int_eq b (pos 0) then pos 0 else wrap (int_div a b)

-- the remainder, with the sign of the dividend; 0 where the divisor is 0 or -1
abbrev pub rem : ℤ → ℤ → ℤ
rem a b = if int_eq b (pos 0) then pos 0 else int_rem a b

-- a byte that goes on with a code point which an earlier byte began
abbrev pub goes_on : ℕ → Bool
goes_on b = nat_le 128 b && nat_lt b 192

-- the greatest place at most n at which a text can be cut between code points
abbrev pub cut_place : List ℕ → ℕ → ℕ
cut_place bytes zero = 0
cut_place bytes (suc n) = if goes_on (slice_index bytes (suc n)) then cut_place bytes n else suc n

-- the longest prefix of at most n bytes that ends between code points
abbrev pub cut : ℕ → List ℕ → List ℕ
cut n bytes = if nat_le (length bytes) n then bytes else take (cut_place bytes n) bytes

-- an operation on one value
abbrev pub apply_one : UnOp → Value → Value
apply_one un.Not a = value.Bool (not (flag_of a))
apply_one un.Len a = value.Long (pos (length (bytes_of a)))

-- an operation on two values
abbrev pub apply_two : BinOp → Value → Value → Value
apply_two bin.Add a b = value.Long (wrap (long_of a +ℤ long_of b))
apply_two bin.Sub a b = value.Long (wrap (long_of a -ℤ long_of b))
apply_two bin.Mul a b = value.Long (wrap (long_of a *ℤ long_of b))
apply_two bin.Div a b = value.Long (div (long_of a) (long_of b))
apply_two bin.Rem a b = value.Long (rem (long_of a) (long_of b))
apply_two bin.Eq a b = value.Bool (is_eq (value_cmp a b))
apply_two bin.Ne a b = value.Bool (is_ne (value_cmp a b))
apply_two bin.Lt a b = value.Bool (is_lt (value_cmp a b))
apply_two bin.Le a b = value.Bool (is_le (value_cmp a b))
apply_two bin.Gt a b = value.Bool (is_gt (value_cmp a b))
apply_two bin.Ge a b = value.Bool (is_ge (value_cmp a b))
apply_two bin.And a b = value.Bool (flag_of a && flag_of b)
apply_two bin.Or a b = value.Bool (flag_of a || flag_of b)
apply_two bin.Cat a b = value.Str (bytes_of a ++ bytes_of b)

-- the value of an expression at a tuple, from the values of its parts
abbrev pub node_value : Tuple → open_expr.Expr-F Value → Value
node_value t (open_expr.Expr-F.Lit v) = v
node_value t (open_expr.Expr-F.Field k) = field k t
node_value t (open_expr.Expr-F.Un op a) = apply_one op a
node_value t (open_expr.Expr-F.Bin op a b) = apply_two op a b
node_value t (open_expr.Expr-F.If c a b) = if flag_of c then a else b
node_value t (open_expr.Expr-F.Cut a n) = value.Str (cut n (bytes_of a))

-- the value of an expression at a tuple
abbrev pub val : Tuple → Expr → Value
val t = fold-Expr Value (node_value t)
