-- `&&` and `||`, by the truth of the first part that settles the whole one: false, and true.
-- Source: ISO/IEC 9899:1990, 6.3.13, 6.3.14; Aho, Lam, Sethi and Ullman, Compilers, 6.6 (short-circuit code).
use Rattle.std.specs.Prelude.{Bool, true, false, not}
use Rattle.c_meaning.specs.declared.core_expr.CoreKind.{CoreKind}
use Rattle.c_meaning.specs.declared.core_expr.CoreKind.TheVariants.{And, Or}

abbrev pub connecting : Bool → CoreKind
connecting true = Or
connecting false = And

-- the whole has this truth where the first part settles it
abbrev pub settles : Bool → Bool → Bool
settles true when = when
settles false when = not when
