-- Comparisons, jumps, calls and returns, worked out by hand.
use Rattle.std.specs.Prelude.{◌≡◌, true, false, Some, None, [], ◌∷◌, refl}
use Rattle.lcc_base.specs.declared.order.Order.TheVariants.{Big}
use Rattle.op_forest.specs.declared.op.Op.{Op}
use Rattle.op_forest.specs.declared.op.Op.TheVariants as op
use Rattle.op_forest.specs.declared.suffix.Suffix.{Suffix}
use Rattle.op_forest.specs.declared.suffix.Suffix.TheVariants.{I, U, P, V}
use Rattle.op_forest.specs.declared.sym.Sym.TheVariants as sym
use Rattle.forests.specs.Words.{Word, Label, Partly, unknown}
use Rattle.forests.specs.Worlds.{Next, To, End}
use Rattle.forests.specs.Actions.{Action, Passed, Called, Moved, Meaningless}
use Rattle.forests.proofs.Samples.{number, minus_one, table, variable, gone, at, function, does_with, does}

-- a comparison with label 3
abbrev compares : Op → Suffix → Word → Word → Action
compares o x a b = does_with Big o x (sym.Label 3) None (a ∷ b ∷ [])

equal : compares op.Eq I (number 7) (number 7) ≡ Moved (To 3)
equal = refl

unequal : compares op.Eq I (number 7) (number 8) ≡ Moved Next
unequal = refl

without_label : does op.Eq I (number 7 ∷ number 7 ∷ []) ≡ Meaningless
without_label = refl

equal_unknown : compares op.Eq I unknown (number 8) ≡ Meaningless
equal_unknown = refl

equal_pointers : compares op.Eq I (at table 4) (at table 4) ≡ Moved (To 3)
equal_pointers = refl

-- one past the table is where the variable may begin
equal_one_past : compares op.Eq I (at table 4) (at variable 0) ≡ Meaningless
equal_one_past = refl

equal_others : compares op.Eq I (at table 3) (at variable 0) ≡ Moved Next
equal_others = refl

equal_null : compares op.Eq I (function 1) (number 0) ≡ Moved Next
equal_null = refl

equal_number : compares op.Eq I (function 1) (number 1) ≡ Meaningless
equal_number = refl

equal_dead : compares op.Eq I (at gone 0) (at gone 0) ≡ Meaningless
equal_dead = refl

equal_labels : compares op.Eq I (Label 5 3) (Label 5 3) ≡ Meaningless
equal_labels = refl

differ : compares op.Ne I (number 7) (number 8) ≡ Moved (To 3)
differ = refl

differ_null : compares op.Ne I (at table 0) (number 0) ≡ Moved (To 3)
differ_null = refl

differ_not : compares op.Ne I (at table 0) (at table 0) ≡ Moved Next
differ_not = refl

differ_partly : compares op.Ne I (Partly 1 0) (number 1) ≡ Meaningless
differ_partly = refl

-- -1 is less than 0, and as an unsigned number the greatest
less : compares op.Lt I minus_one (number 0) ≡ Moved (To 3)
less = refl

less_unsigned : compares op.Lt U minus_one (number 0) ≡ Moved Next
less_unsigned = refl

less_pointers : compares op.Lt U (at table 1) (at table 2) ≡ Moved (To 3)
less_pointers = refl

less_others : compares op.Lt U (at table 1) (at variable 2) ≡ Meaningless
less_others = refl

less_pointers_signed : compares op.Lt I (at table 1) (at table 2) ≡ Meaningless
less_pointers_signed = refl

less_equal : compares op.Le I (number 5) (number 5) ≡ Moved (To 3)
less_equal = refl

less_equal_unknown : compares op.Le I (number 5) unknown ≡ Meaningless
less_equal_unknown = refl

less_equal_unsigned : compares op.Le U (at table 2) (at table 2) ≡ Moved (To 3)
less_equal_unsigned = refl

less_equal_dead : compares op.Le U (at gone 2) (at gone 2) ≡ Meaningless
less_equal_dead = refl

greater : compares op.Gt I (number 0) minus_one ≡ Moved (To 3)
greater = refl

greater_equal_numbers : compares op.Gt I (number 5) (number 5) ≡ Moved Next
greater_equal_numbers = refl

greater_function : compares op.Gt I (function 1) (number 0) ≡ Meaningless
greater_function = refl

greater_unsigned : compares op.Gt U (at table 2) (at table 1) ≡ Moved (To 3)
greater_unsigned = refl

greater_null : compares op.Gt U (at table 2) (number 0) ≡ Meaningless
greater_null = refl

greater_equal : compares op.Ge I minus_one (number 0) ≡ Moved Next
greater_equal = refl

greater_equal_unknown : compares op.Ge I unknown unknown ≡ Meaningless
greater_equal_unknown = refl

greater_equal_unsigned : compares op.Ge U minus_one (number 0) ≡ Moved (To 3)
greater_equal_unsigned = refl

greater_equal_functions : compares op.Ge U (function 1) (function 1) ≡ Meaningless
greater_equal_functions = refl

-- the function itself is 5
jumps : does op.Jump V (Label 5 3 ∷ []) ≡ Moved (To 3)
jumps = refl

jumps_away : does op.Jump V (Label 4 3 ∷ []) ≡ Meaningless
jumps_away = refl

jumps_to_function : does op.Jump V (function 5 ∷ []) ≡ Meaningless
jumps_to_function = refl

passes_label : does_with Big op.Label V (sym.Label 3) None [] ≡ Moved Next
passes_label = refl

passes_int : does op.Arg I (unknown ∷ []) ≡ Passed unknown
passes_int = refl

passes_pointer : does op.Arg P (at gone 0 ∷ []) ≡ Passed (at gone 0)
passes_pointer = refl

calls_for_value : does op.Call I (function 1 ∷ []) ≡ Called true 1
calls_for_value = refl

calls_pointer : does op.Call I (at table 0 ∷ []) ≡ Meaningless
calls_pointer = refl

calls : does op.Call V (function 1 ∷ []) ≡ Called false 1
calls = refl

calls_number : does op.Call V (number 1 ∷ []) ≡ Meaningless
calls_number = refl

returns_value : does op.Ret I (Partly 1 1 ∷ []) ≡ Moved (End (Some (Partly 1 1)))
returns_value = refl

returns : does op.Ret V [] ≡ Moved (End None)
returns = refl

-- no operator
no_operator : does op.Add V (number 1 ∷ number 1 ∷ []) ≡ Meaningless
no_operator = refl

too_many_operands : does op.Neg I (number 1 ∷ number 1 ∷ []) ≡ Meaningless
too_many_operands = refl
