-- Where a function's expressions stand: the unit, the order of bytes in memory, the function's parameters, and where its locals are. And
-- the numbers of names in a lowered unit: the functions first, then the objects, the texts, and the built-in functions.
-- Source: Fraser and Hanson, A Retargetable C Compiler, chapters 5 and 13 (names; offsets of locals and parameters).
use Rattle.std.specs.Prelude.{ℕ, ◌+◌, ℤ, List, length}
use Rattle.lcc_base.specs.declared.order.Order.{Order}
use Rattle.c_meaning.specs.declared.built_in.BuiltIn.{BuiltIn}
use Rattle.c_meaning.specs.Units.{UnitTree}
use Rattle.c_runs.specs.Calls.{built_in_number}

-- A local's place below 0 is an offset from the frame's top, any other one from the first parameter word. At that of a parameter of
-- structure type stands the address of its bytes.
pub record Context : Type 0 where
  pub unit : UnitTree
  pub order : Order
  pub parameters : ℕ
  pub places : List ℤ

abbrev pub function_name : UnitTree → ℕ → ℕ
function_name u n = n

abbrev pub object_name : UnitTree → ℕ → ℕ
object_name u n = length u.functions + n

abbrev pub text_name : UnitTree → ℕ → ℕ
text_name u n = length u.functions + (length u.objects + n)

abbrev pub built_in_name : UnitTree → BuiltIn → ℕ
built_in_name u b = built_in_number u b
