-- Which part of a type a step of a declarator would have to be made of, for both to be compatible.
-- Source: C89 3.1.2.6, 3.5.4.
use Rattle.std.specs.Prelude.{◌≡◌, ℕ, Bool, false, Option, List}
use Rattle.c_types.specs.CType.{CType, Plain, Array, Pointer, Function, Open, Listed, qualify}
use Rattle.c_types.specs.Compatible.{compatible}
use Rattle.c_types.specs.Table.{Table, type_at}
use Rattle.c_types.specs.declared.qualifiers.Qualifiers.{Qualifiers}
use Rattle.c_meaning.specs.TypeRows.{length_of, types_of}
use Rattle.c_meaning.specs.Values.{CoreTree}
use Rattle.c_check_expr.specs.declared.parts.NamedParameter.{NamedParameter}
use Rattle.c_check_expr.specs.PartsSeen.{parameters_seen}

-- a type of the table under qualifiers that stand before it
abbrev pub under : Table → ℕ × Qualifiers → CType
under t of = qualify of.1.0 (type_at t of.0)

-- what the step makes of a type is compatible with the one exactly where that type is with the other
abbrev pub Fits : Table → (CType → CType) → ℕ × Qualifiers → ℕ × Qualifiers → Type 0
Fits t step of inner = (base : CType) → compatible (step base) (under t of) ≡ compatible base (under t inner)

-- what the step makes is compatible with it of no type
abbrev pub FitsNone : Table → (CType → CType) → ℕ × Qualifiers → Type 0
FitsNone t step of = (base : CType) → compatible (step base) (under t of) ≡ false

-- ---- steps

abbrev pub pointer_step : ℕ → CType → CType
pointer_step qualifiers base = Plain qualifiers (Pointer base)

abbrev pub array_step : Option CoreTree → CType → CType
array_step size base = Array base (length_of size)

abbrev pub function_step : Table → List NamedParameter → Bool → CType → CType
function_step t parameters more base = Plain 0 (Function base (Listed (types_of (parameters_seen t parameters)) more))

abbrev pub open_step : CType → CType
open_step base = Plain 0 (Function base Open)
