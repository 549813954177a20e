-- What specifiers and declarators are made of, with types as those of a table.
use Rattle.std.specs.Prelude.{ℕ, ◌<◌, Option, Some, None, List, [], ◌∷◌}
use Rattle.c_types.specs.Table.{Table, type_at}
use Rattle.c_meaning.specs.CoreTrees.{CoreOf, IsIn, seen}
use Rattle.c_meaning.specs.Values.{CoreTree}
use Rattle.c_meaning.specs.Nodes as node
use Rattle.c_meaning.specs.TypeRows as rows
use Rattle.c_meaning.specs.Typing as typing
use Rattle.c_check_expr.specs.declared.parts.Part.{Part}
use Rattle.c_check_expr.specs.declared.parts.Part.TheVariants as part
use Rattle.c_check_expr.specs.declared.parts.Specified.{Specified}
use Rattle.c_check_expr.specs.declared.parts.NamedParameter.{NamedParameter}
use Rattle.c_check_expr.specs.declared.parts.Step.{Step}
use Rattle.c_check_expr.specs.declared.parts.Step.TheVariants as step
use Rattle.c_check_expr.specs.declared.parts.Declared.{Declared}
use Rattle.c_check_expr.specs.declared.parts.Shaped.{Shaped}

abbrev pub part_seen : Table → Part → node.Part
part_seen t (part.Stored class) = node.Stored class
part_seen t (part.Qualified qualifier) = node.Qualified qualifier
part_seen t (part.Word word) = node.Word word
part_seen t (part.Whole of) = node.Whole (type_at t of)

abbrev pub parts_seen : Table → List Part → List node.Part
parts_seen t [] = []
parts_seen t (p ∷ ps) = part_seen t p ∷ parts_seen t ps

abbrev pub specified_seen : Table → Specified → rows.Specified
specified_seen t b = record { classes = b.classes; of = type_at t b.of }

abbrev pub parameter_seen : Table → NamedParameter → node.NamedParameter
parameter_seen t p = record { name = p.name; of = type_at t p.of }

abbrev pub parameters_seen : Table → List NamedParameter → List node.NamedParameter
parameters_seen t [] = []
parameters_seen t (p ∷ ps) = parameter_seen t p ∷ parameters_seen t ps

abbrev pub size_seen : Table → Option (CoreOf ℕ) → Option CoreTree
size_seen t None = None
size_seen t (Some c) = Some (seen (type_at t) c)

abbrev pub step_seen : Table → Step → node.Step
step_seen t (step.Pointer qualifiers) = node.ToPointer qualifiers.0
step_seen t (step.Array size) = node.ToArray (size_seen t size)
step_seen t (step.Function parameters more scope) = node.ToFunction (parameters_seen t parameters) more scope
step_seen t (step.Named names) = node.ToNamed names
step_seen t step.Open = node.ToOpen

abbrev pub steps_seen : Table → List Step → List node.Step
steps_seen t [] = []
steps_seen t (p ∷ ps) = step_seen t p ∷ steps_seen t ps

abbrev pub declared_seen : Table → Declared → typing.Declared
declared_seen t d = record { line = d.line; name = d.name; steps = steps_seen t d.steps }

abbrev pub shaped_seen : Table → Shaped → typing.Shaped
shaped_seen t p = record { name = p.name; of = type_at t p.of }

-- ---- their types stand below this place

abbrev pub IsPartIn : ℕ → Part → Type 0
IsPartIn n (part.Whole of) = of < n
IsPartIn n p = Unit {0}

abbrev pub ArePartsIn : ℕ → List Part → Type 0
ArePartsIn n [] = Unit {0}
ArePartsIn n (p ∷ ps) = IsPartIn n p × ArePartsIn n ps

abbrev pub AreParametersIn : ℕ → List NamedParameter → Type 0
AreParametersIn n [] = Unit {0}
AreParametersIn n (p ∷ ps) = (p.of < n) × AreParametersIn n ps

abbrev pub IsSizeIn : ℕ → Option (CoreOf ℕ) → Type 0
IsSizeIn n None = Unit {0}
IsSizeIn n (Some c) = IsIn n c

abbrev pub IsStepIn : ℕ → Step → Type 0
IsStepIn n (step.Array size) = IsSizeIn n size
IsStepIn n (step.Function parameters more scope) = AreParametersIn n parameters
IsStepIn n p = Unit {0}

abbrev pub AreStepsIn : ℕ → List Step → Type 0
AreStepsIn n [] = Unit {0}
AreStepsIn n (p ∷ ps) = IsStepIn n p × AreStepsIn n ps
