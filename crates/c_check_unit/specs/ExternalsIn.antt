-- External declarations, and what typing makes of them where scopes and a table tell what is known, as contracts of the walk speak of
-- it: it is not unfolded there.
use Rattle.std.specs.Prelude.{ℕ, List, [], ◌∷◌, ◌++◌}
use Rattle.c_ast.specs.SeenUnits.{declaration_seen}
use Rattle.c_ast.specs.Trees.{Declares, Empty, ExternalTree, Function}
use Rattle.c_ast.specs.declared.unit.External.{External}
use Rattle.c_ast.specs.declared.unit.ExternalForm.{ExternalForm}
use Rattle.c_ast.specs.declared.unit.ExternalForm.TheVariants as form
use Rattle.c_symbols.specs.Scoping.{Scoping}
use Rattle.c_types.specs.Table.{Table}
use Rattle.c_meaning.specs.Typing.{Outcome}
use Rattle.c_check_expr.specs.Known.{state_of}
use Rattle.c_check_function.specs.Defined.{DefinesTrees, FunctionSyntax, function_seen}
use Rattle.c_units.specs.Externals.{Parts, typed_external, typed_externals}

-- ---- the trees

abbrev pub function_tree : ℕ → FunctionSyntax → ExternalTree
function_tree line f = Function line f.specifiers f.declarator f.parameters f.body

abbrev pub external_form_seen : ExternalForm → ℕ → ExternalTree
external_form_seen (form.Function f) line = function_tree line (function_seen f.value)
external_form_seen (form.Declaration d) line = Declares line (declaration_seen d)
external_form_seen form.Empty line = Empty line

abbrev pub external_seen : External → ExternalTree
external_seen x = external_form_seen x.form x.line

-- ---- what typing makes of them

unfoldable pub external_in : Scoping → Table → Parts → ExternalTree → Outcome Parts
external_in s t u e = typed_external (state_of s t) u e

unfoldable pub externals_in : Scoping → Table → Parts → List ExternalTree → Outcome Parts
externals_in s t u es = typed_externals (state_of s t) u es

-- what a function's definition gives behind what a unit has
abbrev pub with_defined : Parts → DefinesTrees → Parts
with_defined u d = record { functions = u.functions ++ d.function ∷ []; objects = u.objects ++ d.objects; linked = u.linked ++ d.linked }
