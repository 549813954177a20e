-- The heights of declarations and statements as values: those of the trees that they are.
use Rattle.std.specs.Prelude.{◌+◌, ℕ, Option, Some, None, max}
use Rattle.std.specs.Global.{Box}
use Rattle.c_ast.specs.declared.statement.Initialiser.{Initialiser}
use Rattle.c_ast.specs.declared.statement.InitDeclarator.{InitDeclarator}
use Rattle.c_ast.specs.declared.statement.Declaration.{Declaration}
use Rattle.c_ast.specs.declared.statement.Statement.{Statement}
use Rattle.c_ast.specs.declared.statement.Block.{Block}
use Rattle.c_ast.specs.declared.unit.External.{External}
use Rattle.c_ast.specs.declared.unit.FunctionDefinition.{FunctionDefinition}
use Rattle.c_ast.specs.UnitViews.{initialiser_of, init_of, declaration_of, statement_of, block_of, external_of}
use Rattle.c_ast.specs.ValueHeights.{if_any, most, specifiers_high, declarator_high}
use Rattle.c_ast.specs.Heights.{initialiser_height, init_height, declaration_height, statement_height, block_height, external_height}

unfoldable pub initialiser_high : Initialiser → ℕ
initialiser_high v = initialiser_height (initialiser_of v)

-- the height of the initialiser, if there is one
abbrev pub maybe_initialiser_high : Option (Box Initialiser) → ℕ
maybe_initialiser_high None = 0
maybe_initialiser_high (Some i) = initialiser_high i.value

unfoldable pub init_high : InitDeclarator → ℕ
init_high v = init_height (init_of v)

unfoldable pub declaration_high : Declaration → ℕ
declaration_high v = declaration_height (declaration_of v)

unfoldable pub statement_high : Statement → ℕ
statement_high v = statement_height (statement_of v)

-- the height of the statement behind `else`, if there is one
abbrev pub else_high : Option (Box Statement) → ℕ
else_high None = 0
else_high (Some s) = statement_high s.value

unfoldable pub block_high : Block → ℕ
block_high v = block_height (block_of v)

-- the height of a function's definition, which is an external declaration
abbrev pub function_high : FunctionDefinition → ℕ
function_high f = max (max (max (if_any specifiers_high f.specifiers) (declarator_high f.declarator)) (most declaration_high f.parameters)) (block_high f.body) + 1

unfoldable pub external_high : External → ℕ
external_high v = external_height (external_of v)
