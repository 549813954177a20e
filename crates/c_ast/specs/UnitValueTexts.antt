-- The texts of initialisers, declarations and statements as values: those of the trees that they are.
use Rattle.std.specs.Prelude.{ℕ, Option, Some, None, List, [], ◌++◌, flat_map}
use Rattle.std.specs.Global.{Box}
use Rattle.c_ast.specs.declared.statement.Initialiser.{Initialiser}
use Rattle.c_ast.specs.declared.statement.InitDeclarator.{InitDeclarator}
use Rattle.c_ast.specs.declared.statement.Declaration.{Declaration}
use Rattle.c_ast.specs.declared.statement.Statement.{Statement}
use Rattle.c_ast.specs.declared.statement.Block.{Block}
use Rattle.c_ast.specs.declared.unit.External.{External}
use Rattle.c_ast.specs.declared.unit.FunctionDefinition.{FunctionDefinition}
use Rattle.c_ast.specs.UnitViews.{initialiser_of, init_of, declaration_of, statement_of, block_of, external_of}
use Rattle.c_ast.specs.ValueTexts.{shown_if_any, specifiers_shown, declarator_shown}
use Rattle.c_ast.specs.TreeTexts.{initialiser_text, init_text, declaration_text, statement_text, block_text, external_text, sign_text, word_text}
use Rattle.c_ast.specs.Signs.{equals_sign}
use Rattle.c_ast.specs.Keywords.{else_word}

unfoldable pub initialiser_shown : Initialiser → List ℕ
initialiser_shown v = initialiser_text (initialiser_of v)

unfoldable pub init_shown : InitDeclarator → List ℕ
init_shown v = init_text (init_of v)

unfoldable pub declaration_shown : Declaration → List ℕ
declaration_shown v = declaration_text (declaration_of v)

unfoldable pub statement_shown : Statement → List ℕ
statement_shown v = statement_text (statement_of v)

unfoldable pub block_shown : Block → List ℕ
block_shown v = block_text (block_of v)

-- the text of a function's definition, which is an external declaration
abbrev pub function_shown : FunctionDefinition → List ℕ
function_shown f = shown_if_any specifiers_shown f.specifiers ++ declarator_shown f.declarator ++ flat_map declaration_shown f.parameters ++ block_shown f.body

unfoldable pub external_shown : External → List ℕ
external_shown v = external_text (external_of v)

-- what may be left out, with the token before it
abbrev pub shown_initialiser : Option (Box Initialiser) → List ℕ
shown_initialiser None = []
shown_initialiser (Some i) = sign_text equals_sign ++ initialiser_shown i.value

abbrev pub shown_else : Option (Box Statement) → List ℕ
shown_else None = []
shown_else (Some s) = word_text else_word ++ statement_shown s.value
