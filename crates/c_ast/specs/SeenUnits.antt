-- The trees of initialisers and declarations, as contracts of readers and checkers speak of them: they are not unfolded
-- there.
use Rattle.std.specs.Prelude.{ℕ}
use Rattle.std.specs.Global.{Box}
use Rattle.c_ast.specs.declared.statement.Initialiser.{Initialiser as InitialiserValue}
use Rattle.c_ast.specs.declared.statement.InitialiserForm.{InitialiserForm}
use Rattle.c_ast.specs.declared.statement.InitDeclarator.{InitDeclarator}
use Rattle.c_ast.specs.declared.statement.Declaration.{Declaration}
use Rattle.c_ast.specs.Trees.{InitialiserTree, InitTree, DeclarationTree}
use Rattle.c_ast.specs.UnitViews.{declaration_of, init_of, initialiser_form_of, initialiser_of}

unfoldable pub initialiser_seen : InitialiserValue → InitialiserTree
initialiser_seen v = initialiser_of v

abbrev pub boxed_initialiser_seen : Box InitialiserValue → InitialiserTree
boxed_initialiser_seen b = initialiser_seen b.value

unfoldable pub initialiser_form_seen : InitialiserForm → ℕ → InitialiserTree
initialiser_form_seen v line = initialiser_form_of v line

unfoldable pub init_seen : InitDeclarator → InitTree
init_seen v = init_of v

unfoldable pub declaration_seen : Declaration → DeclarationTree
declaration_seen v = declaration_of v
