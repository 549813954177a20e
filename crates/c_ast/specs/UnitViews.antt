-- The trees that values of the declared types are, from declarations upwards.
use Rattle.std.specs.Prelude.{ℕ, Option, Some, None, List, [], ◌∷◌, map}
use Rattle.std.specs.Global.{Box}
use Rattle.c_ast.specs.declared.statement.InitialiserForm.{InitialiserForm as InitialiserFormValue, InitialiserForm-F, fold-InitialiserForm}
use Rattle.c_ast.specs.declared.statement.Initialiser.{Initialiser as InitialiserValue, Initialiser-F, fold-Initialiser}
use Rattle.c_ast.specs.declared.statement.InitDeclarator.{InitDeclarator}
use Rattle.c_ast.specs.declared.statement.Declaration.{Declaration}
use Rattle.c_ast.specs.declared.statement.StatementForm.{StatementForm as StatementFormValue, StatementForm-F, fold-StatementForm}
use Rattle.c_ast.specs.declared.statement.Block.{Block as BlockValue, Block-F, fold-Block}
use Rattle.c_ast.specs.declared.statement.Statement.{Statement as StatementValue, Statement-F, fold-Statement}
use Rattle.c_ast.specs.declared.unit.ExternalForm.{ExternalForm}
use Rattle.c_ast.specs.declared.unit.ExternalForm.TheVariants as external_form
use Rattle.c_ast.specs.declared.unit.External.{External}
use Rattle.c_ast.specs.declared.unit.Unit.{Unit as UnitValue}
use Rattle.c_ast.specs.Views.{expr_of, specifiers_of, declarator_of}
use Rattle.c_ast.specs.declared.expr.Expr.{Expr}
use Rattle.c_ast.specs.Trees.{MaybeExpr, NoExpr, AnExpr, InitialiserTree, ByExpr, Braced, InitialiserTrees, NoInitialisers, Initialisers, InitTree, DeclarationTree, StatementTree, Label, Case, Default, Expression, Compound, If, IfElse, Switch, While, Do, For, Goto, Continue, Break, Return, StatementTrees, NoStatements, Statements, BlockTree, Block, ExternalTree, Function, Declares, Empty, UnitTree}

-- ---- initialisers

abbrev pub initialisers_of : List InitialiserTree → InitialiserTrees
initialisers_of [] = NoInitialisers
initialisers_of (x ∷ xs) = Initialisers x (initialisers_of xs)

abbrev pub initialiser_form_layer : InitialiserForm-F (ℕ → InitialiserTree) InitialiserTree → ℕ → InitialiserTree
initialiser_form_layer (InitialiserForm-F.Expr e) line = ByExpr line (expr_of e)
initialiser_form_layer (InitialiserForm-F.List is comma) line = Braced line (initialisers_of is) comma

abbrev pub initialiser_layer : Initialiser-F (ℕ → InitialiserTree) InitialiserTree → InitialiserTree
initialiser_layer i = i.form i.line

abbrev pub initialiser_form_of : InitialiserFormValue → ℕ → InitialiserTree
initialiser_form_of = fold-InitialiserForm (ℕ → InitialiserTree) InitialiserTree initialiser_form_layer initialiser_layer

abbrev pub initialiser_of : InitialiserValue → InitialiserTree
initialiser_of = fold-Initialiser (ℕ → InitialiserTree) InitialiserTree initialiser_form_layer initialiser_layer

-- ---- declarations

abbrev pub option_of : {A B : Type 0} → (A → B) → Option A → Option B
option_of f None = None
option_of f (Some x) = Some (f x)

abbrev pub boxed_initialiser_of : Box InitialiserValue → InitialiserTree
boxed_initialiser_of b = initialiser_of b.value

abbrev pub init_of : InitDeclarator → InitTree
init_of i = record { line = i.line; declarator = declarator_of i.declarator; initialiser = option_of boxed_initialiser_of i.initialiser }

abbrev pub declaration_of : Declaration → DeclarationTree
declaration_of d = record { line = d.line; specifiers = specifiers_of d.specifiers; declarators = map init_of d.declarators }

-- ---- statements

abbrev pub statements_of : List StatementTree → StatementTrees
statements_of [] = NoStatements
statements_of (x ∷ xs) = Statements x (statements_of xs)

abbrev pub maybe_of : Option Expr → MaybeExpr
maybe_of None = NoExpr
maybe_of (Some e) = AnExpr (expr_of e)

abbrev pub statement_form_layer : StatementForm-F (ℕ → StatementTree) BlockTree StatementTree → ℕ → StatementTree
statement_form_layer (StatementForm-F.Label n s) line = Label line n s.value
statement_form_layer (StatementForm-F.Case e s) line = Case line (expr_of e) s.value
statement_form_layer (StatementForm-F.Default s) line = Default line s.value
statement_form_layer (StatementForm-F.Expression e) line = Expression line (maybe_of e)
statement_form_layer (StatementForm-F.Block b) line = Compound line b.value
statement_form_layer (StatementForm-F.If e s None) line = If line (expr_of e.value) s.value
statement_form_layer (StatementForm-F.If e s (Some t)) line = IfElse line (expr_of e.value) s.value t.value
statement_form_layer (StatementForm-F.Switch e s) line = Switch line (expr_of e) s.value
statement_form_layer (StatementForm-F.While e s) line = While line (expr_of e) s.value
statement_form_layer (StatementForm-F.Do s e) line = Do line s.value (expr_of e)
statement_form_layer (StatementForm-F.For h s) line = For line (maybe_of h.value.first) (maybe_of h.value.test) (maybe_of h.value.last) s.value
statement_form_layer (StatementForm-F.Goto n) line = Goto line n
statement_form_layer StatementForm-F.Continue line = Continue line
statement_form_layer StatementForm-F.Break line = Break line
statement_form_layer (StatementForm-F.Return e) line = Return line (maybe_of e)

abbrev pub block_layer : Block-F (ℕ → StatementTree) BlockTree StatementTree → BlockTree
block_layer b = Block b.line (map declaration_of b.declarations) (statements_of b.statements)

abbrev pub statement_layer : Statement-F (ℕ → StatementTree) BlockTree StatementTree → StatementTree
statement_layer s = s.form s.line

abbrev pub statement_form_of : StatementFormValue → ℕ → StatementTree
statement_form_of = fold-StatementForm (ℕ → StatementTree) BlockTree StatementTree statement_form_layer block_layer statement_layer

abbrev pub block_of : BlockValue → BlockTree
block_of = fold-Block (ℕ → StatementTree) BlockTree StatementTree statement_form_layer block_layer statement_layer

abbrev pub statement_of : StatementValue → StatementTree
statement_of = fold-Statement (ℕ → StatementTree) BlockTree StatementTree statement_form_layer block_layer statement_layer

-- ---- units

abbrev pub external_form_of : ExternalForm → ℕ → ExternalTree
external_form_of (external_form.Function f) line = Function line (option_of specifiers_of f.value.specifiers) (declarator_of f.value.declarator) (map declaration_of f.value.parameters) (block_of f.value.body)
external_form_of (external_form.Declaration d) line = Declares line (declaration_of d)
external_form_of external_form.Empty line = Empty line

abbrev pub external_of : External → ExternalTree
external_of x = external_form_of x.form x.line

abbrev pub unit_of : UnitValue → UnitTree
unit_of u = record { line = u.line; externals = map external_of u.externals }
