-- The nodes of a unit in postorder, each behind its parts, as far as these are typed, and the first of them that breaks a constraint
-- or passes a limit.
use Rattle.std.specs.Prelude.{ℕ, Bool, true, Option, Some, None, List, [], ◌∷◌, ◌++◌, length, map, is_some}
use Rattle.c_ast.specs.Trees.{NoExpr, AnExpr, SpecifiersTree, DeclaratorTree, InitTree, DeclarationTree, StatementTree, Label, Case, Default, Expression, Compound, If, IfElse, Switch, While, Do, For, Goto, Continue, Break, Return, StatementTrees, NoStatements, Statements, BlockTree, Block, ExternalTree, Function, Declares, Empty, UnitTree}
use Rattle.c_meaning.specs.State.{State, entered}
use Rattle.c_meaning.specs.Constraints.{Fault}
use Rattle.c_meaning.specs.Linkage.{with_count}
use Rattle.c_meaning.specs.TypeRows.{Specified}
use Rattle.c_meaning.specs.Typing.{Outcome, Fine, Bad, typed, maybe_typed, typed_specifiers, typed_declarator}
use Rattle.c_meaning.specs.Postorder.{nodes, maybe_nodes, specifiers_nodes, declarator_nodes, or_else}
use Rattle.c_meaning.specs.Declaring.{line_of, typed_inside, typed_declaration, declares_something}
use Rattle.c_meaning.specs.DeclaringNodes.{AnyPlace, any_fault, parts, inside_nodes, outside_nodes, declaration_nodes}
use Rattle.c_units.specs.Statements.{Around, StmtNode, stmt_fault}
use Rattle.c_units.specs.Statements as node
use Rattle.c_units.specs.Bodies.{Within, Body, marked, with_cases, with_case, with_default, is_case_again, is_default_again, with_declared, in_loop, in_switch, stands_again, typed_declarations, typed_stmt}
use Rattle.c_units.specs.Definitions.{Definition, OldParameter, definition_fault, parameter_fault, own_step, names_of}
use Rattle.c_units.specs.Functions.{definition, scope_of, reopened, old_parameter, old_declaration_fault, is_some_init, with_all_listed, parameter_types, started, within, nowhere, lost_fault, typed_result, typed_definition, typed_old, typed_olds, typed_old_declaration, typed_old_declarations, typed_body}
use Rattle.c_units.specs.Externals.{Parts, no_parts, typed_external, typed_externals}
use Rattle.c_units.specs.Ends.{unit_fault}
use Rattle.c_units.specs.Typing.{at_first}

-- A node whose parts are typed, where it stands: in an expression or a declaration; a statement; a definition's declarator, and that
-- of an old-style parameter; a declaration of such, for these names; a definition, and whether a goto of it names no label; and the unit.
pub data UnitPlace : Type 0 where
  Inside : (place : AnyPlace) → UnitPlace
  Stmt : (state : State) (line : ℕ) (node : StmtNode) → UnitPlace
  Declarator : (state : State) (line : ℕ) (node : Definition) → UnitPlace
  Parameter : (state : State) (line : ℕ) (node : OldParameter) → UnitPlace
  Parameters : (state : State) (line : ℕ) (names : List (List ℕ)) (something some : Bool) → UnitPlace
  Whole : (line : ℕ) (lost : Bool) → UnitPlace
  End : (state : State) (unit : Parts) → UnitPlace

abbrev pub place_fault : UnitPlace → Option Fault
place_fault (Inside p) = any_fault p
place_fault (Stmt s line n) = stmt_fault s line n
place_fault (Declarator s line n) = definition_fault s line n
place_fault (Parameter s line n) = parameter_fault s line n
place_fault (Parameters s line names something some) = old_declaration_fault s line names something some
place_fault (Whole line lost) = lost_fault line lost
place_fault (End s u) = unit_fault s u

-- the fault of the first node that has one
abbrev pub first_in : List UnitPlace → Option Fault
first_in [] = None
first_in (p ∷ ps) = or_else (place_fault p) (first_in ps)

-- the nodes of a part, and of what stands behind it where it is typed
abbrev pub go_on : {T : Type 0} → Outcome T → (State → T → List UnitPlace) → List UnitPlace
go_on (Fine s t) later = later s t
go_on (Bad f) later = []

abbrev pub look : {T : Type 0} → List UnitPlace → Outcome T → (State → T → List UnitPlace) → List UnitPlace
look places part later = places ++ go_on part later

abbrev pub inside : List AnyPlace → List UnitPlace
inside ps = map Inside ps

abbrev pub stmt_place : State → ℕ → StmtNode → List UnitPlace
stmt_place s line n = Stmt s line n ∷ []

-- ---- statements

abbrev pub declarations_nodes : State → List DeclarationTree → List UnitPlace
declarations_nodes s [] = []
declarations_nodes s (d ∷ ds) = look (inside (declaration_nodes s d)) (typed_declaration s d) (λ s what. declarations_nodes s ds)

abbrev mutual
  pub stmt_nodes : Within → Around → State → Body → StatementTree → List UnitPlace
  stmt_nodes f a s b (Label l name st) = look (stmt_nodes f a s (marked b) st) (typed_stmt f a s (marked b) st) (λ s t. stmt_place s l (node.Label (stands_again f b name)))
  stmt_nodes f a s b (Case l e st) = look (inside (parts (nodes s e))) (typed s e) (λ s c. look (stmt_nodes f a s (with_case a b c) st) (typed_stmt f a s (with_case a b c) st) (λ s t. stmt_place s l (node.Case c a (is_case_again a b c))))
  stmt_nodes f a s b (Default l st) = look (stmt_nodes f a s (with_default a b) st) (typed_stmt f a s (with_default a b) st) (λ s t. stmt_place s l (node.Default a (is_default_again a b)))
  stmt_nodes f a s b (Expression l NoExpr) = []
  stmt_nodes f a s b (Expression l (AnExpr e)) = look (inside (parts (nodes s e))) (typed s e) (λ s c. stmt_place s l (node.Expression c))
  stmt_nodes f a s b (Compound l block) = block_nodes f a (entered s) b block
  stmt_nodes f a s b (If l e st) = look (inside (parts (nodes s e))) (typed s e) (λ s c. look (stmt_nodes f a s b st) (typed_stmt f a s b st) (λ s t. stmt_place s l (node.Test c)))
  stmt_nodes f a s b (IfElse l e st su) =
      look (inside (parts (nodes s e))) (typed s e) (λ s c.
      look (stmt_nodes f a s b st) (typed_stmt f a s b st) (λ s t. look (stmt_nodes f a s t.body su) (typed_stmt f a s t.body su) (λ s u. stmt_place s l (node.Test c))))
  stmt_nodes f a s b (Switch l e st) = look (inside (parts (nodes s e))) (typed s e) (λ s c. look (stmt_nodes f (in_switch a) s (with_cases [] None b) st) (typed_stmt f (in_switch a) s (with_cases [] None b) st) (λ s t. stmt_place s l (node.Switch c)))
  stmt_nodes f a s b (While l e st) = look (inside (parts (nodes s e))) (typed s e) (λ s c. look (stmt_nodes f (in_loop a) s b st) (typed_stmt f (in_loop a) s b st) (λ s t. stmt_place s l (node.Test c)))
  stmt_nodes f a s b (Do l st e) = look (stmt_nodes f (in_loop a) s b st) (typed_stmt f (in_loop a) s b st) (λ s t. look (inside (parts (nodes s e))) (typed s e) (λ s c. stmt_place s l (node.Test c)))
  stmt_nodes f a s b (For l first test last st) =
      look (inside (parts (maybe_nodes s first))) (maybe_typed s first) (λ s c.
      look (inside (parts (maybe_nodes s test))) (maybe_typed s test) (λ s d.
      look (inside (parts (maybe_nodes s last))) (maybe_typed s last) (λ s e.
      look (stmt_nodes f (in_loop a) s b st) (typed_stmt f (in_loop a) s b st) (λ s t. stmt_place s l (node.For c d e)))))
  stmt_nodes f a s b (Goto l name) = []
  stmt_nodes f a s b (Continue l) = stmt_place s l (node.Continue a)
  stmt_nodes f a s b (Break l) = stmt_place s l (node.Break a)
  stmt_nodes f a s b (Return l e) = look (inside (parts (maybe_nodes s e))) (maybe_typed s e) (λ s c. stmt_place s l (node.Return f.result c))

  pub all_stmt_nodes : Within → Around → State → Body → StatementTrees → List UnitPlace
  all_stmt_nodes f a s b NoStatements = []
  all_stmt_nodes f a s b (Statements st more) = look (stmt_nodes f a s b st) (typed_stmt f a s b st) (λ s t. all_stmt_nodes f a s t.body more)

  pub block_nodes : Within → Around → State → Body → BlockTree → List UnitPlace
  block_nodes f a s b (Block l ds ss) = look (declarations_nodes s ds) (typed_declarations s ds) (λ s what. all_stmt_nodes f a s (with_declared b what) ss)

-- ---- functions

abbrev pub result_nodes : State → Option SpecifiersTree → List UnitPlace
result_nodes s None = []
result_nodes s (Some specs) = look (inside (parts (specifiers_nodes s specs))) (typed_specifiers s specs) (λ s b. inside (outside_nodes true s (line_of specs) b))

abbrev pub definition_nodes : State → ℕ → Specified → DeclaratorTree → List UnitPlace
definition_nodes s line b d =
    look (inside (parts (declarator_nodes s d))) (typed_declarator s d) (λ s p. Declarator s p.line (definition s b p) ∷ [])

abbrev pub old_nodes : State → ℕ → List (List ℕ) → Specified → InitTree → List UnitPlace
old_nodes s line names b i =
    look (inside (parts (declarator_nodes s i.declarator))) (typed_declarator s i.declarator) (λ s p.
    Parameter s p.line (old_parameter names b p (is_some i.initialiser)) ∷ [])

abbrev pub olds_nodes : State → ℕ → List (List ℕ) → Specified → List InitTree → List UnitPlace
olds_nodes s line names b [] = []
olds_nodes s line names b (i ∷ is) = look (old_nodes s line names b i) (typed_old s line names b i) (λ s u. olds_nodes s line names b is)

abbrev pub old_declaration_nodes : State → List (List ℕ) → DeclarationTree → List UnitPlace
old_declaration_nodes s names d =
    look (inside (inside_nodes s d.specifiers d.declarators)) (typed_inside s d.specifiers d.declarators) (λ s b.
    look (olds_nodes s d.line names b d.declarators) (typed_olds s d.line names b d.declarators) (λ s u.
    Parameters s d.line names (declares_something d) (is_some_init d.declarators) ∷ []))

abbrev pub old_declarations_nodes : State → List (List ℕ) → List DeclarationTree → List UnitPlace
old_declarations_nodes s names [] = []
old_declarations_nodes s names (d ∷ ds) = look (old_declaration_nodes s names d) (typed_old_declaration s names d) (λ s u. old_declarations_nodes s names ds)

abbrev pub body_nodes : State → Definition → BlockTree → List UnitPlace
body_nodes s n body =
    block_nodes (within n body) nowhere (with_count s (length (parameter_types s (own_step n.steps)))) (started (parameter_types s (own_step n.steps))) body

abbrev pub in_scope_nodes : State → ℕ → Definition → List DeclarationTree → BlockTree → List UnitPlace
in_scope_nodes s line n olds body =
    look (old_declarations_nodes s (names_of (own_step n.steps)) olds) (typed_old_declarations s (names_of (own_step n.steps)) olds) (λ s u.
    look (body_nodes (with_all_listed s line 0 (names_of (own_step n.steps))) n body) (typed_body (with_all_listed s line 0 (names_of (own_step n.steps))) n body) (λ t x.
    Whole line x.body.lost ∷ []))

abbrev pub function_nodes : State → ℕ → Option SpecifiersTree → DeclaratorTree → List DeclarationTree → BlockTree → List UnitPlace
function_nodes s line specs d olds body =
    look (result_nodes s specs) (typed_result s specs) (λ s b.
    look (definition_nodes s line b d) (typed_definition s line b d) (λ s n.
    in_scope_nodes (reopened s (scope_of (own_step n.steps))) line n olds body))

-- ---- units

abbrev pub external_nodes : State → Parts → ExternalTree → List UnitPlace
external_nodes s u (Function l specs d olds body) = function_nodes s l specs d olds body
external_nodes s u (Declares l d) = inside (declaration_nodes s d)
external_nodes s u (Empty l) = []

abbrev pub externals_nodes : State → Parts → List ExternalTree → List UnitPlace
externals_nodes s u [] = []
externals_nodes s u (e ∷ es) = look (external_nodes s u e) (typed_external s u e) (λ s v. externals_nodes s v es)

abbrev pub unit_nodes : UnitTree → List UnitPlace
unit_nodes t = look (externals_nodes at_first no_parts t.externals) (typed_externals at_first no_parts t.externals) (λ s u. End s u ∷ [])
