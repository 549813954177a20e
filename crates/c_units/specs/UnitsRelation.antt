-- Typing of functions' definitions and units as a relation, by rows: each is typed where its parts are, in order, and its node breaks
-- no constraint and passes no limit.
-- Source: C89 3.7.
use Rattle.std.specs.Prelude.{◌≡◌, ℕ, true, Option, Some, None, List, [], ◌∷◌, length, is_some}
use Rattle.c_ast.specs.Trees.{SpecifiersTree, DeclaratorTree, InitTree, DeclarationTree, BlockTree, ExternalTree, Function, Declares, Empty, UnitTree}
use Rattle.c_types.specs.CType.{CType}
use Rattle.c_meaning.specs.State.{State, left}
use Rattle.c_meaning.specs.StmtTrees.{StmtOf}
use Rattle.c_meaning.specs.Constraints.{Fault}
use Rattle.c_meaning.specs.Linkage.{with_count}
use Rattle.c_meaning.specs.TypeRows.{Specified}
use Rattle.c_meaning.specs.TypingRelation.{Is, Then, TypesSpecifiers, TypesDeclarator}
use Rattle.c_meaning.specs.Declaring.{line_of, declares_something}
use Rattle.c_meaning.specs.DeclaringRelation.{IsOutside, TypesInside, TypesDeclaration}
use Rattle.c_meaning.specs.Units as units
use Rattle.c_units.specs.Bodies.{Typed}
use Rattle.c_units.specs.BodiesRelation.{TypesBlock}
use Rattle.c_units.specs.Definitions.{Definition, definition_fault, parameter_fault, own_step, names_of}
use Rattle.c_units.specs.Functions.{TypedFunction, int_specified, definition, with_definition, scope_of, reopened, old_parameter, with_old, old_declaration_fault, is_some_init, with_all_listed, parameter_types, started, within, nowhere, function_of, lost_fault}
use Rattle.c_units.specs.Externals.{Parts, no_parts, with_function, with_declared}
use Rattle.c_units.specs.Ends.{unit_fault, with_tentative}
use Rattle.c_units.specs.Wholes.{whole_unit}
use Rattle.c_units.specs.Typing.{at_first}

-- where nothing is told, this
abbrev pub Unless : {T : Type 0} → Option Fault → State → T → State → T → Type 0
Unless fault s t u x = (fault ≡ None) × Is s t u x

-- ---- functions

abbrev pub TypesResult : State → Option SpecifiersTree → State → Specified → Type 0
TypesResult s None = Is s int_specified
TypesResult s (Some specs) = Then (TypesSpecifiers s specs) (λ s b. IsOutside true s (line_of specs) b)

abbrev pub TypesDefinition : State → ℕ → Specified → DeclaratorTree → State → Definition → Type 0
TypesDefinition s line b d =
    Then (TypesDeclarator s d) (λ s p. Unless (definition_fault s p.line (definition s b p)) (with_definition s line (definition s b p)) (definition s b p))

abbrev pub TypesOld : State → ℕ → List (List ℕ) → Specified → InitTree → State → Unit {0} → Type 0
TypesOld s line names b i =
    Then (TypesDeclarator s i.declarator) (λ s p.
    Unless (parameter_fault s p.line (old_parameter names b p (is_some i.initialiser))) (with_old s line (old_parameter names b p (is_some i.initialiser))) tt)

abbrev pub TypesOlds : State → ℕ → List (List ℕ) → Specified → List InitTree → State → Unit {0} → Type 0
TypesOlds s line names b [] = Is s tt
TypesOlds s line names b (i ∷ is) = Then (TypesOld s line names b i) (λ s u. TypesOlds s line names b is)

abbrev pub TypesOldDeclaration : State → List (List ℕ) → DeclarationTree → State → Unit {0} → Type 0
TypesOldDeclaration s names d =
    Then (TypesInside s d.specifiers d.declarators) (λ s b.
    Then (TypesOlds s d.line names b d.declarators) (λ s u.
    Unless (old_declaration_fault s d.line names (declares_something d) (is_some_init d.declarators)) s tt))

abbrev pub TypesOldDeclarations : State → List (List ℕ) → List DeclarationTree → State → Unit {0} → Type 0
TypesOldDeclarations s names [] = Is s tt
TypesOldDeclarations s names (d ∷ ds) = Then (TypesOldDeclaration s names d) (λ s u. TypesOldDeclarations s names ds)

abbrev pub TypesBody : State → Definition → BlockTree → State → Typed (StmtOf CType) → Type 0
TypesBody s n body =
    TypesBlock (within n body) nowhere (with_count s (length (parameter_types s (own_step n.steps)))) (started (parameter_types s (own_step n.steps))) body

abbrev pub TypesInScope : State → ℕ → Definition → List DeclarationTree → BlockTree → State → TypedFunction → Type 0
TypesInScope s line n olds body =
    Then (TypesOldDeclarations s (names_of (own_step n.steps)) olds) (λ s u.
    Then (TypesBody (with_all_listed s line 0 (names_of (own_step n.steps))) n body) (λ t x.
    Unless (lost_fault line x.body.lost) t
    (function_of t n (length (parameter_types (with_all_listed s line 0 (names_of (own_step n.steps))) (own_step n.steps))) x)))

abbrev pub TypesFunction : State → ℕ → Option SpecifiersTree → DeclaratorTree → List DeclarationTree → BlockTree → State → TypedFunction → Type 0
TypesFunction s line specs d olds body =
    Then (TypesResult s specs) (λ s b.
    Then (TypesDefinition s line b d) (λ s n.
    Then (TypesInScope (reopened s (scope_of (own_step n.steps))) line n olds body) (λ t f. Is (left s.outer s.inner t) f)))

-- ---- units

abbrev pub TypesExternal : State → Parts → ExternalTree → State → Parts → Type 0
TypesExternal s u (Function l specs d olds body) = Then (TypesFunction s l specs d olds body) (λ s f. Is s (with_function u f))
TypesExternal s u (Declares l d) = Then (TypesDeclaration s d) (λ s what. Is s (with_declared u what))
TypesExternal s u (Empty l) = Is s u

abbrev pub TypesExternals : State → Parts → List ExternalTree → State → Parts → Type 0
TypesExternals s u [] = Is s u
TypesExternals s u (e ∷ es) = Then (TypesExternal s u e) (λ s v. TypesExternals s v es)

abbrev pub TypesUnit : UnitTree → State → units.UnitTree → Type 0
TypesUnit t = Then (TypesExternals at_first no_parts t.externals) (λ s u. Unless (unit_fault s u) s (whole_unit s (with_tentative s u)))
