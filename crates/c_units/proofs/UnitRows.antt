-- What the rows of functions' definitions and units type is what typing as a function gives, and nothing else.
use Rattle.std.specs.Prelude.{ℕ, true, Option, Some, None, List, [], ◌∷◌}
use Rattle.c_ast.specs.Trees.{SpecifiersTree, DeclaratorTree, InitTree, DeclarationTree, BlockTree, ExternalTree, Function, Declares, Empty, UnitTree}
use Rattle.c_meaning.specs.State.{State}
use Rattle.c_meaning.specs.TypeRows.{Specified}
use Rattle.c_meaning.specs.Declaring.{line_of}
use Rattle.c_meaning.specs.Laws.{IsTyping}
use Rattle.c_meaning.proofs.lemmas.Threads.{then_typing, is_typing, at_typing}
use Rattle.c_meaning.proofs.lemmas.TypingRows.{specifiers_rows, declarator_rows}
use Rattle.c_meaning.proofs.lemmas.DeclaringRows.{inside_rows, outside_rows, declaration_rows}
use Rattle.c_units.specs.Definitions.{Definition, own_step, names_of}
use Rattle.c_units.specs.Functions.{within, nowhere, scope_of, reopened, typed_result, typed_definition, typed_old, typed_olds, typed_old_declaration, typed_old_declarations, typed_in_scope, typed_function}
use Rattle.c_units.specs.Externals.{Parts, no_parts, typed_external, typed_externals}
use Rattle.c_units.specs.Typing.{at_first, typed_unit}
use Rattle.c_units.specs.UnitsRelation.{TypesResult, TypesDefinition, TypesOld, TypesOlds, TypesOldDeclaration, TypesOldDeclarations, TypesInScope, TypesFunction, TypesExternal, TypesExternals, TypesUnit}
use Rattle.c_units.proofs.StatementRows.{block_rows}

result_rows : (s : State) (specs : Option SpecifiersTree) → IsTyping (typed_result s specs) (TypesResult s specs)
result_rows s None = is_typing
result_rows s (Some specs) = then_typing (specifiers_rows s specs) (λ s b. outside_rows true s (line_of specs) b)

definition_rows : (s : State) (line : ℕ) (b : Specified) (d : DeclaratorTree) → IsTyping (typed_definition s line b d) (TypesDefinition s line b d)
definition_rows s line b d = then_typing (declarator_rows s d) (λ s p. at_typing)

old_rows : (s : State) (line : ℕ) (names : List (List ℕ)) (b : Specified) (i : InitTree) → IsTyping (typed_old s line names b i) (TypesOld s line names b i)
old_rows s line names b i = then_typing (declarator_rows s i.declarator) (λ s p. at_typing)

olds_rows : (s : State) (line : ℕ) (names : List (List ℕ)) (b : Specified) (is : List InitTree) → IsTyping (typed_olds s line names b is) (TypesOlds s line names b is)
olds_rows s line names b [] = is_typing
olds_rows s line names b (i ∷ is) = then_typing (old_rows s line names b i) (λ s u. olds_rows s line names b is)

old_declaration_rows : (s : State) (names : List (List ℕ)) (d : DeclarationTree) → IsTyping (typed_old_declaration s names d) (TypesOldDeclaration s names d)
old_declaration_rows s names d = then_typing (inside_rows s d.specifiers d.declarators) (λ s b. then_typing (olds_rows s d.line names b d.declarators) (λ s u. at_typing))

old_declarations_rows : (s : State) (names : List (List ℕ)) (ds : List DeclarationTree) → IsTyping (typed_old_declarations s names ds) (TypesOldDeclarations s names ds)
old_declarations_rows s names [] = is_typing
old_declarations_rows s names (d ∷ ds) = then_typing (old_declaration_rows s names d) (λ s u. old_declarations_rows s names ds)

in_scope_rows : (s : State) (line : ℕ) (n : Definition) (olds : List DeclarationTree) (body : BlockTree) → IsTyping (typed_in_scope s line n olds body) (TypesInScope s line n olds body)
in_scope_rows s line n olds body =
    then_typing (old_declarations_rows s (names_of (own_step n.steps)) olds) (λ s u.
    then_typing (block_rows (within n body) nowhere _ _ body) (λ t x. at_typing))

function_rows : (s : State) (line : ℕ) (specs : Option SpecifiersTree) (d : DeclaratorTree) (olds : List DeclarationTree) (body : BlockTree) → IsTyping (typed_function s line specs d olds body) (TypesFunction s line specs d olds body)
function_rows s line specs d olds body =
    then_typing (result_rows s specs) (λ s b.
    then_typing (definition_rows s line b d) (λ s n.
    then_typing (in_scope_rows (reopened s (scope_of (own_step n.steps))) line n olds body) (λ t f. is_typing)))

external_rows : (s : State) (u : Parts) (e : ExternalTree) → IsTyping (typed_external s u e) (TypesExternal s u e)
external_rows s u (Function l specs d olds body) = then_typing (function_rows s l specs d olds body) (λ s f. is_typing)
external_rows s u (Declares l d) = then_typing (declaration_rows s d) (λ s what. is_typing)
external_rows s u (Empty l) = is_typing

externals_rows : (s : State) (u : Parts) (es : List ExternalTree) → IsTyping (typed_externals s u es) (TypesExternals s u es)
externals_rows s u [] = is_typing
externals_rows s u (e ∷ es) = then_typing (external_rows s u e) (λ s v. externals_rows s v es)

pub unit_rows : (t : UnitTree) → IsTyping (typed_unit t) (TypesUnit t)
unit_rows t = then_typing (externals_rows at_first no_parts t.externals) (λ s u. at_typing)
