-- The fault that typing gives of a unit is that of the first node, in postorder, that has one.
use Rattle.std.specs.Prelude.{ℕ, refl, true, Option, Some, None, List, [], ◌∷◌}
use Rattle.c_ast.specs.Trees.{SpecifiersTree, DeclaratorTree, InitTree, DeclarationTree, BlockTree, ExternalTree, Function, Declares, Empty, UnitTree}
use Rattle.c_meaning.specs.State.{State}
use Rattle.c_meaning.specs.TypeRows.{Specified}
use Rattle.c_meaning.specs.Declaring.{line_of}
use Rattle.c_meaning.specs.DeclaringNodes.{outside_nodes}
use Rattle.c_meaning.proofs.lemmas.TypingFaults.{specifiers_first, declarator_first}
use Rattle.c_meaning.proofs.lemmas.DeclaringFaults.{inside_first as within_first, outside_first, declaration_first}
use Rattle.c_units.specs.Definitions.{Definition, own_step, names_of}
use Rattle.c_units.specs.Functions.{within, nowhere, scope_of, reopened, typed_result, typed_definition, typed_old, typed_olds, typed_old_declaration, typed_old_declarations, typed_in_scope, typed_function}
use Rattle.c_units.specs.Externals.{Parts, no_parts, typed_external, typed_externals}
use Rattle.c_units.specs.Typing.{at_first, typed_unit}
use Rattle.c_units.specs.UnitNodes.{result_nodes, definition_nodes, old_nodes, olds_nodes, old_declaration_nodes, old_declarations_nodes, in_scope_nodes, function_nodes, external_nodes, externals_nodes, unit_nodes}
use Rattle.c_units.proofs.Nodes.{IsFirstIn, look_first, last_in, none_in, inside_first, part_inside, node_in}
use Rattle.c_units.proofs.StatementFaults.{block_first}

result_first : (s : State) (specs : Option SpecifiersTree) → IsFirstIn (typed_result s specs) (result_nodes s specs)
result_first s None = none_in _ _
result_first s (Some specs) = look_first _ _ _ _ (part_inside _ _ (specifiers_first s specs)) (λ s b. inside_first _ (outside_nodes true s (line_of specs) b) (outside_first true s (line_of specs) b))

definition_first : (s : State) (line : ℕ) (b : Specified) (d : DeclaratorTree) → IsFirstIn (typed_definition s line b d) (definition_nodes s line b d)
definition_first s line b d = look_first _ _ _ _ (part_inside _ _ (declarator_first s d)) (λ s p. node_in _ _ _)

old_first : (s : State) (line : ℕ) (names : List (List ℕ)) (b : Specified) (i : InitTree) → IsFirstIn (typed_old s line names b i) (old_nodes s line names b i)
old_first s line names b i = look_first _ _ _ _ (part_inside _ _ (declarator_first s i.declarator)) (λ s p. node_in _ _ _)

olds_first : (s : State) (line : ℕ) (names : List (List ℕ)) (b : Specified) (is : List InitTree) → IsFirstIn (typed_olds s line names b is) (olds_nodes s line names b is)
olds_first s line names b [] = none_in _ _
olds_first s line names b (i ∷ is) = look_first _ _ _ _ (old_first s line names b i) (λ s u. olds_first s line names b is)

old_declaration_first : (s : State) (names : List (List ℕ)) (d : DeclarationTree) → IsFirstIn (typed_old_declaration s names d) (old_declaration_nodes s names d)
old_declaration_first s names d = look_first _ _ _ _ (inside_first _ _ (within_first s d.specifiers d.declarators)) (λ s b. look_first _ _ _ _ (olds_first s d.line names b d.declarators) (λ s u. node_in _ _ _))

old_declarations_first : (s : State) (names : List (List ℕ)) (ds : List DeclarationTree) → IsFirstIn (typed_old_declarations s names ds) (old_declarations_nodes s names ds)
old_declarations_first s names [] = none_in _ _
old_declarations_first s names (d ∷ ds) = look_first _ _ _ _ (old_declaration_first s names d) (λ s u. old_declarations_first s names ds)

in_scope_first : (s : State) (line : ℕ) (n : Definition) (olds : List DeclarationTree) (body : BlockTree) → IsFirstIn (typed_in_scope s line n olds body) (in_scope_nodes s line n olds body)
in_scope_first s line n olds body =
    look_first _ _ _ _ (old_declarations_first s (names_of (own_step n.steps)) olds) (λ s u.
    look_first _ _ _ _ (block_first (within n body) nowhere _ _ body) (λ t x. node_in _ _ _))

function_first : (s : State) (line : ℕ) (specs : Option SpecifiersTree) (d : DeclaratorTree) (olds : List DeclarationTree) (body : BlockTree) → IsFirstIn (typed_function s line specs d olds body) (function_nodes s line specs d olds body)
function_first s line specs d olds body =
    look_first _ _ _ _ (result_first s specs) (λ s b.
    look_first _ _ _ _ (definition_first s line b d) (λ s n.
    last_in _ _ _ (in_scope_first (reopened s (scope_of (own_step n.steps))) line n olds body) (λ t f. refl)))

external_first : (s : State) (u : Parts) (e : ExternalTree) → IsFirstIn (typed_external s u e) (external_nodes s u e)
external_first s u (Function l specs d olds body) = last_in _ _ _ (function_first s l specs d olds body) (λ s f. refl)
external_first s u (Declares l d) = last_in _ _ _ (inside_first _ _ (declaration_first s d)) (λ s what. refl)
external_first s u (Empty l) = none_in _ _

externals_first : (s : State) (u : Parts) (es : List ExternalTree) → IsFirstIn (typed_externals s u es) (externals_nodes s u es)
externals_first s u [] = none_in _ _
externals_first s u (e ∷ es) = look_first _ _ _ _ (external_first s u e) (λ s v. externals_first s v es)

pub unit_first : (t : UnitTree) → IsFirstIn (typed_unit t) (unit_nodes t)
unit_first t = look_first _ _ _ _ (externals_first at_first no_parts t.externals) (λ s u. node_in _ _ _)
