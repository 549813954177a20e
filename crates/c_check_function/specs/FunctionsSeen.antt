-- What typing makes of the parts of a definition where scopes and a table tell what is known, as contracts of the walk speak of
-- it: it is not unfolded there.
use Rattle.std.specs.Prelude.{ℕ, ◌<◌, Option, List}
use Rattle.c_ast.specs.declared.expr.Specifiers.{Specifiers}
use Rattle.c_ast.specs.Seen.{specifiers_seen}
use Rattle.c_ast.specs.Trees.{DeclarationTree, DeclaratorTree, InitTree, SpecifiersTree}
use Rattle.c_ast.specs.UnitViews.{option_of}
use Rattle.c_symbols.specs.Scoping.{Scoping}
use Rattle.c_types.specs.Table.{Table, type_at}
use Rattle.c_meaning.specs.State.{State}
use Rattle.c_meaning.specs.TypeRows.{Specified}
use Rattle.c_meaning.specs.Typing.{Outcome, Declared, unless}
use Rattle.c_check_decl.specs.Named.{IsNamingIn, naming_in}
use Rattle.c_check_expr.specs.Known.{state_of}
use Rattle.c_check_expr.specs.PartsSeen.{AreStepsIn, steps_seen}
use Rattle.c_units.specs.Definitions.{Definition as DefinitionTrees, OldParameter, definition_fault, parameter_fault}
use Rattle.c_units.specs.Functions as units
use Rattle.c_units.specs.Functions.{typed_definition, typed_old, typed_old_declaration, typed_old_declarations, typed_olds, typed_result, with_definition, with_old}
use Rattle.c_check_function.specs.declared.definition.Definition.{Definition}

abbrev pub maybe_specifiers_seen : Option Specifiers → Option SpecifiersTree
maybe_specifiers_seen o = option_of specifiers_seen o

unfoldable pub result_in : Scoping → Table → Option SpecifiersTree → Outcome Specified
result_in s t specs = typed_result (state_of s t) specs

-- ---- the declarator

abbrev pub definition_seen : Table → Definition → DefinitionTrees
definition_seen t d = record { naming = naming_in t d.naming; base = type_at t d.base; steps = steps_seen t d.steps }

-- its types stand below this place
pub record IsDefinitionIn (n : ℕ) (d : Definition) : Type 0 where
  pub naming : IsNamingIn n d.naming
  pub base : d.base < n
  pub steps : AreStepsIn n d.steps

abbrev pub defined_at : State → ℕ → Specified → Declared → Outcome DefinitionTrees
defined_at s line b p = unless (definition_fault s p.line (units.definition s b p)) (with_definition s line (units.definition s b p)) (units.definition s b p)

unfoldable pub definition_in : Scoping → Table → ℕ → Specified → DeclaratorTree → Outcome DefinitionTrees
definition_in s t line b d = typed_definition (state_of s t) line b d

-- ---- old-style parameters, of which nothing is given but what is known behind them

abbrev pub no_value : Table → Unit {0} → Unit {0}
no_value t v = v

abbrev pub no_types : ℕ → Unit {0} → Type 0
no_types n v = Unit {0}

abbrev pub old_at : State → ℕ → ℕ → OldParameter → Outcome (Unit {0})
old_at s line own n = unless (parameter_fault s own n) (with_old s line n) tt

unfoldable pub old_in : Scoping → Table → ℕ → List (List ℕ) → Specified → InitTree → Outcome (Unit {0})
old_in s t line names b i = typed_old (state_of s t) line names b i

unfoldable pub olds_in : Scoping → Table → ℕ → List (List ℕ) → Specified → List InitTree → Outcome (Unit {0})
olds_in s t line names b is = typed_olds (state_of s t) line names b is

unfoldable pub old_declaration_in : Scoping → Table → List (List ℕ) → DeclarationTree → Outcome (Unit {0})
old_declaration_in s t names d = typed_old_declaration (state_of s t) names d

unfoldable pub old_declarations_in : Scoping → Table → List (List ℕ) → List DeclarationTree → Outcome (Unit {0})
old_declarations_in s t names ds = typed_old_declarations (state_of s t) names ds
