-- What a function's definition gives its unit, over a table of types, and what typing makes of it.
use Rattle.std.specs.Prelude.{ℕ, Option, List, [], map, length}
use Rattle.c_ast.specs.declared.unit.FunctionDefinition.{FunctionDefinition}
use Rattle.c_ast.specs.Seen.{declarator_seen}
use Rattle.c_ast.specs.SeenUnits.{declaration_seen}
use Rattle.c_ast.specs.Trees.{BlockTree, DeclarationTree, DeclaratorTree, SpecifiersTree}
use Rattle.c_symbols.specs.Scoping.{Scoping, symbol_named}
use Rattle.c_types.specs.CType.{CType}
use Rattle.c_types.specs.Table.{Table}
use Rattle.c_meaning.specs.Declarations.{Defined, Linked, Naming, or_zero}
use Rattle.c_meaning.specs.Linkage.{with_count}
use Rattle.c_meaning.specs.Rows.{result_type}
use Rattle.c_meaning.specs.State.{State}
use Rattle.c_meaning.specs.StmtTrees.{StmtOf}
use Rattle.c_meaning.specs.Typing.{Outcome, Fine, then_do, unless}
use Rattle.c_check_decl.specs.Declares.{AreLinkedIn, AreObjectsIn, defined_in, linked_in}
use Rattle.c_check_decl.specs.Named.{IsNamingIn, naming_in}
use Rattle.c_check_expr.specs.Known.{state_of}
use Rattle.c_units.specs.Bodies.{Typed, typed_block}
use Rattle.c_units.specs.Functions.{DefinedFunction as FunctionTrees, TypedFunction, lost_fault, nowhere, started, typed_function, typed_old_declarations, with_all_listed}
use Rattle.c_units.specs.Marks.{block_labels, firsts}
use Rattle.c_stmt_parts.specs.StatementsSeen.{block_seen}
use Rattle.c_unit_parts.specs.PartsIn.{IsFunctionIn, function_in as defined_function_in}
use Rattle.c_check_function.specs.declared.function_definitions.Defines.{Defines}
use Rattle.c_check_function.specs.declared.function_definitions.Own.{Own}
use Rattle.c_check_function.specs.FunctionsSeen.{maybe_specifiers_seen}
use Rattle.c_check_function.specs.OwnParameters.{AreOwnIn, own_names, own_types}

-- ---- what a definition gives

pub record DefinesTrees : Type 0 where
  pub function : FunctionTrees
  pub objects : List Defined
  pub linked : List Linked

abbrev pub made_of : TypedFunction → DefinesTrees
made_of f = record { function = f.function; objects = f.body.objects; linked = f.body.linked }

abbrev pub defines_in : Table → Defines → DefinesTrees
defines_in t d = record { function = defined_function_in t d.function; objects = map (defined_in t) d.objects; linked = map (linked_in t) d.linked }

-- its types stand below this place
pub record AreDefinedIn (n : ℕ) (d : Defines) : Type 0 where
  pub function : IsFunctionIn n d.function
  pub objects : AreObjectsIn n d.objects
  pub linked : AreLinkedIn n d.linked

-- ---- what typing makes of it

-- the syntax of a definition behind its line
pub record FunctionSyntax : Type 0 where
  pub specifiers : Option SpecifiersTree
  pub declarator : DeclaratorTree
  pub parameters : List DeclarationTree
  pub body : BlockTree

abbrev pub function_seen : FunctionDefinition → FunctionSyntax
function_seen f =
    record {
      specifiers = maybe_specifiers_seen f.specifiers;
      declarator = declarator_seen f.declarator;
      parameters = map declaration_seen f.parameters;
      body = block_seen f.body;
    }

unfoldable pub function_in : Scoping → Table → ℕ → FunctionSyntax → Outcome DefinesTrees
function_in s t line f = then_do (typed_function (state_of s t) line f.specifiers f.declarator f.parameters f.body) (λ u g. Fine u (made_of g))

-- the function of a name with so many parameters, and what its body has at its end
abbrev pub function_by : State → Naming → ℕ → Typed (StmtOf CType) → DefinesTrees
function_by s n parameters t =
    record {
      function =
          record {
            symbol = or_zero (symbol_named s.links n.name);
            function = record { name = n.name; of = n.of; parameters = parameters; locals = t.body.locals; body = t.code };
          };
      objects = t.body.objects;
      linked = t.body.linked;
    }

-- where its parameters' scope is open, behind the declarations of old-style ones
abbrev pub with_parameters : ℕ → Naming → List CType → BlockTree → State → Outcome DefinesTrees
with_parameters line n ts body s =
    then_do (typed_block (record { result = result_type n.of; labels = firsts [] (block_labels 0 body) }) nowhere (with_count s (length ts)) (started ts) body) (λ t x.
    unless (lost_fault line x.body.lost) t (function_by t n (length ts) x))

abbrev pub typed_in_scope : State → ℕ → Naming → List (List ℕ) → (State → List CType) → List DeclarationTree → BlockTree → Outcome DefinesTrees
typed_in_scope s line n names ts olds body =
    then_do (typed_old_declarations s names olds) (λ s u. with_parameters line n (ts (with_all_listed s line 0 names)) body (with_all_listed s line 0 names))

unfoldable pub in_scope_in : Scoping → Table → ℕ → Own → List DeclarationTree → BlockTree → Outcome DefinesTrees
in_scope_in s t line own olds body =
    typed_in_scope (state_of s t) line (naming_in t own.naming) (own_names own.parameters) (λ s. own_types s t own.parameters) olds body

-- its types stand below this place
pub record IsOwnIn (n : ℕ) (o : Own) : Type 0 where
  pub naming : IsNamingIn n o.naming
  pub parameters : AreOwnIn n o.parameters
