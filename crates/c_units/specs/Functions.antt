-- Typing of functions' definitions: the declarator, the parameters, the body in their scope, and then the definition.
-- Source: C89 3.7.1, 3.1.2.1.
use Rattle.std.specs.Prelude.{ℕ, suc, Bool, true, false, not, ◌||◌, Option, Some, None, List, [], ◌∷◌, ◌++◌, length, is_some, if◌then◌else◌}
use Rattle.std.specs.Str.{bytes_eq}
use Rattle.c_ast.specs.Trees.{SpecifiersTree, DeclaratorTree, InitTree, DeclarationTree, BlockTree}
use Rattle.c_symbols.specs.declared.symbol.Storage.{Storage}
use Rattle.c_symbols.specs.declared.symbol.Storage.TheVariants as storage
use Rattle.c_symbols.specs.Scoping.{symbol_named}
use Rattle.c_types.specs.CType.{CType, Int, basic}
use Rattle.c_meaning.specs.State.{State, place_here, known_at, left}
use Rattle.c_meaning.specs.Rows.{result_type}
use Rattle.c_meaning.specs.Nodes.{NamedParameter, Step, ToFunction}
use Rattle.c_meaning.specs.TypeRows.{Specified, name_or_empty, formed, adjusted, with_parameter}
use Rattle.c_meaning.specs.Constraints.{Fault, broken_or}
use Rattle.c_meaning.specs.Typing.{Outcome, Fine, Declared, then_do, unless, typed_specifiers, typed_declarator}
use Rattle.c_meaning.specs.Units.{FunctionTree}
use Rattle.c_meaning.specs.StmtTrees.{StmtOf}
use Rattle.c_meaning.specs.Linkage.{with_name, with_count}
use Rattle.c_meaning.specs.Declarations.{noted, or_zero}
use Rattle.c_meaning.specs.Declaring.{first_class, naming, line_of, typed_inside, at_outside, declares_something}
use Rattle.c_units.specs.Marks.{block_labels, firsts}
use Rattle.c_units.specs.Bodies.{Within, Body, Typed, typed_block}
use Rattle.c_units.specs.Statements.{Around}
use Rattle.c_units.specs.Definitions.{Definition, OldParameter, definition_fault, parameter_fault, own_step, names_of}

-- a function that is defined, with the symbol of all its declarations
pub record DefinedFunction : Type 0 where
  pub symbol : ℕ
  pub function : FunctionTree

-- ---- the declarator

-- without specifiers a function's result is int
abbrev pub int_specified : Specified
int_specified = record { classes = []; of = basic Int }

abbrev pub typed_result : State → Option SpecifiersTree → Outcome Specified
typed_result s None = Fine s int_specified
typed_result s (Some specs) = then_do (typed_specifiers s specs) (λ s b. at_outside true s (line_of specs) b)

abbrev pub definition : State → Specified → Declared → Definition
definition s b p =
    record {
      naming = naming s (first_class b.classes) (name_or_empty p.name) (formed b.of p.steps);
      base = b.of;
      steps = p.steps;
    }

-- the function's name is in force from its declarator on, and defined
abbrev pub with_function_name : State → ℕ → Definition → State
with_function_name s line n = with_name s line n.naming.class n.naming.name n.naming.of

abbrev pub with_definition : State → ℕ → Definition → State
with_definition s line n = noted (with_function_name s line n) true (symbol_named (with_function_name s line n).links n.naming.name)

abbrev pub typed_definition : State → ℕ → Specified → DeclaratorTree → Outcome Definition
typed_definition s line b d =
    then_do (typed_declarator s d) (λ s p. unless (definition_fault s p.line (definition s b p)) (with_definition s line (definition s b p)) (definition s b p))

-- ---- parameters

-- the scope of the parameters, in which the body stands too
abbrev pub scope_of : Option Step → List (List ℕ × ℕ)
scope_of (Some (ToFunction ps more scope)) = scope
scope_of step = []

abbrev pub reopened : State → List (List ℕ × ℕ) → State
reopened s scope =
    record { outer = s.outer ++ s.inner ∷ []; inner = scope; links = s.links; symbols = s.symbols; tags = s.tags; count = s.count }

abbrev pub place_from : ℕ → List (List ℕ) → List ℕ → Option ℕ
place_from k [] name = None
place_from k (n ∷ ns) name = if bytes_eq name n then Some k else place_from (suc k) ns name

-- the place of a name in a list of names
abbrev pub place_in : List (List ℕ) → List ℕ → Option ℕ
place_in = place_from 0

abbrev pub old_parameter : List (List ℕ) → Specified → Declared → Bool → OldParameter
old_parameter names b p initialised =
    record {
      classes = b.classes;
      name = name_or_empty p.name;
      base = b.of;
      steps = p.steps;
      place = place_in names (name_or_empty p.name);
      initialised = initialised;
    }

abbrev pub with_old : State → ℕ → OldParameter → State
with_old s line n = with_parameter s line (or_zero n.place) n.classes (Some n.name) (adjusted (formed n.base n.steps))

abbrev pub typed_old : State → ℕ → List (List ℕ) → Specified → InitTree → Outcome (Unit {0})
typed_old s line names b i =
    then_do (typed_declarator s i.declarator) (λ s p.
    unless (parameter_fault s p.line (old_parameter names b p (is_some i.initialiser))) (with_old s line (old_parameter names b p (is_some i.initialiser))) tt)

abbrev pub typed_olds : State → ℕ → List (List ℕ) → Specified → List InitTree → Outcome (Unit {0})
typed_olds s line names b [] = Fine s tt
typed_olds s line names b (i ∷ is) = then_do (typed_old s line names b i) (λ s u. typed_olds s line names b is)

abbrev pub is_object_class : Storage → Bool
is_object_class storage.Auto = true
is_object_class storage.Register = true
is_object_class class = false

-- a name in force that isn't a parameter's: a function's that is called, or an enumerator
abbrev pub is_other : State → Option ℕ → Bool
is_other s None = false
is_other s (Some id) = not (is_object_class (known_at s id).class)

-- one of the listed names is in force in their scope as something else than a parameter
abbrev pub has_other : State → List (List ℕ) → Bool
has_other s [] = false
has_other s (n ∷ ns) = is_other s (place_here s n) || has_other s ns

-- 4: a declaration declares nothing; 5: it gives a listed name another meaning; 19: an old-style one that declares no parameter
abbrev pub old_declaration_constraint : Bool → Bool → Bool → Option ℕ
old_declaration_constraint something other parameters = if something then (if other then Some 5 else (if parameters then None else Some 19)) else Some 4

abbrev pub old_declaration_fault : State → ℕ → List (List ℕ) → Bool → Bool → Option Fault
old_declaration_fault s line names something parameters = broken_or line (old_declaration_constraint something (has_other s names) parameters) None

abbrev pub is_some_init : List InitTree → Bool
is_some_init [] = false
is_some_init (i ∷ is) = true

abbrev pub typed_old_declaration : State → List (List ℕ) → DeclarationTree → Outcome (Unit {0})
typed_old_declaration s names d =
    then_do (typed_inside s d.specifiers d.declarators) (λ s b.
    then_do (typed_olds s d.line names b d.declarators) (λ s u.
    unless (old_declaration_fault s d.line names (declares_something d) (is_some_init d.declarators)) s tt))

abbrev pub typed_old_declarations : State → List (List ℕ) → List DeclarationTree → Outcome (Unit {0})
typed_old_declarations s names [] = Fine s tt
typed_old_declarations s names (d ∷ ds) = then_do (typed_old_declaration s names d) (λ s u. typed_old_declarations s names ds)

-- a listed name that is declared nowhere is an int
abbrev pub with_listed : State → ℕ → ℕ → List ℕ → Option ℕ → State
with_listed s line place name (Some id) = s
with_listed s line place name None = with_parameter s line place [] (Some name) (basic Int)

abbrev pub with_all_listed : State → ℕ → ℕ → List (List ℕ) → State
with_all_listed s line place [] = s
with_all_listed s line place (n ∷ ns) = with_all_listed (with_listed s line place n (place_here s n)) line (suc place) ns

abbrev pub type_at : State → Option ℕ → CType
type_at s None = basic Int
type_at s (Some id) = (known_at s id).of

abbrev pub listed_types : State → List (List ℕ) → List CType
listed_types s [] = []
listed_types s (n ∷ ns) = type_at s (place_here s n) ∷ listed_types s ns

abbrev pub types_of : List NamedParameter → List CType
types_of [] = []
types_of (p ∷ ps) = p.of ∷ types_of ps

-- the types of the parameters in their scope
abbrev pub parameter_types : State → Option Step → List CType
parameter_types s (Some (ToFunction ps more scope)) = types_of ps
parameter_types s step = listed_types s (names_of step)

-- ---- the body

abbrev pub started : List CType → Body
started locals = record { marks = 0; cases = []; default = None; lost = false; locals = locals; objects = []; linked = [] }

abbrev pub within : Definition → BlockTree → Within
within n body = record { result = result_type n.naming.of; labels = firsts [] (block_labels 0 body) }

abbrev pub nowhere : Around
nowhere = record { loop = false; switch = false }

-- the parameters are the first locals
abbrev pub typed_body : State → Definition → BlockTree → Outcome (Typed (StmtOf CType))
typed_body s n body =
    typed_block (within n body) nowhere (with_count s (length (parameter_types s (own_step n.steps)))) (started (parameter_types s (own_step n.steps))) body

-- ---- the whole

-- a function's definition, with what its blocks declare
pub record TypedFunction : Type 0 where
  pub function : DefinedFunction
  pub body : Body

abbrev pub function_of : State → Definition → ℕ → Typed (StmtOf CType) → TypedFunction
function_of s n parameters t =
    record {
      function =
          record {
            symbol = or_zero (symbol_named s.links n.naming.name);
            function =
                record {
                  name = n.naming.name;
                  of = n.naming.of;
                  parameters = parameters;
                  locals = t.body.locals;
                  body = t.code;
                };
          };
      body = t.body;
    }

-- 50: a goto names no label of the function
abbrev pub lost_fault : ℕ → Bool → Option Fault
lost_fault line lost = broken_or line (if lost then Some 50 else None) None

abbrev pub typed_in_scope : State → ℕ → Definition → List DeclarationTree → BlockTree → Outcome TypedFunction
typed_in_scope s line n olds body =
    then_do (typed_old_declarations s (names_of (own_step n.steps)) olds) (λ s u.
    then_do (typed_body (with_all_listed s line 0 (names_of (own_step n.steps))) n body) (λ t x.
    unless (lost_fault line x.body.lost) t
    (function_of t n (length (parameter_types (with_all_listed s line 0 (names_of (own_step n.steps))) (own_step n.steps))) x)))

abbrev pub typed_function : State → ℕ → Option SpecifiersTree → DeclaratorTree → List DeclarationTree → BlockTree → Outcome TypedFunction
typed_function s line specs d olds body =
    then_do (typed_result s specs) (λ s b.
    then_do (typed_definition s line b d) (λ s n.
    then_do (typed_in_scope (reopened s (scope_of (own_step n.steps))) line n olds body) (λ t f. Fine (left s.outer s.inner t) f)))
