-- What typing makes of declarations where scopes and a table tell what is known, as contracts of the walk speak of it: it is
-- not unfolded there.
use Rattle.std.specs.Prelude.{ℕ, Option, List}
use Rattle.c_ast.specs.Trees.{DeclarationTree, DeclaratorTree, InitTree, InitialiserTree, SpecifiersTree}
use Rattle.c_symbols.specs.Scoping.{Scoping}
use Rattle.c_types.specs.Table.{Table}
use Rattle.c_meaning.specs.Declarations.{Declares, Name, Naming}
use Rattle.c_meaning.specs.Declaring.{at_decl, first_class, maybe_initialised, naming, typed_declaration, typed_init, typed_inits, typed_inside, typed_own_specifiers}
use Rattle.c_meaning.specs.Initialising.{Filled, Initialised}
use Rattle.c_meaning.specs.Linkage.{with_name}
use Rattle.c_meaning.specs.Nodes.{Typing}
use Rattle.c_meaning.specs.Nodes as node
use Rattle.c_meaning.specs.State.{State}
use Rattle.c_meaning.specs.TypeRows.{Specified, formed, name_or_empty}
use Rattle.c_meaning.specs.Typing.{Declared, Outcome, at, then_do, typed_declarator}
use Rattle.c_check_expr.specs.Known.{state_of}

-- a declarator that is typed, as that of a declared name: its constraints, its type, and the name in force
unfoldable pub named_at : State → ℕ → Specified → Declared → Outcome Naming
named_at s line b p =
    then_do (at_decl s p.line (Name (naming s (first_class b.classes) (name_or_empty p.name) (formed b.of p.steps))) s p) (λ s p.
    at s p.line (Typing (node.Declarator b.of p.steps)) (with_name s line (first_class b.classes) (name_or_empty p.name) (formed b.of p.steps))
    (naming s (first_class b.classes) (name_or_empty p.name) (formed b.of p.steps)))

unfoldable pub name_in : Scoping → Table → ℕ → Specified → DeclaratorTree → Outcome Naming
name_in s t line b d = then_do (typed_declarator (state_of s t) d) (λ m p. named_at m line b p)

unfoldable pub maybe_in : Scoping → Table → Initialised → Option InitialiserTree → Outcome (Option Filled)
maybe_in s t o i = maybe_initialised (state_of s t) o i

unfoldable pub init_in : Scoping → Table → ℕ → Specified → InitTree → Outcome Declares
init_in s t line b i = typed_init (state_of s t) line b i

unfoldable pub inits_in : Scoping → Table → ℕ → Specified → List InitTree → Outcome Declares
inits_in s t line b is = typed_inits (state_of s t) line b is

unfoldable pub inside_in : Scoping → Table → SpecifiersTree → List InitTree → Outcome Specified
inside_in s t specs is = typed_inside (state_of s t) specs is

unfoldable pub own_specifiers_in : Scoping → Table → SpecifiersTree → List InitTree → Outcome Specified
own_specifiers_in s t specs is = typed_own_specifiers (state_of s t) specs is

unfoldable pub declaration_in : Scoping → Table → DeclarationTree → Outcome Declares
declaration_in s t d = typed_declaration (state_of s t) d
