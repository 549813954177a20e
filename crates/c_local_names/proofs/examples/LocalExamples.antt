-- Examples: a function `int f() { int a = 1; return a; }`, and what its names and initialisers aren't.
use Rattle.c_meaning.specs.declared.core_expr.CoreKind.{CoreKind}
use Rattle.c_types.specs.Compatible.{compatible}
use Rattle.std.proofs.Common.{◌≡◌, ℕ, false, [], ◌∷◌, refl, subst, sym, true}
use Rattle.std.specs.Prelude.{codes, Some}
use Rattle.c_types.specs.CType.{CType, Plain, Function, Open, Int, Char, basic}
use Rattle.c_meaning.specs.declared.core_expr.CoreKind.TheVariants as kind
use Rattle.c_meaning.specs.CoreTrees.{Core, none, one}
use Rattle.c_meaning.specs.Declarations.{Defined}
use Rattle.c_meaning.specs.StmtTrees.{FilledOf, StmtOf, Initialise, Block, Return, NoStmt, Stmts}
use Rattle.c_meaning.specs.Types.{pointer_to}
use Rattle.c_meaning.specs.Units.{text_type}
use Rattle.c_units.specs.Functions.{DefinedFunction}
use Rattle.c_local_names.specs.Laws.{LocalsFit, NamesNoLocal}
use Rattle.c_local_names.specs.LocalNames.{IfLocal}

-- ---- names

local_named : IfLocal (basic Int ∷ []) (kind.Local 0 false) (basic Int)
local_named = (basic Int, refl, refl)

-- there is no such local
no_local : IfLocal [] (kind.Local 0 false) (basic Int) → ⊥
no_local h = let e = h.1 in let none : ⊥ = cc in none

-- it has another type
other_local : IfLocal (basic Char ∷ []) (kind.Local 0 false) (basic Int) → ⊥
other_local h = absurd (let e = h.1 in let same : basic Char ≡ h.0 = cc in let k = subst (λ t. compatible (basic Int) t ≡ true) (sym same) h.2 in let none : ⊥ = cc in none)

text_named : IfLocal [] (kind.Literal (codes "a")) (text_type (codes "a"))
text_named = refl

other_text : IfLocal [] (kind.Literal (codes "a")) (basic Int) → ⊥
other_text h = let none : ⊥ = cc in none

-- ---- a function

abbrev body : ℕ → StmtOf CType
body local = Block 0 1 (Stmts (Initialise local true []) (Stmts (Return (Some (Core kind.Read (basic Int) 1 (one (Core (kind.Local local false) (basic Int) 1 none))))) NoStmt))

abbrev function : ℕ → DefinedFunction
function local =
    record {
      symbol = 0;
      function = record { name = codes "f"; of = Plain 0 (Function (basic Int) Open); parameters = 0; locals = basic Int ∷ []; body = body local };
    }

own_names : LocalsFit [] (function 0)
own_names = record { names = (tt, ((tt, (((basic Int, refl, refl), tt), tt)), tt)); fills = ((basic Int, refl, (4, refl, tt)), (tt, tt)) }

-- it has one local
other_names : LocalsFit [] (function 1) → ⊥
other_names h = let e = h.fills.0.1 in let none : ⊥ = cc in none

-- ---- objects

abbrev object : FilledOf CType → Defined
object p = record { symbol = 0; object = record { name = codes "p"; of = pointer_to (basic Int); line = 1; constant = false; places = p ∷ [] } }

abbrev address_of : CoreKind → FilledOf CType
address_of what = record { of = pointer_to (basic Int); offset = 0; first = 0; width = 0; value = Core kind.Address (pointer_to (basic Int)) 1 (one (Core what (basic Int) 1 none)) }

symbol_stored : NamesNoLocal (object (address_of (kind.Symbol 1)))
symbol_stored = ((tt, ((tt, tt), tt)), tt)

local_stored : NamesNoLocal (object (address_of (kind.Local 0 false))) → ⊥
local_stored h = let e = h.0.1.0.0.1 in let none : ⊥ = cc in none
