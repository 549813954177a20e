-- The end of a unit: tentative definitions, address constants over the whole unit, and what is named but not defined.
-- Source: C89 3.7.2, 3.4, 3.7, 2.1.2.2, in the profile of this compiler.
use Rattle.std.specs.Prelude.{ℕ, zero, suc, ℤ, pos, codes, ◌==◌, ◌&&◌, ◌||◌, not, nat_le, Bool, true, false, Option, Some, None, List, [], ◌∷◌, ◌++◌, is_some, if◌then◌else◌}
use Rattle.std.specs.Str.{bytes_eq}
use Rattle.c_symbols.specs.declared.symbol.Storage.{Storage}
use Rattle.c_symbols.specs.declared.symbol.Storage.TheVariants as storage
use Rattle.c_types.specs.CType.{CType, Plain, Array, Function, Int, Void, CTypes, NoType, And, Listed, basic}
use Rattle.c_types.specs.Compatible.{compatible}
use Rattle.c_types.specs.Constness.{is_const}
use Rattle.c_meaning.specs.declared.built_in.BuiltIn.{BuiltIn}
use Rattle.c_meaning.specs.declared.built_in.BuiltIn.TheVariants as built_in
use Rattle.c_meaning.specs.declared.core_expr.CoreKind.{CoreKind}
use Rattle.c_meaning.specs.declared.core_expr.CoreKind.TheVariants as kind
use Rattle.c_meaning.specs.CoreTrees.{Core, NoCore, Cores, line_of}
use Rattle.c_meaning.specs.State.{Known, State, known_at}
use Rattle.c_meaning.specs.Types.{is_function, is_array, has_size}
use Rattle.c_meaning.specs.Rows.{nat_of, result_type}
use Rattle.c_meaning.specs.Values.{CoreTree, CoreTrees}
use Rattle.c_meaning.specs.AddressConstants.{is_static_value}
use Rattle.c_meaning.specs.StmtTrees.{FilledOf, StmtOf, Expression, Initialise, Block, If, While, Do, For, Switch, Label, Return, StmtsOf, NoStmt, Stmts}
use Rattle.c_meaning.specs.Declarations.{Defined, Linked}
use Rattle.c_meaning.specs.Constraints.{Fault, Breaks}
use Rattle.c_meaning.specs.Postorder.{or_else}
use Rattle.c_meaning.specs.Units.{is_main}
use Rattle.c_units.specs.Functions.{DefinedFunction}
use Rattle.c_units.specs.Externals.{Parts}

-- ---- tentative definitions

abbrev pub is_tentative : Option ℤ → Bool
is_tentative (Some (pos zero)) = true
is_tentative v = false

-- an array of unknown size with external linkage has one element
abbrev pub closed_by : Storage → CType → CType
closed_by storage.Extern (Array of None) = Array of (Some 1)
closed_by class of = of

abbrev pub closed : Known → CType
closed k = closed_by k.class k.of

-- the names that are only defined tentatively, in the order of their first declarations, with their symbols
abbrev pub tentative : State → List (List ℕ × ℕ) → List (List ℕ × ℕ)
tentative s [] = []
tentative s (n ∷ ns) = if is_tentative (known_at s n.1).value then n ∷ tentative s ns else tentative s ns

-- 16: one of them has incomplete type: told at its first declaration
abbrev pub open_fault : State → List (List ℕ × ℕ) → Option Fault
open_fault s [] = None
open_fault s (n ∷ ns) = if has_size s.tags (closed (known_at s n.1)) then open_fault s ns else Some (Breaks 16 (known_at s n.1).line)

abbrev pub tentative_object : State → List ℕ × ℕ → Defined
tentative_object s n =
    record {
      symbol = n.1;
      object =
          record {
            name = n.0;
            of = closed (known_at s n.1);
            line = (known_at s n.1).line;
            constant = is_const (closed (known_at s n.1));
            places = [];
          };
    }

abbrev pub tentative_objects : State → List (List ℕ × ℕ) → List Defined
tentative_objects s [] = []
tentative_objects s (n ∷ ns) = tentative_object s n ∷ tentative_objects s ns

-- with these, behind the objects that are defined with initialisers or in blocks
abbrev pub with_tentative : State → Parts → Parts
with_tentative s u = record { functions = u.functions; objects = u.objects ++ tentative_objects s (tentative s s.links); linked = u.linked }

-- ---- address constants

-- the type of the object that a symbol names
abbrev pub type_among : List Defined → ℕ → CType → CType
type_among [] id of = of
type_among (o ∷ os) id of = if o.symbol == id then o.object.of else type_among os id of

abbrev pub whole_type : List Defined → CoreKind → CType → CType
whole_type os (kind.Symbol id) of = type_among os id of
whole_type os what of = of

-- a value with the types that its objects have in the whole unit
abbrev mutual
  pub over : List Defined → CoreTree → CoreTree
  over os (Core what of line kids) = Core what (whole_type os what of) line (all_over os kids)

  pub all_over : List Defined → CoreTrees → CoreTrees
  all_over os NoCore = NoCore
  all_over os (Cores c cs) = Cores (over os c) (all_over os cs)

-- a place that isn't filled by a string
abbrev pub is_past : State → List Defined → FilledOf CType → Bool
is_past s os p = not (is_array p.of) && not (is_static_value s.tags (over os p.value))

abbrev pub past_fault : State → List Defined → List (FilledOf CType) → Option Fault
past_fault s os [] = None
past_fault s os (p ∷ ps) = if is_past s os p then Some (Breaks 24 (line_of p.value)) else past_fault s os ps

-- 24: an address constant lies past the end of its object
abbrev pub constants_fault : State → List Defined → List Defined → Option Fault
constants_fault s os [] = None
constants_fault s os (o ∷ more) = or_else (past_fault s os o.object.places) (constants_fault s os more)

-- ---- names that are used

-- where a name's symbol stands, and on which line
abbrev mutual
  pub uses : CoreTree → List (ℕ × ℕ)
  uses (Core (kind.Symbol id) of line kids) = (id, line) ∷ []
  uses (Core what of line kids) = all_uses kids

  pub all_uses : CoreTrees → List (ℕ × ℕ)
  all_uses NoCore = []
  all_uses (Cores c cs) = uses c ++ all_uses cs

abbrev pub some_uses : Option CoreTree → List (ℕ × ℕ)
some_uses None = []
some_uses (Some c) = uses c

abbrev pub place_uses : List (FilledOf CType) → List (ℕ × ℕ)
place_uses [] = []
place_uses (p ∷ ps) = uses p.value ++ place_uses ps

abbrev mutual
  pub stmt_uses : StmtOf CType → List (ℕ × ℕ)
  stmt_uses (Expression e) = uses e
  stmt_uses (Initialise local zeroed ps) = place_uses ps
  stmt_uses (Block first locals ss) = stmts_uses ss
  stmt_uses (If e s t) = uses e ++ stmt_uses s ++ stmt_uses t
  stmt_uses (While e s) = uses e ++ stmt_uses s
  stmt_uses (Do s e) = stmt_uses s ++ uses e
  stmt_uses (For a b c s) = some_uses a ++ some_uses b ++ some_uses c ++ stmt_uses s
  stmt_uses (Switch e cases default s) = uses e ++ stmt_uses s
  stmt_uses (Label n s) = stmt_uses s
  stmt_uses (Return e) = some_uses e
  stmt_uses s = []

  pub stmts_uses : StmtsOf CType → List (ℕ × ℕ)
  stmts_uses NoStmt = []
  stmts_uses (Stmts s ss) = stmt_uses s ++ stmts_uses ss

abbrev pub object_uses : List Defined → List (ℕ × ℕ)
object_uses [] = []
object_uses (o ∷ os) = place_uses o.object.places ++ object_uses os

abbrev pub function_uses : List DefinedFunction → List (ℕ × ℕ)
function_uses [] = []
function_uses (f ∷ fs) = stmt_uses f.function.body ++ function_uses fs

-- ---- what a symbol stands for

abbrev pub is_function_of : List DefinedFunction → ℕ → Bool
is_function_of [] id = false
is_function_of (f ∷ fs) id = (f.symbol == id) || is_function_of fs id

abbrev pub is_object_of : List Defined → ℕ → Bool
is_object_of [] id = false
is_object_of (o ∷ os) id = (o.symbol == id) || is_object_of os id

abbrev pub is_defined_in : Parts → ℕ → Bool
is_defined_in u id = is_function_of u.functions id || is_object_of u.objects id

-- the name with linkage that has a symbol
abbrev pub name_of : List (List ℕ × ℕ) → ℕ → List ℕ
name_of [] id = []
name_of (n ∷ ns) id = if n.1 == id then n.0 else name_of ns id

abbrev pub built_in_named : List ℕ → Option BuiltIn
built_in_named name =
    if bytes_eq name (codes "putchar") then Some built_in.Putchar
    else if bytes_eq name (codes "getchar") then Some built_in.Getchar
    else if bytes_eq name (codes "exit") then Some built_in.Exit
    else None

-- the built-in function that a symbol stands for where the unit defines nothing of its name
abbrev pub built_in_of : State → ℕ → Option BuiltIn
built_in_of s id = built_in_named (name_of s.links id)

abbrev pub is_nothing_in : State → Parts → ℕ → Bool
is_nothing_in s u id = not (is_defined_in u id || is_some (built_in_of s id))

-- ---- 52

abbrev pub least : Option ℕ → ℕ → Option ℕ
least None line = Some line
least (Some other) line = if nat_le other line then Some other else Some line

-- the least line of a name that nothing defines
abbrev pub missing_from : State → Parts → Option ℕ → List (ℕ × ℕ) → Option ℕ
missing_from s u found [] = found
missing_from s u found (x ∷ xs) = missing_from s u (if is_nothing_in s u x.0 then least found x.1 else found) xs

-- a function's type with these parameters
abbrev pub function_type : CType → CTypes → CType
function_type result ps = Plain 0 (Function result (Listed ps false))

abbrev pub built_in_parameters : BuiltIn → CTypes
built_in_parameters built_in.Putchar = And (basic Int) NoType
built_in_parameters built_in.Getchar = NoType
built_in_parameters built_in.Exit = And (basic Int) NoType

-- exit gives nothing, the others an int
abbrev pub built_in_result : BuiltIn → CType
built_in_result built_in.Putchar = basic Int
built_in_result built_in.Getchar = basic Int
built_in_result built_in.Exit = basic Void

-- a type that a built-in function may be declared with: exit may be declared with the result int too
abbrev pub fits_built_in : Option BuiltIn → CType → Bool
fits_built_in None of = true
fits_built_in (Some b) of = compatible of (function_type (built_in_result b) (built_in_parameters b)) || compatible of (function_type (basic Int) (built_in_parameters b))

-- a declaration of a built-in function that the unit doesn't define, with another type
abbrev pub is_otherwise : State → Parts → ℕ → CType → Bool
is_otherwise s u id of = not (is_defined_in u id) && not (fits_built_in (built_in_of s id) of)

-- the least line of such a declaration
abbrev pub otherwise_from : State → Parts → Option ℕ → List Linked → Option ℕ
otherwise_from s u found [] = found
otherwise_from s u found (d ∷ ds) = otherwise_from s u (if is_otherwise s u d.symbol d.of then least found d.line else found) ds

-- A call of an undeclared name declares it as a function with result int. Of such a symbol the result is asked: all declarations of
-- a name have compatible ones.
abbrev pub is_link : List (List ℕ × ℕ) → ℕ → Bool
is_link [] id = false
is_link (n ∷ ns) id = (n.1 == id) || is_link ns id

abbrev pub linked_by : Storage → Option ℤ → Option ℕ
linked_by storage.Extern (Some z) = Some (nat_of (Some z) 0)
linked_by class value = None

abbrev pub linked_symbol : Known → Option ℕ
linked_symbol k = linked_by k.class k.value

abbrev pub gives_otherwise : Option BuiltIn → CType → Bool
gives_otherwise None of = false
gives_otherwise (Some b) of = is_function of && not (compatible (result_type of) (built_in_result b) || compatible (result_type of) (basic Int))

abbrev pub is_called_otherwise : State → Parts → Option ℕ → CType → Bool
is_called_otherwise s u None of = false
is_called_otherwise s u (Some id) of = not (is_defined_in u id) && gives_otherwise (built_in_of s id) of

abbrev pub called_from : State → Parts → ℕ → Option ℕ → List Known → Option ℕ
called_from s u id found [] = found
called_from s u id found (k ∷ ks) =
    called_from s u (suc id) (if not (is_link s.links id) && is_called_otherwise s u (linked_symbol k) k.of then least found k.line else found) ks

abbrev pub has_main : List DefinedFunction → Bool
has_main [] = false
has_main (f ∷ fs) = is_main f.function || has_main fs

abbrev pub missing_at : Option ℕ → Option Fault
missing_at None = None
missing_at (Some line) = Some (Breaks 52 line)

-- 52: main isn't defined as it may be; then a name is used that nothing defines; then a built-in function is declared otherwise
abbrev pub names_fault : State → Parts → Option Fault
names_fault s u =
    if has_main u.functions
    then
    or_else (missing_at (missing_from s u None (object_uses u.objects ++ function_uses u.functions)))
    (missing_at (called_from s u 0 (otherwise_from s u None u.linked) s.symbols))
    else Some (Breaks 52 1)

abbrev pub whole_fault : State → Parts → Option Fault
whole_fault s u = or_else (constants_fault s u.objects u.objects) (names_fault s u)

-- the fault of the unit's own node
unfoldable pub unit_fault : State → Parts → Option Fault
unit_fault s u = or_else (open_fault s (tentative s s.links)) (whole_fault s (with_tentative s u))
