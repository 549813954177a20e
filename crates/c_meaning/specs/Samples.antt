-- What is known at a place in a function, and typed expressions there, for examples. Before the place stands
--
--     struct s { int m; unsigned b : 3; int list[2]; };
--     struct fixed { const int m; };
--     union u { int m; };
--     struct open;
--     enum e { first };
--     int f(int);
--     int g();
--     ..
--     {
--         int x;
--         register int r;
--
-- and in a block that has ended `extern int number, before(int), narrow(char);`.
use Rattle.std.specs.Prelude.{ℕ, ℤ, pos, codes, true, false, Option, Some, None, List, [], ◌∷◌}
use Rattle.c_ast.specs.declared.class.IntKind.TheVariants as int_kind
use Rattle.c_ast.specs.declared.operator.MemberOperator.TheVariants as member
use Rattle.c_ast.specs.declared.operator.PrefixOperator.TheVariants as prefix
use Rattle.c_ast.specs.declared.specifier.RecordKind.{RecordKind}
use Rattle.c_ast.specs.declared.specifier.RecordKind.TheVariants as record_kind
use Rattle.c_symbols.specs.declared.symbol.Storage.{Storage}
use Rattle.c_symbols.specs.declared.symbol.Storage.TheVariants as storage
use Rattle.c_types.specs.CType.{Void, Char, UnsignedChar, Int, Unsigned, CType, Plain, Array, Function, Structure, Union, Enumeration, Parameters, Open, Listed, NoType, And, basic, qualify}
use Rattle.c_types.specs.Layout.{MemberType}
use Rattle.c_meaning.specs.declared.core_expr.CoreKind.TheVariants as kind
use Rattle.c_meaning.specs.CoreTrees.{Core, none}
use Rattle.c_meaning.specs.State.{Known, State, declared, entered, with_link, link_or_next}
use Rattle.c_meaning.specs.Types.{pointer_to}
use Rattle.c_meaning.specs.Values.{CoreTree}
use Rattle.c_meaning.specs.Nodes as node
use Rattle.c_meaning.specs.Rows.{row}
use Rattle.c_meaning.specs.TypeRows.{opened, enumerated, completed, with_enumerator}

-- ---- types

abbrev pub int : CType
int = basic Int

abbrev pub const : CType → CType
const t = qualify 1 t

abbrev pub function : CType → Parameters → CType
function result parameters = Plain 0 (Function result parameters)

-- a function with one parameter
abbrev pub of_one : CType → CType → CType
of_one result parameter = function result (Listed (And parameter NoType) false)

-- their numbers are those of their order above
abbrev pub struct_s : CType
struct_s = Plain 0 (Structure 0)

abbrev pub struct_fixed : CType
struct_fixed = Plain 0 (Structure 1)

abbrev pub union_u : CType
union_u = Plain 0 (Union 2)

abbrev pub struct_open : CType
struct_open = Plain 0 (Structure 3)

abbrev pub enum_e : CType
enum_e = Plain 0 (Enumeration 4)

-- ---- the state

abbrev empty : State
empty = record { outer = []; inner = []; links = []; symbols = []; tags = []; count = 0 }

abbrev pub field : List ℕ → CType → Option ℕ → MemberType
field name of width = record { name = name; of = of; width = width }

abbrev with_members : RecordKind → List ℕ → List MemberType → State → State
with_members k tag ms s = completed (opened s 1 k (Some tag)).state k s.count ms

abbrev with_open : List ℕ → State → State
with_open tag s = (opened s 1 record_kind.Struct (Some tag)).state

abbrev with_list : List ℕ → List ℕ → State → State
with_list tag name s = (enumerated (with_enumerator s 1 name (pos 0)) 1 (Some tag)).state

abbrev known : Storage → CType → Option ℤ → Known
known class of value = record { class = class; of = of; line = 1; level = 0; value = value }

-- a name that is linked, and where it is declared too
abbrev linked : List ℕ → CType → State → State
linked name of s = with_link s name None (known storage.Extern of None)

abbrev with_linked : List ℕ → CType → State → State
with_linked name of s = declared (linked name of s) name (known storage.Extern of (Some (pos (link_or_next s name))))

-- a local object, the how-manieth of the function
abbrev with_local : List ℕ → Storage → CType → ℕ → State → State
with_local name class of place s = declared s name (known class of (Some (pos place)))

abbrev tags_in : State → State
tags_in s =
    with_list (codes "e") (codes "first")
    (with_open (codes "open")
    (with_members record_kind.Union (codes "u") (field (codes "m") int None ∷ [])
    (with_members record_kind.Struct (codes "fixed") (field (codes "m") (const int) None ∷ [])
    (with_members record_kind.Struct (codes "s") (field (codes "m") int None ∷ field (codes "b") (basic Unsigned) (Some 3) ∷ field (codes "list") (Array int (Some 2)) None ∷ []) s))))

-- at file scope
abbrev pub outside : State
outside = with_linked (codes "g") (function int Open) (with_linked (codes "f") (of_one int int) (tags_in empty))

-- in the function
abbrev pub sample : State
sample =
    with_local (codes "r") storage.Register int 1
    (with_local (codes "x") storage.Auto int 0
    (linked (codes "narrow") (of_one int (basic Char))
    (linked (codes "before") (of_one int int)
    (linked (codes "number") int (entered outside)))))

-- ---- names and constants

abbrev pub name : List ℕ → CoreTree
name n = row sample 1 (node.Name n)

abbrev pub x : CoreTree
x = name (codes "x")

abbrev pub r : CoreTree
r = name (codes "r")

abbrev pub f : CoreTree
f = name (codes "f")

abbrev pub g : CoreTree
g = name (codes "g")

abbrev pub constant : ℕ → CoreTree
constant n = row sample 1 (node.Integer n int_kind.Int)

abbrev pub unsigned_constant : ℕ → CoreTree
unsigned_constant n = row sample 1 (node.Integer n int_kind.Unsigned)

abbrev pub minus_one : CoreTree
minus_one = row sample 1 (node.Prefix prefix.Minus (constant 1))

-- ---- objects

-- a further local object of a type, and one that is declared register
abbrev pub local : CType → CoreTree
local of = Core (kind.Local 2 false) of 1 none

abbrev pub register : CType → CoreTree
register of = Core (kind.Local 2 true) of 1 none

-- const int
abbrev pub c : CoreTree
c = local (const int)

abbrev pub byte : CoreTree
byte = local (basic UnsignedChar)

-- int *
abbrev pub p : CoreTree
p = local (pointer_to int)

abbrev pub to_char : CoreTree
to_char = local (pointer_to (basic Char))

-- const int *
abbrev pub to_const : CoreTree
to_const = local (pointer_to (const int))

abbrev pub to_void : CoreTree
to_void = local (pointer_to (basic Void))

-- int a[3]
abbrev pub a : CoreTree
a = local (Array int (Some 3))

abbrev pub s : CoreTree
s = local struct_s

abbrev pub fixed : CoreTree
fixed = local struct_fixed

abbrev pub to_s : CoreTree
to_s = local (pointer_to struct_s)

abbrev pub to_open : CoreTree
to_open = local (pointer_to struct_open)

-- ---- further expressions

abbrev pub pointed : CoreTree → CoreTree
pointed e = row sample 1 (node.Prefix prefix.Indirect e)

abbrev pub select : CoreTree → List ℕ → CoreTree
select e n = row sample 1 (node.Member member.Dot e n)

abbrev pub cast : CType → CoreTree → CoreTree
cast to e = row sample 1 (node.Cast to e)

-- a pointer to a function with such a result, and a call of it
abbrev pub giving : CType → CoreTree
giving result = local (pointer_to (function result Open))

abbrev pub called : CType → CoreTree
called result = row sample 1 (node.Call (giving result) none)

-- a pointer to a function with one such parameter, and one to a function of int and further arguments
abbrev pub taking : CType → CoreTree
taking parameter = local (pointer_to (of_one int parameter))

abbrev pub taking_more : CoreTree
taking_more = local (pointer_to (function int (Listed (And int NoType) true)))

-- a pointer to a function without parameters
abbrev pub taking_none : CoreTree
taking_none = local (pointer_to (function int (Listed NoType false)))

-- (void)0
abbrev pub nothing : CoreTree
nothing = cast (basic Void) (constant 0)

-- (void *)0
abbrev pub null : CoreTree
null = cast (pointer_to (basic Void)) (constant 0)
