-- Examples of checked units, and of what they don't hold.
use Rattle.std.specs.Prelude.{◌≡◌, ◌≤◌, refl, ℕ, codes, true, false, Bool, Option, Some, None, List, [], ◌∷◌, length, map}
use Rattle.std.proofs.Common.{arith, ap}
use Rattle.c_types.specs.CType.{Char, Int, Void, CType, Plain, Array, Function, Structure, Parameters, Open, Listed, CTypes, NoType, And, basic}
use Rattle.c_types.specs.BitFields.{IsInUnit}
use Rattle.c_types.specs.Layout.{Tag}
use Rattle.c_types.specs.Table.{AreBelow}
use Rattle.c_meaning.specs.declared.core_expr.CoreKind.TheVariants as kind
use Rattle.c_meaning.specs.CoreTrees.{Core, none, one, two}
use Rattle.c_meaning.specs.StmtTrees.{FilledOf, StmtOf, Nothing, Expression, Block, Label, Return, StmtsOf, NoStmt, Stmts}
use Rattle.c_meaning.specs.Types.{pointer_to, has_size}
use Rattle.c_meaning.specs.Values.{CoreTree}
use Rattle.c_meaning.specs.Constants.{fold}
use Rattle.c_meaning.specs.BlockLocals.{are_next}
use Rattle.c_meaning.specs.Copies.{LocalAt}
use Rattle.c_meaning.specs.Each.{EachIs}
use Rattle.c_meaning.specs.Numbers.{HasWords, IsText}
use Rattle.c_meaning.specs.Units.{FunctionTree, ObjectTree, UnitTree, IsStatic, IsExpr, IsFilled, IsString, IsFunction, IsObject, IsUnit, AreParameters, function_copies, is_main, names, are_different, labels}

-- ---- int n = 3; char t[4] = "ab"; int *q = &n; int main(void) { int x; { int y; } return 0; }

abbrev int : CType
int = basic Int

abbrev number : ℕ → CoreTree
number n = Core (kind.Number n) int 1 none

abbrev at : CType → CoreTree → FilledOf CType
at of v = record { of = of; offset = 0; first = 0; width = 0; value = v }

abbrev object : List ℕ → CType → List (FilledOf CType) → ObjectTree
object name of places = record { name = name; of = of; line = 1; constant = false; places = places }

abbrev chars : ℕ → CType
chars n = Array (basic Char) (Some n)

abbrev text : CoreTree
text = Core (kind.Text 0) (chars 3) 1 none

abbrev n : CoreTree
n = Core (kind.Object 0) int 1 none

abbrev address : CoreTree
address = Core kind.Address (pointer_to int) 1 (one n)

abbrev statements : List (StmtOf CType) → StmtsOf CType
statements [] = NoStmt
statements (s ∷ ss) = Stmts s (statements ss)

abbrev block : ℕ → ℕ → List (StmtOf CType) → StmtOf CType
block first locals ss = Block first locals (statements ss)

abbrev function : CType → Parameters → CType
function result parameters = Plain 0 (Function result parameters)

abbrev defined : List ℕ → CType → FunctionTree
defined name of = record { name = name; of = of; parameters = 0; locals = int ∷ int ∷ []; body = block 0 1 (block 1 1 [] ∷ Return (Some (number 0)) ∷ []) }

abbrev main : FunctionTree
main = defined (codes "main") (function int (Listed NoType false))

abbrev unit : UnitTree
unit =
    record {
      functions = main ∷ [];
      objects = object (codes "n") int (at int (number 3) ∷ []) ∷ object (codes "t") (chars 4) (at (chars 4) text ∷ []) ∷ object (codes "q") (pointer_to int) (at (pointer_to int) address ∷ []) ∷ [];
      texts = codes "ab" ∷ [];
      tags = [];
      main = 0;
    }

no_bits : (of : CType) → IsInUnit (record { of = of; offset = 0; first = 0; width = 0 })
no_bits of = record { of = λ h. absurd (omega (arith, h)); within = omega arith }

four : 4 ≤ 4
four = omega arith

scalar_filled : IsFilled unit [] 4 (at int (number 3))
scalar_filled = ((tt, (refl, refl)), ((refl, (refl, refl)), (no_bits int, (4, refl, four))))

string_fits : length (codes "ab") ≤ 4
string_fits = omega arith

string_filled : IsFilled unit [] 4 (at (chars 4) text)
string_filled = ((tt, (refl, (codes "ab", refl, refl))), ((refl, (codes "ab", refl, string_fits)), (no_bits (chars 4), (4, refl, four))))

address_filled : IsFilled unit [] 4 (at (pointer_to int) address)
address_filled =
    (((((tt, (refl, (object (codes "n") int (at int (number 3) ∷ []), refl, refl))), tt), (refl, (refl, refl)))), ((refl, (refl, refl)), (no_bits (pointer_to int), (4, refl, four))))

n_is : IsObject unit (object (codes "n") int (at int (number 3) ∷ []))
unfolding fold
n_is = record { constant = refl; places = (4, refl, (scalar_filled, tt)); static = (refl, tt); words = ((omega arith, tt), tt) }

t_is : IsObject unit (object (codes "t") (chars 4) (at (chars 4) text ∷ []))
t_is = record { constant = refl; places = (4, refl, (string_filled, tt)); static = (tt, tt); words = ((tt, tt), tt) }

q_is : IsObject unit (object (codes "q") (pointer_to int) (at (pointer_to int) address ∷ []))
unfolding fold
q_is = record { constant = refl; places = (4, refl, (address_filled, tt)); static = (refl, tt); words = ((tt, ((tt, tt), tt)), tt) }

main_is : IsFunction unit main
main_is =
    record {
      type = refl;
      result = refl;
      listed = (refl, refl);
      parameters = tt;
      locals = (refl, (refl, tt));
      blocks = refl;
      all = refl;
      copies = refl;
      once = refl;
      low = tt;
      body = (omega arith, ((omega arith, tt), ((((tt, (refl, refl)), refl), (refl, refl)), tt)));
      words = (tt, ((omega arith, tt), tt));
    }

unit_is : IsUnit unit
unit_is =
    record {
      functions = (main_is, tt);
      objects = (n_is, (t_is, (q_is, tt)));
      names = refl;
      texts = refl;
      bytes = ((omega arith, (omega arith, tt)), tt);
      main = (main, refl, refl);
      few = omega arith;
    }

-- ---- initialisers

abbrev bytes_or_none : Option (List ℕ) → List ℕ
bytes_or_none (Some bytes) = bytes
bytes_or_none None = []

-- char t[1] = "ab";
string_too_long : IsString (codes "ab" ∷ []) (basic Char) (Some 1) (kind.Text 0) → ⊥
string_too_long h =
    let two : 2 ≡ length h.1.0 = ap (λ o. length (bytes_or_none o)) h.1.1 in
    let most : length h.1.0 ≤ 1 = h.1.2 in
    omega (arith, two, most)

string_over_ints : IsString (codes "ab" ∷ []) int (Some 4) (kind.Text 0) → ⊥
string_over_ints h = let e : false ≡ true = h.0 in cc

-- int *q = &n + 1, and &n + 2
abbrev moved : ℕ → CoreTree
moved k = Core (kind.Move 4 false) (pointer_to int) 1 (two address (number k))

one_past_the_end : IsStatic unit (pointer_to int) (moved 1)
unfolding fold
one_past_the_end = refl

further_past_the_end : IsStatic unit (pointer_to int) (moved 2) → ⊥
unfolding fold
further_past_the_end h = let e : false ≡ true = h in cc

-- int m = n;
value_of_an_object : IsStatic unit int (Core kind.Read int 1 (one n)) → ⊥
unfolding fold
value_of_an_object h = let e : false ≡ true = h in cc

-- ---- functions

-- a parameter has the type that its function's type lists
parameters_as_listed : AreParameters (Listed (And int NoType) false) (int ∷ [])
parameters_as_listed = (refl, refl)

parameter_of_another_type : AreParameters (Listed (And int NoType) false) (basic Char ∷ []) → ⊥
parameter_of_another_type h = let e : And int NoType ≡ And (basic Char) NoType = h.1 in cc

open_parameters : AreParameters Open (basic Char ∷ [])
open_parameters = tt

incomplete_local : EachIs (λ t. has_size [] t ≡ true) (Plain 0 (Structure 0) ∷ []) → ⊥
incomplete_local h = let e : false ≡ true = h.0 in cc

-- { int x; { int y; } { int z; } }
blocks_in_order : are_next 0 (block 0 1 (block 1 1 [] ∷ block 2 1 [] ∷ [])) ≡ true
blocks_in_order = refl

blocks_that_share_a_local : are_next 0 (block 0 1 (block 1 1 [] ∷ block 1 1 [] ∷ [])) ≡ false
blocks_that_share_a_local = refl

block_behind_a_gap : are_next 0 (block 0 1 (block 2 1 [] ∷ [])) ≡ false
block_behind_a_gap = refl

-- ---- struct s { int m; }; struct s g(struct s p) { return p; } int f(void) { struct s x; g(g(x)); }

abbrev whole : CType
whole = Plain 0 (Structure 0)

abbrev structures : List Tag
structures = record { number = 0; is_union = false; members = record { name = codes "m"; of = int; width = None } ∷ [] } ∷ []

abbrev of_whole : CType
of_whole = function whole (Listed (And whole NoType) false)

abbrev g : FunctionTree
g = record { name = codes "g"; of = of_whole; parameters = 1; locals = whole ∷ []; body = block 1 0 (Return (Some (Core (kind.Local 0 false) whole 1 none)) ∷ []) }

abbrev giving : UnitTree
giving = record { functions = g ∷ []; objects = []; texts = []; tags = structures; main = 0 }

abbrev to_g : CoreTree
to_g = Core kind.Address (pointer_to of_whole) 1 (one (Core (kind.Function 0) of_whole 1 none))

-- a call whose copies begin at a local
abbrev call_of_g : ℕ → CoreTree → CoreTree
call_of_g copies argument = Core (kind.Call copies) whole 1 (two to_g argument)

abbrev x : CoreTree
x = Core (kind.Local 0 false) whole 1 none

-- g(g(x)): each call has a copy that it passes and one that it gives
abbrev nested : ℕ → ℕ → CoreTree
nested outer inner = call_of_g outer (call_of_g inner x)

abbrev copying : CoreTree → List CType → FunctionTree
copying e locals = record { name = codes "f"; of = function int (Listed NoType false); parameters = 0; locals = locals; body = block 0 1 (Expression e ∷ []) }

abbrev x_and_four_copies : List CType
x_and_four_copies = whole ∷ whole ∷ whole ∷ whole ∷ whole ∷ []

function_fits : IsExpr giving x_and_four_copies to_g
function_fits = ((((tt, (refl, (g, refl, refl))), tt), (refl, (refl, refl))))

x_fits : IsExpr giving x_and_four_copies x
x_fits = (tt, (refl, (whole, refl, refl)))

inner_fits : IsExpr giving x_and_four_copies (call_of_g 3 x)
inner_fits = ((function_fits, (x_fits, tt)), (refl, (refl, (refl, (refl, (refl, (refl, (refl, tt))))))))

outer_fits : IsExpr giving x_and_four_copies (nested 1 3)
outer_fits = ((function_fits, (inner_fits, tt)), (refl, (refl, (refl, (refl, (refl, (refl, (refl, tt))))))))

-- the outer call's copies stand before those of the inner one
copies_in_order : IsFunction giving (copying (nested 1 3) x_and_four_copies)
copies_in_order =
    record {
      type = refl;
      result = refl;
      listed = (refl, refl);
      parameters = tt;
      locals = (refl, (refl, (refl, (refl, (refl, tt)))));
      blocks = refl;
      all = refl;
      copies = refl;
      once = refl;
      low = tt;
      body = (omega arith, ((outer_fits, refl), tt));
      words = ((tt, ((tt, ((tt, tt), tt)), ((tt, ((tt, ((tt, tt), tt)), ((tt, tt), tt))), tt))), tt);
    }

abbrev places : List LocalAt → List ℕ
places = map (λ l. l.place)

abbrev types_of : List LocalAt → List CType
types_of = map (λ l. l.of)

copies_that_are_shared : IsFunction giving (copying (nested 1 2) x_and_four_copies) → ⊥
copies_that_are_shared h = let e : places (function_copies (copying (nested 1 2) x_and_four_copies)) ≡ 1 ∷ 2 ∷ 3 ∷ 4 ∷ [] = ap places h.copies in cc

copy_of_another_type : IsFunction giving (copying (nested 1 3) (whole ∷ whole ∷ whole ∷ whole ∷ int ∷ [])) → ⊥
copy_of_another_type h = let e : types_of (function_copies (copying (nested 1 3) x_and_four_copies)) ≡ whole ∷ whole ∷ whole ∷ int ∷ [] = ap types_of h.copies in cc

copy_without_a_local : IsFunction giving (copying (nested 1 3) (whole ∷ whole ∷ whole ∷ whole ∷ [])) → ⊥
copy_without_a_local h = let e : 5 ≡ 4 = h.all in omega (arith, e)

-- ---- numbers and bytes

number_of_32_bits : HasWords (number 4294967295)
number_of_32_bits = (omega arith, tt)

number_of_33_bits : HasWords (number 4294967296) → ⊥
number_of_33_bits h = omega (arith, h.0)

high_byte : IsText (255 ∷ [])
high_byte = (omega arith, tt)

no_byte : IsText (256 ∷ []) → ⊥
no_byte h = omega (arith, h.0)

-- ---- labels

low_label : AreBelow 2147483648 (labels (Label 2147483647 Nothing))
low_label = (omega arith, tt)

high_label : AreBelow 2147483648 (labels (Label 2147483648 Nothing)) → ⊥
high_label h = omega (arith, h.0)

-- ---- names and main

abbrev named : List ℕ → List ℕ → UnitTree
named a b =
    record {
      functions = defined a (function int Open) ∷ [];
      objects = object b int [] ∷ [];
      texts = [];
      tags = [];
      main = 0;
    }

names_apart : are_different (names (named (codes "f") (codes "n"))) ≡ true
names_apart = refl

names_alike : are_different (names (named (codes "f") (codes "f"))) ≡ false
names_alike = refl

-- int f() { static int f; }
name_of_a_block : are_different (names (named (codes "f") (codes "f.0"))) ≡ true
name_of_a_block = refl

abbrev arguments : CTypes
arguments = And int (And (pointer_to (pointer_to (basic Char))) NoType)

abbrev is_main_of : CType → Bool
is_main_of t = is_main (defined (codes "main") t)

main_without_parameters : is_main_of (function int (Listed NoType false)) ≡ true
main_without_parameters = refl

main_with_open_parameters : is_main_of (function int Open) ≡ true
main_with_open_parameters = refl

main_with_arguments : is_main_of (function int (Listed arguments false)) ≡ true
main_with_arguments = refl

main_with_one_parameter : is_main_of (function int (Listed (And int NoType) false)) ≡ false
main_with_one_parameter = refl

main_without_a_result : is_main_of (function (basic Void) Open) ≡ false
main_without_a_result = refl

other_name : is_main (defined (codes "f") (function int Open)) ≡ false
other_name = refl
