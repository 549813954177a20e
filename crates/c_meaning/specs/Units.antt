-- A checked unit, and what it keeps: what it names is there under names of their own, its expressions, statements and initialisers
-- have the operands and types of typing's rows, each label stands once, each local in one block or as one copy, its numbers have
-- 32 bits and its texts are of bytes, and it isn't too large to be numbered.
-- Source: C89 2.1.2.2, 3.5.7, 3.6, 3.7.
use Rattle.std.specs.Prelude.{◌≡◌, ◌≤◌, ◌<◌, ℕ, codes, ◌+◌, ◌==◌, ◌||◌, ◌&&◌, not, Bool, true, false, Option, Some, None, List, [], ◌∷◌, ◌++◌, length, map, take, drop, slice_get, IfSome, if◌then◌else◌}
use Rattle.std.specs.Str.{bytes_eq}
use Rattle.c_types.specs.CType.{CType, Plain, Array, Char, Int, Parameters, Open, Listed, CTypes, NoType, And, basic, unqualified}
use Rattle.c_types.specs.Compatible.{compatible, all_compatible}
use Rattle.c_types.specs.Layout.{Tag, extent}
use Rattle.c_types.specs.Members.{MemberAt}
use Rattle.c_types.specs.BitFields.{IsInUnit}
use Rattle.c_types.specs.Constness.{is_const}
use Rattle.c_types.specs.Table.{Table, tags, types, type_in, AreBelow}
use Rattle.c_meaning.specs.declared.core_expr.CoreKind.{CoreKind}
use Rattle.c_meaning.specs.declared.core_expr.CoreKind.TheVariants as kind
use Rattle.c_meaning.specs.declared.core_stmt.CoreCase.{CoreCase}
use Rattle.c_meaning.specs.declared.core_unit.CoreFunction.{CoreFunction}
use Rattle.c_meaning.specs.declared.core_unit.CoreObject.{CoreObject}
use Rattle.c_meaning.specs.CoreTrees.{what_of, type_of}
use Rattle.c_meaning.specs.StmtTrees.{FilledOf, StmtOf, Nothing, Expression, Initialise, Block, If, While, Do, For, Switch, Label, Goto, Break, Continue, Return, StmtsOf, NoStmt, Stmts, filled_of, place_seen, stmt_of, stmt_seen, IsStmtIn, ArePlacesIn}
use Rattle.c_meaning.specs.Types.{is_void, is_function, is_scalar, pointer_to, has_size}
use Rattle.c_meaning.specs.Values.{CoreTree}
use Rattle.c_meaning.specs.Rows.{result_type, parameters_type}
use Rattle.c_meaning.specs.Fits.{Fits, IsPromoted, is_value, is_whole}
use Rattle.c_meaning.specs.Filling.{is_char}
use Rattle.c_meaning.specs.StaticValues.{IsStaticValue}
use Rattle.c_meaning.specs.BlockLocals.{declared_in, are_next}
use Rattle.c_meaning.specs.Copies.{LocalAt, locals_from, expressions, all_copies}
use Rattle.c_meaning.specs.Each.{EachIs}
use Rattle.c_meaning.specs.Numbers.{PlaceHasWords, StmtHasWords, IsText}

-- a unit with its table of types, by whose places its parts name them
pub record CoreUnit : Type 0 where
  pub functions : List CoreFunction
  pub objects : List CoreObject
  pub texts : List (List ℕ)
  pub types : Table
  pub main : ℕ

-- ---- the same over types as mathematics has them

pub record FunctionTree : Type 0 where
  pub name : List ℕ
  pub of : CType
  pub parameters : ℕ
  pub locals : List CType
  pub body : StmtOf CType

pub record ObjectTree : Type 0 where
  pub name : List ℕ
  pub of : CType
  pub line : ℕ
  pub constant : Bool
  pub places : List (FilledOf CType)

-- with the definitions of structures and unions, the latest first
pub record UnitTree : Type 0 where
  pub functions : List FunctionTree
  pub objects : List ObjectTree
  pub texts : List (List ℕ)
  pub tags : List Tag
  pub main : ℕ

abbrev pub function_seen : List CType → CoreFunction → FunctionTree
function_seen ts f =
    record {
      name = f.name;
      of = type_in ts f.of;
      parameters = f.parameters;
      locals = map (type_in ts) f.locals;
      body = stmt_seen (type_in ts) (stmt_of f.body);
    }

abbrev pub object_seen : List CType → CoreObject → ObjectTree
object_seen ts o =
    record {
      name = o.name;
      of = type_in ts o.of;
      line = o.line;
      constant = o.constant;
      places = map (λ p. place_seen (type_in ts) (filled_of p)) o.places;
    }

abbrev pub unit_seen : CoreUnit → UnitTree
unit_seen u =
    record {
      functions = map (function_seen (types u.types)) u.functions;
      objects = map (object_seen (types u.types)) u.objects;
      texts = u.texts;
      tags = tags u.types;
      main = u.main;
    }

-- ---- names

-- A name's type in an expression is that of the declaration that was in force there, which is compatible with what it
-- names.
abbrev pub IsNamed : {A : Type 0} → (A → CType) → List A → ℕ → CType → Type 0
IsNamed {A} type items place of = (a : A) × (slice_get items place ≡ Some a) × (compatible of (type a) ≡ true)

abbrev pub text_type : List ℕ → CType
text_type bytes = Array (basic Char) (Some (length bytes + 1))

-- what the names in a function with these locals stand for
abbrev pub IsLeaf : UnitTree → List CType → CoreKind → CType → Type 0
IsLeaf u locals (kind.Local place register) of = IsNamed (λ t. t) locals place of
IsLeaf u locals (kind.Object n) of = IsNamed (λ (o : ObjectTree). o.of) u.objects n of
IsLeaf u locals (kind.Text n) of = IsNamed text_type u.texts n of
IsLeaf u locals (kind.Function n) of = IsNamed (λ (f : FunctionTree). f.of) u.functions n of
IsLeaf u locals (kind.BuiltIn b) of = is_function of ≡ true
IsLeaf u locals what of = ⊥

-- an expression of a function, or of an initialiser of static storage
abbrev pub IsExpr : UnitTree → List CType → CoreTree → Type 0
IsExpr u locals c = Fits (IsLeaf u locals) u.tags c

-- one that is used for its value, or for what it does
abbrev pub IsValue : UnitTree → List CType → CoreTree → Type 0
IsValue u locals c = IsExpr u locals c × (is_value c ≡ true)

-- ---- initialisers

abbrev pub size_bytes : List Tag → FilledOf CType → Option ℕ
size_bytes tags p = if p.width == 0 then (extent tags p.of).size else Some 4

-- a string over an array of characters that has room for it, its null apart
abbrev pub IsString : List (List ℕ) → CType → Option ℕ → CoreKind → Type 0
IsString texts of (Some n) (kind.Text k) = (is_char of ≡ true) × ((bytes : List ℕ) × (slice_get texts k ≡ Some bytes) × (length bytes ≤ n))
IsString texts of count what = ⊥

-- a value for a place of this type: a scalar or a whole structure of the type, or a string for an array
abbrev pub IsFor : UnitTree → CType → CoreTree → Type 0
IsFor u (Array of count) c = IsString u.texts of count (what_of c)
IsFor u (Plain q k) c = (is_value c ≡ true) × ((is_whole u.tags (Plain q k) ≡ true) × (unqualified (type_of c) ≡ unqualified (Plain q k)))

abbrev pub place_at : FilledOf CType → MemberAt
place_at p = record { of = p.of; offset = p.offset; first = p.first; width = p.width }

-- a place lies in an object of this size, a bit-field in its unit, and the value is one for it
abbrev pub IsFilled : UnitTree → List CType → ℕ → FilledOf CType → Type 0
IsFilled u locals size p =
    IsExpr u locals p.value × (IsFor u p.of p.value × (IsInUnit (place_at p)
    × ((n : ℕ) × (size_bytes u.tags p ≡ Some n) × (p.offset + n ≤ size))))

abbrev pub AreFilled : UnitTree → List CType → ℕ → List (FilledOf CType) → Type 0
AreFilled u locals size [] = Unit {0}
AreFilled u locals size (p ∷ ps) = IsFilled u locals size p × AreFilled u locals size ps

-- they are places of a whole object of this type
abbrev pub AreOf : UnitTree → List CType → CType → List (FilledOf CType) → Type 0
AreOf u locals of ps = (size : ℕ) × ((extent u.tags of).size ≡ Some size) × AreFilled u locals size ps

-- of static storage each is a constant or an address constant, or a string over an array
abbrev pub IsStatic : UnitTree → CType → CoreTree → Type 0
IsStatic u (Array of count) c = Unit {0}
IsStatic u (Plain q k) c = IsStaticValue u.tags (map (λ (o : ObjectTree). o.of) u.objects) u.texts c

abbrev pub AreStatic : UnitTree → List (FilledOf CType) → Type 0
AreStatic u [] = Unit {0}
AreStatic u (p ∷ ps) = IsStatic u p.of p.value × AreStatic u ps

-- ---- statements

-- the labels that stand in a statement, in order
abbrev mutual
  pub labels : StmtOf CType → List ℕ
  labels (Block first locals ss) = all_labels ss
  labels (If e s t) = labels s ++ labels t
  labels (While e s) = labels s
  labels (Do s e) = labels s
  labels (For a b c s) = labels s
  labels (Switch e cases default s) = labels s
  labels (Label n s) = n ∷ labels s
  labels s = []

  pub all_labels : StmtsOf CType → List ℕ
  all_labels NoStmt = []
  all_labels (Stmts s ss) = labels s ++ all_labels ss

abbrev pub is_among : ℕ → List ℕ → Bool
is_among n [] = false
is_among n (m ∷ ms) = (n == m) || is_among n ms

abbrev pub are_apart : List ℕ → Bool
are_apart [] = true
are_apart (n ∷ ns) = not (is_among n ns) && are_apart ns

abbrev pub numbers : List CoreCase → List ℕ
numbers = map (λ c. c.number)

abbrev pub are_among : List CoreCase → List ℕ → Bool
are_among [] ns = true
are_among (c ∷ cs) ns = is_among c.label ns && are_among cs ns

abbrev pub IsTest : UnitTree → List CType → CoreTree → Type 0
IsTest u locals c = IsValue u locals c × (is_scalar (type_of c) ≡ true)

-- a value of the function's result, which isn't void, or none
abbrev pub IsReturned : UnitTree → FunctionTree → Option CoreTree → Type 0
IsReturned u f None = Unit {0}
IsReturned u f (Some c) = IsValue u f.locals c × ((is_void (result_type f.of) ≡ false) × (unqualified (type_of c) ≡ unqualified (result_type f.of)))

-- a local of the function
abbrev pub IsLocal : UnitTree → FunctionTree → ℕ → List (FilledOf CType) → Type 0
IsLocal u f local ps = (of : CType) × (slice_get f.locals local ≡ Some of) × AreOf u f.locals of ps

-- statements of a function, in which these labels stand
abbrev mutual
  pub IsStmt : UnitTree → FunctionTree → List ℕ → StmtOf CType → Type 0
  IsStmt u f ns Nothing = Unit {0}
  IsStmt u f ns (Expression e) = IsValue u f.locals e
  IsStmt u f ns (Initialise local zero ps) = IsLocal u f local ps
  IsStmt u f ns (Block first locals ss) = (first + locals ≤ length f.locals) × AreStmts u f ns ss
  IsStmt u f ns (If e s t) = IsTest u f.locals e × (IsStmt u f ns s × IsStmt u f ns t)
  IsStmt u f ns (While e s) = IsTest u f.locals e × IsStmt u f ns s
  IsStmt u f ns (Do s e) = IsStmt u f ns s × IsTest u f.locals e
  IsStmt u f ns (For a b c s) = IfSome a (IsValue u f.locals) × (IfSome b (IsTest u f.locals) × (IfSome c (IsValue u f.locals) × IsStmt u f ns s))
  IsStmt u f ns (Switch e cases default s) =
      IsValue u f.locals e
      × (IsPromoted (type_of e)
      × ((are_apart (numbers cases) ≡ true)
      × ((are_among cases (labels s) ≡ true) × (IfSome default (λ n. is_among n (labels s) ≡ true) × IsStmt u f ns s))))
  IsStmt u f ns (Label n s) = IsStmt u f ns s
  IsStmt u f ns (Goto n) = is_among n ns ≡ true
  IsStmt u f ns Break = Unit {0}
  IsStmt u f ns Continue = Unit {0}
  IsStmt u f ns (Return e) = IsReturned u f e

  pub AreStmts : UnitTree → FunctionTree → List ℕ → StmtsOf CType → Type 0
  AreStmts u f ns NoStmt = Unit {0}
  AreStmts u f ns (Stmts s ss) = IsStmt u f ns s × AreStmts u f ns ss

abbrev mutual
  pub count : StmtOf CType → ℕ
  count (Block first locals ss) = 1 + all_count ss
  count (If e s t) = 1 + (count s + count t)
  count (While e s) = 1 + count s
  count (Do s e) = 1 + count s
  count (For a b c s) = 1 + count s
  count (Switch e cases default s) = 1 + count s
  count (Label n s) = 1 + count s
  count s = 1

  pub all_count : StmtsOf CType → ℕ
  all_count NoStmt = 0
  all_count (Stmts s ss) = count s + all_count ss

-- ---- functions and objects

-- the types of so many locals, without qualifiers, as a function's type lists its parameters
abbrev pub types_listed : List CType → CTypes
types_listed [] = NoType
types_listed (t ∷ ts) = And (unqualified t) (types_listed ts)

-- the parameters that a definition's type lists are the first locals; where it leaves them open, any may be
abbrev pub AreParameters : Parameters → List CType → Type 0
AreParameters Open ts = Unit {0}
AreParameters (Listed ps more) ts = (more ≡ false) × (ps ≡ types_listed ts)

abbrev pub is_result : List Tag → CType → Bool
is_result tags t = is_void t || is_whole tags t

-- how many of its locals are declared: its parameters and those of its blocks
abbrev pub declared : FunctionTree → ℕ
declared f = f.parameters + declared_in f.body

-- the copies of structures that its calls pass and give
abbrev pub function_copies : FunctionTree → List LocalAt
function_copies f = all_copies (expressions f.body)

-- A function gives nothing, a scalar or a whole structure, and its parameters are such. Its locals are objects, of which the
-- parameters are the first; those of its blocks follow in order, and then the copies of structures that its calls pass and give,
-- each call naming its own.
pub record IsFunction (u : UnitTree) (f : FunctionTree) : Type 0 where
  pub type : is_function f.of ≡ true
  pub result : is_result u.tags (result_type f.of) ≡ true
  pub listed : AreParameters (parameters_type f.of) (take f.parameters f.locals)
  pub parameters : EachIs (λ t. is_whole u.tags t ≡ true) (take f.parameters f.locals)
  pub locals : EachIs (λ t. has_size u.tags t ≡ true) f.locals
  pub blocks : are_next f.parameters f.body ≡ true
  pub all : declared f + length (function_copies f) ≡ length f.locals
  pub copies : function_copies f ≡ locals_from (declared f) (drop (declared f) f.locals)
  pub once : are_apart (labels f.body) ≡ true
  pub low : AreBelow 2147483648 (labels f.body)
  pub body : IsStmt u f (labels f.body) f.body
  pub words : StmtHasWords f.body

pub record IsObject (u : UnitTree) (o : ObjectTree) : Type 0 where
  pub constant : o.constant ≡ is_const o.of
  pub places : AreOf u [] o.of o.places
  pub static : AreStatic u o.places
  pub words : EachIs PlaceHasWords o.places

-- ---- main

-- no parameters, open ones, or an int and a pointer to pointers to char
abbrev pub arguments_of_main : CTypes
arguments_of_main = And (basic Int) (And (pointer_to (pointer_to (basic Char))) NoType)

abbrev pub are_of_main : Parameters → Bool
are_of_main Open = true
are_of_main (Listed NoType more) = not more
are_of_main (Listed ps more) = not more && all_compatible ps arguments_of_main

abbrev pub is_main : FunctionTree → Bool
is_main f = bytes_eq f.name (codes "main") && (compatible (result_type f.of) (basic Int) && are_of_main (parameters_type f.of))

-- ---- the whole

-- Functions and objects have names of their own. A static object of a block, which may have another's name in the source, has
-- behind it a dot and a number here, as no identifier has: so a name with linkage stays as it was written.
abbrev pub names : UnitTree → List (List ℕ)
names u = map (λ (f : FunctionTree). f.name) u.functions ++ map (λ (o : ObjectTree). o.name) u.objects

abbrev pub is_same_among : List ℕ → List (List ℕ) → Bool
is_same_among name [] = false
is_same_among name (n ∷ ns) = bytes_eq name n || is_same_among name ns

abbrev pub are_different : List (List ℕ) → Bool
are_different [] = true
are_different (n ∷ ns) = not (is_same_among n ns) && are_different ns

abbrev pub size_of_function : FunctionTree → ℕ
size_of_function f = 1 + (length f.locals + count f.body)

abbrev pub total : List FunctionTree → ℕ
total [] = 0
total (f ∷ fs) = size_of_function f + total fs

pub record IsUnit (u : UnitTree) : Type 0 where
  pub functions : EachIs (IsFunction u) u.functions
  pub objects : EachIs (IsObject u) u.objects
  pub names : are_different (names u) ≡ true
  pub texts : are_different u.texts ≡ true
  pub bytes : EachIs IsText u.texts
  pub main : (f : FunctionTree) × (slice_get u.functions u.main ≡ Some f) × (is_main f ≡ true)
  pub few : total u.functions + (length u.objects + length u.texts) < 2147483648

-- the types that a function and an object name are in a table of so many
abbrev pub IsFunctionIn : ℕ → CoreFunction → Type 0
IsFunctionIn n f = (f.of < n) × (AreBelow n f.locals × IsStmtIn n (stmt_of f.body))

abbrev pub IsObjectIn : ℕ → CoreObject → Type 0
IsObjectIn n o = (o.of < n) × ArePlacesIn n (map filled_of o.places)

pub record IsWhole (u : CoreUnit) : Type 0 where
  pub unit : IsUnit (unit_seen u)
  pub functions : EachIs (IsFunctionIn (length u.types.forms)) u.functions
  pub objects : EachIs (IsObjectIn (length u.types.forms)) u.objects
