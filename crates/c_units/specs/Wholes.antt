-- A unit made whole: what its names' symbols stand for are functions, objects and built-in functions, equal string literals are one
-- text, and each call has places for the structures that it passes and gives.
-- Source: C89 3.1.4, 3.7.
use Rattle.std.specs.Prelude.{ℕ, suc, ◌+◌, ◌==◌, codes, decimal, Bool, true, false, Option, Some, None, List, [], ◌∷◌, ◌++◌, length, map, if◌then◌else◌}
use Rattle.std.specs.Str.{bytes_eq}
use Rattle.c_types.specs.CType.{CType}
use Rattle.c_meaning.specs.declared.built_in.BuiltIn.{BuiltIn}
use Rattle.c_meaning.specs.declared.core_expr.CoreKind.{CoreKind}
use Rattle.c_meaning.specs.declared.core_expr.CoreKind.TheVariants as kind
use Rattle.c_meaning.specs.CoreTrees.{Core, NoCore, Cores}
use Rattle.c_meaning.specs.State.{State}
use Rattle.c_meaning.specs.Values.{CoreTree, CoreTrees}
use Rattle.c_meaning.specs.StmtTrees.{FilledOf, StmtOf, Nothing, Expression, Initialise, Block, If, While, Do, For, Switch, Label, Goto, Break, Continue, Return, StmtsOf, NoStmt, Stmts}
use Rattle.c_meaning.specs.Copies.{LocalAt, maybe, expressions, own_copies, copies_in, all_copies}
use Rattle.c_meaning.specs.Declarations.{Defined, or_zero}
use Rattle.c_meaning.specs.Each.{EachIs}
use Rattle.c_meaning.specs.Numbers.{PlaceHasWords, StmtHasWords}
use Rattle.c_meaning.specs.Units.{FunctionTree, ObjectTree, UnitTree, is_same_among}
use Rattle.c_units.specs.Functions.{DefinedFunction, place_in}
use Rattle.c_units.specs.Externals.{Parts}
use Rattle.c_units.specs.Ends.{built_in_of, is_link}

-- ---- string literals

abbrev mutual
  pub literals : CoreTree → List (List ℕ)
  literals (Core (kind.Literal bytes) of line kids) = bytes ∷ []
  literals (Core what of line kids) = all_literals kids

  pub all_literals : CoreTrees → List (List ℕ)
  all_literals NoCore = []
  all_literals (Cores c cs) = literals c ++ all_literals cs

abbrev pub some_literals : Option CoreTree → List (List ℕ)
some_literals None = []
some_literals (Some c) = literals c

abbrev pub place_literals : List (FilledOf CType) → List (List ℕ)
place_literals [] = []
place_literals (p ∷ ps) = literals p.value ++ place_literals ps

abbrev mutual
  pub stmt_literals : StmtOf CType → List (List ℕ)
  stmt_literals (Expression e) = literals e
  stmt_literals (Initialise local zeroed ps) = place_literals ps
  stmt_literals (Block first locals ss) = stmts_literals ss
  stmt_literals (If e s t) = literals e ++ stmt_literals s ++ stmt_literals t
  stmt_literals (While e s) = literals e ++ stmt_literals s
  stmt_literals (Do s e) = stmt_literals s ++ literals e
  stmt_literals (For a b c s) = some_literals a ++ some_literals b ++ some_literals c ++ stmt_literals s
  stmt_literals (Switch e cases default s) = literals e ++ stmt_literals s
  stmt_literals (Label n s) = stmt_literals s
  stmt_literals (Return e) = some_literals e
  stmt_literals s = []

  pub stmts_literals : StmtsOf CType → List (List ℕ)
  stmts_literals NoStmt = []
  stmts_literals (Stmts s ss) = stmt_literals s ++ stmts_literals ss

abbrev pub function_literals : List DefinedFunction → List (List ℕ)
function_literals [] = []
function_literals (f ∷ fs) = stmt_literals f.function.body ++ function_literals fs

abbrev pub object_literals : List Defined → List (List ℕ)
object_literals [] = []
object_literals (o ∷ os) = place_literals o.object.places ++ object_literals os

-- each once, where it stands first
abbrev pub once : List (List ℕ) → List (List ℕ) → List (List ℕ)
once before [] = before
once before (t ∷ ts) = once (if is_same_among t before then before else before ++ t ∷ []) ts

-- those of the functions, then those of the objects
abbrev pub texts_of : Parts → List (List ℕ)
texts_of u = once [] (function_literals u.functions ++ object_literals u.objects)

-- ---- what symbols stand for

abbrev pub function_from : ℕ → List DefinedFunction → ℕ → Option ℕ
function_from k [] id = None
function_from k (f ∷ fs) id = if f.symbol == id then Some k else function_from (suc k) fs id

abbrev pub object_from : ℕ → List Defined → ℕ → Option ℕ
object_from k [] id = None
object_from k (o ∷ os) id = if o.symbol == id then Some k else object_from (suc k) os id

abbrev pub or_symbol : Option BuiltIn → ℕ → CoreKind
or_symbol (Some b) id = kind.BuiltIn b
or_symbol None id = kind.Symbol id

abbrev pub or_built_in : State → Option ℕ → ℕ → CoreKind
or_built_in s (Some n) id = kind.Object n
or_built_in s None id = or_symbol (built_in_of s id) id

abbrev pub or_object : State → Parts → Option ℕ → ℕ → CoreKind
or_object s u (Some n) id = kind.Function n
or_object s u None id = or_built_in s (object_from 0 u.objects id) id

abbrev pub stands_for : State → Parts → ℕ → CoreKind
stands_for s u id = or_object s u (function_from 0 u.functions id) id

-- ---- with them

abbrev pub whole_kind : (ℕ → CoreKind) → List (List ℕ) → CoreKind → CoreKind
whole_kind meant texts (kind.Symbol id) = meant id
whole_kind meant texts (kind.Literal bytes) = kind.Text (or_zero (place_in texts bytes))
whole_kind meant texts what = what

abbrev mutual
  pub whole : (ℕ → CoreKind) → List (List ℕ) → CoreTree → CoreTree
  whole meant texts (Core what of line kids) = Core (whole_kind meant texts what) of line (all_whole meant texts kids)

  pub all_whole : (ℕ → CoreKind) → List (List ℕ) → CoreTrees → CoreTrees
  all_whole meant texts NoCore = NoCore
  all_whole meant texts (Cores c cs) = Cores (whole meant texts c) (all_whole meant texts cs)

abbrev pub some_whole : (ℕ → CoreKind) → List (List ℕ) → Option CoreTree → Option CoreTree
some_whole meant texts None = None
some_whole meant texts (Some c) = Some (whole meant texts c)

abbrev pub whole_places : (ℕ → CoreKind) → List (List ℕ) → List (FilledOf CType) → List (FilledOf CType)
whole_places meant texts [] = []
whole_places meant texts (p ∷ ps) =
    record { of = p.of; offset = p.offset; first = p.first; width = p.width; value = whole meant texts p.value } ∷ whole_places meant texts ps

abbrev mutual
  pub whole_stmt : (ℕ → CoreKind) → List (List ℕ) → StmtOf CType → StmtOf CType
  whole_stmt meant texts Nothing = Nothing
  whole_stmt meant texts (Expression e) = Expression (whole meant texts e)
  whole_stmt meant texts (Initialise local zeroed ps) = Initialise local zeroed (whole_places meant texts ps)
  whole_stmt meant texts (Block first locals ss) = Block first locals (whole_stmts meant texts ss)
  whole_stmt meant texts (If e s t) = If (whole meant texts e) (whole_stmt meant texts s) (whole_stmt meant texts t)
  whole_stmt meant texts (While e s) = While (whole meant texts e) (whole_stmt meant texts s)
  whole_stmt meant texts (Do s e) = Do (whole_stmt meant texts s) (whole meant texts e)
  whole_stmt meant texts (For a b c s) = For (some_whole meant texts a) (some_whole meant texts b) (some_whole meant texts c) (whole_stmt meant texts s)
  whole_stmt meant texts (Switch e cases default s) = Switch (whole meant texts e) cases default (whole_stmt meant texts s)
  whole_stmt meant texts (Label n s) = Label n (whole_stmt meant texts s)
  whole_stmt meant texts (Goto n) = Goto n
  whole_stmt meant texts Break = Break
  whole_stmt meant texts Continue = Continue
  whole_stmt meant texts (Return e) = Return (some_whole meant texts e)

  pub whole_stmts : (ℕ → CoreKind) → List (List ℕ) → StmtsOf CType → StmtsOf CType
  whole_stmts meant texts NoStmt = NoStmt
  whole_stmts meant texts (Stmts s ss) = Stmts (whole_stmt meant texts s) (whole_stmts meant texts ss)

-- ---- copies

-- how many structures an expression's calls pass and give
abbrev pub copies : CoreTree → ℕ
copies c = length (copies_in c)

abbrev pub some_copies : Option CoreTree → ℕ
some_copies e = length (all_copies (maybe e))

abbrev pub stmt_copies : StmtOf CType → ℕ
stmt_copies s = length (all_copies (expressions s))

abbrev pub placed_kind : ℕ → CoreKind → CoreKind
placed_kind n (kind.Call before) = kind.Call n
placed_kind n what = what

-- each call names where its copies begin: they stand from a place on, in the order of the text, a call's own before its parts'
abbrev mutual
  pub placed : ℕ → CoreTree → CoreTree
  placed n (Core what of line kids) = Core (placed_kind n what) of line (all_placed (n + length (own_copies what of kids)) kids)

  pub all_placed : ℕ → CoreTrees → CoreTrees
  all_placed n NoCore = NoCore
  all_placed n (Cores c cs) = Cores (placed n c) (all_placed (n + copies c) cs)

abbrev pub some_placed : ℕ → Option CoreTree → Option CoreTree
some_placed n None = None
some_placed n (Some c) = Some (placed n c)

abbrev pub placed_places : ℕ → List (FilledOf CType) → List (FilledOf CType)
placed_places n [] = []
placed_places n (p ∷ ps) =
    record { of = p.of; offset = p.offset; first = p.first; width = p.width; value = placed n p.value } ∷ placed_places (n + copies p.value) ps

abbrev mutual
  pub placed_stmt : ℕ → StmtOf CType → StmtOf CType
  placed_stmt n Nothing = Nothing
  placed_stmt n (Expression e) = Expression (placed n e)
  placed_stmt n (Initialise local zeroed ps) = Initialise local zeroed (placed_places n ps)
  placed_stmt n (Block first locals ss) = Block first locals (placed_stmts n ss)
  placed_stmt n (If e s t) = If (placed n e) (placed_stmt (n + copies e) s) (placed_stmt (n + copies e + stmt_copies s) t)
  placed_stmt n (While e s) = While (placed n e) (placed_stmt (n + copies e) s)
  placed_stmt n (Do s e) = Do (placed_stmt n s) (placed (n + stmt_copies s) e)
  placed_stmt n (For a b c s) =
      For (some_placed n a) (some_placed (n + some_copies a) b) (some_placed (n + some_copies a + some_copies b) c)
      (placed_stmt (n + some_copies a + some_copies b + some_copies c) s)
  placed_stmt n (Switch e cases default s) = Switch (placed n e) cases default (placed_stmt (n + copies e) s)
  placed_stmt n (Label l s) = Label l (placed_stmt n s)
  placed_stmt n (Goto l) = Goto l
  placed_stmt n Break = Break
  placed_stmt n Continue = Continue
  placed_stmt n (Return e) = Return (some_placed n e)

  pub placed_stmts : ℕ → StmtsOf CType → StmtsOf CType
  placed_stmts n NoStmt = NoStmt
  placed_stmts n (Stmts s ss) = Stmts (placed_stmt n s) (placed_stmts (n + stmt_copies s) ss)

-- the copies are the last locals
abbrev pub copied_types : StmtOf CType → List CType
copied_types s = map (λ (l : LocalAt). l.of) (all_copies (expressions s))

-- ---- functions and objects

abbrev pub whole_function : (ℕ → CoreKind) → List (List ℕ) → FunctionTree → FunctionTree
whole_function meant texts f =
    record {
      name = f.name;
      of = f.of;
      parameters = f.parameters;
      locals = f.locals ++ copied_types f.body;
      body = placed_stmt (length f.locals) (whole_stmt meant texts f.body);
    }

abbrev pub whole_functions : (ℕ → CoreKind) → List (List ℕ) → List DefinedFunction → List FunctionTree
whole_functions meant texts [] = []
whole_functions meant texts (f ∷ fs) = whole_function meant texts f.function ∷ whole_functions meant texts fs

-- A static object of a block has behind its name a dot and its place among the objects, as no identifier has.
abbrev pub whole_name : Bool → ℕ → List ℕ → List ℕ
whole_name true place name = name
whole_name false place name = name ++ codes "." ++ decimal place

abbrev pub whole_object : (ℕ → CoreKind) → List (List ℕ) → Bool → ℕ → ObjectTree → ObjectTree
whole_object meant texts linked place o =
    record {
      name = whole_name linked place o.name;
      of = o.of;
      line = o.line;
      constant = o.constant;
      places = whole_places meant texts o.places;
    }

abbrev pub whole_objects : State → (ℕ → CoreKind) → List (List ℕ) → ℕ → List Defined → List ObjectTree
whole_objects s meant texts place [] = []
whole_objects s meant texts place (o ∷ os) = whole_object meant texts (is_link s.links o.symbol) place o.object ∷ whole_objects s meant texts (suc place) os

abbrev pub main_from : ℕ → List DefinedFunction → ℕ
main_from k [] = 0
main_from k (f ∷ fs) = if bytes_eq f.function.name (codes "main") then k else main_from (suc k) fs

abbrev pub whole_unit : State → Parts → UnitTree
whole_unit s u =
    record {
      functions = whole_functions (stands_for s u) (texts_of u) u.functions;
      objects = whole_objects s (stands_for s u) (texts_of u) 0 u.objects;
      texts = texts_of u;
      tags = s.tags;
      main = main_from 0 u.functions;
    }

-- ---- numbers of 32 bits

abbrev pub FunctionHasWords : FunctionTree → Type 0
FunctionHasWords f = StmtHasWords f.body

abbrev pub ObjectHasWords : ObjectTree → Type 0
ObjectHasWords o = EachIs PlaceHasWords o.places
