-- One tree at most of each production stands at a place, since one reader finds each that does.
use Rattle.std.proofs.Common.{◌≡◌, ◌≤◌, ◌+◌, ℕ, Bool, true, false, Some, None, List, sym, ap, ◌∙◌, arith}
use Rattle.c_ast.specs.Lexemes.{Lexeme, Placed}
use Rattle.c_ast.specs.InForce.{InForce}
use Rattle.c_ast.specs.Marks.{Mark, Runs}
use Rattle.c_ast.specs.ExprMarks as marks
use Rattle.c_ast.specs.UnitMarks as unit_marks
use Rattle.c_ast.specs.Levels.{rank, Parts, FitsTypeName, FitsSpecifiers, FitsDeclarator, FitsInitialiser, FitsDeclaration, FitsDeclarations, FitsStatement, FitsUnit, FitsExternal, is_named}
use Rattle.c_ast.specs.Heights.{height, type_name_height, specifiers_height, declarator_height, initialiser_height, declaration_height, declarations_height, statement_height, external_height, unit_height}
use Rattle.c_ast.specs.Reach.{Stops as StopsAt, StopsWhole, goes_on, goes_on_whole}
use Rattle.c_ast.specs.Trees.{ExprTree, Name, Integer, Character, Text, Enclosed, Index, Call, Member, Postfix, Prefix, SizeofExpr, SizeofType, Cast, Binary, Conditional, Assign, Comma, TypeNameTree, SpecifiersTree, DeclaratorTree, InitialiserTree, DeclarationTree, StatementTree, ExternalTree, UnitTree}
use Rattle.c_readings.specs.Reading.{State, Read}
use Rattle.c_readings.specs.Readers.{readers, type_name as read_type_name, specifiers as read_specifiers}
use Rattle.c_readings.specs.Exact.{Finds, Stops, Exact, FitsAt, FitsFree, nothing_more, where_left}
use Rattle.c_readings.specs.DeclarationReaders.{initialiser as read_initialiser, declaration as read_declaration, declarations as read_declarations}
use Rattle.c_readings.specs.StatementReaders.{statement as read_statement}
use Rattle.c_readings.specs.UnitReaders.{external as read_external, unit as read_unit}
use Rattle.c_readings.specs.UnitExact.{goes_on_initialiser}
use Rattle.c_readings.specs.Pieces.{Closes, OnePiece}
use Rattle.c_readings.proofs.Steps.{nothing_stops}
use Rattle.c_readings.proofs.Operators.{op_level}
use Rattle.c_readings.proofs.Initialisers.{initialiser_stops}
use Rattle.c_readings.proofs.Types.{types_exact}
use Rattle.c_readings.proofs.Lows.{low_exact}
use Rattle.c_readings.proofs.Rounds.{exact, limit}
use Rattle.c_readings.proofs.Parts as parts
use Rattle.c_readings.proofs.Externals.{FitsAfter, external_exact}
use Rattle.c_readings.proofs.Units.{fits_after, unit_is_found}

-- two readings of one state are of one tree
one_found : {T : Type 0} (o : Read T) (x y : T) (r t : List Mark) → Finds o x r → Finds o y t → x ≡ y
one_found None x y r t f g = absurd f
one_found (Some p) x y r t f g = sym f.0 ∙ g.0

-- a reader for each limit, which finds each tree that is no higher
one_of : {T : Type 0} (spelled : T → List Mark → List Mark) (Fits : T → Type 0) (goes_on : T → Lexeme → Bool) (high : T → ℕ) (least : ℕ) (read : ℕ → State → Read T) → ((n : ℕ) → Exact spelled Fits goes_on high n least (read n)) → OnePiece spelled (λ x r. Fits x × Stops goes_on x r)
one_of spelled Fits goes_on high least read e x y r t names ts f g h k =
    let n : ℕ = high x + high y in
    let s : State = record { names = names; rest = ts } in
    one_found (read n s) x y r t ((e n).found s x r f.0 (omega arith) f.1 h) ((e n).found s y t g.0 (omega arith) g.1 k)

-- the same where nothing goes on from the trees
one_alone : {T : Type 0} (spelled : T → List Mark → List Mark) (Fits : T → Type 0) (high : T → ℕ) (least : ℕ) (read : ℕ → State → Read T) → ((n : ℕ) → Exact spelled Fits nothing_more high n least (read n)) → OnePiece spelled (λ x r. Fits x)
one_alone spelled Fits high least read e x y r t names ts f g h k = one_of spelled Fits nothing_more high least read e x y r t names ts (f, nothing_stops x r) (g, nothing_stops y t) h k

-- ---- expressions

rank_low : (e : ExprTree) → rank e ≤ 15
rank_low (Name l n) = omega arith
rank_low (Integer l v k) = omega arith
rank_low (Character l v) = omega arith
rank_low (Text l bs) = omega arith
rank_low (Enclosed l e) = omega arith
rank_low (Index l a i) = omega arith
rank_low (Call l f es) = omega arith
rank_low (Member l op a n) = omega arith
rank_low (Postfix l op a) = omega arith
rank_low (Prefix l op a) = omega arith
rank_low (SizeofExpr l a) = omega arith
rank_low (SizeofType l t) = omega arith
rank_low (Cast l t a) = omega arith
rank_low (Binary l op a b) = let g = op_level op in omega (arith, g.1)
rank_low (Conditional l a b c) = omega arith
rank_low (Assign l op a b) = omega arith
rank_low (Comma l es) = omega arith

pub expression : (level : ℕ) → OnePiece marks.expr (λ (x : ExprTree) (r : List Mark). (1 ≤ level) × (level ≤ rank x) × Parts x × StopsAt level x r)
expression level x y r t names ts f g h k =
    let low = rank_low x in
    one_of marks.expr (FitsAt level) (goes_on level) height 1 (λ n. (readers n).piece level) (λ n. low_exact marks.expr (FitsAt level) (goes_on level) height (readers n).limit 1 ((readers n).piece level) ((exact n).piece level f.0 (omega (arith, low, f.1))) n (limit n))
    x y r t names ts ((f.1, f.2), f.3) ((g.1, g.2), g.3) h k

pub whole_expression : OnePiece marks.expr (λ (x : ExprTree) (r : List Mark). Parts x × StopsWhole x r)
whole_expression = one_of marks.expr Parts goes_on_whole height 1 (λ n. (readers n).whole) (λ n. low_exact marks.expr Parts goes_on_whole height (readers n).limit 1 (readers n).whole (exact n).whole n (limit n))

-- ---- types and declarators

pub type_name : OnePiece marks.type_name (λ (x : TypeNameTree) (r : List Mark). FitsTypeName x)
type_name = one_alone marks.type_name FitsTypeName type_name_height 1 (λ n. read_type_name (readers n)) (λ n. low_exact marks.type_name FitsTypeName nothing_more type_name_height (readers n).limit 1 (read_type_name (readers n)) (types_exact (readers n) (exact n)).type_name n (limit n))

pub specifier_list : OnePiece marks.specifiers (λ (x : SpecifiersTree) (r : List Mark). FitsSpecifiers x)
specifier_list = one_alone marks.specifiers FitsSpecifiers specifiers_height 1 (λ n. read_specifiers (readers n)) (λ n. low_exact marks.specifiers FitsSpecifiers nothing_more specifiers_height (readers n).limit 1 (read_specifiers (readers n)) (types_exact (readers n) (exact n)).specifiers n (limit n))

one_declarator : (free outer : Bool) → OnePiece (marks.declarator free outer) (λ (x : DeclaratorTree) (r : List Mark). FitsFree free x)
one_declarator free outer =
    one_alone (marks.declarator free outer) (FitsFree free) declarator_height 0 (λ n s. where_left s.rest ((readers n).declarator free outer s))
    (λ n. low_exact (marks.declarator free outer) (FitsFree free) nothing_more declarator_height (readers n).limit 0 (λ s. where_left s.rest ((readers n).declarator free outer s)) ((exact n).declarator free outer) n (limit n))

pub named_declarator : (outer : Bool) → OnePiece (marks.declarator false outer) (λ (x : DeclaratorTree) (r : List Mark). (is_named x ≡ true) × FitsDeclarator x)
named_declarator outer = one_declarator false outer

pub free_declarator : OnePiece (marks.declarator true false) (λ (x : DeclaratorTree) (r : List Mark). FitsDeclarator x)
free_declarator = one_declarator true false

-- ---- declarations, statements and units

parts_to : (n : ℕ) → parts.Parts readers n
parts_to n = parts.parts readers (λ k. (exact k, limit k)) n

pub initialiser : OnePiece unit_marks.initialiser (λ (x : InitialiserTree) (r : List Mark). FitsInitialiser x × Closes r)
initialiser x y r t names ts f g h k =
    one_of unit_marks.initialiser FitsInitialiser goes_on_initialiser initialiser_height 1 (λ n. read_initialiser readers n) (λ n. (parts_to n).initialiser)
    x y r t names ts (f.0, initialiser_stops x r f.1) (g.0, initialiser_stops y t g.1) h k

pub declaration : OnePiece unit_marks.declaration (λ (x : DeclarationTree) (r : List Mark). FitsDeclaration x)
declaration = one_alone unit_marks.declaration FitsDeclaration declaration_height 1 (λ n. read_declaration readers n) (λ n. (parts_to n).declaration)

pub declarations : OnePiece unit_marks.declarations (λ (x : List DeclarationTree) (r : List Mark). FitsDeclarations x)
declarations = one_alone unit_marks.declarations FitsDeclarations declarations_height 0 (λ n. read_declarations readers n) (λ n. (parts_to n).declarations)

pub statement : OnePiece unit_marks.statement (λ (x : StatementTree) (r : List Mark). FitsStatement x)
statement = one_alone unit_marks.statement FitsStatement statement_height 1 (λ n. read_statement readers n) (λ n. (parts_to n).statement)

pub external : OnePiece unit_marks.external (λ (x : ExternalTree) (r : List Mark). FitsExternal x)
external x y r t names ts f g h k =
    one_alone unit_marks.external (FitsAfter false) external_height 1 (λ n. read_external readers n false) (λ n. external_exact readers n (λ m w. parts_to m) false)
    x y r t names ts (fits_after x f) (fits_after y g) h k

-- what is read is one tree
same_some : {A : Type 0} {a b : A} → Some a ≡ Some b → a ≡ b
same_some e = cc

read_once : {T : Type 0} (o : Read T) (x y : T) (s t : State) → o ≡ Some (x, s) → o ≡ Some (y, t) → x ≡ y
read_once {T = T} o x y s t e f = ap (λ (p : T × State). p.0) (same_some (sym e ∙ f))

pub one_run : (u v : UnitTree) (names : InForce) (ts : List Placed) → FitsUnit u → FitsUnit v → Runs (unit_marks.unit u) names ts → Runs (unit_marks.unit v) names ts → u ≡ v
one_run u v names ts f g h k =
    let n : ℕ = unit_height u + unit_height v in
    let s : State = record { names = names; rest = ts } in
    let a = unit_is_found readers n (λ m w. parts_to m) s u f (omega arith) h in
    let b = unit_is_found readers n (λ m w. parts_to m) s v g (omega arith) k in
    read_once (read_unit readers n s) u v a.0 b.0 a.1 b.1
