-- Worked units: which trees of the same tokens fit, and which don't.
use Rattle.std.specs.Prelude.{ℕ, Bool, true, false, not, ◌&&◌, if◌then◌else◌, Some, None, List, [], ◌∷◌, codes}
use Rattle.c_ast.specs.declared.class.IntKind.TheVariants.{Int as IntType}
use Rattle.c_ast.specs.declared.operator.BinaryOperator.TheVariants as binary
use Rattle.c_ast.specs.declared.operator.PrefixOperator.TheVariants as prefix
use Rattle.c_ast.specs.declared.specifier.Storage.TheVariants as storage
use Rattle.c_ast.specs.declared.specifier.BasicType.TheVariants as basic
use Rattle.c_ast.specs.Lexemes.{Lexeme, Name, Keyword, Integer, Sign}
use Rattle.c_ast.specs.InForce.{InForce, is_typedef, put, opened, closed, closed_kept, reopened, forgotten}
use Rattle.c_ast.specs.Marks.{Mark, Tok, Plain, Typed, Here, Ask, Put, Open, Close, Keep, Reopen, Forget, holds, tokens_of}
use Rattle.c_ast.specs.Trees.{ExprTree, Enclosed, Prefix, SizeofExpr, SizeofType, Cast, Binary, AnExpr, TypeNameTree, TypeNamed, SpecifiersTree, Specified, SpecifierTree, Stored, Basic, NamedType, Enum, NoSpecifiers, Specifiers, NoEnumerators, Enumerators, Enumerator, DeclaratorTree, Declarator, NoDeclarator, ADeclarator, Named, Inner, Omitted, SuffixTree, Prototype, NameList, NoSuffixes, Suffixes, Parameter, NoParameter, Parameters, DeclarationTree, StatementTree, Label, Expression, If, IfElse, Return, NoStatements, Statements, Block, ExternalTree, Function, Declares, UnitTree}
use Rattle.c_ast.specs.Trees as tree
use Rattle.c_ast.specs.Signs.{open_parenthesis, close_parenthesis, open_brace, close_brace, minus_sign, semicolon}
use Rattle.c_ast.specs.Keywords.{int_word, return_word, typedef_word}

-- the answer is the one that is asked for
abbrev pub agrees : Bool → Bool → Bool
agrees a b = if a then b else not b

-- each name is classed by the declarations in force, and what follows is what the marks say; as a test
abbrev pub are_classed : List Mark → InForce → Bool
are_classed [] names = true
are_classed (Tok l ∷ ms) names = are_classed ms names
are_classed (Plain n ∷ ms) names = not (is_typedef names n) && are_classed ms names
are_classed (Typed n ∷ ms) names = is_typedef names n && are_classed ms names
are_classed (Here line ∷ ms) names = are_classed ms names
are_classed (Ask test answer ∷ ms) names = agrees (holds test names (tokens_of ms)) answer && are_classed ms names
are_classed (Put n typedef ∷ ms) names = are_classed ms (put names n typedef)
are_classed (Open ∷ ms) names = are_classed ms (opened names)
are_classed (Close ∷ ms) names = are_classed ms (closed names)
are_classed (Keep ∷ ms) names = are_classed ms (closed_kept names)
are_classed (Reopen ∷ ms) names = are_classed ms (reopened names)
are_classed (Forget ∷ ms) names = are_classed ms (forgotten names)

-- ---- parts

abbrev pub t_name : List ℕ
t_name = codes "T"

abbrev pub f_name : List ℕ
f_name = codes "f"

abbrev pub x_name : List ℕ
x_name = codes "x"

abbrev one : SpecifierTree → SpecifiersTree
one s = Specified 1 (Specifiers s NoSpecifiers)

abbrev int : SpecifiersTree
int = one (Basic 1 basic.Int)

abbrev plain : List ℕ → DeclaratorTree
plain n = Declarator 1 [] (Named n) NoSuffixes

abbrev suffixed : List ℕ → SuffixTree → DeclaratorTree
suffixed n s = Declarator 1 [] (Named n) (Suffixes s NoSuffixes)

abbrev declared : SpecifiersTree → DeclaratorTree → DeclarationTree
declared s d = record { line = 1; specifiers = s; declarators = record { line = 1; declarator = d; initialiser = None } ∷ [] }

-- typedef int T;
abbrev type_t : ExternalTree
type_t = Declares 1 (declared (Specified 1 (Specifiers (Stored 1 storage.Typedef) (Specifiers (Basic 1 basic.Int) NoSpecifiers))) (plain t_name))

abbrev unnamed : SpecifiersTree → SuffixTree
unnamed s = Prototype 1 (Parameters (Parameter 1 s NoDeclarator) NoParameter) false

abbrev named : SpecifiersTree → List ℕ → SuffixTree
named s n = Prototype 1 (Parameters (Parameter 1 s (ADeclarator (plain n))) NoParameter) false

abbrev no_parameters : SuffixTree
no_parameters = unnamed (one (Basic 1 basic.Void))

-- int f(..) { s }
abbrev function : SuffixTree → List DeclarationTree → StatementTree → ExternalTree
function suffix old s = Function 1 (Some int) (suffixed f_name suffix) old (Block 1 [] (Statements s NoStatements))

abbrev of : List ExternalTree → UnitTree
of xs = record { line = 1; externals = xs }

abbrev number : ExprTree
number = tree.Integer 1 1 IntType

abbrev typed : TypeNameTree
typed = TypeNamed 1 (one (NamedType 1 t_name)) NoDeclarator

abbrev gives : ExprTree → StatementTree
gives e = Return 1 (AnExpr e)

abbrev does : ExprTree → StatementTree
does e = Expression 1 (AnExpr e)

-- (T) - 1
abbrev difference : ExprTree
difference = Binary 1 binary.Subtract (Enclosed 1 (tree.Name 1 t_name)) number

abbrev cast : ExprTree
cast = Cast 1 typed (Prefix 1 prefix.Minus number)

-- ---- a hidden typedef name, and one in force

-- typedef int T; int f(int T) { return (T) - 1; }
abbrev pub hidden : ExprTree → UnitTree
hidden e = of (type_t ∷ function (named int t_name) [] (gives e) ∷ [])

abbrev pub hidden_difference : UnitTree
hidden_difference = hidden difference

abbrev pub hidden_cast : UnitTree
hidden_cast = hidden cast

-- with f(void)
abbrev pub shown_difference : UnitTree
shown_difference = of (type_t ∷ function no_parameters [] (gives difference) ∷ [])

abbrev pub shown_cast : UnitTree
shown_cast = of (type_t ∷ function no_parameters [] (gives cast) ∷ [])

-- the tokens of both readings
abbrev pub hidden_tokens : List Lexeme
hidden_tokens =
    Keyword typedef_word ∷ Keyword int_word ∷ Name t_name ∷ Sign semicolon ∷ Keyword int_word ∷ Name f_name ∷ Sign open_parenthesis ∷ Keyword int_word ∷ Name t_name ∷ Sign close_parenthesis ∷ Sign open_brace
    ∷ Keyword return_word ∷ Sign open_parenthesis ∷ Name t_name ∷ Sign close_parenthesis ∷ Sign minus_sign ∷ Integer 1 IntType ∷ Sign semicolon ∷ Sign close_brace ∷ []

-- typedef int T; int f(int T); T x;    the prototype's scope ends
abbrev pub prototype_ends : UnitTree
prototype_ends = of (type_t ∷ Declares 1 (declared int (suffixed f_name (named int t_name))) ∷ Declares 1 (declared (one (NamedType 1 t_name)) (plain x_name)) ∷ [])

-- typedef int T; int f(int (T));    a function's parameter, and no name in parentheses
abbrev pub function_parameter : UnitTree
function_parameter = of (type_t ∷ Declares 1 (declared int (suffixed f_name (Prototype 1 (Parameters (Parameter 1 int (ADeclarator (Declarator 1 [] Omitted (Suffixes (unnamed (one (NamedType 1 t_name))) NoSuffixes)))) NoParameter) false))) ∷ [])

abbrev pub parameter_in_parentheses : UnitTree
parameter_in_parentheses = of (type_t ∷ Declares 1 (declared int (suffixed f_name (Prototype 1 (Parameters (Parameter 1 int (ADeclarator (Declarator 1 [] (Inner (plain t_name)) NoSuffixes))) NoParameter) false))) ∷ [])

-- int (*f(int x))(int f(int T)) { return x; }    the parameters of f, and no others, are those of the body
abbrev returns_pointer : SuffixTree → ExprTree → UnitTree
returns_pointer outer e =
    of (Function 1 (Some int) (Declarator 1 [] (Inner (Declarator 1 ([] ∷ []) (Named f_name) (Suffixes (named int x_name) NoSuffixes))) (Suffixes outer NoSuffixes)) [] (Block 1 [] (Statements (gives e) NoStatements)) ∷ [])

abbrev inner_function : SuffixTree
inner_function = Prototype 1 (Parameters (Parameter 1 int (ADeclarator (suffixed f_name (named int t_name)))) NoParameter) false

-- typedef int T; before it: in the body T is still a type
abbrev pub own_parameters : UnitTree
own_parameters = of (type_t ∷ (returns_pointer inner_function cast).externals)

abbrev pub own_parameters_wrong : UnitTree
own_parameters_wrong = of (type_t ∷ (returns_pointer inner_function difference).externals)

-- typedef int T; int f(x) int x; { T: return 1; }    a typedef name as a label; old-style parameters
abbrev pub label : UnitTree
label = of (type_t ∷ function (NameList 1 (x_name ∷ [])) (declared int (plain x_name) ∷ []) (Label 1 t_name (gives number)) ∷ [])

-- int f(void) { return sizeof(T) - 1; } behind typedef int T;
abbrev pub size_of_type : UnitTree
size_of_type = of (type_t ∷ function no_parameters [] (gives (Binary 1 binary.Subtract (SizeofType 1 typed) number)) ∷ [])

abbrev pub size_of_cast : UnitTree
size_of_cast = of (type_t ∷ function no_parameters [] (gives (SizeofExpr 1 cast)) ∷ [])

-- enum { T = sizeof(T) } x;    an enumerator is in force from its own end
abbrev pub enumerator_later : UnitTree
enumerator_later = of (type_t ∷ Declares 1 (declared (one (Enum 1 None (Enumerators (Enumerator 1 t_name (AnExpr (SizeofType 1 typed))) NoEnumerators) true)) (plain x_name)) ∷ [])

-- ---- an else goes with the nearest if

-- int f(void) { if (1) if (1) 1; else 1; }
abbrev pub nearest_else : UnitTree
nearest_else = of (function no_parameters [] (If 1 number (IfElse 1 number (does number) (does number))) ∷ [])

abbrev pub farthest_else : UnitTree
farthest_else = of (function no_parameters [] (IfElse 1 number (If 1 number (does number)) (does number)) ∷ [])
