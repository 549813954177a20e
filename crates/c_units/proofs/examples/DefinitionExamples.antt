-- Examples of functions' definitions that break a constraint, each with the nearest that breaks none beside it.
use Rattle.std.specs.Prelude.{◌≡◌, refl, ℕ, codes, true, false, Option, Some, None, List, [], ◌∷◌}
use Rattle.c_ast.specs.declared.specifier.Storage.TheVariants as class
use Rattle.c_ast.specs.declared.specifier.BasicType.TheVariants as word
use Rattle.c_ast.specs.declared.specifier.RecordKind.TheVariants as record_kind
use Rattle.c_ast.specs.Trees.{ExprTree, Name, Call, NoExprs, NoExpr, AnExpr, SizeofExpr, SizeofType, TypeNamed, Prototype, NameList, NoParameters, Parameter, NoDeclarator, SuffixTree, Basic, RecordTag, Enum, Enumerator, Enumerators, NoEnumerators, Declarator, Named, ArraySuffix, NoSuffixes, Suffixes, DeclarationTree}
use Rattle.c_meaning.specs.Constants.{fold}
use Rattle.c_meaning.specs.Constraints.{Fault, Breaks, fault_at}
use Rattle.c_meaning.specs.Declarations.{decl_fault}
use Rattle.c_meaning.specs.Initialising.{init_fault}
use Rattle.c_meaning.specs.DeclarationSamples.{of_int, with_class, name, of, is, n, row}
use Rattle.c_units.specs.Statements.{stmt_fault}
use Rattle.c_units.specs.Definitions.{definition_fault, parameter_fault}
use Rattle.c_units.specs.Ends.{unit_fault}
use Rattle.c_units.specs.UnitSamples.{void, parameter, parameters, specifiers, function, with_body, main, fault}

-- `int f ..{}` with this behind its name and these declarations, and main behind it
abbrev with : SuffixTree → List DeclarationTree → Option Fault
with suffix olds = fault (function 1 (of_int ∷ []) (codes "f") suffix olds [] [] ∷ main 2 [] ∷ [])

abbrev a : List ℕ
a = codes "a"

-- typedef int f() {}
typedef_definition : fault (function 1 (with_class class.Typedef) (codes "f") (NoParameters 1) [] [] [] ∷ main 2 [] ∷ []) ≡ Some (Breaks 3 1)
unfolding fold fault_at init_fault decl_fault stmt_fault definition_fault parameter_fault unit_fault
typedef_definition = refl

-- int f(a, a) {}
name_twice : with (NameList 1 (a ∷ a ∷ [])) [] ≡ Some (Breaks 5 1)
unfolding fold fault_at init_fault decl_fault stmt_fault definition_fault parameter_fault unit_fault
name_twice = refl

-- int f(a) {}
name_once : with (NameList 1 (a ∷ [])) [] ≡ None
unfolding fold fault_at init_fault decl_fault stmt_fault definition_fault parameter_fault unit_fault
name_once = refl

-- int f(int a) { int a; }: the body stands in the parameters' scope
parameter_again : fault (function 1 (of_int ∷ []) (codes "f") (Prototype 1 (parameters (parameter (of_int ∷ []) a ∷ [])) false) [] (of (of_int ∷ []) (name a)) [] ∷ main 2 [] ∷ []) ≡ Some (Breaks 5 1)
unfolding fold fault_at init_fault decl_fault stmt_fault definition_fault parameter_fault unit_fault
parameter_again = refl

-- int f() {} and void f() {}
other_type : fault (with_body 1 (codes "f") [] ∷ function 2 (void ∷ []) (codes "f") (NoParameters 2) [] [] [] ∷ main 3 [] ∷ []) ≡ Some (Breaks 6 2)
unfolding fold fault_at init_fault decl_fault stmt_fault definition_fault parameter_fault unit_fault
other_type = refl

-- int f() {} twice
defined_twice : fault (with_body 1 (codes "f") [] ∷ with_body 2 (codes "f") [] ∷ main 3 [] ∷ []) ≡ Some (Breaks 7 2)
unfolding fold fault_at init_fault decl_fault stmt_fault definition_fault parameter_fault unit_fault
defined_twice = refl

-- int f(int) {}
nameless_parameter : with (Prototype 1 (parameters (Parameter 1 (specifiers 1 (of_int ∷ [])) NoDeclarator ∷ [])) false) [] ≡ Some (Breaks 18 1)
unfolding fold fault_at init_fault decl_fault stmt_fault definition_fault parameter_fault unit_fault
nameless_parameter = refl

-- int f(void) {}
no_parameter : with (Prototype 1 (parameters (Parameter 1 (specifiers 1 (void ∷ [])) NoDeclarator ∷ [])) false) [] ≡ None
unfolding fold fault_at init_fault decl_fault stmt_fault definition_fault parameter_fault unit_fault
no_parameter = refl

-- int f(a) int b; {}
unlisted : with (NameList 1 (a ∷ [])) (of (of_int ∷ []) (name (codes "b"))) ≡ Some (Breaks 19 1)
unfolding fold fault_at init_fault decl_fault stmt_fault definition_fault parameter_fault unit_fault
unlisted = refl

-- int f(a) int a; {}
listed : with (NameList 1 (a ∷ [])) (of (of_int ∷ []) (name a)) ≡ None
unfolding fold fault_at init_fault decl_fault stmt_fault definition_fault parameter_fault unit_fault
listed = refl

-- `char b[..];` with the size of this
abbrev sized : ExprTree → List DeclarationTree
sized e =
    row 1 (Basic 1 word.Char ∷ [])
    (record { line = 1; declarator = Declarator 1 [] (Named (codes "b")) (Suffixes (ArraySuffix 1 (AnExpr e)) NoSuffixes); initialiser = None } ∷ []) ∷ []

abbrev sized_by_call : List ℕ → List DeclarationTree
sized_by_call name = sized (SizeofExpr 1 (Call 1 (Name 1 name) NoExprs))

-- int f(a, b) char b[sizeof a()]; {}: the call declares a function in the parameters' scope
called_parameter : with (NameList 1 (a ∷ codes "b" ∷ [])) (sized_by_call a) ≡ Some (Breaks 5 1)
unfolding fold fault_at init_fault decl_fault stmt_fault definition_fault parameter_fault unit_fault
called_parameter = refl

-- int f(a, b) char b[sizeof c()]; {}
called_other : with (NameList 1 (a ∷ codes "b" ∷ [])) (sized_by_call (codes "c")) ≡ None
unfolding fold fault_at init_fault decl_fault stmt_fault definition_fault parameter_fault unit_fault
called_other = refl

-- int f(a, b) char b[sizeof(enum { a })]; {}
enumerated_parameter :
    with (NameList 1 (a ∷ codes "b" ∷ []))
    (sized (SizeofType 1 (TypeNamed 1 (specifiers 1 (Enum 1 None (Enumerators (Enumerator 1 a NoExpr) NoEnumerators) false ∷ [])) NoDeclarator)))
    ≡ Some (Breaks 5 1)
unfolding fold fault_at init_fault decl_fault stmt_fault definition_fault parameter_fault unit_fault
enumerated_parameter = refl

-- int f(a) int a = 1; {}
initialised : with (NameList 1 (a ∷ [])) (is (of_int ∷ []) (name a) (n 1)) ≡ Some (Breaks 19 1)
unfolding fold fault_at init_fault decl_fault stmt_fault definition_fault parameter_fault unit_fault
initialised = refl

-- int f(a) int; {}
nothing_declared : with (NameList 1 (a ∷ [])) (row 1 (of_int ∷ []) [] ∷ []) ≡ Some (Breaks 4 1)
unfolding fold fault_at init_fault decl_fault stmt_fault definition_fault parameter_fault unit_fault
nothing_declared = refl

-- int f(a) static int a; {}
static_parameter : with (NameList 1 (a ∷ [])) (of (with_class class.Static) (name a)) ≡ Some (Breaks 3 1)
unfolding fold fault_at init_fault decl_fault stmt_fault definition_fault parameter_fault unit_fault
static_parameter = refl

-- int f(struct s a) {}
incomplete_parameter : with (Prototype 1 (parameters (parameter (RecordTag 1 record_kind.Struct (codes "s") ∷ []) a ∷ [])) false) [] ≡ Some (Breaks 20 1)
unfolding fold fault_at init_fault decl_fault stmt_fault definition_fault parameter_fault unit_fault
incomplete_parameter = refl

-- int f(int a, ...) {}
variadic : with (Prototype 1 (parameters (parameter (of_int ∷ []) a ∷ [])) true) [] ≡ Some (Breaks 21 1)
unfolding fold fault_at init_fault decl_fault stmt_fault definition_fault parameter_fault unit_fault
variadic = refl
