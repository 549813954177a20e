-- Units, and what comes of them, for examples. Each external declaration of a row stands on a line of its own.
use Rattle.std.specs.Prelude.{ℕ, codes, Option, Some, None, List, [], ◌∷◌}
use Rattle.c_ast.specs.declared.class.IntKind.TheVariants as int_kind
use Rattle.c_ast.specs.declared.specifier.BasicType.TheVariants as word
use Rattle.c_ast.specs.Trees.{ExprTree, Name, Integer, Call, NoExprs, AnExpr, SpecifierTree, SpecifiersTree, Specified, Basic, DeclaratorTree, Declarator, Named, SuffixTree, NoParameters, NoSuffixes, Suffixes, ParameterTree, Parameter, ParameterTrees, NoParameter, Parameters, ADeclarator, DeclarationTree, StatementTree, Expression, Return, StatementTrees, NoStatements, Statements, Block, ExternalTree, Function, Declares, UnitTree}
use Rattle.c_meaning.specs.Constraints.{Fault}
use Rattle.c_meaning.specs.Laws.{fault_of}
use Rattle.c_meaning.specs.Typing.{Outcome, Fine, Bad}
use Rattle.c_meaning.specs.Units as units
use Rattle.c_meaning.specs.DeclarationSamples.{parts, of_int}
use Rattle.c_units.specs.Typing.{typed_unit}

abbrev pub number : ℕ → ExprTree
number n = Integer 1 n int_kind.Int

abbrev pub statements : List StatementTree → StatementTrees
statements [] = NoStatements
statements (s ∷ ss) = Statements s (statements ss)

abbrev pub declarator : ℕ → List ℕ → SuffixTree → DeclaratorTree
declarator line name suffix = Declarator line [] (Named name) (Suffixes suffix NoSuffixes)

abbrev pub specifiers : ℕ → List SpecifierTree → SpecifiersTree
specifiers line specs = Specified line (parts specs)

abbrev pub void : SpecifierTree
void = Basic 1 word.Void

-- ---- parameters

abbrev pub parameter : List SpecifierTree → List ℕ → ParameterTree
parameter specs name = Parameter 1 (specifiers 1 specs) (ADeclarator (Declarator 1 [] (Named name) NoSuffixes))

abbrev pub parameters : List ParameterTree → ParameterTrees
parameters [] = NoParameter
parameters (p ∷ ps) = Parameters p (parameters ps)

-- ---- functions

-- a function that starts on a line, with this behind its name
abbrev pub function : ℕ → List SpecifierTree → List ℕ → SuffixTree → List DeclarationTree → List DeclarationTree → List StatementTree → ExternalTree
function line specs name suffix olds ds ss =
    Function line (Some (specifiers line specs)) (declarator line name suffix) olds (Block line ds (statements ss))

-- with no parameters and a result of int
abbrev pub with_body : ℕ → List ℕ → List StatementTree → ExternalTree
with_body line name ss = function line (of_int ∷ []) name (NoParameters line) [] [] ss

-- int main() { .. }
abbrev pub main : ℕ → List StatementTree → ExternalTree
main line ss = with_body line (codes "main") ss

-- `x();` and `x;`
abbrev pub call : ℕ → List ℕ → StatementTree
call line name = Expression line (AnExpr (Call line (Name line name) NoExprs))

abbrev pub use_of : ℕ → List ℕ → StatementTree
use_of line name = Expression line (AnExpr (Name line name))

abbrev pub return_ : ℕ → StatementTree
return_ n = Return 1 (AnExpr (number n))

-- ---- units

abbrev pub declares : ℕ → List DeclarationTree → List ExternalTree
declares line [] = []
declares line (d ∷ ds) = Declares line d ∷ declares line ds

abbrev pub unit : List ExternalTree → UnitTree
unit externals = record { line = 1; externals = externals }

abbrev pub fault : List ExternalTree → Option Fault
fault externals = fault_of (typed_unit (unit externals))

abbrev pub whole : List ExternalTree → Option units.UnitTree
whole externals = of_outcome (typed_unit (unit externals))
  where
    of_outcome : Outcome units.UnitTree → Option units.UnitTree
    of_outcome (Fine s u) = Some u
    of_outcome (Bad f) = None
