-- The productions that a parser's calls take.
-- Source: C89 3.3 to 3.5.
use Rattle.std.specs.Prelude.{◌≤◌, ℕ, Bool, false, true, List}
use Rattle.c_ast.specs.Lexemes.{Lexeme}
use Rattle.c_ast.specs.Trees.{ExprTree, TypeNameTree, SpecifiersTree, DeclaratorTree}
use Rattle.c_ast.specs.Marks.{Mark}
use Rattle.c_ast.specs.ExprMarks as marks
use Rattle.c_ast.specs.Levels.{Parts, FitsTypeName, FitsSpecifiers}
use Rattle.c_ast.specs.Heights.{height, type_name_height, specifiers_height, declarator_height}
use Rattle.c_ast.specs.Reach.{goes_on, goes_on_whole}
use Rattle.c_readings.specs.Reading.{State, Read}
use Rattle.c_readings.specs.Readers.{readers}
use Rattle.c_readings.specs.Readers as reader
use Rattle.c_readings.specs.Exact.{IsPiece, FitsAt, FitsFree, RunsOn, Stops, nothing_more, where_left}

-- its trees, what they are spelled by, which of them fit, which token goes on from one, how high they are and may be at most, how
-- many tokens they have at least, and what a reader of those that are low enough gives
pub record Production : Type 1 where
  pub Tree : Type 0
  pub spelled : Tree → List Mark → List Mark
  pub Fits : Tree → Type 0
  pub goes_on : Tree → Lexeme → Bool
  pub high : Tree → ℕ
  pub most : ℕ
  pub least : ℕ
  pub read : State → Read Tree

-- each for the trees that are no higher than a limit

-- an expression, perhaps with commas
abbrev pub whole_expression : ℕ → Production
whole_expression limit = record { Tree = ExprTree; spelled = marks.expr; Fits = Parts; goes_on = goes_on_whole; high = height; most = limit; least = 1; read = (readers limit).whole }

-- an expression of the level: 1 an assignment, 2 a conditional expression
abbrev pub expression : ℕ → ℕ → Production
expression level limit = record { Tree = ExprTree; spelled = marks.expr; Fits = FitsAt level; goes_on = goes_on level; high = height; most = limit; least = 1; read = (readers limit).piece level }

abbrev pub type_name : ℕ → Production
type_name limit = record { Tree = TypeNameTree; spelled = marks.type_name; Fits = FitsTypeName; goes_on = nothing_more; high = type_name_height; most = limit; least = 1; read = reader.type_name (readers limit) }

abbrev pub specifiers : ℕ → Production
specifiers limit = record { Tree = SpecifiersTree; spelled = marks.specifiers; Fits = FitsSpecifiers; goes_on = nothing_more; high = specifiers_height; most = limit; least = 1; read = reader.specifiers (readers limit) }

-- a declarator that declares a name and is no part of another
abbrev pub declarator : ℕ → Production
declarator limit = record { Tree = DeclaratorTree; spelled = marks.declarator false true; Fits = FitsFree false; goes_on = nothing_more; high = declarator_height; most = limit; least = 0; read = λ s. where_left s.rest ((readers limit).declarator false true s) }

-- from the state on stands the tree, which fits and is low enough; behind it is the state t, from which nothing goes on from it
abbrev pub IsTaken : (P : Production) → State → P.Tree → State → Type 0
IsTaken P s x t = IsPiece P.spelled P.Fits P.goes_on P.high P.most P.least s x t

-- a tree stands there that fits and is low enough, from which what is behind it doesn't go on
pub record Stands (P : Production) (s : State) : Type 0 where
  pub tree : P.Tree
  pub others : List Mark
  pub fits : P.Fits tree
  pub low : P.high tree ≤ P.most
  pub stops : Stops P.goes_on tree others
  pub runs : RunsOn (P.spelled tree others) s
