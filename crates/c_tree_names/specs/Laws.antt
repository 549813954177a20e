-- The unit that a source denotes.
use Rattle.std.specs.Prelude.{ℕ, List}
use Rattle.c_ast.specs.Trees.{UnitTree}
use Rattle.c_lexer.specs.SourceUnits.{DenotesUnit}
use Rattle.c_tree_names.specs.Names.{IsGrammatical}

-- it is one of the grammar, and its names are names of C
abbrev pub DenotedUnitsAreGrammatical : Type 0
DenotedUnitsAreGrammatical = (source : List ℕ) (u : UnitTree) → DenotesUnit source u → IsGrammatical u
