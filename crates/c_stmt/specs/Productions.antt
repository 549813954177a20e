-- The production of statements.
-- Source: C89 3.6.
use Rattle.c_ast.specs.Trees.{StatementTree}
use Rattle.c_ast.specs.UnitMarks as marks
use Rattle.c_ast.specs.Levels.{FitsStatement}
use Rattle.c_ast.specs.Heights.{statement_height}
use Rattle.c_readings.specs.Readers.{readers}
use Rattle.c_readings.specs.Exact.{nothing_more}
use Rattle.c_readings.specs.StatementReaders as reader
use Rattle.c_expr.specs.Productions.{Production}

abbrev pub statement : Production
statement = record { Tree = StatementTree; spelled = marks.statement; Fits = FitsStatement; goes_on = nothing_more; high = statement_height; most = 500; least = 1; read = reader.statement readers 500 }
