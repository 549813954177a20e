-- The productions of declarations and initialisers that are taken from a parser.
-- Source: C89 3.5, 3.5.7 and 3.7.1.
use Rattle.std.specs.Prelude.{false, List, ◌∷◌}
use Rattle.c_ast.specs.Marks.{Ask, IsSpecifier}
use Rattle.c_ast.specs.Trees.{InitialiserTree, DeclarationTree}
use Rattle.c_ast.specs.UnitMarks as marks
use Rattle.c_ast.specs.Levels.{FitsInitialiser, FitsDeclaration, FitsDeclarations}
use Rattle.c_ast.specs.Heights.{initialiser_height, declaration_height, declarations_height}
use Rattle.c_readings.specs.Readers.{readers}
use Rattle.c_readings.specs.Exact.{nothing_more}
use Rattle.c_readings.specs.UnitExact.{goes_on_initialiser}
use Rattle.c_readings.specs.DeclarationReaders as reader
use Rattle.c_expr.specs.Productions.{Production}
use Rattle.c_decl.specs.OldParameters as reading

abbrev pub initialiser : Production
initialiser = record { Tree = InitialiserTree; spelled = marks.initialiser; Fits = FitsInitialiser; goes_on = goes_on_initialiser; high = initialiser_height; most = 500; least = 1; read = reader.initialiser readers 500 }

abbrev pub declaration : Production
declaration = record { Tree = DeclarationTree; spelled = marks.declaration; Fits = FitsDeclaration; goes_on = nothing_more; high = declaration_height; most = 500; least = 1; read = reader.declaration readers 500 }

-- declarations behind which no specifier is next, as they stand before a function's body
abbrev pub old_parameters : Production
old_parameters = record { Tree = List DeclarationTree; spelled = λ ds r. marks.declarations ds (Ask (IsSpecifier false) false ∷ r); Fits = FitsDeclarations; goes_on = nothing_more; high = declarations_height; most = 500; least = 0; read = reading.old_parameters 500 }
