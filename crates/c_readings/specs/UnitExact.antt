-- That readers of initialisers, declarations, statements and units give each piece of a production, and nothing else.
-- Source: C89 3.5 to 3.7.
use Rattle.std.specs.Prelude.{◌≡◌, ◌≤◌, ℕ, Bool, false, Some}
use Rattle.c_ast.specs.Lexemes.{Lexeme}
use Rattle.c_ast.specs.Trees.{InitialiserTree, ByExpr, Braced, UnitTree}
use Rattle.c_ast.specs.UnitMarks as marks
use Rattle.c_ast.specs.Levels.{FitsInitialiser, FitsDeclaration, FitsDeclarations, FitsStatement, FitsUnit}
use Rattle.c_ast.specs.Heights.{initialiser_height, declaration_height, declarations_height, statement_height, unit_height}
use Rattle.c_ast.specs.Reach.{goes_on}
use Rattle.c_ast.specs.Operators.{assignment_level}
use Rattle.c_readings.specs.Reading.{State}
use Rattle.c_readings.specs.Readers.{Readers}
use Rattle.c_readings.specs.Exact.{RunsOn, Exact, nothing_more}
use Rattle.c_readings.specs.DeclarationReaders.{initialiser, declaration, declarations}
use Rattle.c_readings.specs.StatementReaders.{statement}
use Rattle.c_readings.specs.UnitReaders.{unit}

-- the token goes on from the initialiser's expression
abbrev pub goes_on_initialiser : InitialiserTree → Lexeme → Bool
goes_on_initialiser (ByExpr l e) t = goes_on assignment_level e t
goes_on_initialiser (Braced l is comma) t = false

-- with R, the readers up to n give pieces alone, and each piece; a unit's goes up to the end
pub record UnitsAreExact (R : ℕ → Readers) (n : ℕ) : Type 0 where
  pub initialiser : Exact marks.initialiser FitsInitialiser goes_on_initialiser initialiser_height n 1 (initialiser R n)
  pub declaration : Exact marks.declaration FitsDeclaration nothing_more declaration_height n 1 (declaration R n)
  pub declarations : Exact marks.declarations FitsDeclarations nothing_more declarations_height n 0 (declarations R n)
  pub statement : Exact marks.statement FitsStatement nothing_more statement_height n 1 (statement R n)
  pub unit_fits : (s : State) (u : UnitTree) (t : State) → unit R n s ≡ Some (u, t) → FitsUnit u × (unit_height u ≤ n) × RunsOn (marks.unit u) s
  pub unit_found : (s : State) (u : UnitTree) → FitsUnit u → unit_height u ≤ n → RunsOn (marks.unit u) s → (t : State) × (unit R n s ≡ Some (u, t))
