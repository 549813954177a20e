-- What is asked of the readers of what stands in a unit: that they are exact.
use Rattle.std.proofs.Common.{ℕ, suc, Bool, false, List}
use Rattle.c_ast.specs.Marks.{Mark}
use Rattle.c_ast.specs.ExprMarks as expr_marks
use Rattle.c_ast.specs.UnitMarks as marks
use Rattle.c_ast.specs.Levels.{FitsSpecifiers, FitsInitialiser, FitsDeclaration, FitsDeclarations, FitsStatement}
use Rattle.c_ast.specs.Heights.{specifiers_height, declarator_height, initialiser_height, declaration_height, declarations_height, statement_height, block_height}
use Rattle.c_ast.specs.Trees.{DeclaratorTree}
use Rattle.c_readings.specs.Readers.{Readers}
use Rattle.c_readings.specs.Exact.{Exact, FitsFree, nothing_more}
use Rattle.c_readings.specs.DeclarationReaders.{low_specifiers, whole_declarator, inits_behind, initialiser, declaration, declarations}
use Rattle.c_readings.specs.StatementReaders.{block_inside, statement}
use Rattle.c_readings.specs.UnitExact.{goes_on_initialiser}
use Rattle.c_readings.proofs.Lows.{EachExact}
use Rattle.c_readings.proofs.Initialisers.{initialiser_exact}
use Rattle.c_readings.proofs.Declarations.{rest_of, FitsRest, rest_height, low_specifiers_exact, whole_declarator_exact, inits_behind_exact, declaration_exact, declarations_exact}
use Rattle.c_readings.proofs.Blocks.{inside, FitsOn, block_inside_exact}
use Rattle.c_readings.proofs.Statements.{statement_exact}

-- the marks of a declarator that is no part of another
abbrev pub declared : Bool → DeclaratorTree → List Mark → List Mark
declared typedef d r = marks.whole_declarator d typedef r

-- the readers up to n of what stands in a unit
pub record Parts (R : ℕ → Readers) (n : ℕ) : Type 0 where
  pub specifiers : Exact expr_marks.specifiers FitsSpecifiers nothing_more specifiers_height n 1 (low_specifiers R n)
  pub declarator : (typedef : Bool) → Exact (declared typedef) (FitsFree false) nothing_more declarator_height n 1 (whole_declarator R n typedef)
  pub inits : (typedef : Bool) (line : ℕ) (d : DeclaratorTree) → Exact (rest_of typedef) (FitsRest line d) nothing_more rest_height n 1 (inits_behind R n typedef line d)
  pub initialiser : Exact marks.initialiser FitsInitialiser goes_on_initialiser initialiser_height n 1 (initialiser R n)
  pub declaration : Exact marks.declaration FitsDeclaration nothing_more declaration_height n 1 (declaration R n)
  pub declarations : Exact marks.declarations FitsDeclarations nothing_more declarations_height n 0 (declarations R n)
  pub block : (line : ℕ) → Exact inside (FitsOn line) nothing_more block_height (suc n) 1 (block_inside R n (statement R n) line)
  pub statement : Exact marks.statement FitsStatement nothing_more statement_height n 1 (statement R n)

-- they are, where those of expressions, specifiers and declarators are
pub parts : (R : ℕ → Readers) → EachExact R → (n : ℕ) → Parts R n
parts R e n =
    let statements = statement_exact R e (declarations_exact R e) n in
    record {
      specifiers = low_specifiers_exact R e n;
      declarator = whole_declarator_exact R e n;
      inits = inits_behind_exact R e n;
      initialiser = initialiser_exact R e n;
      declaration = declaration_exact R e n;
      declarations = declarations_exact R e n;
      block = block_inside_exact R n (declarations_exact R e n) (statement R n) statements;
      statement = statements;
    }
