-- What a reader of the declarations of old-style parameters gives.
-- Source: C89 3.7.1.
use Rattle.std.specs.Prelude.{ℕ, false, None, List}
use Rattle.c_ast.specs.Marks.{IsSpecifier}
use Rattle.c_ast.specs.Trees.{DeclarationTree}
use Rattle.c_readings.specs.Reading.{State, Read, ask, bind, gives}
use Rattle.c_readings.specs.Readers.{readers}
use Rattle.c_readings.specs.DeclarationReaders as reader

-- declarations as long as one is next. A typedef name before `:` goes on from them, but begins none
abbrev pub old_parameters : ℕ → State → Read (List DeclarationTree)
old_parameters n s = bind (reader.declarations readers n s) (λ ds t. ask (IsSpecifier false) t None (gives ds t))
