-- The statements before the `}` of a block.
-- Source: C89 3.6.2.
use Rattle.std.specs.Prelude.{not, Bool, true, List}
use Rattle.c_ast.specs.Marks.{IsSign}
use Rattle.c_ast.specs.Trees.{StatementTree}
use Rattle.c_ast.specs.Signs.{close_brace}
use Rattle.c_readings.specs.Reading.{State, Read, answer, all_of}

abbrev pub statements_in : (State → Read StatementTree) → State → Read (List StatementTree)
statements_in inner s = all_of (λ (b : Bool) u. not (answer (IsSign close_brace) u)) (λ (b : Bool) u. inner u) (λ (b : Bool) x. b) true s
