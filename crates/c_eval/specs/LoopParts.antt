-- The test and the last part of a loop, if it has them (C89 3.6.5).
use Rattle.std.specs.Prelude.{Option, Some, None}
use Rattle.c_meaning.specs.CoreTrees.{CoreOf}
use Rattle.c_meaning.specs.StmtTrees.{StmtOf}
use Rattle.c_meaning.specs.StmtTrees as stmt

abbrev pub test_in : {T : Type 0} → StmtOf T → Option (CoreOf T)
test_in (stmt.While x t) = Some x
test_in (stmt.Do t x) = Some x
test_in (stmt.For a b c t) = b
test_in other = None

abbrev pub last_in : {T : Type 0} → StmtOf T → Option (CoreOf T)
last_in (stmt.For a b c t) = c
last_in other = None
