-- What is known where a statement stands.
use Rattle.std.specs.Prelude.{◌<◌, length}
use Rattle.c_types.specs.Table.{Table}
use Rattle.c_stmt_parts.specs.declared.around.Within.{Within}
use Rattle.c_stmt_parts.specs.declared.body.Body.{Body}
use Rattle.c_stmt_parts.specs.BodiesSeen.{IsBodyIn}

-- the types of the function's result and of what its body has so far stand in the table
pub record IsReady (t : Table) (w : Within) (b : Body) : Type 0 where
  pub result : w.result < length t.forms
  pub body : IsBodyIn (length t.forms) b
