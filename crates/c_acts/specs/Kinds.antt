-- Kinds of expressions that are evaluated apart.
use Rattle.std.specs.Prelude.{Bool, true, false}
use Rattle.c_meaning.specs.declared.core_expr.CoreKind.{CoreKind}
use Rattle.c_meaning.specs.declared.core_expr.CoreKind.TheVariants as kind

abbrev pub is_call : CoreKind → Bool
is_call (kind.Call n) = true
is_call what = false

-- it writes a place
abbrev pub is_writing : CoreKind → Bool
is_writing kind.Assign = true
is_writing (kind.Change by) = true
is_writing (kind.Postfix by) = true
is_writing what = false
