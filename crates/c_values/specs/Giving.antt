-- What a change gives. Source: C89 3.3.2.4, 3.3.3.1, 3.3.16.
use Rattle.c_meaning.specs.declared.core_expr.Change.{Change}
use Rattle.c_meaning.specs.declared.core_expr.CoreKind.{CoreKind}
use Rattle.c_meaning.specs.declared.core_expr.CoreKind.TheVariants as kind
use Rattle.c_values.specs.declared.changes.Given.{Given}
use Rattle.c_values.specs.declared.changes.Given.TheVariants.{Before, After}

-- the value that a change gives: that before it, or that after it
abbrev pub giving : Given → Change → CoreKind
giving Before by = kind.Postfix by
giving After by = kind.Change by
