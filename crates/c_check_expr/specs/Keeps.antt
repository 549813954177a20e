-- What a checker keeps of its scopes and its table, whatever it declares.
use Rattle.std.specs.Prelude.{◌≡◌, length}
use Rattle.c_symbols.specs.Scoping.{Scoping}
use Rattle.c_types.specs.Table.{Table, Extends}
use Rattle.c_check_expr.specs.Known.{AreSymbolsIn}

-- The scopes around the innermost stay, the later table extends the earlier one, and each symbol's type stands in it.
pub record Keeps (old : Scoping) (before : Table) (new : Scoping) (behind : Table) : Type 0 where
  pub outer : new.outer ≡ old.outer
  pub extends : Extends before behind
  pub symbols : AreSymbolsIn (length behind.forms) new.symbols
