-- A law of symbols whose types stand in a table: one more of them may be declared.
use Rattle.std.proofs.Common.{ℕ, ◌<◌, List, [], ◌∷◌, ◌++◌}
use Rattle.c_symbols.specs.declared.symbol.Symbol.{Symbol}
use Rattle.c_check_expr.specs.Known.{AreSymbolsIn}

pub symbols_in-append : (n : ℕ) (ys : List Symbol) (y : Symbol) → AreSymbolsIn n ys → y.of < n → AreSymbolsIn n (ys ++ y ∷ [])
symbols_in-append n [] y i h = (h, tt)
symbols_in-append n (x ∷ ys) y i h = (i.0, symbols_in-append n ys y i.1 h)
