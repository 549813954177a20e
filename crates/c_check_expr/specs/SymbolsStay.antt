-- What stays of symbols, and of the state that they tell, when a table grows.
use Rattle.std.proofs.Common.{◌≡◌, ℕ, ◌≤◌, List, [], ◌∷◌, length, refl, arith}
use Rattle.c_symbols.specs.declared.symbol.Symbol.{Symbol}
use Rattle.c_symbols.specs.Scoping.{Scoping}
use Rattle.c_types.specs.Table.{Table, Extends, Grows, types}
use Rattle.c_check_expr.specs.Known.{AreSymbolsIn, all_known, state_of}
use Rattle.c_values.specs.Stays.{longer}

pub symbols_stay : (old new : Table) → Extends old new → (ys : List Symbol) → AreSymbolsIn (length old.forms) ys → all_known (types new) ys ≡ all_known (types old) ys
symbols_stay old new h [] i = refl
symbols_stay old new h (y ∷ ys) i = rw (h.types_stay y.of i.0, symbols_stay old new h ys i.1) refl

pub symbols_in_more : (n m : ℕ) → n ≤ m → (ys : List Symbol) → AreSymbolsIn n ys → AreSymbolsIn m ys
symbols_in_more n m l [] i = tt
symbols_in_more n m l (y ∷ ys) i = (let b = i.0 in omega arith, symbols_in_more n m l ys i.1)

pub symbols_in_later : (old new : Table) → Extends old new → (ys : List Symbol) → AreSymbolsIn (length old.forms) ys → AreSymbolsIn (length new.forms) ys
symbols_in_later old new h ys i = symbols_in_more (length old.forms) (length new.forms) (longer old new h) ys i

-- further types that are no structures, unions and enumerations change nothing of what is known
pub state_stays : (s : Scoping) (old new : Table) → Grows old new → AreSymbolsIn (length old.forms) s.symbols → state_of s new ≡ state_of s old
state_stays s old new g i = rw (symbols_stay old new g.extends s.symbols i, g.tags_same, g.count_same) refl
