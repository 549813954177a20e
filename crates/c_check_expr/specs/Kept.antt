-- What a walk keeps: the scopes around, and the table, whose places stay.
use Rattle.std.proofs.Common.{ℕ, ◌<◌, length, refl, ◌∙◌, arith}
use Rattle.c_symbols.specs.Scoping.{Scoping}
use Rattle.c_types.specs.Table.{Table, Extends, Grows}
use Rattle.c_check_expr.specs.Keeps.{Keeps}
use Rattle.c_check_expr.specs.Known.{AreSymbolsIn}
use Rattle.c_values.specs.Stays.{extends_itself, extends_on, longer}
use Rattle.c_check_expr.specs.SymbolsStay.{symbols_in_later}

pub keeps_itself : (s : Scoping) (t : Table) → AreSymbolsIn (length t.forms) s.symbols → Keeps s t s t
keeps_itself s t i = record { outer = refl; extends = extends_itself t; symbols = i }

pub keeps_on : (r s u : Scoping) (a b c : Table) → Keeps r a s b → Keeps s b u c → Keeps r a u c
keeps_on r s u a b c h k = record { outer = k.outer ∙ h.outer; extends = extends_on a b c h.extends k.extends; symbols = k.symbols }

-- whatever the table has further, what stands in the scopes stays
pub keeps_later : (s : Scoping) (old new : Table) → Extends old new → AreSymbolsIn (length old.forms) s.symbols → Keeps s old s new
keeps_later s old new h i = record { outer = refl; extends = h; symbols = symbols_in_later old new h s.symbols i }

pub keeps_grown : (s : Scoping) (a b : Table) → AreSymbolsIn (length a.forms) s.symbols → Grows a b → Keeps s a s b
keeps_grown s a b i g = keeps_later s a b g.extends i

pub below_later : (a b : Table) → Extends a b → (id : ℕ) → id < length a.forms → id < length b.forms
below_later a b h id l = let n = longer a b h in omega arith
