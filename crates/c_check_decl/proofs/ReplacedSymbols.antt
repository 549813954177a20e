-- What is known when a symbol that was declared gets another type or value.
use Rattle.std.proofs.Common.{◌≡◌, ℕ, ℤ, ◌<◌, length, refl, ap, ◌∙◌}
use Rattle.std.specs.Prelude.{Bool, None, Option, Some, slice_get, slice_set}
use Rattle.c_symbols.specs.declared.symbol.Symbol.{Symbol}
use Rattle.c_symbols.specs.Scoping.{Scoping}
use Rattle.c_types.specs.Composite.{composite}
use Rattle.c_types.specs.Table.{Grows, Table, type_at, types}
use Rattle.c_meaning.specs.Declarations.{definition, noted, retyped}
use Rattle.c_meaning.specs.Linkage.{composed, count_known, count_name, local_count, with_count, with_type}
use Rattle.c_meaning.specs.Rows.{nat_of}
use Rattle.c_meaning.specs.State.{Known, State, place_of, replaced}
use Rattle.c_check_expr.specs.Keeps.{Keeps}
use Rattle.c_check_expr.specs.Kept.{keeps_later, keeps_on}
use Rattle.c_check_expr.specs.Known.{AreSymbolsIn, known_of, state_of}
use Rattle.c_check_expr.proofs.lemmas.KnownSymbols.{known_there, state-replace, symbols_in-set}
use Rattle.c_check_expr.specs.SymbolsStay.{state_stays}
use Rattle.c_values.specs.Stays.{extends_itself}

abbrev pub retyped_symbol : Symbol → ℕ → Symbol
retyped_symbol y of = record { class = y.class; of = of; line = y.line; level = y.level; value = y.value }

abbrev pub revalued_symbol : Symbol → Option ℤ → Symbol
revalued_symbol y value = record { class = y.class; of = y.of; line = y.line; level = y.level; value = value }

-- another symbol in one's place
pub record Replaces (s n : Scoping) (id : ℕ) (y : Symbol) : Type 0 where
  pub outer : n.outer ≡ s.outer
  pub inner : n.inner ≡ s.inner
  pub links : n.links ≡ s.links
  pub symbols : n.symbols ≡ slice_set s.symbols id y

pub state_replaced : (s n : Scoping) (t : Table) (id : ℕ) (y : Symbol) → Replaces s n id y → state_of n t ≡ replaced (state_of s t) id (known_of (types t) y)
state_replaced s n t id y r = state-replace s n t id y r.outer r.inner r.links r.symbols

pub keeps_replaced : (s n : Scoping) (t : Table) (id : ℕ) (y : Symbol) → Replaces s n id y → AreSymbolsIn (length t.forms) s.symbols → y.of < length t.forms → Keeps s t n t
keeps_replaced s n t id y r i l = record { outer = r.outer; extends = extends_itself t; symbols = rw r.symbols (symbols_in-set (length t.forms) s.symbols id y i l) }

-- ---- types

pub retyped_there : (s n : Scoping) (t : Table) (o : Option ℕ) (id of : ℕ) (y : Symbol) → o ≡ Some id → slice_get s.symbols id ≡ Some y → Replaces s n id (retyped_symbol y of) → state_of n t ≡ retyped (state_of s t) (type_at t of) o
retyped_there s n t o id of y e h r = rw (e, known_there (types t) s.symbols id y h) (state_replaced s n t id (retyped_symbol y of) r)

pub composed_there : (s n : Scoping) (old new : Table) (id of whole : ℕ) (y : Symbol) → slice_get s.symbols id ≡ Some y → AreSymbolsIn (length old.forms) s.symbols → Grows old new → type_at new whole ≡ composite (type_at old y.of) (type_at old of) →
    Replaces s n id (retyped_symbol y whole) → state_of n new ≡ composed (state_of s old) id (type_at old of)
composed_there s n old new id of whole y h i g e r =
    let known : known_of (types new) (retyped_symbol y whole) ≡ with_type (known_of (types old) y) (composite (type_at old y.of) (type_at old of)) = rw e refl in
    state_replaced s n new id (retyped_symbol y whole) r
    ∙ ap (λ (z : State). replaced z id (known_of (types new) (retyped_symbol y whole))) (state_stays s old new g i)
    ∙ ap (λ (k : Known). replaced (state_of s old) id k) known
    ∙ rw (known_there (types old) s.symbols id y h) refl

pub keeps_composed : (s n : Scoping) (old new : Table) (id : ℕ) (y : Symbol) → AreSymbolsIn (length old.forms) s.symbols → Grows old new → Replaces s n id y → y.of < length new.forms → Keeps s old n new
keeps_composed s n old new id y i g r l =
    let k = keeps_later s old new g.extends i in
    keeps_on s s n old new new k (keeps_replaced s n new id y r k.symbols l)

-- ---- values

pub noted_there : (s n : Scoping) (t : Table) (o : Option ℕ) (id : ℕ) (initialised : Bool) (y : Symbol) (value : Option ℤ) → o ≡ Some id → slice_get s.symbols id ≡ Some y → value ≡ definition initialised y.value →
    Replaces s n id (revalued_symbol y value) → state_of n t ≡ noted (state_of s t) initialised o
noted_there s n t o id initialised y value e h d r = rw (e, known_there (types t) s.symbols id y h, ← d) (state_replaced s n t id (revalued_symbol y value) r)

-- ---- how many local objects there are

pub count_there : (s : Scoping) (t : Table) (id : ℕ) (y : Symbol) → place_of (state_of s t) count_name ≡ Some id → slice_get s.symbols id ≡ Some y → local_count (state_of s t) ≡ nat_of y.value 0
count_there s t id y e h = rw (e, known_there (types t) s.symbols id y h) refl

pub count_nowhere : (s : Scoping) (t : Table) → place_of (state_of s t) count_name ≡ None → local_count (state_of s t) ≡ 0
count_nowhere s t e = rw e refl

pub counted_there : (s n : Scoping) (t : Table) (count id : ℕ) (y new : Symbol) → place_of (state_of s t) count_name ≡ Some id → slice_get s.symbols id ≡ Some y → known_of (types t) new ≡ count_known y.level count →
    Replaces s n id new → state_of n t ≡ with_count (state_of s t) count
counted_there s n t count id y new e h k r = rw (e, known_there (types t) s.symbols id y h, ← k) (state_replaced s n t id new r)
