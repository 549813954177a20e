-- What is known of symbols when one is added, or put in another's place, and of a table when a form is added.
use Rattle.std.proofs.Common.{◌≡◌, ℕ, zero, suc, ◌+◌, ◌<◌, ◌≤◌, List, [], ◌∷◌, ◌++◌, length, refl, sym, ap, arith}
use Rattle.std.specs.Prelude.{None, Some, get_or, slice_get, slice_set}
use Rattle.c_symbols.specs.declared.symbol.Symbol.{Symbol}
use Rattle.c_symbols.specs.Scoping.{Scoping}
use Rattle.c_types.specs.declared.type_form.TypeForm.{TypeForm}
use Rattle.c_types.specs.CType.{CType}
use Rattle.c_types.specs.Table.{Table, counted, tagged, types}
use Rattle.c_meaning.specs.State.{declared, nothing_known, replaced, with_link}
use Rattle.c_check_expr.specs.Known.{AreSymbolsIn, all_known, known_of, state_of}

-- ---- what symbols were declared as

pub length-all_known : (ts : List CType) (ys : List Symbol) → length (all_known ts ys) ≡ length ys
length-all_known ts [] = refl
length-all_known ts (y ∷ ys) = ap suc (length-all_known ts ys)

pub all_known-append : (ts : List CType) (ys : List Symbol) (y : Symbol) → all_known ts (ys ++ y ∷ []) ≡ all_known ts ys ++ known_of ts y ∷ []
all_known-append ts [] y = refl
all_known-append ts (x ∷ ys) y = ap (λ ks. known_of ts x ∷ ks) (all_known-append ts ys y)

pub all_known-set : (ts : List CType) (ys : List Symbol) (id : ℕ) (y : Symbol) → all_known ts (slice_set ys id y) ≡ slice_set (all_known ts ys) id (known_of ts y)
all_known-set ts [] id y = refl
all_known-set ts (x ∷ ys) zero y = refl
all_known-set ts (x ∷ ys) (suc id) y = ap (λ ks. known_of ts x ∷ ks) (all_known-set ts ys id y)

-- the symbol at a place, and one past the others
pub known_there : (ts : List CType) (ys : List Symbol) (id : ℕ) (y : Symbol) → slice_get ys id ≡ Some y → get_or (all_known ts ys) id nothing_known ≡ known_of ts y
known_there ts [] id y e = absurd (cc)
known_there ts (x ∷ ys) zero y e = (let h : x ≡ y = cc in ap (known_of ts) h)
known_there ts (x ∷ ys) (suc id) y e = known_there ts ys id y e

pub known_nowhere : (ts : List CType) (ys : List Symbol) (id : ℕ) → length ys ≤ id → get_or (all_known ts ys) id nothing_known ≡ nothing_known
known_nowhere ts [] id h = refl
known_nowhere ts (x ∷ ys) zero h = absurd (omega arith)
known_nowhere ts (x ∷ ys) (suc id) h = known_nowhere ts ys id (omega arith)

-- ---- their types stand in a table

pub symbols_in-set : (n : ℕ) (ys : List Symbol) (id : ℕ) (y : Symbol) → AreSymbolsIn n ys → y.of < n → AreSymbolsIn n (slice_set ys id y)
symbols_in-set n [] id y i h = tt
symbols_in-set n (x ∷ ys) zero y i h = (h, i.1)
symbols_in-set n (x ∷ ys) (suc id) y i h = (i.0, symbols_in-set n ys id y i.1 h)

pub symbol_in : (n : ℕ) (ys : List Symbol) (id : ℕ) (y : Symbol) → AreSymbolsIn n ys → slice_get ys id ≡ Some y → y.of < n
symbol_in n [] id y i e = absurd (cc)
symbol_in n (x ∷ ys) zero y i e = (let h : x ≡ y = cc in let l = i.0 in rw (sym h) l)
symbol_in n (x ∷ ys) (suc id) y i e = symbol_in n ys id y i.1 e

-- ---- how many types by themselves there are

pub tagged-append : (fs : List TypeForm) (f : TypeForm) → tagged (fs ++ f ∷ []) ≡ tagged fs + counted f
tagged-append [] f = omega arith
tagged-append (g ∷ fs) f = (let h = tagged-append fs f in omega arith)

-- ---- states

-- the name is declared in the innermost scope
pub state-declare : (s n : Scoping) (t : Table) (name : List ℕ) (id : ℕ) (y : Symbol) → n.outer ≡ s.outer → n.inner ≡ s.inner ++ (name, id) ∷ [] → id ≡ length s.symbols → n.links ≡ s.links →
    n.symbols ≡ s.symbols ++ y ∷ [] → state_of n t ≡ declared (state_of s t) name (known_of (types t) y)
state-declare s n t name id y o i e l h =
    rw (o, i, l, h, all_known-append (types t) s.symbols y, e, length-all_known (types t) s.symbols) refl

-- another symbol is put in one's place
pub state-replace : (s n : Scoping) (t : Table) (id : ℕ) (y : Symbol) → n.outer ≡ s.outer → n.inner ≡ s.inner → n.links ≡ s.links → n.symbols ≡ slice_set s.symbols id y →
    state_of n t ≡ replaced (state_of s t) id (known_of (types t) y)
state-replace s n t id y o i l h = rw (o, i, l, h, all_known-set (types t) s.symbols id y) refl

-- a further symbol, of a name with linkage
pub state-link : (s n : Scoping) (t : Table) (name : List ℕ) (id : ℕ) (y : Symbol) → n.outer ≡ s.outer → n.inner ≡ s.inner → n.links ≡ s.links ++ (name, id) ∷ [] → id ≡ length s.symbols →
    n.symbols ≡ s.symbols ++ y ∷ [] → state_of n t ≡ with_link (state_of s t) name None (known_of (types t) y)
state-link s n t name id y o i l e h = rw (o, i, l, h, e, all_known-append (types t) s.symbols y, length-all_known (types t) s.symbols) refl
