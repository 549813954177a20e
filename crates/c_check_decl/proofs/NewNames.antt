-- What is known behind the first declaration of a name with linkage.
use Rattle.std.proofs.Common.{◌≡◌, ℕ, List, [], ◌∷◌, ◌++◌, length}
use Rattle.std.specs.Prelude.{None}
use Rattle.c_symbols.specs.declared.symbol.Storage.{Storage}
use Rattle.c_symbols.specs.declared.symbol.Symbol.{Symbol}
use Rattle.c_symbols.specs.Scoping.{Scoping, symbol_named}
use Rattle.c_types.specs.Table.{Table, type_at, types}
use Rattle.c_meaning.specs.Linkage.{Linkage, linked_by, linked_class}
use Rattle.c_meaning.specs.State.{link_or_next}
use Rattle.c_check_expr.specs.Known.{state_of}
use Rattle.c_check_expr.proofs.lemmas.KnownSymbols.{length-all_known, state-link}

-- the symbol of all declarations of a name
abbrev pub linked_symbol : Storage → ℕ → ℕ → Symbol
linked_symbol class of line = record { class = class; of = of; line = line; level = 0; value = None }

pub next_link : (s : Scoping) (t : Table) (x : List ℕ) (id : ℕ) → symbol_named s.links x ≡ None → id ≡ length s.symbols → id ≡ link_or_next (state_of s t) x
next_link s t x id n e = rw (n, length-all_known (types t) s.symbols) e

pub linked_new : (s n : Scoping) (t : Table) (line : ℕ) (l : Linkage) (x : List ℕ) (id of : ℕ) (class : Storage) → symbol_named s.links x ≡ None → class ≡ linked_class l → n.outer ≡ s.outer → n.inner ≡ s.inner → n.links ≡ s.links ++ (x, id) ∷ [] →
    id ≡ length s.symbols → n.symbols ≡ s.symbols ++ linked_symbol class of line ∷ [] → state_of n t ≡ linked_by (state_of s t) line l x (type_at t of) (symbol_named s.links x)
linked_new s n t line l x id of class absent c o i links e symbols = rw (absent, ← c) (state-link s n t x id (linked_symbol class of line) o i links e symbols)
