-- What a declaration makes of a name: its linkage, and what is known of it from its declarator on.
-- Source: C89 3.1.2.2, 3.1.2.6, 3.5.1.
use Rattle.std.specs.Prelude.{ℕ, ℤ, pos, ◌+◌, nat_eq, Bool, true, false, Option, Some, None, List, [], is_some, if◌then◌else◌}
use Rattle.c_ast.specs.declared.specifier.Storage.{Storage as StorageClass}
use Rattle.c_ast.specs.declared.specifier.Storage.TheVariants as class
use Rattle.c_symbols.specs.declared.symbol.Storage.{Storage}
use Rattle.c_symbols.specs.declared.symbol.Storage.TheVariants as storage
use Rattle.c_symbols.specs.Scoping.{symbol_named}
use Rattle.c_types.specs.CType.{CType, basic, Int}
use Rattle.c_types.specs.Composite.{composite}
use Rattle.c_meaning.specs.State.{Known, State, place_of, place_here, known_at, level_of, declared, replaced, with_link, link_or_next}
use Rattle.c_meaning.specs.Types.{is_function}
use Rattle.c_meaning.specs.Rows.{nat_of}

pub data Linkage : Type 0 where
  -- the name has none
  Alone : Linkage
  Internal : Linkage
  External : Linkage

-- ---- linkage

-- a symbol whose value is the symbol of all declarations of its name
abbrev pub class_linkage : Storage → Linkage
class_linkage storage.Extern = External
class_linkage storage.Static = Internal
class_linkage c = Alone

abbrev pub linkage_in : Known → Linkage
linkage_in k = if is_some k.value then class_linkage k.class else Alone

abbrev pub linkage_at : State → Option ℕ → Linkage
linkage_at s None = Alone
linkage_at s (Some id) = linkage_in (known_at s id)

-- that of the declaration in force, and external where none is
abbrev pub or_external : Linkage → Linkage
or_external Alone = External
or_external l = l

abbrev pub earlier : State → List ℕ → Linkage
earlier s name = or_external (linkage_at s (place_of s name))

abbrev pub is_outside : State → Bool
is_outside s = nat_eq (level_of s) 0

abbrev pub linkage_without_class : State → List ℕ → Bool → Linkage
linkage_without_class s name function =
    if function then earlier s name
    else if is_outside s then External
    else Alone

-- the linkage that a declaration of a name gives it, by its storage class and whether it is a function's
abbrev pub linkage : State → Option StorageClass → List ℕ → Bool → Linkage
linkage s (Some class.Extern) name function = earlier s name
linkage s (Some class.Static) name function = if is_outside s then Internal else Alone
linkage s (Some c) name function = Alone
linkage s None name function = linkage_without_class s name function

abbrev pub is_linked : Linkage → Bool
is_linked Alone = false
is_linked l = true

-- ---- names that have no linkage

-- A function's locals are numbered in the order of their declarations. How many there were stands under the empty name, which
-- no identifier is, in the scope of the function's parameters.
abbrev pub count_name : List ℕ
count_name = []

abbrev pub count_at : State → Option ℕ → ℕ
count_at s None = 0
count_at s (Some id) = nat_of (known_at s id).value 0

abbrev pub local_count : State → ℕ
local_count s = count_at s (place_of s count_name)

abbrev pub count_known : ℕ → ℕ → Known
count_known level n = record { class = storage.Tag; of = basic Int; line = 0; level = level; value = Some (pos n) }

abbrev pub counted_at : State → ℕ → Option ℕ → State
counted_at s n None = declared s count_name (count_known (level_of s) n)
counted_at s n (Some id) = replaced s id (count_known (known_at s id).level n)

abbrev pub with_count : State → ℕ → State
with_count s n = counted_at s n (place_of s count_name)

abbrev pub plain : State → ℕ → Storage → CType → Option ℤ → Known
plain s line c of value = record { class = c; of = of; line = line; level = level_of s; value = value }

-- a local object, the next of its function
abbrev pub with_local : State → ℕ → List ℕ → Storage → CType → State
with_local s line name c of = with_count (declared s name (plain s line c of (Some (pos (local_count s))))) (local_count s + 1)

abbrev pub with_alone : State → ℕ → Option StorageClass → List ℕ → CType → State
with_alone s line (Some class.Typedef) name of = declared s name (plain s line storage.Typedef of None)
with_alone s line (Some class.Static) name of = declared s name (plain s line storage.Static of None)
with_alone s line (Some class.Register) name of = with_local s line name storage.Register of
with_alone s line c name of = with_local s line name storage.Auto of

-- ---- names with linkage

abbrev pub linked_class : Linkage → Storage
linked_class Internal = storage.Static
linked_class l = storage.Extern

-- The symbol that stands for what all declarations of the name declare has their composite type, and tells whether it was
-- defined: 1, or 0 for a tentative definition.
abbrev pub with_type : Known → CType → Known
with_type k of = record { class = k.class; of = of; line = k.line; level = k.level; value = k.value }

abbrev pub with_value : Known → Option ℤ → Known
with_value k value = record { class = k.class; of = k.of; line = k.line; level = k.level; value = value }

abbrev pub composed : State → ℕ → CType → State
composed s id of = replaced s id (with_type (known_at s id) (composite (known_at s id).of of))

abbrev pub linked_by : State → ℕ → Linkage → List ℕ → CType → Option ℕ → State
linked_by s line l name of None = with_link s name None (record { class = linked_class l; of = of; line = line; level = 0; value = None })
linked_by s line l name of (Some id) = composed s id of

-- in the scope the name is declared, or gets the composite of both types (C89 3.1.2.6)
abbrev pub declared_by : State → ℕ → ℕ → Linkage → List ℕ → CType → Option ℕ → State
declared_by s link line l name of None = declared s name (plain s line (linked_class l) of (Some (pos link)))
declared_by s link line l name of (Some id) = composed s id of

abbrev pub with_linked : State → ℕ → Linkage → List ℕ → CType → State
with_linked s line l name of =
    declared_by (linked_by s line l name of (symbol_named s.links name)) (link_or_next s name) line l name of (place_here s name)

abbrev pub with_name_of : State → ℕ → Option StorageClass → Linkage → List ℕ → CType → State
with_name_of s line c Alone name of = with_alone s line c name of
with_name_of s line c l name of = with_linked s line l name of

-- what is known behind the declarator of a declaration
abbrev pub with_name : State → ℕ → Option StorageClass → List ℕ → CType → State
with_name s line c name of = with_name_of s line c (linkage s c name (is_function of)) name of
