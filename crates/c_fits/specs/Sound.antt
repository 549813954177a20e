-- What typing keeps of what is known at a place, and how what is known behind a part follows what was known before it.
-- Source: C89 3.1.2.1, 3.1.2.3, 3.5.2.1 to 3.5.2.3.
use Rattle.std.specs.Prelude.{◌≡◌, ◌⊎◌, ℕ, ◌==◌, ◌≤◌, ◌<◌, Bool, true, false, Option, Some, None, List, [], ◌∷◌, length, get_or}
use Rattle.c_symbols.specs.declared.symbol.Storage.{Storage}
use Rattle.c_symbols.specs.declared.symbol.Storage.TheVariants as storage
use Rattle.c_symbols.specs.Scoping.{AreAllBelow, AreBelow, symbol_named}
use Rattle.c_types.specs.BitFields.{have_fields}
use Rattle.c_types.specs.CType.{Int, CType, Plain, Array, Kind, Structure, Union, basic}
use Rattle.c_types.specs.Layout.{MemberType, Tag}
use Rattle.c_types.specs.Members.{is_defined}
use Rattle.c_meaning.specs.State.{Known, State, nothing_known, known_at, place_here}
use Rattle.c_meaning.specs.Types.{has_size}
use Rattle.c_fits.specs.Growing.{Grows}

-- ---- numbers of structures and unions

abbrev pub is_kind_of : ℕ → Kind → Bool
is_kind_of n (Structure m) = n == m
is_kind_of n (Union m) = n == m
is_kind_of n k = false

-- the type is the structure or union of this number, qualified or not
abbrev pub is_of : ℕ → CType → Bool
is_of n (Plain q k) = is_kind_of n k
is_of n (Array of m) = false

-- which structure or union a type is, qualified or not; none of any other
abbrev pub record_in : Kind → Option Kind
record_in (Structure n) = Some (Structure n)
record_in (Union n) = Some (Union n)
record_in k = None

abbrev pub which : CType → Option Kind
which (Plain q k) = record_in k
which (Array of n) = None

-- no definition has the number, and no symbol has that structure or union as its type
pub record Unnamed (tags : List Tag) (symbols : List Known) (n : ℕ) : Type 0 where
  pub undefined : is_defined tags n ≡ false
  pub unmentioned : (id : ℕ) → is_of n (get_or symbols id nothing_known).of ≡ false

-- ---- the invariant

-- each has one definition
abbrev pub AreOnce : List Tag → Type 0
AreOnce [] = Unit {0}
AreOnce (tag ∷ older) = (is_defined older tag.number ≡ false) × AreOnce older

-- the types of its members had sizes where it was defined
abbrev pub AreSized : List Tag → List MemberType → Type 0
AreSized tags [] = Unit {0}
AreSized tags (m ∷ ms) = (has_size tags m.of ≡ true) × AreSized tags ms

abbrev pub HaveSizes : List Tag → Type 0
HaveSizes [] = Unit {0}
HaveSizes (tag ∷ older) = AreSized older tag.members × HaveSizes older

-- the elements of an array have a size
abbrev pub has_elements : List Tag → CType → Bool
has_elements tags (Array of n) = has_size tags of
has_elements tags (Plain q k) = true

abbrev pub is_enumerator : Storage → Bool
is_enumerator storage.Enumerator = true
is_enumerator class = false

-- an enumerator is an int
abbrev pub IsIntOf : Storage → CType → Type 0
IsIntOf storage.Enumerator of = of ≡ basic Int
IsIntOf class of = Unit {0}

abbrev pub IsNumbered : Known → Type 0
IsNumbered k = IsIntOf k.class k.of

pub record IsSound (s : State) : Type 0 where
  -- the bit-fields of structures and unions are such as there may be, so that they lie in their units
  pub fields : have_fields s.tags ≡ true
  -- and each of these is defined once
  pub once : AreOnce s.tags
  -- its members have sizes
  pub sizes : HaveSizes s.tags
  -- an array is one of elements that have a size
  pub arrays : (id : ℕ) → has_elements s.tags (known_at s id).of ≡ true
  -- enumerators are ints
  pub enumerators : (id : ℕ) → IsNumbered (known_at s id)
  -- the names of the innermost scope have symbols, and so have those of the others and those with linkage
  pub names : AreBelow (length s.symbols) s.inner
  pub scopes : AreAllBelow (length s.symbols) s.outer
  pub links : AreBelow (length s.symbols) s.links
  -- none with linkage is an enumerator
  pub linked : (name : List ℕ) (id : ℕ) → symbol_named s.links name ≡ Some id → is_enumerator (known_at s id).class ≡ false
  -- the numbers that are yet to be given are no structure's or union's, so that none is defined twice
  pub fresh : (n : ℕ) → s.count ≤ n → Unnamed s.tags s.symbols n

-- ---- what is known behind a part

-- A number that no name reaches, and that isn't given in between: so it is still, and no type has it.
abbrev pub IsApart : State → State → ℕ → Type 0
IsApart s u n = Unnamed s.tags s.symbols n × ((n < s.count) ⊎ (u.count ≤ n))

-- A symbol stays the structure or union that it is, or none: a type may be completed, and an enumeration's tag may mean another
-- enumeration.
abbrev pub StaysKnown : Known → Known → Type 0
StaysKnown old new = which new.of ≡ which old.of

-- a symbol becomes no enumerator
abbrev pub StaysOther : Known → Known → Type 0
StaysOther old new = is_enumerator old.class ≡ false → is_enumerator new.class ≡ false

-- a local object's class, or a parameter's
abbrev pub is_local : Storage → Bool
is_local storage.Auto = true
is_local storage.Register = true
is_local class = false

-- a symbol that is a local object's is what it was before: none becomes one, and none gets another type
abbrev pub StaysLocal : Known → Known → Type 0
StaysLocal old new = is_local new.class ≡ true → new ≡ old

-- what is known behind a part extends what was known before it, where parameters may be declared in between
pub record Extends (s u : State) : Type 0 where
  pub sound : IsSound u
  -- numbers are given on, and symbols added
  pub count : s.count ≤ u.count
  pub symbols : length s.symbols ≤ length u.symbols
  -- symbols stay what they are
  pub known : (id : ℕ) → id < length s.symbols → StaysKnown (known_at s id) (known_at u id)
  pub classes : (id : ℕ) → id < length s.symbols → StaysOther (known_at s id) (known_at u id)
  pub locals : (id : ℕ) → id < length s.symbols → StaysLocal (known_at s id) (known_at u id)
  -- what was defined stays so
  pub tags : Grows s.tags u.tags
  -- what no name reaches is not reached in between
  pub apart : (n : ℕ) → IsApart s u n → Unnamed u.tags u.symbols n

-- what is known behind a part follows what was known before it, in the same scope
pub record Follows (s u : State) : Type 0 where
  pub extends : Extends s u
  pub open extends use *
  -- names of the innermost scope keep their symbols
  pub here : (name : List ℕ) (id : ℕ) → place_here s name ≡ Some id → place_here u name ≡ Some id
  -- and none comes that is a local object's
  pub before : (name : List ℕ) (id : ℕ) → place_here u name ≡ Some id → is_local (known_at u id).class ≡ true → place_here s name ≡ Some id

-- a type is no structure or union without a name
abbrev pub IsNamed : State → CType → Type 0
IsNamed s t = (n : ℕ) → Unnamed s.tags s.symbols n → is_of n t ≡ false

-- nor one of a number that is yet to be given, and an array is one of elements that have a size
abbrev pub IsOld : State → CType → Type 0
IsOld s t = ((n : ℕ) → s.count ≤ n → is_of n t ≡ false) × (has_elements s.tags t ≡ true)

-- what is known behind a declaration or a statement, where names may be declared: what was defined stays so
pub record Leads (s u : State) : Type 0 where
  pub sound : IsSound u
  pub count : s.count ≤ u.count
  pub symbols : length s.symbols ≤ length u.symbols
  pub tags : Grows s.tags u.tags
