-- What is known at a place of a unit: the names in force, by scope; what they were declared as; the structures
-- and unions that were defined.
-- Source: C89 3.1.2.1 to 3.1.2.3.
use Rattle.std.specs.Prelude.{ℕ, ℤ, pos, ◌+◌, Option, Some, None, List, [], ◌∷◌, ◌++◌, length, get_or, slice_set}
use Rattle.c_symbols.specs.declared.symbol.Storage.{Storage}
use Rattle.c_symbols.specs.declared.symbol.Storage.TheVariants as storage
use Rattle.c_symbols.specs.Scoping.{found, symbol_named}
use Rattle.c_types.specs.CType.{CType, Plain, Function, Open, Int, basic}
use Rattle.c_types.specs.Layout.{Tag}

-- What a name was declared as: its class, type, line and the level of its scope, 0 at file scope. The value of an
-- enumerator is its number; of a local object its place in the function; of a name with linkage the symbol that
-- stands for what all its declarations name; of an enumeration's tag any, once its list has stood.
pub record Known : Type 0 where
  pub class : Storage
  pub of : CType
  pub line : ℕ
  pub level : ℕ
  pub value : Option ℤ

-- The scopes around the innermost, the outermost first, and the innermost one, each with its names and their
-- symbols; the names with linkage; the symbols; the definitions of structures and unions, the latest first; and how
-- many structures, unions and enumerations were declared.
pub record State : Type 0 where
  pub outer : List (List (List ℕ × ℕ))
  pub inner : List (List ℕ × ℕ)
  pub links : List (List ℕ × ℕ)
  pub symbols : List Known
  pub tags : List Tag
  pub count : ℕ

-- the symbol of the innermost declaration of a name
abbrev pub place_of : State → List ℕ → Option ℕ
place_of s name = found (s.outer ++ s.inner ∷ []) name

-- the symbol of a name in the innermost scope
abbrev pub place_here : State → List ℕ → Option ℕ
place_here s name = symbol_named s.inner name

abbrev pub nothing_known : Known
nothing_known = record { class = storage.Extern; of = basic Int; line = 0; level = 0; value = None }

abbrev pub known_at : State → ℕ → Known
known_at s id = get_or s.symbols id nothing_known

abbrev pub level_of : State → ℕ
level_of s = length s.outer

-- the name declared in the innermost scope
abbrev pub declared : State → List ℕ → Known → State
declared s name k =
    record {
      outer = s.outer;
      inner = s.inner ++ (name, length s.symbols) ∷ [];
      links = s.links;
      symbols = s.symbols ++ k ∷ [];
      tags = s.tags;
      count = s.count;
    }

-- another meaning for a symbol
abbrev pub replaced : State → ℕ → Known → State
replaced s id k =
    record { outer = s.outer; inner = s.inner; links = s.links; symbols = slice_set s.symbols id k; tags = s.tags; count = s.count }

-- a scope opened, and closed
abbrev pub entered : State → State
entered s =
    record { outer = s.outer ++ s.inner ∷ []; inner = []; links = s.links; symbols = s.symbols; tags = s.tags; count = s.count }

abbrev pub left : List (List (List ℕ × ℕ)) → List (List ℕ × ℕ) → State → State
left outer inner s = record { outer = outer; inner = inner; links = s.links; symbols = s.symbols; tags = s.tags; count = s.count }

-- a further structure, union or enumeration
abbrev pub counted : State → State
counted s =
    record { outer = s.outer; inner = s.inner; links = s.links; symbols = s.symbols; tags = s.tags; count = s.count + 1 }

-- a structure or union defined
abbrev pub defined : State → Tag → State
defined s tag =
    record { outer = s.outer; inner = s.inner; links = s.links; symbols = s.symbols; tags = tag ∷ s.tags; count = s.count }

-- ---- calls of undeclared names

-- a function with open parameters and result int
abbrev pub int_function : CType
int_function = Plain 0 (Function (basic Int) Open)

-- what all declarations of a name with linkage name, which may be new
abbrev pub with_link : State → List ℕ → Option ℕ → Known → State
with_link s name (Some id) k = s
with_link s name None k =
    record {
      outer = s.outer;
      inner = s.inner;
      links = s.links ++ (name, length s.symbols) ∷ [];
      symbols = s.symbols ++ k ∷ [];
      tags = s.tags;
      count = s.count;
    }

abbrev pub link_or : Option ℕ → ℕ → ℕ
link_or (Some id) next = id
link_or None next = next

-- the symbol of all declarations of a name with linkage, or the one that it would have
abbrev pub link_or_next : State → List ℕ → ℕ
link_or_next s name = link_or (symbol_named s.links name) (length s.symbols)

abbrev pub external : ℕ → ℕ → Option ℤ → Known
external line level value = record { class = storage.Extern; of = int_function; line = line; level = level; value = value }

-- a call of an undeclared name declares it as `extern int name()` in the innermost scope (C89 3.3.2.2)
abbrev pub with_function : State → ℕ → List ℕ → State
with_function s line name =
    declared (with_link s name (symbol_named s.links name) (external line 0 None)) name (external line (level_of s) (Some (pos (link_or_next s name))))
