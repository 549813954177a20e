-- What the definitions of a table keep: they are the latest first, each of objects by those before it.
use Rattle.std.specs.Prelude.{◌≡◌, ℕ, ◌==◌, Bool, true, false, List, [], ◌∷◌, is_some, if◌then◌else◌}
use Rattle.c_types.specs.CType.{CType, Plain, Array, Kind, Structure, Union}
use Rattle.c_types.specs.Layout.{Tag, fields, known}
use Rattle.c_types.specs.Members.{is_defined}
use Rattle.c_types.specs.Table.{are_objects}

-- one that has been complete isn't completed again, and members are objects by the definitions before
abbrev pub AreComplete : List Tag → Type 0
AreComplete [] = Unit {0}
AreComplete (tag ∷ older) =
    (is_some (known older tag.number).size ≡ false) × (are_objects (fields (known older) tag.members) ≡ true) × AreComplete older

abbrev pub is_union_in : List Tag → ℕ → Bool
is_union_in [] number = false
is_union_in (tag ∷ older) number = if number == tag.number then tag.is_union else is_union_in older number

-- what is told of the definition of a structure or union is its type's
abbrev pub IsKindToldIn : List Tag → Kind → Type 0
IsKindToldIn tags (Structure n) = is_union_in tags n ≡ false
IsKindToldIn tags (Union n) = is_defined tags n ≡ true → is_union_in tags n ≡ true
IsKindToldIn tags k = Unit {0}

abbrev pub IsToldIn : List Tag → CType → Type 0
IsToldIn tags (Plain q k) = IsKindToldIn tags k
IsToldIn tags (Array of count) = Unit {0}
