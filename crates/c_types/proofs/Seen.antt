-- Members by their places in a table, and by the types and tags that are seen of it.
use Rattle.std.proofs.Common.{◌≡◌, ℕ, Bool, true, false, List, [], ◌∷◌, map, refl, true≢false}
use Rattle.std.specs.Prelude.{Some, None, Option, if◌then◌else◌}
use Rattle.std.specs.Option.{option_map}
use Rattle.std.specs.Str.{bytes_eq}
use Rattle.c_types.specs.declared.room.Spot.{Spot}
use Rattle.c_types.specs.declared.type_form.Member.{Member}
use Rattle.c_types.specs.declared.type_form.TypeForm.{TypeForm}
use Rattle.c_types.specs.declared.type_form.TypeForm.TheVariants as form
use Rattle.c_types.specs.CType.{CType, qualify}
use Rattle.c_types.specs.Layout.{Tag}
use Rattle.c_types.specs.Members.{MemberAt, is_named, member_in, member_of, member_places, named, named_places, places_in}
use Rattle.c_types.specs.Members as members
use Rattle.c_types.specs.Table.{ArePlacesBelow, AreMembersBelow, all_placed, formed, is_open_form, is_qualified, member_seen, member_types, placed, width_or_zero}
use Rattle.c_types.proofs.Known.{IsApart}

width_seen : (w : Option ℕ) → width_or_zero w ≡ members.width_or_zero w
width_seen None = refl
width_seen (Some n) = refl

-- the first member of a name
pub placed_seen : (ts : List CType) (ms : List Member) (ss : List Spot) (name : List ℕ) → option_map (member_seen ts) (placed ms ss name) ≡ named (member_types ts ms) ss name
placed_seen ts [] ss name = refl
placed_seen ts (m ∷ ms) [] name = refl
placed_seen ts (m ∷ ms) (s ∷ ss) name = by (bytes_eq name m.name) refl (placed_seen ts ms ss name)
  where
    by : (b : Bool) → bytes_eq name m.name ≡ b → option_map (member_seen ts) (placed ms ss name) ≡ named (member_types ts ms) ss name → option_map (member_seen ts) (placed (m ∷ ms) (s ∷ ss) name) ≡ named (member_types ts (m ∷ ms)) (s ∷ ss) name
    by true p rest = rw (p, width_seen m.width) refl
    by false p rest = rw p rest

-- the members with names
pub all_seen : (ts : List CType) (ms : List Member) (ss : List Spot) → map (member_seen ts) (all_placed ms ss) ≡ named_places (member_types ts ms) ss
all_seen ts [] ss = refl
all_seen ts (m ∷ ms) [] = refl
all_seen ts (m ∷ ms) (s ∷ ss) = by (is_named m.name) refl (all_seen ts ms ss)
  where
    by : (b : Bool) → is_named m.name ≡ b → map (member_seen ts) (all_placed ms ss) ≡ named_places (member_types ts ms) ss → map (member_seen ts) (all_placed (m ∷ ms) (s ∷ ss)) ≡ named_places (member_types ts (m ∷ ms)) (s ∷ ss)
    by true p rest = rw (p, width_seen m.width, rest) refl
    by false p rest = rw p rest

-- the types of these are the members' own
pub placed_below : (n : ℕ) (ms : List Member) (ss : List Spot) → AreMembersBelow n ms → ArePlacesBelow n (all_placed ms ss)
placed_below n [] ss h = tt
placed_below n (m ∷ ms) [] h = tt
placed_below n (m ∷ ms) (s ∷ ss) h = by (is_named m.name) refl (placed_below n ms ss h.1)
  where
    by : (b : Bool) → is_named m.name ≡ b → ArePlacesBelow n (all_placed ms ss) → ArePlacesBelow n (all_placed (m ∷ ms) (s ∷ ss))
    by true p rest = rw p (h.0, rest)
    by false p rest = rw p rest

-- no definition has the number
pub member_apart : (tags : List Tag) (n : ℕ) (name : List ℕ) → IsApart n tags → member_in tags n name ≡ None
member_apart [] n name h = refl
member_apart (tag ∷ tags) n name h = rw (h.0) (member_apart tags n name h.1)

-- only structures and unions have members
pub member_formed : (tags : List Tag) (ts : List CType) (n q : ℕ) (name : List ℕ) (f : TypeForm) → is_qualified f ≡ false → member_of tags (qualify q (formed ts n f)) name ≡ (if is_open_form f then member_in tags n name else None)
member_formed tags ts n q name form.Void h = refl
member_formed tags ts n q name form.Char h = refl
member_formed tags ts n q name form.SignedChar h = refl
member_formed tags ts n q name form.UnsignedChar h = refl
member_formed tags ts n q name form.Short h = refl
member_formed tags ts n q name form.UnsignedShort h = refl
member_formed tags ts n q name form.Int h = refl
member_formed tags ts n q name form.Unsigned h = refl
member_formed tags ts n q name form.Long h = refl
member_formed tags ts n q name form.UnsignedLong h = refl
member_formed tags ts n q name (form.Pointer to) h = refl
member_formed tags ts n q name (form.Array of m) h = refl
member_formed tags ts n q name (form.Function r ps m) h = refl
member_formed tags ts n q name form.Structure h = refl
member_formed tags ts n q name form.Union h = refl
member_formed tags ts n q name (form.Enumeration ms) h = refl
member_formed tags ts n q name (form.Qualified of p) h = absurd (true≢false h)

-- nor has it places
pub places_apart : (tags : List Tag) (n : ℕ) → IsApart n tags → places_in tags n ≡ []
places_apart [] n h = refl
places_apart (tag ∷ tags) n h = rw (h.0) (places_apart tags n h.1)

-- nor any of these
pub places_formed : (tags : List Tag) (ts : List CType) (n q : ℕ) (f : TypeForm) → is_qualified f ≡ false → member_places tags (qualify q (formed ts n f)) ≡ (if is_open_form f then places_in tags n else [])
places_formed tags ts n q form.Void h = refl
places_formed tags ts n q form.Char h = refl
places_formed tags ts n q form.SignedChar h = refl
places_formed tags ts n q form.UnsignedChar h = refl
places_formed tags ts n q form.Short h = refl
places_formed tags ts n q form.UnsignedShort h = refl
places_formed tags ts n q form.Int h = refl
places_formed tags ts n q form.Unsigned h = refl
places_formed tags ts n q form.Long h = refl
places_formed tags ts n q form.UnsignedLong h = refl
places_formed tags ts n q (form.Pointer to) h = refl
places_formed tags ts n q (form.Array of m) h = refl
places_formed tags ts n q (form.Function r ps m) h = refl
places_formed tags ts n q form.Structure h = refl
places_formed tags ts n q form.Union h = refl
places_formed tags ts n q (form.Enumeration ms) h = refl
places_formed tags ts n q (form.Qualified of p) h = absurd (true≢false h)
