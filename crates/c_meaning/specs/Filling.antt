-- Which place of an object gets which expression of its initialiser. The parts of an aggregate wait in their order; a list in
-- braces takes the next of them, and an expression the first place in them that it can fill: where it fills no whole
-- aggregate, that aggregate's parts stand in its stead.
-- Source: C89 3.5.7.
use Rattle.std.specs.Prelude.{ℕ, zero, suc, ◌+◌, ◌*◌, ◌==◌, ◌&&◌, ◌||◌, not, Bool, true, false, Option, Some, None, List, [], ◌∷◌, ◌++◌, length, map, is_none, if◌then◌else◌}
use Rattle.c_ast.specs.Trees.{ExprTree, Text, Enclosed, ByExpr, InitialiserTrees, Initialisers}
use Rattle.c_meaning.specs.declared.core_expr.CoreKind.{CoreKind}
use Rattle.c_meaning.specs.declared.core_expr.CoreKind.TheVariants as kind
use Rattle.c_types.specs.CType.{Char, SignedChar, UnsignedChar, CType, Plain, Array, Kind, Simple, Structure, Union}
use Rattle.c_types.specs.Layout.{Tag, size_or_zero, extent}
use Rattle.c_types.specs.Members.{MemberAt, tag_places}
use Rattle.c_meaning.specs.CoreTrees.{what_of, type_of}
use Rattle.c_meaning.specs.StmtTrees.{FilledOf}
use Rattle.c_meaning.specs.Types.{is_scalar, is_record, alike}
use Rattle.c_meaning.specs.Values.{CoreTree, value, passed_to}

-- What waits for its initialiser: a place, or elements of an array that begins at an offset, from this one on, so many or,
-- where the array's size is unknown, as many as come. Where nothing can be initialised all comes to nowhere.
pub data Waiting : Type 0 where
  Nowhere : Waiting
  Whole : (at : MemberAt) → Waiting
  Elements : (of : CType) (begin index : ℕ) (count : Option ℕ) → Waiting

-- a place that is no bit-field
abbrev pub place_of : CType → ℕ → MemberAt
place_of of offset = record { of = of; offset = offset; first = 0; width = 0 }

abbrev pub element : List Tag → CType → ℕ → ℕ → MemberAt
element tags of begin index = place_of of (begin + index * size_or_zero (extent tags of).size)

-- ---- the parts of a type

-- members without names have no initialiser; of a union only the first one with a name has
abbrev pub moved_to : ℕ → MemberAt → MemberAt
moved_to offset m = record { of = m.of; offset = offset + m.offset; first = m.first; width = m.width }

abbrev pub first_only : {T : Type 0} → Bool → List T → List T
first_only true (x ∷ xs) = x ∷ []
first_only only xs = xs

-- the members of a definition that are initialised, in an object at the offset
abbrev pub members_of : List Tag → Tag → ℕ → List MemberAt
members_of older tag offset = first_only tag.is_union (map (moved_to offset) (tag_places older tag))

-- those of the structure or union of this number
abbrev pub members_in : List Tag → ℕ → ℕ → List MemberAt
members_in [] offset number = []
members_in (tag ∷ older) offset number = if number == tag.number then members_of older tag offset else members_in older offset number

abbrev pub kind_parts : List Tag → Kind → ℕ → List Waiting
kind_parts tags (Structure n) offset = map Whole (members_in tags offset n)
kind_parts tags (Union n) offset = map Whole (members_in tags offset n)
kind_parts tags k offset = []

-- what an object of the type at this offset consists of
abbrev pub parts : List Tag → CType → ℕ → List Waiting
parts tags (Array of count) offset = Elements of offset 0 count ∷ []
parts tags (Plain q k) offset = kind_parts tags k offset

-- ---- what an expression fills

-- char, signed or unsigned
abbrev pub is_char : CType → Bool
is_char (Plain q (Simple Char)) = true
is_char (Plain q (Simple SignedChar)) = true
is_char (Plain q (Simple UnsignedChar)) = true
is_char t = false

abbrev pub is_of_chars : CType → Bool
is_of_chars (Array of count) = is_char of
is_of_chars (Plain q k) = false

abbrev pub is_literal_kind : CoreKind → Bool
is_literal_kind (kind.Literal bytes) = true
is_literal_kind k = false

-- a string literal over an array of characters
abbrev pub is_text_over : CType → CoreTree → Bool
is_text_over of c = is_of_chars of && is_literal_kind (what_of c)

-- an object of the type as a whole: a scalar, a structure by one of its type, an array of characters by a string
abbrev pub fills : CType → CoreTree → Bool
fills of c = is_scalar of || ((is_record of && alike of (type_of c)) || is_text_over of c)

-- a place, and what waits behind it
pub record Found : Type 0 where
  pub at : MemberAt
  pub left : List Waiting

abbrev pub found : MemberAt → List Waiting → Found
found at left = record { at = at; left = left }

abbrev pub with_left : List Waiting → Option Found → Option Found
with_left more None = None
with_left more (Some f) = Some (found f.at (f.left ++ more))

abbrev pub or_else : Option Found → Option Found → Option Found
or_else (Some f) other = Some f
or_else None other = other

-- the elements behind the one at the index
abbrev pub elements_behind : CType → ℕ → ℕ → Option ℕ → List Waiting
elements_behind of begin index None = Elements of begin (suc index) None ∷ []
elements_behind of begin index (Some zero) = []
elements_behind of begin index (Some (suc count)) = Elements of begin (suc index) (Some count) ∷ []

abbrev pub is_none_left : Option ℕ → Bool
is_none_left (Some zero) = true
is_none_left count = false

-- the first of these members in which there is a place, with the others behind it
abbrev pub first_member : (MemberAt → Option Found) → List MemberAt → Option Found
first_member entered [] = None
first_member entered (m ∷ ms) = or_else (with_left (map Whole ms) (entered m)) (first_member entered ms)

-- the first place in an object for an expression: the object itself, or the first in its parts
abbrev pub entered_kind : (ℕ → ℕ → Option Found) → Kind → ℕ → Option Found
entered_kind known (Structure n) offset = known n offset
entered_kind known (Union n) offset = known n offset
entered_kind known k offset = None

abbrev pub enter_by : List Tag → (ℕ → ℕ → Option Found) → CoreTree → CType → MemberAt → Option Found
enter_by tags known c (Plain q k) at = if fills (Plain q k) c then Some (found at []) else entered_kind known k at.offset
enter_by tags known c (Array of count) at =
    if fills (Array of count) c then Some (found at [])
    else if is_none_left count then None
    else with_left (elements_behind of at.offset 0 count) (enter_by tags known c of (element tags of at.offset 0))

-- in the structure or union of this number, by those that were complete before it
abbrev pub entered_known : List Tag → CoreTree → ℕ → ℕ → Option Found
entered_known [] c number offset = None
entered_known (tag ∷ older) c number offset =
    if number == tag.number
    then first_member (λ m. enter_by older (entered_known older c) c m.of m) (members_of older tag offset)
    else entered_known older c number offset

abbrev pub enter : List Tag → CoreTree → MemberAt → Option Found
enter tags c at = enter_by tags (entered_known tags c) c at.of at

abbrev pub enter_elements : List Tag → CoreTree → CType → ℕ → ℕ → Option ℕ → Option Found
enter_elements tags c of begin index count =
    if is_none_left count then None else with_left (elements_behind of begin index count) (enter tags c (element tags of begin index))

-- the place that an expression fills among those that wait; what has no place for it is passed over
abbrev pub taken : List Tag → CoreTree → List Waiting → Option Found
taken tags c [] = None
taken tags c (Nowhere ∷ ws) = None
taken tags c (Whole at ∷ ws) = or_else (with_left ws (enter tags c at)) (taken tags c ws)
taken tags c (Elements of begin index count ∷ ws) = or_else (with_left ws (enter_elements tags c of begin index count)) (taken tags c ws)

-- the object that a list in braces fills: the next one
abbrev pub next : List Tag → List Waiting → Option Found
next tags [] = None
next tags (Nowhere ∷ ws) = None
next tags (Whole at ∷ ws) = Some (found at ws)
next tags (Elements of begin index count ∷ ws) =
    if is_none_left count then next tags ws else Some (found (element tags of begin index) (elements_behind of begin index count ++ ws))

-- ---- lists in braces

abbrev pub is_literal : ExprTree → Bool
is_literal (Text line texts) = true
is_literal (Enclosed line e) = is_literal e
is_literal e = false

-- the first of a list is a string literal
abbrev pub begins_with_text : InitialiserTrees → Bool
begins_with_text (Initialisers (ByExpr line e) others) = is_literal e
begins_with_text is = false

-- What waits when a list begins: the object itself, where it is a scalar, or an array of characters whose list begins with
-- a string; else its parts.
abbrev pub begun : List Tag → InitialiserTrees → MemberAt → List Waiting
begun tags is at =
    if is_scalar at.of || (is_of_chars at.of && begins_with_text is) then Whole at ∷ [] else parts tags at.of at.offset

abbrev pub begun_in : List Tag → InitialiserTrees → Option Found → List Waiting
begun_in tags is None = Nowhere ∷ []
begun_in tags is (Some f) = begun tags is f.at

abbrev pub left_behind : Option Found → List Waiting → List Waiting
left_behind None ws = ws
left_behind (Some f) ws = f.left

abbrev pub is_nowhere : List Waiting → Bool
is_nowhere (Nowhere ∷ ws) = true
is_nowhere ws = false

-- an item finds no place
abbrev pub is_excess : Option Found → List Waiting → Bool
is_excess f ws = is_none f && not (is_nowhere ws)

-- ---- what is stored

abbrev pub text_of : CoreKind → List ℕ
text_of (kind.Literal bytes) = bytes
text_of k = []

abbrev pub stored : MemberAt → CoreTree → FilledOf CType
stored at v = record { of = at.of; offset = at.offset; first = at.first; width = at.width; value = v }

abbrev pub count_of : CType → Option ℕ
count_of (Array of count) = count
count_of (Plain q k) = Some 0

-- an array of unknown size gets as many elements
abbrev pub sized : CType → ℕ → CType
sized (Array of None) n = Array of (Some n)
sized t n = t

-- the bytes of an array of so many characters that a string fills: the string's, of which the null has a place only where there
-- is room for it, and then zeros
abbrev pub characters : ℕ → List ℕ → List ℕ
characters zero bytes = []
characters (suc n) [] = 0 ∷ characters n []
characters (suc n) (b ∷ bytes) = b ∷ characters n bytes

-- A string fills an array of characters as a whole: the value is the literal. Where the array's size is unknown it has room for
-- the string's bytes and its null.
abbrev pub stored_text : MemberAt → CoreTree → FilledOf CType
stored_text at c =
    record {
      of = sized at.of (length (text_of (what_of c)) + 1);
      offset = at.offset;
      first = 0;
      width = 0;
      value = c;
    }

-- what an expression stores in the place that it fills
abbrev pub filled_by : MemberAt → CoreTree → FilledOf CType
filled_by at c = if is_text_over at.of c then stored_text at c else stored at (passed_to at.of (value c))

abbrev pub filled_in : Option Found → CoreTree → List (FilledOf CType)
filled_in None c = []
filled_in (Some f) c = filled_by f.at c ∷ []

-- ---- arrays of unknown size

-- how many elements were begun of the array that waits last
abbrev pub elements_begun : List Waiting → ℕ
elements_begun [] = 0
elements_begun (Elements of begin index None ∷ ws) = index
elements_begun (w ∷ ws) = elements_begun ws
