-- Where the locals of a function stand, and what names stand for; and which expressions are lowered there.
-- Source: Fraser and Hanson, A Retargetable C Compiler, chapters 5 and 13 (names; offsets of locals and parameters).
use Rattle.std.specs.Prelude.{◌≡◌, ◌≤◌, ◌<◌, ℕ, ◌+◌, ◌^◌, ℤ, pos, negsuc, ◌+ℤ◌, ◌||◌, Bool, true, false, Option, Some, List, length, slice_get}
use Rattle.objects.specs.declared.value.ObjectName.{ObjectName}
use Rattle.objects.specs.declared.value.Value.TheVariants.{Pointer, Function}
use Rattle.op_forest.specs.declared.frame.Slot.{Slot}
use Rattle.op_forest.specs.Frames.{IsFrame}
use Rattle.forests.specs.Accesses.{word_read}
use Rattle.forests.specs.Addresses.{Home, local, parameter}
use Rattle.forests.specs.Objects.{Object}
use Rattle.forests.specs.Units.{pointer_to}
use Rattle.forests.specs.Words.{Word, Plain}
use Rattle.forests.specs.Worlds.{World}
use Rattle.c_types.specs.CType.{CType}
use Rattle.c_meaning.specs.declared.core_expr.Change.{Change}
use Rattle.c_meaning.specs.declared.core_expr.Change.TheVariants as change
use Rattle.c_meaning.specs.declared.core_expr.CoreKind.{CoreKind}
use Rattle.c_meaning.specs.declared.core_expr.CoreKind.TheVariants as kind
use Rattle.c_meaning.specs.CoreTrees.{Core, NoCore, Cores, type_of}
use Rattle.c_meaning.specs.Each.{EachIs}
use Rattle.c_meaning.specs.Types.{is_record}
use Rattle.c_meaning.specs.Values.{CoreTree, CoreTrees}
use Rattle.c_runs.specs.Calls.{built_in_number}
use Rattle.c_runs.specs.Places.{size_of}
use Rattle.c_expr_agreement.specs.Scenes.{Scene}
use Rattle.lowered_forms.specs.Contexts.{Context, function_name, object_name, text_name, built_in_name}
use Rattle.lowered_forms.specs.Places.{is_passed_whole}
use Rattle.c_straight_agree.specs.Standing.{IsAmong}

-- the types of a function's locals, parameters first, how many of these are parameters, and where each local is
pub record FrameLayout : Type 0 where
  pub types : List CType
  pub parameters : ℕ
  pub places : List ℤ

abbrev pub context_in : Scene → FrameLayout → Context
context_in s y = record { unit = s.unit; order = s.lowered.order; parameters = y.parameters; places = y.places }

-- the word of the address at a place: of a slot below 0, of a parameter word else
abbrev pub address_of : Home → ℤ → Option Word
address_of home (pos n) = parameter home (Some (pos n))
address_of home (negsuc n) = local home (Some (negsuc n))

-- so many bytes from a place on are in one slot of the frame
pub record IsInSlot (s : Scene) (place : ℤ) (size : ℕ) : Type 0 where
  pub number : ℕ
  pub slot : Slot
  pub start : ℕ
  pub there : slice_get s.body.setting.environment.home.slots number ≡ Some slot
  pub is : place ≡ slot.offset +ℤ pos start
  pub fits : start + size ≤ slot.size

abbrev pub IsRoomAt : Scene → ℤ → ℕ → Type 0
IsRoomAt s (pos n) size = Unit {0}
IsRoomAt s (negsuc n) size = IsInSlot s (negsuc n) size

-- a parameter word, which holds nothing of C, is at this place
pub record IsWordPlace (s : Scene) (place : ℤ) : Type 0 where
  pub name : ObjectName
  pub offset : ℕ
  pub is : address_of s.body.setting.environment.home place ≡ Some (Plain (Pointer name offset))
  pub behind : s.body.setting.environment.home.place + length s.body.setting.environment.home.slots ≤ name.place
  pub among : IsAmong name.place s.frame.others

-- Each local has a place, where its address is, and all its bytes below 0 are in one slot; of a structure that was passed, the parameter word. And names stand for the unit's own functions, objects and texts.
pub record IsLaidOut (s : Scene) (y : FrameLayout) : Type 0 where
  pub frame : IsFrame s.body.setting.environment.home.slots
  pub types : s.frame.types ≡ y.types
  pub places : (n : ℕ) (of : CType) → slice_get y.types n ≡ Some of → (z : ℤ) × (slice_get y.places n ≡ Some z) × IsRoomAt s z (size_of s.unit.tags of)
  pub addresses : (n : ℕ) (of : CType) (z : ℤ) (w : Word) → slice_get y.types n ≡ Some of → is_passed_whole (context_in s y) n of ≡ false → slice_get y.places n ≡ Some z → slice_get s.frame.addresses n ≡ Some w → address_of s.body.setting.environment.home z ≡ Some w
  pub wholes : (n : ℕ) (of : CType) (z : ℤ) → slice_get y.types n ≡ Some of → is_passed_whole (context_in s y) n of ≡ true → slice_get y.places n ≡ Some z → IsWordPlace s z
  pub functions : (n : ℕ) → n < length s.unit.functions → s.body.setting.environment.global (function_name s.unit n) ≡ Some (Function n)
  pub objects : (n : ℕ) → n < length s.unit.objects → (n < s.own) × (s.body.setting.environment.global (object_name s.unit n) ≡ Some (pointer_to s.lowered n))
  pub texts : (n : ℕ) → n < length s.unit.texts → (length s.unit.objects + n < s.own) × (s.body.setting.environment.global (text_name s.unit n) ≡ Some (pointer_to s.lowered (length s.unit.objects + n)))

-- the parameter words of structures that were passed have the addresses of their bytes
abbrev pub HoldAddresses : Scene → FrameLayout → World → Type 0
HoldAddresses s y w =
    (n : ℕ) (of : CType) (z : ℤ) (a u : Word) → slice_get y.types n ≡ Some of → is_passed_whole (context_in s y) n of ≡ true → slice_get y.places n ≡ Some z → address_of s.body.setting.environment.home z ≡ Some a → slice_get s.frame.addresses n ≡ Some u
    → word_read s.body.setting.environment.order w.objects a ≡ Some u

-- an object at an address may be written
abbrev pub IsOpenAt : List Object → Word → Type 0
IsOpenAt objects (Plain (Pointer name offset)) = (home : Object) → slice_get objects name.place ≡ Some home → home.constant ≡ false
IsOpenAt objects u = Unit {0}

-- So it is with structures: those that were passed are where parameter words say, and locals, to which others are copied, may be written.
pub record HoldsWholes (s : Scene) (y : FrameLayout) (w : World) : Type 0 where
  pub words : HoldAddresses s y w
  pub opens : EachIs (IsOpenAt w.objects) s.frame.addresses

-- ---- expressions

-- a pointer that is changed moves by elements that aren't large
abbrev pub IsSmallChange : Change → Type 0
IsSmallChange (change.Arithmetic o signed) = Unit {0}
IsSmallChange (change.Pointer size back) = size < 2 ^ 32

-- What is asked of an expression, as it is of one in a checked unit: a local has its type, with qualifiers and array lengths as far as they are known, names are there, members are of structures,
-- and elements aren't larger than objects.
abbrev pub IsFairKind : Scene → FrameLayout → CoreKind → CType → CoreTrees → Type 0
IsFairKind s y (kind.Local n register) of kids = (t : CType) × (slice_get y.types n ≡ Some t) × (is_record of ≡ is_record t) × (is_record of ≡ true → size_of s.unit.tags of ≤ size_of s.unit.tags t)
IsFairKind s y (kind.Function n) of kids = n < length s.unit.functions
IsFairKind s y (kind.BuiltIn b) of kids = s.body.setting.environment.global (built_in_name s.unit b) ≡ Some (Function (built_in_number s.unit b))
IsFairKind s y (kind.Member offset first width) of (Cores a NoCore) = is_record (type_of a) ≡ true
IsFairKind s y (kind.Move size back) of kids = size < 2 ^ 32
IsFairKind s y (kind.Difference size) of kids = size < 2 ^ 31
IsFairKind s y (kind.Change by) of kids = IsSmallChange by
IsFairKind s y (kind.Postfix by) of kids = IsSmallChange by
IsFairKind s y what of kids = Unit {0}

abbrev mutual
  pub IsFair : Scene → FrameLayout → CoreTree → Type 0
  IsFair s y (Core what of line kids) = IsFairKind s y what of kids × AreFair s y kids

  pub AreFair : Scene → FrameLayout → CoreTrees → Type 0
  AreFair s y NoCore = Unit {0}
  AreFair s y (Cores c cs) = IsFair s y c × AreFair s y cs

-- ---- calls

abbrev pub is_call : CoreKind → Bool
is_call (kind.Call n) = true
is_call what = false

abbrev mutual
  pub has_call : CoreTree → Bool
  has_call (Core what of line kids) = is_call what || have_calls kids

  pub have_calls : CoreTrees → Bool
  have_calls NoCore = false
  have_calls (Cores c cs) = has_call c || have_calls cs
