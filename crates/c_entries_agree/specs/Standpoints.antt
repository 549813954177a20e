-- Where the locals of a call stand: in a slot of the frame or in a parameter word, by its number; or, of a structure that was passed, where the
-- caller's copy stands, whose address is in the parameter word of this number.
-- Source: Fraser and Hanson, A Retargetable C Compiler, chapters 5, 11 and 13 (parameters, offsets of locals).
use Rattle.std.specs.Prelude.{ℕ, zero, suc, ◌+◌, ◌==◌, ◌||◌, not, ℤ, Bool, true, false, List, [], ◌∷◌, ◌++◌, length, drop, filter, slice_get}
use Rattle.forests.specs.Addresses.{Home}
use Rattle.forests.specs.Functions.{value_or}
use Rattle.forests.specs.Words.{Word}
use Rattle.c_types.specs.CType.{CType}
use Rattle.c_types.specs.Layout.{Tag}
use Rattle.c_meaning.specs.Types.{is_record}
use Rattle.c_meaning.specs.Units.{FunctionTree}
use Rattle.c_runs.specs.Calls.{own_parameters}
use Rattle.c_expr_agreement.specs.Scenes.{Frame}
use Rattle.lowered_statements.specs.Layouts.{is_narrow, first_word, layout}
use Rattle.c_straight_agree.specs.Layouts.{address_of}

pub data Standpoint : Type 0 where
  InSlot : (number : ℕ) → Standpoint
  InWord : (number : ℕ) → Standpoint
  AsPassed : (number : ℕ) → Standpoint

-- ---- those of a function's locals

-- a parameter, by whether it is a structure, and whether it is narrower than a word
abbrev pub parameter_stands : Bool → Bool → ℕ → ℕ → Standpoint
parameter_stands true narrow slot word = AsPassed word
parameter_stands false true slot word = InSlot slot
parameter_stands false false slot word = InWord word

abbrev pub slot_behind : Bool → ℕ → ℕ
slot_behind true slot = suc slot
slot_behind false slot = slot

abbrev pub slot_behind_all : List Tag → ℕ → List CType → ℕ
slot_behind_all tags slot [] = slot
slot_behind_all tags slot (t ∷ ts) = slot_behind_all tags (slot_behind (is_narrow tags t) slot) ts

-- from this slot and this word on
abbrev pub parameters_stand : List Tag → ℕ → ℕ → List CType → List Standpoint
parameters_stand tags slot word [] = []
parameters_stand tags slot word (t ∷ ts) = parameter_stands (is_record t) (is_narrow tags t) slot word ∷ parameters_stand tags (slot_behind (is_narrow tags t) slot) (suc word) ts

-- other locals
abbrev pub others_stand : ℕ → List CType → List Standpoint
others_stand slot [] = []
others_stand slot (t ∷ ts) = InSlot slot ∷ others_stand (suc slot) ts

abbrev pub standpoints : List Tag → FunctionTree → List Standpoint
standpoints tags f = parameters_stand tags 0 (first_word f) (own_parameters f) ++ others_stand (slot_behind_all tags 0 (own_parameters f)) (drop f.parameters f.locals)

-- ---- in a call

-- the word of a local's address, where this is its place, and these argument words were passed
abbrev pub local_address : Home → List Word → Standpoint → ℤ → Word
local_address home words (InSlot n) z = value_or (address_of home z)
local_address home words (InWord n) z = value_or (address_of home z)
local_address home words (AsPassed n) z = value_or (slice_get words n)

abbrev pub local_addresses : Home → List Word → List Standpoint → List ℤ → List Word
local_addresses home words (h ∷ hs) (z ∷ zs) = local_address home words h z ∷ local_addresses home words hs zs
local_addresses home words hs zs = []

-- the object at a place is the home of a local
abbrev pub is_home_of : Home → Standpoint → ℕ → Bool
is_home_of home (InSlot n) place = place == home.place + n
is_home_of home (InWord n) place = place == home.place + length home.slots + n
is_home_of home (AsPassed n) place = false

abbrev pub is_home : Home → List Standpoint → ℕ → Bool
is_home home [] place = false
is_home home (h ∷ hs) place = is_home_of home h place || is_home home hs place

-- so many places from one on
abbrev pub places_from : ℕ → ℕ → List ℕ
places_from place zero = []
places_from place (suc n) = place ∷ places_from (suc place) n

-- the call's objects that are no homes
abbrev pub others_of : Home → List Standpoint → List ℕ
others_of home hs = filter (λ place. not (is_home home hs place)) (places_from home.place (length home.slots + home.words))

abbrev pub frame_of : List Tag → FunctionTree → Home → List Word → Frame
frame_of tags f home words = record { types = f.locals; addresses = local_addresses home words (standpoints tags f) (layout tags f).places; others = others_of home (standpoints tags f) }
