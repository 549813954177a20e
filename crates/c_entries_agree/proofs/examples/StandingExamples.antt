-- struct s { int a, b; } f(char c, struct s v, int n) { int i; }: where its locals stand, and what they aren't in.
use Rattle.std.specs.Prelude.{◌≡◌, ℕ, negsuc, pos, codes, true, false, None, List, [], ◌∷◌, refl}
use Rattle.op_forest.specs.declared.frame.Slot.{Slot}
use Rattle.forests.specs.Addresses.{Home}
use Rattle.forests.specs.Words.{Word, Plain}
use Rattle.objects.specs.declared.value.Value.TheVariants.{Pointer, Number}
use Rattle.c_types.specs.CType.{CType, Plain as Of, Char, Int, Structure, Function, Open, basic}
use Rattle.c_types.specs.Layout.{Tag}
use Rattle.c_meaning.specs.StmtTrees as stmt
use Rattle.c_meaning.specs.Units.{FunctionTree}
use Rattle.lowered_statements.specs.Layouts.{layout, words_of}
use Rattle.c_entries_agree.specs.Standpoints.{Standpoint, InSlot, InWord, AsPassed, standpoints, local_address, is_home, others_of}

abbrev pair : CType
pair = Of 0 (Structure 0)

abbrev tags : List Tag
tags = record { number = 0; is_union = false; members = record { name = codes "a"; of = basic Int; width = None } ∷ record { name = codes "b"; of = basic Int; width = None } ∷ [] } ∷ []

abbrev f : FunctionTree
f = record { name = codes "f"; of = Of 0 (Function pair Open); parameters = 3; locals = basic Char ∷ pair ∷ basic Int ∷ basic Int ∷ []; body = stmt.Nothing }

-- the char is in a slot, the structure where the second word points to, n in the third, behind that for the result, and i in the next slot
where_they_stand : standpoints tags f ≡ InSlot 0 ∷ AsPassed 2 ∷ InWord 3 ∷ InSlot 1 ∷ []
where_they_stand = refl

their_places : (layout tags f).places ≡ negsuc 3 ∷ pos 8 ∷ pos 12 ∷ negsuc 7 ∷ []
their_places = refl

-- in a call whose objects are the fifth and those behind it
abbrev home : Home
home = record { function = 0; place = 5; made = 9; slots = (layout tags f).slots; words = words_of f }

-- the words of the result's address, of the char and of the structure's address hold no local
no_homes : others_of home (standpoints tags f) ≡ 7 ∷ 8 ∷ 9 ∷ []
no_homes = refl

n_is_home : is_home home (standpoints tags f) 10 ≡ true
n_is_home = refl

-- the structure's address is that which was passed, and no place in the frame
the_address : (a : Word) → local_address home (Plain (Number 0) ∷ Plain (Number 1) ∷ a ∷ Plain (Number 2) ∷ []) (AsPassed 2) (pos 8) ≡ a
the_address a = refl

i_stands : local_address home [] (InSlot 1) (negsuc 7) ≡ Plain (Pointer (record { place = 6; made = 10; size = 4 }) 0)
i_stands = refl
