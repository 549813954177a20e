-- Objects of forests that hold nothing of C: temporaries, argument words that were taken out, tables of labels. What C does leaves them.
use Rattle.std.specs.Prelude.{◌≡◌, ◌<◌, ℕ, Some, List, length, slice_get}
use Rattle.objects.specs.Objects as c
use Rattle.forests.specs.Objects.{Object}
use Rattle.c_match.specs.Ranges.{Range, Map}

-- no living object of C has its range in the object at this place
abbrev pub IsPrivate : Map → List c.Object → ℕ → Type 0
IsPrivate map old place = (p : ℕ) (x : c.Object) (r : Range) → slice_get old p ≡ Some x → map x.made ≡ Some r → r.object.place ≡ place → ⊥

-- such objects are as they were
abbrev pub IsLeft : Map → List c.Object → List Object → List Object → Type 0
IsLeft map old objects new = (place : ℕ) → place < length objects → IsPrivate map old place → slice_get new place ≡ slice_get objects place
