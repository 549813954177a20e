-- How the search for a place goes from one entry of a stack to the next, and what it leaves on the stack.
use Rattle.std.specs.Prelude.{◌≡◌, Bool, true, false, List, [], ◌∷◌, ◌++◌, Option, Some, None, length, option_to_list}
use Rattle.c_types.specs.Layout.{Tag}
use Rattle.c_types.specs.Table.{Table}
use Rattle.c_meaning.specs.Filling.{Waiting, Whole, Found, found, with_left, enter}
use Rattle.c_meaning.specs.Values.{CoreTree}
use Rattle.c_initialisers.specs.declared.place.Place.{Place}
use Rattle.c_initialisers.specs.declared.waits.Waits.{Waits}
use Rattle.c_initialisers.specs.declared.front.Front.{Front}
use Rattle.c_initialisers.specs.Waiting.{AreEntriesIn, IsEntryIn, IsPlaceIn, place_in, waiting_in}

-- whole places alone wait, as members do
abbrev pub are_whole : List Waiting → Bool
are_whole [] = true
are_whole (Whole at ∷ ws) = are_whole ws
are_whole ws = false

-- the place for the expression in a first place
abbrev pub entered_front : List Tag → CoreTree → Option Found → Option Found
entered_front tags c None = None
entered_front tags c (Some f) = with_left f.left (enter tags c f.at)

abbrev pub IsBehindIn : Table → Option Waits → Type 0
IsBehindIn t None = Unit {0}
IsBehindIn t (Some w) = IsEntryIn t w

-- the first place of what waits, and what is left of it behind that
abbrev pub front_in : Table → Option Front → Option Found
front_in t None = None
front_in t (Some f) = Some (found (place_in t f.place) (waiting_in t (option_to_list f.behind)))

abbrev pub IsFrontIn : Table → Front → Type 0
IsFrontIn t f = IsPlaceIn (length t.forms) f.place × IsBehindIn t f.behind

-- the stack has what is left on its top; where nothing is found it is as it was
abbrev pub IsEntered : Table → List Waits → List Waits → Option Found → Option Place → Type 0
IsEntered t old new f None = (f ≡ None) × (new ≡ old)
IsEntered t old new f (Some p) =
    (left : List Waits) × (new ≡ old ++ left) × (f ≡ Some (found (place_in t p) (waiting_in t left))) × AreEntriesIn t left × IsPlaceIn (length t.forms) p
