-- A stack as the list of its frames, the topmost first.
use Rattle.std.specs.Prelude.{ℕ, List, [], ◌∷◌, reverse}
use Rattle.std.specs.Borrow.{Bor}
use Rattle.objects.specs.declared.value.Value.{Value}
use Rattle.c_meaning.specs.declared.core_stmt.CoreStmt.{CoreStmt}
use Rattle.c_meaning.specs.declared.filled_place.FilledPlace.{FilledPlace}
use Rattle.c_meaning.specs.CoreTrees.{CoreOf}
use Rattle.c_eval.specs.declared.frame.Frame.{Frame}
use Rattle.c_eval.specs.declared.frame.Frame.TheVariants as on
use Rattle.c_eval.specs.declared.kept.Counts.{Counts}
use Rattle.c_eval.specs.declared.kept.Kept.{Kept}
use Rattle.c_eval.specs.declared.kept.Kept.TheVariants as kept
use Rattle.c_eval.specs.declared.kept.Ways.{Ways}
use Rattle.c_eval.specs.declared.stack.Stack.{Stack}

-- what stands apart of some frames, in each list that of the topmost first
pub record Apart : Type 0 where
  pub values : List Value
  pub parts : List (Bor (List (CoreOf ℕ)))
  pub statements : List (Bor (List CoreStmt))
  pub ways : List Ways
  pub places : List (Bor (List FilledPlace))
  pub counts : List Counts

-- what a frame is made of comes first, or there is no such frame
abbrev pub made_of : {A : Type 0} → List A → (A → Frame) → Frame
made_of [] make = on.Drop
made_of (x ∷ xs) make = make x

abbrev pub others : {A : Type 0} → List A → List A
others [] = []
others (x ∷ xs) = xs

-- a frame as it is kept, with what stands apart of it
abbrev pub joined : Kept → Apart → Frame
joined (kept.First e) a = on.First e
joined (kept.Second e) a = made_of a.values (λ v. on.Second e v)
joined (kept.Right e) a = on.Right e
joined kept.Comma a = made_of a.parts (λ es. on.Comma es)
joined (kept.Argument n) a = made_of a.parts (λ es. on.Argument es n)
joined (kept.Passed e) a = made_of a.values (λ v. on.Passed e v)
joined (kept.Called e) a = made_of a.values (λ v. on.Called e v)
joined (kept.Activation n e) a = made_of a.counts (λ c. on.Activation e n c.objects c.base)
joined kept.Drop a = on.Drop
joined kept.Then a = made_of a.statements (λ ss. on.Then ss)
joined kept.Catch a = made_of a.statements (λ ss. on.Catch ss)
joined (kept.Branch x) a = made_of a.ways (λ w. on.Branch x w.then w.otherwise)
joined (kept.Initial s) a = on.Initial s
joined (kept.Body s) a = on.Body s
joined (kept.Last s) a = on.Last s
joined (kept.Test s) a = on.Test s
joined (kept.Switch s) a = on.Switch s
joined kept.Switched a = on.Switched
joined (kept.Return e) a = on.Return e
joined kept.Fill a = made_of a.places (λ ps. made_of a.values (λ v. on.Fill ps v))

abbrev pub below_value : Apart → Apart
below_value a = record { values = others a.values; parts = a.parts; statements = a.statements; ways = a.ways; places = a.places; counts = a.counts }

abbrev pub below_parts : Apart → Apart
below_parts a = record { values = a.values; parts = others a.parts; statements = a.statements; ways = a.ways; places = a.places; counts = a.counts }

abbrev pub below_statements : Apart → Apart
below_statements a = record { values = a.values; parts = a.parts; statements = others a.statements; ways = a.ways; places = a.places; counts = a.counts }

abbrev pub below_ways : Apart → Apart
below_ways a = record { values = a.values; parts = a.parts; statements = a.statements; ways = others a.ways; places = a.places; counts = a.counts }

abbrev pub below_places : Apart → Apart
below_places a = record { values = others a.values; parts = a.parts; statements = a.statements; ways = a.ways; places = others a.places; counts = a.counts }

abbrev pub below_counts : Apart → Apart
below_counts a = record { values = a.values; parts = a.parts; statements = a.statements; ways = a.ways; places = a.places; counts = others a.counts }

-- what stands apart of the frames below it
abbrev pub below : Kept → Apart → Apart
below (kept.Second e) a = below_value a
below kept.Comma a = below_parts a
below (kept.Argument n) a = below_parts a
below (kept.Passed e) a = below_value a
below (kept.Called e) a = below_value a
below (kept.Activation n e) a = below_counts a
below kept.Then a = below_statements a
below kept.Catch a = below_statements a
below (kept.Branch x) a = below_ways a
below kept.Fill a = below_places a
below k a = a

abbrev pub all_joined : List Kept → Apart → List Frame
all_joined [] a = []
all_joined (k ∷ ks) a = joined k a ∷ all_joined ks (below k a)

abbrev pub apart : Stack → Apart
apart s =
    record {
      values = reverse s.values.items;
      parts = reverse s.parts.items;
      statements = reverse s.statements.items;
      ways = reverse s.ways.items;
      places = reverse s.places.items;
      counts = reverse s.counts.items;
    }

unfoldable pub frames : Stack → List Frame
frames s = all_joined (reverse s.kept.items) (apart s)

-- the frames from the innermost call's on
abbrev pub from_call : List Frame → List Frame
from_call [] = []
from_call (on.Activation e n objects base ∷ fs) = on.Activation e n objects base ∷ fs
from_call (f ∷ fs) = from_call fs
