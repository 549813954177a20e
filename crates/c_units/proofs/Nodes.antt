-- Lists of nodes one behind the other, and the first fault among them.
use Rattle.std.proofs.Common.{◌≡◌, List, [], ◌∷◌, ◌++◌, refl, sym, ap, ◌∙◌}
use Rattle.std.specs.Prelude.{Option, Some, None}
use Rattle.c_meaning.specs.State.{State}
use Rattle.c_meaning.specs.Constraints.{Fault}
use Rattle.c_meaning.specs.Typing.{Outcome, Fine, Bad, then_do, unless}
use Rattle.c_meaning.specs.Postorder.{Place, or_else}
use Rattle.c_meaning.specs.DeclaringNodes.{AnyPlace, any_fault, first_any, parts}
use Rattle.c_meaning.specs.Laws.{IsFirst, IsFirstOf, fault_of}
use Rattle.c_meaning.proofs.lemmas.Threads.{part_first}
use Rattle.c_units.specs.UnitNodes.{UnitPlace, place_fault, first_in, look, inside}

-- the fault that an outcome has is that of the first of these nodes that has one
pub record IsFirstIn {T : Type 0} (outcome : Outcome T) (places : List UnitPlace) : Type 0 where
  pub same : first_in places ≡ fault_of outcome

-- nothing is told, and there is no node
pub none_in : {T : Type 0} (s : State) (x : T) → IsFirstIn (Fine s x) []
none_in s x = record { same = refl }

or_else_assoc : (f g h : Option Fault) → or_else f (or_else g h) ≡ or_else (or_else f g) h
or_else_assoc (Some x) g h = refl
or_else_assoc None g h = refl

in_append : (xs ys : List UnitPlace) → first_in (xs ++ ys) ≡ or_else (first_in xs) (first_in ys)
in_append [] ys = refl
in_append (p ∷ ps) ys = ap (or_else (place_fault p)) (in_append ps ys) ∙ or_else_assoc (place_fault p) (first_in ps) (first_in ys)

pub look_first : {T U : Type 0} (o : Outcome T) (next : State → T → Outcome U) (places : List UnitPlace) (later : State → T → List UnitPlace) → IsFirstIn o places → ((s : State) (x : T) → IsFirstIn (next s x) (later s x)) → IsFirstIn (then_do o next) (look places o later)
look_first (Fine s x) next places later h k = record { same = in_append places (later s x) ∙ rw (h.same) (let g = k s x in g.same) }
look_first (Bad f) next places later h k = record { same = in_append places [] ∙ rw (h.same) refl }

-- with no node behind a part
pub last_in : {T U : Type 0} (o : Outcome T) (next : State → T → Outcome U) (places : List UnitPlace) → IsFirstIn o places → ((s : State) (x : T) → fault_of (next s x) ≡ None) → IsFirstIn (then_do o next) places
last_in (Fine s x) next places h k = record { same = h.same ∙ sym (k s x) }
last_in (Bad f) next places h k = record { same = h.same }

first_inside : (ps : List AnyPlace) → first_in (inside ps) ≡ first_any ps
first_inside [] = refl
first_inside (p ∷ ps) = ap (or_else (any_fault p)) (first_inside ps)

pub inside_first : {T : Type 0} (o : Outcome T) (places : List AnyPlace) → IsFirstOf o places → IsFirstIn o (inside places)
inside_first o places h = record { same = first_inside places ∙ h }

pub part_inside : {T : Type 0} (o : Outcome T) (places : List Place) → IsFirst o places → IsFirstIn o (inside (parts places))
part_inside o places h = inside_first o (parts places) (part_first o places h)

pub node_in : {T : Type 0} (p : UnitPlace) (s : State) (x : T) → IsFirstIn (unless (place_fault p) s x) (p ∷ [])
node_in p s x = record { same = told (place_fault p) }
  where
    told : (f : Option Fault) → or_else f None ≡ fault_of (unless f s x)
    told (Some f) = refl
    told None = refl
