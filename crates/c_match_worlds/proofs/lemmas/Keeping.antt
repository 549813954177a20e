-- Stores, events and input.
use Rattle.std.specs.Prelude.{◌≡◌, ◌<◌, ℕ, ◌+◌, Some, List, [], ◌∷◌, ◌++◌, slice_get}
use Rattle.std.proofs.Common.{refl, ap, ◌∙◌}
use Rattle.std.proofs.lemmas.Option.{slice_get_within}
use Rattle.lcc_base.specs.Traces.{Event}
use Rattle.objects.specs.declared.value.ObjectName.{ObjectName}
use Rattle.objects.specs.declared.value.Value.TheVariants.{Pointer}
use Rattle.objects.specs.Objects.{Object as Old}
use Rattle.op_forest.specs.declared.lowered.LoweredObject.{LoweredObject}
use Rattle.op_forest.specs.Lowered.{LoweredUnit}
use Rattle.forests.specs.Objects.{Object}
use Rattle.forests.specs.Sound.{AreSoundObjects, AreInput, IsSound}
use Rattle.forests.specs.Units.{pointer_to}
use Rattle.forests.specs.Words.{Plain}
use Rattle.forests.specs.Worlds.{World, with_event, with_input, with_objects}
use Rattle.c_runs.specs.Places.{static_place}
use Rattle.c_runs.specs.Worlds as c
use Rattle.c_match.specs.Ranges.{Map}
use Rattle.c_match.specs.Values.{IsValue}
use Rattle.c_match.specs.Left.{IsPrivate}
use Rattle.c_match_objects.specs.Accesses.{IsKept}
use Rattle.c_match_objects.proofs.lemmas.Lifetimes.{held_by_same_homes}
use Rattle.c_match_worlds.specs.Matches.{Matches, name_in, object_in}

pub store_keeps : (u : LoweredUnit) (own : ℕ) (map : Map) (old : c.World) (w : World) (new : List Old) (after : List Object) → Matches u own map old w → IsKept map (c.objects old) new w.objects after → AreSoundObjects after → Matches u own map (c.with_objects old new) (with_objects w after)
store_keeps u own map old w new after m k sound = record {
  held = k.held;
  made = m.made;
  whole = m.whole;
  constants = λ t o lt e locked. k.constants t (object_in u t o) (m.constants t o lt e locked) locked;
  tables = λ t o le e.
      (let table = m.tables t o le e in
      (k.left t (slice_get_within w.objects t (object_in u t o) table.0) table.1 ∙ table.0, k.private t table.1));
  input = m.input;
  trace = m.trace;
  sound = record { objects = sound; arguments = m.sound.arguments; input = m.sound.input };
}

pub private_keeps : (u : LoweredUnit) (own : ℕ) (map : Map) (old : c.World) (w new : World) → Matches u own map old w → IsSound new → new.input ≡ w.input → new.trace ≡ w.trace → ((place : ℕ) → (IsPrivate map (c.objects old) place → ⊥) → slice_get new.objects place ≡ slice_get w.objects place) → ((t : ℕ) (o : LoweredObject) → slice_get u.objects t ≡ Some o → slice_get new.objects t ≡ slice_get w.objects t) → Matches u own map old new
private_keeps u own map old w new m sound input trace same stay = record {
  held = held_by_same_homes map (c.objects old) w.objects new.objects m.held (λ p x r e f. same r.object.place (λ private. private p x r e f refl));
  made = m.made;
  whole = m.whole;
  constants = λ t o lt e locked. stay t o e ∙ m.constants t o lt e locked;
  tables = λ t o le e. (stay t o e ∙ (m.tables t o le e).0, (m.tables t o le e).1);
  input = input ∙ m.input;
  trace = trace ∙ m.trace;
  sound = sound;
}

pub event_keeps : (u : LoweredUnit) (own : ℕ) (map : Map) (old : c.World) (w : World) (e : Event) → Matches u own map old w → Matches u own map (c.with_event old e) (with_event w e)
event_keeps u own map old w e m = record {
  held = m.held;
  made = m.made;
  whole = m.whole;
  constants = m.constants;
  tables = m.tables;
  input = m.input;
  trace = ap (λ (es : List Event). es ++ e ∷ []) m.trace;
  sound = record { objects = m.sound.objects; arguments = m.sound.arguments; input = m.sound.input };
}

pub input_keeps : (u : LoweredUnit) (own : ℕ) (map : Map) (old : c.World) (w : World) (rest : List ℕ) → Matches u own map old w → AreInput rest → Matches u own map (c.with_input old rest) (with_input w rest)
input_keeps u own map old w rest m h = record {
  held = m.held;
  made = m.made;
  whole = m.whole;
  constants = m.constants;
  tables = m.tables;
  input = refl;
  trace = m.trace;
  sound = record { objects = m.sound.objects; arguments = m.sound.arguments; input = h };
}

from_start : (object : ObjectName) → Plain (Pointer object 0) ≡ Plain (Pointer object (0 + 0))
from_start object = refl

pub own_stands : (u : LoweredUnit) (own : ℕ) (map : Map) (old : c.World) (w : World) (p size : ℕ) → Matches u own map old w → p < own → IsValue map (static_place p size) (Plain (pointer_to u p))
own_stands u own map old w p size m lt = (record { object = name_in u p; start = 0 }, m.whole p lt, from_start (name_in u p))
