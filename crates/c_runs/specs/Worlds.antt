-- What a run acts on: the objects that live, where those of the running call are, the input that is left, and the trace.
use Rattle.std.specs.Prelude.{ℕ, Bool, List, [], ◌∷◌, ◌++◌, length}
use Rattle.objects.specs.declared.byte.Byte.{Byte}
use Rattle.objects.specs.declared.value.Value.{Value}
use Rattle.objects.specs.declared.value.Value.TheVariants.{Pointer}
use Rattle.objects.specs.Objects.{Object, Storage, next_name, with_object, ended, flagged_through}
use Rattle.lcc_base.specs.Traces.{Event}

-- The storage; pointers to the objects of the running call: its parameters, its other locals, and the copies of structures
-- that its calls pass and give; the input that is left; and the trace.
pub record World : Type 0 where
  pub storage : Storage
  pub locals : List Value
  pub input : List ℕ
  pub trace : List Event

-- the objects that live
abbrev pub objects : World → List Object
objects w = w.storage.objects

-- other bytes in the objects
abbrev pub with_objects : World → List Object → World
with_objects w os = record { storage = record { objects = os; made = w.storage.made }; locals = w.locals; input = w.input; trace = w.trace }

abbrev pub with_input : World → List ℕ → World
with_input w input = record { storage = w.storage; locals = w.locals; input = input; trace = w.trace }

-- something is seen
abbrev pub with_event : World → Event → World
with_event w e = record { storage = w.storage; locals = w.locals; input = w.input; trace = w.trace ++ e ∷ [] }

-- a pointer to the start of the object of so many bytes that is made next
abbrev pub next_place : World → ℕ → Value
next_place w size = Pointer (next_name w.storage size) 0

-- an object made that isn't the running call's
abbrev pub made : Bool → List (Byte Value) → World → World
made constant bytes w = record { storage = with_object w.storage constant bytes; locals = w.locals; input = w.input; trace = w.trace }

-- a further object of the running call
abbrev pub with_local : Bool → List (Byte Value) → World → World
with_local constant bytes w = record { storage = with_object w.storage constant bytes; locals = w.locals ++ next_place w (length bytes) ∷ []; input = w.input; trace = w.trace }

-- a further local object, which is the copy that was passed: the parameter's type says whether it may be written
abbrev pub with_passed : Bool → Value → World → World
with_passed constant copy w = record { storage = record { objects = flagged_through w.storage.objects copy constant; made = w.storage.made }; locals = w.locals ++ copy ∷ []; input = w.input; trace = w.trace }

-- a call is open: it has no objects yet
abbrev pub entered : Event → World → World
entered opened w = record { storage = w.storage; locals = []; input = w.input; trace = w.trace ++ opened ∷ [] }

-- the call that was opened in the first world is over: the objects that were made in it are past their lifetimes
abbrev pub left_behind : Event → World → World → World
left_behind closed before w = record {
  storage = ended w.storage (length before.storage.objects);
  locals = before.locals;
  input = w.input;
  trace = w.trace ++ closed ∷ [];
}
