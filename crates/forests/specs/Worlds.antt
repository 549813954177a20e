-- What a run acts on: the objects that live, the argument words since the last call, the input that is left, and the
-- trace. And what its steps give.
use Rattle.std.specs.Prelude.{ℕ, ◌∷◌, List, [], ◌++◌, Option}
use Rattle.lcc_base.specs.Traces.{Event}
use Rattle.forests.specs.Words.{Word}
use Rattle.forests.specs.Objects.{Object}

-- Objects stand by their places; how many were made in all tells later ones from those that are past their lifetimes.
pub record World : Type 0 where
  pub objects : List Object
  pub made : ℕ
  pub arguments : List Word
  pub input : List ℕ
  pub trace : List Event

-- a point of a run: the root steps that are left to all calls together, and the world
pub record Point : Type 0 where
  pub left : ℕ
  pub world : World

abbrev pub at_world : Point → World → Point
at_world p w = record { left = p.left; world = w }

-- other bytes in the objects
abbrev pub with_objects : World → List Object → World
with_objects w objects = record { objects = objects; made = w.made; arguments = w.arguments; input = w.input; trace = w.trace }

-- other argument words for the next call
abbrev pub with_arguments : World → List Word → World
with_arguments w arguments = record { objects = w.objects; made = w.made; arguments = arguments; input = w.input; trace = w.trace }

abbrev pub with_input : World → List ℕ → World
with_input w input = record { objects = w.objects; made = w.made; arguments = w.arguments; input = input; trace = w.trace }

-- something is seen
abbrev pub with_event : World → Event → World
with_event w e = record { objects = w.objects; made = w.made; arguments = w.arguments; input = w.input; trace = w.trace ++ e ∷ [] }

-- where a run goes on: behind, at a label, or at its caller with a value or none
pub data Move : Type 0 where
  Next : Move
  To : (label : ℕ) → Move
  End : (value : Option Word) → Move

-- What a step gives: values, and where it goes on; or the program has ended; or no steps are left; or the step has no
-- meaning.
pub data Effect : Type 0 where
  Went : (values : List Word) (point : Point) (move : Move) → Effect
  Exits : (status : ℕ) (world : World) → Effect
  Unfinished : (world : World) → Effect
  Stuck : Effect

-- one value, and on behind
abbrev pub gives : Word → Point → Effect
gives w p = Went (w ∷ []) p Next

-- goes on with an operand's values
abbrev pub then_do : Effect → (List Word → Point → Effect) → Effect
then_do (Went ws p Next) go = go ws p
then_do (Went ws p (To l)) go = Stuck
then_do (Went ws p (End v)) go = Stuck
then_do (Exits status w) go = Exits status w
then_do (Unfinished w) go = Unfinished w
then_do Stuck go = Stuck

-- how the run of a function's body is
pub data Outcome : Type 0 where
  Finished : (value : Option Word) (point : Point) → Outcome
  Exited : (status : ℕ) (world : World) → Outcome
  Going : (world : World) → Outcome
  Failed : Outcome

-- goes on behind a root, given the run from each place that it may go to
abbrev pub goes : Effect → (List Word → Point → Move → Outcome) → Outcome
goes (Went ws p mv) go = go ws p mv
goes (Exits status w) go = Exited status w
goes (Unfinished w) go = Going w
goes Stuck go = Failed
