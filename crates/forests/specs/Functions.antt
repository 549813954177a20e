-- Programs of forests, and what a call of each function does around its body.
use Rattle.std.specs.Prelude.{ℕ, ◌+◌, ◌%◌, ◌==◌, Option, Some, None, List, [], ◌∷◌, ◌++◌, map, length, take, replicate, if◌then◌else◌}
use Rattle.lcc_base.specs.declared.order.Order.{Order}
use Rattle.objects.specs.declared.byte.Byte.{Byte}
use Rattle.objects.specs.declared.value.Value.{Value}
use Rattle.objects.specs.declared.value.Value.TheVariants.{Number}
use Rattle.objects.specs.Bytes.{unknown_byte}
use Rattle.op_forest.specs.declared.frame.Slot.{Slot}
use Rattle.op_forest.specs.Nodes.{Node}
use Rattle.lcc_base.specs.Traces.{Wrote, Opened, Closed}
use Rattle.op_forest.specs.Callees.{Body, BuiltIn, Putchar, Getchar, Exit, Callee, Defined, Provided, Missing}
use Rattle.forests.specs.Words.{Word, Plain, unknown}
use Rattle.forests.specs.WordBytes.{word_bytes}
use Rattle.forests.specs.Objects.{objects_from}
use Rattle.forests.specs.Worlds.{World, with_arguments, with_input, with_event, Point, at_world, Effect, Exits, Unfinished, Stuck, gives, Outcome, Finished, Exited, Going, Failed}
use Rattle.forests.specs.Actions.{Calls}
use Rattle.forests.specs.Addresses.{Home, Environment}
use Rattle.forests.specs.Bodies.{Setting}

-- a program: its functions, the values of its names, and the order of bytes in memory
pub record Program : Type 0 where
  pub callee : ℕ → Callee
  pub global : ℕ → Option Value
  pub order : Order

-- of a slot nothing is known
abbrev pub slot_bytes : Slot → List (Byte Word)
slot_bytes slot = replicate slot.size unknown_byte

-- the bytes of a call's objects: its frame's slots, and its parameter words, which hold the arguments
abbrev pub own_bytes : Order → Body → List Word → List (List (Byte Word))
own_bytes order f arguments = map slot_bytes f.slots ++ map (word_bytes order) arguments

-- a call is open
abbrev pub entered : Order → ℕ → Body → World → World
entered order name f w = record {
  objects = w.objects ++ objects_from w.made (own_bytes order f w.arguments);
  made = w.made + length (own_bytes order f w.arguments);
  arguments = [];
  input = w.input;
  trace = w.trace ++ Opened name ∷ [];
}

abbrev pub home_in : ℕ → Body → World → Home
home_in name f w = record { function = name; place = length w.objects; made = w.made; slots = f.slots; words = f.words }

-- the call that was opened in the first world is over, and the objects that were made in it are past their lifetimes
abbrev pub left_behind : World → World → World
left_behind before w = record {
  objects = take (length before.objects) w.objects;
  made = w.made;
  arguments = [];
  input = w.input;
  trace = w.trace ++ Closed ∷ [];
}

-- what a call gives, by how the run of its body is; without a value it is a word of which nothing is known
abbrev pub value_or : Option Word → Word
value_or None = unknown
value_or (Some w) = w

abbrev pub answered : World → Outcome → Effect
answered before (Finished v p) = gives (value_or v) (at_world p (left_behind before p.world))
answered before (Exited status w) = Exits status w
answered before (Going w) = Unfinished w
answered before Failed = Stuck

-- putchar writes the low byte and gives it
abbrev pub put_character : List Word → Point → Effect
put_character (Plain (Number n) ∷ []) p = gives (Plain (Number (n % 256))) (at_world p (with_event (with_arguments p.world []) (Wrote (n % 256))))
put_character ws p = Stuck

-- getchar gives the next byte of the input, or -1
abbrev pub get_character : List Word → List ℕ → Point → Effect
get_character [] [] p = gives (Plain (Number 4294967295)) p
get_character [] (byte ∷ rest) p = gives (Plain (Number byte)) (at_world p (with_input p.world rest))
get_character ws input p = Stuck

-- exit ends the program with its argument
abbrev pub exit_with : List Word → Point → Effect
exit_with (Plain (Number n) ∷ []) p = Exits n p.world
exit_with ws p = Stuck

abbrev pub provided : BuiltIn → Point → Effect
provided Putchar p = put_character p.world.arguments p
provided Getchar p = get_character p.world.arguments p.world.input p
provided Exit p = exit_with p.world.arguments p

abbrev pub environment_of : Program → ℕ → Body → World → Environment
environment_of g name f w = record { global = g.global; order = g.order; home = home_in name f w }

-- the setting of a body that is entered in a world
abbrev pub setting_of : Program → Calls → ℕ → Body → World → Setting
setting_of g call name f w = record { call = call; environment = environment_of g name f w }

-- A call of a name, given the run of a body in a setting from a point: with another number of argument words than of
-- parameter words it has no meaning.
abbrev pub call_by : Program → (Setting → List Node → Point → Outcome) → Calls → ℕ → Callee → Point → Effect
call_by g run call name (Defined f) p =
    if length p.world.arguments == f.words then answered p.world (run (setting_of g call name f p.world) f.roots (at_world p (entered g.order name f p.world)))
    else Stuck
call_by g run call name (Provided b) p = provided b p
call_by g run call name Missing p = Stuck
