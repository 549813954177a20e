-- Lemmas: runs keep worlds sound, and give words.
use Rattle.std.specs.Prelude.{◌<◌, ℕ, zero, suc, ◌%◌, ◌==◌, Bool, true, false, Option, Some, None, List, [], ◌∷◌, ◌++◌, length, map, if◌then◌else◌}
use Rattle.std.proofs.Common.{refl, arith}
use Rattle.std.proofs.lemmas.Nat.{mod_below}
use Rattle.lcc_base.specs.declared.order.Order.{Order}
use Rattle.objects.specs.declared.byte.Byte.{Byte}
use Rattle.objects.specs.declared.value.Value.TheVariants.{Number}
use Rattle.objects.specs.Bytes.{unknown_byte}
use Rattle.op_forest.specs.declared.frame.Slot.{Slot}
use Rattle.op_forest.specs.Labels.{behind}
use Rattle.op_forest.specs.Callees.{Body, BuiltIn, Putchar, Getchar, Exit, Callee, Defined, Provided, Missing}
use Rattle.op_forest.specs.Nodes.{Head, Node, Leaf, One, Two}
use Rattle.forests.specs.Words.{Word, Plain, IsWord}
use Rattle.forests.specs.WordBytes.{word_bytes}
use Rattle.forests.specs.Objects.{objects_from}
use Rattle.forests.specs.Worlds.{World, Point, at_world, Move, Next, To, End, Effect, Went, Exits, Unfinished, Stuck, then_do, Outcome, Finished, Exited, Going, Failed, goes}
use Rattle.forests.specs.Actions.{Calls, Action, Gave, Stored, Passed, Called, Moved, Meaningless, handed, effect_of}
use Rattle.forests.specs.Rows.{acts}
use Rattle.forests.specs.Bodies.{Setting, does, evaluate, at_label, follow, act, body_run}
use Rattle.forests.specs.Functions.{Program, slot_bytes, own_bytes, entered, value_or, answered, put_character, get_character, exit_with, provided, setting_of, call_by}
use Rattle.forests.specs.Meaning.{spend, counted_run, counted_call, call_of}
use Rattle.forests.specs.Sound.{AreSoundBytes, AreSoundObjects, AreWords, AreInput, IsSound, IsSoundEnvironment, IsSoundValue, IsSoundMove, IsSoundEffect, IsSoundOutcome}
use Rattle.forests.proofs.lemmas.SoundBytes.{bytes_replicate, objects_append, objects_take, word_bytes_sound}
use Rattle.forests.specs.SoundRows.{IsSoundAction}
use Rattle.forests.proofs.lemmas.SoundRows.{acts_sound}
use Rattle.forests.specs.SoundRuns.{CallsSound, IsSoundProgram}

words_append : (vs ws : List Word) → AreWords vs → AreWords ws → AreWords (vs ++ ws)
words_append [] ws h k = k
words_append (v ∷ vs) ws h k = (h.0, words_append vs ws h.1 k)

-- ---- trees

then_sound : (e : Effect) (go : List Word → Point → Effect) → IsSoundEffect e → ((ws : List Word) (p : Point) → AreWords ws → IsSound p.world → IsSoundEffect (go ws p)) → IsSoundEffect (then_do e go)
then_sound (Went ws p Next) go x y = y ws p x.0 x.1
then_sound (Went ws p (To l)) go x y = tt
then_sound (Went ws p (End v)) go x y = tt
then_sound (Exits status w) go x y = tt
then_sound (Unfinished w) go x y = tt
then_sound Stuck go x y = tt

handed_sound : (valued : Bool) (ws : List Word) (p : Point) → AreWords ws → IsSound p.world → IsSoundEffect (handed valued ws p)
handed_sound valued [] p h k = tt
handed_sound true (w ∷ ws) p h k = ((h.0, tt), k, tt)
handed_sound false (w ∷ ws) p h k = (tt, k, tt)

action_sound : (call : Calls) → CallsSound call → (x : Action) (p : Point) → IsSoundAction x → IsSound p.world → IsSoundEffect (effect_of call x p)
action_sound call calls (Gave v) p h k = ((h, tt), k, tt)
action_sound call calls (Stored objects) p h k = (tt, record { objects = h; arguments = k.arguments; input = k.input }, tt)
action_sound call calls (Passed w) p h k = (tt, record { objects = k.objects; arguments = words_append p.world.arguments (w ∷ []) k.arguments (h, tt); input = k.input }, tt)
action_sound call calls (Called valued f) p h k = then_sound (call f p) (λ ws q. handed valued ws q) (calls f p k) (λ ws q. handed_sound valued ws q)
action_sound call calls (Moved mv) p h k = (tt, k, h)
action_sound call calls Meaningless p h k = tt

-- under sound calls, with words for names
module _ (s : Setting) (calls : CallsSound s.call) (env : IsSoundEnvironment s.environment) where
  pub does_sound : (h : Head) (ws : List Word) (p : Point) → AreWords ws → IsSound p.world → IsSoundEffect (does s h ws p)
  does_sound h ws p x k = action_sound s.call calls (acts s.environment h ws p.world.objects) p (acts_sound s.environment h p.world.objects env k.objects ws x) k

  pub evaluate_sound : (t : Node) (p : Point) → IsSound p.world → IsSoundEffect (evaluate s t p)
  evaluate_sound (Leaf h) p k = does_sound h [] p tt k
  evaluate_sound (One h a) p k = then_sound _ _ (evaluate_sound a p k) (λ xs p1. does_sound h xs p1)
  evaluate_sound (Two h a b) p k =
      then_sound _ _ (evaluate_sound a p k) (λ xs p1 x k1. then_sound _ _ (evaluate_sound b p1 k1) (λ ys p2 y k2. does_sound h (xs ++ ys) p2 (words_append xs ys x y) k2))

  goes_sound : (e : Effect) (go : List Word → Point → Move → Outcome) → IsSoundEffect e → ((ws : List Word) (p : Point) (mv : Move) → IsSound p.world → IsSoundMove mv → IsSoundOutcome (go ws p mv)) → IsSoundOutcome (goes e go)
  goes_sound (Went ws p mv) go x y = y ws p mv x.1 x.2
  goes_sound (Exits status w) go x y = tt
  goes_sound (Unfinished w) go x y = tt
  goes_sound Stuck go x y = tt

  label_sound : (x : Option (List Node)) (go : List Node → Outcome) → ((ts : List Node) → IsSoundOutcome (go ts)) → IsSoundOutcome (at_label x go)
  label_sound None go h = tt
  label_sound (Some ts) go h = h ts

  follow_sound : (whole rest : List Node) (mv : Move) (p : Point) (go : List Node → Outcome) → IsSound p.world → IsSoundMove mv → ((ts : List Node) → IsSoundOutcome (go ts)) → IsSoundOutcome (follow whole rest mv p go)
  follow_sound whole rest Next p go k m h = h rest
  follow_sound whole rest (To l) p go k m h = label_sound (behind l whole) go h
  follow_sound whole rest (End v) p go k m h = (m, k)

  pub act_sound : (whole : List Node) (t : Node) (rest : List Node) (p : Point) (go : List Node → Point → Outcome) → IsSound p.world → ((ts : List Node) (p1 : Point) → IsSound p1.world → IsSoundOutcome (go ts p1)) → IsSoundOutcome (act s whole t rest p go)
  act_sound whole t rest p go k h = goes_sound _ _ (evaluate_sound t p k) (λ ws p1 mv k1 m. follow_sound whole rest mv p1 _ k1 m (λ ts. h ts p1 k1))

  spend_sound : (left : ℕ) (w : World) (go : Point → Outcome) → IsSound w → ((p : Point) → IsSound p.world → IsSoundOutcome (go p)) → IsSoundOutcome (spend left w go)
  spend_sound zero w go k h = tt
  spend_sound (suc left) w go k h = h (record { left = left; world = w }) k

  -- a body with a budget of its own
  pub body_sound : (whole : List Node) (n : ℕ) (ts : List Node) (p : Point) → IsSound p.world → IsSoundOutcome (body_run s whole n ts p)
  body_sound whole zero ts p k = tt
  body_sound whole (suc n) [] p k = (tt, k)
  body_sound whole (suc n) (t ∷ ts) p k = act_sound whole t ts p _ k (λ js p1. body_sound whole n js p1)

  -- a body that takes of the steps that are left
  pub counted_sound : (fuel : ℕ) (whole ts : List Node) (p : Point) → IsSound p.world → IsSoundOutcome (counted_run fuel s whole ts p)
  counted_sound zero whole ts p k = tt
  counted_sound (suc fuel) whole [] p k = spend_sound p.left p.world _ k (λ p1 k1. (tt, k1))
  counted_sound (suc fuel) whole (t ∷ ts) p k = spend_sound p.left p.world _ k (λ p1 k1. act_sound whole t ts p1 _ k1 (λ js p2. counted_sound fuel whole js p2))

-- ---- calls

abbrev AreSoundLists : List (List (Byte Word)) → Type 0
AreSoundLists [] = Unit {0}
AreSoundLists (b ∷ bs) = AreSoundBytes b × AreSoundLists bs

made_sound : (made : ℕ) (bytes : List (List (Byte Word))) → AreSoundLists bytes → AreSoundObjects (objects_from made bytes)
made_sound made [] h = tt
made_sound made (b ∷ bs) h = (h.0, made_sound (suc made) bs h.1)

lists_append : (xs ys : List (List (Byte Word))) → AreSoundLists xs → AreSoundLists ys → AreSoundLists (xs ++ ys)
lists_append [] ys h k = k
lists_append (x ∷ xs) ys h k = (h.0, lists_append xs ys h.1 k)

slots_sound : (slots : List Slot) → AreSoundLists (map slot_bytes slots)
slots_sound [] = tt
slots_sound (s ∷ ss) = (bytes_replicate s.size unknown_byte (omega arith, refl), slots_sound ss)

arguments_sound : (order : Order) (ws : List Word) → AreWords ws → AreSoundLists (map (word_bytes order) ws)
arguments_sound order [] h = tt
arguments_sound order (w ∷ ws) h = (word_bytes_sound order w h.0, arguments_sound order ws h.1)

entered_sound : (order : Order) (name : ℕ) (f : Body) (w : World) → IsSound w → IsSound (entered order name f w)
entered_sound order name f w k = record {
  objects = objects_append w.objects _ k.objects (made_sound w.made (own_bytes order f w.arguments) (lists_append (map slot_bytes f.slots) _ (slots_sound f.slots) (arguments_sound order w.arguments k.arguments)));
  arguments = tt;
  input = k.input;
}

value_or_sound : (v : Option Word) → IsSoundValue v → IsWord (value_or v)
value_or_sound None h = (omega arith, refl)
value_or_sound (Some w) h = h

answered_sound : (before : World) (r : Outcome) → IsSoundOutcome r → IsSoundEffect (answered before r)
answered_sound before (Finished v p) h =
    ((value_or_sound v h.0, tt), record { objects = objects_take (length before.objects) p.world.objects h.1.objects; arguments = tt; input = h.1.input }, tt)
answered_sound before (Exited status w) h = tt
answered_sound before (Going w) h = tt
answered_sound before Failed h = tt

if_sound : (b : Bool) (e : Effect) → IsSoundEffect e → IsSoundEffect (if b then e else Stuck)
if_sound true e h = h
if_sound false e h = tt

put_sound : (ws : List Word) (p : Point) → IsSound p.world → IsSoundEffect (put_character ws p)
put_sound (Plain (Number n) ∷ []) p k = ((let lt = mod_below n 256 (omega arith) in let small : n % 256 < 4294967296 = omega (arith, lt) in small, tt), record { objects = k.objects; arguments = tt; input = k.input }, tt)
put_sound ws p k = tt

get_sound : (ws : List Word) (input : List ℕ) (p : Point) → AreInput input → IsSound p.world → IsSoundEffect (get_character ws input p)
get_sound [] [] p i k = ((omega arith, tt), k, tt)
get_sound [] (byte ∷ rest) p i k = ((let lt = i.0 in omega (arith, lt), tt), record { objects = k.objects; arguments = k.arguments; input = i.1 }, tt)
get_sound ws input p i k = tt

exit_sound : (ws : List Word) (p : Point) → IsSoundEffect (exit_with ws p)
exit_sound (Plain (Number n) ∷ []) p = tt
exit_sound ws p = tt

provided_sound : (b : BuiltIn) (p : Point) → IsSound p.world → IsSoundEffect (provided b p)
provided_sound Putchar p k = put_sound p.world.arguments p k
provided_sound Getchar p k = get_sound p.world.arguments p.world.input p k.input k
provided_sound Exit p k = exit_sound p.world.arguments p

-- a call, given that the run of its body is sound
pub call_by_sound : (g : Program) (run : Setting → List Node → Point → Outcome) (call : Calls) (name : ℕ) (c : Callee) (p : Point) → IsSound p.world → ((f : Body) (p1 : Point) → IsSound p1.world → IsSoundOutcome (run (setting_of g call name f p.world) f.roots p1)) → IsSoundEffect (call_by g run call name c p)
call_by_sound g run call name (Defined f) p k h =
    if_sound (length p.world.arguments == f.words) _ (answered_sound p.world _ (h f (at_world p (entered g.order name f p.world)) (entered_sound g.order name f p.world k)))
call_by_sound g run call name (Provided b) p k h = provided_sound b p k
call_by_sound g run call name Missing p k h = tt

pub counted_call_sound : (g : Program) → IsSoundProgram g → (fuel : ℕ) → CallsSound (counted_call g fuel)
counted_call_sound g words zero name p k = tt
counted_call_sound g words (suc fuel) name p k =
    call_by_sound g (λ s roots p1. counted_run (suc fuel) s roots roots p1) (counted_call g fuel) name (g.callee name) p k
    (λ f p1 k1. counted_sound (setting_of g (counted_call g fuel) name f p.world) (counted_call_sound g words fuel) words (suc fuel) f.roots f.roots p1 k1)

pub calls_sound : (g : Program) → IsSoundProgram g → CallsSound (call_of g)
calls_sound g words name p k = counted_call_sound g words (suc p.left) name p k
