-- Lemmas: what a body and its calls leave of objects: those that lived before live on, with their names, sizes and constancy;
-- their bytes may be others. And no fewer were made.
use Rattle.std.specs.Prelude.{◌≡◌, ℕ, zero, suc, ◌==◌, Bool, true, false, Option, Some, None, List, [], ◌∷◌, ◌++◌, length, map, take, if◌then◌else◌}
use Rattle.std.proofs.Common.{refl, sym, ap, ◌∙◌, arith}
use Rattle.std.proofs.lemmas.List.{take-map, map-append, length-map}
use Rattle.std.proofs.Math.Seq.{take-append_seam}
use Rattle.objects.specs.declared.byte.Byte.{Byte}
use Rattle.objects.specs.declared.value.Value.{Value}
use Rattle.objects.specs.declared.value.Value.TheVariants.{Number, Pointer, Function}
use Rattle.objects.specs.Bytes.{unknown_byte}
use Rattle.objects.specs.Objects.{overwritten}
use Rattle.op_forest.specs.Nodes.{Head, Node, Leaf, One, Two}
use Rattle.op_forest.specs.Labels.{behind}
use Rattle.op_forest.specs.Callees.{Body, BuiltIn, Putchar, Getchar, Exit, Callee, Defined, Provided, Missing}
use Rattle.forests.specs.Words.{Word, Plain}
use Rattle.forests.specs.Objects.{Object, shape_of, shapes, objects_from, with_bytes, stored, stored_through}
use Rattle.forests.specs.Worlds.{World, Point, at_world, Move, Next, To, End, Effect, Went, Exits, Unfinished, Stuck, then_do, Outcome, Finished, Exited, Going, Failed, goes}
use Rattle.forests.specs.Actions.{Calls, Action, Gave, Stored, Passed, Called, Moved, Meaningless, handed, effect_of}
use Rattle.forests.specs.Rows.{acts}
use Rattle.forests.specs.EachRow.{IsOfKinds}
use Rattle.forests.proofs.lemmas.EachRow.{each_row}
use Rattle.forests.specs.Bodies.{Setting, does, evaluate, at_label, follow, act, body_run}
use Rattle.forests.specs.Functions.{Program, own_bytes, entered, answered, put_character, get_character, exit_with, provided, setting_of, call_by}
use Rattle.forests.specs.Meaning.{spend, counted_run, counted_call, call_of}
use Rattle.forests.specs.Kept.{Keeps, Kept, KeptIn, CallsKeep}

pub keeps_refl : (w : World) → Keeps w w
keeps_refl w = record { shapes = refl; made = omega arith }

pub keeps_trans : (a b c : World) → Keeps a b → Keeps b c → Keeps a c
keeps_trans a b c x y = record { shapes = y.shapes ∙ x.shapes; made = omega (arith, x.made, y.made) }

-- ---- stores

blank_overwritten : (k : ℕ) (new old : List (Byte Word)) → map (λ b. unknown_byte {V = Value}) (overwritten k new old) ≡ map (λ b. unknown_byte {V = Value}) old
blank_overwritten zero [] old = refl
blank_overwritten zero (x ∷ xs) [] = refl
blank_overwritten zero (x ∷ xs) (y ∷ ys) = ap (λ z. unknown_byte ∷ z) (blank_overwritten zero xs ys)
blank_overwritten (suc k) new [] = refl
blank_overwritten (suc k) new (y ∷ ys) = ap (λ z. unknown_byte ∷ z) (blank_overwritten k new ys)

shape_of-with : (x : Object) (place : ℕ) (new : List (Byte Word)) → shape_of (with_bytes x place new) ≡ shape_of x
shape_of-with x place new = ap (λ bytes. record { made = x.made; constant = x.constant; bytes = bytes }) (blank_overwritten place new x.bytes)

shapes-stored : (objects : List Object) (o place : ℕ) (new : List (Byte Word)) → shapes (stored objects o place new) ≡ shapes objects
shapes-stored [] o place new = refl
shapes-stored (x ∷ xs) zero place new = ap (λ y. y ∷ shapes xs) (shape_of-with x place new)
shapes-stored (x ∷ xs) (suc o) place new = ap (λ ys. shape_of x ∷ ys) (shapes-stored xs o place new)

pub shapes-stored_through : (objects : List Object) (p : Value) (new : List (Byte Word)) → shapes (stored_through objects p new) ≡ shapes objects
shapes-stored_through objects (Pointer object offset) new = shapes-stored objects object.place offset new
shapes-stored_through objects (Number n) new = refl
shapes-stored_through objects (Function f) new = refl

-- ---- actions

kept_from : (a b : World) (e : Effect) → Keeps a b → Kept b e → Kept a e
kept_from a b (Went ws p mv) x y = keeps_trans a b p.world x y
kept_from a b (Exits status w) x y = tt
kept_from a b (Unfinished w) x y = tt
kept_from a b Stuck x y = tt

kept_in_from : (a b : World) (e : Outcome) → Keeps a b → KeptIn b e → KeptIn a e
kept_in_from a b (Finished v p) x y = keeps_trans a b p.world x y
kept_in_from a b (Exited status w) x y = tt
kept_in_from a b (Going w) x y = tt
kept_in_from a b Failed x y = tt

then_kept : (w : World) (e : Effect) (go : List Word → Point → Effect) → Kept w e → ((ws : List Word) (p : Point) → Kept p.world (go ws p)) → Kept w (then_do e go)
then_kept w (Went ws p Next) go x y = kept_from w p.world (go ws p) x (y ws p)
then_kept w (Went ws p (To l)) go x y = tt
then_kept w (Went ws p (End v)) go x y = tt
then_kept w (Exits status w1) go x y = tt
then_kept w (Unfinished w1) go x y = tt
then_kept w Stuck go x y = tt

handed_kept : (valued : Bool) (ws : List Word) (p : Point) → Kept p.world (handed valued ws p)
handed_kept valued [] p = tt
handed_kept true (w ∷ ws) p = keeps_refl p.world
handed_kept false (w ∷ ws) p = keeps_refl p.world

-- an action leaves the shapes of these objects
abbrev LeavesShapes : List Object → Action → Type 0
LeavesShapes objects (Gave v) = Unit {0}
LeavesShapes objects (Stored new) = shapes new ≡ shapes objects
LeavesShapes objects (Passed w) = Unit {0}
LeavesShapes objects (Called valued f) = Unit {0}
LeavesShapes objects (Moved mv) = Unit {0}
LeavesShapes objects Meaningless = Unit {0}

leaves_by_kinds : (objects : List Object) → IsOfKinds (LeavesShapes objects) objects
leaves_by_kinds objects = record {
  value = λ w. tt;
  stored = λ p bytes. shapes-stored_through objects p bytes;
  passed = λ w. tt;
  call = λ valued f. tt;
  next = tt;
  nothing = tt;
}

action_kept : (call : Calls) → CallsKeep call → (x : Action) (p : Point) → LeavesShapes p.world.objects x → Kept p.world (effect_of call x p)
action_kept call keep (Gave v) p h = keeps_refl p.world
action_kept call keep (Stored objects) p h = record { shapes = h; made = omega arith }
action_kept call keep (Passed w) p h = record { shapes = refl; made = omega arith }
action_kept call keep (Called valued f) p h = then_kept p.world (call f p) (λ ws q. handed valued ws q) (keep f p) (λ ws q. handed_kept valued ws q)
action_kept call keep (Moved mv) p h = keeps_refl p.world
action_kept call keep Meaningless p h = tt

-- ---- bodies

goes_kept : (w : World) (e : Effect) (go : List Word → Point → Move → Outcome) → Kept w e → ((ws : List Word) (p : Point) (mv : Move) → KeptIn p.world (go ws p mv)) → KeptIn w (goes e go)
goes_kept w (Went ws p mv) go x y = kept_in_from w p.world (go ws p mv) x (y ws p mv)
goes_kept w (Exits status w1) go x y = tt
goes_kept w (Unfinished w1) go x y = tt
goes_kept w Stuck go x y = tt

label_kept : (w : World) (x : Option (List Node)) (go : List Node → Outcome) → ((ts : List Node) → KeptIn w (go ts)) → KeptIn w (at_label x go)
label_kept w None go h = tt
label_kept w (Some ts) go h = h ts

follow_kept : (whole rest : List Node) (mv : Move) (p : Point) (go : List Node → Outcome) → ((ts : List Node) → KeptIn p.world (go ts)) → KeptIn p.world (follow whole rest mv p go)
follow_kept whole rest Next p go h = h rest
follow_kept whole rest (To l) p go h = label_kept p.world (behind l whole) go h
follow_kept whole rest (End v) p go h = keeps_refl p.world

spend_kept : (left : ℕ) (w : World) (go : Point → Outcome) → ((p : Point) → KeptIn p.world (go p)) → KeptIn w (spend left w go)
spend_kept zero w go h = tt
spend_kept (suc left) w go h = h (record { left = left; world = w })

-- under calls that keep objects
module _ (s : Setting) (keep : CallsKeep s.call) where
  pub does_kept : (h : Head) (ws : List Word) (p : Point) → Kept p.world (does s h ws p)
  does_kept h ws p =
      action_kept s.call keep (acts s.environment h ws p.world.objects) p
      (each_row (LeavesShapes p.world.objects) p.world.objects (leaves_by_kinds p.world.objects) s.environment h ws (λ v is. tt) (λ l is. tt))

  pub evaluate_kept : (t : Node) (p : Point) → Kept p.world (evaluate s t p)
  evaluate_kept (Leaf h) p = does_kept h [] p
  evaluate_kept (One h a) p = then_kept p.world _ _ (evaluate_kept a p) (λ xs p1. does_kept h xs p1)
  evaluate_kept (Two h a b) p = then_kept p.world _ _ (evaluate_kept a p) (λ xs p1. then_kept p1.world _ _ (evaluate_kept b p1) (λ ys p2. does_kept h _ p2))

  pub act_kept : (whole : List Node) (t : Node) (rest : List Node) (p : Point) (go : List Node → Point → Outcome) → ((ts : List Node) (p1 : Point) → KeptIn p1.world (go ts p1)) → KeptIn p.world (act s whole t rest p go)
  act_kept whole t rest p go h = goes_kept p.world _ _ (evaluate_kept t p) (λ ws p1 mv. follow_kept whole rest mv p1 _ (λ ts. h ts p1))

  -- a body with a budget of its own
  pub body_kept : (whole : List Node) (n : ℕ) (ts : List Node) (p : Point) → KeptIn p.world (body_run s whole n ts p)
  body_kept whole zero ts p = tt
  body_kept whole (suc n) [] p = keeps_refl p.world
  body_kept whole (suc n) (t ∷ ts) p = act_kept whole t ts p _ (λ js p1. body_kept whole n js p1)

  -- a body that takes of the steps that are left
  pub counted_kept : (fuel : ℕ) (whole ts : List Node) (p : Point) → KeptIn p.world (counted_run fuel s whole ts p)
  counted_kept zero whole ts p = tt
  counted_kept (suc fuel) whole [] p = spend_kept p.left p.world _ (λ p1. keeps_refl p1.world)
  counted_kept (suc fuel) whole (t ∷ ts) p = spend_kept p.left p.world _ (λ p1. act_kept whole t ts p1 _ (λ js p2. counted_kept fuel whole js p2))

-- ---- calls

-- once the objects that a call made are off, those of before are left
back_again : (old own new : List Object) → shapes new ≡ shapes (old ++ own) → shapes (take (length old) new) ≡ shapes old
back_again old own new h =
    sym (take-map shape_of (length old) new)
    ∙ ap (take (length old)) (h ∙ map-append shape_of old own)
    ∙ ap (λ (n : ℕ). take n (shapes old ++ shapes own)) (sym (length-map old shape_of))
    ∙ take-append_seam (shapes old) (shapes own)

answered_kept : (g : Program) (name : ℕ) (f : Body) (before : World) (r : Outcome) → KeptIn (entered g.order name f before) r → Kept before (answered before r)
answered_kept g name f before (Finished v p) h =
    record {
      shapes = back_again before.objects (objects_from before.made (own_bytes g.order f before.arguments)) p.world.objects h.shapes;
      made = omega (arith, h.made);
    }
answered_kept g name f before (Exited status w) h = tt
answered_kept g name f before (Going w) h = tt
answered_kept g name f before Failed h = tt

if_kept : (w : World) (b : Bool) (e : Effect) → Kept w e → Kept w (if b then e else Stuck)
if_kept w true e h = h
if_kept w false e h = tt

put_kept : (ws : List Word) (p : Point) → Kept p.world (put_character ws p)
put_kept (Plain (Number n) ∷ []) p = record { shapes = refl; made = omega arith }
put_kept ws p = tt

get_kept : (ws : List Word) (input : List ℕ) (p : Point) → Kept p.world (get_character ws input p)
get_kept [] [] p = keeps_refl p.world
get_kept [] (byte ∷ rest) p = record { shapes = refl; made = omega arith }
get_kept ws input p = tt

exit_kept : (ws : List Word) (p : Point) → Kept p.world (exit_with ws p)
exit_kept (Plain (Number n) ∷ []) p = tt
exit_kept ws p = tt

provided_kept : (b : BuiltIn) (p : Point) → Kept p.world (provided b p)
provided_kept Putchar p = put_kept p.world.arguments p
provided_kept Getchar p = get_kept p.world.arguments p.world.input p
provided_kept Exit p = exit_kept p.world.arguments p

-- a call, given that the run of its body keeps objects
pub call_by_kept : (g : Program) (run : Setting → List Node → Point → Outcome) (call : Calls) (name : ℕ) (c : Callee) (p : Point) → ((f : Body) (p1 : Point) → KeptIn p1.world (run (setting_of g call name f p.world) f.roots p1)) → Kept p.world (call_by g run call name c p)
call_by_kept g run call name (Defined f) p h =
    if_kept p.world (length p.world.arguments == f.words) _ (answered_kept g name f p.world _ (h f (at_world p (entered g.order name f p.world))))
call_by_kept g run call name (Provided b) p h = provided_kept b p
call_by_kept g run call name Missing p h = tt

pub counted_call_kept : (g : Program) (fuel : ℕ) → CallsKeep (counted_call g fuel)
counted_call_kept g zero name p = tt
counted_call_kept g (suc fuel) name p = call_by_kept g (λ s roots p1. counted_run (suc fuel) s roots roots p1) (counted_call g fuel) name (g.callee name) p (λ f p1. counted_kept (setting_of g (counted_call g fuel) name f p.world) (counted_call_kept g fuel) (suc fuel) f.roots f.roots p1)

pub calls_kept : (g : Program) → CallsKeep (call_of g)
calls_kept g name p = counted_call_kept g (suc p.left) name p
