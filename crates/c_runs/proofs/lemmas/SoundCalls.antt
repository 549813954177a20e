-- Calls and runs keep worlds sound.
use Rattle.std.specs.Prelude.{◌≡◌, ◌≤◌, ℕ, ◌+◌, ◌==◌, zero, suc, Bool, true, false, Option, Some, None, IfSome, List, [], ◌∷◌, ◌++◌, length, take, drop, replicate, slice_get, Result as Checked, Ok, Err, refl}
use Rattle.std.proofs.Common.{ap, sym, subst, ◌∙◌, arith, append_assoc, append-nil}
use Rattle.lcc_base.specs.declared.cause.Cause.{Cause}
use Rattle.lcc_base.specs.declared.order.Order.{Order}
use Rattle.lcc_base.specs.Traces.{Opened, Closed}
use Rattle.objects.specs.declared.byte.Byte.{Byte}
use Rattle.objects.specs.declared.purpose.Purpose.TheVariants.{Initialisation}
use Rattle.objects.specs.declared.value.Value.{Value}
use Rattle.objects.specs.declared.value.Value.TheVariants.{Number, Pointer, Function}
use Rattle.objects.specs.Bytes.{unknown_byte}
use Rattle.objects.specs.Conversions.{converted}
use Rattle.objects.specs.Objects.{Object, flagged, flagged_through}
use Rattle.objects.specs.Scalars.{scalar_bytes}
use Rattle.c_types.specs.CType.{CType}
use Rattle.c_types.specs.Constness.{is_const}
use Rattle.c_types.specs.Layout.{Tag}
use Rattle.c_meaning.specs.Scalars.{scalar_of}
use Rattle.c_meaning.specs.Types.{is_record}
use Rattle.c_meaning.specs.Each.{EachIs}
use Rattle.c_meaning.specs.Units.{FunctionTree, UnitTree}
use Rattle.c_runs.specs.Worlds.{World, objects, with_objects, with_local, with_passed, entered, left_behind, next_place}
use Rattle.c_runs.specs.Outcomes.{Result, Out, Next, Break, Continue, Return, Goto, Over, either, if_done}
use Rattle.c_runs.specs.Below.{below}
use Rattle.c_runs.specs.Places.{size_of, assigned}
use Rattle.c_runs.specs.Calls.{Argument, Call, Setting, with_parameter, with_parameters, with_locals, own_parameters, handed, returned}
use Rattle.c_runs.specs.Statements.{Start, exec}
use Rattle.c_runs.specs.Run.{setting, body_run, function_run, called, calls_below, call, context}
use Rattle.c_meaning.specs.Numbers.{IsText}
use Rattle.c_runs.specs.Soundness.{IsSoundValue, IsSoundByte, IsSoundObject, IsSoundEvent, IsSound, IsSoundHow, Keeps, Outline, outline, outlines, declared, IsTameFunction, IsTameUnit, EvalStaysSound, ExecStaysSound, CopiesStaySound}
use Rattle.c_runs.proofs.Each.{each_get, each_append, each_of, each_take, each_replicate}
use Rattle.c_runs.proofs.SoundValues.{IfOk, Changed, value_more, object_more, converted_sound, scalar_bytes_sound}
use Rattle.c_runs.proofs.Sound.{Sound, changed_world, fine_one, assigned_sound, IsSoundArgument, IsSoundCall, CallsSound, eval_act}
use Rattle.c_runs.proofs.lemmas.SoundStatements.{SoundOut, exec_act}

-- ---- a call's objects are made behind the others

pub record Extends (old w : World) : Type 0 where
  pub made : old.storage.made ≤ w.storage.made
  pub rest : List Outline
  pub lives : outlines (objects w) ≡ outlines (objects old) ++ rest

pub outlines_append : (os : List Object) (x : Object) → outlines (os ++ x ∷ []) ≡ outlines os ++ outline x ∷ []
outlines_append [] x = refl
outlines_append (y ∷ ys) x = ap (λ zs. outline y ∷ zs) (outlines_append ys x)

flagged_same : (os : List Object) (place : ℕ) (constant : Bool) → outlines (flagged os place constant) ≡ outlines os
flagged_same [] place constant = refl
flagged_same (x ∷ xs) zero constant = refl
flagged_same (x ∷ xs) (suc n) constant = ap (λ zs. outline x ∷ zs) (flagged_same xs n constant)

pub through_same : (os : List Object) (p : Value) (constant : Bool) → outlines (flagged_through os p constant) ≡ outlines os
through_same os (Pointer o x) constant = flagged_same os o.place constant
through_same os (Number n) constant = refl
through_same os (Function f) constant = refl

flagged_sound : (m : ℕ) (os : List Object) (place : ℕ) (constant : Bool) → EachIs (IsSoundObject m) os → EachIs (IsSoundObject m) (flagged os place constant)
flagged_sound m [] place constant h = tt
flagged_sound m (x ∷ xs) zero constant h = (h.0, h.1)
flagged_sound m (x ∷ xs) (suc n) constant h = (h.0, flagged_sound m xs n constant h.1)

through_flagged : (m : ℕ) (os : List Object) (p : Value) (constant : Bool) → EachIs (IsSoundObject m) os → EachIs (IsSoundObject m) (flagged_through os p constant)
through_flagged m os (Pointer o x) constant h = flagged_sound m os o.place constant h
through_flagged m os (Number n) constant h = h
through_flagged m os (Function f) constant h = h

-- one object more
pub longer : (a b : List Outline) (os : List Object) (x : Object) → outlines os ≡ a ++ b → outlines (os ++ x ∷ []) ≡ a ++ (b ++ outline x ∷ [])
longer a b os x h = outlines_append os x ∙ ap (λ zs. zs ++ outline x ∷ []) h ∙ append_assoc a b (outline x ∷ [])

-- a further object
local_sound : (u : UnitTree) (w : World) (constant : Bool) (bytes : List (Byte Value)) → IsSound u w → EachIs (IsSoundByte (w.storage.made + 1)) bytes → IsSound u (with_local constant bytes w)
local_sound u w constant bytes s h =
    let m : ℕ = w.storage.made in
    record {
      own = (let a = s.own in omega (arith, a));
      others = s.others ++ outline (record { made = m; constant = constant; bytes = bytes }) ∷ [];
      live = longer (declared u) s.others (objects w) (record { made = m; constant = constant; bytes = bytes }) s.live;
      objects = each_append (IsSoundObject (m + 1)) (objects w) (record { made = m; constant = constant; bytes = bytes } ∷ []) (each_of (IsSoundObject m) (IsSoundObject (m + 1)) (objects w) (λ x g. object_more m (m + 1) x (omega arith) g) s.objects) ((omega arith, h), tt);
      locals = each_append (IsSoundValue (m + 1)) w.locals (next_place w (length bytes) ∷ []) (each_of (IsSoundValue m) (IsSoundValue (m + 1)) w.locals (λ v g. value_more m (m + 1) v (omega arith) g) s.locals) ((omega arith, omega arith), tt);
      input = s.input;
      trace = s.trace;
    }

local_extends : (old w : World) (constant : Bool) (bytes : List (Byte Value)) → Extends old w → Extends old (with_local constant bytes w)
local_extends old w constant bytes e =
    let x : Object = record { made = w.storage.made; constant = constant; bytes = bytes } in
    record {
      made = (let a = e.made in omega (arith, a));
      rest = e.rest ++ outline x ∷ [];
      lives = outlines_append (objects w) x ∙ ap (λ zs. zs ++ outline x ∷ []) e.lives ∙ append_assoc (outlines (objects old)) e.rest (outline x ∷ []);
    }

passed_sound : (u : UnitTree) (w : World) (constant : Bool) (v : Value) → IsSound u w → IsSoundValue w.storage.made v → IsSound u (with_passed constant v w)
passed_sound u w constant v s h = record {
  own = s.own;
  others = s.others;
  live = through_same (objects w) v constant ∙ s.live;
  objects = through_flagged w.storage.made (objects w) v constant s.objects;
  locals = each_append (IsSoundValue w.storage.made) w.locals (v ∷ []) s.locals (h, tt);
  input = s.input;
  trace = s.trace;
}

passed_extends : (old w : World) (constant : Bool) (v : Value) → Extends old w → Extends old (with_passed constant v w)
passed_extends old w constant v e = record { made = e.made; rest = e.rest; lives = through_same (objects w) v constant ∙ e.lives }

-- ---- what a body comes to, behind the objects that lived at its start

abbrev IsSoundBody : UnitTree → World → Out → Type 0
IsSoundBody u old (Next k w) = IsSound u w × Extends old w
IsSoundBody u old (Break k w) = IsSound u w
IsSoundBody u old (Continue k w) = IsSound u w
IsSoundBody u old (Return v line k w) = IfSome v (IsSoundValue w.storage.made) × (IsSound u w × Extends old w)
IsSoundBody u old (Goto l k w) = IsSound u w
IsSoundBody u old (Over how w) = IsSoundHow how × IsSound u w

pub record SoundBody (u : UnitTree) (old : World) (o : Out) : Type 0 where
  pub by : IsSoundBody u old o

extends_on : (old w x : World) → Extends old w → Keeps w x → Extends old x
extends_on old w x e h = record { made = (let a = e.made in let b = h.made in omega (arith, a, b)); rest = e.rest; lives = h.lives ∙ e.lives }

body_of_out : (u : UnitTree) (old w : World) (o : Out) → Extends old w → SoundOut u w o → SoundBody u old o
body_of_out u old w (Next k x) e s = record { by = (s.by.0, extends_on old w x e s.by.1) }
body_of_out u old w (Break k x) e s = record { by = s.by.0 }
body_of_out u old w (Continue k x) e s = record { by = s.by.0 }
body_of_out u old w (Return v line k x) e s = record { by = (s.by.0, (s.by.1.0, extends_on old w x e s.by.1.1)) }
body_of_out u old w (Goto l k x) e s = record { by = s.by.0 }
body_of_out u old w (Over how x) e s = record { by = s.by }

abbrev GoesOn : UnitTree → World → (ℕ → World → Out) → Type 0
GoesOn u old go = (k : ℕ) (w : World) → IsSound u w → Extends old w → SoundBody u old (go k w)

done_body : {A : Type 0} (u : UnitTree) (old : World) (P : A → Type 0) (c : Checked A Cause) (line : ℕ) (w : World) (go : A → Out) → IsSound u w → IfOk P c → ((a : A) → P a → SoundBody u old (go a)) → SoundBody u old (if_done c line w go)
done_body u old P (Ok a) line w go s h g = g a h
done_body u old P (Err cause) line w go s h g = record { by = (tt, s) }

either_body : (u : UnitTree) (old : World) (b : Bool) (go other : ℕ → World → Out) (k : ℕ) (w : World) → SoundBody u old (go k w) → SoundBody u old (other k w) → SoundBody u old (either b go other k w)
either_body u old true go other k w a c = a
either_body u old false go other k w a c = c

parameter_sound : (u : UnitTree) (order : Order) (old : World) (t : CType) (a : Argument) (go : ℕ → World → Out) → IsSoundArgument old.storage.made a → GoesOn u old go → GoesOn u old (λ k w. with_parameter u.tags order t a k w go)
parameter_sound u order old t a go h g k w s e =
    let m : ℕ = w.storage.made in
    let v : IsSoundValue m a.value = value_more old.storage.made m a.value e.made h in
    either_body u old (is_record t) _ _ k w
    (g k (with_passed (is_const t) a.value w) (passed_sound u w (is_const t) a.value s v) (passed_extends old w (is_const t) a.value e))
    (done_body u old (IsSoundValue m) (converted (scalar_of t) a.value) a.line w _ s (converted_sound m (scalar_of t) a.value v)
    (λ x sx. let bytes : List (Byte Value) = scalar_bytes order (scalar_of t).width x in
    g k (with_local (is_const t) bytes w) (local_sound u w (is_const t) bytes s (scalar_bytes_sound (m + 1) order (scalar_of t).width x (value_more m (m + 1) x (omega arith) sx))) (local_extends old w (is_const t) bytes e)))

pub parameters_sound : (u : UnitTree) (order : Order) (old : World) (ts : List CType) (xs : List Argument) (go : ℕ → World → Out) → EachIs (IsSoundArgument old.storage.made) xs → GoesOn u old go → GoesOn u old (λ k w. with_parameters u.tags order ts xs k w go)
parameters_sound u order old [] xs go h g k w s e = g k w s e
parameters_sound u order old (t ∷ ts) [] go h g k w s e = record { by = (tt, s) }
parameters_sound u order old (t ∷ ts) (a ∷ xs) go h g k w s e = parameter_sound u order old t a _ h.0 (parameters_sound u order old ts xs go h.1 g) k w s e

pub locals_sound : (u : UnitTree) (tags : List Tag) (old : World) (ts : List CType) (w : World) → IsSound u w → Extends old w → IsSound u (with_locals tags ts w) × Extends old (with_locals tags ts w)
locals_sound u tags old [] w s e = (s, e)
locals_sound u tags old (t ∷ ts) w s e =
    let bytes : List (Byte Value) = replicate (size_of tags t) unknown_byte in
    locals_sound u tags old ts (with_local (is_const t) bytes w) (local_sound u w (is_const t) bytes s (each_replicate (IsSoundByte (w.storage.made + 1)) (size_of tags t) unknown_byte (omega arith, omega arith))) (local_extends old w (is_const t) bytes e)

pub entered_sound : (u : UnitTree) (w : World) (number : ℕ) → IsSound u w → IsSound u (entered (Opened number) w) × Extends w (entered (Opened number) w)
entered_sound u w number s = (
  record { own = s.own; others = s.others; live = s.live; objects = s.objects; locals = tt; input = s.input; trace = each_append IsSoundEvent w.trace (Opened number ∷ []) s.trace (tt, tt) },
  record { made = omega arith; rest = []; lives = sym (append-nil (outlines (objects w))) },
)

pub body_sound : (s : Setting) → CallsSound s.unit s.calls → EachIs IsText s.unit.texts → (f : FunctionTree) → IsTameFunction f → (number : ℕ) (xs : List Argument) (k : ℕ) (w : World) → IsSound s.unit w → EachIs (IsSoundArgument w.storage.made) xs → SoundBody s.unit w (body_run s f number xs k w)
body_sound s C T f t number xs k w q h =
    let start = entered_sound s.unit w number q in
    parameters_sound s.unit s.order w (own_parameters f) xs _ h
    (λ k1 w1 s1 e1. let z = locals_sound s.unit s.unit.tags w (drop f.parameters f.locals) w1 s1 e1 in
    let w2 : World = with_locals s.unit.tags (drop f.parameters f.locals) w1 in
    body_of_out s.unit w w2 (exec s f.body Start k1 w2) z.1 ((exec_act s C T f.body Start t).by k1 w2 (omega arith) z.0))
    k (entered (Opened number) w) start.0 start.1

-- ---- what a call gives

outlines_take : (n : ℕ) (os : List Object) → outlines (take n os) ≡ take n (outlines os)
outlines_take zero os = refl
outlines_take (suc n) [] = refl
outlines_take (suc n) (x ∷ xs) = ap (λ zs. outline x ∷ zs) (outlines_take n xs)

take_first : (os : List Object) (rest : List Outline) → take (length os) (outlines os ++ rest) ≡ outlines os
take_first [] rest = refl
take_first (x ∷ xs) rest = ap (λ zs. outline x ∷ zs) (take_first xs rest)

left_lives : (old w : World) → Extends old w → outlines (take (length (objects old)) (objects w)) ≡ outlines (objects old)
left_lives old w e = outlines_take (length (objects old)) (objects w) ∙ ap (λ zs. take (length (objects old)) zs) e.lives ∙ take_first (objects old) e.rest

left_sound : (u : UnitTree) (old w : World) → IsSound u old → IsSound u w → Extends old w → IsSound u (left_behind Closed old w) × Keeps old (left_behind Closed old w)
left_sound u old w q s e = (
  record {
    own = s.own;
    others = q.others;
    live = left_lives old w e ∙ q.live;
    objects = each_take (IsSoundObject w.storage.made) (length (objects old)) (objects w) s.objects;
    locals = each_of (IsSoundValue old.storage.made) (IsSoundValue w.storage.made) old.locals (λ v g. value_more old.storage.made w.storage.made v e.made g) q.locals;
    input = s.input;
    trace = each_append IsSoundEvent w.trace (Closed ∷ []) s.trace (tt, tt);
  },
  record {
    made = e.made;
    lives = left_lives old w e;
    locals = refl;
  },
)

handed_sound : (u : UnitTree) (of : CType) (copy : Option Value) (v : Value) (line k : ℕ) (old w : World) → IsSound u old → IfSome copy (IsSoundValue old.storage.made) → IsSound u w → Extends old w → IsSoundValue w.storage.made v → Sound u old (handed u.tags of copy v line k old w)
handed_sound u of None v line k old w q c s e h = record { by = (h, left_sound u old w q s e) }
handed_sound u of (Some p) v line k old w q c s e h =
    fine_one u (Changed w.storage.made (objects w)) (assigned Initialisation u.tags of (objects w) v p) line old w _ s (assigned_sound w.storage.made Initialisation u.tags of (objects w) v p s.objects)
    (λ os x. let z = changed_world u w os s x in record { by = (value_more old.storage.made w.storage.made p e.made c, left_sound u old (with_objects w os) q z.0 (extends_on old w (with_objects w os) e z.1)) })

returned_sound : (u : UnitTree) (a : Call) (o : Out) → IsSoundCall u a → SoundBody u a.world o → Sound u a.world (returned u.tags a o)
returned_sound u a (Next k w) q s = record { by = left_sound u a.world w q.world s.by.0 s.by.1 }
returned_sound u a (Return None line k w) q s = record { by = left_sound u a.world w q.world s.by.1.0 s.by.1.1 }
returned_sound u a (Return (Some v) line k w) q s = handed_sound u a.of a.result v line k a.world w q.world q.result s.by.1.0 s.by.1.1 s.by.0
returned_sound u a (Break k w) q s = record { by = (tt, s.by) }
returned_sound u a (Continue k w) q s = record { by = (tt, s.by) }
returned_sound u a (Goto l k w) q s = record { by = (tt, s.by) }
returned_sound u a (Over how w) q s = record { by = s.by }

-- ---- calls

function_sound : (s : Setting) → CallsSound s.unit s.calls → EachIs IsText s.unit.texts → (f : Option FunctionTree) → IfSome f IsTameFunction → (a : Call) (k : ℕ) → IsSoundCall s.unit a → Sound s.unit a.world (function_run s f a k)
function_sound s C T None t a k q = record { by = (tt, q.world) }
function_sound s C T (Some f) t a k q = returned_sound s.unit a (body_run s f a.function a.arguments k a.world) q (body_sound s C T f t a.function a.arguments k a.world q.world q.arguments)

if_sound : (u : UnitTree) (old : World) (b : Bool) (x y : Result) → Sound u old x → Sound u old y → Sound u old (elim b as (λ c. Result) [ true ↦ x | false ↦ y ])
if_sound u old true x y h g = h
if_sound u old false x y h g = g

below_sound : (u : UnitTree) (order : Order) → IsTameUnit u → (m : ℕ) → CallsSound u (λ j b. calls_below u order m j b)
unfolding calls_below below
below_sound u order t zero k a q = record { by = (tt, q.world) }
below_sound u order t (suc m) k a q =
    if_sound u a.world (k == m) (called u order (λ j b. calls_below u order m j b) k a) (calls_below u order m k a)
    (function_sound (setting u order (λ j b. calls_below u order m j b)) (below_sound u order t m) t.texts (slice_get u.functions a.function) (each_get IsTameFunction u.functions a.function t.functions) a k q)
    (below_sound u order t m k a q)

pub call_sound : (u : UnitTree) (order : Order) → IsTameUnit u → CallsSound u (λ j b. call u order j b)
unfolding call
call_sound u order t k a q = function_sound (setting u order (λ j b. calls_below u order k j b)) (below_sound u order t k) t.texts (slice_get u.functions a.function) (each_get IsTameFunction u.functions a.function t.functions) a k q

pub eval_sound : EvalStaysSound
unfolding context
eval_sound u order c k w t h s = ((eval_act (context u order) (call_sound u order t) c h).by k w (omega arith) s).by

pub exec_sound : ExecStaysSound
unfolding context
exec_sound u order x e k w t h s = ((exec_act (context u order) (call_sound u order t) t.texts x e h).by k w (omega arith) s).by

fine_is : {A : Type 0} (P : A → Type 0) (c : Checked A Cause) (a : A) → c ≡ Ok a → IfOk P c → P a
fine_is P c a e h = let g : IfOk P (Ok a) = subst (λ x. IfOk P x) e h in g

pub copies_stay_sound : CopiesStaySound
copies_stay_sound u purpose of from to w os s e = changed_world u w os s (fine_is (Changed w.storage.made (objects w)) (assigned purpose u.tags of (objects w) from to) os e (assigned_sound w.storage.made purpose u.tags of (objects w) from to s.objects))
