-- Whole runs are sound: the world in which a program starts is, and main's first call keeps it so.
use Rattle.std.specs.Prelude.{◌≡◌, ◌≤◌, ℕ, ◌+◌, ◌==◌, zero, suc, Bool, true, false, Option, Some, None, IfSome, List, [], ◌∷◌, ◌++◌, length, replicate, slice_get, refl}
use Rattle.std.proofs.Common.{ap, sym, ◌∙◌, arith, subst, append_assoc, append-nil}
use Rattle.objects.specs.declared.byte.Byte.{Byte}
use Rattle.objects.specs.declared.value.Value.{Value}
use Rattle.objects.specs.declared.value.Value.TheVariants.{Number, Pointer, Function}
use Rattle.objects.specs.Bytes.{known_bytes}
use Rattle.c_types.specs.Constness.{is_const}
use Rattle.c_types.specs.Layout.{Tag}
use Rattle.c_meaning.specs.Each.{EachIs}
use Rattle.c_meaning.specs.Units.{unit_seen, FunctionTree, ObjectTree, UnitTree}
use Rattle.c_runs.specs.Worlds.{World, objects, made, next_place}
use Rattle.c_runs.specs.Outcomes.{Out, Next, Break, Continue, Return, Goto, Over, then_next, either}
use Rattle.c_runs.specs.Places.{size_of, static_place}
use Rattle.c_runs.specs.Calls.{Call, Setting, fits}
use Rattle.c_runs.specs.Statements.{fill}
use Rattle.c_runs.specs.Run.{context, filled_from, started, with_objects_of, with_texts, empty_world, with_null, main_arguments, main_call, main_with, main_run, body_run, Ending, status, ended_by}
use Rattle.c_meaning.specs.Numbers.{IsByte, IsText}
use Rattle.c_runs.specs.Soundness.{IsSoundValue, IsSoundObject, IsSoundEvent, IsSound, IsSoundHow, Outline, outline, outlines, text_outlines, own_outlines, declared, IsTameObject, IsTameFunction, RunStaysSound, CoreStaysSound}
use Rattle.c_runs.proofs.Each.{each_get, each_append, each_of, each_replicate}
use Rattle.c_runs.proofs.SoundValues.{value_more, object_more, known_sound}
use Rattle.c_runs.proofs.Sound.{CallsSound}
use Rattle.c_runs.proofs.Tame.{units_are_tame}
use Rattle.c_runs.proofs.lemmas.SoundStatements.{SoundOut, SoundOuts, next_acts, fill_act}
use Rattle.c_runs.proofs.lemmas.SoundCalls.{SoundBody, outlines_append, longer, body_sound, call_sound}

-- ---- the start: the unit's own objects are made, and then all is sound but for their number

record IsSoundStart (w : World) : Type 0 where
  objects : EachIs (IsSoundObject w.storage.made) w.storage.objects
  locals : w.locals ≡ []
  input : EachIs IsByte w.input
  trace : w.trace ≡ []

made_start : (w : World) (constant : Bool) (bytes : List ℕ) → IsText bytes → IsSoundStart w → IsSoundStart (made constant (known_bytes bytes) w)
made_start w constant bytes t s =
    let m : ℕ = w.storage.made in
    record {
      objects = each_append (IsSoundObject (m + 1)) (objects w) (record { made = m; constant = constant; bytes = known_bytes bytes } ∷ []) (each_of (IsSoundObject m) (IsSoundObject (m + 1)) (objects w) (λ x g. object_more m (m + 1) x (omega arith) g) s.objects) ((omega arith, known_sound (m + 1) bytes t), tt);
      locals = s.locals;
      input = s.input;
      trace = s.trace;
    }

objects_start : (tags : List Tag) (os : List ObjectTree) (w : World) → IsSoundStart w → IsSoundStart (with_objects_of tags os w)
objects_start tags [] w s = s
objects_start tags (o ∷ os) w s = objects_start tags os _ (made_start w (is_const o.of) (replicate (size_of tags o.of) 0) (each_replicate IsByte (size_of tags o.of) 0 (omega arith)) s)

objects_made : (tags : List Tag) (os : List ObjectTree) (w : World) → (with_objects_of tags os w).storage.made ≡ w.storage.made + length os
objects_made tags [] w = omega arith
objects_made tags (o ∷ os) w = let h = objects_made tags os (made (is_const o.of) (known_bytes (replicate (size_of tags o.of) 0)) w) in h ∙ omega arith

ended_text : (bytes : List ℕ) → IsText bytes → IsText (bytes ++ 0 ∷ [])
ended_text bytes t = each_append IsByte bytes (0 ∷ []) t (omega arith, tt)

texts_start : (ts : List (List ℕ)) (w : World) → EachIs IsText ts → IsSoundStart w → IsSoundStart (with_texts ts w)
texts_start [] w t s = s
texts_start (x ∷ ts) w t s = texts_start ts _ t.1 (made_start w true (x ++ 0 ∷ []) (ended_text x t.0) s)

texts_made : (ts : List (List ℕ)) (w : World) → (with_texts ts w).storage.made ≡ w.storage.made + length ts
texts_made [] w = omega arith
texts_made (x ∷ ts) w = let h = texts_made ts (made true (known_bytes (x ++ 0 ∷ [])) w) in h ∙ omega arith

abbrev outline_by : ℕ → ℕ → Outline
outline_by m n = record { made = m; size = n }

abbrev known : List ℕ → List (Byte Value)
known ns = known_bytes ns

same_outline_of : (a b c d : ℕ) → a ≡ b → c ≡ d → outline_by a c ≡ outline_by b d
same_outline_of a b c d e h = ap (λ x. outline_by x c) e ∙ ap (λ x. outline_by b x) h

known_length : (ns : List ℕ) → length (known ns) ≡ length ns
known_length [] = refl
known_length (n ∷ ns) = ap suc (known_length ns)

length-replicate : (n x : ℕ) → length (replicate n x) ≡ n
length-replicate zero x = refl
length-replicate (suc n) x = ap suc (length-replicate n x)

-- each has its size
texts_live : (ts : List (List ℕ)) (w : World) (n : ℕ) → w.storage.made ≡ n → outlines (objects (with_texts ts w)) ≡ outlines (objects w) ++ text_outlines n ts
texts_live [] w n e = sym (append-nil (outlines (objects w)))
texts_live (x ∷ ts) w n e =
    let bytes : List (Byte Value) = known_bytes (x ++ 0 ∷ []) in
    texts_live ts (made true bytes w) (n + 1) (ap (λ m. m + 1) e)
    ∙ ap (λ zs. zs ++ text_outlines (n + 1) ts) (outlines_append (objects w) (record { made = w.storage.made; constant = true; bytes = bytes }))
    ∙ append_assoc (outlines (objects w)) (record { made = w.storage.made; size = length bytes } ∷ []) (text_outlines (n + 1) ts)
    ∙ ap (λ (x1 : Outline). outlines (objects w) ++ x1 ∷ text_outlines (n + 1) ts) (same_outline_of w.storage.made n (length bytes) (length (x ++ 0 ∷ [])) e (known_length (x ++ 0 ∷ [])))

objects_live : (tags : List Tag) (os : List ObjectTree) (ts : List (List ℕ)) (w : World) (n : ℕ) → w.storage.made ≡ n → outlines (objects (with_texts ts (with_objects_of tags os w))) ≡ outlines (objects w) ++ own_outlines tags n os ts
objects_live tags [] ts w n e = texts_live ts w n e
objects_live tags (o ∷ os) ts w n e =
    let bytes : List (Byte Value) = known_bytes (replicate (size_of tags o.of) 0) in
    objects_live tags os ts (made (is_const o.of) bytes w) (n + 1) (ap (λ m. m + 1) e)
    ∙ ap (λ zs. zs ++ own_outlines tags (n + 1) os ts) (outlines_append (objects w) (record { made = w.storage.made; constant = is_const o.of; bytes = bytes }))
    ∙ append_assoc (outlines (objects w)) (record { made = w.storage.made; size = length bytes } ∷ []) (own_outlines tags (n + 1) os ts)
    ∙ ap (λ (x1 : Outline). outlines (objects w) ++ x1 ∷ own_outlines tags (n + 1) os ts) (same_outline_of w.storage.made n (length bytes) (size_of tags o.of) e (known_length (replicate (size_of tags o.of) 0) ∙ length-replicate (size_of tags o.of) 0))

start_sound : (u : UnitTree) (w : World) → IsSoundStart w → length u.objects + length u.texts ≤ w.storage.made → outlines (objects w) ≡ declared u → IsSound u w
start_sound u w s h g = record {
  own = h;
  others = [];
  live = g ∙ sym (append-nil (declared u));
  objects = s.objects;
  locals = subst (λ vs. EachIs (IsSoundValue w.storage.made) vs) (sym s.locals) tt;
  input = s.input;
  trace = subst (λ es. EachIs IsSoundEvent es) (sym s.trace) tt;
}

abbrev first_world : UnitTree → List ℕ → World
first_world u input = with_texts u.texts (with_objects_of u.tags u.objects (empty_world input))

first_sound : (u : UnitTree) (input : List ℕ) → EachIs IsText u.texts → EachIs IsByte input → IsSound u (first_world u input)
first_sound u input t h =
    let a = objects_made u.tags u.objects (empty_world input) in
    let b = texts_made u.texts (with_objects_of u.tags u.objects (empty_world input)) in
    start_sound u (first_world u input)
    (texts_start u.texts (with_objects_of u.tags u.objects (empty_world input)) t (objects_start u.tags u.objects (empty_world input) (record { objects = tt; locals = refl; input = h; trace = refl })))
    (omega (arith, a, b))
    (objects_live u.tags u.objects u.texts (empty_world input) 0 refl)

filled_act : (s : Setting) → CallsSound s.unit s.calls → EachIs IsText s.unit.texts → (n : ℕ) (os : List ObjectTree) → EachIs IsTameObject os → SoundOuts s.unit 0 (λ k w. filled_from s n os k w)
filled_act s C T n [] t = record { by = λ k w l q. record { by = (q, record { made = omega arith; lives = refl; locals = refl }) } }
filled_act s C T n (o ∷ os) t = next_acts s.unit (λ k w. fill s (static_place n (size_of s.unit.tags o.of)) o.places k w) (λ k w. filled_from s (n + 1) os k w) (fill_act s C T (static_place n (size_of s.unit.tags o.of)) o.places t.0) (filled_act s C T (n + 1) os t.1)

-- ---- how a run ends

abbrev IsSoundEnding : UnitTree → Ending → Type 0
IsSoundEnding u e = IsSoundHow e.how × IsSound u e.world

status_sound : (u : UnitTree) (v : Value) (line : ℕ) (w : World) → IsSoundValue w.storage.made v → IsSound u w → IsSoundEnding u (status v line w)
status_sound u (Number n) line w h s = (h, s)
status_sound u (Pointer o x) line w h s = (tt, s)
status_sound u (Function f) line w h s = (tt, s)

ended_sound : (u : UnitTree) (old : World) (o : Out) → SoundBody u old o → IsSoundEnding u (ended_by o)
ended_sound u old (Next k w) s = (omega arith, s.by.0)
ended_sound u old (Return None line k w) s = (omega arith, s.by.1.0)
ended_sound u old (Return (Some v) line k w) s = status_sound u v line w s.by.0 s.by.1.0
ended_sound u old (Break k w) s = (tt, s.by)
ended_sound u old (Continue k w) s = (tt, s.by)
ended_sound u old (Goto l k w) s = (tt, s.by)
ended_sound u old (Over how w) s = s.by

null_sound : (u : UnitTree) (w : World) → IsSound u w → IsSound u (with_null w)
null_sound u w s =
    let m : ℕ = w.storage.made in
    record {
      own = (let a = s.own in omega (arith, a));
      others = s.others ++ outline (record { made = m; constant = false; bytes = known_bytes (0 ∷ 0 ∷ 0 ∷ 0 ∷ []) }) ∷ [];
      live = longer (declared u) s.others (objects w) (record { made = m; constant = false; bytes = known_bytes (0 ∷ 0 ∷ 0 ∷ 0 ∷ []) }) s.live;
      objects = each_append (IsSoundObject (m + 1)) (objects w) (record { made = m; constant = false; bytes = known_bytes (0 ∷ 0 ∷ 0 ∷ 0 ∷ []) } ∷ []) (each_of (IsSoundObject m) (IsSoundObject (m + 1)) (objects w) (λ x g. object_more m (m + 1) x (omega arith) g) s.objects) ((omega arith, known_sound (m + 1) (0 ∷ 0 ∷ 0 ∷ 0 ∷ []) (omega arith, (omega arith, (omega arith, (omega arith, tt))))), tt);
      locals = each_of (IsSoundValue m) (IsSoundValue (m + 1)) w.locals (λ v g. value_more m (m + 1) v (omega arith) g) s.locals;
      input = s.input;
      trace = s.trace;
    }

either_ended : (u : UnitTree) (b : Bool) (go other : ℕ → World → Out) (k : ℕ) (w : World) → IsSoundEnding u (ended_by (go k w)) → IsSoundEnding u (ended_by (other k w)) → IsSoundEnding u (ended_by (either b go other k w))
either_ended u true go other k w a c = a
either_ended u false go other k w a c = c

main_sound : (s : Setting) → CallsSound s.unit s.calls → EachIs IsText s.unit.texts → (f : Option FunctionTree) → IfSome f IsTameFunction → (k : ℕ) (w : World) → IsSound s.unit w → IsSoundEnding s.unit (ended_by (main_run s f k w))
main_sound s C T None t k w q = (tt, q)
main_sound s C T (Some f) t k w q =
    let a : Call = main_call s.unit (main_arguments (next_place w 4)) (with_null w) in
    let n = null_sound s.unit w q in
    either_ended s.unit (f.parameters == 0) (λ k1 w1. body_run s f s.unit.main [] k1 w1) (λ k1 w1. main_with s f (main_call s.unit (main_arguments (next_place w1 4)) (with_null w1)) k1 (with_null w1)) k w
    (ended_sound s.unit w (body_run s f s.unit.main [] k w) (body_sound s C T f t s.unit.main [] k w q tt))
    (either_ended s.unit (fits f a) (λ k1 w1. body_run s f a.function a.arguments k1 w1) _ k (with_null w)
    (ended_sound s.unit (with_null w) (body_run s f a.function a.arguments k (with_null w)) (body_sound s C T f t a.function a.arguments k (with_null w) n (omega arith, ((omega arith, omega arith), tt))))
    (tt, n))

then_main : (s : Setting) → CallsSound s.unit s.calls → EachIs IsText s.unit.texts → (f : Option FunctionTree) → IfSome f IsTameFunction → (old : World) (o : Out) → SoundOut s.unit old o → IsSoundEnding s.unit (ended_by (then_next o (λ k w. main_run s f k w)))
then_main s C T f t old (Next k w) h = main_sound s C T f t k w h.by.0
then_main s C T f t old (Return None line k w) h = (omega arith, h.by.1.0)
then_main s C T f t old (Return (Some v) line k w) h = status_sound s.unit v line w h.by.0 h.by.1.0
then_main s C T f t old (Break k w) h = (tt, h.by.0)
then_main s C T f t old (Continue k w) h = (tt, h.by.0)
then_main s C T f t old (Goto l k w) h = (tt, h.by.0)
then_main s C T f t old (Over how w) h = h.by

pub run_sound : RunStaysSound
unfolding context
run_sound u order input k t h =
    let s : Setting = context u order in
    then_main s (call_sound u order t) t.texts (slice_get u.functions u.main) (each_get IsTameFunction u.functions u.main t.functions) (first_world u input) (started s input k)
    ((filled_act s (call_sound u order t) t.texts 0 u.objects t.objects).by k (first_world u input) (omega arith) (first_sound u input t.texts h))

pub core_sound : CoreStaysSound
core_sound u order input k w h = run_sound (unit_seen u) order input k (units_are_tame (unit_seen u) w.unit) h
