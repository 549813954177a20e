-- Calls make objects of their locals' sizes, and keep them.
use Rattle.std.specs.Prelude.{◌≡◌, ℕ, zero, suc, Bool, true, false, Some, List, [], ◌∷◌, ◌++◌, length, drop, replicate, slice_get, Result as Checked, Ok, Err, refl}
use Rattle.std.proofs.Common.{ap, sym, ◌∙◌, subst, append_assoc, append-nil}
use Rattle.std.proofs.lemmas.Option.{same_Some}
use Rattle.std.proofs.lemmas.List.{length-map, length-replicate, take-append-drop}
use Rattle.lcc_base.specs.declared.cause.Cause.{Cause}
use Rattle.lcc_base.specs.declared.cause.Cause.TheVariants.{PointerNumber}
use Rattle.lcc_base.specs.declared.order.Order.{Order}
use Rattle.lcc_base.specs.Traces.{Opened}
use Rattle.objects.specs.declared.byte.Byte.{Byte}
use Rattle.objects.specs.declared.value.Value.{Value}
use Rattle.objects.specs.declared.value.Value.TheVariants.{Number, Pointer, Function}
use Rattle.objects.specs.declared.width.Scalar.{Scalar}
use Rattle.objects.specs.declared.width.Width.{Width}
use Rattle.objects.specs.declared.width.Width.TheVariants.{One, Two, Four}
use Rattle.objects.proofs.lemmas.AccessLaws.{bytes_count}
use Rattle.objects.specs.Bytes.{unknown_byte}
use Rattle.objects.specs.Causes.{first_cause, unless, is_narrowed}
use Rattle.objects.specs.Conversions.{as_type, converted}
use Rattle.objects.specs.Objects.{Object}
use Rattle.objects.specs.Scalars.{scalar_bytes}
use Rattle.objects.specs.Values.{bytes_in}
use Rattle.c_types.specs.CType.{CType, Plain, Array, Simple, Structure, Union, Enumeration, Void, Char, SignedChar, UnsignedChar, Short, UnsignedShort, Int, Unsigned, Long, UnsignedLong}
use Rattle.c_types.specs.CType as type
use Rattle.c_types.specs.Constness.{is_const}
use Rattle.c_types.specs.Layout.{Tag}
use Rattle.c_meaning.specs.Each.{EachIs}
use Rattle.c_meaning.specs.Fits.{is_whole}
use Rattle.c_meaning.specs.Scalars.{scalar_of}
use Rattle.c_meaning.specs.Types.{is_record}
use Rattle.c_meaning.specs.Units.{UnitTree}
use Rattle.c_runs.specs.Worlds.{World, objects, with_local, with_passed, entered, next_place}
use Rattle.c_runs.specs.Outcomes.{Out, Next, Break, Continue, Return, Goto, Over, either, if_done, then_next}
use Rattle.c_runs.specs.Places.{size_of}
use Rattle.c_runs.specs.Calls.{Argument, with_parameter, with_parameters, with_locals, own_parameters}
use Rattle.c_runs.specs.Statements.{Start, exec}
use Rattle.c_runs.specs.Soundness.{IsSound, Outline, outline, outlines, IsObjectOf, AreObjectsOf, AreLocalsOf}
use Rattle.c_runs.specs.Locals.{body_start, IfOpen, IsPassed, ArePassed, BodiesStart, EntriesMakeLocals, EntriesStaySound, LocalsAreKept, LocalIsObject}
use Rattle.c_runs.proofs.SoundValues.{IfOk}
use Rattle.c_runs.proofs.lemmas.SoundCalls.{SoundBody, outlines_append, through_same, parameters_sound, locals_sound, entered_sound}

-- ---- more objects

at_more : {A : Type 0} (xs ys : List A) (n : ℕ) (x : A) → slice_get xs n ≡ Some x → slice_get (xs ++ ys) n ≡ Some x
at_more [] ys n x e = absurd (let never : ⊥ = cc in never)
at_more (y ∷ xs) ys zero x e = e
at_more (y ∷ xs) ys (suc n) x e = at_more xs ys n x e

at_end : {A : Type 0} (xs : List A) (x : A) → slice_get (xs ++ x ∷ []) (length xs) ≡ Some x
at_end [] x = refl
at_end (y ∷ xs) x = at_end xs x

object_on : (lives more : List Outline) (size : ℕ) (v : Value) → IsObjectOf lives size v → IsObjectOf (lives ++ more) size v
object_on lives more size (Pointer name offset) h = (h.0, (h.1.0, at_more lives more name.place (record { made = name.made; size = size }) h.1.1))
object_on lives more size (Number n) h = h
object_on lives more size (Function f) h = h

objects_on : (tags : List Tag) (lives more : List Outline) (ts : List CType) (vs : List Value) → AreObjectsOf tags lives ts vs → AreObjectsOf tags (lives ++ more) ts vs
objects_on tags lives more [] [] h = tt
objects_on tags lives more [] (v ∷ vs) h = h
objects_on tags lives more (t ∷ ts) [] h = h
objects_on tags lives more (t ∷ ts) (v ∷ vs) h = (object_on lives more (size_of tags t) v h.0, objects_on tags lives more ts vs h.1)

objects_then : (tags : List Tag) (lives : List Outline) (ts : List CType) (vs : List Value) (t : CType) (v : Value) → AreObjectsOf tags lives ts vs → IsObjectOf lives (size_of tags t) v → AreObjectsOf tags lives (ts ++ t ∷ []) (vs ++ v ∷ [])
objects_then tags lives [] [] t v h g = (g, tt)
objects_then tags lives [] (u ∷ vs) t v h g = absurd h
objects_then tags lives (s ∷ ts) [] t v h g = absurd h
objects_then tags lives (s ∷ ts) (u ∷ vs) t v h g = (h.0, objects_then tags lives ts vs t v h.1 g)

-- ---- one local more

-- these locals are there, and what lived before lives on
record HasLocals (tags : List Tag) (lives : List Outline) (ts : List CType) (w : World) : Type 0 where
  more : List Outline
  on : outlines (objects w) ≡ lives ++ more
  locals : AreLocalsOf tags ts w

new_named : (os : List Object) (x : Object) (size : ℕ) → length x.bytes ≡ size → IsObjectOf (outlines os ++ outline x ∷ []) size (Pointer (record { place = length os; made = x.made; size = length x.bytes }) 0)
new_named os x size e =
    let there : slice_get (outlines os ++ outline x ∷ []) (length os) ≡ Some (outline x) = subst (λ n. slice_get (outlines os ++ outline x ∷ []) n ≡ Some (outline x)) (length-map os outline) (at_end (outlines os) (outline x)) in
    (refl, (e, there ∙ ap (λ m. Some (record { made = x.made; size = m })) e))

new_local : (tags : List Tag) (lives : List Outline) (ts : List CType) (w : World) (constant : Bool) (bytes : List (Byte Value)) (t : CType) → length bytes ≡ size_of tags t → HasLocals tags lives ts w → HasLocals tags lives (ts ++ t ∷ []) (with_local constant bytes w)
new_local tags lives ts w constant bytes t e h =
    let x : Object = record { made = w.storage.made; constant = constant; bytes = bytes } in
    record {
      more = h.more ++ outline x ∷ [];
      on = outlines_append (objects w) x ∙ ap (λ zs. zs ++ outline x ∷ []) h.on ∙ append_assoc lives h.more (outline x ∷ []);
      locals = subst (λ ls. AreObjectsOf tags ls (ts ++ t ∷ []) (w.locals ++ next_place w (length bytes) ∷ [])) (sym (outlines_append (objects w) x))
          (objects_then tags (outlines (objects w) ++ outline x ∷ []) ts w.locals t (next_place w (length bytes)) (objects_on tags (outlines (objects w)) (outline x ∷ []) ts w.locals h.locals) (new_named (objects w) x (size_of tags t) e));
    }

passed_local : (tags : List Tag) (lives : List Outline) (ts : List CType) (w : World) (constant : Bool) (v : Value) (t : CType) → IsObjectOf lives (size_of tags t) v → HasLocals tags lives ts w → HasLocals tags lives (ts ++ t ∷ []) (with_passed constant v w)
passed_local tags lives ts w constant v t g h =
    let same : outlines (objects (with_passed constant v w)) ≡ outlines (objects w) = through_same (objects w) v constant in
    record {
      more = h.more;
      on = same ∙ h.on;
      locals = subst (λ ls. AreObjectsOf tags ls (ts ++ t ∷ []) (w.locals ++ v ∷ [])) (sym same)
          (objects_then tags (outlines (objects w)) ts w.locals t v h.locals (subst (λ ls. IsObjectOf ls (size_of tags t) v) (sym h.on) (object_on lives h.more (size_of tags t) v g)));
    }

others_made : (tags : List Tag) (lives : List Outline) (done ts : List CType) (w : World) → HasLocals tags lives done w → AreLocalsOf tags (done ++ ts) (with_locals tags ts w)
others_made tags lives done [] w h = subst (λ xs. AreLocalsOf tags xs w) (sym (append-nil done)) h.locals
others_made tags lives done (t ∷ ts) w h =
    let bytes : List (Byte Value) = replicate (size_of tags t) unknown_byte in
    let next : World = with_local (is_const t) bytes w in
    subst (λ xs. AreLocalsOf tags xs (with_locals tags ts next)) (append_assoc done (t ∷ []) ts)
    (others_made tags lives (done ++ t ∷ []) ts next (new_local tags lives done w (is_const t) bytes t (length-replicate (size_of tags t) unknown_byte) h))

-- ---- the bytes of an argument

narrowed_same : (w : Width) (signed : Bool) (v : Value) → is_narrowed w (as_type (record { width = w; signed = signed }) v) ≡ is_narrowed w v
narrowed_same One signed (Number n) = refl
narrowed_same Two signed (Number n) = refl
narrowed_same Four signed (Number n) = refl
narrowed_same w signed (Pointer o x) = refl
narrowed_same w signed (Function f) = refl

sized_by : (order : Order) (s : Scalar) (v : Value) (b : Bool) → is_narrowed s.width v ≡ b → IfOk (λ x. length (scalar_bytes order s.width x) ≡ bytes_in s.width) (unless (first_cause ((b, PointerNumber) ∷ [])) (as_type s v))
sized_by order s v true e = tt
sized_by order s v false e = bytes_count order s.width (as_type s v) (narrowed_same s.width s.signed v ∙ e)

-- a whole type but a structure is a scalar
scalar_size : (tags : List Tag) (t : CType) → is_whole tags t ≡ true → is_record t ≡ false → bytes_in (scalar_of t).width ≡ size_of tags t
scalar_size tags (Plain q (Simple Void)) h e = absurd (let never : ⊥ = cc in never)
scalar_size tags (Plain q (Simple Char)) h e = refl
scalar_size tags (Plain q (Simple SignedChar)) h e = refl
scalar_size tags (Plain q (Simple UnsignedChar)) h e = refl
scalar_size tags (Plain q (Simple Short)) h e = refl
scalar_size tags (Plain q (Simple UnsignedShort)) h e = refl
scalar_size tags (Plain q (Simple Int)) h e = refl
scalar_size tags (Plain q (Simple Unsigned)) h e = refl
scalar_size tags (Plain q (Simple Long)) h e = refl
scalar_size tags (Plain q (Simple UnsignedLong)) h e = refl
scalar_size tags (Plain q (type.Pointer to)) h e = refl
scalar_size tags (Plain q (type.Function result parameters)) h e = absurd (let never : ⊥ = cc in never)
scalar_size tags (Plain q (Structure n)) h e = absurd (let never : ⊥ = cc in never)
scalar_size tags (Plain q (Union n)) h e = absurd (let never : ⊥ = cc in never)
scalar_size tags (Plain q (Enumeration n)) h e = refl
scalar_size tags (Array of n) h e = absurd (let never : ⊥ = cc in never)

-- ---- up to the start of a body

either_open : (P : World → Type 0) (b : Bool) (go other : ℕ → World → Out) (k : ℕ) (w : World) → (b ≡ true → IfOpen (go k w) P) → (b ≡ false → IfOpen (other k w) P) → IfOpen (either b go other k w) P
either_open P true go other k w h g = h refl
either_open P false go other k w h g = g refl

done_open : {A : Type 0} (P : World → Type 0) (Q : A → Type 0) (c : Checked A Cause) (line : ℕ) (w : World) (go : A → Out) → IfOk Q c → ((a : A) → Q a → IfOpen (go a) P) → IfOpen (if_done c line w go) P
done_open P Q (Ok a) line w go h g = g a h
done_open P Q (Err cause) line w go h g = tt

-- with these locals made it goes on to a world of which P holds
abbrev GoesTo : (World → Type 0) → List Tag → List Outline → List CType → (ℕ → World → Out) → Type 0
GoesTo P tags lives ts go = (k : ℕ) (w : World) → HasLocals tags lives ts w → IfOpen (go k w) P

parameter_made : (P : World → Type 0) (tags : List Tag) (order : Order) (lives : List Outline) (done : List CType) (t : CType) (a : Argument) (go : ℕ → World → Out) → is_whole tags t ≡ true → IsPassed tags lives t a.value → GoesTo P tags lives (done ++ t ∷ []) go → GoesTo P tags lives done (λ k w. with_parameter tags order t a k w go)
parameter_made P tags order lives done t a go whole passed g k w h =
    either_open P (is_record t) _ _ k w
    (λ e. g k (with_passed (is_const t) a.value w) (passed_local tags lives done w (is_const t) a.value t (passed e) h))
    (λ e. done_open P (λ v. length (scalar_bytes order (scalar_of t).width v) ≡ bytes_in (scalar_of t).width) (converted (scalar_of t) a.value) a.line w _ (sized_by order (scalar_of t) a.value (is_narrowed (scalar_of t).width a.value) refl)
    (λ v l. g k _ (new_local tags lives done w (is_const t) (scalar_bytes order (scalar_of t).width v) t (l ∙ scalar_size tags t whole e) h)))

parameters_made : (P : World → Type 0) (tags : List Tag) (order : Order) (lives : List Outline) (done ts : List CType) (xs : List Argument) (go : ℕ → World → Out) → EachIs (λ t. is_whole tags t ≡ true) ts → ArePassed tags lives ts xs → GoesTo P tags lives (done ++ ts) go → GoesTo P tags lives done (λ k w. with_parameters tags order ts xs k w go)
parameters_made P tags order lives done [] xs go whole passed g k w h = g k w (subst (λ ts. HasLocals tags lives ts w) (sym (append-nil done)) h)
parameters_made P tags order lives done (t ∷ ts) [] go whole passed g k w h = tt
parameters_made P tags order lives done (t ∷ ts) (a ∷ xs) go whole passed g k w h =
    parameter_made P tags order lives done t a _ whole.0 passed.0
    (parameters_made P tags order lives (done ++ t ∷ []) ts xs go whole.1 passed.1 (λ k1 w1 h1. g k1 w1 (subst (λ us. HasLocals tags lives us w1) (append_assoc done (t ∷ []) ts) h1)))
    k w h

pub entries_make_locals : EntriesMakeLocals
entries_make_locals u order f number xs k w whole passed =
    let lives : List Outline = outlines (objects w) in
    let ts : List CType = own_parameters f in
    parameters_made (AreLocalsOf u.tags f.locals) u.tags order lives [] ts xs _ whole passed
    (λ k1 w1 h. subst (λ us. AreLocalsOf u.tags us (with_locals u.tags (drop f.parameters f.locals) w1)) (take-append-drop f.parameters f.locals) (others_made u.tags lives ts (drop f.parameters f.locals) w1 h))
    k (entered (Opened number) w) (record { more = []; on = sym (append-nil lives); locals = tt })

body_open : (u : UnitTree) (old : World) (o : Out) → SoundBody u old o → IfOpen o (IsSound u)
body_open u old (Next k w) s = s.by.0
body_open u old (Break k w) s = s.by
body_open u old (Continue k w) s = s.by
body_open u old (Return v line k w) s = s.by.1.0
body_open u old (Goto l k w) s = s.by
body_open u old (Over how w) s = tt

pub entries_stay_sound : EntriesStaySound
entries_stay_sound u order f number xs k w q h =
    let start = entered_sound u w number q in
    body_open u w (body_start u order f number xs k w)
    (parameters_sound u order w (own_parameters f) xs _ h (λ k1 w1 s1 e1. record { by = locals_sound u u.tags w (drop f.parameters f.locals) w1 s1 e1 }) k (entered (Opened number) w) start.0 start.1)

-- ---- a body starts behind what makes its locals

either_then : (b : Bool) (go next other last : ℕ → World → Out) (to : ℕ → World → Out) (k : ℕ) (w : World) → go k w ≡ then_next (next k w) to → other k w ≡ then_next (last k w) to → either b go other k w ≡ then_next (either b next last k w) to
either_then true go next other last to k w h g = h
either_then false go next other last to k w h g = g

done_then : {A : Type 0} (c : Checked A Cause) (line : ℕ) (w : World) (go next : A → Out) (to : ℕ → World → Out) → ((a : A) → go a ≡ then_next (next a) to) → if_done c line w go ≡ then_next (if_done c line w next) to
done_then (Ok a) line w go next to h = h a
done_then (Err cause) line w go next to h = refl

parameters_then : (tags : List Tag) (order : Order) (ts : List CType) (xs : List Argument) (go next to : ℕ → World → Out) → ((k : ℕ) (w : World) → go k w ≡ then_next (next k w) to) → (k : ℕ) (w : World) → with_parameters tags order ts xs k w go ≡ then_next (with_parameters tags order ts xs k w next) to
parameters_then tags order [] xs go next to h k w = h k w
parameters_then tags order (t ∷ ts) [] go next to h k w = refl
parameters_then tags order (t ∷ ts) (a ∷ xs) go next to h k w =
    either_then (is_record t) _ _ _ _ to k w (parameters_then tags order ts xs go next to h k (with_passed (is_const t) a.value w))
    (done_then (converted (scalar_of t) a.value) a.line w _ _ to (λ v. parameters_then tags order ts xs go next to h k (with_local (is_const t) (scalar_bytes order (scalar_of t).width v) w)))

pub bodies_start : BodiesStart
bodies_start s f number xs k w =
    let others : World → World = λ w1. with_locals s.unit.tags (drop f.parameters f.locals) w1 in
    parameters_then s.unit.tags s.order (own_parameters f) xs (λ k1 w1. exec s f.body Start k1 (others w1)) (λ k1 w1. Next k1 (others w1)) (λ k1 w1. exec s f.body Start k1 w1) (λ k1 w1. refl) k (entered (Opened number) w)

-- ---- until it ends

pub locals_are_kept : LocalsAreKept
locals_are_kept tags ts old w h g =
    subst (λ ls. AreObjectsOf tags ls ts w.locals) (sym h.lives) (subst (λ vs. AreObjectsOf tags (outlines (objects old)) ts vs) (sym h.locals) g)

object_at : (tags : List Tag) (lives : List Outline) (ts : List CType) (vs : List Value) (n : ℕ) (t : CType) → AreObjectsOf tags lives ts vs → slice_get ts n ≡ Some t → (v : Value) × (slice_get vs n ≡ Some v) × IsObjectOf lives (size_of tags t) v
object_at tags lives [] [] n t h e = absurd (let never : ⊥ = cc in never)
object_at tags lives [] (v ∷ vs) n t h e = absurd h
object_at tags lives (s ∷ ts) [] n t h e = absurd h
object_at tags lives (s ∷ ts) (v ∷ vs) zero t h e = (v, refl, subst (λ (x : CType). IsObjectOf lives (size_of tags x) v) (same_Some s t e) h.0)
object_at tags lives (s ∷ ts) (v ∷ vs) (suc n) t h e = object_at tags lives ts vs n t h.1 e

pub local_is_object : LocalIsObject
local_is_object tags ts w n t h e = object_at tags (outlines (objects w)) ts w.locals n t h e
