-- The initialisers of static storage leave the texts.
use Rattle.std.specs.Prelude.{◌≡◌, ◌≤◌, ℕ, zero, suc, ◌+◌, ◌&&◌, Bool, true, false, Some, List, [], ◌∷◌, ◌++◌, length, replicate, slice_get, Result as Checked, Ok, Err, if◌then◌else◌}
use Rattle.std.proofs.Common.{length-append, refl, sym, ap, ◌∙◌, arith}
use Rattle.lcc_base.specs.declared.cause.Cause.{Cause}
use Rattle.lcc_base.specs.declared.cause.Cause.TheVariants.{PointerNumber}
use Rattle.lcc_base.specs.declared.order.Order.{Order}
use Rattle.objects.specs.declared.byte.Byte.{Byte}
use Rattle.objects.specs.declared.purpose.Purpose.TheVariants.{Initialisation}
use Rattle.objects.specs.declared.value.ObjectName.{ObjectName}
use Rattle.objects.specs.declared.value.Value.{Value}
use Rattle.objects.specs.declared.value.Value.TheVariants.{Pointer}
use Rattle.objects.specs.Accesses.{write_cause, stored_through, written, field_written}
use Rattle.objects.proofs.lemmas.AccessLaws.{unless_same, stored_elsewhere}
use Rattle.objects.specs.Bytes.{known_bytes}
use Rattle.objects.specs.Causes.{first_cause, is_narrowed, is_no_number}
use Rattle.objects.specs.Objects.{Object}
use Rattle.objects.specs.Values.{bytes_in}
use Rattle.c_types.specs.CType.{CType}
use Rattle.c_types.specs.Constness.{is_const}
use Rattle.c_types.specs.Layout.{Tag}
use Rattle.c_meaning.specs.CoreTrees.{line_of}
use Rattle.c_meaning.specs.Scalars.{scalar_of}
use Rattle.c_meaning.specs.StmtTrees.{FilledOf}
use Rattle.c_meaning.specs.Types.{is_array, is_record}
use Rattle.c_meaning.specs.Units.{ObjectTree, UnitTree}
use Rattle.c_match_objects.proofs.lemmas.Reads.{if_none_same}
use Rattle.c_runs.specs.Calls.{Call, Setting}
use Rattle.c_runs.specs.Expressions.{eval}
use Rattle.c_runs.specs.Outcomes.{Result, Gives, GivesNone, Ends, Out, Next, Break, Continue, Return, Goto, Over, then_do, then_next, if_done}
use Rattle.c_runs.specs.Places.{assigned, is_field, field_of, size_of, spelled, spot_filled, static_place, stored}
use Rattle.c_runs.specs.Run.{setting, empty_world, filled_from, started, with_objects_of, with_texts}
use Rattle.c_runs.specs.Statements.{fill, filled}
use Rattle.c_runs.specs.Worlds.{World, objects, with_objects, made}
use Rattle.lowered_data.specs.Initial.{text_object}
use Rattle.lowered_data.specs.Still.{is_still}
use Rattle.lowered_data.proofs.lemmas.Filling.{still_places, still_objects, first_world, objects_made}
use Rattle.lowered_data.proofs.lemmas.Still.{in_world, eval_still}

both_first : (a b : Bool) → (a && b) ≡ true → a ≡ true
both_first true b e = refl
both_first false b e = absurd (let never : ⊥ = cc in never)

both_rest : (a b : Bool) → (a && b) ≡ true → b ≡ true
both_rest true b e = e
both_rest false b e = absurd (let never : ⊥ = cc in never)

-- ---- a store leaves other objects

module _ (name : ObjectName) (place : ℕ) (other : place ≡ name.place → ⊥) where
  stored_leaves : (os new : List Object) (offset : ℕ) (bytes : List (Byte Value)) → stored_through os (Pointer name offset) bytes ≡ new → slice_get new place ≡ slice_get os place
  stored_leaves os new offset bytes e = ap (λ (xs : List Object). slice_get xs place) (sym e) ∙ stored_elsewhere os name.place offset bytes place other

  module _ (s : Setting) (x : FilledOf CType) (offset : ℕ) (v : Value) (os new : List Object) where
    abbrev to : Value
    to = Pointer name offset

    field_leaves : (t : Bool) → (if t then field_written Initialisation s.order (field_of (spot_filled x)) v os to else written Initialisation s.order (scalar_of x.of).width v os to) ≡ Ok new → slice_get new place ≡ slice_get os place
    field_leaves true e =
        let one = if_none_same (first_cause ((is_no_number v, PointerNumber) ∷ [])) _ new e in
        stored_leaves os new offset _ (unless_same (write_cause Initialisation os to 4 4) _ new one)
    field_leaves false e =
        let size = bytes_in (scalar_of x.of).width in
        let one = if_none_same (first_cause ((is_narrowed (scalar_of x.of).width v, PointerNumber) ∷ [])) _ new e in
        stored_leaves os new offset _ (unless_same (write_cause Initialisation os to size size) _ new one)

    value_leaves : (t : Bool) → (if t then assigned Initialisation s.unit.tags x.of os v to else stored Initialisation s.order (spot_filled x) v os to) ≡ Ok new → slice_get new place ≡ slice_get os place
    value_leaves true e = stored_leaves os new offset _ (unless_same _ _ new e)
    value_leaves false e = field_leaves (is_field (spot_filled x)) e

    filled_by : (t : Bool) (bytes : List ℕ) → (if t then spelled os to bytes else (if is_record x.of then assigned Initialisation s.unit.tags x.of os v to else stored Initialisation s.order (spot_filled x) v os to)) ≡ Ok new → slice_get new place ≡ slice_get os place
    filled_by true bytes e = stored_leaves os new offset _ (unless_same _ _ new e)
    filled_by false bytes e = value_leaves (is_record x.of) e

    filled_leaves : filled s x to v os ≡ Ok new → slice_get new place ≡ slice_get os place
    filled_leaves e = filled_by (is_array x.of) _ e

  -- ---- an object is filled

  -- what is come to leaves the object at the place
  abbrev Leaves : World → Out → Type 0
  Leaves w r = (j : ℕ) (y : World) → r ≡ Next j y → slice_get (objects y) place ≡ slice_get (objects w) place

  next_world : (k j : ℕ) (w y : World) → ◌≡◌ {A = Out} (Next k w) (Next j y) → w ≡ y
  next_world k j w y e = cc

  module _ (s : Setting) (x : FilledOf CType) (offset : ℕ) (go : ℕ → World → Out) (rest : (k : ℕ) (w : World) → Leaves w (go k w)) where
    done_leaves : (v : Value) (k : ℕ) (w : World) (q : Checked (List Object) Cause) → filled s x (Pointer name offset) v (objects w) ≡ q → Leaves w (if_done q (line_of x.value) w (λ os. go k (with_objects w os)))
    done_leaves v k w (Ok os) is j y e = rest k (with_objects w os) j y e ∙ filled_leaves s x offset v (objects w) os is
    done_leaves v k w (Err cause) is j y e = absurd (let never : ⊥ = cc in never)

    abbrev behind : Value → ℕ → World → Out
    behind v k w = if_done (filled s x (Pointer name offset) v (objects w)) (line_of x.value) w (λ os. go k (with_objects w os))

    given_world : (v : Value) (k : ℕ) (y w : World) → ◌≡◌ {A = Result} (Gives v k y) (Gives v k w) → y ≡ w
    given_world v k y w e = cc

    value_goes : (w : World) (r : Result) → r ≡ in_world w r → Leaves w (then_do r behind)
    value_goes w (Gives v k z) same j y e = done_leaves v k z (filled s x (Pointer name offset) v (objects z)) refl j y e ∙ ap (λ (u : World). slice_get (objects u) place) (given_world v k z w same)
    value_goes w (GivesNone line k z) same j y e = absurd (let never : ⊥ = cc in never)
    value_goes w (Ends how z) same j y e = absurd (let never : ⊥ = cc in never)

  fill_leaves : (s : Setting) (xs : List (FilledOf CType)) → still_places xs ≡ true → (k : ℕ) (w : World) → Leaves w (fill s (Pointer name 0) xs k w)
  fill_leaves s [] h k w j y e = ap (λ (u : World). slice_get (objects u) place) (sym (next_world k j w y e))
  fill_leaves s (x ∷ xs) h k w j y e =
      let still = eval_still s x.value (both_first (is_still x.value) (still_places xs) h) in
      value_goes s x (0 + x.offset) (λ k1 w1. fill s (Pointer name 0) xs k1 w1) (fill_leaves s xs (both_rest (is_still x.value) (still_places xs) h)) w (eval s x.value k w) (still.by k w w refl) j y e

  next_leaves : (w : World) (r : Out) (go : ℕ → World → Out) → Leaves w r → ((k : ℕ) (z : World) → Leaves z (go k z)) → Leaves w (then_next r go)
  next_leaves w (Next k z) go first rest j y e = rest k z j y e ∙ first k z refl
  next_leaves w (Break k z) go first rest j y e = absurd (let never : ⊥ = cc in never)
  next_leaves w (Continue k z) go first rest j y e = absurd (let never : ⊥ = cc in never)
  next_leaves w (Return v line k z) go first rest j y e = absurd (let never : ⊥ = cc in never)
  next_leaves w (Goto l k z) go first rest j y e = absurd (let never : ⊥ = cc in never)
  next_leaves w (Over how z) go first rest j y e = absurd (let never : ⊥ = cc in never)

same_place : (place : ℕ) (k j : ℕ) (w y : World) → ◌≡◌ {A = Out} (Next k w) (Next j y) → slice_get (objects y) place ≡ slice_get (objects w) place
same_place place k j w y e = let same : w ≡ y = cc in ap (λ (u : World). slice_get (objects u) place) (sym same)

-- all objects of the unit, from one on
all_leave : (s : Setting) (place n : ℕ) (os : List ObjectTree) → still_objects os ≡ true → n + length os ≤ place → (k : ℕ) (w : World) (j : ℕ) (y : World) → filled_from s n os k w ≡ Next j y → slice_get (objects y) place ≡ slice_get (objects w) place
all_leave s place n [] h le k w j y e = same_place place k j w y e
all_leave s place n (o ∷ os) h le k w j y e =
    let size = size_of s.unit.tags o.of in
    let name : ObjectName = record { place = n; made = n; size = size } in
    let other : place ≡ n → ⊥ = λ same. let never : ⊥ = omega (arith, same, le) in never in
    next_leaves name place other w (fill s (static_place n size) o.places k w) (λ k1 w1. filled_from s (n + 1) os k1 w1)
    (fill_leaves name place other s o.places (both_first (still_places o.places) (still_objects os) h) k w)
    (λ k1 z j1 y1 e1. all_leave s place (n + 1) os (both_rest (still_places o.places) (still_objects os) h) (omega (arith, le)) k1 z j1 y1 e1) j y e

-- ---- the world before anything is filled

front_there : {A : Type 0} (xs ys : List A) (n : ℕ) (x : A) → slice_get xs n ≡ Some x → slice_get (xs ++ ys) n ≡ Some x
front_there [] ys n x e = absurd (let never : ⊥ = cc in never)
front_there (z ∷ zs) ys zero x e = e
front_there (z ∷ zs) ys (suc n) x e = front_there zs ys n x e

last_there : {A : Type 0} (xs : List A) (x : A) (n : ℕ) → n ≡ length xs → slice_get (xs ++ x ∷ []) n ≡ Some x
last_there [] x zero e = refl
last_there [] x (suc n) e = absurd (let never : ⊥ = omega (arith, e) in never)
last_there (z ∷ zs) x zero e = absurd (let never : ⊥ = omega (arith, e) in never)
last_there (z ∷ zs) x (suc n) e = last_there zs x n (omega (arith, e))

objects_many : (tags : List Tag) (os : List ObjectTree) (w : World) → length (objects (with_objects_of tags os w)) ≡ length (objects w) + length os
objects_many tags [] w = omega arith
objects_many tags (o ∷ os) w =
    let next = made (is_const o.of) (known_bytes (replicate (size_of tags o.of) 0)) w in
    let h = objects_many tags os next in
    let one = length-append (objects w) (record { made = w.storage.made; constant = is_const o.of; bytes = known_bytes (replicate (size_of tags o.of) 0) } ∷ []) in
    omega (arith, h, one)

texts_keep : (ts : List (List ℕ)) (w : World) (p : ℕ) (x : Object) → slice_get (objects w) p ≡ Some x → slice_get (objects (with_texts ts w)) p ≡ Some x
texts_keep [] w p x e = e
texts_keep (t ∷ ts) w p x e = texts_keep ts (made true (known_bytes (t ++ 0 ∷ [])) w) p x (front_there (objects w) _ p x e)

text_made : (ts : List (List ℕ)) (w : World) (n : ℕ) (t : List ℕ) → slice_get ts n ≡ Some t → (p m : ℕ) → p ≡ length (objects w) + n → m ≡ w.storage.made + n → slice_get (objects (with_texts ts w)) p ≡ Some (text_object m t)
text_made [] w n t e p m at count = absurd (let never : ⊥ = cc in never)
text_made (x ∷ ts) w zero t e p m at count =
    let same : x ≡ t = cc in
    let here : w.storage.made ≡ m = omega (arith, count) in
    texts_keep ts (made true (known_bytes (x ++ 0 ∷ [])) w) p (text_object w.storage.made x) (last_there (objects w) (text_object w.storage.made x) p (omega (arith, at)))
    ∙ ap (λ (i : ℕ). Some (text_object i x)) here ∙ ap (λ (bytes : List ℕ). Some (text_object m bytes)) same
text_made (x ∷ ts) w (suc n) t e p m at count =
    let one = length-append (objects w) (text_object w.storage.made x ∷ []) in
    text_made ts (made true (known_bytes (x ++ 0 ∷ [])) w) n t e p m (omega (arith, at, one)) (omega (arith, count))

-- ---- the start

no_calls : ℕ → Call → Result
no_calls k a = GivesNone 0 k a.world

pub texts_are_left : (u : UnitTree) (order : Order) (w : World) → still_objects u.objects ≡ true → ((calls : ℕ → Call → Result) (k : ℕ) → started (setting u order calls) [] k ≡ Next k w)
    → (n : ℕ) (text : List ℕ) → slice_get u.texts n ≡ Some text → slice_get (objects w) (length u.objects + n) ≡ Some (text_object (length u.objects + n) text)
texts_are_left u order w h e n text is =
    let p = length u.objects + n in
    let before = with_objects_of u.tags u.objects (empty_world []) in
    let many = objects_many u.tags u.objects (empty_world []) in
    let count = objects_made u.tags u.objects (empty_world []) in
    all_leave (setting u order no_calls) p 0 u.objects h (omega arith) 0 (first_world u []) 0 w (e no_calls 0)
    ∙ text_made u.texts before n text is p p (omega (arith, many)) (omega (arith, count))
