-- Calls: how they are opened, how their objects begin, and how they are over.
use Rattle.std.specs.Prelude.{◌≡◌, ◌≤◌, ◌<◌, ◌⊎◌, ℕ, zero, suc, ◌+◌, ◌==◌, Bool, true, false, Option, Some, None, List, [], ◌∷◌, ◌++◌, length, map as mapped, take, slice_get, if◌then◌else◌}
use Rattle.std.specs.Option.{option_map}
use Rattle.std.proofs.Common.{length-append, refl, ap, sym, subst, inl, inr, ◌∙◌, arith}
use Rattle.std.proofs.lemmas.Bool.{eqb-true}
use Rattle.std.proofs.lemmas.Option.{slice_get_within, slice_get-map}
use Rattle.lcc_base.specs.Traces.{Event, Opened, Closed}
use Rattle.lcc_base.specs.declared.order.Order.{Order}
use Rattle.objects.specs.declared.byte.Byte.{Byte}
use Rattle.objects.specs.declared.value.ObjectName.{ObjectName}
use Rattle.objects.specs.declared.value.Value.{Value}
use Rattle.objects.specs.declared.value.Value.TheVariants.{Pointer}
use Rattle.objects.specs.Bytes.{unknown_byte}
use Rattle.objects.specs.Objects.{flagged}
use Rattle.objects.specs.Objects.{Object as Old}
use Rattle.op_forest.specs.declared.frame.Slot.{Slot}
use Rattle.op_forest.specs.declared.lowered.LoweredObject.{LoweredObject}
use Rattle.op_forest.specs.Callees.{Body}
use Rattle.op_forest.specs.Lowered.{LoweredUnit}
use Rattle.forests.specs.Functions.{slot_bytes, entered, left_behind, own_bytes}
use Rattle.forests.specs.Objects.{Object, objects_from}
use Rattle.forests.specs.Sound.{AreSoundBytes, AreSoundObjects, AreWords, IsSound}
use Rattle.forests.proofs.lemmas.SoundBytes.{bytes_replicate, objects_append, objects_take, word_bytes_sound}
use Rattle.forests.specs.WordBytes.{word_bytes}
use Rattle.forests.specs.Words.{Word}
use Rattle.forests.specs.Worlds.{World}
use Rattle.c_runs.specs.Soundness.{Outline, outline, outlines}
use Rattle.c_runs.specs.Worlds as c
use Rattle.c_match.specs.Ranges.{Range, Map, Grown, with_range}
use Rattle.c_match.specs.Bytes.{AreBytesOf}
use Rattle.c_match.specs.Held.{AreHeld}
use Rattle.c_match.specs.Left.{IsPrivate, IsLeft}
use Rattle.c_match.proofs.lemmas.Growing.{range_is, range_elsewhere}
use Rattle.c_match_objects.proofs.lemmas.Lifetimes.{homes_begin, private_is_apart, object_begins, flags_stay, objects_end}
use Rattle.c_match_worlds.specs.Matches.{Matches, object_in}
use Rattle.c_match_worlds.specs.Laws.{MayBegin, object_made, whole_of}

before : {A : Type 0} (xs ys : List A) (n : ℕ) → n < length xs → slice_get (xs ++ ys) n ≡ slice_get xs n
before [] ys n h = absurd (let never : ⊥ = omega arith in never)
before (x ∷ xs) ys zero h = refl
before (x ∷ xs) ys (suc n) h = before xs ys n (omega arith)

-- ---- opened

abbrev AreSoundLists : List (List (Byte Word)) → Type 0
AreSoundLists [] = Unit {0}
AreSoundLists (b ∷ bs) = AreSoundBytes b × AreSoundLists bs

made_sound : (made : ℕ) (bytes : List (List (Byte Word))) → AreSoundLists bytes → AreSoundObjects (objects_from made bytes)
made_sound made [] h = tt
made_sound made (b ∷ bs) h = (h.0, made_sound (suc made) bs h.1)

lists_append : (xs ys : List (List (Byte Word))) → AreSoundLists xs → AreSoundLists ys → AreSoundLists (xs ++ ys)
lists_append [] ys h k = k
lists_append (x ∷ xs) ys h k = (h.0, lists_append xs ys h.1 k)

slots_sound : (slots : List Slot) → AreSoundLists (mapped slot_bytes slots)
slots_sound [] = tt
slots_sound (s ∷ ss) = (bytes_replicate s.size unknown_byte (omega arith, refl), slots_sound ss)

arguments_sound : (order : Order) (ws : List Word) → AreWords ws → AreSoundLists (mapped (word_bytes order) ws)
arguments_sound order [] h = tt
arguments_sound order (w ∷ ws) h = (word_bytes_sound order w h.0, arguments_sound order ws h.1)

entered_sound : (order : Order) (name : ℕ) (f : Body) (w : World) → IsSound w → IsSound (entered order name f w)
entered_sound order name f w k = record {
  objects = objects_append w.objects _ k.objects (made_sound w.made (own_bytes order f w.arguments) (lists_append (mapped slot_bytes f.slots) _ (slots_sound f.slots) (arguments_sound order w.arguments k.arguments)));
  arguments = tt;
  input = k.input;
}

behind : {A : Type 0} (xs ys : List A) (i m : ℕ) → m ≡ length xs + i → slice_get (xs ++ ys) m ≡ slice_get ys i
behind [] ys i m e = let same : m ≡ i = omega arith in ap (λ (k : ℕ). slice_get ys k) same
behind (x ∷ xs) ys i zero e = absurd (let never : ⊥ = omega arith in never)
behind (x ∷ xs) ys i (suc m) e = behind xs ys i m (omega arith)

made_at : (made : ℕ) (bs : List (List (Byte Word))) (i m : ℕ) (b : List (Byte Word)) → m ≡ made + i → slice_get bs i ≡ Some b → slice_get (objects_from made bs) i ≡ Some (record { made = m; constant = false; bytes = b })
made_at made [] i m b e f = absurd (let never : ⊥ = cc in never)
made_at made (x ∷ xs) zero m b e f =
    let same : x ≡ b = cc in
    let at : made ≡ m = omega arith in
    ap (λ (k : ℕ). Some (record { made = k; constant = false; bytes = x })) at ∙ ap (λ (y : List (Byte Word)). Some (record { made = m; constant = false; bytes = y })) same
made_at made (x ∷ xs) (suc i) m b e f = made_at (suc made) xs i m b (omega arith) f

pub homes_made : (w : World) (order : Order) (name : ℕ) (f : Body) (i : ℕ) (bytes : List (Byte Word)) → slice_get (own_bytes order f w.arguments) i ≡ Some bytes → slice_get (entered order name f w).objects (length w.objects + i) ≡ Some (record { made = w.made + i; constant = false; bytes = bytes })
homes_made w order name f i bytes e =
    behind w.objects (objects_from w.made (own_bytes order f w.arguments)) i (length w.objects + i) refl
    ∙ made_at w.made (own_bytes order f w.arguments) i (w.made + i) bytes refl e

pub call_opens : (u : LoweredUnit) (own : ℕ) (map : Map) (old : c.World) (w : World) (order : Order) (name : ℕ) (f : Body) → Matches u own map old w → Matches u own map (c.entered (Opened name) old) (entered order name f w) × IsLeft map (c.objects old) w.objects (entered order name f w).objects × ((place : ℕ) → length w.objects ≤ place → IsPrivate map (c.objects old) place)
call_opens u own map old w order name f m =
    let more = objects_from w.made (own_bytes order f w.arguments) in
    let h = homes_begin map (c.objects old) w.objects more m.held in (
      record {
        held = h.0;
        made = m.made;
        whole = m.whole;
        constants = λ t o lt e locked. before w.objects more t (slice_get_within w.objects t (object_in u t o) (m.constants t o lt e locked)) ∙ m.constants t o lt e locked;
        tables = λ t o le e. (before w.objects more t (slice_get_within w.objects t (object_in u t o) (m.tables t o le e).0) ∙ (m.tables t o le e).0, (m.tables t o le e).1);
        input = m.input;
        trace = ap (λ (es : List Event). es ++ Opened name ∷ []) m.trace;
        sound = entered_sound order name f w m.sound;
      },
      h.1,
      h.2,
    )

-- ---- objects begin

pub home_holds : (u : LoweredUnit) (own : ℕ) (map : Map) (old : c.World) (w : World) (constant : Bool) (bytes : List (Byte Value)) (place : ℕ) (home : Object) → slice_get w.objects place ≡ Some home → home.constant ≡ false → IsPrivate map (c.objects old) place → length u.objects ≤ place → AreBytesOf map bytes home.bytes → length bytes ≤ length home.bytes → MayBegin u own map old w (object_made old constant bytes) (whole_of place home)
home_holds u own map old w constant bytes place home there open_home private past are room = record {
  home = record {
    home = home;
    there = there;
    made = refl;
    size = refl;
    words = 0;
    start = refl;
    inside = omega (arith, room);
    bytes = are;
    writable = λ e. open_home;
  };
  apart = private_is_apart map (c.objects old) (whole_of place home) (length bytes) private;
  no_table = λ t o le e same. (let within = slice_get_within u.objects t o e in let never : ⊥ = omega (arith, within, past, same) in never);
}

-- what wasn't made yet has no range
fresh_by : (map : Map) (m : ℕ) (o : Option Range) → map m ≡ o → ((r : Range) → map m ≡ Some r → ⊥) → map m ≡ None
fresh_by map m None e h = e
fresh_by map m (Some r) e h = absurd (h r e)

fresh : (u : LoweredUnit) (own : ℕ) (map : Map) (old : c.World) (w : World) → Matches u own map old w → map old.storage.made ≡ None
fresh u own map old w m = fresh_by map old.storage.made (map old.storage.made) refl (λ r e. let lt = m.made old.storage.made r e in let never : ⊥ = omega (arith, lt) in never)

get_more : {A : Type 0} (xs : List A) (y : A) (n : ℕ) (z : A) → slice_get (xs ++ y ∷ []) n ≡ Some z → (slice_get xs n ≡ Some z) ⊎ (y ≡ z)
get_more [] y zero z e = inr cc
get_more [] y (suc n) z e = absurd (let never : ⊥ = cc in never)
get_more (x ∷ xs) y zero z e = inl e
get_more (x ∷ xs) y (suc n) z e = get_more xs y n z e

begun : (u : LoweredUnit) (own : ℕ) (map : Map) (old : c.World) (w : World) (constant : Bool) (bytes : List (Byte Value)) (range : Range) → Matches u own map old w → MayBegin u own map old w (object_made old constant bytes) range → AreHeld (with_range old.storage.made range map) (c.objects old ++ object_made old constant bytes ∷ []) w.objects × Grown map (with_range old.storage.made range map)
begun u own map old w constant bytes range m b = object_begins map (c.objects old) w.objects (object_made old constant bytes) range m.held (fresh u own map old w m) b.home b.apart

made_by : (b : Bool) (m made : ℕ) (range r : Range) (o : Option Range) → (m == made) ≡ b → (if b then Some range else o) ≡ Some r → (o ≡ Some r → m < made) → m < made + 1
made_by true m made range r o e f h = let same = eqb-true m made e in omega (arith, same)
made_by false m made range r o e f h = let lt = h f in omega (arith, lt)

still_made : (u : LoweredUnit) (own : ℕ) (map : Map) (old : c.World) (w : World) (range : Range) → Matches u own map old w → (m : ℕ) (r : Range) → with_range old.storage.made range map m ≡ Some r → m < old.storage.made + 1
still_made u own map old w range h m r e = made_by (m == old.storage.made) m old.storage.made range r (map m) refl e (λ f. h.made m r f)

-- the range of an object that was there is as before
range_before : (u : LoweredUnit) (own : ℕ) (map : Map) (old : c.World) (w : World) (range : Range) → Matches u own map old w → (p : ℕ) (y : Old) (r : Range) → slice_get (c.objects old) p ≡ Some y → with_range old.storage.made range map y.made ≡ Some r → map y.made ≡ Some r
range_before u own map old w range m p y r e f =
    let g = m.held.held p y e in
    let lt = m.made y.made g.range g.is in
    sym (range_elsewhere old.storage.made range map y.made (λ same. let never : ⊥ = omega (arith, lt, same) in never)) ∙ f

its_range : (map : Map) (made : ℕ) (range r : Range) (constant : Bool) (bytes : List (Byte Value)) (y : Old) → record { made = made; constant = constant; bytes = bytes } ≡ y → with_range made range map y.made ≡ Some r → r ≡ range
its_range map made range r constant bytes y e f =
    let m : y.made ≡ made = ap (λ (z : Old). z.made) (sym e) in
    let g : with_range made range map y.made ≡ Some range = ap (with_range made range map) m ∙ range_is made range map in
    cc

still_private : (u : LoweredUnit) (own : ℕ) (map : Map) (old : c.World) (w : World) (constant : Bool) (bytes : List (Byte Value)) (range : Range) → Matches u own map old w → MayBegin u own map old w (object_made old constant bytes) range → (t : ℕ) (o : LoweredObject) → own ≤ t → slice_get u.objects t ≡ Some o → IsPrivate (with_range old.storage.made range map) (c.objects old ++ object_made old constant bytes ∷ []) t
still_private u own map old w constant bytes range m b t o le e p y r f g same = elim (get_more (c.objects old) (object_made old constant bytes) p y f) [
  | inl there ↦ (m.tables t o le e).1 p y r there (range_before u own map old w range m p y r there g) same
  | inr one ↦ b.no_table t o le e (sym (ap (λ (s : Range). s.object.place) (its_range map old.storage.made range r constant bytes y one g)) ∙ same)
]

pub beginning_hides : (u : LoweredUnit) (own : ℕ) (map : Map) (old : c.World) (w : World) (constant : Bool) (bytes : List (Byte Value)) (range : Range) (place : ℕ) → Matches u own map old w → IsPrivate map (c.objects old) place → (range.object.place ≡ place → ⊥) → IsPrivate (with_range old.storage.made range map) (c.objects (c.with_local constant bytes old)) place
beginning_hides u own map old w constant bytes range place m private other p y r f g same = elim (get_more (c.objects old) (object_made old constant bytes) p y f) [
  | inl there ↦ private p y r there (range_before u own map old w range m p y r there g) same
  | inr one ↦ other (sym (ap (λ (s : Range). s.object.place) (its_range map old.storage.made range r constant bytes y one g)) ∙ same)
]

pub local_begins : (u : LoweredUnit) (own : ℕ) (map : Map) (old : c.World) (w : World) (constant : Bool) (bytes : List (Byte Value)) (range : Range) → Matches u own map old w → MayBegin u own map old w (object_made old constant bytes) range → Matches u own (with_range old.storage.made range map) (c.with_local constant bytes old) w × Grown map (with_range old.storage.made range map)
local_begins u own map old w constant bytes range m b =
    let h = begun u own map old w constant bytes range m b in (
      record {
        held = h.0;
        made = still_made u own map old w range m;
        whole = λ p lt. h.1 p _ (m.whole p lt);
        constants = m.constants;
        tables = λ t o le e. ((m.tables t o le e).0, still_private u own map old w constant bytes range m b t o le e);
        input = m.input;
        trace = m.trace;
        sound = m.sound;
      },
      h.1,
    )

pub other_begins : (u : LoweredUnit) (own : ℕ) (map : Map) (old : c.World) (w : World) (constant : Bool) (bytes : List (Byte Value)) (range : Range) → Matches u own map old w → MayBegin u own map old w (object_made old constant bytes) range → Matches u own (with_range old.storage.made range map) (c.made constant bytes old) w × Grown map (with_range old.storage.made range map)
other_begins u own map old w constant bytes range m b =
    let h = begun u own map old w constant bytes range m b in (
      record {
        held = h.0;
        made = still_made u own map old w range m;
        whole = λ p lt. h.1 p _ (m.whole p lt);
        constants = m.constants;
        tables = λ t o le e. ((m.tables t o le e).0, still_private u own map old w constant bytes range m b t o le e);
        input = m.input;
        trace = m.trace;
        sound = m.sound;
      },
      h.1,
    )

-- ---- a copy is passed

-- a flag leaves who was made
flagged_made : (old : List Old) (o p : ℕ) (constant : Bool) (x : Old) → slice_get (flagged old o constant) p ≡ Some x → (y : Old) × (slice_get old p ≡ Some y) × (x.made ≡ y.made)
flagged_made [] o p constant x e = absurd (let never : ⊥ = cc in never)
flagged_made (y ∷ ys) zero zero constant x e = let same : record { made = y.made; constant = constant; bytes = y.bytes } ≡ x = cc in (y, refl, ap (λ (z : Old). z.made) (sym same))
flagged_made (y ∷ ys) zero (suc p) constant x e = (x, e, refl)
flagged_made (y ∷ ys) (suc o) zero constant x e = (y, refl, let same : y ≡ x = cc in ap (λ (z : Old). z.made) (sym same))
flagged_made (y ∷ ys) (suc o) (suc p) constant x e = flagged_made ys o p constant x e

pub copy_passed : (u : LoweredUnit) (own : ℕ) (map : Map) (old : c.World) (w : World) (constant : Bool) (name : ObjectName) (offset : ℕ) → Matches u own map old w → ((x : Old) (r : Range) (home : Object) → slice_get (c.objects old) name.place ≡ Some x → map x.made ≡ Some r → slice_get w.objects r.object.place ≡ Some home → home.constant ≡ false) → Matches u own map (c.with_passed constant (Pointer name offset) old) w
copy_passed u own map old w constant name offset m opens = record {
  held = flags_stay map (c.objects old) w.objects name offset constant m.held opens;
  made = m.made;
  whole = m.whole;
  constants = m.constants;
  tables = λ t o le e. (
    (m.tables t o le e).0,
    λ p x r f g same.
        (let y = flagged_made (c.objects old) name.place p constant x f in
        (m.tables t o le e).1 p y.0 r y.1 (sym (ap map y.2) ∙ g) same),
  );
  input = m.input;
  trace = m.trace;
  sound = m.sound;
}

-- ---- over

taken : {A : Type 0} (n : ℕ) (xs : List A) (k : ℕ) (x : A) → slice_get (take n xs) k ≡ Some x → (k < n) × (slice_get xs k ≡ Some x)
taken zero xs k x e = absurd (let never : ⊥ = cc in never)
taken (suc n) [] k x e = absurd (let never : ⊥ = cc in never)
taken (suc n) (y ∷ ys) zero x e = (omega arith, e)
taken (suc n) (y ∷ ys) (suc k) x e = let t = taken n ys k x e in (let lt = t.0 in omega (arith, lt), t.1)

kept : {A : Type 0} (n : ℕ) (xs : List A) (k : ℕ) → k < n → slice_get (take n xs) k ≡ slice_get xs k
kept zero xs k h = absurd (let never : ⊥ = omega arith in never)
kept (suc n) [] k h = refl
kept (suc n) (x ∷ xs) zero h = refl
kept (suc n) (x ∷ xs) (suc k) h = kept n xs k (omega arith)

outline_at : (xs : List Old) (p : ℕ) (x : Old) → slice_get xs p ≡ Some x → slice_get (outlines xs) p ≡ Some (outline x)
outline_at xs p x e = slice_get-map outline xs p ∙ ap (λ (o : Option Old). option_map outline o) e

-- the object of an outline
under_outline : (xs : List Old) (p : ℕ) (o : Outline) → slice_get (outlines xs) p ≡ Some o → (x : Old) × (slice_get xs p ≡ Some x) × (outline x ≡ o)
under_outline [] p o e = absurd (let never : ⊥ = cc in never)
under_outline (x ∷ xs) zero o e = (x, refl, cc)
under_outline (x ∷ xs) (suc p) o e = under_outline xs p o e

pub call_closes : (u : LoweredUnit) (own : ℕ) (map more : Map) (first_world old : c.World) (first w : World) → Matches u own map first_world first → Matches u own more old w → Grown map more → ((p : ℕ) → p < length (c.objects first_world) → slice_get (outlines (c.objects old)) p ≡ slice_get (outlines (c.objects first_world)) p) → Matches u own more (c.left_behind Closed first_world old) (left_behind first w)
call_closes u own map more first_world old first w m n g same =
    let count = length (c.objects first_world) in
    let homes = length first.objects in
    record {
      held = objects_end more (c.objects old) w.objects count homes n.held (λ p x r lt e f.
          (let y = under_outline (c.objects first_world) p (outline x) (sym (same p lt) ∙ outline_at (c.objects old) p x e) in
          let made : y.0.made ≡ x.made = ap (λ (o : Outline). o.made) y.2 in
          let h = m.held.held p y.0 y.1 in
          let grown : more x.made ≡ Some h.range = sym (ap more made) ∙ g y.0.made h.range h.is in
          let one : h.range ≡ r = cc in
          subst (λ (s : Range). s.object.place < homes) one (slice_get_within first.objects h.range.object.place h.held.home h.held.there)));
      made = n.made;
      whole = n.whole;
      constants = λ t o lt e locked. kept homes w.objects t (slice_get_within first.objects t (object_in u t o) (m.constants t o lt e locked)) ∙ n.constants t o lt e locked;
      tables = λ t o le e. (
        kept homes w.objects t (slice_get_within first.objects t (object_in u t o) (m.tables t o le e).0) ∙ (n.tables t o le e).0,
        λ p x r f i s. (n.tables t o le e).1 p x r (taken count (c.objects old) p x f).1 i s,
      );
      input = n.input;
      trace = ap (λ (es : List Event). es ++ Closed ∷ []) n.trace;
      sound = record { objects = objects_take homes w.objects n.sound.objects; arguments = tt; input = n.sound.input };
    }

pub call_leaves : (map more : Map) (first_world started : c.World) (first w : World) (order : Order) (name : ℕ) (f : Body) → IsLeft more (c.objects started) (entered order name f first).objects w.objects → ((place : ℕ) → place < length first.objects → IsPrivate map (c.objects first_world) place → IsPrivate more (c.objects started) place) → IsLeft map (c.objects first_world) first.objects (left_behind first w).objects
call_leaves map more first_world started first w order name f left stays place within private =
    let own = objects_from first.made (own_bytes order f first.arguments) in
    let all = length-append first.objects own in
    let there : place < length (first.objects ++ own) = omega (arith, all, within) in
    kept (length first.objects) w.objects place within ∙ left place there (stays place within private) ∙ before first.objects own place within
