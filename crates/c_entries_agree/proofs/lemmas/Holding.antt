-- The objects with which a body of C begins are held by slots and parameter words of the call of forests.
use Rattle.std.specs.Prelude.{◌≡◌, ◌≤◌, ◌<◌, ℕ, ◌+◌, ◌==◌, ◌||◌, Bool, true, false, Option, Some, None, List, [], ◌∷◌, ◌++◌, length, option_map, slice_get}
use Rattle.std.proofs.Common.{refl, sym, ap, subst, ◌∙◌, arith, append_assoc, append-nil}
use Rattle.std.proofs.lemmas.Bool.{eq-eqb}
use Rattle.std.proofs.lemmas.Option.{slice_get-map}
use Rattle.objects.specs.declared.byte.Byte.{Byte}
use Rattle.objects.specs.declared.purpose.Purpose.TheVariants.{Initialisation}
use Rattle.objects.specs.declared.value.ObjectName.{ObjectName}
use Rattle.objects.specs.declared.value.Value.{Value}
use Rattle.objects.specs.declared.value.Value.TheVariants.{Pointer}
use Rattle.objects.specs.Objects.{Object as Old}
use Rattle.op_forest.specs.Lowered.{LoweredUnit}
use Rattle.forests.specs.Addresses.{Home}
use Rattle.forests.specs.Objects.{Object}
use Rattle.forests.specs.Words.{Word, Plain}
use Rattle.forests.specs.Worlds.{World}
use Rattle.c_meaning.specs.Each.{EachIs}
use Rattle.c_runs.specs.Soundness.{Outline, outline, outlines}
use Rattle.c_runs.specs.Worlds as c
use Rattle.c_match.specs.Bytes.{AreBytesOf}
use Rattle.c_match.specs.Held.{IsOpenTo}
use Rattle.c_match.specs.Left.{IsPrivate}
use Rattle.c_match.specs.Ranges.{Range, Map, Grown, with_range}
use Rattle.c_match.specs.Values.{IsValue}
use Rattle.c_match.proofs.lemmas.Growing.{grown_refl, grown_trans, range_is, value_grows}
use Rattle.c_match_worlds.specs.Laws.{MayBegin, object_made, whole_of}
use Rattle.c_match_worlds.specs.Matches.{Matches}
use Rattle.c_match_worlds.proofs.lemmas.Calling.{home_holds, beginning_hides, local_begins, copy_passed}
use Rattle.c_agreement.specs.Called.{AreValues}
use Rattle.c_pointers_agree.proofs.lemmas.Short.{object_at}
use Rattle.c_entries_agree.specs.Standpoints.{Standpoint, InSlot, InWord, AsPassed, is_home_of, is_home}
use Rattle.c_entries_agree.proofs.lemmas.Beginnings.{Beginning, Made, Passed, begin, begin_all, LivesOn, lives_then, one_lives, outline_stays, passed_outlines}

-- ---- what holds nothing of C

pub outline_at : (old : List Old) (p : ℕ) (x : Old) → slice_get old p ≡ Some x → slice_get (outlines old) p ≡ Some (outline x)
outline_at old p x e = slice_get-map outline old p ∙ ap (λ (o : Option Old). option_map outline o) e

pub private_alike : (map : Map) (old new : List Old) → outlines new ≡ outlines old → (place : ℕ) → IsPrivate map old place → IsPrivate map new place
private_alike map old new same place private p y r e f at =
    let z = object_at old p (outline y) (ap (λ (os : List Outline). slice_get os p) (sym same) ∙ outline_at new p y e) in
    private p z.0 r z.1 (ap map (ap (λ (o : Outline). o.made) z.2) ∙ f) at

-- ---- values, one behind the other

pub values_grow : (map more : Map) → Grown map more → (vs : List Value) (ws : List Word) → AreValues map vs ws → AreValues more vs ws
values_grow map more g [] [] h = tt
values_grow map more g [] (w ∷ ws) h = absurd h
values_grow map more g (v ∷ vs) [] h = absurd h
values_grow map more g (v ∷ vs) (w ∷ ws) h = (value_grows map more v w g h.0, values_grow map more g vs ws h.1)

pub values_then : (map : Map) (vs : List Value) (ws : List Word) (v : Value) (w : Word) → AreValues map vs ws → IsValue map v w → AreValues map (vs ++ v ∷ []) (ws ++ w ∷ [])
values_then map [] [] v w h i = (i, tt)
values_then map [] (x ∷ ws) v w h i = absurd h
values_then map (u ∷ vs) [] v w h i = absurd h
values_then map (u ∷ vs) (x ∷ ws) v w h i = (h.0, values_then map vs ws v w h.1 i)

-- ---- where objects stand

-- the object at this place is a home for so many bytes, and this word its address
pub record IsHome (l : LoweredUnit) (map : Map) (w : World) (bytes : List (Byte Value)) (place : ℕ) (word : Word) : Type 0 where
  pub home : Object
  pub there : slice_get w.objects place ≡ Some home
  pub open_home : home.constant ≡ false
  pub past : length l.objects ≤ place
  pub stands : (more : Map) → Grown map more → AreBytesOf more bytes home.bytes
  pub room : length bytes ≤ length home.bytes
  pub word_is : word ≡ Plain (Pointer (record { place = place; made = home.made; size = length home.bytes }) 0)

-- the copy that was passed lives, and may be written
pub record IsThere (map : Map) (lives : List Old) (w : World) (copy : Value) (word : Word) : Type 0 where
  pub name : ObjectName
  pub offset : ℕ
  pub size : ℕ
  pub is : copy ≡ Pointer name offset
  pub living : slice_get (outlines lives) name.place ≡ Some (record { made = name.made; size = size })
  pub value : IsValue map copy word
  pub opens : IsOpenTo Initialisation map w.objects copy

abbrev pub MayStand : LoweredUnit → Home → Map → List Old → World → Beginning → Standpoint → Word → Type 0
MayStand l home map lives w (Made constant bytes) (InSlot n) word = IsHome l map w bytes (home.place + n) word
MayStand l home map lives w (Made constant bytes) (InWord n) word = IsHome l map w bytes (home.place + length home.slots + n) word
MayStand l home map lives w (Passed constant copy) (AsPassed n) word = IsThere map lives w copy word
MayStand l home map lives w b h word = ⊥

abbrev pub AllMay : LoweredUnit → Home → Map → List Old → World → List Beginning → List Standpoint → List Word → Type 0
AllMay l home map lives w [] [] [] = Unit {0}
AllMay l home map lives w (b ∷ bs) (h ∷ hs) (u ∷ us) = MayStand l home map lives w b h u × AllMay l home map lives w bs hs us
AllMay l home map lives w bs hs us = ⊥

-- the second isn't the home of the first, if it is one
abbrev pub IsClear : Home → Standpoint → Standpoint → Type 0
IsClear home h (InSlot n) = is_home_of home h (home.place + n) ≡ false
IsClear home h (InWord n) = is_home_of home h (home.place + length home.slots + n) ≡ false
IsClear home h (AsPassed n) = Unit {0}

abbrev pub AreClear : Home → List Standpoint → Type 0
AreClear home [] = Unit {0}
AreClear home (h ∷ hs) = EachIs (IsClear home h) hs × AreClear home hs

abbrev pub IsFreeHome : Home → Map → List Old → Standpoint → Type 0
IsFreeHome home map old (InSlot n) = IsPrivate map old (home.place + n)
IsFreeHome home map old (InWord n) = IsPrivate map old (home.place + length home.slots + n)
IsFreeHome home map old (AsPassed n) = Unit {0}

-- ---- they begin

pub record Begun (l : LoweredUnit) (own : ℕ) (home : Home) (w : World) (hs : List Standpoint) (us : List Word) (map : Map) (old new : c.World) : Type 0 where
  pub later : Map
  pub grown : Grown map later
  pub matches : Matches l own later new w
  pub hides : (place : ℕ) → IsPrivate map (c.objects old) place → is_home home hs place ≡ false → IsPrivate later (c.objects new) place
  pub values : (as' : List Word) → AreValues map old.locals as' → AreValues later new.locals (as' ++ us)

module _ (l : LoweredUnit) (own : ℕ) (home : Home) (w : World) (first : Map) (lives : List Old) where
  -- one object
  pub record One (h : Standpoint) (u : Word) (map : Map) (old new : c.World) : Type 0 where
    pub later : Map
    pub grown : Grown map later
    pub matches : Matches l own later new w
    pub hides : (place : ℕ) → IsPrivate map (c.objects old) place → is_home_of home h place ≡ false → IsPrivate later (c.objects new) place
    pub values : (as' : List Word) → AreValues map old.locals as' → AreValues later new.locals (as' ++ u ∷ [])

  not_there : (a b : ℕ) → (b == a) ≡ false → a ≡ b → ⊥
  not_there a b e same = (let t = sym (eq-eqb b a (sym same)) ∙ e in let never : ⊥ = cc in never)

  made_so : (constant : Bool) (bytes : List (Byte Value)) (h : Standpoint) (place : ℕ) (u : Word) → ((at : ℕ) → is_home_of home h at ≡ (at == place)) → (map : Map) (old : c.World) → Grown first map → Matches l own map old w → IsPrivate map (c.objects old) place
      → IsHome l first w bytes place u → One h u map old (c.with_local constant bytes old)
  made_so constant bytes h place u is_at map old grown m private i =
      let range = whole_of place i.home in
      let may = home_holds l own map old w constant bytes place i.home i.there i.open_home private i.past (i.stands map grown) i.room in
      let begun = local_begins l own map old w constant bytes range m may in
      record {
        later = with_range old.storage.made range map;
        grown = begun.1;
        matches = begun.0;
        hides = λ at free elsewhere. beginning_hides l own map old w constant bytes range at m free (not_there place at (sym (is_at at) ∙ elsewhere));
        values = λ as' are.
            values_then (with_range old.storage.made range map) old.locals as' (c.next_place old (length bytes)) u (values_grow map (with_range old.storage.made range map) begun.1 old.locals as' are)
            (range, range_is old.storage.made range map, i.word_is);
      }

  same_range : {a b : Range} → Some a ≡ Some b → a ≡ b
  same_range e = cc

  passed_so : (constant : Bool) (copy : Value) (n : ℕ) (u : Word) (map : Map) (old : c.World) → Grown first map → LivesOn lives (c.objects old) → Matches l own map old w → IsThere first lives w copy u → One (AsPassed n) u map old (c.with_passed constant copy old)
  passed_so constant copy n u map old grown lived m i =
      let name = i.name in
      let pointer = Pointer name i.offset in
      let value : IsValue first pointer u = subst (λ (v : Value). IsValue first v u) i.is i.value in
      let opens : IsOpenTo Initialisation first w.objects pointer = subst (IsOpenTo Initialisation first w.objects) i.is i.opens in
      let open_so = λ (x : Old) (r : Range) (at : Object) (e : slice_get (c.objects old) name.place ≡ Some x) (f : map x.made ≡ Some r) (g : slice_get w.objects r.object.place ≡ Some at).
      (let o = outline_stays lives (c.objects old) lived name.place (record { made = name.made; size = i.size }) i.living in
      let made : x.made ≡ name.made = ap (λ (y : Outline). y.made) (same_outline (outline x) (record { made = name.made; size = i.size }) (sym (outline_at (c.objects old) name.place x e) ∙ o)) in
      let one : value.0 ≡ r = same_range (sym (grown name.made value.0 value.1) ∙ ap map (sym made) ∙ f) in
      opens value.0 at value.1 (ap (λ (y : Range). slice_get w.objects y.object.place) one ∙ g)) in
      subst (λ (v : Value). One (AsPassed n) u map old (c.with_passed constant v old)) (sym i.is)
      (record {
        later = map;
        grown = grown_refl map;
        matches = copy_passed l own map old w constant name i.offset m open_so;
        hides = λ place free elsewhere. private_alike map (c.objects old) (c.objects (c.with_passed constant pointer old)) (passed_outlines (c.objects old) pointer constant) place free;
        values = λ as' are. values_then map old.locals as' pointer u are (value_grows first map pointer u grown value);
      })
    where
      same_outline : (a b : Outline) → Some a ≡ Some b → a ≡ b
      same_outline a b e = cc

  one_begins : (b : Beginning) (h : Standpoint) (u : Word) (map : Map) (old : c.World) → Grown first map → LivesOn lives (c.objects old) → Matches l own map old w → IsFreeHome home map (c.objects old) h → MayStand l home first lives w b h u → One h u map old (begin b old)
  one_begins (Made constant bytes) (InSlot n) u map old grown lived m free i = made_so constant bytes (InSlot n) (home.place + n) u (λ at. refl) map old grown m free i
  one_begins (Made constant bytes) (InWord n) u map old grown lived m free i = made_so constant bytes (InWord n) (home.place + length home.slots + n) u (λ at. refl) map old grown m free i
  one_begins (Made constant bytes) (AsPassed n) u map old grown lived m free i = absurd i
  one_begins (Passed constant copy) (InSlot n) u map old grown lived m free i = absurd i
  one_begins (Passed constant copy) (InWord n) u map old grown lived m free i = absurd i
  one_begins (Passed constant copy) (AsPassed n) u map old grown lived m free i = passed_so constant copy n u map old grown lived m i

  or_false : (a b : Bool) → (a || b) ≡ false → (a ≡ false) × (b ≡ false)
  or_false true b e = absurd (let never : ⊥ = cc in never)
  or_false false b e = (refl, e)

  still_free : (h : Standpoint) (map more : Map) (old new : c.World) → ((place : ℕ) → IsPrivate map (c.objects old) place → is_home_of home h place ≡ false → IsPrivate more (c.objects new) place) → (gs : List Standpoint) → EachIs (IsClear home h) gs → EachIs (IsFreeHome home map (c.objects old)) gs
      → EachIs (IsFreeHome home more (c.objects new)) gs
  still_free h map more old new hides [] clear free = tt
  still_free h map more old new hides (InSlot n ∷ gs) clear free = (hides (home.place + n) free.0 clear.0, still_free h map more old new hides gs clear.1 free.1)
  still_free h map more old new hides (InWord n ∷ gs) clear free = (hides (home.place + length home.slots + n) free.0 clear.0, still_free h map more old new hides gs clear.1 free.1)
  still_free h map more old new hides (AsPassed n ∷ gs) clear free = (tt, still_free h map more old new hides gs clear.1 free.1)

  pub all_begin : (bs : List Beginning) (hs : List Standpoint) (us : List Word) (map : Map) (old : c.World) → Grown first map → LivesOn lives (c.objects old) → Matches l own map old w → AreClear home hs → EachIs (IsFreeHome home map (c.objects old)) hs → AllMay l home first lives w bs hs us
      → Begun l own home w hs us map old (begin_all bs old)
  all_begin [] [] [] map old grown lived m clear free may = record { later = map; grown = grown_refl map; matches = m; hides = λ place private elsewhere. private; values = λ as' are. subst (AreValues map old.locals) (sym (append-nil as')) are }
  all_begin [] [] (u ∷ us) map old grown lived m clear free may = absurd may
  all_begin [] (h ∷ hs) us map old grown lived m clear free may = absurd may
  all_begin (b ∷ bs) [] us map old grown lived m clear free may = absurd may
  all_begin (b ∷ bs) (h ∷ hs) [] map old grown lived m clear free may = absurd may
  all_begin (b ∷ bs) (h ∷ hs) (u ∷ us) map old grown lived m clear free may =
      let one = one_begins b h u map old grown lived m free.0 may.0 in
      let rest = all_begin bs hs us one.later (begin b old) (grown_trans first map one.later grown one.grown) (lives_then lives (c.objects old) (c.objects (begin b old)) lived (one_lives b old)) one.matches clear.1
      (still_free h map one.later old (begin b old) one.hides hs clear.0 free.1) may.1 in
      record {
        later = rest.later;
        grown = grown_trans map one.later rest.later one.grown rest.grown;
        matches = rest.matches;
        hides = λ place private elsewhere. (let e = or_false (is_home_of home h place) (is_home home hs place) elsewhere in rest.hides place (one.hides place private e.0) e.1);
        values = λ as' are. subst (AreValues rest.later (begin_all bs (begin b old)).locals) (append_assoc as' (u ∷ []) us) (rest.values (as' ++ u ∷ []) (one.values as' are));
      }
