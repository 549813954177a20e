-- How a program comes into the world in which it starts.
use Rattle.std.proofs.Common.{◌≡◌, ℕ, ◌+◌, ◌<◌, Bool, List, [], ◌∷◌, length, drop, get_or, map, replicate, zero, suc, refl, ap, sym, ◌∙◌, subst}
use Rattle.std.specs.Prelude.{IsErrAnd, Result as Checked, Ok, Err}
use Rattle.lcc_base.specs.Traces.{Event}
use Rattle.objects.specs.declared.byte.Byte.{Byte}
use Rattle.objects.specs.declared.byte.Byte.TheVariants.{Bits}
use Rattle.objects.specs.declared.value.Value.{Value}
use Rattle.objects.specs.Bytes.{known_bytes}
use Rattle.objects.specs.Objects.{Storage, with_object}
use Rattle.c_types.specs.Constness.{is_const}
use Rattle.c_types.specs.Table.{Table, tags, types}
use Rattle.c_types.specs.Layout.{Tag}
use Rattle.c_meaning.specs.declared.core_unit.CoreObject.{CoreObject}
use Rattle.c_meaning.specs.declared.filled_place.FilledPlace.{FilledPlace}
use Rattle.c_meaning.specs.Units.{ObjectTree, object_seen}
use Rattle.c_runs.specs.Calls.{Setting}
use Rattle.c_runs.specs.Outcomes.{Out, then_next}
use Rattle.c_runs.specs.Places.{size_of, static_place}
use Rattle.c_runs.specs.Run.{empty_world, filled_from, started, with_objects_of, with_texts}
use Rattle.c_runs.specs.Statements.{fill}
use Rattle.c_runs.specs.Worlds.{World as RunWorld}
use Rattle.c_worlds.specs.declared.program.Program.{Program}
use Rattle.c_worlds.specs.declared.stop.Stop.{Stop}
use Rattle.c_worlds.specs.declared.stop.Stop.TheVariants.{Undefined, Memory}
use Rattle.c_worlds.specs.declared.world.World.{World}
use Rattle.c_worlds.specs.OpenLocals.{OpenLocals}
use Rattle.c_worlds.specs.Programs.{Calls, setting_of}
use Rattle.c_worlds.specs.Shown.{shown, Goes}
use Rattle.c_worlds.proofs.lemmas.Stores.{same_storage}
use Rattle.c_filling.specs.Filled.{seen_places}
use Rattle.c_filling.specs.Starts.{Starts, kept_in}
use Rattle.c_filling.proofs.FilledPlaces.{behind, ends}

zeros_known : (n : ℕ) → known_bytes {V = Value} (replicate n 0) ≡ replicate n (Bits 255 0)
zeros_known zero = refl
zeros_known (suc n) = ap (λ (bs : List (Byte Value)). Bits 255 0 ∷ bs) (zeros_known n)

-- ---- objects made

made_as : (old new : Storage) (constant other : Bool) (size n : ℕ) → constant ≡ other → size ≡ n → new ≡ with_object old constant (replicate size (Bits 255 0)) → with_object old other (known_bytes (replicate n 0)) ≡ new
made_as old new constant other size n c s e =
    ap (λ (bs : List (Byte Value)). with_object old other bs) (zeros_known n)
    ∙ ap (λ (b : Bool). with_object old b (replicate n (Bits 255 0))) (sym c)
    ∙ ap (λ (m : ℕ). with_object old constant (replicate m (Bits 255 0))) (sym s)
    ∙ sym e

pub next_object : (ts : List Tag) (f : CoreObject → ObjectTree) (all : List CoreObject) (i : ℕ) (x : CoreObject) (old mid new : Storage) (constant : Bool) (size : ℕ) (w : RunWorld) → i < length all → x ≡ get_or all i x
    → with_objects_of ts (map f all) (kept_in old w) ≡ with_objects_of ts (map f (drop i all)) (kept_in mid w)
    → constant ≡ is_const (f x).of → size ≡ size_of ts (f x).of → new ≡ with_object mid constant (replicate size (Bits 255 0))
    → with_objects_of ts (map f all) (kept_in old w) ≡ with_objects_of ts (map f (drop (i + 1) all)) (kept_in new w)
next_object ts f all i x old mid new constant size w l is h c s e =
    h
    ∙ ap (λ (ys : List CoreObject). with_objects_of ts (map f ys) (kept_in mid w)) (behind all i x l is)
    ∙ ap (λ (z : Storage). with_objects_of ts (map f (drop (i + 1) all)) (kept_in z w)) (made_as mid new constant (is_const (f x).of) size (size_of ts (f x).of) c s e)

-- ---- objects filled

abbrev pub sees : Program → CoreObject → ObjectTree
sees p o = object_seen (types p.core.now.types) o

-- filling from one world on with objects that are left in another, from a place on
abbrev pub IsFillingFrom : Setting → Program → List CoreObject → ℕ → World → World → Type 0
IsFillingFrom s p all n old new = (k : ℕ) (t : List Event) → filled_from s 0 (map (sees p) all) k (shown old t) ≡ filled_from s n (map (sees p) (drop n all)) k (shown new t)

object_next : (calls : Calls) (p : Program) (all : List CoreObject) (n : ℕ) (x : CoreObject) (base : Value) (size : ℕ) (ps : List FilledPlace) (k : ℕ) (w : RunWorld) → n < length all → x ≡ get_or all n x → base ≡ static_place n size → size ≡ size_of (tags p.core.now.types) (sees p x).of → ps ≡ x.places
    → filled_from (setting_of p calls) n (map (sees p) (drop n all)) k w ≡ then_next (fill (setting_of p calls) base (seen_places p ps) k w) (λ k1 w1. filled_from (setting_of p calls) (n + 1) (map (sees p) (drop (n + 1) all)) k1 w1)
object_next calls p all n x base size ps k w l is b s e =
    let go : ℕ → RunWorld → Out = λ k1 w1. filled_from (setting_of p calls) (n + 1) (map (sees p) (drop (n + 1) all)) k1 w1 in
    ap (λ (ys : List CoreObject). filled_from (setting_of p calls) n (map (sees p) ys) k w) (behind all n x l is)
    ∙ ap (λ (m : ℕ). then_next (fill (setting_of p calls) (static_place n m) (sees p x).places k w) go) (sym s)
    ∙ ap (λ (v : Value). then_next (fill (setting_of p calls) v (sees p x).places k w) go) (sym b)
    ∙ ap (λ (qs : List FilledPlace). then_next (fill (setting_of p calls) base (seen_places p qs) k w) go) (sym e)

pub object_stops : (calls : Calls) (p : Program) (all : List CoreObject) (n : ℕ) (x : CoreObject) (base : Value) (size : ℕ) (ps : List FilledPlace) (old mid new : World) (r : Checked (Unit {0}) Stop) (stop : Stop) → n < length all → x ≡ get_or all n x → base ≡ static_place n size → size ≡ size_of (tags p.core.now.types) (sees p x).of → ps ≡ x.places
    → IsFillingFrom (setting_of p calls) p all n old mid → IsErrAnd r (λ y. y ≡ stop) → Goes (λ k w. fill (setting_of p calls) base (seen_places p ps) k w) mid new (Err stop) → Goes (λ k w. filled_from (setting_of p calls) 0 (map (sees p) all) k w) old new r
object_stops calls p all n x base size ps old mid new r stop l is b s e h j g =
    ends (λ k w. filled_from (setting_of p calls) 0 (map (sees p) all) k w) (λ k w. fill (setting_of p calls) base (seen_places p ps) k w) old mid new r stop j g
    (λ k t how w q. h k t ∙ object_next calls p all n x base size ps k (shown mid t) l is b s e ∙ ap (λ o. then_next o (λ k1 w1. filled_from (setting_of p calls) (n + 1) (map (sees p) (drop (n + 1) all)) k1 w1)) q)

pub object_goes_on : (calls : Calls) (p : Program) (all : List CoreObject) (n : ℕ) (x : CoreObject) (base : Value) (size : ℕ) (ps : List FilledPlace) (old mid new : World) (u : Unit {0}) → n < length all → x ≡ get_or all n x → base ≡ static_place n size → size ≡ size_of (tags p.core.now.types) (sees p x).of → ps ≡ x.places
    → IsFillingFrom (setting_of p calls) p all n old mid → Goes (λ k w. fill (setting_of p calls) base (seen_places p ps) k w) mid new (Ok u) → IsFillingFrom (setting_of p calls) p all (n + 1) old new
object_goes_on calls p all n x base size ps old mid new u l is b s e h g = λ k t.
    h k t ∙ object_next calls p all n x base size ps k (shown mid t) l is b s e ∙ ap (λ o. then_next o (λ k1 w1. filled_from (setting_of p calls) (n + 1) (map (sees p) (drop (n + 1) all)) k1 w1)) (g k t)

-- ---- the start

new_storage : (s : Storage) → s.objects ≡ [] → s.made ≡ 0 → s ≡ record { objects = []; made = 0 }
new_storage s e f = same_storage s (record { objects = []; made = 0 }) e f

pub started_is : (calls : Calls) (p : Program) (input : List ℕ) (table : Table) (objects again : List CoreObject) (texts : List (List ℕ)) (first second third : Storage) (locals : OpenLocals) (k : ℕ)
    → first.objects ≡ [] → first.made ≡ 0 → table ≡ p.core.now.types → objects ≡ p.core.now.objects → again ≡ p.core.now.objects → texts ≡ p.core.now.texts → locals ≡ record { below = []; here = [] }
    → ((w : RunWorld) → with_objects_of (tags table) (map (object_seen (types table)) objects) (kept_in first w) ≡ kept_in second w)
    → ((w : RunWorld) → with_texts texts (kept_in second w) ≡ kept_in third w)
    → started (setting_of p calls) input k ≡ filled_from (setting_of p calls) 0 (map (sees p) again) k (record { storage = third; locals = locals.here; input = input; trace = [] })
started_is calls p input table objects again texts first second third locals k a b t o q x l made written =
    let W = empty_world input in
    let F : Storage → Type 0 = λ z. with_objects_of (tags table) (map (object_seen (types table)) objects) (kept_in z W) ≡ kept_in second W in
    let G : Table → Type 0 = λ z. with_objects_of (tags z) (map (object_seen (types z)) objects) W ≡ kept_in second W in
    let H : List CoreObject → Type 0 = λ z. with_objects_of (tags p.core.now.types) (map (sees p) z) W ≡ kept_in second W in
    let e : H p.core.now.objects = subst H o (subst G t (subst F (new_storage first a b) (made W))) in
    let T : List (List ℕ) → Type 0 = λ z. with_texts z (kept_in second W) ≡ kept_in third W in
    let f : T p.core.now.texts = subst T x (written W) in
    ap (λ (w : RunWorld). filled_from (setting_of p calls) 0 (map (sees p) p.core.now.objects) k (with_texts p.core.now.texts w)) e
    ∙ ap (λ (w : RunWorld). filled_from (setting_of p calls) 0 (map (sees p) p.core.now.objects) k w) f
    ∙ ap (λ (ys : List CoreObject). filled_from (setting_of p calls) 0 (map (sees p) ys) k (kept_in third W)) (sym q)
    ∙ ap (λ (y : OpenLocals). filled_from (setting_of p calls) 0 (map (sees p) again) k (record { storage = third; locals = y.here; input = input; trace = [] })) (sym l)

pub start_stops : (p : Program) (input : List ℕ) (does : Calls → ℕ → RunWorld → Out) (old new : World) (r : Checked World Stop) (stop : Stop) → IsErrAnd r (λ y. y ≡ stop) → ((calls : Calls) (k : ℕ) → started (setting_of p calls) input k ≡ does calls k (shown old [])) → ((calls : Calls) → Goes (does calls) old new (Err stop)) → Starts p input r
start_stops p input does old new (Ok w) stop h e g = absurd h
start_stops p input does old new (Err y) stop h e g = subst (λ z. Starts p input (Err z)) (sym h) (by stop g)
  where
    by : (z : Stop) → ((calls : Calls) → Goes (does calls) old new (Err z)) → Starts p input (Err z)
    by (Undefined cause line) f = λ calls k. (shown new [], e calls k ∙ f calls k [], refl)
    by Memory f = tt
