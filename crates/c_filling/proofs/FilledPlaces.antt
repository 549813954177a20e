-- What comes of places that are filled.
use Rattle.std.proofs.Common.{◌≡◌, ℕ, suc, ◌+◌, ◌<◌, Bool, true, false, Option, zero, List, [], ◌∷◌, length, drop, get_or, drop-cons, pos, refl, ap, sym, ◌∙◌, subst, arith}
use Rattle.std.specs.Prelude.{◌&&◌, IsErrAnd, Result as Checked, Ok, Err}
use Rattle.lcc_base.specs.declared.cause.Cause.{Cause}
use Rattle.lcc_base.specs.Traces.{Event}
use Rattle.objects.specs.declared.purpose.Purpose.TheVariants.{Initialisation}
use Rattle.objects.specs.declared.value.Value.{Value}
use Rattle.objects.specs.Accesses.{bytes_written}
use Rattle.objects.specs.Copies.{copied}
use Rattle.objects.specs.Objects.{Object, Storage}
use Rattle.objects.specs.Pointers.{place_after}
use Rattle.c_types.specs.CType.{CType, Array}
use Rattle.c_types.specs.Table.{Table, type_at}
use Rattle.c_meaning.specs.CoreTrees.{Core, CoreOf, line_of, seen, what_of}
use Rattle.c_meaning.specs.declared.filled_place.FilledPlace.{FilledPlace}
use Rattle.c_meaning.specs.StmtTrees.{FilledOf}
use Rattle.c_meaning.specs.Types.{is_array, is_record}
use Rattle.c_plain.specs.Plain.{is_plain, used}
use Rattle.c_runs.specs.Calls.{Setting}
use Rattle.c_runs.specs.Expressions.{eval}
use Rattle.c_runs.specs.Outcomes.{How, Undefined as Undefines, Result, Gives, GivesNone, Ends, Out, Next, Over, if_done, then_do, then_next}
use Rattle.c_runs.specs.Places.{align_of, size_of}
use Rattle.c_runs.specs.Statements.{fill, filled, string_of}
use Rattle.c_runs.specs.Worlds.{World as RunWorld, objects, with_objects}
use Rattle.c_worlds.specs.declared.program.Program.{Program}
use Rattle.c_worlds.specs.declared.stop.Stop.{Stop}
use Rattle.c_worlds.specs.declared.stop.Stop.TheVariants.{Undefined, Memory}
use Rattle.c_worlds.specs.declared.world.World.{World}
use Rattle.c_worlds.specs.Programs.{known}
use Rattle.c_worlds.specs.Shown.{shown, Gets, Goes}
use Rattle.c_worlds.specs.Stops.{Stores}
use Rattle.c_filling.specs.Filled.{are_plain_places, filled_at, seen_place, seen_places}

-- ---- what is stored

-- an array of characters
pub array_filled : (s : Setting) (x : FilledOf CType) (to v : Value) (os : List Object) (of : CType) (count : Option ℕ) (bytes : List ℕ) → x.of ≡ Array of count → bytes ≡ string_of s.unit (Array of count) (what_of x.value) → bytes_written Initialisation bytes os to ≡ filled s x to v os
array_filled s x to v os of count bytes e b =
    let F : CType → Type 0 = λ t. bytes_written Initialisation bytes os to ≡ filled s (record { of = t; offset = x.offset; first = x.first; width = x.width; value = x.value }) to v os in
    subst F (sym e) (ap (λ bs. bytes_written Initialisation bs os to) b)

-- a structure
pub record_filled : (s : Setting) (x : FilledOf CType) (to v : Value) (os : List Object) (size align : ℕ) → is_array x.of ≡ false → is_record x.of ≡ true → size ≡ size_of s.unit.tags x.of → align ≡ align_of s.unit.tags x.of → copied Initialisation os v to size align ≡ filled s x to v os
record_filled s x to v os size align a r e f = rw (a, r, e, f) refl

-- what is said of the type at a place of a table holds at an equal place of an equal one
pub known_in : {A : Type 0} (f : Table → CType → A) (t u : Table) (a b : ℕ) (r : A) → u ≡ t → b ≡ a → r ≡ f u (type_at u b) → r ≡ f t (type_at t a)
known_in f t u a b r e g h = h ∙ ap (λ (x : Table). f x (type_at x b)) e ∙ ap (λ (n : ℕ). f t (type_at t n)) g

what_seen : (f : ℕ → CType) (e : CoreOf ℕ) → what_of (seen f e) ≡ what_of e
what_seen f (Core what of line kids) = refl

line_seen : (f : ℕ → CType) (e : CoreOf ℕ) → line_of (seen f e) ≡ line_of e
line_seen f (Core what of line kids) = refl

pub kind_seen : (f : ℕ → CType) (e : CoreOf ℕ) → what_of e ≡ what_of (seen f e)
kind_seen f e = sym (what_seen f e)

-- ---- a place filled

-- a world with another storage
abbrev pub world_in : World → Storage → World
world_in w s = record { storage = s; locals = w.locals; input = w.input; output = w.output }

stored_in : World → List Event → List Object → ℕ → RunWorld
stored_in w t os made = record { storage = record { objects = os; made = made }; locals = w.locals.here; input = w.input.now; trace = t }

pub place_comes : (s : Setting) (p : Program) (x : FilledPlace) (base v to : Value) (line : ℕ) (old : World) (new : Storage) (r : Checked (Unit {0}) Stop) → to ≡ place_after base (pos x.at.offset) → line ≡ line_of x.value
    → Stores (filled s (seen_place p x) to v old.storage.objects) line old.storage new r → Goes (λ k w. filled_at s (seen_place p x) base v k w) old (world_in old new) r
unfolding stored_in
place_comes s p x base v to line old new (Ok u) e i h = λ k t.
    ap (λ q. if_done (filled s (seen_place p x) q v old.storage.objects) (line_of (seen_place p x).value) (shown old t) (λ os. Next k (with_objects (shown old t) os))) (sym e)
    ∙ ap (λ r. if_done r (line_of (seen_place p x).value) (shown old t) (λ os. Next k (with_objects (shown old t) os))) h.0
    ∙ ap (λ m. Next k (stored_in old t new.objects m)) (sym h.1)
place_comes s p x base v to line old new (Err (Undefined cause at)) e i h = λ k t.
    ap (λ q. if_done (filled s (seen_place p x) q v old.storage.objects) (line_of (seen_place p x).value) (shown old t) (λ os. Next k (with_objects (shown old t) os))) (sym e)
    ∙ ap (λ r. if_done r (line_of (seen_place p x).value) (shown old t) (λ os. Next k (with_objects (shown old t) os))) h.0
    ∙ ap (λ n. Over (Undefines cause n) (shown old t)) (line_seen (known p) x.value ∙ sym (h.1.0 ∙ i))
    ∙ ap (λ (y : Storage). Over (Undefines cause at) (shown (world_in old y) t)) (sym h.1.1)
place_comes s p x base v to line old new (Err Memory) e i h = tt

-- ---- handed on

abbrev pub Passes : (ℕ → RunWorld → Out) → (ℕ → RunWorld → Out) → World → World → Type 0
Passes does next old mid = (k : ℕ) (t : List Event) → does k (shown old t) ≡ next k (shown mid t)

over_by : (does : ℕ → RunWorld → Out) (part : ℕ → RunWorld → Result) (old mid new : World) (stop : Stop) → Gets part mid new (Err stop) → ((k : ℕ) (t : List Event) (how : How) (w : RunWorld) → part k (shown mid t) ≡ Ends how w → does k (shown old t) ≡ Over how w) → Goes does old new (Err stop)
over_by does part old mid new (Undefined cause line) g p = λ k t. p k t (Undefines cause line) (shown new t) (g k t)
over_by does part old mid new Memory g p = tt

pub over : (does : ℕ → RunWorld → Out) (part : ℕ → RunWorld → Result) (old mid new : World) (r : Checked (Unit {0}) Stop) (stop : Stop) → IsErrAnd r (λ y. y ≡ stop) → Gets part mid new (Err stop) → ((k : ℕ) (t : List Event) (how : How) (w : RunWorld) → part k (shown mid t) ≡ Ends how w → does k (shown old t) ≡ Over how w) → Goes does old new r
over does part old mid new (Ok u) stop h g p = absurd h
over does part old mid new (Err y) stop h g p = subst (λ z. Goes does old new (Err z)) (sym h) (over_by does part old mid new stop g p)

ends_by : (does part : ℕ → RunWorld → Out) (old mid new : World) (stop : Stop) → Goes part mid new (Err stop) → ((k : ℕ) (t : List Event) (how : How) (w : RunWorld) → part k (shown mid t) ≡ Over how w → does k (shown old t) ≡ Over how w) → Goes does old new (Err stop)
ends_by does part old mid new (Undefined cause line) g p = λ k t. p k t (Undefines cause line) (shown new t) (g k t)
ends_by does part old mid new Memory g p = tt

pub ends : (does part : ℕ → RunWorld → Out) (old mid new : World) (r : Checked (Unit {0}) Stop) (stop : Stop) → IsErrAnd r (λ y. y ≡ stop) → Goes part mid new (Err stop) → ((k : ℕ) (t : List Event) (how : How) (w : RunWorld) → part k (shown mid t) ≡ Over how w → does k (shown old t) ≡ Over how w) → Goes does old new r
ends does part old mid new (Ok u) stop h g p = absurd h
ends does part old mid new (Err y) stop h g p = subst (λ z. Goes does old new (Err z)) (sym h) (ends_by does part old mid new stop g p)

-- ---- places in turn

do_gives : (r : Result) (v : Value) (k : ℕ) (w : RunWorld) (go : Value → ℕ → RunWorld → Out) → used r ≡ Gives v k w → then_do r go ≡ go v k w
do_gives (Gives u j x) v k w go e = ap (λ r. then_do r go) e
do_gives (GivesNone line j x) v k w go e = absurd cc
do_gives (Ends how x) v k w go e = absurd cc

do_ends : (r : Result) (how : How) (w : RunWorld) (go : Value → ℕ → RunWorld → Out) → used r ≡ Ends how w → then_do r go ≡ Over how w
do_ends (Gives u j x) how w go e = absurd cc
do_ends (GivesNone line j x) how w go e = ap (λ r. then_do r go) e
do_ends (Ends h x) how w go e = ap (λ r. then_do r go) e

-- what is done behind a store
done_next : (x : Checked (List Object) Cause) (line k : ℕ) (w : RunWorld) (go : ℕ → RunWorld → Out) → if_done x line w (λ os. go k (with_objects w os)) ≡ then_next (if_done x line w (λ os. Next k (with_objects w os))) go
done_next (Ok os) line k w go = refl
done_next (Err cause) line k w go = refl

pub behind : {X : Type 0} (xs : List X) (i : ℕ) (x : X) → i < length xs → x ≡ get_or xs i x → drop i xs ≡ x ∷ drop (i + 1) xs
behind {X} xs i x l is = drop-cons xs i x l ∙ ap (λ (y : X). y ∷ drop (suc i) xs) (sym is) ∙ ap (λ n. x ∷ drop n xs) (let e : suc i ≡ i + 1 = omega arith in e)

-- filling from one world on with places that are left in another
abbrev pub IsFilling : Setting → Program → Value → List FilledPlace → List FilledPlace → World → World → Type 0
IsFilling s p base all left old new = Passes (λ k w. fill s base (seen_places p all) k w) (λ k w. fill s base (seen_places p left) k w) old new

abbrev pub does_value : Setting → Program → FilledPlace → ℕ → RunWorld → Result
does_value s p x k w = used (eval s (seen (known p) x.value) k w)

value_first : (s : Setting) (p : Program) (base : Value) (all : List FilledPlace) (i : ℕ) (x : FilledPlace) (old mid : World) (k : ℕ) (t : List Event) → i < length all → x ≡ get_or all i x → IsFilling s p base all (drop i all) old mid
    → fill s base (seen_places p all) k (shown old t) ≡ then_do (eval s (seen (known p) x.value) k (shown mid t)) (λ v k1 w1. if_done (filled s (seen_place p x) (place_after base (pos x.at.offset)) v (objects w1)) (line_of (seen_place p x).value) w1 (λ os. fill s base (seen_places p (drop (i + 1) all)) k1 (with_objects w1 os)))
value_first s p base all i x old mid k t l is h = h k t ∙ ap (λ ys. fill s base (seen_places p ys) k (shown mid t)) (behind all i x l is)

pub value_stops : (s : Setting) (p : Program) (base : Value) (all : List FilledPlace) (i : ℕ) (x : FilledPlace) (old mid new : World) (r : Checked (Unit {0}) Stop) (stop : Stop) → i < length all → x ≡ get_or all i x → IsFilling s p base all (drop i all) old mid → IsErrAnd r (λ y. y ≡ stop) → Gets (does_value s p x) mid new (Err stop) → Goes (λ k w. fill s base (seen_places p all) k w) old new r
value_stops s p base all i x old mid new r stop l is h j g =
    over (λ k w. fill s base (seen_places p all) k w) (does_value s p x) old mid new r stop j g
    (λ k t how w e. value_first s p base all i x old mid k t l is h ∙ do_ends (eval s (seen (known p) x.value) k (shown mid t)) how w _ e)

place_next : (s : Setting) (p : Program) (base : Value) (all : List FilledPlace) (i : ℕ) (x : FilledPlace) (old mid last : World) (v : Value) (k : ℕ) (t : List Event) → i < length all → x ≡ get_or all i x → IsFilling s p base all (drop i all) old mid → does_value s p x k (shown mid t) ≡ Gives v k (shown last t)
    → fill s base (seen_places p all) k (shown old t) ≡ then_next (filled_at s (seen_place p x) base v k (shown last t)) (λ k1 w1. fill s base (seen_places p (drop (i + 1) all)) k1 w1)
place_next s p base all i x old mid last v k t l is h g =
    value_first s p base all i x old mid k t l is h
    ∙ do_gives (eval s (seen (known p) x.value) k (shown mid t)) v k (shown last t) _ g
    ∙ done_next (filled s (seen_place p x) (place_after base (pos x.at.offset)) v last.storage.objects) (line_of (seen_place p x).value) k (shown last t) (λ k1 w1. fill s base (seen_places p (drop (i + 1) all)) k1 w1)

pub filling_stops : (s : Setting) (p : Program) (base : Value) (all : List FilledPlace) (i : ℕ) (x : FilledPlace) (old mid last new : World) (v : Value) (r : Checked (Unit {0}) Stop) (stop : Stop) → i < length all → x ≡ get_or all i x → IsFilling s p base all (drop i all) old mid → Gets (does_value s p x) mid last (Ok v) → IsErrAnd r (λ y. y ≡ stop) → Goes (λ k w. filled_at s (seen_place p x) base v k w) last new (Err stop) → Goes (λ k w. fill s base (seen_places p all) k w) old new r
filling_stops s p base all i x old mid last new v r stop l is h g j f =
    ends (λ k w. fill s base (seen_places p all) k w) (λ k w. filled_at s (seen_place p x) base v k w) old last new r stop j f
    (λ k t how w e. place_next s p base all i x old mid last v k t l is h (g k t) ∙ ap (λ o. then_next o (λ k1 w1. fill s base (seen_places p (drop (i + 1) all)) k1 w1)) e)

pub filling_goes_on : (s : Setting) (p : Program) (base : Value) (all : List FilledPlace) (i : ℕ) (x : FilledPlace) (old mid last new : World) (v : Value) (u : Unit {0}) → i < length all → x ≡ get_or all i x → IsFilling s p base all (drop i all) old mid → Gets (does_value s p x) mid last (Ok v) → Goes (λ k w. filled_at s (seen_place p x) base v k w) last new (Ok u) → IsFilling s p base all (drop (i + 1) all) old new
filling_goes_on s p base all i x old mid last new v u l is h g f = λ k t.
    place_next s p base all i x old mid last v k t l is h (g k t) ∙ ap (λ o. then_next o (λ k1 w1. fill s base (seen_places p (drop (i + 1) all)) k1 w1)) (f k t)

pub filling_is_done : (s : Setting) (p : Program) (base : Value) (all left : List FilledPlace) (old new : World) (u : Unit {0}) → left ≡ [] → IsFilling s p base all left old new → Goes (λ k w. fill s base (seen_places p all) k w) old new (Ok u)
filling_is_done s p base all left old new u n h = λ k t. h k t ∙ ap (λ ys. fill s base (seen_places p ys) k (shown new t)) n

and_left : (a b : Bool) → (a && b) ≡ true → a ≡ true
and_left true b h = refl
and_left false b h = h

and_right : (a b : Bool) → (a && b) ≡ true → b ≡ true
and_right true b h = h
and_right false b h = absurd cc

rest_plain : (xs : List FilledPlace) (i : ℕ) → are_plain_places xs ≡ true → are_plain_places (drop i xs) ≡ true
rest_plain xs zero h = h
rest_plain [] (suc i) h = h
rest_plain (x ∷ xs) (suc i) h = rest_plain xs i (and_right (is_plain x.value) (are_plain_places xs) h)

pub place_plain : (xs : List FilledPlace) (i : ℕ) (x : FilledPlace) → are_plain_places xs ≡ true → i < length xs → x ≡ get_or xs i x → is_plain x.value ≡ true
place_plain xs i x h l is =
    and_left (is_plain x.value) (are_plain_places (drop (i + 1) xs))
    (subst (λ ys. are_plain_places ys ≡ true) (behind xs i x l is) (rest_plain xs i h))
