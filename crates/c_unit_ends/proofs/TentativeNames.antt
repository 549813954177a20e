-- Tentative definitions in order: those of the first names, and then those of the others.
use Rattle.std.proofs.Common.{◌≡◌, ℕ, ◌+◌, Bool, true, false, List, [], ◌∷◌, ◌++◌, length, drop, map, refl, sym, ap, ◌∙◌, append_assoc, subst}
use Rattle.std.specs.Prelude.{Some, slice_get, if◌then◌else◌}
use Rattle.std.proofs.lemmas.List.{map-append}
use Rattle.c_symbols.specs.declared.symbol.Symbol.{Symbol}
use Rattle.c_symbols.specs.Scoping.{Scoping}
use Rattle.c_types.specs.Table.{Table, Extends, Grows, tags, types}
use Rattle.c_meaning.specs.Constraints.{Breaks}
use Rattle.c_meaning.specs.Declarations.{Defined}
use Rattle.c_meaning.specs.State.{Known, State, known_at}
use Rattle.c_meaning.specs.Types.{has_size}
use Rattle.c_values.specs.declared.check_fault.CheckFault.{CheckFault}
use Rattle.c_values.specs.declared.check_fault.CheckFault.TheVariants.{Constraint, Limit, Memory}
use Rattle.c_check_expr.specs.Known.{AreSymbolsIn, known_of, state_of}
use Rattle.c_check_expr.specs.StepFaults.{IsFault}
use Rattle.c_meaning.specs.Declarations.{Declares as DeclaresTrees}
use Rattle.c_check_decl.specs.declared.declares.Declares.{Declares}
use Rattle.c_check_decl.specs.declared.declares.DefinedObject.{DefinedObject}
use Rattle.c_check_decl.specs.Declares.{AreDeclaredIn, AreObjectsIn, IsObjectIn, defined_in}
use Rattle.c_check_decl.proofs.lemmas.DeclaresStay.{declares_later, declares_stay}
use Rattle.c_units.specs.Ends.{closed, is_tentative, open_fault, tentative, tentative_object, tentative_objects}
use Rattle.c_unit_ends.specs.TentativeObjects.{IsIncomplete, object_by}
use Rattle.c_unit_ends.proofs.AtPlaces.{at_entry, known_in, symbol_in}

-- ---- one name

module _ (s : State) (ns : List (List ℕ × ℕ)) (i : ℕ) (n : List ℕ × ℕ) (e : slice_get ns i ≡ Some n) where
  pub passed_over : is_tentative (known_at s n.1).value ≡ false → tentative s (drop i ns) ≡ tentative s (drop (i + 1) ns)
  passed_over h = at_entry (tentative s) ns i n e ∙ ap (λ (b : Bool). if b then n ∷ tentative s (drop (i + 1) ns) else tentative s (drop (i + 1) ns)) h

  pub taken : is_tentative (known_at s n.1).value ≡ true → tentative s (drop i ns) ≡ n ∷ tentative s (drop (i + 1) ns)
  taken h = at_entry (tentative s) ns i n e ∙ ap (λ (b : Bool). if b then n ∷ tentative s (drop (i + 1) ns) else tentative s (drop (i + 1) ns)) h

-- a name whose object was defined
module _ (s : State) (n : List ℕ × ℕ) (more : List (List ℕ × ℕ)) (sized : Bool) (e : has_size s.tags (closed (known_at s n.1)) ≡ sized) where
  pub sized_passes : sized ≡ true → open_fault s (n ∷ more) ≡ open_fault s more
  sized_passes h = ap (λ (b : Bool). if b then open_fault s more else Some (Breaks 16 (known_at s n.1).line)) (e ∙ h)

  pub open_told : (f : CheckFault) → IsIncomplete f (known_at s n.1).line sized → IsFault f (open_fault s (n ∷ more))
  open_told (Constraint number line) h = ap (λ (b : Bool). if b then open_fault s more else Some (Breaks 16 (known_at s n.1).line)) (e ∙ h.1.1) ∙ rw (h.0, h.1.0) refl
  open_told (Limit limit line) h = absurd h
  open_told Memory h = tt

-- ---- objects that stay

abbrev objects_alone : List DefinedObject → Declares
objects_alone os = record { objects = os; locals = []; fills = []; linked = [] }

alone_in : (n : ℕ) (os : List DefinedObject) → AreObjectsIn n os → AreDeclaredIn n (objects_alone os)
alone_in n os i = record { objects = i; locals = tt; fills = tt; linked = tt }

pub objects_stay : (a b : Table) → Extends a b → (os : List DefinedObject) → AreObjectsIn (length a.forms) os → map (defined_in b) os ≡ map (defined_in a) os
objects_stay a b h os i = ap (λ (d : DeclaresTrees). d.objects) (declares_stay a b h (objects_alone os) (alone_in (length a.forms) os i))

pub objects_later : (a b : Table) → Extends a b → (os : List DefinedObject) → AreObjectsIn (length a.forms) os → AreObjectsIn (length b.forms) os
objects_later a b h os i = (declares_later a b h (objects_alone os) (alone_in (length a.forms) os i)).objects

pub one_object : (n : ℕ) (os new : List DefinedObject) (o : DefinedObject) → new ≡ os ++ o ∷ [] → AreObjectsIn n os → IsObjectIn n o.object → AreObjectsIn n new
one_object n os new o e i j = subst (AreObjectsIn n) (sym e) (both os i)
  where
    both : (xs : List DefinedObject) → AreObjectsIn n xs → AreObjectsIn n (xs ++ o ∷ [])
    both [] k = (j, tt)
    both (x ∷ xs) k = (k.0, both xs k.1)

-- with one object more
pub object_added : (a b : Table) (os new : List DefinedObject) (o : DefinedObject) (tree : Defined) (more : List Defined) → Extends a b → AreObjectsIn (length a.forms) os → new ≡ os ++ o ∷ [] → defined_in b o ≡ tree
    → map (defined_in b) new ++ more ≡ map (defined_in a) os ++ tree ∷ more
object_added a b os new o tree more h i e f =
    ap (λ xs. map (defined_in b) xs ++ more) e ∙ ap (λ xs. xs ++ more) (map-append (defined_in b) os (o ∷ []))
    ∙ append_assoc (map (defined_in b) os) (defined_in b o ∷ []) more
    ∙ ap (λ xs. xs ++ defined_in b o ∷ more) (objects_stay a b h os i) ∙ ap (λ x. map (defined_in a) os ++ x ∷ more) f

-- ---- one step, over the table that has grown since the scopes were seen

module _ (sc : Scoping) (a b : Table) (g : Grows a b) (ns : List (List ℕ × ℕ)) (i : ℕ) (n : List ℕ × ℕ) (y : Symbol) (e : slice_get ns i ≡ Some n) (f : slice_get sc.symbols n.1 ≡ Some y) (l : AreSymbolsIn (length a.forms) sc.symbols) where
  abbrev before : State
  before = state_of sc a

  abbrev has_room : Bool
  has_room = has_size (tags b) (closed (known_of (types b) y))

  known_is : known_at before n.1 ≡ known_of (types a) y
  known_is = known_in (types a) sc.symbols n.1 y f

  later_is : known_of (types b) y ≡ known_at before n.1
  later_is = rw (g.extends.types_stay y.of (symbol_in (length a.forms) sc.symbols n.1 y l f)) (sym known_is)

  room_is : has_size before.tags (closed (known_at before n.1)) ≡ has_room
  room_is = ap (λ k. has_size (tags a) (closed k)) (sym later_is) ∙ ap (λ ts. has_size ts (closed (known_of (types b) y))) (sym g.tags_same)

  value_is : (v : Bool) → is_tentative y.value ≡ v → is_tentative (known_at before n.1).value ≡ v
  value_is v h = ap (λ (k : Known). is_tentative k.value) known_is ∙ h

  pub no_object_here : is_tentative y.value ≡ false → tentative before (drop i ns) ≡ tentative before (drop (i + 1) ns)
  no_object_here h = passed_over before ns i n e (value_is false h)

  module _ (h : is_tentative y.value ≡ true) where
    object_here : tentative before (drop i ns) ≡ n ∷ tentative before (drop (i + 1) ns)
    object_here = taken before ns i n e (value_is true h)

    pub told_here : (x : CheckFault) → IsIncomplete x y.line has_room → IsFault x (open_fault before (tentative before (drop i ns)))
    told_here x k =
        subst (λ o. IsFault x o) (sym (ap (open_fault before) object_here))
        (open_told before n (tentative before (drop (i + 1) ns)) has_room room_is x (subst (λ (z : Known). IsIncomplete x z.line has_room) (sym known_is) k))

    pub passes_here : has_room ≡ true → open_fault before (tentative before (drop (i + 1) ns)) ≡ open_fault before (tentative before (drop i ns))
    passes_here k = sym (ap (open_fault before) object_here ∙ sized_passes before n (tentative before (drop (i + 1) ns)) has_room room_is k)

    pub added_here : (c : Table) (os new : List DefinedObject) (o : DefinedObject) → Extends b c → AreObjectsIn (length b.forms) os → new ≡ os ++ o ∷ [] → defined_in c o ≡ object_by n.0 n.1 (known_of (types b) y)
        → map (defined_in c) new ++ tentative_objects before (tentative before (drop (i + 1) ns)) ≡ map (defined_in b) os ++ tentative_objects before (tentative before (drop i ns))
    added_here c os new o x j k m =
        object_added b c os new o (tentative_object before n) (tentative_objects before (tentative before (drop (i + 1) ns))) x j k (m ∙ ap (object_by n.0 n.1) later_is)
        ∙ ap (λ xs. map (defined_in b) os ++ tentative_objects before xs) (sym object_here)
