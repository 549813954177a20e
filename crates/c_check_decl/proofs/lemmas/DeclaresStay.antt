-- What stays of what is declared when a table grows, and what is declared behind it.
use Rattle.std.proofs.Common.{◌≡◌, ℕ, ◌<◌, ◌≤◌, List, [], ◌∷◌, ◌++◌, length, map, refl, ap, ◌∙◌, append_assoc, arith}
use Rattle.std.proofs.lemmas.List.{append-nil, map-append}
use Rattle.c_types.specs.CType.{CType}
use Rattle.c_types.specs.Table.{Table, Extends, type_at}
use Rattle.c_meaning.specs.declared.core_stmt.CoreStmt.{CoreStmt}
use Rattle.c_meaning.specs.declared.filled_place.FilledPlace.{FilledPlace}
use Rattle.c_meaning.specs.Declarations.{Declares as DeclaresTrees, Defined, Linked, nothing, together}
use Rattle.c_meaning.specs.StmtTrees.{StmtOf, stmt_of}
use Rattle.c_values.specs.Stays.{in_more, longer, seen_stays}
use Rattle.c_initialisers.specs.FilledPlaces.{ArePlacesIn, filled_place_in}
use Rattle.c_check_decl.specs.declared.declares.Declares.{Declares}
use Rattle.c_check_decl.specs.declared.declares.DefinedObject.{DefinedObject}
use Rattle.c_check_decl.specs.declared.declares.LinkedName.{LinkedName}
use Rattle.c_check_decl.specs.Declares.{AreDeclaredIn, AreFillsIn, AreLinkedIn, AreLocalsIn, AreObjectsIn, declares_in, defined_in, linked_in, stmt_in}
use Rattle.c_check_decl.proofs.lemmas.StmtsStay.{stmt_later, stmt_stays}

-- ---- parts

abbrev parts : List Defined → List CType → List (StmtOf CType) → List Linked → DeclaresTrees
parts os ls fs ns = record { objects = os; locals = ls; fills = fs; linked = ns }

same_parts : {o p : List Defined} {l m : List CType} {f g : List (StmtOf CType)} {n k : List Linked} → o ≡ p → l ≡ m → f ≡ g → n ≡ k → parts o l f n ≡ parts p m g k
same_parts a b c d = rw (a, b, c, d) refl

-- ---- what is declared in order

pub together_nothing : (d : DeclaresTrees) → together d nothing ≡ d
together_nothing d = same_parts (append-nil d.objects) (append-nil d.locals) (append-nil d.fills) (append-nil d.linked)

pub nothing_together : (d : DeclaresTrees) → together nothing d ≡ d
nothing_together d = refl

pub together_assoc : (a b c : DeclaresTrees) → together (together a b) c ≡ together a (together b c)
together_assoc a b c =
    same_parts (append_assoc a.objects b.objects c.objects) (append_assoc a.locals b.locals c.locals) (append_assoc a.fills b.fills c.fills) (append_assoc a.linked b.linked c.linked)

-- the one has what the others have, in order
pub record IsTogether (a b c : Declares) : Type 0 where
  pub objects : c.objects ≡ a.objects ++ b.objects
  pub locals : c.locals ≡ a.locals ++ b.locals
  pub fills : c.fills ≡ a.fills ++ b.fills
  pub linked : c.linked ≡ a.linked ++ b.linked

pub together_seen : (t : Table) (a b c : Declares) → IsTogether a b c → declares_in t c ≡ together (declares_in t a) (declares_in t b)
together_seen t a b c h =
    same_parts (ap (map (defined_in t)) h.objects ∙ map-append (defined_in t) a.objects b.objects)
    (ap (map (type_at t)) h.locals ∙ map-append (type_at t) a.locals b.locals)
    (ap (map (stmt_in t)) h.fills ∙ map-append (stmt_in t) a.fills b.fills)
    (ap (map (linked_in t)) h.linked ∙ map-append (linked_in t) a.linked b.linked)

objects_together : (n : ℕ) (xs ys : List DefinedObject) → AreObjectsIn n xs → AreObjectsIn n ys → AreObjectsIn n (xs ++ ys)
objects_together n [] ys i j = j
objects_together n (x ∷ xs) ys i j = (i.0, objects_together n xs ys i.1 j)

locals_together : (n : ℕ) (xs ys : List ℕ) → AreLocalsIn n xs → AreLocalsIn n ys → AreLocalsIn n (xs ++ ys)
locals_together n [] ys i j = j
locals_together n (x ∷ xs) ys i j = (i.0, locals_together n xs ys i.1 j)

fills_together : (n : ℕ) (xs ys : List CoreStmt) → AreFillsIn n xs → AreFillsIn n ys → AreFillsIn n (xs ++ ys)
fills_together n [] ys i j = j
fills_together n (x ∷ xs) ys i j = (i.0, fills_together n xs ys i.1 j)

linked_together : (n : ℕ) (xs ys : List LinkedName) → AreLinkedIn n xs → AreLinkedIn n ys → AreLinkedIn n (xs ++ ys)
linked_together n [] ys i j = j
linked_together n (x ∷ xs) ys i j = (i.0, linked_together n xs ys i.1 j)

pub together_within : (n : ℕ) (a b c : Declares) → IsTogether a b c → AreDeclaredIn n a → AreDeclaredIn n b → AreDeclaredIn n c
together_within n a b c h i j =
    record {
      objects = rw h.objects (objects_together n a.objects b.objects i.objects j.objects);
      locals = rw h.locals (locals_together n a.locals b.locals i.locals j.locals);
      fills = rw h.fills (fills_together n a.fills b.fills i.fills j.fills);
      linked = rw h.linked (linked_together n a.linked b.linked i.linked j.linked);
    }

-- one local object more where nothing was declared, and what it begins with
pub local_seen : (t : Table) (d : Declares) (of : ℕ) (ls : List ℕ) (ss : List CoreStmt) (fs : List (StmtOf CType)) → declares_in t d ≡ nothing → ls ≡ d.locals ++ of ∷ [] → map (stmt_in t) ss ≡ fs
    → declares_in t (record { objects = d.objects; locals = ls; fills = ss; linked = d.linked }) ≡ record { objects = []; locals = type_at t of ∷ []; fills = fs; linked = [] }
local_seen t d of ls ss fs e l f =
    same_parts (ap (λ (x : DeclaresTrees). x.objects) e)
    (ap (map (type_at t)) l ∙ map-append (type_at t) d.locals (of ∷ []) ∙ ap (λ (x : DeclaresTrees). x.locals ++ type_at t of ∷ []) e)
    f
    (ap (λ (x : DeclaresTrees). x.linked) e)

pub one_local : (n : ℕ) (d : Declares) (of : ℕ) (ls : List ℕ) (ss : List CoreStmt) → ls ≡ d.locals ++ of ∷ [] → AreDeclaredIn n d → of < n → AreFillsIn n ss → AreDeclaredIn n (record { objects = d.objects; locals = ls; fills = ss; linked = d.linked })
one_local n d of ls ss e i l f = record { objects = i.objects; locals = rw e (locals_together n d.locals (of ∷ []) i.locals (l, tt)); fills = f; linked = i.linked }

-- ---- what initialisers fill

pub filled_places_stay : (a b : Table) → Extends a b → (ps : List FilledPlace) → ArePlacesIn (length a.forms) ps → map (filled_place_in b) ps ≡ map (filled_place_in a) ps
filled_places_stay a b h [] i = refl
filled_places_stay a b h (p ∷ ps) i = rw (h.types_stay p.at.of i.0.0, seen_stays a b h p.value i.0.1, filled_places_stay a b h ps i.1) refl

filled_places_more : (n m : ℕ) → n ≤ m → (ps : List FilledPlace) → ArePlacesIn n ps → ArePlacesIn m ps
filled_places_more n m l [] i = tt
filled_places_more n m l (p ∷ ps) i = ((let b = i.0.0 in omega arith, in_more n m l p.value i.0.1), filled_places_more n m l ps i.1)

pub filled_places_later : (a b : Table) → Extends a b → (ps : List FilledPlace) → ArePlacesIn (length a.forms) ps → ArePlacesIn (length b.forms) ps
filled_places_later a b h ps i = filled_places_more (length a.forms) (length b.forms) (longer a b h) ps i

-- ---- what is declared is seen the same over the later table

objects_stay : (a b : Table) → Extends a b → (ds : List DefinedObject) → AreObjectsIn (length a.forms) ds → map (defined_in b) ds ≡ map (defined_in a) ds
objects_stay a b h [] i = refl
objects_stay a b h (d ∷ ds) i = rw (h.types_stay d.object.of i.0.0, filled_places_stay a b h d.object.places i.0.1, objects_stay a b h ds i.1) refl

locals_stay : (a b : Table) → Extends a b → (ts : List ℕ) → AreLocalsIn (length a.forms) ts → map (type_at b) ts ≡ map (type_at a) ts
locals_stay a b h [] i = refl
locals_stay a b h (t ∷ ts) i = rw (h.types_stay t i.0, locals_stay a b h ts i.1) refl

fills_stay : (a b : Table) → Extends a b → (ss : List CoreStmt) → AreFillsIn (length a.forms) ss → map (stmt_in b) ss ≡ map (stmt_in a) ss
fills_stay a b h [] i = refl
fills_stay a b h (s ∷ ss) i = rw (stmt_stays a b h (stmt_of s) i.0, fills_stay a b h ss i.1) refl

linked_stay : (a b : Table) → Extends a b → (ls : List LinkedName) → AreLinkedIn (length a.forms) ls → map (linked_in b) ls ≡ map (linked_in a) ls
linked_stay a b h [] i = refl
linked_stay a b h (l ∷ ls) i = rw (h.types_stay l.of i.0, linked_stay a b h ls i.1) refl

pub declares_stay : (a b : Table) → Extends a b → (d : Declares) → AreDeclaredIn (length a.forms) d → declares_in b d ≡ declares_in a d
declares_stay a b h d i = same_parts (objects_stay a b h d.objects i.objects) (locals_stay a b h d.locals i.locals) (fills_stay a b h d.fills i.fills) (linked_stay a b h d.linked i.linked)

-- ---- its types stay below the end of the table

objects_later : (a b : Table) → Extends a b → (ds : List DefinedObject) → AreObjectsIn (length a.forms) ds → AreObjectsIn (length b.forms) ds
objects_later a b h [] i = tt
objects_later a b h (d ∷ ds) i = ((let l = i.0.0 in let m = longer a b h in omega arith, filled_places_later a b h d.object.places i.0.1), objects_later a b h ds i.1)

locals_later : (a b : Table) → Extends a b → (ts : List ℕ) → AreLocalsIn (length a.forms) ts → AreLocalsIn (length b.forms) ts
locals_later a b h [] i = tt
locals_later a b h (t ∷ ts) i = (let l = i.0 in let m = longer a b h in omega arith, locals_later a b h ts i.1)

fills_later : (a b : Table) → Extends a b → (ss : List CoreStmt) → AreFillsIn (length a.forms) ss → AreFillsIn (length b.forms) ss
fills_later a b h [] i = tt
fills_later a b h (s ∷ ss) i = (stmt_later a b h (stmt_of s) i.0, fills_later a b h ss i.1)

linked_later : (a b : Table) → Extends a b → (ls : List LinkedName) → AreLinkedIn (length a.forms) ls → AreLinkedIn (length b.forms) ls
linked_later a b h [] i = tt
linked_later a b h (l ∷ ls) i = (let k = i.0 in let m = longer a b h in omega arith, linked_later a b h ls i.1)

pub declares_later : (a b : Table) → Extends a b → (d : Declares) → AreDeclaredIn (length a.forms) d → AreDeclaredIn (length b.forms) d
declares_later a b h d i =
    record {
      objects = objects_later a b h d.objects i.objects;
      locals = locals_later a b h d.locals i.locals;
      fills = fills_later a b h d.fills i.fills;
      linked = linked_later a b h d.linked i.linked;
    }
