-- What a unit has with more behind it, and what it has where a table grows.
use Rattle.std.proofs.Common.{◌≡◌, ℕ, List, [], ◌∷◌, ◌++◌, length, map, refl, ap, ◌∙◌, arith}
use Rattle.std.proofs.lemmas.List.{map-append}
use Rattle.c_types.specs.Table.{Table, Extends, type_at}
use Rattle.c_meaning.specs.Declarations.{Declares as DeclaresTrees}
use Rattle.c_meaning.specs.StmtTrees.{stmt_of}
use Rattle.c_values.specs.Stays.{longer}
use Rattle.c_check_decl.specs.declared.declares.Declares.{Declares}
use Rattle.c_check_decl.specs.declared.declares.DefinedObject.{DefinedObject}
use Rattle.c_check_decl.specs.declared.declares.LinkedName.{LinkedName}
use Rattle.c_check_decl.specs.Declares.{AreDeclaredIn, AreLinkedIn, AreLocalsIn, AreObjectsIn, declares_in, defined_in, linked_in}
use Rattle.c_check_decl.proofs.lemmas.DeclaresStay.{declares_later, declares_stay}
use Rattle.c_check_decl.proofs.lemmas.StmtsStay.{stmt_later, stmt_stays}
use Rattle.c_check_function.specs.declared.function_definitions.Defines.{Defines}
use Rattle.c_check_function.specs.Defined.{AreDefinedIn, defines_in}
use Rattle.c_units.specs.Externals.{with_declared}
use Rattle.c_unit_parts.specs.declared.DefinedFunction.{DefinedFunction}
use Rattle.c_unit_parts.specs.declared.UnitParts.{UnitParts}
use Rattle.c_unit_parts.specs.PartsIn.{AreFunctionsIn, ArePartsIn, function_in, parts_in}
use Rattle.c_check_unit.specs.ExternalsIn.{with_defined}

-- ---- a table that grows

abbrev declares : List DefinedObject → List ℕ → List LinkedName → Declares
declares os ts ls = record { objects = os; locals = ts; fills = []; linked = ls }

declares_are_in : (n : ℕ) (os : List DefinedObject) (ts : List ℕ) (ls : List LinkedName) → AreObjectsIn n os → AreLocalsIn n ts → AreLinkedIn n ls → AreDeclaredIn n (declares os ts ls)
declares_are_in n os ts ls h i j = record { objects = h; locals = i; fills = tt; linked = j }

module _ (a b : Table) (h : Extends a b) where
  locals_stay : (ts : List ℕ) → AreLocalsIn (length a.forms) ts → map (type_at b) ts ≡ map (type_at a) ts
  locals_stay ts i = ap (λ (d : DeclaresTrees). d.locals) (declares_stay a b h (declares [] ts []) (declares_are_in (length a.forms) [] ts [] tt i tt))

  functions_stay : (fs : List DefinedFunction) → AreFunctionsIn (length a.forms) fs → map (function_in b) fs ≡ map (function_in a) fs
  functions_stay [] i = refl
  functions_stay (f ∷ fs) i = rw (h.types_stay f.function.of i.0.of, locals_stay f.function.locals i.0.locals, stmt_stays a b h (stmt_of f.function.body) i.0.body, functions_stay fs i.1) refl

  functions_later : (fs : List DefinedFunction) → AreFunctionsIn (length a.forms) fs → AreFunctionsIn (length b.forms) fs
  functions_later [] i = tt
  functions_later (f ∷ fs) i = (
    record {
      of = (let l = i.0.of in let m = longer a b h in omega arith);
      locals = (declares_later a b h (declares [] f.function.locals []) (declares_are_in (length a.forms) [] f.function.locals [] tt i.0.locals tt)).locals;
      body = stmt_later a b h (stmt_of f.function.body) i.0.body;
    },
    functions_later fs i.1,
  )

  pub parts_stay : (p : UnitParts) → ArePartsIn (length a.forms) p → parts_in b p ≡ parts_in a p
  parts_stay p i =
      let d = declares_stay a b h (declares p.objects [] p.linked) (declares_are_in (length a.forms) p.objects [] p.linked i.objects tt i.linked) in
      let objects : map (defined_in b) p.objects ≡ map (defined_in a) p.objects = ap (λ (d : DeclaresTrees). d.objects) d in
      let linked : map (linked_in b) p.linked ≡ map (linked_in a) p.linked = ap (λ (d : DeclaresTrees). d.linked) d in
      let functions = functions_stay p.functions i.functions in
      λ j. record { functions = functions j; objects = objects j; linked = linked j }

  pub parts_later : (p : UnitParts) → ArePartsIn (length a.forms) p → ArePartsIn (length b.forms) p
  parts_later p i =
      let d = declares_later a b h (declares p.objects [] p.linked) (declares_are_in (length a.forms) p.objects [] p.linked i.objects tt i.linked) in
      record { functions = functions_later p.functions i.functions; objects = d.objects; linked = d.linked }

-- ---- more behind what a unit has

-- the one has what the other has, and then these
pub record IsBehind (p : UnitParts) (fs : List DefinedFunction) (os : List DefinedObject) (ls : List LinkedName) (q : UnitParts) : Type 0 where
  pub functions : q.functions ≡ p.functions ++ fs
  pub objects : q.objects ≡ p.objects ++ os
  pub linked : q.linked ≡ p.linked ++ ls

behind_seen : (t : Table) (p : UnitParts) (fs : List DefinedFunction) (os : List DefinedObject) (ls : List LinkedName) (q : UnitParts) → IsBehind p fs os ls q
    → parts_in t q ≡ record { functions = map (function_in t) p.functions ++ map (function_in t) fs; objects = map (defined_in t) p.objects ++ map (defined_in t) os; linked = map (linked_in t) p.linked ++ map (linked_in t) ls }
behind_seen t p fs os ls q h =
    let functions = ap (map (function_in t)) h.functions ∙ map-append (function_in t) p.functions fs in
    let objects = ap (map (defined_in t)) h.objects ∙ map-append (defined_in t) p.objects os in
    let linked = ap (map (linked_in t)) h.linked ∙ map-append (linked_in t) p.linked ls in
    λ j. record { functions = functions j; objects = objects j; linked = linked j }

functions_behind : (n : ℕ) (fs gs : List DefinedFunction) → AreFunctionsIn n fs → AreFunctionsIn n gs → AreFunctionsIn n (fs ++ gs)
functions_behind n [] gs i j = j
functions_behind n (f ∷ fs) gs i j = (i.0, functions_behind n fs gs i.1 j)

objects_behind : (n : ℕ) (os ps : List DefinedObject) → AreObjectsIn n os → AreObjectsIn n ps → AreObjectsIn n (os ++ ps)
objects_behind n [] ps i j = j
objects_behind n (o ∷ os) ps i j = (i.0, objects_behind n os ps i.1 j)

linked_behind : (n : ℕ) (ls ms : List LinkedName) → AreLinkedIn n ls → AreLinkedIn n ms → AreLinkedIn n (ls ++ ms)
linked_behind n [] ms i j = j
linked_behind n (l ∷ ls) ms i j = (i.0, linked_behind n ls ms i.1 j)

behind_within : (n : ℕ) (p : UnitParts) (fs : List DefinedFunction) (os : List DefinedObject) (ls : List LinkedName) (q : UnitParts) → IsBehind p fs os ls q → ArePartsIn n p → AreFunctionsIn n fs → AreObjectsIn n os → AreLinkedIn n ls → ArePartsIn n q
behind_within n p fs os ls q h i f o l =
    record {
      functions = rw h.functions (functions_behind n p.functions fs i.functions f);
      objects = rw h.objects (objects_behind n p.objects os i.objects o);
      linked = rw h.linked (linked_behind n p.linked ls i.linked l);
    }

pub function_seen_behind : (t : Table) (p : UnitParts) (d : Defines) (q : UnitParts) → IsBehind p (d.function ∷ []) d.objects d.linked q → parts_in t q ≡ with_defined (parts_in t p) (defines_in t d)
function_seen_behind t p d q h = behind_seen t p (d.function ∷ []) d.objects d.linked q h

pub function_within : (n : ℕ) (p : UnitParts) (d : Defines) (q : UnitParts) → IsBehind p (d.function ∷ []) d.objects d.linked q → ArePartsIn n p → AreDefinedIn n d → ArePartsIn n q
function_within n p d q h i j = behind_within n p (d.function ∷ []) d.objects d.linked q h i (j.function, tt) j.objects j.linked

pub declared_seen_behind : (t : Table) (p : UnitParts) (d : Declares) (q : UnitParts) → q.functions ≡ p.functions → q.objects ≡ p.objects ++ d.objects → q.linked ≡ p.linked ++ d.linked → parts_in t q ≡ with_declared (parts_in t p) (declares_in t d)
declared_seen_behind t p d q f o l =
    let functions = ap (map (function_in t)) f in
    let objects = ap (map (defined_in t)) o ∙ map-append (defined_in t) p.objects d.objects in
    let linked = ap (map (linked_in t)) l ∙ map-append (linked_in t) p.linked d.linked in
    λ j. record { functions = functions j; objects = objects j; linked = linked j }

pub declared_within : (n : ℕ) (p : UnitParts) (d : Declares) (q : UnitParts) → q.functions ≡ p.functions → q.objects ≡ p.objects ++ d.objects → q.linked ≡ p.linked ++ d.linked → ArePartsIn n p → AreDeclaredIn n d → ArePartsIn n q
declared_within n p d q f o l i j =
    record {
      functions = rw f i.functions;
      objects = rw o (objects_behind n p.objects d.objects i.objects j.objects);
      linked = rw l (linked_behind n p.linked d.linked i.linked j.linked);
    }
