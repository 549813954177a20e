-- What a function's body has: what is put behind it stands below the end of the table, and is seen behind it.
use Rattle.std.proofs.Common.{◌≡◌, ℕ, Bool, List, [], ◌∷◌, ◌++◌, map, refl, ap, ◌∙◌}
use Rattle.std.specs.Prelude.{Option}
use Rattle.std.proofs.lemmas.List.{map-append}
use Rattle.c_types.specs.CType.{CType}
use Rattle.c_types.specs.Table.{Table, type_at}
use Rattle.c_meaning.specs.declared.core_stmt.CoreCase.{CoreCase}
use Rattle.c_meaning.specs.Declarations.{Defined, Linked}
use Rattle.c_units.specs.Bodies.{Body as BodyTrees, with_declared}
use Rattle.c_check_decl.specs.declared.declares.Declares.{Declares}
use Rattle.c_check_decl.specs.declared.declares.DefinedObject.{DefinedObject}
use Rattle.c_check_decl.specs.declared.declares.LinkedName.{LinkedName}
use Rattle.c_check_decl.specs.Declares.{AreDeclaredIn, AreLinkedIn, AreLocalsIn, AreObjectsIn, declares_in, defined_in, linked_in}
use Rattle.c_stmt_parts.specs.declared.body.Body.{Body}
use Rattle.c_stmt_parts.specs.BodiesSeen.{IsBodyIn, body_in}

-- ---- what is declared

objects_behind : (n : ℕ) (xs ys : List DefinedObject) → AreObjectsIn n xs → AreObjectsIn n ys → AreObjectsIn n (xs ++ ys)
objects_behind n [] ys i j = j
objects_behind n (x ∷ xs) ys i j = (i.0, objects_behind n xs ys i.1 j)

locals_behind : (n : ℕ) (xs ys : List ℕ) → AreLocalsIn n xs → AreLocalsIn n ys → AreLocalsIn n (xs ++ ys)
locals_behind n [] ys i j = j
locals_behind n (x ∷ xs) ys i j = (i.0, locals_behind n xs ys i.1 j)

linked_behind : (n : ℕ) (xs ys : List LinkedName) → AreLinkedIn n xs → AreLinkedIn n ys → AreLinkedIn n (xs ++ ys)
linked_behind n [] ys i j = j
linked_behind n (x ∷ xs) ys i j = (i.0, linked_behind n xs ys i.1 j)

abbrev trees : ℕ → List CoreCase → Option ℕ → Bool → List CType → List Defined → List Linked → BodyTrees
trees marks cases default lost ls os ns = record { marks = marks; cases = cases; default = default; lost = lost; locals = ls; objects = os; linked = ns }

-- the one body has what the other has, and behind it what is declared
pub record IsBehind (a : Body) (d : Declares) (b : Body) : Type 0 where
  pub marks : b.marks ≡ a.marks
  pub cases : b.cases ≡ a.cases
  pub default : b.default ≡ a.default
  pub lost : b.lost ≡ a.lost
  pub locals : b.locals ≡ a.locals ++ d.locals
  pub objects : b.objects ≡ a.objects ++ d.objects
  pub linked : b.linked ≡ a.linked ++ d.linked

same_trees : {m n : ℕ} {cs ds : List CoreCase} {o p : Option ℕ} {x y : Bool} {ls ks : List CType} {os ps : List Defined} {ns qs : List Linked} → m ≡ n → cs ≡ ds → o ≡ p → x ≡ y → ls ≡ ks → os ≡ ps → ns ≡ qs → trees m cs o x ls os ns ≡ trees n ds p y ks ps qs
same_trees a b c d e f g = rw (a, b, c, d, e, f, g) refl

pub behind_seen : (t : Table) (a : Body) (d : Declares) (b : Body) → IsBehind a d b → body_in t b ≡ with_declared (body_in t a) (declares_in t d)
behind_seen t a d b h =
    same_trees h.marks h.cases h.default h.lost
    (ap (map (type_at t)) h.locals ∙ map-append (type_at t) a.locals d.locals)
    (ap (map (defined_in t)) h.objects ∙ map-append (defined_in t) a.objects d.objects)
    (ap (map (linked_in t)) h.linked ∙ map-append (linked_in t) a.linked d.linked)

pub behind_within : (n : ℕ) (a : Body) (d : Declares) (b : Body) → IsBehind a d b → IsBodyIn n a → AreDeclaredIn n d → IsBodyIn n b
behind_within n a d b h i j =
    record {
      locals = rw h.locals (locals_behind n a.locals d.locals i.locals j.locals);
      objects = rw h.objects (objects_behind n a.objects d.objects i.objects j.objects);
      linked = rw h.linked (linked_behind n a.linked d.linked i.linked j.linked);
    }
