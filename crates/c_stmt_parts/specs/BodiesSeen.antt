-- What the checker holds of a function's body, over a table of types.
use Rattle.std.specs.Prelude.{ℕ, map}
use Rattle.c_types.specs.Table.{Table, type_at}
use Rattle.c_units.specs.Bodies.{Body as BodyTrees, Within as WithinTrees}
use Rattle.c_units.specs.Statements.{Around as AroundTrees}
use Rattle.c_check_decl.specs.Declares.{AreLinkedIn, AreLocalsIn, AreObjectsIn, defined_in, linked_in}
use Rattle.c_stmt_parts.specs.declared.around.Around.{Around}
use Rattle.c_stmt_parts.specs.declared.around.Within.{Within}
use Rattle.c_stmt_parts.specs.declared.body.Body.{Body}

abbrev pub around_seen : Around → AroundTrees
around_seen a = record { loop = a.in_loop; switch = a.in_switch }

abbrev pub within_in : Table → Within → WithinTrees
within_in t w = record { result = type_at t w.result; labels = w.labels }

abbrev pub body_in : Table → Body → BodyTrees
body_in t b =
    record {
      marks = b.marks;
      cases = b.cases;
      default = b.default;
      lost = b.lost;
      locals = map (type_at t) b.locals;
      objects = map (defined_in t) b.objects;
      linked = map (linked_in t) b.linked;
    }

-- its types stand below this place
pub record IsBodyIn (n : ℕ) (b : Body) : Type 0 where
  pub locals : AreLocalsIn n b.locals
  pub objects : AreObjectsIn n b.objects
  pub linked : AreLinkedIn n b.linked
