-- The values of a `for`'s head, of which each is formed over the table that those before it leave.
use Rattle.std.proofs.Common.{◌≡◌, ℕ, List, length, ap, ◌∙◌}
use Rattle.std.specs.Prelude.{Option, Some, None}
use Rattle.c_types.specs.Layout.{Tag}
use Rattle.c_types.specs.Table.{Table, Extends, Grows, tags}
use Rattle.c_meaning.specs.CoreTrees.{CoreOf}
use Rattle.c_meaning.specs.StmtTrees.{IsSomeIn}
use Rattle.c_values.specs.Stays.{in_later}
use Rattle.c_check_decl.proofs.lemmas.StmtsStay.{maybe_stays}
use Rattle.c_units.specs.Statements.{value_fault}
use Rattle.c_stmt_parts.specs.Asked.{maybe_core}

pub some_later : (a b : Table) → Extends a b → (o : Option (CoreOf ℕ)) → IsSomeIn (length a.forms) o → IsSomeIn (length b.forms) o
some_later a b h None i = tt
some_later a b h (Some c) i = in_later a b h c i

pub fault_stays : (a b : Table) → Grows a b → (o : Option (CoreOf ℕ)) → IsSomeIn (length a.forms) o → value_fault (tags b) (maybe_core b o) ≡ value_fault (tags a) (maybe_core a o)
fault_stays a b g o i = ap (λ (ts : List Tag). value_fault ts (maybe_core b o)) g.tags_same ∙ ap (value_fault (tags a)) (maybe_stays a b g.extends o i)
