-- Tables of a function that are added one behind the other, and the name of the first one of a unit.
use Rattle.std.specs.Prelude.{◌≡◌, ℕ, suc, ◌+◌, ◌<◌, List, [], ◌∷◌, ◌++◌, length, drop, get_or}
use Rattle.std.proofs.Common.{sym, ap, ◌∙◌, append_assoc}
use Rattle.op_forest.specs.declared.lowered.LoweredObject.{LoweredObject}
use Rattle.lowered_units.specs.Tables.{table_object, table_objects}
use Rattle.statement_steps.proofs.lemmas.Lists.{left_is}

pub tables_more : (function name next : ℕ) (list : List (List ℕ)) (i : ℕ) (t : List ℕ) (all now new : List LoweredObject) → i < length list → t ≡ get_or list i t → next ≡ suc name
    → now ++ table_objects function name (drop i list) ≡ all → new ≡ now ++ table_object function name t ∷ [] → new ++ table_objects function next (drop (i + 1) list) ≡ all
tables_more function name next list i t all now new lt is behind h add =
    (λ j. add j ++ table_objects function (behind j) (drop (i + 1) list))
    ∙ append_assoc now (table_object function name t ∷ []) (table_objects function (suc name) (drop (i + 1) list))
    ∙ ap (λ (xs : List (List ℕ)). now ++ table_objects function name xs) (sym (left_is list i t lt is))
    ∙ h
