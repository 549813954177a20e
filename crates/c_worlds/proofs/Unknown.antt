-- Types that a table doesn't have.
use Rattle.std.proofs.Common.{◌≡◌, ◌≤◌, ◌+◌, ℕ, List, [], ◌∷◌, ◌++◌, length, arith, length-append}
use Rattle.std.proofs.lemmas.List.{get_or_past}
use Rattle.c_types.specs.declared.type_form.TypeForm.{TypeForm}
use Rattle.c_types.specs.CType.{CType, Void, basic}
use Rattle.c_types.specs.Table.{Table, counted, formed, type_at, types_after, types_of}

-- there are as many types as forms
pub types_are_formed : (ts : List CType) (n : ℕ) (fs : List TypeForm) → length (types_after ts n fs) ≡ length ts + length fs
types_are_formed ts n [] = omega arith
types_are_formed ts n (f ∷ fs) =
    omega (arith, types_are_formed (ts ++ formed ts n f ∷ []) (n + counted f) fs, length-append ts (formed ts n f ∷ []))

pub unknown_is_void : (t : Table) (id : ℕ) → length t.forms ≤ id → type_at t id ≡ basic Void
unknown_is_void t id past = get_or_past (types_of t.forms) id (basic Void) (omega (arith, types_are_formed [] 0 t.forms, past))
