-- Tables of types in which the place of an integer type tells its sign.
use Rattle.std.specs.Prelude.{◌≡◌, ◌<◌, ◌≤◌, ℕ, ◌==◌, Bool, true, false, Some, slice_get}
use Rattle.c_types.specs.declared.type_form.TypeForm.{TypeForm}
use Rattle.c_types.specs.declared.type_form.TypeForm.TheVariants as form
use Rattle.c_types.specs.Table.{Table, basic_forms}

abbrev pub is_basic : TypeForm → Bool
is_basic (form.Pointer to) = false
is_basic (form.Array of length) = false
is_basic (form.Function result parameters more) = false
is_basic form.Structure = false
is_basic form.Union = false
is_basic (form.Enumeration members) = false
is_basic (form.Qualified of qualifiers) = false
is_basic f = true

-- it stands for another type, and adds no qualifiers to it
abbrev pub is_bare : TypeForm → Bool
is_bare (form.Qualified of qualifiers) = qualifiers.0 == 0
is_bare f = false

-- the basic types have the first places of a table, and no others
pub record HasBasicForms (t : Table) : Type 0 where
  pub first : (id : ℕ) → id < 10 → slice_get t.forms id ≡ slice_get basic_forms id
  pub others : (id : ℕ) (f : TypeForm) → 10 ≤ id → slice_get t.forms id ≡ Some f → is_basic f ≡ false
