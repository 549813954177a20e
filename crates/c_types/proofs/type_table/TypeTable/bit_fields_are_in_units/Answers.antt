use Rattle.std.proofs.Common.{◌≡◌, true, subst}
use Rattle.c_types.specs.BitFields.{have_fields}
use Rattle.c_types.specs.Table.{Table, tags}
use Rattle.c_types.proofs.BitFields.{places_told, told_in_unit}
use Rattle.c_types.proofs.type_table.TypeTable.bit_fields_are_in_units.Goals as goal

pub returns-clause-members : goal.returns-clause-members
returns-clause-members c =
    let h : have_fields (tags c.args.self.now) ≡ true = subst (λ (t : Table). have_fields (tags t) ≡ true) c.self.view_is c.self.invariant.fields in
    λ s name m e. told_in_unit (tags c.args.self.now) s name m h e

pub returns-clause-places : goal.returns-clause-places
returns-clause-places c =
    let h : have_fields (tags c.args.self.now) ≡ true = subst (λ (t : Table). have_fields (tags t) ≡ true) c.self.view_is c.self.invariant.fields in
    λ s. places_told (tags c.args.self.now) s h
