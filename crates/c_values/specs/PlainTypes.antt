-- A type whose qualifiers stand beside its place.
use Rattle.std.proofs.Common.{◌≡◌, ℕ, ap, ◌∙◌}
use Rattle.c_types.specs.CType.{qualify}
use Rattle.c_types.specs.Table.{Table, type_at}
use Rattle.c_values.specs.declared.value_type.QualifiedType.{QualifiedType}
use Rattle.c_values.specs.Valued.{qualified_in}
use Rattle.c_types.proofs.lemmas.Qualifying.{qualify_none}

-- a type of the table without further qualifiers
pub plain_type : (t : Table) (p : QualifiedType) (id : ℕ) → p.of ≡ id → p.qualifiers.0 ≡ 0 → qualified_in t p ≡ type_at t id
plain_type t p id e z = ap (λ q. qualify q (type_at t p.of)) z ∙ qualify_none (type_at t p.of) ∙ ap (type_at t) e
