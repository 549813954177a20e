-- Structures and unions that get their members: their places, what their definitions say, and the limits that they pass.
use Rattle.std.specs.Prelude.{◌≡◌, ℕ, ◌<◌, true, Option, Some, None, List, ◌∷◌, length}
use Rattle.lcc_base.specs.declared.which.Which.{Which}
use Rattle.lcc_base.specs.declared.which.Which.TheVariants as which
use Rattle.c_ast.specs.declared.specifier.RecordKind.{RecordKind}
use Rattle.c_types.specs.declared.type_fault.TypeFault.{TypeFault}
use Rattle.c_types.specs.declared.type_fault.TypeFault.TheVariants as fault
use Rattle.c_types.specs.declared.type_form.Member.{Member}
use Rattle.c_types.specs.Layout.{Tag, fields, known, structure_extent}
use Rattle.c_types.specs.Table.{Table, excess, form_at, is_open_form, is_union as is_union_form, member_types, number_at, tags, type_at, types}
use Rattle.c_meaning.specs.TypeConstraints.{is_of_kind}
use Rattle.c_meaning.specs.TypeRows.{is_union, number_of, record_type}
use Rattle.c_values.specs.declared.check_fault.CheckFault.{CheckFault}
use Rattle.c_values.specs.declared.check_fault.CheckFault.TheVariants.{Constraint, Limit, Memory}

-- a type is a structure, or a union, which has this place without its qualifiers
pub record IsRecordAt (t : Table) (k : RecordKind) (id base : ℕ) : Type 0 where
  pub within : base < length t.forms
  pub form : is_open_form (form_at t base) ≡ true
  pub union : is_union_form (form_at t base) ≡ is_union k
  pub means : type_at t base ≡ record_type k (number_at t base)
  pub number : number_of (type_at t id) ≡ number_at t base
  pub kind : is_of_kind k (type_at t id) ≡ true

-- the definitions with that of this one
abbrev pub record_tags : Table → RecordKind → ℕ → List Member → List Tag
record_tags t kind id ms = record { number = number_of (type_at t id); is_union = is_union kind; members = member_types (types t) ms } ∷ tags t

abbrev pub limit_of : Option TypeFault → Option Which
limit_of (Some fault.TooLarge) = Some which.Object
limit_of (Some fault.TooDeep) = Some which.Depth
limit_of f = None

-- the limit that one with these members passes, if it passes one
abbrev pub record_limit : Table → RecordKind → List Member → Option Which
record_limit t kind ms = limit_of (excess 1 (structure_extent (is_union kind) (fields (known (tags t)) (member_types (types t) ms))))

-- the fault is that the limit is passed; want of memory says nothing of it
abbrev pub IsPassed : CheckFault → ℕ → Option Which → Type 0
IsPassed (Constraint number place) line passed = ⊥
IsPassed (Limit limit place) line passed = (passed ≡ Some limit) × (place ≡ line)
IsPassed Memory line passed = Unit {0}
