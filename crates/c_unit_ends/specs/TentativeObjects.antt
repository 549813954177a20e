-- Objects that are only defined tentatively, by what their symbols are known as.
use Rattle.std.specs.Prelude.{◌≡◌, ℕ, Bool, false, List, []}
use Rattle.c_types.specs.Constness.{is_const}
use Rattle.c_meaning.specs.Declarations.{Defined}
use Rattle.c_meaning.specs.State.{Known}
use Rattle.c_units.specs.Ends.{closed}
use Rattle.c_values.specs.declared.check_fault.CheckFault.{CheckFault}
use Rattle.c_values.specs.declared.check_fault.CheckFault.TheVariants.{Constraint, Limit, Memory}

abbrev pub object_by : List ℕ → ℕ → Known → Defined
object_by name id k =
    record {
      symbol = id;
      object =
          record {
            name = name;
            of = closed k;
            line = k.line;
            constant = is_const (closed k);
            places = [];
          };
    }

-- it tells that a type has no size, at this line
abbrev pub IsIncomplete : CheckFault → ℕ → Bool → Type 0
IsIncomplete (Constraint number place) line sized = (number ≡ 16) × ((place ≡ line) × (sized ≡ false))
IsIncomplete (Limit limit place) line sized = ⊥
IsIncomplete Memory line sized = Unit {0}
