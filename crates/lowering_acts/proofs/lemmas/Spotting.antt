-- What is read, written and kept at a place, by whether it is a bit-field.
use Rattle.std.specs.Prelude.{◌≡◌, ◌&&◌, Bool, false, Some, List, Result, IfOk, OnOk}
use Rattle.std.proofs.Common.{ap, sym, ◌∙◌, subst}
use Rattle.lcc_base.specs.declared.order.Order.{Order}
use Rattle.objects.specs.declared.field.Field.{Field}
use Rattle.dag_forest.specs.declared.entry.Entry.{Entry}
use Rattle.c_runs.specs.Places.{Spot as SpotOf, is_field}
use Rattle.c_rows_agree.specs.Places.{field_loaded, field_value, field_stored, stored_as}
use Rattle.c_rows_agree.specs.Templates.{Root}
use Rattle.c_rows_agree.specs.Typed.{Typed}
use Rattle.lowered_forms.specs.Accesses.{read, read_by, scalar_read, kept, kept_by, written_by}
use Rattle.lowered_forms.specs.Lows.{acted}
use Rattle.lowering_steps.specs.declared.operand.Operand.{Operand}
use Rattle.lowering_steps.specs.Asking.{Acts, Places}
use Rattle.lowering_acts.specs.declared.spots.Spot.{Spot}
use Rattle.lowering_acts.specs.Spotted.{IsFieldOf, spotted}

pub places_if : {E : Type 0} (r : Result Operand E) (es new : List Entry) (t u : Typed) → t ≡ u → IfOk r (λ v. Places es t v new) → IfOk r (λ v. Places es u v new)
places_if r es new t u e h = subst (λ x. IfOk r (λ v. Places es x v new)) e h

pub acts_if : {E : Type 0} (r : Result (Unit {0}) E) (es new : List Entry) (a b : Root) → a ≡ b → OnOk r (Acts es (λ l. acted a l) new) → OnOk r (Acts es (λ l. acted b l) new)
acts_if r es new a b e h = subst (λ x. OnOk r (Acts es (λ l. acted x l) new)) e h

pub read_field : (order : Order) (x : SpotOf) (f : Field) (p : Typed) → IsFieldOf x (Some f) → field_loaded order f p ≡ read order x p
read_field order x f p k = ap (λ g. field_loaded order g p) k.1 ∙ sym (ap (λ b. read_by b order x p) k.0)

pub read_scalar : (order : Order) (x : SpotOf) (spot : Spot) (p : Typed) → spot ≡ spotted x → is_field x ≡ false → scalar_read spot.pointer spot.scalar p ≡ read order x p
read_scalar order x spot p e k = ap (λ (s : Spot). scalar_read s.pointer s.scalar p) e ∙ sym (ap (λ b. read_by b order x p) k)

pub kept_field : (x : SpotOf) (f : Field) (v : Typed) → IsFieldOf x (Some f) → field_value f v ≡ kept x v
kept_field x f v k = ap (λ g. field_value g v) k.1 ∙ sym (ap (λ b. kept_by b x v) k.0)

pub kept_scalar : (x : SpotOf) (v : Typed) → is_field x ≡ false → v ≡ kept x v
kept_scalar x v k = sym (ap (λ b. kept_by b x v) k)

pub written_field : (shared : Bool) (order : Order) (x : SpotOf) (f : Field) (p v : Typed) → IsFieldOf x (Some f) → field_stored (shared && f.signed) order f p v ≡ written_by (is_field x) shared order x p v
written_field shared order x f p v k = ap (λ (g : Field). field_stored (shared && g.signed) order g p v) k.1 ∙ sym (ap (λ b. written_by b shared order x p v) k.0)

pub written_scalar : (shared : Bool) (order : Order) (x : SpotOf) (spot : Spot) (p v : Typed) → spot ≡ spotted x → is_field x ≡ false → stored_as spot.scalar.width p v ≡ written_by (is_field x) shared order x p v
written_scalar shared order x spot p v e k = ap (λ (s : Spot). stored_as s.scalar.width p v) e ∙ sym (ap (λ b. written_by b shared order x p v) k)
