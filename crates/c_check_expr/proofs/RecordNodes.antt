-- The node of a structure or union with its members: where it stands in a table, its limits, and what it makes known.
use Rattle.std.proofs.Common.{◌≡◌, ℕ, ◌<◌, ◌≤◌, List, length, refl, sym, ap, ◌∙◌, arith}
use Rattle.std.specs.Prelude.{Bool, true, false, ◌||◌, nat_lt, slice_get, Option, Some, None, Result, Ok, Err, IfErr, IfOk, OnOk, if◌then◌else◌}
use Rattle.std.proofs.lemmas.Option.{get_or_from_slice_get}
use Rattle.lcc_base.specs.declared.which.Which.TheVariants as which
use Rattle.c_ast.specs.declared.specifier.RecordKind.{RecordKind}
use Rattle.c_ast.specs.declared.specifier.RecordKind.TheVariants as record_kind
use Rattle.c_symbols.specs.Scoping.{Scoping}
use Rattle.c_types.specs.declared.type_fault.TypeFault.TheVariants as fault
use Rattle.c_types.specs.declared.type_form.Member.{Member}
use Rattle.c_types.specs.declared.type_form.TypeForm.{TypeForm}
use Rattle.c_types.specs.declared.type_form.TypeForm.TheVariants as form
use Rattle.c_types.specs.CType.{CType, qualify}
use Rattle.c_types.specs.Layout.{MemberType, fields, known, structure_extent}
use Rattle.c_types.specs.Table.{Extends, Table, excess, form_at, formed, is_above, is_open_form, is_qualified, is_union as is_union_form, member_types, number_at, tagged, tags, type_at, types}
use Rattle.c_meaning.specs.Constraints.{Breaks, Passes, constraints, first_broken, first_passed}
use Rattle.c_meaning.specs.Nodes.{Typing}
use Rattle.c_meaning.specs.Nodes as node
use Rattle.c_meaning.specs.State.{State}
use Rattle.c_meaning.specs.TypeConstraints.{is_of_kind, misuses_tag}
use Rattle.c_meaning.specs.TypeRows.{completed, is_union, number_of, record_type}
use Rattle.c_meaning.specs.Typing.{Bad, Fine, at_record}
use Rattle.c_values.specs.declared.check_fault.CheckFault.{CheckFault}
use Rattle.c_values.specs.declared.check_fault.CheckFault.TheVariants.{Constraint, Limit, Memory}
use Rattle.c_check_expr.specs.AtNode.{Tells}
use Rattle.c_check_expr.specs.Completed.{IsPassed, IsRecordAt, limit_of, record_limit, record_tags}
use Rattle.c_check_expr.specs.Known.{AreSymbolsIn, state_of}
use Rattle.c_check_expr.specs.SymbolsStay.{symbols_stay}
use Rattle.c_check_expr.proofs.TypeNodes.{node_breaks, node_fine, node_passes}

-- ---- places of structures and unions

by_form : (k : RecordKind) (q : ℕ) (ts : List CType) (n : ℕ) (f : TypeForm) → is_qualified f ≡ false → is_of_kind k (qualify q (formed ts n f)) ≡ true →
    (is_open_form f ≡ true) × (is_union_form f ≡ is_union k) × (formed ts n f ≡ record_type k n) × (number_of (qualify q (formed ts n f)) ≡ n)
by_form record_kind.Struct q ts n form.Structure h i = (refl, refl, refl, refl)
by_form record_kind.Struct q ts n f h i = absurd (cc)
by_form record_kind.Union q ts n form.Union h i = (refl, refl, refl, refl)
by_form record_kind.Union q ts n f h i = absurd (cc)

pub record_there : (t : Table) (k : RecordKind) (id base q : ℕ) (f : TypeForm) → base ≤ id → id < length t.forms → type_at t id ≡ qualify q (type_at t base) → is_qualified (form_at t base) ≡ false →
    slice_get t.forms base ≡ Some f → type_at t base ≡ formed (types t) (number_at t base) f → is_of_kind k (type_at t id) ≡ true → IsRecordAt t k id base
record_there t k id base q f b l m p e v i =
    let g : form_at t base ≡ f = get_or_from_slice_get t.forms base f form.Void e in
    let w : type_at t id ≡ qualify q (formed (types t) (number_at t base) f) = m ∙ ap (qualify q) v in
    let r = by_form k q (types t) (number_at t base) f (sym (ap is_qualified g) ∙ p) (sym (ap (is_of_kind k) w) ∙ i) in
    record { within = omega arith; form = ap is_open_form g ∙ r.0; union = ap is_union_form g ∙ r.1; means = v ∙ r.2; number = ap number_of w ∙ r.3; kind = i }

-- ---- limits

pub record_passed : (s : State) (line : ℕ) (k : RecordKind) (tag : Option (List ℕ)) (n : ℕ) (ms : List MemberType) → first_passed s line (Typing (node.Record k tag n ms)) ≡ limit_of (excess 1 (structure_extent (is_union k) (fields (known s.tags) ms)))
record_passed s line k tag n ms = (let e = structure_extent (is_union k) (fields (known s.tags) ms) in by (is_above e.size) (nat_lt 500 e.nesting))
  where
    by : (a b : Bool) → (if a || false then Some which.Object else if (b || false) || false then Some which.Depth else None) ≡ limit_of (if a then Some fault.TooLarge else if b then Some fault.TooDeep else None)
    by true b = refl
    by false true = refl
    by false false = refl

-- ---- what it makes known

pub state_completed : (o : Scoping) (old new : Table) (k : RecordKind) (id : ℕ) (ms : List Member) → Extends old new → new.forms ≡ old.forms → tags new ≡ record_tags old k id ms → AreSymbolsIn (length old.forms) o.symbols →
    state_of o new ≡ completed (state_of o old) k (number_of (type_at old id)) (member_types (types old) ms)
state_completed o old new k id ms h f g i = rw (symbols_stay old new h o.symbols i, g, ap tagged f) refl

-- ---- what is told

pub record_misused : (s : State) (line : ℕ) (k : RecordKind) (tag : Option (List ℕ)) (n : ℕ) (ms : List MemberType) → misuses_tag s (node.Record k tag n ms) ≡ true → at_record s line k tag n ms ≡ Bad (Breaks 8 line)
record_misused s line k tag n ms h = node_breaks s line (node.Record k tag n ms) (completed s k n ms) (node.Whole (record_type k n)) 8 (rw h refl)

not_misused : (s : State) (k : RecordKind) (tag : Option (List ℕ)) (n : ℕ) (ms : List MemberType) → misuses_tag s (node.Record k tag n ms) ≡ false → first_broken constraints s (Typing (node.Record k tag n ms)) ≡ None
not_misused s k tag n ms h = rw h refl

pub record_fine : (o : Scoping) (old new : Table) (line : ℕ) (k : RecordKind) (tag : Option (List ℕ)) (id : ℕ) (ms : List Member) (r : Result ℕ CheckFault) → misuses_tag (state_of o old) (node.Record k tag (number_of (type_at old id)) (member_types (types old) ms)) ≡ false →
    OnOk r (record_limit old k ms ≡ None) → Extends old new → OnOk r (new.forms ≡ old.forms) → OnOk r (tags new ≡ record_tags old k id ms) → AreSymbolsIn (length old.forms) o.symbols →
    IfOk r (λ whole. type_at new whole ≡ record_type k (number_of (type_at old id))) →
    IfOk r (λ whole. at_record (state_of o old) line k tag (number_of (type_at old id)) (member_types (types old) ms) ≡ Fine (state_of o new) (node.Whole (type_at new whole)))
record_fine o old new line k tag id ms (Err f) m l h f' g i t = tt
record_fine o old new line k tag id ms (Ok whole) m l h f g i t =
    let s = state_of o old in
    let n = number_of (type_at old id) in
    let xs = member_types (types old) ms in
    node_fine s line (node.Record k tag n xs) (completed s k n xs) (node.Whole (record_type k n)) (not_misused s k tag n xs m) (record_passed s line k tag n xs ∙ l)
    ∙ ap (λ (u : State). Fine u (node.Whole (record_type k n))) (sym (state_completed o old new k id ms h f g i)) ∙ ap (λ of. Fine (state_of o new) (node.Whole of)) (sym t)

pub record_told : (o : Scoping) (old : Table) (line : ℕ) (k : RecordKind) (tag : Option (List ℕ)) (id : ℕ) (ms : List Member) (r : Result ℕ CheckFault) → misuses_tag (state_of o old) (node.Record k tag (number_of (type_at old id)) (member_types (types old) ms)) ≡ false →
    IfErr r (λ e. IsPassed e line (record_limit old k ms)) → IfErr r (λ e. Tells e (at_record (state_of o old) line k tag (number_of (type_at old id)) (member_types (types old) ms)))
record_told o old line k tag id ms (Ok whole) m h = tt
record_told o old line k tag id ms (Err Memory) m h = tt
record_told o old line k tag id ms (Err (Constraint n l)) m h = absurd h
record_told o old line k tag id ms (Err (Limit w l)) m h =
    let s = state_of o old in
    let n = number_of (type_at old id) in
    let xs = member_types (types old) ms in
    node_passes s line (node.Record k tag n xs) (completed s k n xs) (node.Whole (record_type k n)) w (not_misused s k tag n xs m) (record_passed s line k tag n xs ∙ h.0)
    ∙ ap (λ j. Bad (Passes w j)) (sym h.1)
