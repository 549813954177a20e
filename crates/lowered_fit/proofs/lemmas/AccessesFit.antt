-- Reads, writes and copies; assignments and changes.
use Rattle.std.specs.Prelude.{◌≡◌, ◌≤◌, ℕ, ◌+◌, ◌&&◌, Bool, true, false}
use Rattle.std.proofs.Common.{refl, arith}
use Rattle.lcc_base.specs.declared.order.Order.{Order}
use Rattle.objects.specs.declared.operators.Unary.{Unary}
use Rattle.objects.specs.declared.operators.Unary.TheVariants as unary
use Rattle.objects.specs.declared.width.Scalar.{Scalar}
use Rattle.op_forest.specs.declared.op.Op.TheVariants as op
use Rattle.op_forest.specs.declared.suffix.Suffix.TheVariants.{I, U, P, B}
use Rattle.c_types.specs.CType.{CType}
use Rattle.c_meaning.specs.declared.core_expr.Change.{Change}
use Rattle.c_meaning.specs.declared.core_expr.Change.TheVariants as change
use Rattle.c_meaning.specs.Scalars.{scalar_of}
use Rattle.c_meaning.specs.Types.{is_pointer}
use Rattle.c_runs.specs.Places.{Spot, is_field, field_of, size_of, align_of}
use Rattle.c_rows_agree.specs.Integers.{unary_of, binary_of}
use Rattle.c_rows_agree.specs.Typed.{Typed, as_p}
use Rattle.lowered_forms.specs.Accesses.{scalar_read, read_by, read, kept_by, kept, written_by, written, assigned, copy_root, copied}
use Rattle.lowered_forms.specs.Changes.{assigned_by, changed, changed_at, new_given, old_given}
use Rattle.lowered_forms.specs.Contexts.{Context}
use Rattle.lowered_forms.specs.Lows.{Low}
use Rattle.lowered_forms.specs.Values.{Lowered, placed}
use Rattle.lowered_fit.specs.Fitted.{Standing, FitsTree, FitsTyped, FitsRoot}
use Rattle.lowered_fit.specs.States.{IsFitState, IsWider, standing_in, FitsOperand, IsFitResult, IsSmallChange}
use Rattle.lowered_fit.proofs.lemmas.Operands.{Goes, just_placed, acted_goes, operand_typed, operand_still, typed_still, no_room}
use Rattle.lowered_fit.proofs.lemmas.RowsFit.{i_fits, u_fits, converted_fits, pointer_fits, binary_fits, read_fits, pointer_read_fits, store_fits, field_read_fits, field_value_fits, field_store_fits, move_fits}

-- ---- suffixes

pub p_fits : (g : Standing) (a : Typed) → FitsTyped g a → FitsTree g (as_p a) P
p_fits g a h = (pointer_fits g a a h h).fits

neg_no : op.Neg ≡ op.Addrl → ⊥
neg_no e = cc

bcom_no : op.Bcom ≡ op.Addrl → ⊥
bcom_no e = cc

pub unary_fits : (g : Standing) (o : Unary) (a : Typed) → FitsTyped g a → FitsTyped g (unary_of o a)
unary_fits g unary.Plus a h = h
unary_fits g unary.Negate a h = record {
  fits = (I, record { fits = record { operator = omega arith; part = tt; operands = refl; local = λ e. absurd (neg_no e) }; value = refl; suffix = refl }, i_fits g a a h h);
  scalar = tt;
}
unary_fits g unary.Complement a h = record {
  fits = (U, record { fits = record { operator = omega arith; part = tt; operands = refl; local = λ e. absurd (bcom_no e) }; value = refl; suffix = refl }, u_fits g a a h h);
  scalar = tt;
}

-- ---- reads and writes

scalar_read_fits : (g : Standing) (b : Bool) (x : Scalar) (p : Typed) → FitsTyped g p → FitsTyped g (scalar_read b x p)
scalar_read_fits g true x p h = pointer_read_fits g p p h h
scalar_read_fits g false x p h = read_fits g p p h h x

by_read_fits : (g : Standing) (b : Bool) (order : Order) (x : Spot) (p : Typed) → FitsTyped g p → FitsTyped g (read_by b order x p)
by_read_fits g true order x p h = field_read_fits g p p h h order (field_of x)
by_read_fits g false order x p h = scalar_read_fits g (is_pointer x.of) (scalar_of x.of) p h

pub place_read_fits : (g : Standing) (order : Order) (x : Spot) (p : Typed) → FitsTyped g p → FitsTyped g (read order x p)
place_read_fits g order x p h = by_read_fits g (is_field x) order x p h

-- a bit-field lies in its unit
abbrev pub LiesInUnit : Spot → Type 0
LiesInUnit x = x.first + x.width ≤ 32

kept_fits : (g : Standing) (b : Bool) (x : Spot) (v : Typed) → LiesInUnit x → FitsTyped g v → FitsTyped g (kept_by b x v)
kept_fits g true x v le h = field_value_fits g v v h h (field_of x) (omega (arith, le))
kept_fits g false x v le h = h

written_fits : (g : Standing) (b shared : Bool) (order : Order) (x : Spot) (p v : Typed) → LiesInUnit x → FitsTyped g p → FitsTyped g v → FitsRoot g (written_by b shared order x p v)
written_fits g true shared order x p v le h k = field_store_fits g p v h k (shared && (field_of x).signed) order (field_of x) le
written_fits g false shared order x p v le h k = store_fits g p v h k (scalar_of x.of).width

pub written_goes : (shared : Bool) (order : Order) (x : Spot) (p v : Typed) (l : Low) → LiesInUnit x → IsFitState l → FitsTyped (standing_in l) p → FitsTyped (standing_in l) v → Goes l (written shared order x p v l)
written_goes shared order x p v l le b h k = acted_goes (written_by (is_field x) shared order x p v) l b (written_fits (standing_in l) (is_field x) shared order x p v le h k)

pub copy_fits : (g : Standing) (size align : ℕ) (p v : Typed) → FitsTyped g p → FitsTyped g v → FitsRoot g (copy_root size align p v)
copy_fits g size align p v h k = record {
  first = P;
  second = B;
  fits = record { operator = omega arith; part = tt; operands = refl; local = λ e. absurd (asgn_no e) };
  left = p_fits g p h;
  right = (P, record { fits = record { operator = omega arith; part = tt; operands = refl; local = λ e. absurd (indir_no e) }; value = refl; suffix = refl }, p_fits g v k);
}
  where
    asgn_no : op.Asgn ≡ op.Addrl → ⊥
    asgn_no e = cc

    indir_no : op.Indir ≡ op.Addrl → ⊥
    indir_no e = cc

pub copied_goes : (s : Context) (of : CType) (p v : Typed) (l : Low) → IsFitState l → FitsTyped (standing_in l) p → FitsTyped (standing_in l) v → Goes l (copied s.unit.tags of p v l)
copied_goes s of p v l b h k = acted_goes (copy_root (size_of s.unit.tags of) (align_of s.unit.tags of) p v) l b (copy_fits (standing_in l) (size_of s.unit.tags of) (align_of s.unit.tags of) p v h k)

-- ---- assignments

-- what an operation over two operands comes to
abbrev pub GivesFit : (Typed → Typed → Low → Lowered) → Type 0
GivesFit go = (x y : Typed) (l : Low) → IsFitState l → FitsTyped (standing_in l) x → FitsTyped (standing_in l) y → IsFitResult 0 l (go x y l)

-- an operand behind steps that keep the nodes
pub kept_result : (l m : Low) (r : Lowered) → IsWider l.slots r.low.slots → Goes r.low m → FitsOperand (standing_in r.low) r.value → IsFitResult 0 l (record { value = r.value; low = m })
kept_result l m r w g v = record {
  state = g.state;
  wide = λ z e. g.wide z (w z e);
  value = operand_still (standing_in r.low) (standing_in m) r.value g.keeps g.wide v;
  room = no_room m.slots r.value.tree;
}

assigned_fits : (order : Order) (x : Spot) → LiesInUnit x → GivesFit (λ p v l. assigned order x p v l)
assigned_fits order x le p v l b h k =
    let u = placed (kept x v) l in
    let c = just_placed (kept x v) l b (kept_fits (standing_in l) (is_field x) x v le k) in
    let on = λ (a : Typed) (f : FitsTyped (standing_in l) a). typed_still (standing_in l) (standing_in u.low) a c.keeps c.result.wide f in
    kept_result l (written true order x p v u.low) u c.result.wide (written_goes true order x p v u.low le c.result.state (on p h) (on v k)) c.result.value

pub assigned_by_fits : (b : Bool) (s : Context) (of : CType) (x : Spot) → LiesInUnit x → GivesFit (λ p v l. assigned_by b s of x p v l)
assigned_by_fits true s of x le p v l b h k =
    let m = copied s.unit.tags of p v l in
    let g = copied_goes s of p v l b h k in
    let c = just_placed p m g.state (typed_still (standing_in l) (standing_in m) p g.keeps g.wide h) in
    record { state = c.result.state; wide = λ z e. c.result.wide z (g.wide z e); value = c.result.value; room = no_room (placed p m).low.slots (placed p m).value.tree }
assigned_by_fits false s of x le p v l b h k = assigned_fits s.order x le p v l b h k

-- ---- changes

changed_fits : (g : Standing) (by : Change) (x : Spot) (old v : Typed) → IsSmallChange by → FitsTyped g old → FitsTyped g v → FitsTyped g (changed by x old v)
changed_fits g (change.Arithmetic o signed) x old v k h f =
    let b = binary_fits g old v h f o signed in
    converted_fits g (binary_of o signed old v) (binary_of o signed old v) b b (scalar_of x.of)
changed_fits g (change.Pointer size back) x old v k h f = move_fits g old v h f size back k

-- what is given fits, over the place, the old value, which is an operand, and the new one
abbrev pub GivesChange : (Order → Spot → Typed → Typed → Typed → Low → Lowered) → Order → Spot → Type 0
GivesChange give order x =
    (p old new : Typed) (l : Low) → IsFitState l → FitsTyped (standing_in l) p → FitsOperand (standing_in l) old → FitsTyped (standing_in l) new
    → IsFitResult 0 l (give order x p old new l)

pub new_fits : (order : Order) (x : Spot) → LiesInUnit x → GivesChange new_given order x
new_fits order x le p old new l b h k f = assigned_fits order x le p new l b h f

pub old_fits : (order : Order) (x : Spot) → LiesInUnit x → GivesChange old_given order x
old_fits order x le p old new l b h k f = kept_result l (written false order x p new l) (record { value = old; low = l }) (λ z e. e) (written_goes false order x p new l le b h f) k

pub changed_at_fits : (order : Order) (by : Change) (x : Spot) (give : Order → Spot → Typed → Typed → Typed → Low → Lowered) → IsSmallChange by → GivesChange give order x
    → GivesFit (λ p v l. changed_at order by x give p v l)
changed_at_fits order by x give small gives p v l b h k =
    let old = placed (read order x p) l in
    let c = just_placed (read order x p) l b (place_read_fits (standing_in l) order x p h) in
    let g1 = standing_in old.low in
    let p1 = typed_still (standing_in l) g1 p c.keeps c.result.wide h in
    let v1 = typed_still (standing_in l) g1 v c.keeps c.result.wide k in
    let o1 = operand_typed g1 old.value c.result.value in
    let new = placed (changed by x old.value v) old.low in
    let d = just_placed (changed by x old.value v) old.low c.result.state (changed_fits g1 by x old.value v small o1 v1) in
    let g2 = standing_in new.low in
    let r = gives p old.value new.value new.low d.result.state (typed_still g1 g2 p d.keeps d.result.wide p1) (operand_still g1 g2 old.value d.keeps d.result.wide c.result.value)
    (operand_typed g2 new.value d.result.value) in
    record { state = r.state; wide = λ z e. r.wide z (d.result.wide z (c.result.wide z e)); value = r.value; room = r.room }
