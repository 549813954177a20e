-- What each step keeps, assignments, changes, comparisons and conditionals keep.
use Rattle.std.specs.Prelude.{ℕ, Bool, true, false, None, ℤ}
use Rattle.lcc_base.specs.declared.order.Order.{Order}
use Rattle.objects.specs.declared.operators.Comparison.{Comparison}
use Rattle.op_forest.specs.declared.op.Op.TheVariants as op
use Rattle.op_forest.specs.declared.suffix.Suffix.TheVariants.{I, P, V}
use Rattle.op_forest.specs.declared.sym.Sym.TheVariants as sym
use Rattle.c_types.specs.CType.{CType}
use Rattle.c_meaning.specs.CoreTrees.{type_of}
use Rattle.c_meaning.specs.declared.core_expr.Change.{Change}
use Rattle.c_runs.specs.Places.{Spot, is_field, size_of, align_of}
use Rattle.c_rows_agree.specs.Templates.{Leaf}
use Rattle.c_rows_agree.specs.Typed.{Typed, head, head_with, as_i}
use Rattle.c_rows_agree.specs.Integers.{as_pointer, compared}
use Rattle.lowered_forms.specs.Accesses.{read, kept, written_by, assigned, copy_root}
use Rattle.lowered_forms.specs.Changes.{assigned_by, changed, new_given, old_given, changed_at}
use Rattle.lowered_forms.specs.Conditionals.{Sort, Nothing, Word, Place, sort_read, kept_in, second_way, both_ways, conditional, sort_of}
use Rattle.lowered_forms.specs.Contexts.{Context}
use Rattle.lowered_forms.specs.Lows.{Low, acted, acted_one, jumped, marked, with_label, with_slot, slot_offset}
use Rattle.lowered_forms.specs.Steps.{Relation, Steps, Jumps}
use Rattle.lowered_forms.specs.Straight.{straight}
use Rattle.lowered_forms.specs.Tests.{compares_signed, comparison_test, and_test, or_test}
use Rattle.lowered_forms.specs.Values.{Lowered, Part, placed, held}
use Rattle.lowered_forms.proofs.lemmas.Stepping.{ahead, behind, placed_steps, held_steps, stores_uncounted, PartSteps, TestSteps, branched_steps, then_steps, past_steps}

-- ---- assignments and changes

assigned_steps : (R : Relation) → Steps R → (order : Order) (x : Spot) (p v : Typed) (l : Low) → R 1 l (assigned order x p v l).low
assigned_steps R k order x p v l = ahead R k 1 l (placed (kept x v) l).low _ (placed_steps R k (kept x v) l) (k.acts (written_by (is_field x) true order x p v) (placed (kept x v) l).low)

pub assigned_by_steps : (R : Relation) → Steps R → (b : Bool) (s : Context) (of : CType) (x : Spot) (p v : Typed) (l : Low) → R 1 l (assigned_by b s of x p v l).low
assigned_by_steps R k true s of x p v l =
    let l1 = acted (copy_root (size_of s.unit.tags of) (align_of s.unit.tags of) p v) l in
    behind R k 1 l l1 _ (k.acts (copy_root (size_of s.unit.tags of) (align_of s.unit.tags of) p v) l) (placed_steps R k p l1)
assigned_by_steps R k false s of x p v l = assigned_steps R k s.order x p v l

pub new_steps : (R : Relation) → Steps R → (order : Order) (x : Spot) (p old new : Typed) (l : Low) → R 1 l (new_given order x p old new l).low
new_steps R k order x p old new l = assigned_steps R k order x p new l

pub old_steps : (R : Relation) → Steps R → (order : Order) (x : Spot) (p old new : Typed) (l : Low) → R 1 l (old_given order x p old new l).low
old_steps R k order x p old new l = k.acts (written_by (is_field x) false order x p new) l

pub changed_steps : (R : Relation) → Steps R → (order : Order) (by : Change) (x : Spot) (give : Order → Spot → Typed → Typed → Typed → Low → Lowered)
    → ((p old new : Typed) (l : Low) → R 1 l (give order x p old new l).low) → (p v : Typed) (l : Low) → R 1 l (changed_at order by x give p v l).low
changed_steps R k order by x give h p v l =
    let old = placed (read order x p) l in
    let new = placed (changed by x old.value v) old.low in
    ahead R k 1 l old.low _ (placed_steps R k (read order x p) l)
    (ahead R k 1 old.low new.low _ (placed_steps R k (changed by x old.value v) old.low) (h p old.value new.value new.low))

-- ---- tests

pub comparison_steps : (R : Relation) → Steps R → Jumps R → (m n : ℕ) (o : Comparison) (signed : Bool) (a b : Part) → PartSteps R m a → PartSteps R n b
    → (to : ℕ) (when : Bool) (l : Low) → R 0 l (comparison_test o signed a b to when l)
comparison_steps R k j m n o signed a b f g to when l =
    let v = a.value l in
    let x = held (straight b.tree) v.value v.low in
    let y = b.value x.low in
    then_steps R k l v.low _ (j.uncounted m 0 l v.low (f l))
    (then_steps R k v.low x.low _ (held_steps R k (straight b.tree) (λ e. j) v.value v.low)
    (then_steps R k x.low y.low _ (j.uncounted n 0 x.low y.low (g x.low)) (branched_steps R k j (compared o (compares_signed (type_of a.tree) signed) when to x.value y.value) y.low)))

two_tests : (R : Relation) → Steps R → (a b : Part) → TestSteps R a → TestSteps R b → (m n : ℕ) (c d : Bool) (l : Low) → R 0 l (b.test n d (a.test m c l))
two_tests R k a b f g m n c d l = then_steps R k l (a.test m c l) _ (f m c l) (g n d (a.test m c l))

pub and_steps : (R : Relation) → Steps R → Jumps R → (a b : Part) → TestSteps R a → TestSteps R b → (n : ℕ) (when : Bool) (l : Low) → R 0 l (and_test a b n when l)
and_steps R k j a b f g n true l = past_steps R k j (λ m l1. b.test n true (a.test m false l1)) (λ m l1. two_tests R k a b f g m n false true l1) l
and_steps R k j a b f g n false l = two_tests R k a b f g n n false false l

pub or_steps : (R : Relation) → Steps R → Jumps R → (a b : Part) → TestSteps R a → TestSteps R b → (n : ℕ) (when : Bool) (l : Low) → R 0 l (or_test a b n when l)
or_steps R k j a b f g n true l = two_tests R k a b f g n n true true l
or_steps R k j a b f g n false l = past_steps R k j (λ m l1. b.test n false (a.test m true l1)) (λ m l1. two_tests R k a b f g m n true false l1) l

-- ---- conditionals

kept_steps : (R : Relation) → Steps R → Jumps R → (sort : Sort) (z : ℤ) (m : ℕ) (l : Low) (r : Lowered) → R m l r.low → R 0 l (kept_in sort z r)
kept_steps R k j Nothing z m l r h = j.uncounted m 0 l r.low h
kept_steps R k j Word z m l r h = then_steps R k l r.low _ (j.uncounted m 0 l r.low h) (stores_uncounted R k j z (record { tree = as_i r.value; suffix = I }) r.low)
kept_steps R k j Place z m l r h = then_steps R k l r.low _ (j.uncounted m 0 l r.low h) (stores_uncounted R k j z (as_pointer r.value) r.low)

jumped_steps : (R : Relation) → Steps R → Jumps R → (n : ℕ) (l : Low) → R 0 l (jumped n l)
jumped_steps R k j n l =
    let l1 = acted_one (head op.Jump V) (Leaf (head_with op.Addrg P (sym.Label n) None)) l in
    j.uncounted 1 0 l (jumped n l) (behind R k 1 l l1 (jumped n l) (k.acts_one (head op.Jump V) (Leaf (head_with op.Addrg P (sym.Label n) None)) l) (j.ends l1))

second_steps : (R : Relation) → Steps R → Jumps R → (m : ℕ) (sort : Sort) (z : ℤ) (c : Part) → PartSteps R m c → (n end : ℕ) (l : Low) → R 0 l (second_way sort z c n end l)
second_steps R k j m sort z c f n end l =
    then_steps R k l (jumped end l) _ (jumped_steps R k j end l)
    (then_steps R k (jumped end l) (marked n (jumped end l)) _ (j.marks n (jumped end l))
    (then_steps R k (marked n (jumped end l)) (kept_in sort z (c.value (marked n (jumped end l)))) _
    (kept_steps R k j sort z m (marked n (jumped end l)) (c.value (marked n (jumped end l))) (f (marked n (jumped end l))))
    (j.marks end (kept_in sort z (c.value (marked n (jumped end l)))))))

both_steps : (R : Relation) → Steps R → Jumps R → (m o : ℕ) (sort : Sort) (z : ℤ) (a b c : Part) → TestSteps R a → PartSteps R m b → PartSteps R o c → (n end : ℕ) (l : Low)
    → R 0 l (both_ways sort z a b c n end l)
both_steps R k j m o sort z a b c f g h n end l =
    then_steps R k l (a.test n false l) _ (f n false l)
    (then_steps R k (a.test n false l) (kept_in sort z (b.value (a.test n false l))) _
    (kept_steps R k j sort z m (a.test n false l) (b.value (a.test n false l)) (g (a.test n false l)))
    (second_steps R k j o sort z c h n end (kept_in sort z (b.value (a.test n false l)))))

pub conditional_steps : (R : Relation) → Steps R → Jumps R → (m o : ℕ) (of : CType) (a b c : Part) → TestSteps R a → PartSteps R m b → PartSteps R o c → (l : Low)
    → R 0 l (conditional of a b c l).low
conditional_steps R k j m o of a b c f g h l =
    let l1 = with_slot l in
    let l2 = with_label l1 in
    let l3 = with_label l2 in
    then_steps R k l l1 _ (k.slot l)
    (then_steps R k l1 l2 _ (j.label l1)
    (then_steps R k l2 l3 _ (j.label l2)
    (then_steps R k l3 (both_ways (sort_of of) (slot_offset l) a b c l1.labels l2.labels l3) _
    (both_steps R k j m o (sort_of of) (slot_offset l) a b c f g h l1.labels l2.labels l3)
    (placed_steps R k (sort_read (sort_of of) (slot_offset l)) (both_ways (sort_of of) (slot_offset l) a b c l1.labels l2.labels l3)))))
