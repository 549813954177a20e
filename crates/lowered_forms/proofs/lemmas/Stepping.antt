-- What each step keeps, operands and operations keep.
use Rattle.std.specs.Prelude.{◌≡◌, ℕ, ◌+◌, Bool, true, false, ℤ}
use Rattle.std.proofs.Common.{refl, arith}
use Rattle.objects.specs.declared.width.Width.TheVariants.{Four}
use Rattle.op_forest.specs.declared.suffix.Suffix.{Suffix}
use Rattle.op_forest.specs.declared.suffix.Suffix.TheVariants.{I}
use Rattle.c_rows_agree.specs.Templates.{Template, Given, Leaf, One, Two, Root}
use Rattle.c_rows_agree.specs.Typed.{Typed}
use Rattle.c_rows_agree.specs.Integers.{number, tested}
use Rattle.c_rows_agree.specs.Places.{stored_as}
use Rattle.c_pointers_agree.specs.Pointers.{local}
use Rattle.lowered_forms.specs.Lows.{Low, acted, with_slot, slot_offset, branched, with_label}
use Rattle.lowered_forms.specs.Steps.{Relation, Steps, Jumps}
use Rattle.lowered_forms.specs.Straight.{straight}
use Rattle.lowered_forms.specs.Values.{Lowered, Part, placed_tree, placed, saved, saved_tree, held, of_two, stored_in, slot_read}
use Rattle.lowered_forms.specs.Tests.{past, truth_in, truth_of, value_test}

-- ---- counts

-- behind a step without roots, and before one
pub ahead : (R : Relation) → Steps R → (n : ℕ) (a b c : Low) → R 0 a b → R n b c → R n a c
ahead R k n a b c x y = k.weakens (0 + n) n a c (omega arith) (k.joins 0 n a b c x y)

pub behind : (R : Relation) → Steps R → (m : ℕ) (a b c : Low) → R m a b → R 0 b c → R m a c
behind R k m a b c x y = k.weakens (m + 0) m a c (omega arith) (k.joins m 0 a b c x y)

-- ---- operands

pub placed_tree_steps : (R : Relation) → Steps R → (s : Suffix) (t : Template) (l : Low) → R 0 l (placed_tree s t l).low
placed_tree_steps R k s (Given n) l = k.same l
placed_tree_steps R k s (Leaf h) l = k.same l
placed_tree_steps R k s (One h a) l = k.asks (One h a) l
placed_tree_steps R k s (Two h a b) l = k.asks (Two h a b) l

pub placed_steps : (R : Relation) → Steps R → (a : Typed) (l : Low) → R 0 l (placed a l).low
placed_steps R k a l = placed_tree_steps R k a.suffix a.tree l

pub stored_steps : (R : Relation) → Steps R → (z : ℤ) (a : Typed) (l : Low) → R 1 l (stored_in z a l)
stored_steps R k z a l = k.acts (stored_as Four (local z) a) l

pub saved_steps : (R : Relation) → Steps R → (a : Typed) (l : Low) → R 1 l (saved a l).low
saved_steps R k a l = ahead R k 1 l (with_slot l) (saved a l).low (k.slot l) (stored_steps R k (slot_offset l) a (with_slot l))

saved_tree_steps : (R : Relation) → Steps R → Jumps R → (t : Template) (a : Typed) (l : Low) → R 0 l (saved_tree t a l).low
saved_tree_steps R k j (Given n) a l = j.uncounted 1 0 l (saved a l).low (saved_steps R k a l)
saved_tree_steps R k j (Leaf h) a l = k.same l
saved_tree_steps R k j (One h x) a l = k.same l
saved_tree_steps R k j (Two h x y) a l = k.same l

pub held_steps : (R : Relation) → Steps R → (b : Bool) → (b ≡ false → Jumps R) → (a : Typed) (l : Low) → R 0 l (held b a l).low
held_steps R k true j a l = k.same l
held_steps R k false j a l = saved_tree_steps R k (j refl) a.tree a l

-- a part's value has at most so many roots
abbrev pub PartSteps : Relation → ℕ → Part → Type 0
PartSteps R m a = (l : Low) → R m l (a.value l).low

pub two_steps : (R : Relation) → Steps R → (m n o : ℕ) (a b : Part) → (straight b.tree ≡ false → Jumps R) → PartSteps R m a → PartSteps R n b
    → (go : Typed → Typed → Low → Lowered) → ((v w : Typed) (l : Low) → R o l (go v w l).low) → (l : Low) → R (m + (n + o)) l (of_two a b l go).low
two_steps R k m n o a b j f g go h l =
    let v = a.value l in
    let x = held (straight b.tree) v.value v.low in
    let y = b.value x.low in
    k.joins m (n + o) l v.low _ (f l)
    (ahead R k (n + o) v.low x.low _ (held_steps R k (straight b.tree) j v.value v.low)
    (k.joins n o x.low y.low _ (g x.low) (h x.value y.value y.low)))

-- ---- tests

abbrev pub TestSteps : Relation → Part → Type 0
TestSteps R a = (n : ℕ) (when : Bool) (l : Low) → R 0 l (a.test n when l)

pub branched_steps : (R : Relation) → Steps R → Jumps R → (r : Root) (l : Low) → R 0 l (branched r l)
branched_steps R k j r l = j.uncounted 1 0 l _ (behind R k 1 l (acted r l) (branched r l) (k.acts r l) (j.ends (acted r l)))

-- one uncounted step behind another
pub then_steps : (R : Relation) → Steps R → (a b c : Low) → R 0 a b → R 0 b c → R 0 a c
then_steps R k a b c x y = ahead R k 0 a b c x y

pub value_test_steps : (R : Relation) → Steps R → Jumps R → (m : ℕ) (value : Low → Lowered) → ((l : Low) → R m l (value l).low) → (n : ℕ) (when : Bool) (l : Low) → R 0 l (value_test value n when l)
value_test_steps R k j m value f n when l = then_steps R k l (value l).low _ (j.uncounted m 0 l (value l).low (f l)) (branched_steps R k j (tested when n (value l).value) (value l).low)

pub past_steps : (R : Relation) → Steps R → Jumps R → (go : ℕ → Low → Low) → ((m : ℕ) (l : Low) → R 0 l (go m l)) → (l : Low) → R 0 l (past go l)
past_steps R k j go h l =
    then_steps R k l (with_label l) _ (j.label l)
    (then_steps R k (with_label l) (go l.labels (with_label l)) _ (h l.labels (with_label l)) (j.marks l.labels (go l.labels (with_label l))))

pub stores_uncounted : (R : Relation) → Steps R → Jumps R → (z : ℤ) (a : Typed) (l : Low) → R 0 l (stored_in z a l)
stores_uncounted R k j z a l = j.uncounted 1 0 l (stored_in z a l) (stored_steps R k z a l)

truth_in_steps : (R : Relation) → Steps R → Jumps R → (test : ℕ → Bool → Low → Low) → ((n : ℕ) (when : Bool) (l : Low) → R 0 l (test n when l)) → (z : ℤ) (l : Low) → R 0 l (truth_in test z l)
truth_in_steps R k j test h z l =
    past_steps R k j (λ m l1. stored_in z (number true 1) (test m false (stored_in z (number true 0) l1)))
    (λ m l1.
    let l2 = stored_in z (number true 0) l1 in
    let l3 = test m false l2 in
    then_steps R k l1 l2 _ (stores_uncounted R k j z (number true 0) l1) (then_steps R k l2 l3 _ (h m false l2) (stores_uncounted R k j z (number true 1) l3)))
    l

pub truth_steps : (R : Relation) → Steps R → Jumps R → (test : ℕ → Bool → Low → Low) → ((n : ℕ) (when : Bool) (l : Low) → R 0 l (test n when l)) → (l : Low) → R 0 l (truth_of test l).low
truth_steps R k j test h l =
    then_steps R k l (with_slot l) _ (k.slot l)
    (then_steps R k (with_slot l) (truth_in test (slot_offset l) (with_slot l)) _
    (truth_in_steps R k j test h (slot_offset l) (with_slot l))
    (placed_steps R k (slot_read I (slot_offset l)) (truth_in test (slot_offset l) (with_slot l))))
