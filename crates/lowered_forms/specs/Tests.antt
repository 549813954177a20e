-- Truth as jumps: to a label where a test's truth is so, else on. And truth as a number, 1 or 0.
-- Source: ISO/IEC 9899:1990, 6.3.3.3, 6.3.8, 6.3.9, 6.3.13, 6.3.14; Aho, Lam, Sethi and Ullman, Compilers, 6.6 (short-circuit code).
use Rattle.std.specs.Prelude.{ℕ, Bool, true, false, not, ◌&&◌, ℤ, List, [], ◌∷◌}
use Rattle.objects.specs.declared.operators.Comparison.{Comparison}
use Rattle.op_forest.specs.declared.suffix.Suffix.TheVariants.{I}
use Rattle.c_types.specs.CType.{CType}
use Rattle.c_meaning.specs.declared.core_expr.CoreKind.{CoreKind}
use Rattle.c_meaning.specs.declared.core_expr.CoreKind.TheVariants as kind
use Rattle.c_meaning.specs.CoreTrees.{type_of}
use Rattle.c_meaning.specs.Types.{is_pointer}
use Rattle.c_rows_agree.specs.Typed.{Typed}
use Rattle.c_rows_agree.specs.Integers.{number, compared, tested}
use Rattle.lowered_forms.specs.Lows.{Low, branched, marked, with_label, slot_offset, with_slot}
use Rattle.lowered_forms.specs.Values.{Lowered, Part, placed, held, slot_read, stored_in}
use Rattle.lowered_forms.specs.Straight.{straight}

-- ---- jumps

abbrev pub then_branched : Lowered → (Typed → Low → Low) → Low
then_branched r go = go r.value r.low

-- pointers are compared without a sign
abbrev pub compares_signed : CType → Bool → Bool
compares_signed t signed = not (is_pointer t) && signed

abbrev pub comparison_test : Comparison → Bool → Part → Part → ℕ → Bool → Low → Low
comparison_test o signed a b n when l =
    then_branched (a.value l) (λ v l1. then_branched (held (straight b.tree) v l1) (λ x l2. then_branched (b.value l2)
    (λ y l3. branched (compared o (compares_signed (type_of a.tree) signed) when n x y) l3)))

-- any other scalar isn't 0
abbrev pub value_test : (Low → Lowered) → ℕ → Bool → Low → Low
value_test value n when l = then_branched (value l) (λ v l1. branched (tested when n v) l1)

-- a second test follows where the first one tells nothing yet, else it is left out: to the label, or past the second
abbrev pub past : (ℕ → Low → Low) → Low → Low
past go l = marked l.labels (go l.labels (with_label l))

abbrev pub and_test : Part → Part → ℕ → Bool → Low → Low
and_test a b n true l = past (λ m l1. b.test n true (a.test m false l1)) l
and_test a b n false l = b.test n false (a.test n false l)

abbrev pub or_test : Part → Part → ℕ → Bool → Low → Low
or_test a b n true l = b.test n true (a.test n true l)
or_test a b n false l = past (λ m l1. b.test n false (a.test m true l1)) l

-- an expression of a kind with these parts, by its value where it is no test itself
abbrev pub test_row : CoreKind → List Part → (Low → Lowered) → ℕ → Bool → Low → Low
test_row kind.Not (a ∷ []) value n when l = a.test n (not when) l
test_row kind.And (a ∷ b ∷ []) value n when l = and_test a b n when l
test_row kind.Or (a ∷ b ∷ []) value n when l = or_test a b n when l
test_row (kind.Compare o signed) (a ∷ b ∷ []) value n when l = comparison_test o signed a b n when l
test_row what ps value n when l = value_test value n when l

-- ---- numbers

-- a slot has 0, and 1 where the test holds
abbrev pub truth_in : (ℕ → Bool → Low → Low) → ℤ → Low → Low
truth_in test z l = past (λ m l1. stored_in z (number true 1) (test m false (stored_in z (number true 0) l1))) l

abbrev pub truth_of : (ℕ → Bool → Low → Low) → Low → Lowered
truth_of test l = placed (slot_read I (slot_offset l)) (truth_in test (slot_offset l) (with_slot l))
