-- Nodes of `?:`: which constraint they break first, and what they tell.
use Rattle.std.proofs.Common.{◌≡◌, ℕ, ◌<◌, Bool, true, false, List, [], ◌∷◌, length, refl, sym, ◌∙◌, subst, true≢false}
use Rattle.std.specs.Prelude.{None, Option, Some, not, ◌&&◌, ◌||◌, if◌then◌else◌}
use Rattle.c_types.specs.CType.{Void, CType, Plain, Array, Simple, Pointer, Function, Structure, Union, Enumeration}
use Rattle.c_types.specs.Facts.{IsWithin}
use Rattle.c_types.specs.Layout.{Tag, known}
use Rattle.c_types.specs.Table.{Table, tags, type_at}
use Rattle.c_meaning.specs.Constants.{is_null}
use Rattle.c_meaning.specs.Constraints.{constraints, first_broken}
use Rattle.c_meaning.specs.CoreTrees.{CoreOf, Core, IsIn, seen, type_of}
use Rattle.c_meaning.specs.ExprConstraints.{are_integers, can_choose, is_open_record, pointers_fit, targets_fit}
use Rattle.c_meaning.specs.Nodes.{Conditional, Expression}
use Rattle.c_meaning.specs.Rows.{chosen, chosen_type}
use Rattle.c_meaning.specs.State.{State}
use Rattle.c_meaning.specs.Types.{alike, is_function, is_pointer, is_record, is_scalar, is_void, target}
use Rattle.c_meaning.specs.Typing.{Fine, at_expr}
use Rattle.c_meaning.specs.Values.{CoreTree, value, value_type}
use Rattle.c_values.specs.declared.check_fault.CheckFault.{CheckFault}
use Rattle.c_values.specs.TooDeep.{IsTooDeep}
use Rattle.c_check_expr.specs.AtNode.{Tells}
use Rattle.c_check_expr.specs.SomeDeep.{AreTooDeep}
use Rattle.c_check_expr.proofs.NodeLimits.{IsSmall, value_small}
use Rattle.c_check_expr.proofs.NodeTells.{deep_first, deep_later, deep_more, node_becomes, node_deep, seen_shallow, seen_small}
use Rattle.c_check_expr.proofs.RowTypes.{chosen_small}

-- the tests of a node, in the order of the constraints' numbers
pub choice_tests : (s : State) (ts : List Tag) (a b c : CoreTree) → s.tags ≡ ts → first_broken constraints s (Expression (Conditional a b c)) ≡ (if not (is_scalar (value_type a)) then Some 43 else if not (can_choose (value b) (value c)) then Some 44 else if is_open_record ts (value_type b) || is_open_record ts (value_type c) then Some 46 else None)
choice_tests s ts a b c h = subst (λ (us : List Tag). first_broken constraints s (Expression (Conditional a b c)) ≡ (if not (is_scalar (value_type a)) then Some 43 else if not (can_choose (value b) (value c)) then Some 44 else if is_open_record us (value_type b) || is_open_record us (value_type c) then Some 46 else None)) h refl

tests_none : (p q r : Bool) → ◌≡◌ {A = Option ℕ} (if not p then Some 43 else if not q then Some 44 else if r then Some 46 else None) None → q ≡ true
tests_none true true r h = refl
tests_none true false r h = cc
tests_none false q r h = cc

abbrev any_state : List Tag → State
any_state ts = record { outer = []; inner = []; links = []; symbols = []; tags = ts; count = 0 }

pub choice_takes : (ts : List Tag) (a b c : CoreTree) → ((s : State) → s.tags ≡ ts → first_broken constraints s (Expression (Conditional a b c)) ≡ None) → can_choose (value b) (value c) ≡ true
choice_takes ts a b c f = tests_none (is_scalar (value_type a)) (can_choose (value b) (value c)) (is_open_record ts (value_type b) || is_open_record ts (value_type c)) (sym (choice_tests (any_state ts) ts a b c refl) ∙ f (any_state ts) refl)

-- ---- a choice between pointers

no_void : (t u : CType) → (is_pointer t || is_pointer u) ≡ true → (is_void t && is_void u) ≡ false
no_void (Plain p (Simple Void)) (Plain q (Pointer to)) h = refl
no_void (Plain p (Simple Void)) (Plain q (Simple b)) h = absurd (true≢false (sym h))
no_void (Plain p (Simple Void)) (Plain q (Function r ps)) h = refl
no_void (Plain p (Simple Void)) (Plain q (Structure n)) h = refl
no_void (Plain p (Simple Void)) (Plain q (Union n)) h = refl
no_void (Plain p (Simple Void)) (Plain q (Enumeration n)) h = refl
no_void (Plain p (Simple Void)) (Array of n) h = refl
no_void t u h = refl

no_record : (t u : CType) → (is_pointer t || is_pointer u) ≡ true → (is_record t && alike t u) ≡ false
no_record (Plain p (Structure n)) (Plain q (Pointer to)) h = refl
no_record (Plain p (Structure n)) (Plain q (Simple b)) h = absurd (true≢false (sym h))
no_record (Plain p (Structure n)) (Plain q (Function r ps)) h = absurd (true≢false (sym h))
no_record (Plain p (Structure n)) (Plain q (Structure m)) h = absurd (true≢false (sym h))
no_record (Plain p (Structure n)) (Plain q (Union m)) h = absurd (true≢false (sym h))
no_record (Plain p (Structure n)) (Plain q (Enumeration m)) h = absurd (true≢false (sym h))
no_record (Plain p (Structure n)) (Array of m) h = absurd (true≢false (sym h))
no_record (Plain p (Union n)) (Plain q (Pointer to)) h = refl
no_record (Plain p (Union n)) (Plain q (Simple b)) h = absurd (true≢false (sym h))
no_record (Plain p (Union n)) (Plain q (Function r ps)) h = absurd (true≢false (sym h))
no_record (Plain p (Union n)) (Plain q (Structure m)) h = absurd (true≢false (sym h))
no_record (Plain p (Union n)) (Plain q (Union m)) h = absurd (true≢false (sym h))
no_record (Plain p (Union n)) (Plain q (Enumeration m)) h = absurd (true≢false (sym h))
no_record (Plain p (Union n)) (Array of m) h = absurd (true≢false (sym h))
no_record (Plain p (Simple b)) u h = refl
no_record (Plain p (Pointer to)) u h = refl
no_record (Plain p (Function r ps)) u h = refl
no_record (Plain p (Enumeration n)) u h = refl
no_record (Array of n) u h = refl

last_holds : (i r v f : Bool) → i ≡ false → r ≡ false → v ≡ false → (i || (r || (v || f))) ≡ true → f ≡ true
last_holds i r v f hi hr hv h = rw (hi, hr, hv) at h

-- pointers that are chosen fit
pub pointers_chosen : (v w : CoreTree) → can_choose v w ≡ true → are_integers (type_of v) (type_of w) ≡ false → (is_pointer (type_of v) || is_pointer (type_of w)) ≡ true → pointers_fit v w ≡ true
pointers_chosen v w h i p = last_holds (are_integers (type_of v) (type_of w)) (is_record (type_of v) && alike (type_of v) (type_of w)) (is_void (type_of v) && is_void (type_of w)) (pointers_fit v w) i (no_record (type_of v) (type_of w) p) (no_void (type_of v) (type_of w) p) h

both_point : (p q m n f : Bool) → ((p && n) || ((m && q) || ((p && q) && f))) ≡ true → (m && q) ≡ false → n ≡ false → (p ≡ true) × ((q ≡ true) × (f ≡ true))
both_point p q m true f h k l = cc
both_point true true true false f h k l = cc
both_point true true false false true h k l = (refl, (refl, refl))
both_point true true false false false h k l = cc
both_point true false true false f h k l = cc
both_point true false false false f h k l = cc
both_point false true true false f h k l = cc
both_point false true false false f h k l = cc
both_point false false true false f h k l = cc
both_point false false false false f h k l = cc

-- pointers that fit, neither of them a null pointer constant
pub pointers_both : (v w : CoreTree) → pointers_fit v w ≡ true → (is_null v && is_pointer (type_of w)) ≡ false → is_null w ≡ false → (is_pointer (type_of v) ≡ true) × ((is_pointer (type_of w) ≡ true) × (targets_fit (target (type_of v)) (target (type_of w)) ≡ true))
pointers_both v w h k l = both_point (is_pointer (type_of v)) (is_pointer (type_of w)) (is_null v) (is_null w) (targets_fit (target (type_of v)) (target (type_of w))) h k l

-- the same of values over types by their places
pub both_targets : (known : ℕ → CType) (v w : CoreOf ℕ) → pointers_fit (seen known v) (seen known w) ≡ true → (is_null (seen known v) && is_pointer (known (type_of w))) ≡ false → is_null (seen known w) ≡ false → (t u : CType) → t ≡ target (known (type_of v)) → u ≡ target (known (type_of w)) → targets_fit t u ≡ true
both_targets known (Core x a l ks) (Core y b m ls) f n z t u et eu = rw (et, eu) ((pointers_both (seen known (Core x a l ks)) (seen known (Core y b m ls)) f n z).1.1)

pub pointers_among : (known : ℕ → CType) (v w : CoreOf ℕ) → can_choose (seen known v) (seen known w) ≡ true → are_integers (known (type_of v)) (known (type_of w)) ≡ false → (is_pointer (known (type_of v)) || is_pointer (known (type_of w))) ≡ true → pointers_fit (seen known v) (seen known w) ≡ true
pointers_among known (Core x a l ks) (Core y b m ls) h i p = pointers_chosen (seen known (Core x a l ks)) (seen known (Core y b m ls)) h i p

pub first_fails : (a b : Bool) → a ≡ false → (a && b) ≡ false
first_fails a b h = rw h refl

pub second_fails : (a b : Bool) → b ≡ false → (a && b) ≡ false
second_fails true b h = h
second_fails false b h = refl

pub one_holds : (a b : Bool) → a ≡ true → (a || b) ≡ true
one_holds a b h = rw h refl

pub other_holds : (a b : Bool) → b ≡ true → (a || b) ≡ true
other_holds true b h = refl
other_holds false b h = h

first_holds : (a p q f g : Bool) → p ≡ false → q ≡ false → (a || ((p && f) || (q && g))) ≡ true → a ≡ true
first_holds true p q f g h k l = refl
first_holds false p q f g h k l = rw (h, k) at l

-- types neither of which is void fit where they are compatible
pub targets_alike : (t u : CType) → is_void t ≡ false → is_void u ≡ false → targets_fit t u ≡ true → alike t u ≡ true
targets_alike t u h k l = first_holds (alike t u) (is_void t) (is_void u) (not (is_function u)) (not (is_function t)) h k l

-- equal values are chosen alike
pub values_choose : (v w x y : CoreTree) → v ≡ x → w ≡ y → can_choose x y ≡ true → can_choose v w ≡ true
values_choose v w x y e f h = rw (e, f) h

pub values_chosen : (v w x y : CoreTree) → v ≡ x → w ≡ y → chosen_type v w ≡ chosen_type x y
values_chosen v w x y e f = rw (e, f) refl

-- ---- what the node tells

pub choice_fine : (old new : Table) → ((id : ℕ) → id < length new.forms → IsWithin (known (tags new)) (type_at new id)) → tags new ≡ tags old → (line : ℕ) (a b c : CoreTree) (of : ℕ) (u v w k : CoreOf ℕ) → ((s : State) → s.tags ≡ tags old → first_broken constraints s (Expression (Conditional a b c)) ≡ None) → seen (type_at new) u ≡ value a → IsIn (length new.forms) u → seen (type_at new) v ≡ value b → IsIn (length new.forms) v → seen (type_at new) w ≡ value c → IsIn (length new.forms) w → type_at new of ≡ chosen_type (value b) (value c) → seen (type_at new) k ≡ chosen (type_at new of) line (seen (type_at new) u) (seen (type_at new) v) (seen (type_at new) w) → IsIn (length new.forms) k → (s : State) → s.tags ≡ tags old → at_expr s line (Conditional a b c) ≡ Fine s (seen (type_at new) k)
choice_fine old new within t line a b c of u v w k unbroken eu iu ev iv ew iw eo ek ik s h =
    let g : tags new ≡ s.tags = t ∙ sym h in
    let r : CoreTree = chosen (chosen_type (value b) (value c)) line (value a) (value b) (value c) in
    let e : seen (type_at new) k ≡ r = ek ∙ rw (eo, eu, ev, ew) refl in
    let sa : IsSmall s.tags (value_type a) = subst (λ (ts : List Tag). IsSmall ts (value_type a)) g (seen_small new within u (value a) iu eu) in
    let sb : IsSmall s.tags (value_type b) = subst (λ (ts : List Tag). IsSmall ts (value_type b)) g (seen_small new within v (value b) iv ev) in
    let sc : IsSmall s.tags (value_type c) = subst (λ (ts : List Tag). IsSmall ts (value_type c)) g (seen_small new within w (value c) iw ew) in
    let sr : IsSmall s.tags (type_of r) = subst (λ (ts : List Tag). IsSmall ts (type_of r)) g (seen_small new within k r ik e) in
    node_becomes s line (Conditional a b c) (seen (type_at new) k) (unbroken s h) (sa, (sb, (sc, (sr, tt)))) (seen_shallow new within u (value a) iu eu, (seen_shallow new within v (value b) iv ev, (seen_shallow new within w (value c) iw ew, (seen_shallow new within k r ik e, tt)))) refl e

-- the type of a value or of the choice is too deep
pub choice_deep : (old : Table) → ((id : ℕ) → id < length old.forms → IsWithin (known (tags old)) (type_at old id)) → (line : ℕ) (a b c : CoreOf ℕ) → IsIn (length old.forms) a → IsIn (length old.forms) b → IsIn (length old.forms) c → ((s : State) → s.tags ≡ tags old → first_broken constraints s (Expression (Conditional (seen (type_at old) a) (seen (type_at old) b) (seen (type_at old) c))) ≡ None) → (e : CheckFault) → AreTooDeep e line (value_type (seen (type_at old) a) ∷ value_type (seen (type_at old) b) ∷ value_type (seen (type_at old) c) ∷ chosen_type (value (seen (type_at old) b)) (value (seen (type_at old) c)) ∷ []) → (s : State) → s.tags ≡ tags old → Tells e (at_expr s line (Conditional (seen (type_at old) a) (seen (type_at old) b) (seen (type_at old) c)))
choice_deep old within line a b c ia ib ic unbroken e d s h =
    let x : CoreTree = seen (type_at old) a in
    let y : CoreTree = seen (type_at old) b in
    let z : CoreTree = seen (type_at old) c in
    let sa : IsSmall s.tags (value_type x) = subst (λ (ts : List Tag). IsSmall ts (value_type x)) (sym h) (value_small (tags old) x (seen_small old within a x ia refl)) in
    let sb : IsSmall s.tags (value_type y) = subst (λ (ts : List Tag). IsSmall ts (value_type y)) (sym h) (value_small (tags old) y (seen_small old within b y ib refl)) in
    let sc : IsSmall s.tags (value_type z) = subst (λ (ts : List Tag). IsSmall ts (value_type z)) (sym h) (value_small (tags old) z (seen_small old within c z ic refl)) in
    let sr = chosen_small s.tags (value y) (value z) sb sc in
    node_deep s line (Conditional x y z) e (unbroken s h) (sa, (sb, (sc, (sr, tt)))) d

pub choice_deep_values : (old : Table) → ((id : ℕ) → id < length old.forms → IsWithin (known (tags old)) (type_at old id)) → (line : ℕ) (a b c : CoreOf ℕ) → IsIn (length old.forms) a → IsIn (length old.forms) b → IsIn (length old.forms) c → ((s : State) → s.tags ≡ tags old → first_broken constraints s (Expression (Conditional (seen (type_at old) a) (seen (type_at old) b) (seen (type_at old) c))) ≡ None) → (e : CheckFault) → AreTooDeep e line (value_type (seen (type_at old) a) ∷ value_type (seen (type_at old) b) ∷ value_type (seen (type_at old) c) ∷ []) → (s : State) → s.tags ≡ tags old → Tells e (at_expr s line (Conditional (seen (type_at old) a) (seen (type_at old) b) (seen (type_at old) c)))
choice_deep_values old within line a b c ia ib ic unbroken e d =
    let x : CoreTree = seen (type_at old) a in
    let y : CoreTree = seen (type_at old) b in
    let z : CoreTree = seen (type_at old) c in
    choice_deep old within line a b c ia ib ic unbroken e (deep_more e line (value_type x ∷ value_type y ∷ value_type z ∷ []) (chosen_type (value y) (value z) ∷ []) d)

-- the type of the choice, of values as they are formed
pub choice_deep_type : (old : Table) → ((id : ℕ) → id < length old.forms → IsWithin (known (tags old)) (type_at old id)) → (line : ℕ) (a b c : CoreOf ℕ) → IsIn (length old.forms) a → IsIn (length old.forms) b → IsIn (length old.forms) c → ((s : State) → s.tags ≡ tags old → first_broken constraints s (Expression (Conditional (seen (type_at old) a) (seen (type_at old) b) (seen (type_at old) c))) ≡ None) → (e : CheckFault) (v w : CoreTree) → v ≡ value (seen (type_at old) b) → w ≡ value (seen (type_at old) c) → IsTooDeep e line (chosen_type v w) → (s : State) → s.tags ≡ tags old → Tells e (at_expr s line (Conditional (seen (type_at old) a) (seen (type_at old) b) (seen (type_at old) c)))
choice_deep_type old within line a b c ia ib ic unbroken e v w ev ew d =
    let x : CoreTree = seen (type_at old) a in
    let y : CoreTree = seen (type_at old) b in
    let z : CoreTree = seen (type_at old) c in
    let t : CType = chosen_type (value y) (value z) in
    let d1 : IsTooDeep e line (chosen_type (value y) w) = subst (λ (r : CoreTree). IsTooDeep e line (chosen_type r w)) ev d in
    let d2 : IsTooDeep e line t = subst (λ (r : CoreTree). IsTooDeep e line (chosen_type (value y) r)) ew d1 in
    choice_deep old within line a b c ia ib ic unbroken e (deep_later e line (value_type x) (value_type y ∷ value_type z ∷ t ∷ []) (deep_later e line (value_type y) (value_type z ∷ t ∷ []) (deep_later e line (value_type z) (t ∷ []) (deep_first e line t [] d2))))
