-- Pointers moved by elements and to members.
use Rattle.std.proofs.Common.{◌≡◌, ◌<◌, ℕ, zero, suc, ◌+◌, ◌^◌, ℤ, pos, neg_ℤ, Bool, true, false, Ok, List, ap, subst, ◌∙◌, arith}
use Rattle.std.specs.Prelude.{◌*ℤ◌, if◌then◌else◌}
use Rattle.std.specs.Int.RustNames.{unsigned_abs}
use Rattle.lcc_base.specs.declared.cause.Cause.TheVariants.{Dead, PointerRange}
use Rattle.objects.specs.declared.value.Value.{Value}
use Rattle.objects.specs.declared.value.Value.TheVariants.{Number, Pointer, Function}
use Rattle.objects.specs.Arithmetic.{signed_of}
use Rattle.objects.specs.Causes.{is_dead, leaves_object}
use Rattle.objects.specs.Objects.{Object as Old}
use Rattle.objects.specs.Pointers.{moved, place_after}
use Rattle.op_forest.specs.declared.op.Op.TheVariants as op
use Rattle.op_forest.specs.declared.suffix.Suffix.TheVariants.{P}
use Rattle.forests.specs.Actions.{gave}
use Rattle.forests.proofs.lemmas.BitLaws.{signed_low}
use Rattle.forests.specs.Words.{Word, Plain, IsWord}
use Rattle.c_types.specs.CType.{CType}
use Rattle.c_meaning.specs.Scalars.{is_signed}
use Rattle.c_meaning.specs.Types.{is_pointer}
use Rattle.c_runs.specs.Expressions.{moved_by, moved_among, by_elements}
use Rattle.c_match.specs.Values.{StaysInside}
use Rattle.c_match_objects.proofs.lemmas.Pointers.{was_given, moves_on, moves_back}
use Rattle.c_rows_agree.specs.Templates.{Template, Scene, Gives}
use Rattle.c_rows_agree.specs.Typed.{Typed, Holds, as_p, over_two, constant_i}
use Rattle.c_pointers_agree.specs.Pointers as template
use Rattle.c_pointers_agree.specs.Pointers.{displaced, scaled}
use Rattle.c_pointers_agree.specs.Held.{HoldsShort}
use Rattle.c_pointers_agree.proofs.lemmas.Near.{moved_near}
use Rattle.c_pointers_agree.proofs.lemmas.Scaled.{index_is_scaled}
use Rattle.c_pointers_agree.proofs.lemmas.Signed.{counted, abs_neg}
use Rattle.c_rows_agree.proofs.lemmas.Suffixes.{p_gives, i_constant}

-- ---- by a word

-- on by as many bytes as an operand says
goes_on : (k : Scene) (old : List Old) (a : Typed) (b : Template) (p q : Value) (m : ℕ) → HoldsShort k old → Holds k a p → Gives k b (Plain (Number m)) → moved old p (signed_of m) ≡ Ok q → Holds k (record { tree = over_two op.Add P (as_p a) b; suffix = P }) q
goes_on k old a b p q m h ha g e =
    let to = moves_on k.map old k.objects p q ha.word m h.held ha.is e in
    record { word = to.0; gives = (ha.word, Plain (Number m), p_gives k a.suffix a.tree ha.word ha.gives, g, ap gave to.1); is = to.2 }

goes_back : (k : Scene) (old : List Old) (a : Typed) (b : Template) (p q : Value) (m : ℕ) → HoldsShort k old → Holds k a p → Gives k b (Plain (Number m)) → moved old p (neg_ℤ (signed_of m)) ≡ Ok q → Holds k (record { tree = over_two op.Sub P (as_p a) b; suffix = P }) q
goes_back k old a b p q m h ha g e =
    let to = moves_back k.map old k.objects p q ha.word m h.held ha.is e in
    record { word = to.0; gives = (ha.word, Plain (Number m), p_gives k a.suffix a.tree ha.word ha.gives, g, ap gave to.1); is = to.2 }

-- ---- by elements

number_moves : (k : Scene) (old : List Old) (size : ℕ) (back signed : Bool) (a b : Typed) (p q : Value) (n : ℕ) → HoldsShort k old → size < 2 ^ 32 → StaysInside p → n < 2 ^ 32 → Holds k a p → Gives k b.tree (Plain (Number n)) → moved old p (by_elements size back (counted signed n)) ≡ Ok q → Holds k (template.moved size back a b) q
number_moves k old size false signed a b p q n h small inside word ha g e =
    let z = pos size *ℤ counted signed n in
    let by = index_is_scaled k signed size n b small word g (moved_near old p q z h.short inside e) in
    goes_on k old a (scaled size b) p q by.word h ha by.gives (ap (λ (x : ℤ). moved old p x) by.is ∙ e)
number_moves k old size true signed a b p q n h small inside word ha g e =
    let z = pos size *ℤ counted signed n in
    let near : unsigned_abs z < 2 ^ 31 = subst (λ (x : ℕ). x < 2 ^ 31) (abs_neg z) (moved_near old p q (neg_ℤ z) h.short inside e) in
    let by = index_is_scaled k signed size n b small word g near in
    goes_back k old a (scaled size b) p q by.word h ha by.gives (ap (λ (x : ℤ). moved old p (neg_ℤ x)) by.is ∙ e)

pub elements_move : (k : Scene) (old : List Old) (size : ℕ) (back : Bool) (t : CType) (a b : Typed) (p n q : Value) → HoldsShort k old → size < 2 ^ 32 → StaysInside p → IsWord (Plain n) → Holds k a p → Holds k b n → moved_by size back t old p n ≡ Ok q → Holds k (template.moved size back a b) q
elements_move k old size back t a b p (Number n) q h small inside word ha hb e =
    number_moves k old size back (is_signed t) a b p q n h small inside word ha (subst (λ (x : Word). Gives k b.tree x) hb.is hb.gives) e
elements_move k old size back t a b p (Pointer name offset) q h small inside word ha hb e = absurd (let never : ⊥ = cc in never)
elements_move k old size back t a b p (Function f) q h small inside word ha hb e = absurd (let never : ⊥ = cc in never)

-- the pointer on either side
by_side : (k : Scene) (old : List Old) (size : ℕ) (back left : Bool) (t u : CType) (a b : Typed) (v w q : Value) → HoldsShort k old → size < 2 ^ 32 → StaysInside v → StaysInside w → IsWord (Plain v) → IsWord (Plain w) → Holds k a v → Holds k b w → (if left then moved_by size back u old v w else moved_by size back t old w v) ≡ Ok q → Holds k (template.moved_among size back left a b) q
by_side k old size back true t u a b v w q h small iv iw sv sw ha hb e = elements_move k old size back u a b v w q h small iv sw ha hb e
by_side k old size back false t u a b v w q h small iv iw sv sw ha hb e = elements_move k old size back t b a w v q h small iw sv hb ha e

pub either_side_moves : (k : Scene) (old : List Old) (size : ℕ) (back : Bool) (t u : CType) (a b : Typed) (v w q : Value) → HoldsShort k old → size < 2 ^ 32 → StaysInside v → StaysInside w → IsWord (Plain v) → IsWord (Plain w) → Holds k a v → Holds k b w → moved_among size back t u old v w ≡ Ok q → Holds k (template.moved_among size back (is_pointer t) a b) q
either_side_moves k old size back t u a b v w q h small iv iw sv sw ha hb e = by_side k old size back (is_pointer t) t u a b v w q h small iv iw sv sw ha hb e

-- ---- to members

pub stays_put : (old : List Old) (p q : Value) → moved old p (pos 0) ≡ Ok q → p ≡ q
stays_put old (Number n) q e = (was_given false (leaves_object (Number n) (pos 0)) Dead PointerRange (Number n) q e).value
stays_put old (Function f) q e = (was_given false (leaves_object (Function f) (pos 0)) Dead PointerRange (Function f) q e).value
stays_put old (Pointer name offset) q e =
    let p = Pointer name offset in
    let same : offset ≡ offset + 0 = omega arith in
    ap (λ (x : ℕ). Pointer name x) same ∙ (was_given (is_dead old p) (leaves_object p (pos 0)) Dead PointerRange (place_after p (pos 0)) q e).value

pub member_agrees : (k : Scene) (old : List Old) (offset : ℕ) (a : Typed) (p q : Value) → HoldsShort k old → StaysInside p → Holds k a p → moved old p (pos offset) ≡ Ok q → Holds k (displaced offset a) q
member_agrees k old zero a p q h inside ha e = subst (λ (x : Value). Holds k a x) (stays_put old p q e) ha
member_agrees k old (suc n) a p q h inside ha e =
    let near = moved_near old p q (pos (suc n)) h.short inside e in
    goes_on k old a (constant_i (suc n)) p q (suc n) h ha (i_constant k (suc n) (omega (arith, near))) (ap (λ (x : ℤ). moved old p x) (signed_low (suc n) near) ∙ e)
