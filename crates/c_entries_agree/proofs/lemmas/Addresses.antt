-- The addresses of places in a frame.
use Rattle.std.specs.Prelude.{◌≡◌, ◌≤◌, ◌<◌, ℕ, zero, suc, ◌+◌, ◌*◌, ℤ, pos, negsuc, ◌+ℤ◌, nat_lt, ◌&&◌, Bool, true, false, Option, Some, None, List, [], ◌∷◌, ◌++◌, length, take, drop, slice_get}
use Rattle.std.proofs.Common.{refl, sym, ap, subst, ◌∙◌, arith}
use Rattle.std.proofs.lemmas.Int.{ints}
use Rattle.std.proofs.lemmas.Option.{same_Some}
use Rattle.lcc_base.specs.declared.order.Order.TheVariants.{Little}
use Rattle.objects.specs.declared.value.ObjectName.{ObjectName}
use Rattle.objects.specs.declared.value.Value.TheVariants.{Pointer}
use Rattle.op_forest.specs.Frames.{IsFrame}
use Rattle.forests.specs.Actions.{Gave, gave}
use Rattle.forests.specs.Addresses.{Home, local, parameter}
use Rattle.forests.specs.Words.{Word, Plain, unknown}
use Rattle.c_types.specs.CType.{CType}
use Rattle.c_types.specs.Layout.{Tag}
use Rattle.c_meaning.specs.Types.{is_record}
use Rattle.c_meaning.specs.Units.{FunctionTree}
use Rattle.c_runs.specs.Calls.{own_parameters}
use Rattle.c_match.specs.Ranges.{Range}
use Rattle.c_rows_agree.specs.Templates.{Scene}
use Rattle.c_pointers_agree.specs.Pointers.{argument_name, slot_name}
use Rattle.c_pointers_agree.proofs.lemmas.Slots.{slot_gives, argument_stands}
use Rattle.lowered_statements.specs.Layouts.{is_narrow, first_word}
use Rattle.c_straight_agree.specs.Layouts.{address_of}
use Rattle.c_entries_agree.specs.Standpoints.{Standpoint, InSlot, InWord, AsPassed, parameter_stands, slot_behind, slot_behind_all, parameters_stand, others_stand, standpoints, local_address, local_addresses}
use Rattle.c_entries_agree.proofs.lemmas.Places.{IsSlotOf}

gave_some : (o : Option Word) (w : Word) → gave o ≡ Gave w → o ≡ Some w
gave_some None w e = absurd (let never : ⊥ = cc in never)
gave_some (Some v) w e = cc

-- any scene with this home
abbrev at_home : Home → Scene
at_home home = record {
  map = λ m. Some (record { object = record { place = home.place + length home.slots + m; made = home.made + length home.slots + m; size = 4 }; start = 0 });
  environment = record { global = λ n. None; order = Little; home = home };
  objects = [];
  values = λ n. unknown;
}

pub slot_address : (home : Home) → IsFrame home.slots → (n size : ℕ) (z : ℤ) (p : IsSlotOf home.slots n size z) → address_of home z ≡ Some (Plain (Pointer (slot_name home n p.slot) 0))
slot_address home frame n size z p =
    let some = p.some in
    let fits = p.fits in
    let at : p.slot.offset +ℤ pos 0 ≡ negsuc p.below = (let is = sym p.is ∙ p.low in omega (arith, ints, is)) in
    ap (address_of home) p.low
    ∙ ap (λ (y : ℤ). local home (Some y)) (sym at)
    ∙ gave_some (local home (Some (p.slot.offset +ℤ pos 0))) (Plain (Pointer (slot_name home n p.slot) 0)) (slot_gives (at_home home) n p.slot 0 frame p.there (omega (arith, some, fits)))

pub word_address : (home : Home) (n : ℕ) → n < home.words → address_of home (pos (4 * n)) ≡ Some (Plain (Pointer (argument_name home n) 0))
word_address home n lt =
    let name : ObjectName = record { place = n; made = n; size = 4 } in
    let h = argument_stands (at_home home) n (Pointer name 0) lt (record { object = argument_name home n; start = 0 }, refl, refl) in
    let own : Range = record { object = argument_name home n; start = 0 } in
    let same : own ≡ h.is.0 = same_Some own h.is.0 h.is.1 in
    let word : h.word ≡ Plain (Pointer (argument_name home n) 0) = h.is.2 ∙ ap (λ (r : Range). Plain (Pointer r.object (r.start + 0))) (sym same) in
    gave_some (parameter home (Some (pos (4 * n)))) h.word h.gives ∙ ap (λ (v : Word). Some v) word

-- ---- of locals

pub one_address : (home : Home) (words : List Word) (hs : List Standpoint) (zs : List ℤ) (n : ℕ) (h : Standpoint) (z : ℤ) → slice_get hs n ≡ Some h → slice_get zs n ≡ Some z → slice_get (local_addresses home words hs zs) n ≡ Some (local_address home words h z)
one_address home words [] zs n h z e f = absurd (let never : ⊥ = cc in never)
one_address home words (g ∷ hs) [] n h z e f = absurd (let never : ⊥ = cc in never)
one_address home words (g ∷ hs) (y ∷ zs) zero h z e f =
    let one : g ≡ h = cc in
    let two : y ≡ z = cc in
    ap (λ (i : Standpoint). Some (local_address home words i y)) one ∙ ap (λ (x : ℤ). Some (local_address home words h x)) two
one_address home words (g ∷ hs) (y ∷ zs) (suc n) h z e f = one_address home words hs zs n h z e f

-- ---- which are passed by their addresses

abbrev pub is_passed : Standpoint → Bool
is_passed (InSlot n) = false
is_passed (InWord n) = false
is_passed (AsPassed n) = true

passed_by : (whole narrow : Bool) (slot word : ℕ) → is_passed (parameter_stands whole narrow slot word) ≡ whole
passed_by true narrow slot word = refl
passed_by false true slot word = refl
passed_by false false slot word = refl

others_passed : (slot : ℕ) (ts : List CType) (n : ℕ) (h : Standpoint) → slice_get (others_stand slot ts) n ≡ Some h → is_passed h ≡ false
others_passed slot [] n h e = absurd (let never : ⊥ = cc in never)
others_passed slot (t ∷ ts) zero h e = let same : InSlot slot ≡ h = cc in ap is_passed (sym same)
others_passed slot (t ∷ ts) (suc n) h e = others_passed (suc slot) ts n h e

no_less : (n : ℕ) → nat_lt n 0 ≡ false
no_less n = grind arith

some_more : (p : ℕ) → nat_lt 0 (suc p) ≡ true
some_more p = grind arith

both_more : (n p : ℕ) → nat_lt (suc n) (suc p) ≡ nat_lt n p
both_more n p = grind arith

passed_is : (tags : List Tag) (slot word next p : ℕ) (ts : List CType) (n : ℕ) (t : CType) (h : Standpoint) → slice_get ts n ≡ Some t → slice_get (parameters_stand tags slot word (take p ts) ++ others_stand next (drop p ts)) n ≡ Some h
    → is_passed h ≡ (nat_lt n p && is_record t)
passed_is tags slot word next zero ts n t h e f = others_passed next ts n h f ∙ ap (λ (b : Bool). b && is_record t) (sym (no_less n))
passed_is tags slot word next (suc p) [] n t h e f = absurd (let never : ⊥ = cc in never)
passed_is tags slot word next (suc p) (s ∷ ts) zero t h e f =
    let one : s ≡ t = cc in
    let two : parameter_stands (is_record s) (is_narrow tags s) slot word ≡ h = cc in
    ap is_passed (sym two) ∙ passed_by (is_record s) (is_narrow tags s) slot word ∙ ap is_record one ∙ ap (λ (b : Bool). b && is_record t) (sym (some_more p))
passed_is tags slot word next (suc p) (s ∷ ts) (suc n) t h e f =
    passed_is tags (slot_behind (is_narrow tags s) slot) (suc word) next p ts n t h e f ∙ ap (λ (b : Bool). b && is_record t) (sym (both_more n p))

pub standpoint_passed : (tags : List Tag) (f : FunctionTree) (n : ℕ) (t : CType) (h : Standpoint) → slice_get f.locals n ≡ Some t → slice_get (standpoints tags f) n ≡ Some h → is_passed h ≡ (nat_lt n f.parameters && is_record t)
standpoint_passed tags f n t h e g = passed_is tags 0 (first_word f) (slot_behind_all tags 0 (own_parameters f)) f.parameters f.locals n t h e g
