-- Pointers into an array of two ints, whose home has four bytes before it and four behind; a function; and what is refused.
use Rattle.std.specs.Prelude.{◌≡◌, ◌<◌, ℕ, zero, suc, ◌+◌, ◌^◌, pos, negsuc, true, false, Option, Some, None, Ok, Err, List, [], ◌∷◌, length, slice_get}
use Rattle.std.specs.Int.{int_wrap}
use Rattle.std.proofs.Common.{refl, subst, arith}
use Rattle.lcc_base.specs.declared.cause.Cause.TheVariants.{PointerRange, PointerOrder}
use Rattle.lcc_base.specs.declared.order.Order.TheVariants.{Big}
use Rattle.objects.specs.declared.operators.Comparison.TheVariants as comparison
use Rattle.objects.specs.declared.value.ObjectName.{ObjectName}
use Rattle.objects.specs.declared.value.Value.{Value}
use Rattle.objects.specs.declared.value.Value.TheVariants.{Number, Pointer, Function}
use Rattle.objects.specs.Arithmetic.{signed_of}
use Rattle.objects.specs.Bytes.{known_bytes}
use Rattle.objects.specs.Objects.{Object as Old}
use Rattle.objects.specs.Pointers.{subtracted}
use Rattle.op_forest.specs.declared.suffix.Suffix.TheVariants.{I, U, P}
use Rattle.forests.specs.Actions.{Moved}
use Rattle.forests.specs.Addresses.{Environment}
use Rattle.forests.specs.Numbers.{moved_on}
use Rattle.forests.specs.Objects.{Object}
use Rattle.forests.specs.Words.{Word, Plain}
use Rattle.forests.specs.Worlds.{Next, To}
use Rattle.c_types.specs.CType.{Int, Unsigned, basic}
use Rattle.c_runs.specs.Expressions.{moved_by}
use Rattle.c_match.specs.Ranges.{Range, Map}
use Rattle.c_match.specs.Held.{IsHeld}
use Rattle.c_rows_agree.specs.Templates.{Given, Scene, Gives, Acts}
use Rattle.c_rows_agree.specs.Typed.{Typed, Holds}
use Rattle.c_pointers_agree.specs.Pointers as template
use Rattle.c_pointers_agree.specs.Pointers.{Scaling, Single, Shifted, Multiplied, scaling_of, displaced, name, local, difference}
use Rattle.c_rows_agree.specs.Integers.{compared, tested}
use Rattle.c_pointers_agree.specs.Held.{AreShort, HoldsShort}
use Rattle.c_pointers_agree.proofs.lemmas.Moves.{elements_move}

-- ---- which operator

of_one : scaling_of 1 ≡ Single
of_one = refl

of_four : scaling_of 4 ≡ Shifted 2
of_four = refl

of_twelve : scaling_of 12 ≡ Multiplied 12
of_twelve = refl

of_the_greatest_power : scaling_of 2147483648 ≡ Shifted 31
of_the_greatest_power = refl

-- ---- the scene

abbrev ints : ObjectName
ints = record { place = 0; made = 0; size = 8 }

abbrev home_name : ObjectName
home_name = record { place = 0; made = 0; size = 16 }

abbrev object : Old
object = record { made = 0; constant = false; bytes = known_bytes (0 ∷ 0 ∷ 0 ∷ 1 ∷ 0 ∷ 0 ∷ 0 ∷ 2 ∷ []) }

abbrev home : Object
home = record { made = 0; constant = false; bytes = known_bytes (9 ∷ 9 ∷ 9 ∷ 9 ∷ 0 ∷ 0 ∷ 0 ∷ 1 ∷ 0 ∷ 0 ∷ 0 ∷ 2 ∷ 9 ∷ 9 ∷ 9 ∷ 9 ∷ []) }

abbrev range : Range
range = record { object = home_name; start = 4 }

abbrev places : Map
places zero = Some range
places (suc m) = None

-- two names: one of the home's start, one of a function
abbrev global : ℕ → Option Value
global zero = Some (Pointer home_name 0)
global (suc zero) = Some (Function 1)
global (suc (suc n)) = None

abbrev environment : Environment
environment = record { global = global; order = Big; home = record { function = 1; place = 0; made = 0; slots = record { offset = negsuc 15; size = 16 } ∷ []; words = 0 } }

-- the first element, the second one, 1, -1 and the function
abbrev values : List Word
values = Plain (Pointer home_name 4) ∷ Plain (Pointer home_name 8) ∷ Plain (Number 1) ∷ Plain (Number 4294967295) ∷ Plain (Function 1) ∷ []

abbrev value_at : Option Word → Word
value_at None = Plain (Number 0)
value_at (Some w) = w

abbrev scene : Scene
scene = record { map = places; environment = environment; objects = home ∷ []; values = λ n. value_at (slice_get values n) }

abbrev first : Typed
first = record { tree = Given 0; suffix = P }

abbrev second : Typed
second = record { tree = Given 1; suffix = P }

abbrev one : Typed
one = record { tree = Given 2; suffix = I }

abbrev minus_one : Typed
minus_one = record { tree = Given 3; suffix = U }

first_holds : Holds scene first (Pointer ints 0)
first_holds = record { word = Plain (Pointer home_name 4); gives = refl; is = (range, refl, refl) }

one_holds : Holds scene one (Number 1)
one_holds = record { word = Plain (Number 1); gives = refl; is = refl }

object_held : IsHeld places object (home ∷ [])
object_held = record {
  range = range;
  is = refl;
  held = record {
    home = home;
    there = refl;
    made = refl;
    size = refl;
    words = 1;
    start = refl;
    inside = omega arith;
    bytes = ((refl, refl), ((refl, refl), ((refl, refl), ((refl, refl), ((refl, refl), ((refl, refl), ((refl, refl), ((refl, refl), tt))))))));
    writable = λ e. refl;
  };
}

each_held : (p : ℕ) (x : Old) → slice_get (object ∷ []) p ≡ Some x → IsHeld places x (home ∷ [])
each_held zero x e = let same : object ≡ x = cc in subst (λ (y : Old). IsHeld places y (home ∷ [])) same object_held
each_held (suc p) x e = absurd (let never : ⊥ = cc in never)

only_one : (p q : ℕ) (x y : Old) → slice_get (object ∷ []) p ≡ Some x → slice_get (object ∷ []) q ≡ Some y → p ≡ q
only_one zero zero x y e f = refl
only_one (suc p) q x y e f = absurd (let never : ⊥ = cc in never)
only_one zero (suc q) x y e f = absurd (let never : ⊥ = cc in never)

short : AreShort (object ∷ [])
short zero x e = let same : object ≡ x = cc in subst (λ (y : Old). length y.bytes < 2 ^ 31) same (omega arith)
short (suc p) x e = absurd (let never : ⊥ = cc in never)

held : HoldsShort scene (object ∷ [])
held = record { held = record { held = each_held; apart = λ p q x y r s e f ne i j same. absurd (ne (only_one p q x y e f)) }; short = short }

-- ---- moves

-- p + 1, by the law
second_element : Holds scene (template.moved 4 false first one) (Pointer ints 4)
second_element = elements_move scene (object ∷ []) 4 false (basic Int) first one (Pointer ints 0) (Number 1) (Pointer ints 4) held (omega arith) (omega arith) (omega arith) first_holds one_holds refl

-- q + -1, where -1 is 2^32 - 1 as an int, is p: by its operators one behind the other
first_again : Gives scene (template.moved 4 false second minus_one).tree (Plain (Pointer home_name 4))
first_again = (Plain (Pointer home_name 8), Plain (Number 4294967292), refl, (Plain (Number 4294967295), Plain (Number 2), (Plain (Number 4294967295), refl, refl), refl, refl), refl)

-- and q - 1
back_again : Gives scene (template.moved 4 true second one).tree (Plain (Pointer home_name 4))
back_again = (Plain (Pointer home_name 8), Plain (Number 4), refl, (Plain (Number 1), Plain (Number 2), refl, refl, refl), refl)

-- one past the end is a place in the home, and still C's
past_the_end : moved_by 4 false (basic Int) (object ∷ []) (Pointer ints 4) (Number 1) ≡ Ok (Pointer ints 8)
past_the_end = refl

past_the_end_there : Gives scene (template.moved 4 false second one).tree (Plain (Pointer home_name 12))
past_the_end_there = (Plain (Pointer home_name 8), Plain (Number 4), refl, (Plain (Number 1), Plain (Number 2), refl, refl, refl), refl)

-- of a place further away C says nothing, and forests are stuck only past the home
two_past : moved_by 8 false (basic Int) (object ∷ []) (Pointer ints 4) (Number 1) ≡ Err PointerRange
two_past = refl

past_the_home : moved_on (home ∷ []) (Plain (Pointer home_name 8)) (Plain (Number 12)) ≡ None
past_the_home = refl

-- an unsigned -1 counts up
unsigned_index : moved_by 4 false (basic Unsigned) (object ∷ []) (Pointer ints 4) (Number 4294967295) ≡ Err PointerRange
unsigned_index = refl

-- a member, and one at the start, which is the place itself
member : Gives scene (displaced 4 first).tree (Plain (Pointer home_name 8))
member = (Plain (Pointer home_name 4), Plain (Number 4), refl, refl, refl)

first_member : displaced 0 first ≡ first
first_member = refl

-- the same places by a name, and by the slot of the frame
by_name : Gives scene (name 0 (pos 8)).tree (Plain (Pointer home_name 8))
by_name = refl

by_slot : Gives scene (local (negsuc 7)).tree (Plain (Pointer home_name 8))
by_slot = refl

function_by_name : Gives scene (name 1 (pos 0)).tree (Plain (Function 1))
function_by_name = refl

-- ---- differences

two_elements : Gives scene (difference 4 second first).tree (Plain (Number 1))
unfolding int_wrap
two_elements = (Plain (Number 4), Plain (Number 4), (Plain (Number 4), (Plain (Pointer home_name 8), Plain (Pointer home_name 4), (Plain (Pointer home_name 8), refl, refl), (Plain (Pointer home_name 4), refl, refl), refl), refl), refl, refl)

-- -1 is a word too, and so is a difference in bytes
turned : Gives scene (difference 4 first second).tree (Plain (Number 4294967295))
unfolding int_wrap
turned = (Plain (Number 4294967292), Plain (Number 4), (Plain (Number 4294967292), (Plain (Pointer home_name 4), Plain (Pointer home_name 8), (Plain (Pointer home_name 4), refl, refl), (Plain (Pointer home_name 8), refl, refl), refl), refl), refl, refl)

in_bytes : Gives scene (difference 1 second first).tree (Plain (Number 4))
unfolding int_wrap
in_bytes = (Plain (Pointer home_name 8), Plain (Pointer home_name 4), (Plain (Pointer home_name 8), refl, refl), (Plain (Pointer home_name 4), refl, refl), refl)

-- no elements of 3 bytes lie there
of_no_size : subtracted (object ∷ []) 3 (Pointer ints 4) (Pointer ints 0) ≡ Err PointerOrder
of_no_size = refl

-- ---- comparisons

before : Acts scene (compared comparison.Less false true 7 first second) (Moved (To 7))
before = record { first = Plain (Pointer home_name 4); second = Plain (Pointer home_name 8); left = (Plain (Pointer home_name 4), refl, refl); right = (Plain (Pointer home_name 8), refl, refl); does = refl }

-- a jump where it doesn't hold isn't taken
not_taken : Acts scene (compared comparison.Less false false 7 first second) (Moved Next)
not_taken = record { first = Plain (Pointer home_name 4); second = Plain (Pointer home_name 8); left = (Plain (Pointer home_name 4), refl, refl); right = (Plain (Pointer home_name 8), refl, refl); does = refl }

no_null : Acts scene (tested true 7 first) (Moved (To 7))
no_null = record { first = Plain (Pointer home_name 4); second = Plain (Number 0); left = (Plain (Pointer home_name 4), (Plain (Pointer home_name 4), refl, refl), refl); right = refl; does = refl }

-- ---- what is refused

-- an object of 2^31 bytes: no signed word says how far its end is
too_long : (x : Old) → length x.bytes ≡ 2 ^ 31 → AreShort (x ∷ []) → ⊥
too_long x e h = let f = h 0 x refl in let never : ⊥ = omega (arith, e, f) in never

the_way_there : signed_of 2147483648 ≡ negsuc 2147483647
the_way_there = refl

-- another place
elsewhere : Gives scene first.tree (Plain (Pointer home_name 8)) → ⊥
elsewhere e = let never : ⊥ = cc in never

-- the template of another pointer
other_pointer : Holds scene first (Pointer ints 4) → ⊥
other_pointer h =
    let w : h.word ≡ Plain (Pointer home_name 4) = (let g = h.gives in cc) in
    let r : h.is.0 ≡ range = (let e = h.is.1 in cc) in
    let e : Plain (Pointer home_name 4) ≡ Plain (Pointer home_name 8) = (let f = h.is.2 in let g : h.word ≡ Plain (Pointer h.is.0.object (h.is.0.start + 4)) = f in cc) in
    let never : ⊥ = cc in never
