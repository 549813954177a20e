-- Places in an object that C writes.
use Rattle.std.specs.Prelude.{◌≡◌, ◌≤◌, ℕ, ◌+◌, nat_lt, ℤ, pos, int_le, not, ◌&&◌, Bool, true, false, None, Ok, List, [], ◌∷◌, if◌then◌else◌}
use Rattle.std.proofs.Common.{refl, arith}
use Rattle.std.proofs.lemmas.Int.{ints}
use Rattle.lcc_base.specs.declared.cause.Cause.TheVariants.{Outside, Misaligned, Dead, ReadOnly, PointerRange, PointerNumber}
use Rattle.lcc_base.specs.declared.order.Order.{Order}
use Rattle.objects.specs.declared.purpose.Purpose.{Purpose}
use Rattle.objects.specs.declared.purpose.Purpose.TheVariants.{Initialisation}
use Rattle.objects.specs.declared.value.Value.{Value}
use Rattle.objects.specs.declared.value.Value.TheVariants.{Number, Pointer, Function}
use Rattle.objects.specs.Accesses.{write_cause, written, field_written}
use Rattle.objects.proofs.lemmas.AccessLaws.{unless_none, first_not, first_rest}
use Rattle.objects.specs.Causes.{first_cause, unless, is_no_number, is_narrowed, leaves_object, is_outside, is_misaligned, is_dead, is_refused}
use Rattle.objects.specs.Objects.{Object as Old}
use Rattle.objects.specs.Pointers.{place_after, moved}
use Rattle.forests.specs.Objects.{Object}
use Rattle.forests.specs.Words.{Word}
use Rattle.objects.specs.Values.{bytes_in}
use Rattle.c_meaning.specs.Scalars.{scalar_of}
use Rattle.c_runs.specs.Places.{Spot, is_field, field_of, stored, assigned, size_of, align_of}
use Rattle.c_match.specs.Held.{IsOpenTo}
use Rattle.c_match.specs.Ranges.{Map}
use Rattle.c_match.specs.Values.{IsValue}
use Rattle.c_straight_agree.specs.Layouts.{IsOpenAt}
use Rattle.c_straight_agree.proofs.lemmas.Copying.{target_written}
use Rattle.c_straight_agree.proofs.lemmas.Opens.{open_by}
use Rattle.c_straight_agree.proofs.lemmas.Reading.{if_none_is}
use Rattle.c_types.specs.CType.{CType}
use Rattle.c_types.specs.Layout.{Tag}

-- a place in an object may be initialised where the object may be written
pub open_place : (map : Map) (objects : List Object) (v : Value) (u : Word) (by : ℤ) → IsValue map v u → IsOpenAt objects u → IsOpenTo Initialisation map objects (place_after v by)
open_place map objects (Number n) u by is opens = tt
open_place map objects (Pointer object offset) u by is opens = open_by map objects (Pointer object offset) u is opens
open_place map objects (Function f) u by is opens = tt

-- what is written there is in the object
in_object : (size offset by bytes : ℕ) → nat_lt size (offset + by + bytes) ≡ false → offset + by ≤ size
in_object size offset by bytes e = grind (arith, e)

stays_in : (n size : ℕ) → n ≤ size → not (int_le (pos 0) (pos n) && int_le (pos n) (pos size)) ≡ false
stays_in n size le = grind (arith, ints, le)

free : (dead leaves : Bool) (v : Value) → dead ≡ false → leaves ≡ false → unless (first_cause ((dead, Dead) ∷ (leaves, PointerRange) ∷ [])) v ≡ Ok v
free true leaves v e f = absurd (let never : ⊥ = cc in never)
free false true v e f = absurd (let never : ⊥ = cc in never)
free false false v e f = refl

pub written_is_moved : (purpose : Purpose) (os : List Old) (v : Value) (by size align : ℕ) → write_cause purpose os (place_after v (pos by)) size align ≡ None → moved os v (pos by) ≡ Ok (place_after v (pos by))
written_is_moved purpose os (Pointer object offset) by size align e =
    let p = place_after (Pointer object offset) (pos by) in
    let last = (is_refused purpose os p, ReadOnly) ∷ [] in
    let third = (is_dead os p, Dead) ∷ last in
    let second = (is_misaligned align p, Misaligned) ∷ third in
    let outside = first_not (is_outside size p) Outside second e in
    let e1 = first_rest (is_outside size p) Outside second e in
    let dead = first_not (is_dead os p) Dead last (first_rest (is_misaligned align p) Misaligned third e1) in
    let le = in_object object.size offset by size outside in
    free (is_dead os p) (leaves_object (Pointer object offset) (pos by)) p dead (stays_in (offset + by) object.size le)
written_is_moved purpose os (Number n) by size align e = absurd (let never : ⊥ = cc in never)
written_is_moved purpose os (Function f) by size align e = absurd (let never : ⊥ = cc in never)

-- of a structure
pub assigned_is_moved : (purpose : Purpose) (tags : List Tag) (of : CType) (v : Value) (os : List Old) (b : Value) (by : ℕ) (new : List Old) → assigned purpose tags of os v (place_after b (pos by)) ≡ Ok new → moved os b (pos by) ≡ Ok (place_after b (pos by))
assigned_is_moved purpose tags of v os b by new is = written_is_moved purpose os b by (size_of tags of) (align_of tags of) (target_written purpose os new v (place_after b (pos by)) (size_of tags of) (align_of tags of) is)

-- of a scalar or a bit-field
pub stored_is_moved : (purpose : Purpose) (order : Order) (x : Spot) (v : Value) (os : List Old) (b : Value) (by : ℕ) (new : List Old) → stored purpose order x v os (place_after b (pos by)) ≡ Ok new → moved os b (pos by) ≡ Ok (place_after b (pos by))
stored_is_moved purpose order x v os b by new is = so (is_field x) is
  where
    so : (t : Bool) → (if t then field_written purpose order (field_of x) v os (place_after b (pos by)) else written purpose order (scalar_of x.of).width v os (place_after b (pos by))) ≡ Ok new → moved os b (pos by) ≡ Ok (place_after b (pos by))
    so true e = written_is_moved purpose os b by 4 4 (unless_none (write_cause purpose os (place_after b (pos by)) 4 4) _ new (if_none_is (first_cause ((is_no_number v, PointerNumber) ∷ [])) _ new e).1)
    so false e =
        let size = bytes_in (scalar_of x.of).width in
        written_is_moved purpose os b by size size (unless_none (write_cause purpose os (place_after b (pos by)) size size) _ new (if_none_is (first_cause ((is_narrowed (scalar_of x.of).width v, PointerNumber) ∷ [])) _ new e).1)
