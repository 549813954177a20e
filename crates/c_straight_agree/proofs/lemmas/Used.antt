-- Parts of checked expressions whose values are used.
use Rattle.std.specs.Prelude.{◌≡◌, ◌⊎◌, ℕ, ◌||◌, ◌&&◌, not, Bool, true, false, List}
use Rattle.std.proofs.Common.{inl, inr, ⊎_elim, true≢false, refl, sym, ap, ◌∙◌}
use Rattle.c_types.specs.CType.{CType, Plain, Array, Kind, Simple, Void, CTypes, NoType, And, Parameters, Open, Listed, unqualified}
use Rattle.c_types.specs.Conversions.{is_integer}
use Rattle.c_types.specs.Layout.{Tag}
use Rattle.objects.specs.Arithmetic.{is_shift}
use Rattle.c_meaning.specs.declared.core_expr.Change.{Change}
use Rattle.c_meaning.specs.declared.core_expr.Change.TheVariants as change
use Rattle.c_meaning.specs.declared.core_expr.Conversion.TheVariants as to
use Rattle.c_meaning.specs.declared.core_expr.CoreKind.{CoreKind}
use Rattle.c_meaning.specs.declared.core_expr.CoreKind.TheVariants as kind
use Rattle.c_meaning.specs.CoreTrees.{Core, NoCore, Cores, type_of}
use Rattle.c_meaning.specs.Fits.{is_whole, IsRow, IsPromoted, IsScalar, AreOperands, AreCompared, AreMoved, IsChanged, AreOpen, AreListed, AreArguments}
use Rattle.c_meaning.specs.Rows.{last_type, parameters_type}
use Rattle.c_meaning.specs.Scalars.{conversion_to}
use Rattle.c_meaning.specs.Types.{is_void, is_void_kind, is_pointer, is_function, is_record, is_scalar, has_size, target}
use Rattle.c_meaning.specs.Values.{CoreTree, CoreTrees, is_lvalue, is_bit_field}
use Rattle.c_straight_agree.specs.Parts.{is_unused, EachTree}

-- ---- types that aren't void

void_unqualified : (t : CType) → is_void (unqualified t) ≡ is_void t
void_unqualified (Plain q k) = refl
void_unqualified (Array of n) = refl

-- nor is one of the same type but for qualifiers
pub not_void_as : (t of : CType) → unqualified t ≡ of → is_void of ≡ false → is_void t ≡ false
not_void_as t of e valued = sym (void_unqualified t) ∙ ap is_void e ∙ valued

pub valued_alike : (t of : CType) → unqualified t ≡ unqualified of → is_void of ≡ false → is_void t ≡ false
valued_alike t of e valued = sym (void_unqualified t) ∙ ap is_void e ∙ void_unqualified of ∙ valued

scalar_valued : (t : CType) → is_scalar t ≡ true → is_void t ≡ false
scalar_valued (Plain q (Simple Void)) e = absurd (true≢false (sym e))
scalar_valued (Plain q k) e = refl
scalar_valued (Array of n) e = refl

pointer_valued : (t : CType) → is_pointer t ≡ true → is_void t ≡ false
pointer_valued (Plain q (Simple Void)) e = absurd (true≢false (sym e))
pointer_valued (Plain q k) e = refl
pointer_valued (Array of n) e = refl

function_valued : (t : CType) → is_function t ≡ true → is_void t ≡ false
function_valued (Plain q (Simple Void)) e = absurd (true≢false (sym e))
function_valued (Plain q k) e = refl
function_valued (Array of n) e = refl

record_valued : (t : CType) → is_record t ≡ true → is_void t ≡ false
record_valued (Plain q (Simple Void)) e = absurd (true≢false (sym e))
record_valued (Plain q k) e = refl
record_valued (Array of n) e = refl

or_true : (a b : Bool) → (a || b) ≡ true → (a ≡ true) ⊎ (b ≡ true)
or_true true b e = inl refl
or_true false b e = inr e

and_first : (a b : Bool) → (a && b) ≡ true → a ≡ true
and_first true b e = refl
and_first false b e = absurd (true≢false (sym e))

or_left : (a b : Bool) → a ≡ true → (a || b) ≡ true
or_left true b e = refl
or_left false b e = absurd (true≢false (sym e))

pub whole_valued : (tags : List Tag) (t : CType) → is_whole tags t ≡ true → is_void t ≡ false
whole_valued tags t e = ⊎_elim (λ h. scalar_valued t h) (λ h. record_valued t (and_first (is_record t) (has_size tags t) h)) (or_true (is_scalar t) (is_record t && has_size tags t) e)

pub promoted_valued : (t : CType) → IsPromoted t → is_void t ≡ false
promoted_valued t h = scalar_valued t (or_left (is_integer t) (is_pointer t) h.0)

same_valued : (t of : CType) → t ≡ of → is_void of ≡ false → is_void t ≡ false
same_valued t of e h = ap is_void e ∙ h

-- ---- expressions

-- one that isn't void is used
pub valued_is_used : (e : CoreTree) → is_void (type_of e) ≡ false → is_unused e ≡ false
valued_is_used e h = ap (λ (b : Bool). b && not (is_lvalue e)) h

never_both : (a b : Bool) → b ≡ true → (a && not b) ≡ false
never_both true true e = refl
never_both true false e = absurd (true≢false (sym e))
never_both false b e = refl

-- so is a place
lvalue_is_used : (e : CoreTree) → is_lvalue e ≡ true → is_unused e ≡ false
lvalue_is_used e h = never_both (is_void (type_of e)) (is_lvalue e) h

pub scalar_is_used : (e : CoreTree) → IsScalar (type_of e) → is_unused e ≡ false
scalar_is_used e h = valued_is_used e (scalar_valued (type_of e) h)

-- and one of type void that isn't a place isn't
pub unused_is_void : (e : CoreTree) → is_lvalue e ≡ false → is_unused e ≡ false → is_void (type_of e) ≡ false
unused_is_void e no_place used = by (is_void (type_of e)) (is_lvalue e) no_place used
  where
    by : (a b : Bool) → b ≡ false → (a && not b) ≡ false → a ≡ false
    by true false e f = absurd (true≢false f)
    by true true e f = absurd (true≢false e)
    by false b e f = refl

-- ---- parts

abbrev pub AreUsed : CoreTrees → Type 0
AreUsed kids = EachTree (λ e. is_unused e ≡ false) kids

-- the last of the parts of a comma
abbrev pub EachLast : (CoreTree → Type 0) → CoreTree → CoreTrees → Type 0
EachLast Is a NoCore = Is a
EachLast Is a (Cores b cs) = EachLast Is b cs

-- kinds that use the values of all their parts
abbrev pub uses_parts : CoreKind → Bool
uses_parts (kind.Convert to.Void) = false
uses_parts kind.Conditional = false
uses_parts kind.Comma = false
uses_parts what = true

void_conversion : (t : CType) → is_void t ≡ true → conversion_to t ≡ to.Void
void_conversion (Plain q (Simple Void)) e = refl
void_conversion (Plain q k) e = absurd (true≢false (sym e))
void_conversion (Array of n) e = absurd (true≢false (sym e))

operands_valued : (b : Bool) (of t u : CType) → AreOperands b of t u → (is_void t ≡ false) × (is_void u ≡ false)
operands_valued true of t u h = (same_valued t of h.1.0 (promoted_valued of h.0), promoted_valued u h.1.1)
operands_valued false of t u h = (same_valued t of h.1.0 (promoted_valued of h.0), same_valued u of h.1.1 (promoted_valued of h.0))

compared_valued : (signed : Bool) (t u : CType) → AreCompared signed t u → (is_void t ≡ false) × (is_void u ≡ false)
compared_valued signed t u (inl h) = (promoted_valued t h.0, same_valued u t (sym h.1.0) (promoted_valued t h.0))
compared_valued signed t u (inr h) = (pointer_valued t h.0, pointer_valued u h.1)

moved_valued : (tags : List Tag) (size : ℕ) (back : Bool) (of t u : CType) → AreMoved tags size back of t u → (is_void t ≡ false) × (is_void u ≡ false)
moved_valued tags size back of t u h = by h.1.1
  where
    pointer : is_void of ≡ false
    pointer = pointer_valued of h.0

    by : ((t ≡ of) × IsPromoted u) ⊎ ((back ≡ false) × ((u ≡ of) × IsPromoted t)) → (is_void t ≡ false) × (is_void u ≡ false)
    by (inl g) = (same_valued t of g.0 pointer, promoted_valued u g.1)
    by (inr g) = (promoted_valued t g.1.1, same_valued u of g.1.0 pointer)

changed_valued : (tags : List Tag) (by : Change) (a : CoreTree) (u : CType) → IsChanged tags by a u → is_void u ≡ false
changed_valued tags (change.Arithmetic op signed) a u h = promoted_valued u h.1.0
changed_valued tags (change.Pointer size back) a u h = promoted_valued u h.1.1

open_used : (tags : List Tag) (vs : CoreTrees) → AreOpen tags vs → AreUsed vs
open_used tags NoCore h = tt
open_used tags (Cores v vs) h = (valued_is_used v (whole_valued tags (type_of v) h.0), open_used tags vs h.1.1)

listed_used : (tags : List Tag) (ps : CTypes) (more : Bool) (vs : CoreTrees) → AreListed tags ps more vs → AreUsed vs
listed_used tags NoType more NoCore h = tt
listed_used tags NoType more (Cores v vs) h = open_used tags (Cores v vs) h.1
listed_used tags (And p ps) more NoCore h = absurd h
listed_used tags (And p ps) more (Cores v vs) h = (valued_is_used v (whole_valued tags (type_of v) h.0), listed_used tags ps more vs h.1.1)

arguments_used : (tags : List Tag) (ps : Parameters) (vs : CoreTrees) → AreArguments tags ps vs → AreUsed vs
arguments_used tags Open vs h = open_used tags vs h
arguments_used tags (Listed ps more) vs h = listed_used tags ps more vs h

one_used : (a : CoreTree) → is_void (type_of a) ≡ false → AreUsed (Cores a NoCore)
one_used a h = (valued_is_used a h, tt)

two_used : (a b : CoreTree) → (is_void (type_of a) ≡ false) × (is_void (type_of b) ≡ false) → AreUsed (Cores a (Cores b NoCore))
two_used a b h = (valued_is_used a h.0, (valued_is_used b h.1, tt))

addressed_used : (a : CoreTree) → (is_function (type_of a) || (is_lvalue a && not (is_bit_field a))) ≡ true → AreUsed (Cores a NoCore)
addressed_used a h = (⊎_elim (λ e. valued_is_used a (function_valued (type_of a) e)) (λ e. lvalue_is_used a (and_first (is_lvalue a) (not (is_bit_field a)) e)) (or_true (is_function (type_of a)) (is_lvalue a && not (is_bit_field a)) h), tt)

module _ (leaf : CoreKind → CType → Type 0) (tags : List Tag) where
  converted_used : (of : CType) (a : CoreTree) → (conversion_to of ≡ to.Void → ⊥) → (is_void of ≡ true) ⊎ (IsScalar of × IsScalar (type_of a)) → AreUsed (Cores a NoCore)
  converted_used of a never (inl void) = absurd (never (void_conversion of void))
  converted_used of a never (inr h) = one_used a (scalar_valued (type_of a) h.1)

  pub parts_are_used : (what : CoreKind) (of : CType) (kids : CoreTrees) → IsRow leaf tags what of kids → uses_parts what ≡ true → AreUsed kids
  parts_are_used what of NoCore row uses = tt
  parts_are_used kind.Pointed of (Cores a NoCore) row uses = one_used a (pointer_valued (type_of a) row.0)
  parts_are_used (kind.Member offset first width) of (Cores a NoCore) row uses = one_used a (record_valued (type_of a) row.0)
  parts_are_used kind.Read of (Cores a NoCore) row uses = one_used a (not_void_as (type_of a) of row.1.1 (scalar_valued of row.1.0))
  parts_are_used kind.Address of (Cores a NoCore) row uses = addressed_used a row.0
  parts_are_used kind.First of (Cores a NoCore) row uses = (lvalue_is_used a row.0, tt)
  parts_are_used (kind.Convert to.Void) of (Cores a NoCore) row uses = absurd (true≢false (sym uses))
  parts_are_used (kind.Convert to.Pointer) of (Cores a NoCore) row uses = converted_used of a (λ e. let f : to.Void ≡ to.Pointer = sym e ∙ row.0 in let never : ⊥ = cc in never) row.1
  parts_are_used (kind.Convert (to.Integer x)) of (Cores a NoCore) row uses = converted_used of a (λ e. let f : to.Void ≡ to.Integer x = sym e ∙ row.0 in let never : ⊥ = cc in never) row.1
  parts_are_used (kind.Unary op) of (Cores a NoCore) row uses = one_used a (same_valued (type_of a) of row.1 (promoted_valued of row.0))
  parts_are_used kind.Not of (Cores a NoCore) row uses = one_used a (scalar_valued (type_of a) row.1)
  parts_are_used (kind.Binary op signed) of (Cores a (Cores b NoCore)) row uses = two_used a b (operands_valued (is_shift op) of (type_of a) (type_of b) row.1)
  parts_are_used (kind.Compare op signed) of (Cores a (Cores b NoCore)) row uses = two_used a b (compared_valued signed (type_of a) (type_of b) row.1)
  parts_are_used (kind.Move size back) of (Cores a (Cores b NoCore)) row uses = two_used a b (moved_valued tags size back of (type_of a) (type_of b) row)
  parts_are_used (kind.Difference size) of (Cores a (Cores b NoCore)) row uses = two_used a b (pointer_valued (type_of a) row.1.0, pointer_valued (type_of b) row.1.1.0)
  parts_are_used kind.And of (Cores a (Cores b NoCore)) row uses = two_used a b (scalar_valued (type_of a) row.1.0, scalar_valued (type_of b) row.1.1)
  parts_are_used kind.Or of (Cores a (Cores b NoCore)) row uses = two_used a b (scalar_valued (type_of a) row.1.0, scalar_valued (type_of b) row.1.1)
  parts_are_used kind.Conditional of (Cores a as') row uses = absurd (true≢false (sym uses))
  parts_are_used kind.Comma of (Cores a as') row uses = absurd (true≢false (sym uses))
  parts_are_used kind.Assign of (Cores a (Cores v NoCore)) row uses = (lvalue_is_used a row.0, (valued_is_used v (not_void_as (type_of v) of row.1.1.1 (whole_valued tags of row.1.0)), tt))
  parts_are_used (kind.Change by) of (Cores a (Cores w NoCore)) row uses = (lvalue_is_used a row.0, (valued_is_used w (changed_valued tags by a (type_of w) row.1.1), tt))
  parts_are_used (kind.Postfix by) of (Cores a (Cores w NoCore)) row uses = (lvalue_is_used a row.0, (valued_is_used w (changed_valued tags by a (type_of w) row.1.1), tt))
  parts_are_used (kind.Call copies) of (Cores f vs) row uses = (valued_is_used f (pointer_valued (type_of f) row.0), arguments_used tags (parameters_type (target (type_of f))) vs row.1.1.1.1)
  parts_are_used what of (Cores a as') row uses = absurd row

  -- the last part of a comma that is used
  pub last_is_used : (a : CoreTree) (cs : CoreTrees) (of : CType) → last_type (Cores a cs) ≡ of → is_void of ≡ false → EachLast (λ e. is_unused e ≡ false) a cs
  last_is_used a NoCore of e valued = valued_is_used a (not_void_as (type_of a) of e valued)
  last_is_used a (Cores b cs) of e valued = last_is_used b cs of e valued
