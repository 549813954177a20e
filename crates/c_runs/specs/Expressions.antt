-- What expressions do: from left to right, each side effect at once. A row for each kind of checked expression, by what its
-- parts do.
-- Source: ISO/IEC 9899:1990, 6.3; causes and their lines in the profile of this compiler.
use Rattle.std.specs.Prelude.{ℕ, ℤ, pos, ◌+◌, ◌*ℤ◌, neg_ℤ, not, Bool, true, false, Option, Some, None, List, [], ◌∷◌, ◌++◌, slice_get, Result as Checked, if◌then◌else◌}
use Rattle.std.specs.declared.cmp.Ordering.{Ordering}
use Rattle.std.specs.declared.cmp.Ordering.TheVariants as ordering
use Rattle.lcc_base.specs.declared.cause.Cause.{Cause}
use Rattle.lcc_base.specs.declared.cause.Cause.TheVariants.{PointerNumber}
use Rattle.objects.specs.declared.operators.Comparison.{Comparison}
use Rattle.objects.specs.declared.operators.Comparison.TheVariants as comparison
use Rattle.objects.specs.declared.purpose.Purpose.TheVariants.{Assignment, Initialisation}
use Rattle.objects.specs.declared.value.Value.{Value}
use Rattle.objects.specs.declared.value.Value.TheVariants.{Number, Function}
use Rattle.objects.specs.Objects.{Object}
use Rattle.objects.specs.Causes.{first_cause, is_no_number}
use Rattle.objects.specs.Accesses.{number_or_zero, if_none}
use Rattle.objects.specs.Arithmetic.{signed_of, unary_value, binary_value, comparison_value, integer_tested}
use Rattle.objects.specs.Conversions.{as_type, converted}
use Rattle.objects.specs.Pointers.{moved, ordered, compared, subtracted, tested}
use Rattle.c_types.specs.CType.{CType}
use Rattle.c_meaning.specs.declared.core_expr.Change.{Change}
use Rattle.c_meaning.specs.declared.core_expr.Change.TheVariants as change
use Rattle.c_meaning.specs.declared.core_expr.Conversion.TheVariants as to
use Rattle.c_meaning.specs.declared.core_expr.CoreKind.{CoreKind}
use Rattle.c_meaning.specs.declared.core_expr.CoreKind.TheVariants as kind
use Rattle.c_meaning.specs.CoreTrees.{Core, NoCore, Cores, type_of, line_of}
use Rattle.c_meaning.specs.Scalars.{scalar_of, is_signed}
use Rattle.c_meaning.specs.Types.{is_pointer, is_record}
use Rattle.c_meaning.specs.Values.{CoreTree, CoreTrees}
use Rattle.c_runs.specs.Worlds.{World, objects, with_objects}
use Rattle.c_runs.specs.Outcomes.{Result, Gives, GivesNone, stray, then_give, then_drop, if_fine, gives, stores, truth, tells, mapped, either, branch}
use Rattle.c_runs.specs.Places.{place_of_object, place_of_text, Spot, spot_of, held, stored, kept, source, assigned}
use Rattle.c_runs.specs.Calls.{Argument, Setting, built_in_number, call_value}

-- a part of an expression, and what it does with the turns that are left in a world
pub record Part : Type 0 where
  pub tree : CoreTree
  pub does : ℕ → World → Result

-- ---- places

abbrev pub place : Option Value → ℕ → ℕ → World → Result
place None line k w = stray line w
place (Some p) line k w = Gives p k w

-- ---- tests

-- whether a value of a type holds
abbrev pub holds : CType → List Object → Value → Checked Bool Cause
holds t os v = if is_pointer t then tested os v else integer_tested v

-- a part as a test: 1 or 0, or a cause at the line
abbrev pub asked : Part → ℕ → ℕ → World → Result
asked a line k w = then_give (a.does k w) (λ v k1 w1. tells (holds (type_of a.tree) (objects w1) v) line k1 w1)

abbrev pub inverted : Result → Result
inverted r = then_give r (λ v k w. branch v (λ k1 w1. Gives (truth false) k1 w1) (λ k1 w1. Gives (truth true) k1 w1) k w)

-- ---- two values

-- what two parts' values give, by the objects after both
abbrev pub of_two : Part → Part → ℕ → (List Object → Value → Value → Checked Value Cause) → ℕ → World → Result
of_two a b line act k w = then_give (a.does k w) (λ v k1 w1. then_give (b.does k1 w1) (λ u k2 w2. gives (act (objects w2) v u) line k2 w2))

-- how an order answers a comparison
abbrev pub is_so : Comparison → Ordering → Bool
is_so comparison.Less ordering.Less = true
is_so comparison.Less o = false
is_so comparison.LessEqual ordering.Greater = false
is_so comparison.LessEqual o = true
is_so comparison.Greater ordering.Greater = true
is_so comparison.Greater o = false
is_so comparison.GreaterEqual ordering.Less = false
is_so comparison.GreaterEqual o = true
is_so comparison.Equal ordering.Equal = true
is_so comparison.Equal o = false
is_so comparison.NotEqual ordering.Equal = false
is_so comparison.NotEqual o = true

-- two pointers: equality isn't asked by their order
abbrev pub pointers_compared : Comparison → List Object → Value → Value → Checked Bool Cause
pointers_compared comparison.Equal os v u = compared os v u
pointers_compared comparison.NotEqual os v u = mapped not (compared os v u)
pointers_compared op os v u = mapped (is_so op) (ordered os v u)

abbrev pub compared_by : CType → Bool → Comparison → List Object → Value → Value → Checked Value Cause
compared_by t signed op os v u = mapped truth (if is_pointer t then pointers_compared op os v u else comparison_value signed op v u)

-- the integer that a word of a type is
abbrev pub index : CType → Value → ℤ
index t v = if is_signed t then signed_of (number_or_zero v) else pos (number_or_zero v)

abbrev pub by_elements : ℕ → Bool → ℤ → ℤ
by_elements size back n = if back then neg_ℤ (pos size *ℤ n) else pos size *ℤ n

-- a pointer moved by as many elements as an integer of a type says; PointerNumber before Dead and PointerRange
abbrev pub moved_by : ℕ → Bool → CType → List Object → Value → Value → Checked Value Cause
moved_by size back t os p i = if_none (first_cause ((is_no_number i, PointerNumber) ∷ [])) (moved os p (by_elements size back (index t i)))

-- pointer and integer stand in either order
abbrev pub moved_among : ℕ → Bool → CType → CType → List Object → Value → Value → Checked Value Cause
moved_among size back t u os v w = if is_pointer t then moved_by size back u os v w else moved_by size back t os w v

-- ---- assignments and changes

-- a structure: the source's causes have the source's line
abbrev pub assigned_whole : Setting → CType → ℕ → ℕ → Value → Value → ℕ → World → Result
assigned_whole s of from_line line to from k w =
    if_fine (source s.unit.tags of (objects w) from) from_line w
    (λ v. stores (assigned Assignment s.unit.tags of (objects w) v to) to line k w)

-- a scalar or bit-field
abbrev pub assigned_scalar : Setting → Spot → ℕ → Value → Value → ℕ → World → Result
assigned_scalar s x line p v k w = stores (stored Assignment s.order x v (objects w) p) (kept x v) line k w

abbrev pub assignment : Setting → CType → ℕ → Part → Part → ℕ → World → Result
assignment s of line a b k w =
    then_give (a.does k w) (λ p k1 w1. then_give (b.does k1 w1) (λ v k2 w2.
    either (is_record of)
    (λ k3 w3. assigned_whole s of (line_of b.tree) line p v k3 w3)
    (λ k3 w3. assigned_scalar s (spot_of a.tree) line p v k3 w3)
    k2 w2))

-- the new value of a place, by the old one and the right operand, of a type
abbrev pub changed : Change → Spot → CType → List Object → Value → Value → Checked Value Cause
changed (change.Arithmetic op signed) x t os old v = mapped (as_type (scalar_of x.of)) (binary_value signed op old v)
changed (change.Pointer size back) x t os old v = moved_by size back t os old v

abbrev pub new_value : Spot → Value → Value → Value
new_value x old new = kept x new

abbrev pub old_value : Spot → Value → Value → Value
old_value x old new = old

-- a place's value read, changed and written, behind the right operand
abbrev pub changed_at : Setting → Change → Spot → CType → (Spot → Value → Value → Value) → ℕ → Value → Value → ℕ → World → Result
changed_at s by x t give line p v k w =
    if_fine (held s.order x (objects w) p) line w
    (λ old. if_fine (changed by x t (objects w) old v) line w
    (λ new. stores (stored Assignment s.order x new (objects w) p) (give x old new) line k w))

abbrev pub changing : Setting → Change → (Spot → Value → Value → Value) → ℕ → Part → Part → ℕ → World → Result
changing s by give line a b k w =
    then_give (a.does k w) (λ p k1 w1. then_give (b.does k1 w1) (λ v k2 w2. changed_at s by (spot_of a.tree) (type_of b.tree) give line p v k2 w2))

-- ---- the comma

abbrev pub comma_from : Part → List Part → ℕ → World → Result
comma_from a [] k w = a.does k w
comma_from a (b ∷ ps) k w = then_drop (a.does k w) (λ k1 w1. comma_from b ps k1 w1)

-- ---- calls

abbrev pub argument : Part → Value → Argument
argument a v = record { value = v; of = type_of a.tree; line = line_of a.tree }

-- an argument of structure type is copied at once, into the running call's object for it
abbrev pub copied_to : Setting → Option Value → Part → Value → ℕ → World → (Argument → ℕ → World → Result) → Result
copied_to s None a v k w go = stray (line_of a.tree) w
copied_to s (Some copy) a v k w go =
    if_fine (source s.unit.tags (type_of a.tree) (objects w) v) (line_of a.tree) w
    (λ from. if_fine (assigned Initialisation s.unit.tags (type_of a.tree) (objects w) from copy) (line_of a.tree) w
    (λ os. go (argument a copy) k (with_objects w os)))

-- the arguments from left to right, behind those that are there, and the local of the next copy
abbrev pub arguments : Setting → ℕ → List Part → List Argument → ℕ → World → (ℕ → List Argument → ℕ → World → Result) → Result
arguments s n [] done k w go = go n done k w
arguments s n (a ∷ ps) done k w go =
    then_give (a.does k w) (λ v k1 w1.
    either (is_record (type_of a.tree))
    (λ k2 w2. copied_to s (slice_get w2.locals n) a v k2 w2 (λ x k3 w3. arguments s (n + 1) ps (done ++ x ∷ []) k3 w3 go))
    (λ k2 w2. arguments s n ps (done ++ argument a v ∷ []) k2 w2 go)
    k1 w1)

-- the place of the result, where it is a structure
abbrev pub result_place : CType → List Value → ℕ → Option Value
result_place of locals n = if is_record of then slice_get locals n else None

abbrev pub call_by : Setting → CType → ℕ → Value → ℕ → List Argument → ℕ → World → Result
call_by s of line callee n xs k w =
    call_value s callee (λ f. record { function = f; arguments = xs; of = of; result = result_place of w.locals n; line = line; world = w }) line k w

abbrev pub calling : Setting → ℕ → CType → ℕ → Part → List Part → ℕ → World → Result
calling s n of line f ps k w = then_give (f.does k w) (λ callee k1 w1. arguments s n ps [] k1 w1 (λ m xs k2 w2. call_by s of line callee m xs k2 w2))

-- ---- the rows

abbrev pub row : Setting → CoreKind → CType → ℕ → List Part → ℕ → World → Result
-- an object of the running call, of the unit, of a string literal: the pointer to it
row s (kind.Local n register) of line [] k w = place (slice_get w.locals n) line k w
row s (kind.Object n) of line [] k w = place (place_of_object s.unit n (slice_get s.unit.objects n)) line k w
row s (kind.Text n) of line [] k w = place (place_of_text s.unit n (slice_get s.unit.texts n)) line k w
-- a function, by its number
row s (kind.Function n) of line [] k w = Gives (Function n) k w
row s (kind.BuiltIn b) of line [] k w = Gives (Function (built_in_number s.unit b)) k w
-- a number is a word
row s (kind.Number n) of line [] k w = Gives (Number n) k w
-- what a pointer points to: nothing is accessed yet
row s kind.Pointed of line (a ∷ []) k w = then_give (a.does k w) (λ p k1 w1. Gives p k1 w1)
-- Dead, PointerRange
row s (kind.Member offset first width) of line (a ∷ []) k w = then_give (a.does k w) (λ p k1 w1. gives (moved (objects w1) p (pos offset)) line k1 w1)
-- Outside, Misaligned, Dead, Unknown, PointerBytes
row s kind.Read of line (a ∷ []) k w = then_give (a.does k w) (λ p k1 w1. gives (held s.order (spot_of a.tree) (objects w1) p) line k1 w1)
-- a place is its pointer: nothing is accessed
row s kind.Address of line (a ∷ []) k w = then_give (a.does k w) (λ p k1 w1. Gives p k1 w1)
row s kind.First of line (a ∷ []) k w = then_give (a.does k w) (λ p k1 w1. Gives p k1 w1)
-- to void: the value isn't used
row s (kind.Convert to.Void) of line (a ∷ []) k w = then_drop (a.does k w) (λ k1 w1. GivesNone 0 k1 w1)
-- a word is kept as a pointer, and a pointer as it is
row s (kind.Convert to.Pointer) of line (a ∷ []) k w = then_give (a.does k w) (λ v k1 w1. Gives v k1 w1)
-- PointerNumber of a narrowed pointer, at the operand's line
row s (kind.Convert (to.Integer x)) of line (a ∷ []) k w = then_give (a.does k w) (λ v k1 w1. gives (converted x v) (line_of a.tree) k1 w1)
-- PointerNumber
row s (kind.Unary op) of line (a ∷ []) k w = then_give (a.does k w) (λ v k1 w1. gives (unary_value op v) line k1 w1)
-- the test has the operator's line
row s kind.Not of line (a ∷ []) k w = inverted (asked a line k w)
-- ZeroDivisor, DivideOverflow, ShiftCount, PointerNumber
row s (kind.Binary op signed) of line (a ∷ b ∷ []) k w = of_two a b line (λ os v u. binary_value signed op v u) k w
-- of numbers PointerNumber, of pointers Dead, PointerOrder, PointerEqual
row s (kind.Compare op signed) of line (a ∷ b ∷ []) k w = of_two a b line (λ os v u. compared_by (type_of a.tree) signed op os v u) k w
-- PointerNumber, Dead, PointerRange
row s (kind.Move size back) of line (a ∷ b ∷ []) k w = of_two a b line (λ os v u. moved_among size back (type_of a.tree) (type_of b.tree) os v u) k w
-- Dead, PointerOrder
row s (kind.Difference size) of line (a ∷ b ∷ []) k w = of_two a b line (λ os v u. subtracted os size v u) k w
-- both tests have the operator's line
row s kind.And of line (a ∷ b ∷ []) k w = then_give (asked a line k w) (λ v k1 w1. branch v (λ k2 w2. asked b line k2 w2) (λ k2 w2. Gives (truth false) k2 w2) k1 w1)
row s kind.Or of line (a ∷ b ∷ []) k w = then_give (asked a line k w) (λ v k1 w1. branch v (λ k2 w2. Gives (truth true) k2 w2) (λ k2 w2. asked b line k2 w2) k1 w1)
-- the test has its own line; a missing result passes
row s kind.Conditional of line (a ∷ b ∷ c ∷ []) k w = then_give (asked a (line_of a.tree) k w) (λ v k1 w1. branch v b.does c.does k1 w1)
-- all parts but the last are dropped
row s kind.Comma of line (a ∷ ps) k w = comma_from a ps k w
-- Outside, Misaligned, Dead, ReadOnly; of a bit-field PointerNumber; of a structure Overlap
row s kind.Assign of line (a ∷ b ∷ []) k w = assignment s of line a b k w
-- place, right operand, and then what the place holds
row s (kind.Change by) of line (a ∷ b ∷ []) k w = changing s by new_value line a b k w
row s (kind.Postfix by) of line (a ∷ b ∷ []) k w = changing s by old_value line a b k w
-- CallMismatch; NoResult where the value is used; n is the local where the call's copies begin
row s (kind.Call n) of line (f ∷ ps) k w = calling s n of line f ps k w
-- no checked unit holds anything else
row s what of line ps k w = stray line w

abbrev mutual
  pub eval : Setting → CoreTree → ℕ → World → Result
  eval s (Core what of line kids) k w = row s what of line (parts_of s kids) k w

  pub parts_of : Setting → CoreTrees → List Part
  parts_of s NoCore = []
  parts_of s (Cores c cs) = record { tree = c; does = λ k w. eval s c k w } ∷ parts_of s cs

-- an expression as a test of a statement
abbrev pub test : Setting → CoreTree → ℕ → World → Result
test s c k w = asked (record { tree = c; does = λ k1 w1. eval s c k1 w1 }) (line_of c) k w
