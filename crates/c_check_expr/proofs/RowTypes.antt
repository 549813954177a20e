-- The types of what operators make of values pass no limit on sizes and nesting, where those of the values pass none.
use Rattle.std.proofs.Common.{ℕ, Bool, true, false, List}
use Rattle.std.specs.Prelude.{◌||◌, ◌&&◌, if◌then◌else◌}
use Rattle.c_ast.specs.declared.operator.BinaryOperator.{BinaryOperator}
use Rattle.c_ast.specs.declared.operator.BinaryOperator.TheVariants as binary
use Rattle.objects.specs.declared.operators.Binary.TheVariants as operator
use Rattle.objects.specs.declared.operators.Comparison.{Comparison}
use Rattle.objects.specs.declared.operators.Comparison.TheVariants as comparison
use Rattle.c_meaning.specs.declared.core_expr.CoreKind.TheVariants as kind
use Rattle.c_meaning.specs.Scalars.{is_signed}
use Rattle.c_types.specs.CType.{CType, Plain, Array, Simple, Pointer, Function, Structure, Union, Enumeration, Int, basic, unqualified}
use Rattle.c_types.specs.Conversions.{common, common_basic, promoted, promoted_basic, is_integer}
use Rattle.c_types.specs.Layout.{Tag}
use Rattle.c_meaning.specs.CoreTrees.{Core, two, type_of}
use Rattle.c_meaning.specs.Constants.{is_null}
use Rattle.c_meaning.specs.Rows.{arithmetic, at_usual, beside, chosen_type, combined, common_target, compared, difference, less, moved, pointer_chosen, sum}
use Rattle.c_meaning.specs.Types.{is_pointer, pointer_to, target}
use Rattle.c_meaning.specs.Values.{CoreTree, is_narrow, promoted_type, read_width, usual_type}
use Rattle.c_check_expr.proofs.NodeLimits.{IsSmall, basic_small, pointer_small, unqualified_small}

-- one of two types, and what one of two expressions has
either_small : (tags : List Tag) (b : Bool) (t u : CType) → IsSmall tags t → IsSmall tags u → IsSmall tags (if b then t else u)
either_small tags true t u h k = h
either_small tags false t u h k = k

made_small : (tags : List Tag) (b : Bool) (x y : CoreTree) → IsSmall tags (type_of x) → IsSmall tags (type_of y) → IsSmall tags (type_of (if b then x else y))
made_small tags true x y h k = h
made_small tags false x y h k = k

promoted_kind_small : (tags : List Tag) (t : CType) → IsSmall tags t → IsSmall tags (promoted t)
promoted_kind_small tags (Plain q (Simple b)) h = basic_small tags 0 (promoted_basic b)
promoted_kind_small tags (Plain q (Enumeration n)) h = basic_small tags 0 Int
promoted_kind_small tags (Plain q (Pointer to)) h = h
promoted_kind_small tags (Plain q (Function r ps)) h = h
promoted_kind_small tags (Plain q (Structure n)) h = h
promoted_kind_small tags (Plain q (Union n)) h = h
promoted_kind_small tags (Array of n) h = h

pub promoted_small : (tags : List Tag) (v : CoreTree) → IsSmall tags (type_of v) → IsSmall tags (promoted_type v)
promoted_small tags v h = either_small tags (is_narrow (read_width v)) (basic Int) (promoted (type_of v)) (basic_small tags 0 Int) (promoted_kind_small tags (type_of v) h)

common_small : (tags : List Tag) (t u : CType) → IsSmall tags t → IsSmall tags (common t u)
common_small tags (Plain p (Simple a)) (Plain q (Simple b)) h = basic_small tags 0 (common_basic a b)
common_small tags (Plain p (Simple a)) (Plain q (Pointer to)) h = h
common_small tags (Plain p (Simple a)) (Plain q (Function r ps)) h = h
common_small tags (Plain p (Simple a)) (Plain q (Structure n)) h = h
common_small tags (Plain p (Simple a)) (Plain q (Union n)) h = h
common_small tags (Plain p (Simple a)) (Plain q (Enumeration n)) h = h
common_small tags (Plain p (Simple a)) (Array of n) h = h
common_small tags (Plain p (Pointer to)) u h = h
common_small tags (Plain p (Function r ps)) u h = h
common_small tags (Plain p (Structure n)) u h = h
common_small tags (Plain p (Union n)) u h = h
common_small tags (Plain p (Enumeration n)) u h = h
common_small tags (Array of n) u h = h

pub usual_small : (tags : List Tag) (v w : CoreTree) → IsSmall tags (type_of v) → IsSmall tags (usual_type v w)
usual_small tags v w h = common_small tags (promoted_type v) (promoted_type w) (promoted_small tags v h)

pub moved_small : (tags : List Tag) (back : Bool) (line : ℕ) (v w : CoreTree) → IsSmall tags (type_of v) → IsSmall tags (type_of w) → IsSmall tags (type_of (moved tags back line v w))
moved_small tags back line v w h k = either_small tags (is_pointer (type_of v)) (type_of v) (type_of w) h k

sum_small : (tags : List Tag) (line : ℕ) (v w : CoreTree) → IsSmall tags (type_of v) → IsSmall tags (type_of w) → IsSmall tags (type_of (sum tags line v w))
sum_small tags line v w h k = made_small tags (is_pointer (type_of v) || is_pointer (type_of w)) (moved tags false line v w) (arithmetic operator.Add line v w) (moved_small tags false line v w h k) (usual_small tags v w h)

less_small : (tags : List Tag) (line : ℕ) (v w : CoreTree) → IsSmall tags (type_of v) → IsSmall tags (type_of w) → IsSmall tags (type_of (less tags line v w))
less_small tags line v w h k =
    let p : IsSmall tags (type_of (if is_pointer (type_of w) then difference tags line v w else moved tags true line v w)) =
    made_small tags (is_pointer (type_of w)) (difference tags line v w) (moved tags true line v w) (basic_small tags 0 Int) (moved_small tags true line v w h k) in
    made_small tags (is_pointer (type_of v)) (if is_pointer (type_of w) then difference tags line v w else moved tags true line v w) (arithmetic operator.Subtract line v w) p (usual_small tags v w h)

compared_small : (tags : List Tag) (op : Comparison) (line : ℕ) (v w : CoreTree) → IsSmall tags (type_of (compared op line v w))
compared_small tags op line v w =
    made_small tags (is_pointer (type_of v) || is_pointer (type_of w))
    (Core (kind.Compare op false) (basic Int) line (two (beside (type_of w) v) (beside (type_of v) w)))
    (at_usual (kind.Compare op (is_signed (usual_type v w))) (basic Int) (usual_type v w) line v w)
    (basic_small tags 0 Int)
    (basic_small tags 0 Int)

-- what a binary operator makes of two values
pub combined_small : (tags : List Tag) (line : ℕ) (op : BinaryOperator) (v w : CoreTree) → IsSmall tags (type_of v) → IsSmall tags (type_of w) → IsSmall tags (type_of (combined tags line op v w))
combined_small tags line binary.Or v w h k = basic_small tags 0 Int
combined_small tags line binary.And v w h k = basic_small tags 0 Int
combined_small tags line binary.BitOr v w h k = usual_small tags v w h
combined_small tags line binary.BitXor v w h k = usual_small tags v w h
combined_small tags line binary.BitAnd v w h k = usual_small tags v w h
combined_small tags line binary.Equal v w h k = compared_small tags comparison.Equal line v w
combined_small tags line binary.NotEqual v w h k = compared_small tags comparison.NotEqual line v w
combined_small tags line binary.Less v w h k = compared_small tags comparison.Less line v w
combined_small tags line binary.Greater v w h k = compared_small tags comparison.Greater line v w
combined_small tags line binary.LessEqual v w h k = compared_small tags comparison.LessEqual line v w
combined_small tags line binary.GreaterEqual v w h k = compared_small tags comparison.GreaterEqual line v w
combined_small tags line binary.ShiftLeft v w h k = promoted_small tags v h
combined_small tags line binary.ShiftRight v w h k = promoted_small tags v h
combined_small tags line binary.Add v w h k = sum_small tags line v w h k
combined_small tags line binary.Subtract v w h k = less_small tags line v w h k
combined_small tags line binary.Multiply v w h k = usual_small tags v w h
combined_small tags line binary.Divide v w h k = usual_small tags v w h
combined_small tags line binary.Remainder v w h k = usual_small tags v w h

-- what `?:` chooses
pointer_chosen_small : (tags : List Tag) (v w : CoreTree) → IsSmall tags (type_of v) → IsSmall tags (type_of w) → IsSmall tags (pointer_chosen v w)
pointer_chosen_small tags v w h k =
    let p = pointer_to (common_target (target (type_of v)) (target (type_of w))) in
    let rest : IsSmall tags (if is_null w then type_of v else p) = either_small tags (is_null w) (type_of v) p h (pointer_small tags 0 (common_target (target (type_of v)) (target (type_of w)))) in
    either_small tags (is_null v && is_pointer (type_of w)) (type_of w) (if is_null w then type_of v else p) k rest

pub chosen_small : (tags : List Tag) (v w : CoreTree) → IsSmall tags (type_of v) → IsSmall tags (type_of w) → IsSmall tags (chosen_type v w)
chosen_small tags v w h k =
    let u = unqualified (type_of v) in
    let rest : IsSmall tags (if is_pointer (type_of v) || is_pointer (type_of w) then pointer_chosen v w else u) =
    either_small tags (is_pointer (type_of v) || is_pointer (type_of w)) (pointer_chosen v w) u (pointer_chosen_small tags v w h k) (unqualified_small tags (type_of v) h) in
    either_small tags (is_integer (type_of v) && is_integer (type_of w)) (usual_type v w) (if is_pointer (type_of v) || is_pointer (type_of w) then pointer_chosen v w else u) (usual_small tags v w h) rest
