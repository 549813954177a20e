-- How the parts of a kind of expression are evaluated.
use Rattle.c_meaning.specs.declared.core_expr.CoreKind.{CoreKind}
use Rattle.c_meaning.specs.declared.core_expr.CoreKind.TheVariants as kind
use Rattle.c_meaning.specs.declared.core_expr.Conversion.TheVariants as to
use Rattle.c_acts.specs.declared.shape.Shape.{Shape}
use Rattle.c_acts.specs.declared.shape.Shape.TheVariants.{Leaf, Dropped, Unary, Binary, Logical, Conditional, Comma, Call}

abbrev pub shape_of : CoreKind → Shape
shape_of (kind.Local n register) = Leaf
shape_of (kind.Object n) = Leaf
shape_of (kind.Text n) = Leaf
shape_of (kind.Literal bytes) = Leaf
shape_of (kind.Symbol id) = Leaf
shape_of (kind.Function n) = Leaf
shape_of (kind.BuiltIn b) = Leaf
shape_of (kind.Number n) = Leaf
shape_of (kind.Convert to.Void) = Dropped
shape_of (kind.Convert to.Pointer) = Unary
shape_of (kind.Convert (to.Integer x)) = Unary
shape_of kind.Pointed = Unary
shape_of (kind.Member offset first width) = Unary
shape_of kind.Read = Unary
shape_of kind.Address = Unary
shape_of kind.First = Unary
shape_of (kind.Unary op) = Unary
shape_of kind.Not = Unary
shape_of (kind.Binary op signed) = Binary
shape_of (kind.Compare op signed) = Binary
shape_of (kind.Move size back) = Binary
shape_of (kind.Difference size) = Binary
shape_of kind.Assign = Binary
shape_of (kind.Change by) = Binary
shape_of (kind.Postfix by) = Binary
shape_of kind.And = Logical
shape_of kind.Or = Logical
shape_of kind.Conditional = Conditional
shape_of kind.Comma = Comma
shape_of (kind.Call n) = Call
