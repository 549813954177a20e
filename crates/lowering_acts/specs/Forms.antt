-- How the parts of expressions are lowered, by their kinds.
use Rattle.c_meaning.specs.declared.core_expr.CoreKind.{CoreKind}
use Rattle.c_meaning.specs.declared.core_expr.CoreKind.TheVariants as kind
use Rattle.lowering_acts.specs.declared.forms.Form.{Form}
use Rattle.lowering_acts.specs.declared.forms.Form.TheVariants as form

abbrev pub form_of : CoreKind → Form
form_of (kind.Local n register) = form.Leaf
form_of (kind.Object n) = form.Leaf
form_of (kind.Text n) = form.Leaf
form_of (kind.Function n) = form.Leaf
form_of (kind.BuiltIn b) = form.Leaf
form_of (kind.Number n) = form.Leaf
form_of kind.Pointed = form.One
form_of (kind.Member offset first width) = form.One
form_of kind.Read = form.One
form_of kind.Address = form.One
form_of kind.First = form.One
form_of (kind.Convert x) = form.One
form_of (kind.Unary o) = form.One
form_of (kind.Binary o signed) = form.Two
form_of (kind.Move size back) = form.Two
form_of (kind.Difference size) = form.Two
form_of kind.Assign = form.Two
form_of (kind.Change by) = form.Two
form_of (kind.Postfix by) = form.Two
form_of kind.Conditional = form.Conditional
form_of kind.Comma = form.Comma
form_of (kind.Call copies) = form.Call copies
form_of k = form.Other
