-- What an expression comes to is an operand: a node of the open block, or an address or a constant.
use Rattle.c_meaning.specs.Values.{CoreTree}
use Rattle.c_rows_agree.specs.Templates.{Template, Given, Leaf}
use Rattle.lowered_forms.specs.Contexts.{Context}
use Rattle.lowered_forms.specs.Expressions.{low_e}
use Rattle.lowered_forms.specs.Lows.{Low}

abbrev pub IsOperand : Template → Type 0
IsOperand (Given n) = Unit {0}
IsOperand (Leaf h) = Unit {0}
IsOperand t = ⊥

abbrev pub ValuesAreOperands : Type 0
ValuesAreOperands = (s : Context) (e : CoreTree) (l : Low) → IsOperand (low_e s e l).value.tree
