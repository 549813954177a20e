-- A checked expression is modest, kind by kind.
use Rattle.std.proofs.Common.{arith}
use Rattle.c_meaning.specs.declared.core_expr.Change.{Change}
use Rattle.c_meaning.specs.declared.core_expr.Change.TheVariants as change
use Rattle.c_meaning.specs.declared.core_expr.CoreKind.{CoreKind}
use Rattle.c_meaning.specs.declared.core_expr.CoreKind.TheVariants as kind
use Rattle.c_meaning.specs.CoreTrees.{Core, NoCore, Cores}
use Rattle.c_meaning.specs.Each.{EachKind, EachKinds}
use Rattle.c_meaning.specs.Values.{CoreTree, CoreTrees}
use Rattle.c_expr_agreement.specs.Scenes.{Scene}
use Rattle.c_straight_agree.specs.Checked.{IsModest}
use Rattle.c_straight_agree.specs.Layouts.{IsSmallChange}
use Rattle.c_checked_units.specs.Checked.{NamesBuiltIn}
use Rattle.c_checked_units.specs.Modest.{CheckedIsModest, StandsForBuiltIns}
use Rattle.c_checked_units.specs.Moves.{ChangesByObjects, MovesByObjects}

small_change : (by : Change) → ChangesByObjects by → IsSmallChange by
small_change (change.Arithmetic op signed) h = tt
small_change (change.Pointer size back) h = omega (arith, h)

module _ (s : Scene) (stands : StandsForBuiltIns s) where
  kind_modest : (what : CoreKind) → MovesByObjects what → NamesBuiltIn s.unit what → IsModest s what
  kind_modest (kind.BuiltIn b) h k = stands b k
  kind_modest (kind.Move size back) h k = omega (arith, h)
  kind_modest (kind.Difference size) h k = omega (arith, h)
  kind_modest (kind.Change by) h k = small_change by h
  kind_modest (kind.Postfix by) h k = small_change by h
  kind_modest what h k = tt

  mutual
    pub expr_modest : (e : CoreTree) → EachKind MovesByObjects e → EachKind (NamesBuiltIn s.unit) e → EachKind (IsModest s) e
    expr_modest (Core what of line kids) h k = (kind_modest what h.0 k.0, kids_modest kids h.1 k.1)

    kids_modest : (es : CoreTrees) → EachKinds MovesByObjects es → EachKinds (NamesBuiltIn s.unit) es → EachKinds (IsModest s) es
    kids_modest NoCore h k = tt
    kids_modest (Cores e es) h k = (expr_modest e h.0 k.0, kids_modest es h.1 k.1)

pub checked_modest : CheckedIsModest
checked_modest s stands f e h = expr_modest s stands e h.moves h.names
