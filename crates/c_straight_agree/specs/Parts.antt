-- Kinds of expressions that neither jump nor call; and parts of expressions that are lowered, whatever their kind is: straight or not.
-- Source: ISO/IEC 9899:1990, 6.3.
use Rattle.std.specs.Prelude.{◌≤◌, ℕ, ◌&&◌, not, Bool, true, false, length}
use Rattle.c_meaning.specs.declared.core_expr.CoreKind.{CoreKind}
use Rattle.c_meaning.specs.declared.core_expr.CoreKind.TheVariants as kind
use Rattle.c_meaning.specs.CoreTrees.{NoCore, Cores, type_of}
use Rattle.c_meaning.specs.Types.{is_void}
use Rattle.c_meaning.specs.Values.{CoreTree, CoreTrees, is_lvalue}
use Rattle.c_runs.specs.Soundness.{IsTame}
use Rattle.c_expr_agreement.specs.Scenes.{Scene}
use Rattle.lowered_forms.specs.Expressions.{low_e}
use Rattle.lowered_forms.specs.Lows.{Low}
use Rattle.c_straight_agree.specs.Agreement.{IsLowered, IsPerformed}
use Rattle.c_straight_agree.specs.Layouts.{FrameLayout, context_in}

-- what is neither a test nor a conditional nor a call
abbrev pub is_plain : CoreKind → Bool
is_plain (kind.Compare operator signed) = false
is_plain kind.Not = false
is_plain kind.And = false
is_plain kind.Or = false
is_plain kind.Conditional = false
is_plain (kind.Call n) = false
is_plain what = true

-- one that is lowered behind the slots of the locals
pub record IsLoweredPart (s : Scene) (locals : ℕ) (y : FrameLayout) (e : CoreTree) : Type 0 where
  pub tame : IsTame e
  pub lowered : (l : Low) → locals ≤ length l.slots → IsLowered s y e l (low_e (context_in s y) e l)

-- Nothing uses the value of an expression of type void, unless it is the place of what a pointer to void points to.
abbrev pub is_unused : CoreTree → Bool
is_unused e = is_void (type_of e) && not (is_lvalue e)

-- the same of one whose value isn't used
pub record IsPerformedPart (s : Scene) (locals : ℕ) (y : FrameLayout) (e : CoreTree) : Type 0 where
  pub tame : IsTame e
  pub performed : (l : Low) → locals ≤ length l.slots → IsPerformed s y e l (low_e (context_in s y) e l)

-- each of them is so
abbrev pub EachTree : (CoreTree → Type 0) → CoreTrees → Type 0
EachTree Is NoCore = Unit {0}
EachTree Is (Cores c cs) = Is c × EachTree Is cs

abbrev pub AreLoweredParts : Scene → ℕ → FrameLayout → CoreTrees → Type 0
AreLoweredParts s locals y kids = EachTree (λ e. IsLoweredPart s locals y e) kids

-- the last of the parts of a comma is lowered
abbrev pub IsLastLowered : Scene → ℕ → FrameLayout → CoreTree → CoreTrees → Type 0
IsLastLowered s locals y a NoCore = IsLoweredPart s locals y a
IsLastLowered s locals y a (Cores c cs) = IsLastLowered s locals y c cs
