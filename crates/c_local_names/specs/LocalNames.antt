-- What a function's names of local objects and its string literals stand for.
-- Source: C89 3.1.2.4, 3.1.4, 3.7.1.
use Rattle.std.specs.Prelude.{◌≡◌, ℕ, Some, List, slice_get}
use Rattle.c_types.specs.CType.{CType}
use Rattle.c_types.specs.Layout.{Tag}
use Rattle.c_meaning.specs.declared.core_expr.CoreKind.{CoreKind}
use Rattle.c_meaning.specs.declared.core_expr.CoreKind.TheVariants as kind
use Rattle.c_meaning.specs.StmtTrees.{FilledOf, StmtOf, Initialise, Block, If, While, Do, For, Switch, Label, StmtsOf, NoStmt, Stmts}
use Rattle.c_meaning.specs.Units.{IsNamed, text_type}
use Rattle.c_fits.specs.OpenPlaces.{AreOpenOf}

-- a local's name stands with a type that is compatible with the local's, a string literal with its own
abbrev pub IfLocal : List CType → CoreKind → CType → Type 0
IfLocal locals (kind.Local place register) of = IsNamed (λ t. t) locals place of
IfLocal locals (kind.Literal bytes) of = of ≡ text_type bytes
IfLocal locals what of = Unit {0}

-- what is stored in a local at first lies in it
abbrev pub IsOwn : List Tag → List CType → ℕ → List (FilledOf CType) → Type 0
IsOwn tags locals local ps = (of : CType) × (slice_get locals local ≡ Some of) × AreOpenOf tags of ps

abbrev mutual
  pub FillsOwn : List Tag → List CType → StmtOf CType → Type 0
  FillsOwn tags locals (Initialise local zero ps) = IsOwn tags locals local ps
  FillsOwn tags locals (Block first count ss) = AllFillOwn tags locals ss
  FillsOwn tags locals (If e s t) = FillsOwn tags locals s × FillsOwn tags locals t
  FillsOwn tags locals (While e s) = FillsOwn tags locals s
  FillsOwn tags locals (Do s e) = FillsOwn tags locals s
  FillsOwn tags locals (For a b c s) = FillsOwn tags locals s
  FillsOwn tags locals (Switch e cases default s) = FillsOwn tags locals s
  FillsOwn tags locals (Label n s) = FillsOwn tags locals s
  FillsOwn tags locals s = Unit {0}

  pub AllFillOwn : List Tag → List CType → StmtsOf CType → Type 0
  AllFillOwn tags locals NoStmt = Unit {0}
  AllFillOwn tags locals (Stmts s ss) = FillsOwn tags locals s × AllFillOwn tags locals ss
