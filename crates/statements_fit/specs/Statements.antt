-- Statements whose expressions fit a frame, whose initialisers fill places inside their objects, and whose cases are words.
-- Source: ISO/IEC 9899:1990, 6.5.7, 6.6.
use Rattle.std.specs.Prelude.{◌≤◌, ◌<◌, ℕ, ◌+◌, ◌^◌, Bool, true, false, Some, IfSome, List, slice_get}
use Rattle.op_forest.specs.declared.frame.Slot.{Slot}
use Rattle.c_types.specs.CType.{CType, Array}
use Rattle.c_meaning.specs.declared.core_stmt.CoreCase.{CoreCase}
use Rattle.c_meaning.specs.CoreTrees.{type_of}
use Rattle.c_meaning.specs.Each.{EachIs}
use Rattle.c_meaning.specs.Scalars.{is_signed}
use Rattle.c_meaning.specs.StmtTrees.{FilledOf}
use Rattle.c_meaning.specs.StmtTrees as stmt
use Rattle.c_meaning.specs.Types.{is_record}
use Rattle.c_runs.specs.Places.{size_of}
use Rattle.c_types.specs.Layout.{Tag}
use Rattle.switch_tables.specs.Searches.{Search, Nowhere, At, search_over}
use Rattle.switch_tables.specs.Tables.{tables_of}
use Rattle.lowered_forms.specs.Contexts.{Context}
use Rattle.lowered_fit.specs.States.{FitsLocal, FitsCore}
use Rattle.lowered_statements.specs.Functions.{Function, placed_cases}
use Rattle.lowered_statements.specs.Statements.{StmtTree, StmtTrees}

-- ---- initialisers

-- the bytes of a place's type, from its offset on, are among those of an object of this size; of a scalar or a bit-field the first one
abbrev pub LiesWithin : List Tag → Bool → ℕ → ℕ → CType → Type 0
LiesWithin tags true bytes offset of = offset + size_of tags of ≤ bytes
LiesWithin tags false bytes offset of = offset < bytes

-- a string's array, by the number of its characters
abbrev pub FillsWithin : List Tag → ℕ → ℕ → CType → Type 0
FillsWithin tags bytes offset (Array of (Some room)) = offset + room ≤ bytes
FillsWithin tags bytes offset of = LiesWithin tags (is_record of) bytes offset of

pub record FitsFilled (s : Context) (slots : List Slot) (bytes : ℕ) (p : FilledOf CType) : Type 0 where
  pub fits : FitsCore s slots p.value
  pub unit : p.first + p.width ≤ 32
  pub lies : FillsWithin s.unit.tags bytes p.offset p.of

-- a local of this type is initialised in its places
pub record FitsInitialised (s : Context) (slots : List Slot) (n : ℕ) (places : List (FilledOf CType)) (of : CType) : Type 0 where
  pub local : FitsLocal s slots n of
  pub small : size_of s.unit.tags of < 2 ^ 32
  pub filled : EachIs (FitsFilled s slots (size_of s.unit.tags of)) places

-- ---- switches

-- the first number of each table is a word
abbrev pub HasWords : Search → Type 0
HasWords Nowhere = Unit {0}
HasWords (At t less greater) = (t.low < 2 ^ 32) × HasWords less × HasWords greater

abbrev pub HasWordTables : Function → Bool → List CoreCase → Type 0
HasWordTables f signed cases = (default : ℕ) → HasWords (search_over (tables_of signed default (placed_cases f cases)))

-- ---- statements

abbrev mutual
  pub FitsStmt : Function → List Slot → StmtTree → Type 0
  FitsStmt f slots stmt.Nothing = Unit {0}
  FitsStmt f slots (stmt.Expression e) = FitsCore f.context slots e
  FitsStmt f slots (stmt.Initialise local clears ps) = IfSome (slice_get f.locals local) (FitsInitialised f.context slots local ps)
  FitsStmt f slots (stmt.Block first locals ts) = FitsStmts f slots ts
  FitsStmt f slots (stmt.If e t u) = FitsCore f.context slots e × FitsStmt f slots t × FitsStmt f slots u
  FitsStmt f slots (stmt.While e t) = FitsCore f.context slots e × FitsStmt f slots t
  FitsStmt f slots (stmt.Do t e) = FitsStmt f slots t × FitsCore f.context slots e
  FitsStmt f slots (stmt.For first test last t) =
      IfSome first (FitsCore f.context slots) × IfSome test (FitsCore f.context slots) × IfSome last (FitsCore f.context slots) × FitsStmt f slots t
  FitsStmt f slots (stmt.Switch e cases default t) =
      FitsCore f.context slots e × HasWordTables f (is_signed (type_of e)) cases × FitsStmt f slots t
  FitsStmt f slots (stmt.Label n t) = FitsStmt f slots t
  FitsStmt f slots (stmt.Goto n) = Unit {0}
  FitsStmt f slots stmt.Break = Unit {0}
  FitsStmt f slots stmt.Continue = Unit {0}
  FitsStmt f slots (stmt.Return e) = IfSome e (FitsCore f.context slots)

  pub FitsStmts : Function → List Slot → StmtTrees → Type 0
  FitsStmts f slots stmt.NoStmt = Unit {0}
  FitsStmts f slots (stmt.Stmts t ts) = FitsStmt f slots t × FitsStmts f slots ts
