-- Checked statements as trees: over types by their places in a table, or over types as mathematics has them.
-- Source: C89 3.6, 3.5.7.
use Rattle.std.specs.Prelude.{◌<◌, IfSome, ℕ, Bool, Option, Some, None, List, [], ◌∷◌, map}
use Rattle.c_meaning.specs.declared.core_stmt.CoreCase.{CoreCase}
use Rattle.c_meaning.specs.declared.core_stmt.CoreStmt.{CoreStmt as StmtValue, CoreStmt-F, fold-CoreStmt}
use Rattle.c_meaning.specs.declared.filled_place.FilledPlace.{FilledPlace}
use Rattle.c_meaning.specs.CoreTrees.{CoreOf, seen, IsIn}

-- what is stored in a place of an object: its type, its offset and bits as in c_types, and the value
pub record FilledOf (T : Type 0) : Type 0 where
  pub of : T
  pub offset : ℕ
  pub first : ℕ
  pub width : ℕ
  pub value : CoreOf T

-- the constructors are those of the declared type
mutual
  pub data StmtOf (T : Type 0) : Type 0 where
    Nothing : StmtOf T
    Expression : (e : CoreOf T) → StmtOf T
    Initialise : (local : ℕ) (zero : Bool) (places : List (FilledOf T)) → StmtOf T
    Block : (first locals : ℕ) (statements : StmtsOf T) → StmtOf T
    If : (test : CoreOf T) (then otherwise : StmtOf T) → StmtOf T
    While : (test : CoreOf T) (body : StmtOf T) → StmtOf T
    Do : (body : StmtOf T) (test : CoreOf T) → StmtOf T
    For : (first test last : Option (CoreOf T)) (body : StmtOf T) → StmtOf T
    Switch : (value : CoreOf T) (cases : List CoreCase) (default : Option ℕ) (body : StmtOf T) → StmtOf T
    Label : (label : ℕ) (s : StmtOf T) → StmtOf T
    Goto : (label : ℕ) → StmtOf T
    Break : StmtOf T
    Continue : StmtOf T
    Return : (value : Option (CoreOf T)) → StmtOf T

  pub data StmtsOf (T : Type 0) : Type 0 where
    NoStmt : StmtsOf T
    Stmts : (s : StmtOf T) (others : StmtsOf T) → StmtsOf T

-- ---- those of values

abbrev pub filled_of : FilledPlace → FilledOf ℕ
filled_of p = record { of = p.at.of; offset = p.at.offset; first = p.at.first; width = p.at.width; value = p.value }

abbrev pub stmts_of : List (StmtOf ℕ) → StmtsOf ℕ
stmts_of [] = NoStmt
stmts_of (s ∷ ss) = Stmts s (stmts_of ss)

abbrev pub stmt_layer : CoreStmt-F (StmtOf ℕ) → StmtOf ℕ
stmt_layer CoreStmt-F.Nothing = Nothing
stmt_layer (CoreStmt-F.Expression e) = Expression e
stmt_layer (CoreStmt-F.Initialise local zero places) = Initialise local zero (map filled_of places)
stmt_layer (CoreStmt-F.Block first locals statements) = Block first locals (stmts_of statements)
stmt_layer (CoreStmt-F.If test then otherwise) = If test.value then.value otherwise.value
stmt_layer (CoreStmt-F.While test body) = While test body.value
stmt_layer (CoreStmt-F.Do body test) = Do body.value test
stmt_layer (CoreStmt-F.For h body) = For h.value.first h.value.test h.value.last body.value
stmt_layer (CoreStmt-F.Switch value cases default body) = Switch value.value cases default body.value
stmt_layer (CoreStmt-F.Label label s) = Label label s.value
stmt_layer (CoreStmt-F.Goto label) = Goto label
stmt_layer CoreStmt-F.Break = Break
stmt_layer CoreStmt-F.Continue = Continue
stmt_layer (CoreStmt-F.Return value) = Return value

abbrev pub stmt_of : StmtValue → StmtOf ℕ
stmt_of = fold-CoreStmt (StmtOf ℕ) stmt_layer

-- ---- over types as mathematics has them, where those at places are known

abbrev pub maybe_seen : {T U : Type 0} → (T → U) → Option (CoreOf T) → Option (CoreOf U)
maybe_seen known None = None
maybe_seen known (Some c) = Some (seen known c)

abbrev pub place_seen : {T U : Type 0} → (T → U) → FilledOf T → FilledOf U
place_seen known p = record { of = known p.of; offset = p.offset; first = p.first; width = p.width; value = seen known p.value }

abbrev mutual
  pub stmt_seen : {T U : Type 0} → (T → U) → StmtOf T → StmtOf U
  stmt_seen known Nothing = Nothing
  stmt_seen known (Expression e) = Expression (seen known e)
  stmt_seen known (Initialise local zero places) = Initialise local zero (map (place_seen known) places)
  stmt_seen known (Block first locals ss) = Block first locals (stmts_seen known ss)
  stmt_seen known (If e s t) = If (seen known e) (stmt_seen known s) (stmt_seen known t)
  stmt_seen known (While e s) = While (seen known e) (stmt_seen known s)
  stmt_seen known (Do s e) = Do (stmt_seen known s) (seen known e)
  stmt_seen known (For a b c s) = For (maybe_seen known a) (maybe_seen known b) (maybe_seen known c) (stmt_seen known s)
  stmt_seen known (Switch e cases default s) = Switch (seen known e) cases default (stmt_seen known s)
  stmt_seen known (Label n s) = Label n (stmt_seen known s)
  stmt_seen known (Goto n) = Goto n
  stmt_seen known Break = Break
  stmt_seen known Continue = Continue
  stmt_seen known (Return e) = Return (maybe_seen known e)

  pub stmts_seen : {T U : Type 0} → (T → U) → StmtsOf T → StmtsOf U
  stmts_seen known NoStmt = NoStmt
  stmts_seen known (Stmts s ss) = Stmts (stmt_seen known s) (stmts_seen known ss)

-- ---- the types are at places below this one

abbrev pub ArePlacesIn : ℕ → List (FilledOf ℕ) → Type 0
ArePlacesIn n [] = Unit {0}
ArePlacesIn n (p ∷ ps) = ((p.of < n) × IsIn n p.value) × ArePlacesIn n ps

abbrev pub IsSomeIn : ℕ → Option (CoreOf ℕ) → Type 0
IsSomeIn n e = IfSome e (IsIn n)

abbrev mutual
  pub IsStmtIn : ℕ → StmtOf ℕ → Type 0
  IsStmtIn n Nothing = Unit {0}
  IsStmtIn n (Expression e) = IsIn n e
  IsStmtIn n (Initialise local zero places) = ArePlacesIn n places
  IsStmtIn n (Block first locals ss) = AreStmtsIn n ss
  IsStmtIn n (If e s t) = IsIn n e × (IsStmtIn n s × IsStmtIn n t)
  IsStmtIn n (While e s) = IsIn n e × IsStmtIn n s
  IsStmtIn n (Do s e) = IsStmtIn n s × IsIn n e
  IsStmtIn n (For a b c s) = IsSomeIn n a × (IsSomeIn n b × (IsSomeIn n c × IsStmtIn n s))
  IsStmtIn n (Switch e cases default s) = IsIn n e × IsStmtIn n s
  IsStmtIn n (Label label s) = IsStmtIn n s
  IsStmtIn n (Goto label) = Unit {0}
  IsStmtIn n Break = Unit {0}
  IsStmtIn n Continue = Unit {0}
  IsStmtIn n (Return e) = IsSomeIn n e

  pub AreStmtsIn : ℕ → StmtsOf ℕ → Type 0
  AreStmtsIn n NoStmt = Unit {0}
  AreStmtsIn n (Stmts s ss) = IsStmtIn n s × AreStmtsIn n ss
