-- The parts of a checked function's statements agree, where each expression does, as a value and as a test, if its value is used.
-- Source: ISO/IEC 9899:1990, 6.6.
use Rattle.std.specs.Prelude.{◌≡◌, ℕ, Bool, true, false, Option, Some, List}
use Rattle.c_types.specs.CType.{CType}
use Rattle.c_meaning.specs.declared.core_stmt.CoreCase.{CoreCase}
use Rattle.c_meaning.specs.CoreTrees.{type_of}
use Rattle.c_meaning.specs.Each.{EachIs, EachExpr}
use Rattle.c_meaning.specs.Fits.{IsPromoted}
use Rattle.c_meaning.specs.StmtTrees.{FilledOf}
use Rattle.c_meaning.specs.StmtTrees as stmt
use Rattle.c_meaning.specs.Types.{is_record}
use Rattle.c_meaning.specs.Units.{FunctionTree, UnitTree, IsLocal, IsReturned, IsStmt, IsValue, are_apart, numbers}
use Rattle.c_meaning.specs.Values.{CoreTree}
use Rattle.switch_tables.specs.Cases.{AreWords}
use Rattle.lowered_statements.specs.Functions.{Function}
use Rattle.lowered_statements.specs.Initialisers.{initialised}
use Rattle.lowered_statements.specs.Returns.{return_row}
use Rattle.lowered_statements.specs.Statements.{StmtTree, StmtTrees}
use Rattle.c_straight_agree.specs.Parts.{is_unused}
use Rattle.c_stmt_agreement.specs.Comings.{Activation, Ending}
use Rattle.c_stmts_agree.specs.Parts.{EffectAgrees, ValueAgrees, TestAgrees, RowAgrees, SearchAgrees, PartsAgree}

pub record ExpressionAgrees (p : Activation) (f : Function) (x : CoreTree) : Type 0 where
  pub value : ValueAgrees p f x
  pub test : TestAgrees p f x

-- What is known of any expression, as a value and as a test where its value is used.
pub record ExpressionIsKnown (p : Activation) (f : Function) (x : CoreTree) : Type 0 where
  pub effect : EffectAgrees p f x
  pub agrees : is_unused x ≡ false → ExpressionAgrees p f x

abbrev pub PlaceIsKnown : Activation → Function → FilledOf CType → Type 0
PlaceIsKnown p f place = ExpressionIsKnown p f place.value

abbrev pub PlaceAgrees : Activation → Function → FilledOf CType → Type 0
PlaceAgrees p f place = ExpressionAgrees p f place.value

-- each case's number is one of 32 bits
abbrev mutual
  pub HasWordCases : StmtTree → Type 0
  HasWordCases (stmt.Block first locals ts) = AllHaveWordCases ts
  HasWordCases (stmt.If x t u) = HasWordCases t × HasWordCases u
  HasWordCases (stmt.While x t) = HasWordCases t
  HasWordCases (stmt.Do t x) = HasWordCases t
  HasWordCases (stmt.For first test last t) = HasWordCases t
  HasWordCases (stmt.Switch x cases default t) = AreWords cases × HasWordCases t
  HasWordCases (stmt.Label n t) = HasWordCases t
  HasWordCases t = Unit {0}

  pub AllHaveWordCases : StmtTrees → Type 0
  AllHaveWordCases stmt.NoStmt = Unit {0}
  AllHaveWordCases (stmt.Stmts t ts) = HasWordCases t × AllHaveWordCases ts

-- the search of each switch leads to where C goes, where its value agrees and its cases' numbers are words
abbrev pub SwitchesLead : Activation → Function → UnitTree → FunctionTree → Type 0
SwitchesLead p f u g =
    (x : CoreTree) (cases : List CoreCase) (default : Option ℕ) → IsValue u g.locals x → IsPromoted (type_of x) → are_apart (numbers cases) ≡ true → AreWords cases → ExpressionAgrees p f x
    → SearchAgrees p f x cases default

-- What is asked of the other parts of a checked function: that initialisers, structures that are returned, and searches of switches are lowered where their
-- expressions agree.
pub record OthersAgree (p : Activation) (f : Function) (e : Ending) (u : UnitTree) (g : FunctionTree) : Type 0 where
  pub initialisers : (local : ℕ) (zero : Bool) (places : List (FilledOf CType)) → IsLocal u g local places → EachIs (PlaceAgrees p f) places → RowAgrees p e (stmt.Initialise local zero places) (λ l. initialised f local zero places l)
  pub structures : (x : CoreTree) → IsReturned u g (Some x) → is_record f.result ≡ true → ExpressionAgrees p f x → RowAgrees p e (stmt.Return (Some x)) (λ l. return_row f (Some x) l)
  pub searches : SwitchesLead p f u g

-- Then the parts of each of its statements agree.
abbrev pub CheckedPartsAgree : Type 0
CheckedPartsAgree =
    (p : Activation) (f : Function) (e : Ending) (u : UnitTree) (g : FunctionTree) → OthersAgree p f e u g
    → (ns : List ℕ) (t : StmtTree) → IsStmt u g ns t → HasWordCases t → EachExpr (ExpressionIsKnown p f) (PlaceIsKnown p f) t → PartsAgree p f e t
