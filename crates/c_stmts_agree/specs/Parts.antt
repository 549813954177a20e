-- What is asked of the parts of a statement: that its expressions are lowered, and those that are tests as tests, wherever they stand behind the
-- slots of the locals.
-- Source: ISO/IEC 9899:1990, 6.6.
use Rattle.std.specs.Prelude.{◌≡◌, ◌≤◌, ℕ, Bool, true, false, IfSome, Option, Some, None, List, length}
use Rattle.std.specs.List.{AllByRecursion}
use Rattle.c_meaning.specs.declared.core_stmt.CoreCase.{CoreCase}
use Rattle.c_meaning.specs.CoreTrees.{type_of}
use Rattle.c_meaning.specs.Scalars.{is_signed}
use Rattle.c_meaning.specs.StmtTrees as stmt
use Rattle.c_meaning.specs.Types.{is_record}
use Rattle.c_meaning.specs.Units.{are_among, is_among, labels}
use Rattle.c_meaning.specs.Values.{CoreTree}
use Rattle.c_runs.specs.Soundness.{IsTame}
use Rattle.lowered_forms.specs.Expressions.{low_e, low_test}
use Rattle.lowered_forms.specs.Lows.{Low, with_label, slot_offset, with_slot}
use Rattle.lowered_forms.specs.Values.{Lowered, stored_in}
use Rattle.lowered_statements.specs.Bodies.{Body, with_low}
use Rattle.lowered_statements.specs.Functions.{Function, label_at, label_or, placed_cases}
use Rattle.lowered_statements.specs.Initialisers.{initialised}
use Rattle.lowered_statements.specs.Returns.{return_row}
use Rattle.lowered_statements.specs.Rows.{chosen_by}
use Rattle.lowered_statements.specs.Statements.{StmtTree, StmtTrees}
use Rattle.lowered_labels.specs.Used.{IsOwn}
use Rattle.c_straight_agree.specs.Agreement.{IsLowered, IsPerformed}
use Rattle.c_tests_agree.specs.Tested.{Label, low_at, IsTested}
use Rattle.c_stmt_agreement.specs.Comings.{Activation, Ways, Ending}
use Rattle.c_stmt_agreement.specs.Laws.{IsFinal, LoweredSearch}
use Rattle.c_stmt_agreement.specs.LoweredStmt.{LoweredStmt}
use Rattle.c_stmts_agree.specs.Tables.{HasTables}
use Rattle.c_stmts_agree.specs.Ways.{IsBehind}

-- ---- expressions

-- one whose value isn't used
pub record EffectAgrees (p : Activation) (f : Function) (x : CoreTree) : Type 0 where
  pub tame : IsTame x
  pub performed : (l : Low) → p.locals ≤ length l.slots → IsPerformed p.scene p.layout x l (low_e f.context x l)

pub record ValueAgrees (p : Activation) (f : Function) (x : CoreTree) : Type 0 where
  pub tame : IsTame x
  pub lowered : (l : Low) → p.locals ≤ length l.slots → IsLowered p.scene p.layout x l (low_e f.context x l)

pub record TestAgrees (p : Activation) (f : Function) (x : CoreTree) : Type 0 where
  pub tame : IsTame x
  pub tested : (n : ℕ) (when : Bool) (l : Low) → p.locals ≤ length l.slots → IsTested p.scene p.layout x n when l (low_test f.context x n when l)

-- ---- statements whose lowering isn't spoken of here

-- this lowering stands for the statement, wherever it is done
abbrev pub RowAgrees : Activation → Ending → StmtTree → (Low → Low) → Type 0
RowAgrees p e t row = (y : Ways) (l : Low) → p.locals ≤ length l.slots → IsFinal p (row l) → LoweredStmt p y e t l (row l)

-- a structure that is returned
abbrev pub ReturnAgreesBy : Bool → Activation → Function → Ending → CoreTree → Type 0
ReturnAgreesBy true p f e x = RowAgrees p e (stmt.Return (Some x)) (λ l. return_row f (Some x) l)
ReturnAgreesBy false p f e x = ValueAgrees p f x

abbrev pub ReturnAgrees : Activation → Function → Ending → Option CoreTree → Type 0
ReturnAgrees p f e None = Unit {0}
ReturnAgrees p f e (Some x) = ReturnAgreesBy (is_record f.result) p f e x

-- ---- the search of a switch, behind its value, up to its body

abbrev pub search_by : Function → Bool → Lowered → List CoreCase → Option ℕ → Body → Body
search_by f signed r cases default b =
    chosen_by f (record { slot = slot_offset r.low; signed = signed; default = label_or f r.low.labels default }) (placed_cases f cases)
    (with_low (with_label (stored_in (slot_offset r.low) r.value (with_slot r.low))) b)

abbrev pub search_row : Function → CoreTree → List CoreCase → Option ℕ → Body → Body
search_row f x cases default b = search_by f (is_signed (type_of x)) (low_e f.context x b.low) cases default b

-- the label of its end
abbrev pub search_end : Function → CoreTree → Body → ℕ
search_end f x b = (low_e f.context x b.low).low.labels

-- where the cases' labels are the function's, and its tables the unit's, it leads to where C goes
abbrev pub SearchAgrees : Activation → Function → CoreTree → List CoreCase → Option ℕ → Type 0
SearchAgrees p f x cases default =
    AllByRecursion (λ c. IsOwn f c.label) cases → IfSome default (IsOwn f) → (y : Ways) → ((n : ℕ) → IsOwn f n → IsBehind p.scene (label_at f n) (y.labels n)) → (b : Body) → p.locals ≤ length b.low.slots
    → HasTables p f (search_row f x cases default b) → IsFinal p (search_row f x cases default b).low → (t : Label p.scene (search_end f x b))
    → LoweredSearch p y x cases default b.low (low_at p.scene (search_end f x b) t)

-- ---- statements

abbrev pub MaybeAgrees : Activation → Function → Option CoreTree → Type 0
MaybeAgrees p f x = IfSome x (EffectAgrees p f)

abbrev pub MaybeTestAgrees : Activation → Function → Option CoreTree → Type 0
MaybeTestAgrees p f x = IfSome x (TestAgrees p f)

abbrev mutual
  pub PartsAgree : Activation → Function → Ending → StmtTree → Type 0
  PartsAgree p f e stmt.Nothing = Unit {0}
  PartsAgree p f e (stmt.Expression x) = EffectAgrees p f x
  PartsAgree p f e (stmt.Initialise local zero places) = RowAgrees p e (stmt.Initialise local zero places) (λ l. initialised f local zero places l)
  PartsAgree p f e (stmt.Block first locals ts) = AllPartsAgree p f e ts
  PartsAgree p f e (stmt.If x t u) = TestAgrees p f x × (PartsAgree p f e t × PartsAgree p f e u)
  PartsAgree p f e (stmt.While x t) = TestAgrees p f x × PartsAgree p f e t
  PartsAgree p f e (stmt.Do t x) = PartsAgree p f e t × TestAgrees p f x
  PartsAgree p f e (stmt.For first test last t) = MaybeAgrees p f first × (MaybeTestAgrees p f test × (MaybeAgrees p f last × PartsAgree p f e t))
  PartsAgree p f e (stmt.Switch x cases default t) =
      SearchAgrees p f x cases default × ((are_among cases (labels t) ≡ true) × (IfSome default (λ n. is_among n (labels t) ≡ true) × PartsAgree p f e t))
  PartsAgree p f e (stmt.Label n t) = PartsAgree p f e t
  PartsAgree p f e (stmt.Goto n) = Unit {0}
  PartsAgree p f e stmt.Break = Unit {0}
  PartsAgree p f e stmt.Continue = Unit {0}
  PartsAgree p f e (stmt.Return x) = ReturnAgrees p f e x

  pub AllPartsAgree : Activation → Function → Ending → StmtTrees → Type 0
  AllPartsAgree p f e stmt.NoStmt = Unit {0}
  AllPartsAgree p f e (stmt.Stmts t ts) = PartsAgree p f e t × AllPartsAgree p f e ts
