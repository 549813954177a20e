-- What the lowering of an expression keeps: from each state in which the run stands before it, the run comes to what C's evaluation comes to, and the
-- operand that the expression is lowered to has its value there. It is said of a lowered expression of any kind, straight or not: where blocks are finished
-- in between, nodes of the earlier ones have no values behind it. Calls, copies, tests and conditionals are lowered so if they come to such states.
-- Calls are a premise here (`CallsAreLowered`); whoever proves the others shows `IsLowered` of them, from parts that are lowered so, straight or not. An
-- operand that waits over a block's end is saved first, to a slot behind `length l.slots`: therefore `IsLeftBut` and `kept`.
-- Source: ISO/IEC 9899:1990, 5.1.2.3 (program execution), 6.3 (expressions); Fraser and Hanson, A Retargetable C Compiler, chapters 5 and 12.
use Rattle.std.specs.Prelude.{◌≡◌, ◌≤◌, ◌<◌, ℕ, ◌+◌, true, Option, Some, None, List, length, slice_get}
use Rattle.objects.specs.declared.value.Value.{Value}
use Rattle.objects.specs.Objects.{Object as Old}
use Rattle.forests.specs.Alike.{AreAlike}
use Rattle.forests.specs.Objects.{Object}
use Rattle.forests.specs.Words.{Word, IsWord}
use Rattle.forests.specs.Worlds.{World, Outcome}
use Rattle.dag_forest.specs.Tally.{node_count}
use Rattle.c_types.specs.CType.{CType}
use Rattle.c_meaning.specs.declared.core_expr.CoreKind.TheVariants as kind
use Rattle.c_meaning.specs.CoreTrees.{Core, NoCore, Cores}
use Rattle.c_meaning.specs.Values.{CoreTree, CoreTrees}
use Rattle.c_runs.specs.Expressions.{eval}
use Rattle.c_runs.specs.Outcomes.{Undefined, OutOfTurns, Exit, Result, Gives, GivesNone, Ends}
use Rattle.c_runs.specs.Run.{context}
use Rattle.c_runs.specs.Soundness.{IsTame}
use Rattle.c_runs.specs.Worlds as c
use Rattle.c_match.specs.Left.{IsPrivate}
use Rattle.c_match.specs.Ranges.{Map, Grown}
use Rattle.c_rows_agree.specs.Templates.{Template, Given, Leaf, Gives as GivesWord}
use Rattle.c_rows_agree.specs.Typed.{Typed, Holds}
use Rattle.piece_runs.specs.Pieces.{Front}
use Rattle.piece_runs.specs.Reaches.{Stops}
use Rattle.c_expr_agreement.specs.LoweredExpr.{GrowsTo, Left}
use Rattle.c_expr_agreement.specs.Scenes.{Scene}
use Rattle.lowered_forms.specs.Expressions.{low_e}
use Rattle.lowered_forms.specs.Later.{IsFront}
use Rattle.lowered_forms.specs.Lows.{Low}
use Rattle.lowered_forms.specs.Straight.{straight, all_straight}
use Rattle.lowered_forms.specs.Values.{Lowered}
use Rattle.c_straight_agree.specs.Layouts.{FrameLayout, context_in, IsFair, HoldsWholes}
use Rattle.c_straight_agree.specs.Settled.{seen, IsMild}
use Rattle.c_straight_agree.specs.Standing.{place_of, Standing, IsSoundIn}

-- ---- operands

-- what an operand is that waits: a node, or an address or a constant
abbrev pub Waits : Template → Type 0
Waits (Given n) = Unit {0}
Waits (Leaf h) = IsMild h.operator.op ⊥
Waits t = ⊥

-- it has the value, if there is one, where nodes have these values, in this world
pub record HasValue (s : Scene) (a : Typed) (map : Map) (values : ℕ → Word) (w : World) (v : Value) : Type 0 where
  pub holds : Holds (seen s.body map values w) a v
  pub word : IsWord holds.word
  pub waits : Waits a.tree

-- or some word, where C gives no value: a way of a conditional keeps it, though nothing uses it
pub record HasWord (s : Scene) (a : Typed) (map : Map) (values : ℕ → Word) (w : World) : Type 0 where
  pub word : Word
  pub gives : GivesWord (seen s.body map values w) a.tree word
  pub is : IsWord word
  pub waits : Waits a.tree

abbrev pub HasResult : Scene → Typed → Map → (ℕ → Word) → World → Option Value → Type 0
HasResult s a map values w None = HasWord s a map values w
HasResult s a map values w (Some v) = HasValue s a map values w v

-- ---- what stays

-- the object at this place is a slot of the frame that the lowering takes, behind so many others
abbrev pub IsTaken : Scene → ℕ → ℕ → Type 0
IsTaken s from place = (s.body.setting.environment.home.place + from ≤ place) × (place < s.body.setting.environment.home.place + length s.body.setting.environment.home.slots)

-- what holds nothing of C is as it was, but for slots that the lowering takes
abbrev pub IsLeftBut : Scene → ℕ → Map → List Old → List Object → List Object → Type 0
IsLeftBut s from map old objects new = (place : ℕ) → place < length objects → IsPrivate map old place → (IsTaken s from place → ⊥) → slice_get new place ≡ slice_get objects place

-- ---- what the run comes to

-- It stands behind the expression. Objects that had ranges have the same; those that held nothing of C hold nothing still; and nodes of a
-- block that is open still have their values.
pub record Came (s : Scene) (start : ℕ → Outcome) (turns : ℕ) (l m : Low) (h : Front s.body.pieces m.pieces m.entries) (a : Typed) (map : Map) (before : c.World) (values : ℕ → Word) (first : World) (v : Option Value) (old : c.World) (k : ℕ) : Type 0 where
  pub later : Map
  pub grown : Grown map later
  pub others : ℕ → Word
  pub world : World
  pub stands : Standing s start turns m h later old others world k
  pub alike : AreAlike first.objects world.objects
  pub left : IsLeftBut s (length l.slots) map (c.objects before) first.objects world.objects
  pub private : (place : ℕ) → place < length first.objects → IsPrivate map (c.objects before) place → IsPrivate later (c.objects old) place
  pub kept : GrowsTo (place_of l) (place_of m) → (n : ℕ) → n < node_count l.entries → others n ≡ values n
  pub has : HasResult s a later others world v

-- by what C's evaluation comes to; nothing is asked where it is undefined
abbrev pub CameTo : (s : Scene) → (ℕ → Outcome) → ℕ → Low → (m : Low) → Front s.body.pieces m.pieces m.entries → Typed → Map → c.World → (ℕ → Word) → World → Result → Type 0
CameTo s start turns l m h a map before values first (Gives v k old) = Came s start turns l m h a map before values first (Some v) old k
CameTo s start turns l m h a map before values first (GivesNone line k old) = Came s start turns l m h a map before values first None old k
CameTo s start turns l m h a map before values first (Ends (Undefined cause line) old) = Unit {0}
CameTo s start turns l m h a map before values first (Ends OutOfTurns old) = Stops start turns old.trace
CameTo s start turns l m h a map before values first (Ends (Exit status) old) = Left s start map status old

-- From each state that stands before the expression, where the block comes to be one that goes on behind it, the run comes to what C's evaluation comes to.
abbrev pub IsLowered : Scene → FrameLayout → CoreTree → Low → Lowered → Type 0
IsLowered s y e l r =
    (start : ℕ → Outcome) (turns : ℕ) (f : Front s.body.pieces l.pieces l.entries) (h : Front s.body.pieces r.low.pieces r.low.entries) (map : Map) (before : c.World) (values : ℕ → Word) (first : World) (k : ℕ)
    → IsFront r.low.slots h.before → Standing s start turns l f map before values first k → IsSoundIn s before → HoldsWholes s y first
    → CameTo s start turns l r.low h r.value map before values first (eval (context s.unit s.lowered.order) e k before)

-- ---- expressions whose values aren't used: statements, operands that are dropped, and all of type void

-- what the evaluation comes to but for the value
abbrev pub without_value : Result → Result
without_value (Gives v k old) = GivesNone 0 k old
without_value (GivesNone line k old) = GivesNone line k old
without_value (Ends how old) = Ends how old

-- The same, where nothing is asked of the operand.
abbrev pub IsPerformed : Scene → FrameLayout → CoreTree → Low → Lowered → Type 0
IsPerformed s y e l r =
    (start : ℕ → Outcome) (turns : ℕ) (f : Front s.body.pieces l.pieces l.entries) (h : Front s.body.pieces r.low.pieces r.low.entries) (map : Map) (before : c.World) (values : ℕ → Word) (first : World) (k : ℕ)
    → IsFront r.low.slots h.before → Standing s start turns l f map before values first k → IsSoundIn s before → HoldsWholes s y first
    → CameTo s start turns l r.low h r.value map before values first (without_value (eval (context s.unit s.lowered.order) e k before))

-- ---- parts of expressions

-- a straight expression, lowered behind the slots of the locals
pub record IsPart (s : Scene) (locals : ℕ) (y : FrameLayout) (e : CoreTree) : Type 0 where
  pub goes_on : straight e ≡ true
  pub tame : IsTame e
  pub lowered : (l : Low) → locals ≤ length l.slots → IsLowered s y e l (low_e (context_in s y) e l)

abbrev pub ArePartsOf : Scene → ℕ → FrameLayout → CoreTrees → Type 0
ArePartsOf s locals y NoCore = Unit {0}
ArePartsOf s locals y (Cores c cs) = IsPart s locals y c × ArePartsOf s locals y cs

-- calls whose parts are lowered are lowered
abbrev pub CallsAreLowered : Scene → ℕ → FrameLayout → Type 0
CallsAreLowered s locals y =
    (n : ℕ) (of : CType) (line : ℕ) (kids : CoreTrees) → all_straight kids ≡ true → IsTame (Core (kind.Call n) of line kids) → IsFair s y (Core (kind.Call n) of line kids) → ArePartsOf s locals y kids
    → (l : Low) → locals ≤ length l.slots → IsLowered s y (Core (kind.Call n) of line kids) l (low_e (context_in s y) (Core (kind.Call n) of line kids) l)
