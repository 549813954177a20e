-- What argument words, calls, and roots that call come to.
-- Source: ISO/IEC 9899:1990, 6.3.2.2; Fraser and Hanson, A Retargetable C Compiler, chapter 5 (ARG, CALL).
use Rattle.std.specs.Prelude.{◌≡◌, ◌≤◌, ◌<◌, ℕ, true, false, Option, Some, None, List, ◌++◌, length}
use Rattle.objects.specs.declared.purpose.Purpose.TheVariants.{Initialisation}
use Rattle.objects.specs.declared.value.Value.{Value}
use Rattle.objects.specs.declared.value.Value.TheVariants.{Function}
use Rattle.forests.specs.Alike.{AreAlike}
use Rattle.forests.specs.Words.{Word}
use Rattle.forests.specs.Worlds.{World, Outcome}
use Rattle.dag_forest.specs.Tally.{node_count}
use Rattle.c_types.specs.CType.{CType}
use Rattle.c_meaning.specs.declared.core_expr.CoreKind.TheVariants as kind
use Rattle.c_meaning.specs.Copies.{LocalAt, own_copies}
use Rattle.c_meaning.specs.CoreTrees.{Core}
use Rattle.c_meaning.specs.Each.{EachIs}
use Rattle.c_meaning.specs.Laws.{IsLocalOf}
use Rattle.c_meaning.specs.Types.{is_record, is_void}
use Rattle.c_meaning.specs.Values.{CoreTrees}
use Rattle.c_runs.specs.Calls.{Call, function_at, built_in_at, called_by}
use Rattle.c_runs.specs.Locals.{IsPassedCall}
use Rattle.c_runs.specs.Outcomes.{Result}
use Rattle.c_runs.specs.Run.{context}
use Rattle.c_runs.specs.Soundness.{IsTame}
use Rattle.c_runs.specs.Worlds as c
use Rattle.c_match.specs.Held.{IsOpenTo}
use Rattle.c_match.specs.Ranges.{Map}
use Rattle.c_match_worlds.specs.Matches.{Matches}
use Rattle.c_pointers_agree.specs.Held.{AreShort}
use Rattle.c_agreement.specs.Agrees.{ComesWith}
use Rattle.c_agreement.specs.Called.{AreValues, passed_values, IsOpenCopy}
use Rattle.c_rows_agree.specs.Typed.{Typed}
use Rattle.piece_runs.specs.Pieces.{Front}
use Rattle.c_expr_agreement.specs.Scenes.{Scene}
use Rattle.lowered_forms.specs.Blocks.{IsWithin}
use Rattle.lowered_forms.specs.Calls.{all_passed, called}
use Rattle.lowered_forms.specs.Expressions.{low_e}
use Rattle.lowered_forms.specs.Lows.{Low}
use Rattle.c_straight_agree.specs.Agreement.{HasWord, CameTo, IsLowered, without_value, IsPerformed}
use Rattle.c_straight_agree.specs.Parts.{AreLoweredParts}
use Rattle.c_straight_agree.specs.Lasting.{LastingValue}
use Rattle.c_straight_agree.specs.Layouts.{FrameLayout, context_in, IsLaidOut}
use Rattle.c_straight_agree.specs.Standing.{IsBody}
use Rattle.c_calls_agree.specs.Programs.{IsProgram}
use Rattle.c_calls_agree.specs.Passing.{HaveValues, Passing, PassedTo}
use Rattle.c_calls_agree.specs.Given.{CallCame}

-- ---- argument words

abbrev pub AreWithin : ℕ → List Typed → Type 0
AreWithin n as' = EachIs (λ (a : Typed). IsWithin n a.tree) as'

-- Behind the roots that pass operands the operands' words wait, behind those that waited before.
abbrev pub ArgumentWordsArePassed : Type 0
ArgumentWordsArePassed =
    (s : Scene) (locals : ℕ) → IsBody s locals → (start : ℕ → Outcome) (turns : ℕ) (l : Low) → locals ≤ length l.slots → (f : Front s.body.pieces l.pieces l.entries) (map : Map) (old : c.World) (values : ℕ → Word) (w : World) (k : ℕ) (us : List Value)
    → Passing s start turns l f map old values w k us → (as' : List Typed) (vs : List Value) → AreWithin (node_count l.entries) as' → HaveValues s locals (length l.slots) as' map values w vs
    → (h : Front s.body.pieces (all_passed as' l).pieces (all_passed as' l).entries) → PassedTo s start turns l (all_passed as' l) h map old values w k (us ++ vs)

-- ---- calls

-- A call that begins alike in both comes to the same, by name or by pointer: one of the unit's functions, where those come to it with fewer turns, or a built-in one; any other is undefined in C.
abbrev pub CallsCome : Type 0
CallsCome =
    (s : Scene) (locals : ℕ) → IsBody s locals → IsProgram s → (map : Map) (w : World) (k : ℕ) (a : Call) → ((j : ℕ) → j < k → (function : ℕ) → function < length s.unit.functions → ComesWith s.unit s.lowered function j)
    → IsPassedCall s.unit a → (is_record a.of ≡ false → a.result ≡ None) → AreShort (c.objects a.world) → Matches s.lowered s.own map a.world w → AreValues map (passed_values a) w.arguments
    → EachIs (IsOpenCopy map w.objects) a.arguments → ((v : Value) → a.result ≡ Some v → IsOpenTo Initialisation map w.objects v)
    → CallCame s map a.world w k a.function a.result (called_by (context s.unit s.lowered.order) (function_at s.unit a.function) (built_in_at s.unit a.function) a k a.world)

-- ---- roots that call

-- A root that calls comes to what C's call comes to, where the call of forests does from each world that stands for C's, with these argument words; and an operand that has some word in any
-- world has one behind it. The value isn't used: of a structure, for which there is a place, it is known.
abbrev pub CallRootsAreMade : Type 0
CallRootsAreMade =
    (s : Scene) (locals : ℕ) → IsBody s locals → IsProgram s → (start : ℕ → Outcome) (turns : ℕ) (m : Low) → locals ≤ length m.slots → (f : Front s.body.pieces m.pieces m.entries) (map : Map) (old : c.World) (values : ℕ → Word) (w : World) (k : ℕ) (vs : List Value)
    → Passing s start turns m f map old values w k vs → (g : Typed) (function : ℕ) → IsWithin (node_count m.entries) g.tree → LastingValue s locals (length m.slots) g map values w (Function function) → (place : Option Value) (r : Result)
    → ((world : World) → AreAlike w.objects world.objects → Matches s.lowered s.own map old world → AreValues map vs world.arguments → CallCame s map old world k function place r)
    → (h : Front s.body.pieces (called g m).pieces (called g m).entries) (a : Typed) → ((later : Map) (others : ℕ → Word) (world : World) → HasWord s a later others world)
    → CameTo s start turns m (called g m) h a map old values w (without_value r)

-- ---- call expressions

-- a local of its type, which is no parameter
abbrev pub IsCopy : FrameLayout → LocalAt → Type 0
IsCopy y l = IsLocalOf y.types l × (y.parameters ≤ l.place)

abbrev pub HasCopies : FrameLayout → List LocalAt → Type 0
HasCopies y ls = EachIs (IsCopy y) ls

-- A call whose parts are lowered, straight or not, is lowered, where there are locals for the copies of the structures that it passes and gives, which are no parameters.
abbrev pub ValuedCallsAreLowered : Type 0
ValuedCallsAreLowered =
    (s : Scene) (locals : ℕ) (y : FrameLayout) → IsBody s locals → IsProgram s → IsLaidOut s y → (n : ℕ) (of : CType) (line : ℕ) (kids : CoreTrees) → is_void of ≡ false → IsTame (Core (kind.Call n) of line kids)
    → HasCopies y (own_copies (kind.Call n) of kids) → AreLoweredParts s locals y kids
    → (l : Low) → locals ≤ length l.slots → IsLowered s y (Core (kind.Call n) of line kids) l (low_e (context_in s y) (Core (kind.Call n) of line kids) l)

-- one of type void is performed
abbrev pub VoidCallsArePerformed : Type 0
VoidCallsArePerformed =
    (s : Scene) (locals : ℕ) (y : FrameLayout) → IsBody s locals → IsProgram s → IsLaidOut s y → (n : ℕ) (of : CType) (line : ℕ) (kids : CoreTrees) → is_void of ≡ true → IsTame (Core (kind.Call n) of line kids)
    → HasCopies y (own_copies (kind.Call n) of kids) → AreLoweredParts s locals y kids
    → (l : Low) → locals ≤ length l.slots → IsPerformed s y (Core (kind.Call n) of line kids) l (low_e (context_in s y) (Core (kind.Call n) of line kids) l)
