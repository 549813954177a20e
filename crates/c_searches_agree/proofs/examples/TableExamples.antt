-- `switch (2) { case 1: ; case 3: ; }`: one table of three labels, of which the second, where no case is, is that of the switch's end.
use Rattle.std.specs.Prelude.{◌≡◌, ◌<◌, ◌≤ℤ◌, ℕ, zero, suc, ◌+◌, pos, negsuc, codes, true, false, Option, Some, None, List, [], ◌∷◌, length, slice_get}
use Rattle.std.proofs.Common.{refl, sym, ap, subst, inl, ◌∙◌, arith}
use Rattle.lcc_base.specs.declared.order.Order.TheVariants.{Big}
use Rattle.objects.specs.declared.value.Value.{Value}
use Rattle.objects.specs.declared.value.Value.TheVariants.{Number}
use Rattle.op_forest.specs.declared.frame.Slot.{Slot}
use Rattle.op_forest.specs.declared.lowered.Datum.TheVariants as datum
use Rattle.op_forest.specs.declared.lowered.LoweredFunction.{LoweredFunction}
use Rattle.op_forest.specs.declared.lowered.LoweredObject.{LoweredObject}
use Rattle.op_forest.specs.Callees.{BuiltIn}
use Rattle.op_forest.specs.Frames.{IsFrame, end_of}
use Rattle.op_forest.specs.Lowered.{LoweredUnit}
use Rattle.op_forest.specs.Units.{function_of, object_place, built_in_named}
use Rattle.forests.specs.Bodies.{Setting}
use Rattle.forests.specs.Functions.{Program}
use Rattle.forests.specs.Meaning.{call_of}
use Rattle.forests.specs.Units.{value_by, program_of}
use Rattle.forests.specs.Words.{Plain, Label as LabelWord, IsWord}
use Rattle.dag_seam.specs.SplitLaws.{TurnsMean}
use Rattle.c_meaning.specs.declared.core_stmt.CoreCase.{CoreCase}
use Rattle.c_meaning.specs.StmtTrees as stmt
use Rattle.c_meaning.specs.Units.{UnitTree}
use Rattle.c_meaning.specs.Values.{CoreTree}
use Rattle.c_runs.specs.Samples as sample
use Rattle.c_runs.specs.Soundness.{EvalStaysSound}
use Rattle.switch_tables.specs.declared.table.Table.{Table}
use Rattle.switch_tables.specs.Laws.{IsTable}
use Rattle.switch_tables.specs.Tables.{tables_of}
use Rattle.switch_tables.proofs.lemmas.TableParts.{are_tables}
use Rattle.piece_runs.specs.Laws.{AreSplit}
use Rattle.piece_runs.specs.Pieces.{Piece}
use Rattle.piece_runs.specs.Reaches.{BodyRun}
use Rattle.c_rows_agree.specs.Templates.{Gives}
use Rattle.c_expr_agreement.specs.Scenes.{Scene}
use Rattle.lowered_forms.specs.Lows.{Low, ended}
use Rattle.lowered_statements.specs.Bodies.{Body}
use Rattle.lowered_statements.specs.FunctionBodies.{no_exits}
use Rattle.lowered_statements.specs.Functions.{Function, placed_cases}
use Rattle.lowered_statements.specs.Returns.{end_by}
use Rattle.lowered_statements.specs.Searches.{Choice, through}
use Rattle.lowered_statements.specs.Statements.{StmtTree, low_s}
use Rattle.c_straight_agree.specs.Narrow.{CharsAreNarrow, ShortsAreNarrow}
use Rattle.c_straight_agree.specs.Settled.{seen}
use Rattle.c_straight_agree.specs.Standing.{IsBody, IsAmong}
use Rattle.c_slots_agree.specs.Laws.{SlotsAreRead}
use Rattle.c_slots_agree.specs.Slots.{IsSlotAt, SlotHolds}
use Rattle.c_tests_agree.specs.Tested.{AreMarkedOnce}
use Rattle.c_choices_agree.proofs.lemmas.Slots.{SlotLaws}
use Rattle.c_stmt_agreement.specs.Comings.{Activation, HasFrame, Origin}
use Rattle.c_stmt_agreement.specs.LoweredStmt.{StandsAt}
use Rattle.c_stmts_agree.specs.Parts.{ValueAgrees, SearchAgrees, search_row}
use Rattle.c_stmts_agree.specs.Tables.{IsTableAt, HasTables}
use Rattle.c_searches_agree.specs.Jumps.{JumpLeads, entry_in}
use Rattle.c_searches_agree.specs.Lengths.{HasFewCases, HasShortTables}
use Rattle.c_searches_agree.proofs.lemmas.Jumping.{jumps_lead}
use Rattle.c_searches_agree.proofs.lemmas.Reading.{labels_are_read}
use Rattle.c_searches_agree.proofs.lemmas.Values.{searches_agree}

-- ---- the switch, in a function with two labels, which have the first numbers

abbrev cases : List CoreCase
cases = record { number = 1; label = 7 } ∷ record { number = 3; label = 9 } ∷ []

abbrev value : CoreTree
value = sample.number 1 2

abbrev switch : StmtTree
switch = stmt.Switch value cases None (stmt.Block 0 0 (stmt.Stmts (stmt.Label 7 stmt.Nothing) (stmt.Stmts (stmt.Label 9 stmt.Nothing) stmt.NoStmt)))

abbrev source : UnitTree
source = sample.unit [] [] []

abbrev function : Function
function = record { context = record { unit = source; order = Big; parameters = 0; places = [] }; locals = []; result = sample.int; gives_zero = false; labels = 7 ∷ 9 ∷ []; tables = 1 }

abbrev begin : Body
begin = record { low = record { pieces = []; entries = []; slots = []; labels = 2 }; tables = [] }

-- the end's label is behind the program's
abbrev labels : List ℕ
labels = 0 ∷ 2 ∷ 1 ∷ []

abbrev table : Table
table = record { low = 1; labels = labels }

is_one : tables_of true 2 (placed_cases function cases) ≡ table ∷ []
is_one = refl

whole : IsTable true table
whole = (are_tables true (placed_cases function cases) 2 (omega arith, (omega arith, tt)) refl).0

-- the value is in a slot
abbrev frame : List Slot
frame = record { offset = negsuc 3; size = 4 } ∷ []

abbrev choice : Choice
choice = record { slot = negsuc 3; signed = true; default = 2 }

slots_are : (low_s function no_exits switch begin).low.slots ≡ frame
slots_are = refl

makes_one : (search_row function value cases None begin).tables ≡ labels ∷ []
makes_one = refl

-- ---- its unit: main, named 0, and the table, named 1

abbrev main : LoweredFunction
main = record { name = 0; words = 0; forest = record { roots = []; frame = frame } }

abbrev made : LoweredObject
made = record { name = 1; size = 12; constant = true; items = datum.Label 0 0 ∷ datum.Label 0 2 ∷ datum.Label 0 1 ∷ [] }

abbrev target : LoweredUnit
target = record { functions = main ∷ []; objects = made ∷ []; names = codes "main" ∷ codes "table.0" ∷ []; order = Big }

abbrev program : Program
program = program_of target

abbrev setting : Setting
setting = record { call = call_of program; environment = record { global = program.global; order = Big; home = record { function = 0; place = 1; made = 1; slots = frame; words = 0 } } }

abbrev pieces : List Piece
pieces = (ended (end_by false (low_s function no_exits switch begin).low)).pieces

abbrev body : BodyRun
body = record { program = program; setting = setting; pieces = pieces }

abbrev scene : Scene
scene = record { unit = source; own = 0; lowered = target; body = body; frame = record { types = []; addresses = []; others = 1 ∷ [] } }

abbrev activation : Activation
activation = record { scene = scene; layout = record { types = []; parameters = 0; places = [] }; locals = 0; result = None }

abbrev is_word_in : Option Value → Type 0
is_word_in None = Unit {0}
is_word_in (Some v) = IsWord (Plain v)

named_by : (name : ℕ) (f : Option LoweredFunction) (o : Option ℕ) (b : Option BuiltIn) → is_word_in (value_by target name f o b)
named_by name (Some f) o b = tt
named_by name None (Some place) b = tt
named_by name None None (Some b) = tt
named_by name None None None = tt

hidden_at : (i : ℕ) → i < 1 → IsAmong (1 + i) (1 ∷ [])
hidden_at zero lt = (0, refl)
hidden_at (suc i) lt = absurd (let never : ⊥ = omega (arith, lt) in never)

body_is : AreSplit body → IsBody scene 0
body_is split = record {
  split = split;
  tame = record { functions = tt; objects = tt; texts = tt };
  order = refl;
  words = λ name v e. subst is_word_in e (named_by name (function_of target name) (object_place target name) (built_in_named target name));
  above = omega arith;
  hidden = λ i le lt. hidden_at i lt;
}

the_slot : (i : ℕ) (s : Slot) → slice_get frame i ≡ Some s → (i ≡ 0) × (record { offset = negsuc 3; size = 4 } ≡ s)
the_slot zero s e = (refl, cc)
the_slot (suc i) s e = absurd (let never : ⊥ = cc in never)

is_frame : IsFrame frame
is_frame = record {
  four = λ i s e. (1, ap (λ (x : Slot). x.offset) (sym (the_slot i s e).1));
  ends = λ i s e. subst (λ (x : Slot). end_of x ≤ℤ pos 0) (the_slot i s e).1 (omega arith);
  apart = λ i j s t e f. inl ((the_slot i s e).0 ∙ sym (the_slot j t f).0);
}

has_frame : AreSplit body → HasFrame activation
has_frame split = record {
  body = body_is split;
  laid = record {
    types = refl;
    frame = is_frame;
    places = λ n of e. absurd (let never : ⊥ = cc in never);
    addresses = λ n of z w e p q r. absurd (let never : ⊥ = cc in never);
    wholes = λ n of z e p q. absurd (let never : ⊥ = cc in never);
    functions = λ n lt. absurd (let never : ⊥ = omega (arith, lt) in never);
    objects = λ n lt. absurd (let never : ⊥ = omega (arith, lt) in never);
    texts = λ n lt. absurd (let never : ⊥ = omega (arith, lt) in never);
  };
  result = λ v e. absurd (let never : ⊥ = cc in never);
}

slot_is : IsSlotAt scene 0 (negsuc 3)
slot_is = record { slot = record { offset = negsuc 3; size = 4 }; there = refl; size = refl; is = refl }

-- ---- the table is the unit's

is_there : IsTableAt scene 1 labels
is_there = record {
  place = 0;
  object = made;
  there = refl;
  behind = omega arith;
  named = refl;
  number = 0;
  function = main;
  runs = refl;
  is_home = refl;
  items = refl;
  size = refl;
  short = omega arith;
}

abbrev with_tables : Low → List (List ℕ) → Body
with_tables l tables = record { low = l; tables = tables }

has_one : (l : Low) → HasTables activation function (with_tables l (labels ∷ []))
has_one l zero others e = let same : labels ≡ others = cc in subst (λ (ls : List ℕ). IsTableAt scene 1 ls) same is_there
has_one l (suc n) others e = absurd (let never : ⊥ = cc in never)

-- ---- what is read in it, and where the search leads

-- at 2 the end's label is
hole_is_read : SlotsAreRead → AreSplit body → (l : Low) → 0 < length l.slots → (o : Origin) (k : ℕ) (at : StandsAt activation o l k) → SlotHolds scene 0 (Plain (Number 2)) o.world
    → Gives (seen body o.map at.values o.world) (entry_in function choice table (with_tables l [])) (LabelWord 0 2)
hole_is_read slots split l less o k at holds =
    (labels_are_read slots activation (has_frame split) function choice table whole 0 2 slot_is (omega arith) refl refl (with_tables l []) less (has_one (through function choice table (with_tables l [])).low) o k at holds).0

module _ (chars : CharsAreNarrow) (shorts : ShortsAreNarrow) (means : TurnsMean) (evals : EvalStaysSound) (laws : SlotLaws) (split : AreSplit body) (once : AreMarkedOnce body) where
  leads : JumpLeads activation function choice table
  leads = jumps_lead chars shorts means laws.reads activation (has_frame split) once function choice table whole

  searched : ValueAgrees activation function value → SearchAgrees activation function value cases None
  searched agrees own own_default y labelled b le tables final t =
      searches_agree chars shorts means evals laws activation (has_frame split) once function value cases None agrees (omega arith, (omega arith, tt)) refl own own_default y labelled b le tables final t

-- its tables have at most four labels, two for each case
is_few : HasFewCases 2 switch
is_few = (omega arith, (tt, (tt, tt)))

is_short : HasShortTables 4 (low_s function no_exits switch begin)
is_short = (omega arith, tt)

-- ---- what is refused

not_one : HasFewCases 1 switch → ⊥
not_one h = let le = h.0 in let never : ⊥ = omega (arith, le) in never

not_so_short : HasShortTables 2 (low_s function no_exits switch begin) → ⊥
not_so_short h = let le = h.0 in let never : ⊥ = omega (arith, le) in never

the_table : (place : ℕ) (o : LoweredObject) → slice_get (made ∷ []) place ≡ Some o → made ≡ o
the_table zero o e = cc
the_table (suc place) o e = absurd (let never : ⊥ = cc in never)

-- two of its labels are no table of the unit
not_two : (l : Low) → HasTables activation function (with_tables l ((0 ∷ 1 ∷ []) ∷ [])) → ⊥
not_two l h =
    let two = h 0 (0 ∷ 1 ∷ []) refl in
    let three = ap (λ (o : LoweredObject). o.size) (the_table two.place two.object two.there) in
    let size = two.size in
    let never : ⊥ = omega (arith, three, size) in
    never
