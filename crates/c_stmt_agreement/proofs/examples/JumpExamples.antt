-- A block that ends with a jump to the label before it: the goto to that label.
use Rattle.std.specs.Prelude.{◌≡◌, ℕ, true, Some, None, List, [], ◌∷◌, ◌++◌}
use Rattle.std.proofs.Common.{refl, arith}
use Rattle.lcc_base.specs.declared.order.Order.TheVariants.{Big}
use Rattle.objects.specs.declared.value.Value.TheVariants.{Number}
use Rattle.op_forest.specs.declared.op.Op.TheVariants as op
use Rattle.op_forest.specs.declared.suffix.Suffix.TheVariants.{P, V}
use Rattle.op_forest.specs.declared.sym.Sym.TheVariants as sym
use Rattle.op_forest.specs.Callees.{Missing}
use Rattle.op_forest.specs.Lowered.{LoweredUnit}
use Rattle.forests.specs.Bodies.{Setting}
use Rattle.forests.specs.Functions.{Program}
use Rattle.forests.specs.Meaning.{call_of}
use Rattle.forests.specs.Words.{Plain}
use Rattle.dag_forest.specs.declared.entry.Entry.TheVariants.{Value, Root}
use Rattle.dag_forest.specs.declared.kids.Kids.TheVariants as kids
use Rattle.dag_forest.specs.declared.parts.Parts.{Parts}
use Rattle.dag_seam.specs.SplitLaws.{TurnsMean}
use Rattle.c_meaning.specs.StmtTrees as stmt
use Rattle.c_meaning.specs.Units.{UnitTree}
use Rattle.c_runs.specs.Samples as sample
use Rattle.c_runs.specs.Statements.{At, has}
use Rattle.c_runs.specs.Worlds as c
use Rattle.c_match.specs.Ranges.{Map}
use Rattle.piece_runs.specs.Laws.{AreSplit}
use Rattle.piece_runs.specs.Pieces.{Piece, OfBlock, Mark}
use Rattle.piece_runs.specs.Reaches.{BodyRun}
use Rattle.c_expr_agreement.specs.Scenes.{Scene}
use Rattle.lowered_forms.specs.Lows.{Low, jumped, marked}
use Rattle.lowered_forms.proofs.lemmas.Fronts.{front_itself}
use Rattle.c_straight_agree.specs.Narrow.{CharsAreNarrow, ShortsAreNarrow}
use Rattle.c_straight_agree.specs.Standing.{IsBody}
use Rattle.c_tests_agree.specs.Tested.{AreMarkedOnce, Label}
use Rattle.c_stmt_agreement.specs.Comings.{Activation, HasFrame, Origin, Ways, Ending, Came, IsWordOf, IsNoValue}
use Rattle.c_stmt_agreement.specs.Laws.{IsFinal, MaybeTestIsLowered}
use Rattle.c_stmt_agreement.specs.LoweredStmt.{IsEntry, LoweredStmt, Leads}
use Rattle.c_stmt_agreement.proofs.lemmas.Leading.{marks_lead, jumps_lead}
use Rattle.c_stmt_agreement.proofs.lemmas.Paying.{came_unpaid}
use Rattle.c_stmt_agreement.proofs.lemmas.Sequences.{goto_is_lowered}

-- ---- a body that jumps to its own label for ever

abbrev address : Parts
address = record { operator = record { op = op.Addrg; suffix = P }; kids = kids.Zero; sym = sym.Label 7; constant = None }

abbrev jump : Parts
jump = record { operator = record { op = op.Jump; suffix = V }; kids = kids.One 0; sym = sym.Nothing; constant = None }

abbrev pieces : List Piece
pieces = OfBlock [] [] ∷ Mark 7 ∷ OfBlock [] (Value address ∷ Root jump ∷ []) ∷ OfBlock [] [] ∷ []

abbrev program : Program
program = record { callee = λ name. Missing; global = λ name. None; order = Big }

abbrev setting : Setting
setting = record { call = call_of program; environment = record { global = program.global; order = Big; home = record { function = 0; place = 0; made = 0; slots = []; words = 0 } } }

abbrev body : BodyRun
body = record { program = program; setting = setting; pieces = pieces }

abbrev source : UnitTree
source = sample.unit [] [] []

abbrev target : LoweredUnit
target = record { functions = []; objects = []; names = []; order = Big }

abbrev scene : Scene
scene = record { unit = source; own = 0; lowered = target; body = body; frame = record { types = []; addresses = []; others = [] } }

-- no locals
abbrev activation : Activation
activation = record { scene = scene; layout = record { types = []; parameters = 0; places = [] }; locals = 0; result = None }

body_is : AreSplit body → IsBody scene 0
body_is split = record {
  split = split;
  tame = record { functions = tt; objects = tt; texts = tt };
  order = refl;
  words = λ name v e. absurd (let never : ⊥ = cc in never);
  above = omega arith;
  hidden = λ i le lt. absurd (let never : ⊥ = omega (arith, lt) in never);
}

has_frame : AreSplit body → HasFrame activation
has_frame split = record {
  body = body_is split;
  laid = record {
    frame = record {
      four = λ i s e. absurd (let never : ⊥ = cc in never);
      ends = λ i s e. absurd (let never : ⊥ = cc in never);
      apart = λ i j s t e f. absurd (let never : ⊥ = cc in never);
    };
    types = refl;
    places = λ n of e. absurd (let never : ⊥ = cc in never);
    addresses = λ n of z w e p q r. absurd (let never : ⊥ = cc in never);
    wholes = λ n of z e p q. absurd (let never : ⊥ = cc in never);
    functions = λ n lt. absurd (let never : ⊥ = omega (arith, lt) in never);
    objects = λ n lt. absurd (let never : ⊥ = omega (arith, lt) in never);
    texts = λ n lt. absurd (let never : ⊥ = omega (arith, lt) in never);
  };
  result = λ v e. absurd (let never : ⊥ = cc in never);
}

-- ---- the label

abbrev start : Low
start = record { pieces = []; entries = []; slots = []; labels = 8 }

abbrev labelled : Low
labelled = marked 7 start

abbrev labelled_final : IsFinal activation labelled
labelled_final = record { front = record { more = Value address ∷ Root jump ∷ []; before = []; rest = OfBlock [] [] ∷ []; is = refl }; slots = front_itself [] }

label_leads : TurnsMean → AreSplit body → Leads activation start labelled
label_leads means split = marks_lead means activation (has_frame split) 7 start labelled_final

-- ---- the jump

abbrev label : Label scene 7
label = record { before = OfBlock [] [] ∷ []; slots = []; labels = 8; front = labelled_final.front; split = front_itself [] }

jumped_final : IsFinal activation (jumped 7 labelled)
jumped_final = record { front = record { more = []; before = []; rest = []; is = refl }; slots = front_itself [] }

-- the block's entries are those of the lowered goto
jumped_is : (jumped 7 labelled).pieces ≡ labelled.pieces ++ OfBlock [] (Value address ∷ Root jump ∷ []) ∷ []
jumped_is = refl

module _ (chars : CharsAreNarrow) (shorts : ShortsAreNarrow) (means : TurnsMean) (split : AreSplit body) (once : AreMarkedOnce body) where
  jump_leads : Leads activation labelled labelled
  jump_leads = jumps_lead chars shorts means activation (has_frame split) once 7 labelled (omega arith) label jumped_final

  abbrev ways : Ways
  ways = record { breaks = start; continues = start; labels = λ l. labelled }

  abbrev ending : Ending
  ending = record { of = sample.int; copy = None; gives_zero = true }

  goto_lowered : LoweredStmt activation ways ending (stmt.Goto 9) labelled (jumped 7 labelled)
  goto_lowered = goto_is_lowered activation ways ending 9 labelled (jumped 7 labelled) jump_leads

  -- and a test that always holds, as `for (;;)` has it
  test_lowered : MaybeTestIsLowered activation None labelled labelled (jumped 7 labelled)
  test_lowered o k at = came_unpaid activation o labelled o.old k (jump_leads o k at)

-- ---- what is refused

-- no run comes to pieces that aren't the body's
nowhere : (o : Origin) (old : c.World) (k : ℕ) → Came activation o (record { pieces = Mark 7 ∷ []; entries = []; slots = []; labels = 8 }) old k → ⊥
nowhere o old k h = first_differs h.front.is
  where
    first_differs : {before : _} {es : _} {rest : List Piece} → pieces ≡ Mark 7 ∷ OfBlock before es ∷ rest → ⊥
    first_differs e = let never : ⊥ = cc in never

-- nor does its open block come to be one of the body's
not_final : IsFinal activation (record { pieces = Mark 7 ∷ []; entries = []; slots = []; labels = 8 }) → ⊥
not_final h = first_differs h.front.is
  where
    first_differs : {before : _} {es : _} {rest : List Piece} → pieces ≡ Mark 7 ∷ OfBlock before es ∷ rest → ⊥
    first_differs e = let never : ⊥ = cc in never

-- where 0 is to be given, nothing else is; and another word isn't the value
not_one : (map : Map) → IsNoValue true map (Some (Plain (Number 1))) → ⊥
not_one map h = let e = h refl in let never : ⊥ = cc in never

no_word : (map : Map) → IsWordOf (Number 3) map None → ⊥
no_word map h = h

-- a statement without labels isn't entered at one
no_entry : IsEntry (has (stmt.Goto 9)) (At 9) → ⊥
no_entry e = let never : ⊥ = cc in never
