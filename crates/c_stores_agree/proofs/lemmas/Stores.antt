-- One value that is stored at a place, while the run goes on behind it.
use Rattle.std.specs.Prelude.{◌≡◌, ◌≤◌, ℕ, ◌+◌, pos, Bool, true, false, Option, Some, Result as Checked, Ok, List, [], ◌∷◌, length, slice_get}
use Rattle.std.proofs.Common.{refl, ap, subst, ◌∙◌}
use Rattle.lcc_base.specs.declared.cause.Cause.{Cause}
use Rattle.lcc_base.specs.declared.order.Order.{Order}
use Rattle.objects.specs.declared.purpose.Purpose.TheVariants.{Initialisation}
use Rattle.objects.specs.declared.value.Value.{Value}
use Rattle.objects.specs.Objects.{Object as Old}
use Rattle.objects.specs.Pointers.{place_after}
use Rattle.dag_forest.specs.Tally.{node_count}
use Rattle.c_types.specs.CType.{CType}
use Rattle.c_types.specs.Layout.{Tag}
use Rattle.c_meaning.specs.CoreTrees.{line_of}
use Rattle.c_meaning.specs.StmtTrees as stmt
use Rattle.c_meaning.specs.StmtTrees.{FilledOf}
use Rattle.c_meaning.specs.Units.{UnitTree}
use Rattle.c_runs.specs.Calls.{Setting}
use Rattle.c_runs.specs.Expressions.{eval}
use Rattle.c_runs.specs.Outcomes.{Result, Gives, Out, Next, then_do, if_done}
use Rattle.c_runs.specs.Places.{Spot, stored, assigned}
use Rattle.c_runs.specs.Run.{context}
use Rattle.c_runs.specs.Soundness.{IsSound, Keeps, IsTame, IsSoundOut, ExecStaysSound}
use Rattle.c_runs.specs.Statements.{Start, initialised as begun}
use Rattle.c_runs.specs.Statements as does
use Rattle.c_runs.specs.Worlds as c
use Rattle.c_rows_agree.specs.Typed.{Typed}
use Rattle.piece_runs.specs.Pieces.{Front}
use Rattle.lowered_forms.specs.Accesses.{written, copied}
use Rattle.lowered_forms.specs.Lows.{Low}
use Rattle.lowered_forms.proofs.lemmas.WithinTemplates.{HasIn}
use Rattle.c_straight_agree.specs.Agreement.{HasValue, IsLeftBut}
use Rattle.c_straight_agree.specs.Agreement as expression
use Rattle.c_straight_agree.specs.Narrow.{CharsAreNarrow, ShortsAreNarrow}
use Rattle.c_straight_agree.specs.Standing.{IsSoundIn}
use Rattle.c_straight_agree.proofs.lemmas.Copying.{copied_came}
use Rattle.c_straight_agree.proofs.lemmas.Reading.{IsInUnit}
use Rattle.c_straight_agree.proofs.lemmas.Storing.{written_came}
use Rattle.c_stmt_agreement.specs.Comings.{Activation, HasFrame, Origin, Came}
use Rattle.c_stmt_agreement.specs.LoweredStmt.{StandsAt}
use Rattle.c_stmt_agreement.proofs.lemmas.Expressions.{given_came}
use Rattle.c_stores_agree.proofs.lemmas.Bases.{IsPlace}

abbrev pub setting : Activation → Setting
setting p = context p.scene.unit p.scene.lowered.order

pub same_order : (u : UnitTree) (order : Order) → (context u order).order ≡ order
unfolding context
same_order u order = refl

pub same_unit : (u : UnitTree) (order : Order) → (context u order).unit ≡ u
unfolding context
same_unit u order = refl

-- ---- C's world behind a store

-- it is sound, by what one place of the local is filled with
pub filled_sound : ExecStaysSound → (p : Activation) → HasFrame p → (n : ℕ) (x : FilledOf CType) → x.first + x.width ≤ 32 → IsTame x.value → (before : c.World) (k : ℕ) (b : Value) → slice_get before.locals n ≡ Some b → IsSound p.scene.unit before
    → (v : Value) (j : ℕ) (old : c.World) → eval (setting p) x.value k before ≡ Gives v j old → (new : List Old) → does.filled (setting p) x (place_after b (pos x.offset)) v (c.objects old) ≡ Ok new → IsSound p.scene.unit (c.with_objects old new) × Keeps before (c.with_objects old new)
filled_sound execs p frame n x unit tame before k b there sound v j old gives new is =
    let go : ℕ → c.World → List Old → Out = λ k1 w1 os. Next k1 (c.with_objects w1 os) in
    let run = execs p.scene.unit p.scene.lowered.order (stmt.Initialise n false (x ∷ [])) Start k before frame.body.tame ((unit, tame), tt) sound in
    subst (λ (r : Out). IsSoundOut p.scene.unit before r)
    (ap (λ (q : Option Value). begun (setting p) q false (x ∷ []) k before) there
    ∙ ap (λ (r : Result). then_do r (λ u k1 w1. if_done (does.filled (setting p) x (place_after b (pos x.offset)) u (c.objects w1)) (line_of x.value) w1 (λ os. go k1 w1 os))) gives
    ∙ ap (λ (q : Checked (List Old) Cause). if_done q (line_of x.value) old (λ os. go j old os)) is)
    run

-- ---- the run

-- It has come behind the store; what holds nothing of C is as it was, but for slots that are taken later.
pub record StoredAt (p : Activation) (o : Origin) (l m : Low) (old : c.World) (k : ℕ) : Type 0 where
  pub came : Came p o m old k
  pub left : IsLeftBut p.scene (length l.slots) o.map (c.objects o.old) o.world.objects came.passed.world.objects

module _ (chars : CharsAreNarrow) (shorts : ShortsAreNarrow) (p : Activation) (frame : HasFrame p) (o : Origin) (k : ℕ) (l : Low) (at : StandsAt p o l k) (le : p.locals ≤ length l.slots) where
  pub stored_from : (m : Low) (h : Front p.scene.body.pieces m.pieces m.entries) (a : Typed) (v : Option Value) (old : c.World) → IsSoundIn p.scene old → expression.Came p.scene o.start o.turns l m h a o.map o.old at.values o.world v old k → StoredAt p o l m old k
  stored_from m h a v old sound x = record { came = given_came p frame o l k at le m h a v old k sound x; left = x.left }

  module _ (a b : Typed) (q v : Value) (place : IsPlace p o k l at a q) (within : HasIn (node_count l.entries) b) (has : HasValue p.scene b o.map at.values o.world v) (new : List Old) (sound : IsSoundIn p.scene (c.with_objects o.old new)) where
    -- a scalar or a bit-field
    pub spot_stored : (x : Spot) → IsInUnit x → stored Initialisation p.scene.lowered.order x v (c.objects o.old) q ≡ Ok new
        → (front : Front p.scene.body.pieces (written false p.scene.lowered.order x a b l).pieces (written false p.scene.lowered.order x a b l).entries) → StoredAt p o l (written false p.scene.lowered.order x a b l) (c.with_objects o.old new) k
    spot_stored x unit is front =
        stored_from (written false p.scene.lowered.order x a b l) front b (Some v) (c.with_objects o.old new) sound
        (written_came p.scene p.locals frame.body chars shorts x unit false l le a b place.within within q v o.start o.turns at.front o.map o.old at.values o.world k at.stands Initialisation place.opens place.holds place.settled has new is b v within has front)

    -- a structure
    pub structure_stored : (tags : List Tag) (of : CType) → assigned Initialisation tags of (c.objects o.old) v q ≡ Ok new → (front : Front p.scene.body.pieces (copied tags of a b l).pieces (copied tags of a b l).entries) → StoredAt p o l (copied tags of a b l) (c.with_objects o.old new) k
    structure_stored tags of is front =
        stored_from (copied tags of a b l) front b (Some v) (c.with_objects o.old new) sound
        (copied_came p.scene p.locals frame.body tags of chars shorts l le a b place.within within q v o.start o.turns at.front o.map o.old at.values o.world k at.stands Initialisation place.opens place.holds place.settled has new is b v within has front)
