-- Returns of structures.
use Rattle.std.specs.Prelude.{◌≡◌, ◌≤◌, ℕ, Bool, true, false, Option, Some, None, Result as Checked, Ok, Err, List, [], ◌∷◌, ◌++◌, length}
use Rattle.std.proofs.Common.{true≢false, refl, sym, subst}
use Rattle.lcc_base.specs.declared.cause.Cause.{Cause}
use Rattle.objects.specs.declared.purpose.Purpose.TheVariants.{Initialisation}
use Rattle.objects.specs.declared.value.Value.{Value}
use Rattle.objects.specs.Objects.{Object as Old}
use Rattle.op_forest.specs.declared.op.Op.TheVariants as op
use Rattle.op_forest.specs.declared.suffix.Suffix.TheVariants.{V}
use Rattle.dag_forest.specs.declared.entry.Entry.TheVariants as entry
use Rattle.dag_forest.specs.declared.kids.Kids.TheVariants as kids
use Rattle.dag_forest.specs.declared.parts.Parts.{Parts}
use Rattle.dag_forest.specs.Tally.{node_count}
use Rattle.dag_seam.specs.SplitLaws.{TurnsMean}
use Rattle.c_types.specs.CType.{CType}
use Rattle.c_types.specs.Layout.{Tag}
use Rattle.c_meaning.specs.CoreTrees.{line_of}
use Rattle.c_meaning.specs.StmtTrees as stmt
use Rattle.c_meaning.specs.Types.{is_record}
use Rattle.c_meaning.specs.Values.{CoreTree}
use Rattle.c_runs.specs.Expressions.{eval}
use Rattle.c_runs.specs.Outcomes.{Undefined, OutOfTurns, Exit, Result, Gives, GivesNone, Ends as EndsSo, Return, then_do}
use Rattle.c_runs.specs.Places.{assigned, size_of, align_of}
use Rattle.c_runs.specs.Run.{context}
use Rattle.c_runs.specs.Soundness.{IsSoundResult, EvalStaysSound}
use Rattle.c_runs.specs.Statements.{Start, At}
use Rattle.c_runs.specs.Worlds as c
use Rattle.c_rows_agree.specs.Typed.{Typed, head}
use Rattle.piece_runs.specs.Pieces.{Front}
use Rattle.piece_runs.specs.Reaches.{keeps_at}
use Rattle.lowered_forms.specs.Accesses.{copy_root, copied}
use Rattle.lowered_forms.specs.Asked.{with_kids}
use Rattle.lowered_forms.specs.Expressions.{low_e}
use Rattle.lowered_forms.specs.Lows.{Low}
use Rattle.lowered_forms.proofs.lemmas.Fronts.{front_before}
use Rattle.lowered_forms.proofs.lemmas.NodesOf.{values_have_nodes}
use Rattle.lowered_forms.proofs.lemmas.WithinTemplates.{HasIn}
use Rattle.lowered_statements.specs.Bodies.{returned}
use Rattle.lowered_statements.specs.Functions.{Function}
use Rattle.lowered_statements.specs.Returns.{hidden, return_row, given_by}
use Rattle.c_straight_agree.specs.Agreement.{HasValue, CameTo}
use Rattle.c_straight_agree.specs.Agreement as expression
use Rattle.c_straight_agree.specs.Narrow.{CharsAreNarrow, ShortsAreNarrow}
use Rattle.c_straight_agree.proofs.lemmas.At.{at_of}
use Rattle.c_straight_agree.proofs.lemmas.Coming.{fewer_taken}
use Rattle.c_straight_agree.proofs.lemmas.Copying.{copied_came}
use Rattle.c_straight_agree.proofs.lemmas.Finals.{back_steps, fewer_entries}
use Rattle.c_straight_agree.proofs.lemmas.Parts.{sound_result}
use Rattle.c_stmt_agreement.specs.Comings.{Activation, HasFrame, Origin, Ways, Ending, HoldsPlace, Came, Returned, IsAnything, ReturnedCopy, ReturnedValue, CameFrom}
use Rattle.c_stmt_agreement.specs.Laws.{IsFinal}
use Rattle.c_stmt_agreement.specs.LoweredStmt.{StandsAt, LoweredStmt}
use Rattle.c_stmt_agreement.proofs.lemmas.Expressions.{sound_in, given_came}
use Rattle.c_stmt_agreement.proofs.lemmas.Rebasing.{onward, stands_onward, returned_on}
use Rattle.c_stmt_agreement.proofs.lemmas.Sequences.{no_label}
use Rattle.c_stmts_agree.specs.Parts.{ValueAgrees}
use Rattle.c_stmts_agree.proofs.lemmas.Backing.{room_lowered}
use Rattle.c_stmts_agree.proofs.lemmas.Returning.{finished}
use Rattle.c_stores_agree.specs.Returns.{CopiesResult}
use Rattle.c_stores_agree.proofs.lemmas.Hidden.{address, hidden_holds, hidden_settled}

-- ---- the copy, and the end of the call

abbrev ending : Parts
ending = with_kids (head op.Ret V) kids.Zero

module _ (chars : CharsAreNarrow) (shorts : ShortsAreNarrow) (means : TurnsMean) (p : Activation) (frame : HasFrame p) (to : Value) (result : p.result ≡ Some to) (tags : List Tag) (of : CType) where
  module _ (o : Origin) (k : ℕ) (l : Low) (at : StandsAt p o l k) (le : p.locals ≤ length l.slots) (b : Typed) (v : Value) (within : HasIn (node_count l.entries) b) (has : HasValue p.scene b o.map at.values o.world v) (new : List Old) (is : assigned Initialisation tags of (c.objects o.old) v to ≡ Ok new) where
    abbrev behind : Low
    behind = copied tags of hidden b l

    held : HoldsPlace p to (address p frame to result) o.map o.world
    held = at.result to (address p frame to result) result (frame.result to result).is

    result_copied : (h : Front p.scene.body.pieces behind.pieces behind.entries) → expression.Came p.scene o.start o.turns l behind h b o.map o.old at.values o.world (Some v) (c.with_objects o.old new) k
    result_copied h =
        copied_came p.scene p.locals frame.body tags of chars shorts l le hidden b tt within to v o.start o.turns at.front o.map o.old at.values o.world k at.stands Initialisation held.opens (hidden_holds p frame to result o.map at.values o.world held)
        (hidden_settled p frame to result l at.front at.stands.slots o.map at.values o.world) has new is b v within has h

    pub copy_returned : IsFinal p (returned behind) → Returned p o IsAnything (c.with_objects o.old new) k
    copy_returned final =
        let before = fewer_entries p.scene.body.pieces behind (behind.entries ++ entry.Root ending ∷ []) (front_before behind.entries (entry.Root ending ∷ [])) final in
        let h = before.front in
        let x = result_copied h in
        let o1 : Origin = record { start = o.start; turns = o.turns; map = x.later; old = c.with_objects o.old new; world = x.world } in
        record {
          map = x.later;
          grown = x.grown;
          word = None;
          world = x.world;
          finishes =
              finished means p frame o1 k behind behind.entries (keeps_at p.scene.body behind.pieces behind.entries h) h x.others x.world (at_of p.scene o.start o.turns behind h x.later (c.with_objects o.old new) x.others x.world k x.stands) ending None refl final.front;
          matches = x.stands.stands.matches;
          left = λ place lt private none. x.left place lt private (fewer_taken p.scene p.locals (length l.slots) place le none);
          given = tt;
        }

  -- whatever the copy comes to
  module _ (o : Origin) (k : ℕ) (l : Low) (at : StandsAt p o l k) (le : p.locals ≤ length l.slots) (b : Typed) (v : Value) (within : HasIn (node_count l.entries) b) (has : HasValue p.scene b o.map at.values o.world v) (final : IsFinal p (returned (copied tags of hidden b l))) where
    copied_by : (r : Checked (List Old) Cause) → assigned Initialisation tags of (c.objects o.old) v to ≡ r → ReturnedCopy p o o.old k r
    copied_by (Ok new) is = copy_returned o k l at le b v within has new is final
    copied_by (Err cause) is = tt

    pub structure_returned : ReturnedCopy p o o.old k (assigned Initialisation tags of (c.objects o.old) v to)
    structure_returned = copied_by (assigned Initialisation tags of (c.objects o.old) v to) refl

-- ---- behind the value

module _ (chars : CharsAreNarrow) (shorts : ShortsAreNarrow) (means : TurnsMean) (evals : EvalStaysSound) (p : Activation) (frame : HasFrame p) (f : Function) (e : Ending) (copying : CopiesResult p f e) where
  -- with the unit's structures, and the type that the call gives
  structure_given : (o : Origin) (k : ℕ) (l : Low) (at : StandsAt p o l k) → p.locals ≤ length l.slots → (b : Typed) (v : Value) → HasIn (node_count l.entries) b → HasValue p.scene b o.map at.values o.world v → IsFinal p (given_by true f b l)
      → ReturnedCopy p o o.old k (assigned Initialisation p.scene.unit.tags e.of (c.objects o.old) v copying.place)
  structure_given o k l at le b v within has final =
      subst (λ (of : CType). ReturnedCopy p o o.old k (assigned Initialisation p.scene.unit.tags of (c.objects o.old) v copying.place)) (sym copying.of)
      (subst (λ (tags : List Tag). ReturnedCopy p o o.old k (assigned Initialisation tags f.result (c.objects o.old) v copying.place)) copying.tags
      (structure_returned chars shorts means p frame copying.place copying.result f.context.unit.tags f.result o k l at le b v within has final))

  module _ (y : Ways) (o : Origin) (a : Low) (k : ℕ) (at : StandsAt p o a k) (le : p.locals ≤ length a.slots) (l : Low) (h : Front p.scene.body.pieces l.pieces l.entries) (room : p.locals ≤ length l.slots) (x : Typed) (within : HasIn (node_count l.entries) x) (final : IsFinal p (given_by true f x l)) (b : Low) (line : ℕ) where
    copy_on : (v : Value) (j : ℕ) (old : c.World) (came : Came p o l old j) → HasValue p.scene x came.passed.later came.passed.others came.passed.world v → ReturnedCopy p o old j (assigned Initialisation p.scene.unit.tags e.of (c.objects old) v copying.place)
    copy_on v j old came has =
        onward_copy (assigned Initialisation p.scene.unit.tags e.of (c.objects old) v copying.place) (structure_given (onward p o l old j came) j l (stands_onward p o l old j came) room x v within has final)
      where
        onward_copy : (r : Checked (List Old) Cause) → ReturnedCopy p (onward p o l old j came) old j r → ReturnedCopy p o old j r
        onward_copy (Ok os) q = returned_on p o l old j came IsAnything (c.with_objects old os) j q
        onward_copy (Err cause) q = tt

    value_returned : (r : Result) → IsSoundResult p.scene.unit o.old r → CameTo p.scene o.start o.turns a l h x o.map o.old at.values o.world r → CameFrom p y e o b (then_do r (λ v k1 w1. Return (Some v) line k1 w1))
    value_returned (Gives v j old) s c1 =
        let came = given_came p frame o a k at le l h x (Some v) old j (sound_in p o.old old at.sound s.1.0 s.1.1) c1 in
        subst (λ (to : Option Value). ReturnedValue p e to o v old j) (sym copying.copy) (copy_on v j old came c1.has)
    value_returned (GivesNone m j old) s c1 = tt
    value_returned (EndsSo (Undefined cause m) old) s c1 = tt
    value_returned (EndsSo OutOfTurns old) s c1 = c1
    value_returned (EndsSo (Exit status) old) s c1 = c1

  module _ (x : CoreTree) (v : ValueAgrees p f x) (y : Ways) (l : Low) (le : p.locals ≤ length l.slots) where
    structure_by : (is : Bool) → is ≡ true → IsFinal p (given_by is f (low_e f.context x l).value (low_e f.context x l).low) → LoweredStmt p y e (stmt.Return (Some x)) l (given_by is f (low_e f.context x l).value (low_e f.context x l).low)
    structure_by false is final n i o k at = absurd (true≢false (sym is))
    structure_by true is final Start i o k at =
        let r = low_e f.context x l in
        let m = copied f.context.unit.tags f.result hidden r.value r.low in
        let before = fewer_entries p.scene.body.pieces m (m.entries ++ entry.Root ending ∷ []) (front_before m.entries (entry.Root ending ∷ [])) final in
        let back = (back_steps p.scene.body.pieces).acts (copy_root (size_of f.context.unit.tags f.result) (align_of f.context.unit.tags f.result) hidden r.value) r.low before in
        value_returned y o l k at le r.low back.front (room_lowered p.locals f.context x l le) r.value (values_have_nodes f.context x l at.stands.block).value final (given_by true f r.value r.low) (line_of x)
        (eval (context p.scene.unit p.scene.lowered.order) x k o.old)
        (sound_result p.scene p.locals frame.body evals x v.tame k o.old at.sound)
        (v.lowered l le o.start o.turns at.front back.front o.map o.old at.values o.world k back.slots at.stands at.sound at.wholes)
    structure_by true is final (At m) i o k at = no_label i

    pub structure_return_agrees : is_record f.result ≡ true → IsFinal p (return_row f (Some x) l) → LoweredStmt p y e (stmt.Return (Some x)) l (return_row f (Some x) l)
    structure_return_agrees is final = structure_by (is_record f.result) is final
