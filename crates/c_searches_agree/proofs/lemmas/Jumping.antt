-- A root that jumps by a word that its operand gives.
use Rattle.std.specs.Prelude.{◌≤◌, ℕ, ◌+◌, pos, true, false, [], ◌∷◌, ◌++◌, length, slice_index_or}
use Rattle.std.proofs.Common.{subst}
use Rattle.objects.specs.declared.value.Value.TheVariants.{Number}
use Rattle.op_forest.specs.declared.suffix.Suffix.TheVariants.{I}
use Rattle.forests.specs.Actions.{Moved}
use Rattle.forests.specs.Words.{Plain, Label as LabelWord}
use Rattle.forests.specs.Worlds.{To}
use Rattle.dag_forest.specs.declared.entry.Entry.TheVariants as entry
use Rattle.dag_forest.specs.Tally.{node_count}
use Rattle.dag_seam.specs.SplitLaws.{TurnsMean}
use Rattle.objects.specs.declared.operators.Binary.TheVariants as binary
use Rattle.switch_tables.specs.declared.table.Table.{Table}
use Rattle.switch_tables.specs.Cuts.{offset}
use Rattle.c_rows_agree.specs.Integers.{number, binary_of}
use Rattle.c_rows_agree.specs.Templates.{Template, Gives}
use Rattle.piece_runs.specs.Reaches.{keeps_at}
use Rattle.lowered_forms.specs.Blocks.{IsWithin}
use Rattle.lowered_forms.specs.Lows.{Low, acted_one, ended}
use Rattle.lowered_forms.specs.Values.{slot_read}
use Rattle.lowered_forms.proofs.lemmas.WithinTemplates.{as_p_in, binary_in, moved_in, number_in, slot_in}
use Rattle.lowered_statements.specs.Bodies.{Body}
use Rattle.lowered_statements.specs.Functions.{Function}
use Rattle.lowered_statements.specs.Searches.{Choice, place_in_table}
use Rattle.c_pointers_agree.specs.Pointers.{name}
use Rattle.c_straight_agree.specs.Narrow.{CharsAreNarrow, ShortsAreNarrow}
use Rattle.c_straight_agree.specs.Settled.{seen, IsSettled}
use Rattle.c_slots_agree.specs.Slots.{SlotHolds}
use Rattle.c_tests_agree.specs.Tested.{AreMarkedOnce, Label, low_at}
use Rattle.c_tests_agree.proofs.lemmas.Branching.{ended_front, passed_by}
use Rattle.c_tests_agree.proofs.lemmas.Jumping.{jump, own_label}
use Rattle.c_stmt_agreement.specs.Comings.{Activation, HasFrame, Origin, Came}
use Rattle.c_stmt_agreement.specs.Laws.{IsFinal}
use Rattle.c_stmt_agreement.specs.LoweredStmt.{StandsAt}
use Rattle.c_stmt_agreement.proofs.lemmas.Expressions.{passed_came}
use Rattle.c_stmt_agreement.proofs.lemmas.Roots.{keeps, behind, root, root_front, stands_before}
use Rattle.c_slots_agree.specs.Laws.{SlotsAreRead}
use Rattle.c_searches_agree.specs.Jumps.{JumpsLead, entry_in}
use Rattle.c_searches_agree.proofs.lemmas.Holding.{room_behind}
use Rattle.c_searches_agree.proofs.lemmas.Reading.{labels_are_read}

module _ (chars : CharsAreNarrow) (shorts : ShortsAreNarrow) (means : TurnsMean) (p : Activation) (frame : HasFrame p) (once : AreMarkedOnce p.scene.body) where
  -- to the label of the word
  module _ (a : Low) (le : p.locals ≤ length a.slots) (t : Template) (m : ℕ) (l : Label p.scene m) (final : IsFinal p (ended (acted_one jump t a))) (o : Origin) (k : ℕ) (at : StandsAt p o a k) where
    pub word_jumps : IsWithin (node_count a.entries) t → IsSettled (keeps_at p.scene.body a.pieces a.entries at.front) (seen p.scene.body o.map at.values o.world) t
        → Gives (seen p.scene.body o.map at.values o.world) t (LabelWord p.scene.body.setting.environment.home.function m) → Came p o (low_at p.scene m l) o.old k
    word_jumps within settled gives =
        let gs = behind p o a k at jump t in
        let r = root p o a k at jump t in
        let front = ended_front p.scene.body.pieces a.pieces a.slots (gs ++ entry.Root r ∷ []) final.front in
        let f = root_front p o a k at jump t chars shorts frame le front in
        let function = p.scene.body.setting.environment.home.function in
        let x = stands_before p o a k at jump t chars shorts frame le (LabelWord function m) within settled gives f in
        passed_came p frame o a k at le (low_at p.scene m l) l.front o.old k at.sound
        (passed_by means p.scene once p.locals frame.body o.start o.turns a.pieces a.slots (keeps p o a k at jump t) k o.map o.old gs f x.values x.world x.stands r final.front x.ready a.labels m l o.world x.alike (length a.slots) x.left final.slots true
        (x.acts (Moved (To m)) (own_label function m)))

-- what is read in a table is over no node of the block
entry_within : (f : Function) (x : Choice) (t : Table) (b : Body) (nodes : ℕ) → IsWithin nodes (entry_in f x t b)
entry_within f x t b nodes =
    let table = f.tables + length b.tables in
    let place = place_in_table x t.low table in
    as_p_in nodes place.suffix place.tree
    (moved_in nodes 4 false (name table (pos 0)) (binary_of binary.Subtract x.signed (slot_read I x.slot) (number x.signed t.low)) tt
    (binary_in nodes binary.Subtract x.signed (slot_read I x.slot) (number x.signed t.low) (slot_in nodes I x.slot) (number_in nodes x.signed t.low)))

pub jumps_lead : CharsAreNarrow → ShortsAreNarrow → TurnsMean → SlotsAreRead → JumpsLead
jumps_lead chars shorts means slots p frame once f x t whole i n slot le word not_below not_above b less tables final m e =
    subst (λ (q : ℕ). (l : Label p.scene q) → (o : Origin) (k : ℕ) (at : StandsAt p o b.low k) → SlotHolds p.scene i (Plain (Number n)) o.world → Came p o (low_at p.scene q l) o.old k) e
    (λ l o k at holds.
    let r = labels_are_read slots p frame f x t whole i n slot word not_below not_above b less tables o k at holds in
    word_jumps chars shorts means p frame once b.low (room_behind p.locals i (length b.low.slots) le less) (entry_in f x t b) (slice_index_or t.labels (offset t.low n) x.default) l final o k at (entry_within f x t b (node_count b.low.entries)) r.1 r.0)
