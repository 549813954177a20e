-- The number's label is the word that is read in a table.
use Rattle.std.specs.Prelude.{◌≡◌, ◌<◌, ◌≤◌, ℕ, ◌+◌, ◌*◌, ◌%◌, ◌-◌, ◌^◌, ℤ, pos, false, Some, Option, Result, Ok, length, slice_index_or}
use Rattle.std.proofs.Common.{refl, ap, subst, ◌∙◌, arith}
use Rattle.std.proofs.lemmas.Option.{slice_get-get_or, slice_get_within}
use Rattle.lcc_base.specs.declared.cause.Cause.{Cause}
use Rattle.lcc_base.specs.declared.order.Order.{Order}
use Rattle.objects.specs.declared.operators.Binary.TheVariants as binary
use Rattle.objects.specs.declared.value.ObjectName.{ObjectName}
use Rattle.objects.specs.declared.value.Value.{Value}
use Rattle.objects.specs.declared.value.Value.TheVariants.{Number, Pointer}
use Rattle.objects.specs.Pointers.{moved}
use Rattle.op_forest.specs.declared.suffix.Suffix.TheVariants.{I}
use Rattle.forests.specs.Accesses.{defined, word_read}
use Rattle.forests.specs.Actions.{gave}
use Rattle.forests.specs.Addresses.{plain, moved_from}
use Rattle.forests.specs.Objects.{shapes}
use Rattle.forests.specs.Words.{Word, Plain, Label}
use Rattle.dag_forest.specs.Meaning.{Keeps, Temporary}
use Rattle.dag_seam.proofs.lemmas.Acts.{get_last}
use Rattle.switch_tables.specs.declared.table.Table.{Table}
use Rattle.switch_tables.specs.Cuts.{offset}
use Rattle.switch_tables.specs.Laws.{IsTable}
use Rattle.c_rows_agree.specs.Integers.{number, binary_of}
use Rattle.c_rows_agree.specs.Templates.{Scene as Seen, Gives}
use Rattle.c_rows_agree.specs.Typed.{Typed}
use Rattle.c_rows_agree.proofs.lemmas.Once.{gives_once}
use Rattle.c_rows_agree.proofs.lemmas.Operators.{binary_holds}
use Rattle.c_rows_agree.proofs.lemmas.Suffixes.{number_holds}
use Rattle.c_pointers_agree.specs.Pointers.{name}
use Rattle.c_pointers_agree.proofs.lemmas.Scaled.{IsScaled, index_is_scaled}
use Rattle.piece_runs.specs.Reaches.{keeps_at}
use Rattle.lowered_forms.specs.Values.{slot_read}
use Rattle.lowered_statements.specs.Bodies.{Body}
use Rattle.lowered_statements.specs.Functions.{Function}
use Rattle.lowered_statements.specs.Searches.{Choice, place_in_table, through}
use Rattle.c_straight_agree.specs.Settled.{seen, IsApart, IsSettled}
use Rattle.c_straight_agree.proofs.lemmas.Kept.{any_slot}
use Rattle.c_straight_agree.proofs.lemmas.Lasting.{same_name}
use Rattle.c_straight_agree.proofs.lemmas.SettledTemplates.{binary_set, moved_set, number_set}
use Rattle.c_slots_agree.specs.Laws.{SlotsAreRead}
use Rattle.c_slots_agree.specs.Slots.{IsSlotAt, SlotHolds}
use Rattle.c_stmt_agreement.specs.Comings.{Activation, HasFrame, Origin}
use Rattle.c_stmt_agreement.specs.LoweredStmt.{StandsAt}
use Rattle.c_stmts_agree.specs.Tables.{IsTableAt, HasTables}
use Rattle.c_searches_agree.specs.Jumps.{LabelsAreRead, entry_in}
use Rattle.c_searches_agree.proofs.lemmas.Tables as tables

module _ (slots : SlotsAreRead) (p : Activation) (frame : HasFrame p) (f : Function) (x : Choice) (t : Table) (whole : IsTable x.signed t) (i n : ℕ) (slot : IsSlotAt p.scene i x.slot) (word : n < 2 ^ 32)
    (b : Body) (less : i < length b.low.slots) (has : HasTables p f (through f x t b)) (o : Origin) (k : ℕ) (at : StandsAt p o b.low k) (holds : SlotHolds p.scene i (Plain (Number n)) o.world) (within : offset t.low n < length t.labels) where
  abbrev here : Seen
  here = seen p.scene.body o.map at.values o.world

  abbrev keeps : Keeps
  keeps = keeps_at p.scene.body b.low.pieces b.low.entries at.front

  abbrev named : ℕ
  named = f.tables + length b.tables

  table : IsTableAt p.scene named t.labels
  table = has (length b.tables) t.labels (get_last b.tables t.labels)

  abbrev behind : ℕ
  behind = offset t.low n

  abbrev label : ℕ
  label = slice_index_or t.labels behind x.default

  abbrev object : ObjectName
  object = tables.object p.scene o.map o.old o.world at.stands.stands.matches named t.labels table

  moves : (by : ℕ) → by ≤ 4 * length t.labels → moved (shapes o.world.objects) (Pointer object 0) (pos by) ≡ Ok (Pointer object by)
  moves by le = tables.moves p.scene o.map o.old o.world at.stands.stands.matches named t.labels table by le

  -- ---- the number behind the table's first one

  abbrev difference : Typed
  difference = binary_of binary.Subtract x.signed (slot_read I x.slot) (number x.signed t.low)

  slot_is_read : Gives here (slot_read I x.slot).tree (Plain (Number n)) × IsSettled keeps here (slot_read I x.slot).tree
  slot_is_read = slots p.scene p.locals frame.body frame.laid.frame i x.slot slot b.low at.front at.stands.slots less o.map at.values o.world (Plain (Number n)) holds I

  difference_gives : Gives here difference.tree (Plain (Number behind))
  difference_gives =
      let low = whole.low in
      let h =
      binary_holds here binary.Subtract x.signed (slot_read I x.slot) (number x.signed t.low) (Number n) (Number t.low) (Number ((n + 2 ^ 32 - t.low) % 2 ^ 32))
      (record { word = Plain (Number n); gives = slot_is_read.0; is = refl }) (number_holds here x.signed t.low low) refl
      in
      let same : (n + 2 ^ 32 - t.low) % 2 ^ 32 ≡ behind = omega (arith, low) in
      subst (λ (w : Word). Gives here difference.tree w) (h.is ∙ ap (λ (m : ℕ). Plain (Number m)) same) h.gives

  -- ---- the place of its label

  scaled_is : IsScaled here 4 difference (pos (4 * behind))
  scaled_is =
      let short = table.short in
      index_is_scaled here false 4 behind difference (omega arith) (omega arith) difference_gives (omega (arith, short, within))

  name_gives : Gives here (name named (pos 0)).tree (Plain (Pointer object 0))
  name_gives =
      ap (λ (v : Option Value). gave (moved_from o.world.objects v (pos 0))) table.named
      ∙ ap (λ (r : Result Value Cause). gave (plain (defined r))) (moves 0 (omega arith))

  place_gives : Gives here (place_in_table x t.low named).tree (Plain (Pointer object (4 * behind)))
  place_gives = (
    Plain (Pointer object 0),
    Plain (Number scaled_is.word),
    name_gives,
    scaled_is.gives,
    ap (λ (r : Result Value Cause). gave (plain (defined r))) (ap (λ (y : ℤ). moved (shapes o.world.objects) (Pointer object 0) y) scaled_is.is ∙ moves (4 * behind) (omega (arith, within))),
  )

  place_is_settled : IsSettled keeps here (place_in_table x t.low named).tree
  place_is_settled =
      moved_set keeps here 4 false (name named (pos 0)) difference tt
      (binary_set keeps here binary.Subtract x.signed (slot_read I x.slot) (number x.signed t.low) slot_is_read.1 (number_set keeps here x.signed t.low))

  -- temporaries are in the frame
  table_is_apart : IsApart keeps (Plain (Pointer object (4 * behind)))
  table_is_apart at_name offset_of points m kept is same =
      let at_slot = (any_slot p.scene p.locals frame.body b.low.slots b.low.pieces b.low.entries at.front at.stands.slots m kept is).1 in
      let taken : kept.object ≡ p.scene.body.setting.environment.home.place + at_slot.number = ap (λ (d : Temporary). d.object) at_slot.is in
      let place : table.place ≡ at_name.place = ap (λ (d : ObjectName). d.place) (same_name object at_name (4 * behind) offset_of points) in
      let among = slice_get_within p.scene.lowered.objects table.place table.object table.there in
      let above = frame.body.above in
      omega (arith, taken, place, same, among, above)

  -- ---- the label

  label_is_there : word_read p.scene.body.setting.environment.order o.world.objects (Plain (Pointer object (4 * behind))) ≡ Some (Label p.scene.body.setting.environment.home.function label)
  label_is_there =
      ap (λ (q : Order). word_read q o.world.objects (Plain (Pointer object (4 * behind)))) frame.body.order
      ∙ tables.reads p.scene o.map o.old o.world at.stands.stands.matches named t.labels table behind label (slice_get-get_or t.labels behind x.default within)
      ∙ ap (λ (g : ℕ). Some (Label g label)) table.is_home

  label_is_read : Gives here (entry_in f x t b) (Label p.scene.body.setting.environment.home.function label) × IsSettled keeps here (entry_in f x t b)
  label_is_read = (
    (Plain (Pointer object (4 * behind)), place_gives, ap gave label_is_there),
    (
      place_is_settled,
      λ w given.
          subst (IsApart keeps) (gives_once here (place_in_table x t.low named).tree (Plain (Pointer object (4 * behind))) w place_gives given) table_is_apart,
    ),
  )

pub labels_are_read : SlotsAreRead → LabelsAreRead
labels_are_read slots p frame f x t whole i n slot word not_below not_above b less has o k at holds =
    label_is_read slots p frame f x t whole i n slot word b less has o k at holds (whole.whole n word not_below not_above)
