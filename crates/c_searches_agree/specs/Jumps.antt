-- Jumps through the tables of a switch lead to the labels of numbers.
-- Source: ISO/IEC 9899:1990, 6.6.4.2; Fraser and Hanson, A Retargetable C Compiler, chapter 10 (switch statements, tables of labels).
use Rattle.std.specs.Prelude.{◌≡◌, ◌≤◌, ◌<◌, ℕ, ◌+◌, ◌^◌, false, length, slice_index_or}
use Rattle.objects.specs.declared.value.Value.TheVariants.{Number}
use Rattle.objects.specs.Arithmetic.{is_less}
use Rattle.forests.specs.Words.{Plain, Label as LabelWord}
use Rattle.switch_tables.specs.declared.table.Table.{Table}
use Rattle.switch_tables.specs.Cuts.{offset}
use Rattle.switch_tables.specs.Laws.{IsTable}
use Rattle.switch_tables.specs.Searches.{last_in}
use Rattle.c_rows_agree.specs.Places.{loaded_pointer}
use Rattle.c_rows_agree.specs.Templates.{Template, Gives}
use Rattle.piece_runs.specs.Reaches.{keeps_at}
use Rattle.lowered_forms.specs.Lows.{Low}
use Rattle.lowered_statements.specs.Bodies.{Body}
use Rattle.lowered_statements.specs.Functions.{Function}
use Rattle.lowered_statements.specs.Searches.{Choice, place_in_table, through}
use Rattle.c_straight_agree.specs.Settled.{seen, IsSettled}
use Rattle.c_slots_agree.specs.Slots.{IsSlotAt, SlotHolds}
use Rattle.c_tests_agree.specs.Tested.{AreMarkedOnce, Label, low_at}
use Rattle.c_stmt_agreement.specs.Comings.{Activation, HasFrame, Origin, Came}
use Rattle.c_stmt_agreement.specs.Laws.{IsFinal}
use Rattle.c_stmt_agreement.specs.LoweredStmt.{StandsAt}
use Rattle.c_stmts_agree.specs.Tables.{HasTables}

-- From one place the run comes to another while a slot holds this number. C's world stays, and so do the turns that are left.
abbrev pub ComesHolding : Activation → ℕ → ℕ → Low → Low → Type 0
ComesHolding p i n a b = (o : Origin) (k : ℕ) → StandsAt p o a k → SlotHolds p.scene i (Plain (Number n)) o.world → Came p o b o.old k

-- ---- one jump

-- what is read in a table that is made next, by a number in a slot
abbrev pub entry_in : Function → Choice → Table → Body → Template
entry_in f x t b = (loaded_pointer (place_in_table x t.low (f.tables + length b.tables))).tree

-- Wherever the jump through a table is lowered, and the tables made so far are the unit's: where the number is neither below the table's first number nor above
-- its last one, the run comes to the number's label.
abbrev pub JumpLeads : Activation → Function → Choice → Table → Type 0
JumpLeads p f x t =
    (i n : ℕ) → IsSlotAt p.scene i x.slot → p.locals ≤ i → n < 2 ^ 32 → is_less x.signed n t.low ≡ false → is_less x.signed (last_in t) n ≡ false
    → (b : Body) → i < length b.low.slots → HasTables p f (through f x t b) → IsFinal p (through f x t b).low
    → (m : ℕ) → slice_index_or t.labels (offset t.low n) x.default ≡ m → (l : Label p.scene m) → ComesHolding p i n b.low (low_at p.scene m l)

-- The number's label, which is the word that is read in the table where the run stands; and no temporary of the block is in the table.
abbrev pub IsRead : Activation → Function → Choice → Table → Type 0
IsRead p f x t =
    (i n : ℕ) → IsSlotAt p.scene i x.slot → n < 2 ^ 32 → is_less x.signed n t.low ≡ false → is_less x.signed (last_in t) n ≡ false
    → (b : Body) → i < length b.low.slots → HasTables p f (through f x t b) → (o : Origin) (k : ℕ) (at : StandsAt p o b.low k) → SlotHolds p.scene i (Plain (Number n)) o.world
    → Gives (seen p.scene.body o.map at.values o.world) (entry_in f x t b) (LabelWord p.scene.body.setting.environment.home.function (slice_index_or t.labels (offset t.low n) x.default))
    × IsSettled (keeps_at p.scene.body b.low.pieces b.low.entries at.front) (seen p.scene.body o.map at.values o.world) (entry_in f x t b)

-- ---- laws

-- it is read in a table that has a label for each number
abbrev pub LabelsAreRead : Type 0
LabelsAreRead = (p : Activation) → HasFrame p → (f : Function) (x : Choice) (t : Table) → IsTable x.signed t → IsRead p f x t

-- and the jump leads there
abbrev pub JumpsLead : Type 0
JumpsLead = (p : Activation) → HasFrame p → AreMarkedOnce p.scene.body → (f : Function) (x : Choice) (t : Table) → IsTable x.signed t → JumpLeads p f x t
