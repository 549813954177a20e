-- Statements by their parts' lowering: choices, loops and switches.
-- Source: ISO/IEC 9899:1990, 6.6.4, 6.6.5; Fraser and Hanson, A Retargetable C Compiler, chapter 10; Aho, Lam, Sethi and Ullman, Compilers,
-- 6.6 (flow of control).
use Rattle.std.specs.Prelude.{ℕ, suc, ℤ, Bool, true, false, Option, Some, None, List}
use Rattle.c_meaning.specs.declared.core_stmt.CoreCase.{CoreCase}
use Rattle.c_meaning.specs.CoreTrees.{type_of}
use Rattle.c_meaning.specs.Scalars.{is_signed}
use Rattle.c_meaning.specs.Values.{CoreTree}
use Rattle.switch_tables.specs.Searches.{search_over}
use Rattle.switch_tables.specs.Tables.{tables_of}
use Rattle.c_rows_agree.specs.Typed.{Typed}
use Rattle.lowered_forms.specs.Expressions.{low_e, low_test}
use Rattle.lowered_forms.specs.Lows.{Low, jumped, marked, with_label, slot_offset, with_slot}
use Rattle.lowered_forms.specs.Values.{Lowered, stored_in}
use Rattle.lowered_statements.specs.Bodies.{Body, with_low, on_low}
use Rattle.lowered_statements.specs.Functions.{Function, Exits, placed_cases, label_or}
use Rattle.lowered_statements.specs.Searches.{Choice, searched}

-- ---- tests, and what may be left away

abbrev pub dropped : Function → CoreTree → Low → Low
dropped f e l = (low_e f.context e l).low

abbrev pub maybe_dropped : Function → Option CoreTree → Low → Low
maybe_dropped f None l = l
maybe_dropped f (Some e) l = dropped f e l

-- a jump to a label where the test holds, as it does where there is none
abbrev pub maybe_tested : Function → Option CoreTree → ℕ → Low → Low
maybe_tested f None n l = jumped n l
maybe_tested f (Some e) n l = low_test f.context e n true l

-- ---- choices

abbrev pub one_way : Function → CoreTree → (Body → Body) → ℕ → Body → Body
one_way f e then end b = on_low (λ l. marked end l) (then (on_low (λ l. low_test f.context e end false l) b))

abbrev pub two_ways : Function → CoreTree → (Body → Body) → (Body → Body) → ℕ → ℕ → Body → Body
two_ways f e then otherwise n end b =
    on_low (λ l. marked end l) (otherwise (on_low (λ l. marked n (jumped end l)) (then (on_low (λ l. low_test f.context e n false l) b))))

-- by whether there is nothing on the second way
abbrev pub choice_by : Bool → Function → CoreTree → (Body → Body) → (Body → Body) → Body → Body
choice_by true f e then otherwise b = one_way f e then b.low.labels (on_low (λ l. with_label l) b)
choice_by false f e then otherwise b = two_ways f e then otherwise b.low.labels (suc b.low.labels) (on_low (λ l. with_label (with_label l)) b)

-- ---- loops: the body, from its label on; where `continue` goes, what stands between two repetitions; and the end

abbrev pub repeated : (Exits → Body → Body) → (ℕ → Low → Low) → ℕ → ℕ → ℕ → Body → Body
repeated body between top next end b =
    on_low (λ l. marked end (between top (marked next l))) (body (record { breaks = end; continues = next }) (on_low (λ l. marked top l) b))

-- three labels are new, and the second is where it begins, or the first
abbrev pub while_from : Function → CoreTree → (Exits → Body → Body) → ℕ → Body → Body
while_from f e body n b = repeated body (λ top l. low_test f.context e top true l) n (suc n) (suc (suc n)) (on_low (λ l. jumped (suc n) l) b)

abbrev pub do_from : Function → CoreTree → (Exits → Body → Body) → ℕ → Body → Body
do_from f e body n b = repeated body (λ top l. low_test f.context e top true l) n (suc n) (suc (suc n)) b

abbrev pub while_row : Function → CoreTree → (Exits → Body → Body) → Body → Body
while_row f e body b = while_from f e body b.low.labels (on_low (λ l. with_label (with_label (with_label l))) b)

abbrev pub do_row : Function → CoreTree → (Exits → Body → Body) → Body → Body
do_row f e body b = do_from f e body b.low.labels (on_low (λ l. with_label (with_label (with_label l))) b)

-- the last part, and the test behind a label of its own, at which the loop begins
abbrev pub last_and_test : Function → Option CoreTree → Option CoreTree → ℕ → ℕ → Low → Low
last_and_test f test last here top l = maybe_tested f test top (marked here (maybe_dropped f last l))

abbrev pub for_from : Function → Option CoreTree → Option CoreTree → (Exits → Body → Body) → ℕ → Body → Body
for_from f test last body n b =
    repeated body (λ top l. last_and_test f test last (suc (suc (suc n))) top l) n (suc n) (suc (suc n)) (on_low (λ l. jumped (suc (suc (suc n))) l) b)

abbrev pub for_labelled : Function → Option CoreTree → Option CoreTree → (Exits → Body → Body) → Body → Body
for_labelled f test last body b = for_from f test last body b.low.labels (on_low (λ l. with_label (with_label (with_label (with_label l)))) b)

abbrev pub for_row : Function → Option CoreTree → Option CoreTree → Option CoreTree → (Exits → Body → Body) → Body → Body
for_row f first test last body b = for_labelled f test last body (on_low (λ l. maybe_dropped f first l) b)

-- ---- switches

-- the value is in a slot
abbrev pub chosen_by : Function → Choice → List CoreCase → Body → Body
chosen_by f x cases b = searched f x (search_over (tables_of x.signed x.default cases)) b

abbrev pub switched : Function → Choice → List CoreCase → (Exits → Body → Body) → Exits → ℕ → Body → Body
switched f x cases body y end b = on_low (λ l. marked end l) (body (record { breaks = end; continues = y.continues }) (chosen_by f x cases b))

abbrev pub switch_from : Function → Bool → ℤ → List CoreCase → Option ℕ → (Exits → Body → Body) → Exits → ℕ → Body → Body
switch_from f signed z cases default body y end b =
    switched f (record { slot = z; signed = signed; default = label_or f end default }) (placed_cases f cases) body y end b

abbrev pub switch_on : Function → Bool → Typed → List CoreCase → Option ℕ → (Exits → Body → Body) → Exits → Body → Body
switch_on f signed v cases default body y b =
    switch_from f signed (slot_offset b.low) cases default body y b.low.labels (on_low (λ l. with_label (stored_in (slot_offset l) v (with_slot l))) b)

abbrev pub switch_value : Function → Bool → Lowered → List CoreCase → Option ℕ → (Exits → Body → Body) → Exits → Body → Body
switch_value f signed r cases default body y b = switch_on f signed r.value cases default body y (with_low r.low b)

abbrev pub switch_row : Function → CoreTree → List CoreCase → Option ℕ → (Exits → Body → Body) → Exits → Body → Body
switch_row f e cases default body y b = switch_value f (is_signed (type_of e)) (low_e f.context e b.low) cases default body y b
