-- Rows of statements over parts that fit.
use Rattle.std.specs.Prelude.{◌≡◌, ℕ, suc, Bool, true, false, pos, Option, Some, None, IfSome, List}
use Rattle.std.proofs.Common.{refl, arith}
use Rattle.op_forest.specs.declared.frame.Slot.{Slot}
use Rattle.op_forest.specs.declared.op.Op.TheVariants as op
use Rattle.op_forest.specs.declared.suffix.Suffix.TheVariants.{I, V}
use Rattle.c_meaning.specs.declared.core_stmt.CoreCase.{CoreCase}
use Rattle.c_meaning.specs.CoreTrees.{type_of}
use Rattle.c_meaning.specs.Scalars.{is_signed}
use Rattle.c_meaning.specs.Types.{is_record}
use Rattle.c_meaning.specs.Values.{CoreTree}
use Rattle.switch_tables.specs.Searches.{search_over}
use Rattle.switch_tables.specs.Tables.{tables_of}
use Rattle.c_rows_agree.specs.Typed.{Typed, head, as_i}
use Rattle.c_rows_agree.specs.Integers.{number}
use Rattle.dag_forest.specs.declared.kids.Kids.TheVariants.{Zero}
use Rattle.dag_seam.proofs.lemmas.Growing.{root_fits}
use Rattle.lowered_forms.specs.Accesses.{copied}
use Rattle.lowered_forms.specs.Asked.{with_kids}
use Rattle.lowered_forms.specs.Expressions.{low_e, low_test}
use Rattle.lowered_forms.specs.Lows.{Low, acted_one, jumped, marked, with_label, slot_offset, with_slot}
use Rattle.lowered_forms.specs.Places.{parameter}
use Rattle.lowered_forms.specs.Values.{stored_in}
use Rattle.lowered_fit.specs.Fitted.{FitsTyped}
use Rattle.lowered_fit.specs.States.{IsFitState, IsWider, IsFitAfter, standing_in, FitsContext, FitsCore}
use Rattle.lowered_fit.proofs.lemmas.AccessesFit.{copied_goes}
use Rattle.lowered_fit.proofs.lemmas.ExpressionsFit.{value_fits, test_fits}
use Rattle.lowered_fit.proofs.lemmas.Operands.{goes_after, after_behind, lone_goes, jumped_fits, marked_fits, label_fits, slot_goes, slot_lies, stored_goes, operand_typed, typed_still}
use Rattle.lowered_fit.proofs.lemmas.PlacesFit.{number_fits, parameter_fits}
use Rattle.lowered_fit.proofs.lemmas.RowsFit.{i_fits, pointer_read_fits}
use Rattle.lowered_statements.specs.Bodies.{Body, with_low, returned}
use Rattle.lowered_statements.specs.Functions.{Function, Exits, placed_cases, label_or}
use Rattle.lowered_statements.specs.Returns.{hidden, given_by, nothing_given, return_row}
use Rattle.lowered_statements.specs.Rows.{dropped, maybe_dropped, maybe_tested, one_way, two_ways, choice_by, repeated, while_row, do_row, last_and_test, for_labelled, for_row, switch_on, switch_row}
use Rattle.lowered_statements.specs.Searches.{Choice, searched}
use Rattle.statements_fit.specs.Statements.{HasWordTables}
use Rattle.statements_fit.proofs.lemmas.Searching.{searched_goes}

ret_no : op.Ret ≡ op.Addrl → ⊥
ret_no e = cc

stays : (l : Low) → IsFitState l → IsFitAfter l l
stays l h = record { state = h; wide = λ z e. e }

module _ (f : Function) (slots : List Slot) (places : FitsContext f.context slots) where
  -- from a state in a frame that has the slots
  abbrev pub LowFits : (Low → Low) → Type 0
  LowFits go = (l : Low) → IsWider slots l.slots → IsFitState l → IsFitAfter l (go l)

  abbrev pub BodyFits : (Body → Body) → Type 0
  BodyFits go = (b : Body) → IsWider slots b.low.slots → IsFitState b.low → IsFitAfter b.low (go b).low

  pub dropped_fits : (e : CoreTree) → FitsCore f.context slots e → LowFits (λ l. dropped f e l)
  dropped_fits e k l w h = let c = value_fits f.context slots places e k l w h in record { state = c.state; wide = c.wide }

  tested_fits : (e : CoreTree) → FitsCore f.context slots e → (n : ℕ) (when : Bool) → LowFits (λ l. low_test f.context e n when l)
  tested_fits e k n when l w h = test_fits f.context slots places e k n when l w h

  maybe_dropped_fits : (e : Option CoreTree) → IfSome e (FitsCore f.context slots) → LowFits (λ l. maybe_dropped f e l)
  maybe_dropped_fits None k l w h = stays l h
  maybe_dropped_fits (Some e) k l w h = dropped_fits e k l w h

  maybe_tested_fits : (e : Option CoreTree) → IfSome e (FitsCore f.context slots) → (n : ℕ) → LowFits (λ l. maybe_tested f e n l)
  maybe_tested_fits None k n l w h = jumped_fits n l h
  maybe_tested_fits (Some e) k n l w h = tested_fits e k n true l w h

  last_fits : (test last : Option CoreTree) → IfSome test (FitsCore f.context slots) → IfSome last (FitsCore f.context slots) → (here top : ℕ) → LowFits (λ l. last_and_test f test last here top l)
  last_fits test last k m here top l w h =
      let l1 = maybe_dropped f last l in
      let a = maybe_dropped_fits last m l w h in
      let l2 = marked here l1 in
      let c = marked_fits here l1 a.state in
      let wide : IsWider l.slots l2.slots = λ z e. c.wide z (a.wide z e) in
      after_behind l l2 (maybe_tested f test top l2) wide (maybe_tested_fits test k top l2 (λ z e. wide z (w z e)) c.state)

  -- ---- returns

  pub returned_fits : (l : Low) → IsFitState l → IsFitAfter l (returned l)
  returned_fits l h = record {
    state = record {
      current = root_fits l.slots l.entries (with_kids (head op.Ret V) Zero) h.current (record { operator = omega arith; part = tt; operands = tt; local = λ e. absurd (ret_no e) });
      pieces = h.pieces;
    };
    wide = λ z e. e;
  }

  number_given : (v : Typed) (l : Low) → FitsTyped (standing_in l) v → IsFitState l → IsFitAfter l (acted_one (head op.Ret I) (as_i v) l)
  number_given v l t h =
      goes_after l (acted_one (head op.Ret I) (as_i v) l)
      (lone_goes (head op.Ret I) (as_i v) I l h (record { operator = omega arith; part = tt; operands = refl; local = λ e. absurd (ret_no e) }) (i_fits (standing_in l) v v t t))

  pub nothing_fits : (gives : Bool) (l : Low) → IsFitState l → IsFitAfter l (nothing_given gives l)
  nothing_fits true l h = number_given (number true 0) l (number_fits (standing_in l) true 0 (omega arith)) h
  nothing_fits false l h = returned_fits l h

  given_fits : (whole : Bool) (v : Typed) (l : Low) → FitsTyped (standing_in l) v → IsFitState l → IsFitAfter l (given_by whole f v l)
  given_fits true v l t h =
      let m = copied f.context.unit.tags f.result hidden v l in
      let p = parameter_fits (standing_in l) 0 (omega arith) in
      let g = copied_goes f.context f.result hidden v l h (pointer_read_fits (standing_in l) (parameter (pos 0)) (parameter (pos 0)) p p) t in
      after_behind l m (returned m) g.wide (returned_fits m g.state)
  given_fits false v l t h = number_given v l t h

  pub return_fits : (e : Option CoreTree) → IfSome e (FitsCore f.context slots) → LowFits (λ l. return_row f e l)
  return_fits None k l w h = nothing_fits f.gives_zero l h
  return_fits (Some e) k l w h =
      let r = low_e f.context e l in
      let c = value_fits f.context slots places e k l w h in
      after_behind l r.low (given_by (is_record f.result) f r.value r.low) c.wide
      (given_fits (is_record f.result) r.value r.low (operand_typed (standing_in r.low) r.value c.value) c.state)

  -- ---- choices

  one_way_fits : (e : CoreTree) → FitsCore f.context slots e → (then : Body → Body) → BodyFits then → (end : ℕ) → BodyFits (λ b. one_way f e then end b)
  one_way_fits e k then g end b w h =
      let b1 = with_low (low_test f.context e end false b.low) b in
      let a = tested_fits e k end false b.low w h in
      let b2 = then b1 in
      let c = g b1 (λ z i. a.wide z (w z i)) a.state in
      after_behind b.low b2.low (marked end b2.low) (λ z i. c.wide z (a.wide z i)) (marked_fits end b2.low c.state)

  two_ways_fit : (e : CoreTree) → FitsCore f.context slots e → (then otherwise : Body → Body) → BodyFits then → BodyFits otherwise → (n end : ℕ) → BodyFits (λ b. two_ways f e then otherwise n end b)
  two_ways_fit e k then otherwise g i n end b w h =
      let b1 = with_low (low_test f.context e n false b.low) b in
      let a = tested_fits e k n false b.low w h in
      let b2 = then b1 in
      let c = g b1 (λ z q. a.wide z (w z q)) a.state in
      let b3 = with_low (jumped end b2.low) b2 in
      let d = jumped_fits end b2.low c.state in
      let b4 = with_low (marked n b3.low) b3 in
      let j = marked_fits n b3.low d.state in
      let wide : IsWider b.low.slots b4.low.slots = λ z q. j.wide z (d.wide z (c.wide z (a.wide z q))) in
      let b5 = otherwise b4 in
      let m = i b4 (λ z q. wide z (w z q)) j.state in
      after_behind b.low b5.low (marked end b5.low) (λ z q. m.wide z (wide z q)) (marked_fits end b5.low m.state)

  pub choice_fits : (none : Bool) (e : CoreTree) → FitsCore f.context slots e → (then otherwise : Body → Body) → BodyFits then → BodyFits otherwise → BodyFits (λ b. choice_by none f e then otherwise b)
  choice_fits true e k then otherwise g i b w h =
      after_behind b.low (with_label b.low) _ (λ z q. q) (one_way_fits e k then g b.low.labels (with_low (with_label b.low) b) w (label_fits b.low h))
  choice_fits false e k then otherwise g i b w h =
      after_behind b.low (with_label (with_label b.low)) _ (λ z q. q)
      (two_ways_fit e k then otherwise g i b.low.labels (suc b.low.labels) (with_low (with_label (with_label b.low)) b) w (label_fits (with_label b.low) (label_fits b.low h)))

  -- ---- loops

  abbrev pub CodeFits : (Exits → Body → Body) → Type 0
  CodeFits code = (y : Exits) → BodyFits (λ b. code y b)

  repeated_fits : (code : Exits → Body → Body) → CodeFits code → (between : ℕ → Low → Low) → ((n : ℕ) → LowFits (λ l. between n l)) → (top next end : ℕ) → BodyFits (λ b. repeated code between top next end b)
  repeated_fits code g between i top next end b w h =
      let z : Exits = record { breaks = end; continues = next } in
      let b1 = with_low (marked top b.low) b in
      let a = marked_fits top b.low h in
      let b2 = code z b1 in
      let c = g z b1 (λ y q. a.wide y (w y q)) a.state in
      let b3 = with_low (marked next b2.low) b2 in
      let d = marked_fits next b2.low c.state in
      let wide : IsWider b.low.slots b3.low.slots = λ y q. d.wide y (c.wide y (a.wide y q)) in
      let b4 = with_low (between top b3.low) b3 in
      let j = i top b3.low (λ y q. wide y (w y q)) d.state in
      after_behind b.low b4.low (marked end b4.low) (λ y q. j.wide y (wide y q)) (marked_fits end b4.low j.state)

  abbrev three : Low → Low
  three l = with_label (with_label (with_label l))

  three_fit : (l : Low) → IsFitState l → IsFitState (three l)
  three_fit l h = label_fits (with_label (with_label l)) (label_fits (with_label l) (label_fits l h))

  pub while_fits : (e : CoreTree) → FitsCore f.context slots e → (code : Exits → Body → Body) → CodeFits code → BodyFits (λ b. while_row f e code b)
  while_fits e k code g b w h =
      let i = b.low.labels in
      let b1 = with_low (three b.low) b in
      let b2 = with_low (jumped (suc i) b1.low) b1 in
      let a = jumped_fits (suc i) b1.low (three_fit b.low h) in
      after_behind b.low b2.low _ a.wide
      (repeated_fits code g (λ top l. low_test f.context e top true l) (λ top. tested_fits e k top true) i (suc i) (suc (suc i)) b2 (λ y q. a.wide y (w y q)) a.state)

  pub do_fits : (e : CoreTree) → FitsCore f.context slots e → (code : Exits → Body → Body) → CodeFits code → BodyFits (λ b. do_row f e code b)
  do_fits e k code g b w h =
      let i = b.low.labels in
      after_behind b.low (three b.low) _ (λ z q. q)
      (repeated_fits code g (λ top l. low_test f.context e top true l) (λ top. tested_fits e k top true) i (suc i) (suc (suc i)) (with_low (three b.low) b) w (three_fit b.low h))

  for_labelled_fits : (test last : Option CoreTree) → IfSome test (FitsCore f.context slots) → IfSome last (FitsCore f.context slots) → (code : Exits → Body → Body) → CodeFits code
      → BodyFits (λ b. for_labelled f test last code b)
  for_labelled_fits test last k m code g b w h =
      let i = b.low.labels in
      let b1 = with_low (with_label (three b.low)) b in
      let b2 = with_low (jumped (suc (suc (suc i))) b1.low) b1 in
      let a = jumped_fits (suc (suc (suc i))) b1.low (label_fits (three b.low) (three_fit b.low h)) in
      after_behind b.low b2.low _ a.wide
      (repeated_fits code g (λ top l. last_and_test f test last (suc (suc (suc i))) top l) (λ top. last_fits test last k m (suc (suc (suc i))) top) i (suc i) (suc (suc i)) b2
      (λ y q. a.wide y (w y q)) a.state)

  pub for_fits : (first test last : Option CoreTree) → IfSome first (FitsCore f.context slots) → IfSome test (FitsCore f.context slots) → IfSome last (FitsCore f.context slots) → (code : Exits → Body → Body) → CodeFits code
      → BodyFits (λ b. for_row f first test last code b)
  for_fits first test last j k m code g b w h =
      let b1 = with_low (maybe_dropped f first b.low) b in
      let a = maybe_dropped_fits first j b.low w h in
      after_behind b.low b1.low _ a.wide (for_labelled_fits test last k m code g b1 (λ y q. a.wide y (w y q)) a.state)

  -- ---- switches

  switch_on_fits : (signed : Bool) (v : Typed) (cases : List CoreCase) (default : Option ℕ) → HasWordTables f signed cases → (code : Exits → Body → Body) → CodeFits code → (y : Exits) (b : Body)
      → FitsTyped (standing_in b.low) v → IsWider slots b.low.slots → IsFitState b.low → IsFitAfter b.low (switch_on f signed v cases default code y b).low
  switch_on_fits signed v cases default k code g y b t w h =
      let z = slot_offset b.low in
      let end = b.low.labels in
      let b1 = with_low (with_slot b.low) b in
      let a = slot_goes b.low h in
      let b2 = with_low (stored_in z v b1.low) b1 in
      let c = stored_goes z v b1.low a.state (slot_lies b.low) (typed_still (standing_in b.low) (standing_in b1.low) v a.keeps a.wide t) in
      let b3 = with_low (with_label b2.low) b2 in
      let x : Choice = record { slot = z; signed = signed; default = label_or f end default } in
      let s = search_over (tables_of signed (label_or f end default) (placed_cases f cases)) in
      let b4 = searched f x s b3 in
      let d = searched_goes f x s (k (label_or f end default)) b3 (c.wide z (slot_lies b.low)) (label_fits b2.low c.state) in
      let u : Exits = record { breaks = end; continues = y.continues } in
      let wide : IsWider b.low.slots b4.low.slots = λ q e. d.wide q (c.wide q (a.wide q e)) in
      let b5 = code u b4 in
      let j = g u b4 (λ q e. wide q (w q e)) d.state in
      after_behind b.low b5.low (marked end b5.low) (λ q e. j.wide q (wide q e)) (marked_fits end b5.low j.state)

  pub switch_fits : (e : CoreTree) → FitsCore f.context slots e → (cases : List CoreCase) (default : Option ℕ) → HasWordTables f (is_signed (type_of e)) cases → (code : Exits → Body → Body) → CodeFits code → (y : Exits)
      → BodyFits (λ b. switch_row f e cases default code y b)
  switch_fits e m cases default k code g y b w h =
      let r = low_e f.context e b.low in
      let c = value_fits f.context slots places e m b.low w h in
      after_behind b.low r.low _ c.wide
      (switch_on_fits (is_signed (type_of e)) r.value cases default k code g y (with_low r.low b) (operand_typed (standing_in r.low) r.value c.value) (λ q i. c.wide q (w q i)) c.state)
