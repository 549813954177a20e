-- What each step keeps, rows of statements keep, if their parts do.
use Rattle.std.specs.Prelude.{ℕ, suc, ℤ, Bool, true, false, Option, Some, None, List}
use Rattle.op_forest.specs.declared.op.Op.TheVariants as op
use Rattle.op_forest.specs.declared.suffix.Suffix.TheVariants.{I}
use Rattle.c_meaning.specs.declared.core_stmt.CoreCase.{CoreCase}
use Rattle.c_meaning.specs.CoreTrees.{type_of}
use Rattle.c_meaning.specs.Scalars.{is_signed}
use Rattle.c_meaning.specs.Types.{is_record}
use Rattle.c_meaning.specs.Values.{CoreTree}
use Rattle.switch_tables.specs.Searches.{search_over}
use Rattle.switch_tables.specs.Tables.{tables_of}
use Rattle.c_runs.specs.Places.{size_of, align_of}
use Rattle.c_rows_agree.specs.Typed.{Typed, head, constant_i, as_i}
use Rattle.lowered_forms.specs.Accesses.{copy_root, copied}
use Rattle.lowered_forms.specs.Expressions.{low_e, low_test}
use Rattle.lowered_forms.specs.Lows.{Low, jumped, marked, with_label, slot_offset, with_slot}
use Rattle.lowered_forms.specs.Values.{stored_in}
use Rattle.lowered_forms.proofs.lemmas.Stepping.{stores_uncounted}
use Rattle.lowered_statements.specs.Bodies.{Body, with_low}
use Rattle.lowered_statements.specs.Functions.{Function, Exits, placed_cases, label_or}
use Rattle.lowered_statements.specs.Returns.{hidden, given_by, nothing_given, return_row}
use Rattle.lowered_statements.specs.Rows.{maybe_dropped, maybe_tested, one_way, two_ways, choice_by, repeated, while_from, while_row, do_row, last_and_test, for_from, for_labelled, for_row, switched, switch_on, switch_row}
use Rattle.lowered_statements.specs.Searches.{Choice, searched}
use Rattle.lowered_statements.specs.Steps.{BodyRelation, BodySteps}
use Rattle.lowered_statements.proofs.lemmas.Stepping.{lows, low_steps, low_jumps, value_step, test_step, jump_step}
use Rattle.lowered_statements.proofs.lemmas.SearchSteps.{searched_step}

module _ (R : BodyRelation) (k : BodySteps R) where
  -- by what is lowered, where there is no table
  abbrev pub LowSteps : (Low → Low) → Type 0
  LowSteps go = (b : Body) → R b (with_low (go b.low) b)

  then_low : (a b : Low → Low) → LowSteps a → LowSteps b → LowSteps (λ l. b (a l))
  then_low a b f g c = k.joins c (with_low (a c.low) c) _ (f c) (g (with_low (a c.low) c))

  pub jumped_step : (n : ℕ) → LowSteps (λ l. jumped n l)
  jumped_step n b = jump_step (lows R b.tables) (low_steps R k b.tables) (low_jumps R k b.tables) n b.low

  stored_step : (z : ℤ) (v : Typed) → LowSteps (λ l. stored_in z v l)
  stored_step z v b = stores_uncounted (lows R b.tables) (low_steps R k b.tables) (low_jumps R k b.tables) z v b.low

  two_labels : LowSteps (λ l. with_label (with_label l))
  two_labels = then_low (λ l. with_label l) (λ l. with_label l) k.label k.label

  three_labels : LowSteps (λ l. with_label (with_label (with_label l)))
  three_labels = then_low (λ l. with_label (with_label l)) (λ l. with_label l) two_labels k.label

  four_labels : LowSteps (λ l. with_label (with_label (with_label (with_label l))))
  four_labels = then_low (λ l. with_label (with_label (with_label l))) (λ l. with_label l) three_labels k.label

  -- ---- tests, and what may be left away

  pub maybe_dropped_step : (f : Function) (e : Option CoreTree) → LowSteps (λ l. maybe_dropped f e l)
  maybe_dropped_step f None b = k.same b
  maybe_dropped_step f (Some e) b = value_step R k f.context e b

  maybe_tested_step : (f : Function) (e : Option CoreTree) (n : ℕ) → LowSteps (λ l. maybe_tested f e n l)
  maybe_tested_step f None n b = jumped_step n b
  maybe_tested_step f (Some e) n b = test_step R k f.context e n true b

  last_step : (f : Function) (test last : Option CoreTree) (here top : ℕ) → LowSteps (λ l. last_and_test f test last here top l)
  last_step f test last here top =
      then_low (λ l. marked here (maybe_dropped f last l)) (λ l. maybe_tested f test top l)
      (then_low (λ l. maybe_dropped f last l) (λ l. marked here l) (maybe_dropped_step f last) (k.marks here)) (maybe_tested_step f test top)

  -- ---- returns

  nothing_step : (gives : Bool) → LowSteps (λ l. nothing_given gives l)
  nothing_step true b = k.acts_one (head op.Ret I) (constant_i 0) b
  nothing_step false b = k.returns b

  given_step : (whole : Bool) (f : Function) (v : Typed) → LowSteps (λ l. given_by whole f v l)
  given_step true f v b =
      let b1 = with_low (copied f.context.unit.tags f.result hidden v b.low) b in
      k.joins b b1 _ (k.acts (copy_root (size_of f.context.unit.tags f.result) (align_of f.context.unit.tags f.result) hidden v) b) (k.returns b1)
  given_step false f v b = k.acts_one (head op.Ret I) (as_i v) b

  pub return_step : (f : Function) (e : Option CoreTree) → LowSteps (λ l. return_row f e l)
  return_step f None b = nothing_step f.gives_zero b
  return_step f (Some e) b =
      let r = low_e f.context e b.low in
      k.joins b (with_low r.low b) _ (value_step R k f.context e b) (given_step (is_record f.result) f r.value (with_low r.low b))

  -- ---- choices

  abbrev PartSteps : (Body → Body) → Type 0
  PartSteps go = (b : Body) → R b (go b)

  one_way_step : (f : Function) (e : CoreTree) (then : Body → Body) → PartSteps then → (end : ℕ) → PartSteps (λ b. one_way f e then end b)
  one_way_step f e then h end b =
      let b1 = with_low (low_test f.context e end false b.low) b in
      k.joins b b1 _ (test_step R k f.context e end false b) (k.joins b1 (then b1) _ (h b1) (k.marks end (then b1)))

  two_ways_step : (f : Function) (e : CoreTree) (then otherwise : Body → Body) → PartSteps then → PartSteps otherwise → (n end : ℕ) → PartSteps (λ b. two_ways f e then otherwise n end b)
  two_ways_step f e then otherwise g h n end b =
      let b1 = with_low (low_test f.context e n false b.low) b in
      let b2 = then b1 in
      let b3 = with_low (jumped end b2.low) b2 in
      let b4 = with_low (marked n b3.low) b3 in
      k.joins b b1 _ (test_step R k f.context e n false b)
      (k.joins b1 b2 _ (g b1)
      (k.joins b2 b3 _ (jumped_step end b2)
      (k.joins b3 b4 _ (k.marks n b3) (k.joins b4 (otherwise b4) _ (h b4) (k.marks end (otherwise b4))))))

  pub choice_step : (nothing : Bool) (f : Function) (e : CoreTree) (then otherwise : Body → Body) → PartSteps then → PartSteps otherwise → PartSteps (λ b. choice_by nothing f e then otherwise b)
  choice_step true f e then otherwise g h b = k.joins b (with_low (with_label b.low) b) _ (k.label b) (one_way_step f e then g b.low.labels (with_low (with_label b.low) b))
  choice_step false f e then otherwise g h b =
      let b1 = with_low (with_label (with_label b.low)) b in
      k.joins b b1 _ (two_labels b) (two_ways_step f e then otherwise g h b.low.labels (suc b.low.labels) b1)

  -- ---- loops

  abbrev CodeSteps : (Exits → Body → Body) → Type 0
  CodeSteps body = (y : Exits) (b : Body) → R b (body y b)

  repeated_step : (body : Exits → Body → Body) → CodeSteps body → (between : ℕ → Low → Low) → ((n : ℕ) → LowSteps (between n)) → (top next end : ℕ) → PartSteps (λ b. repeated body between top next end b)
  repeated_step body h between g top next end b =
      let b1 = with_low (marked top b.low) b in
      let b2 = body (record { breaks = end; continues = next }) b1 in
      let b3 = with_low (marked next b2.low) b2 in
      let b4 = with_low (between top b3.low) b3 in
      k.joins b b1 _ (k.marks top b)
      (k.joins b1 b2 _ (h (record { breaks = end; continues = next }) b1)
      (k.joins b2 b3 _ (k.marks next b2) (k.joins b3 b4 _ (g top b3) (k.marks end b4))))

  while_from_step : (f : Function) (e : CoreTree) (body : Exits → Body → Body) → CodeSteps body → (n : ℕ) → PartSteps (λ b. while_from f e body n b)
  while_from_step f e body h n b =
      let b1 = with_low (jumped (suc n) b.low) b in
      k.joins b b1 _ (jumped_step (suc n) b) (repeated_step body h (λ top l. low_test f.context e top true l) (λ top c. test_step R k f.context e top true c) n (suc n) (suc (suc n)) b1)

  pub while_step : (f : Function) (e : CoreTree) (body : Exits → Body → Body) → CodeSteps body → PartSteps (λ b. while_row f e body b)
  while_step f e body h b = let b1 = with_low (with_label (with_label (with_label b.low))) b in k.joins b b1 _ (three_labels b) (while_from_step f e body h b.low.labels b1)

  pub do_step : (f : Function) (e : CoreTree) (body : Exits → Body → Body) → CodeSteps body → PartSteps (λ b. do_row f e body b)
  do_step f e body h b =
      let n = b.low.labels in
      let b1 = with_low (with_label (with_label (with_label b.low))) b in
      k.joins b b1 _ (three_labels b) (repeated_step body h (λ top l. low_test f.context e top true l) (λ top c. test_step R k f.context e top true c) n (suc n) (suc (suc n)) b1)

  for_from_step : (f : Function) (test last : Option CoreTree) (body : Exits → Body → Body) → CodeSteps body → (n : ℕ) → PartSteps (λ b. for_from f test last body n b)
  for_from_step f test last body h n b =
      let b1 = with_low (jumped (suc (suc (suc n))) b.low) b in
      k.joins b b1 _ (jumped_step (suc (suc (suc n))) b)
      (repeated_step body h (λ top l. last_and_test f test last (suc (suc (suc n))) top l) (last_step f test last (suc (suc (suc n)))) n (suc n) (suc (suc n)) b1)

  for_labelled_step : (f : Function) (test last : Option CoreTree) (body : Exits → Body → Body) → CodeSteps body → PartSteps (λ b. for_labelled f test last body b)
  for_labelled_step f test last body h b =
      let b1 = with_low (with_label (with_label (with_label (with_label b.low)))) b in
      k.joins b b1 _ (four_labels b) (for_from_step f test last body h b.low.labels b1)

  pub for_step : (f : Function) (first test last : Option CoreTree) (body : Exits → Body → Body) → CodeSteps body → PartSteps (λ b. for_row f first test last body b)
  for_step f first test last body h b =
      let b1 = with_low (maybe_dropped f first b.low) b in
      k.joins b b1 _ (maybe_dropped_step f first b) (for_labelled_step f test last body h b1)

  -- ---- switches

  switched_step : (f : Function) (x : Choice) (cases : List CoreCase) (body : Exits → Body → Body) → CodeSteps body → (y : Exits) (end : ℕ) → PartSteps (λ b. switched f x cases body y end b)
  switched_step f x cases body h y end b =
      let z : Exits = record { breaks = end; continues = y.continues } in
      let s = search_over (tables_of x.signed x.default cases) in
      let b1 = searched f x s b in
      k.joins b b1 _ (searched_step R k f x s b) (k.joins b1 (body z b1) _ (h z b1) (k.marks end (body z b1)))

  switch_on_step : (f : Function) (signed : Bool) (v : Typed) (cases : List CoreCase) (default : Option ℕ) (body : Exits → Body → Body) → CodeSteps body → (y : Exits) → PartSteps (λ b. switch_on f signed v cases default body y b)
  switch_on_step f signed v cases default body h y b =
      let z = slot_offset b.low in
      let end = b.low.labels in
      let b1 = with_low (with_slot b.low) b in
      let b2 = with_low (stored_in z v b1.low) b1 in
      let b3 = with_low (with_label b2.low) b2 in
      k.joins b b1 _ (k.slot b)
      (k.joins b1 b2 _ (stored_step z v b1)
      (k.joins b2 b3 _ (k.label b2)
      (switched_step f (record { slot = z; signed = signed; default = label_or f end default }) (placed_cases f cases) body h y end b3)))

  pub switch_step : (f : Function) (e : CoreTree) (cases : List CoreCase) (default : Option ℕ) (body : Exits → Body → Body) → CodeSteps body → (y : Exits) → PartSteps (λ b. switch_row f e cases default body y b)
  switch_step f e cases default body h y b =
      let r = low_e f.context e b.low in
      k.joins b (with_low r.low b) _ (value_step R k f.context e b) (switch_on_step f (is_signed (type_of e)) r.value cases default body h y (with_low r.low b))
