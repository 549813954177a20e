-- The lowering of statements, and of functions, keeps blocks and labels known.
use Rattle.std.specs.Prelude.{◌≡◌, ◌<◌, ◌≤◌, ℕ, suc, Bool, true, false, IfSome, Option, Some, None, List, [], ◌∷◌, ◌++◌, length, map, take, slice_get}
use Rattle.std.specs.List.{AllByRecursion}
use Rattle.std.proofs.Common.{refl, sym, subst, arith}
use Rattle.lcc_base.specs.declared.order.Order.{Order}
use Rattle.objects.specs.declared.width.Width.{Width}
use Rattle.objects.specs.declared.width.Width.TheVariants.{One, Two, Four}
use Rattle.op_forest.specs.declared.op.Op.TheVariants as op
use Rattle.op_forest.specs.declared.suffix.Suffix.TheVariants.{I, V}
use Rattle.c_types.specs.CType.{CType}
use Rattle.c_meaning.specs.declared.core_stmt.CoreCase.{CoreCase}
use Rattle.c_meaning.specs.CoreTrees.{type_of}
use Rattle.c_meaning.specs.Scalars.{is_signed, scalar_of}
use Rattle.c_meaning.specs.StmtTrees as stmt
use Rattle.c_meaning.specs.Types.{is_record}
use Rattle.c_meaning.specs.Units.{FunctionTree, UnitTree}
use Rattle.c_meaning.specs.Values.{CoreTree}
use Rattle.c_runs.specs.Places.{size_of, align_of}
use Rattle.switch_tables.specs.Searches.{search_over}
use Rattle.switch_tables.specs.Tables.{tables_of}
use Rattle.dag_forest.specs.declared.entry.Entry.{Entry}
use Rattle.dag_forest.specs.declared.entry.Entry.TheVariants.{Value, Root}
use Rattle.dag_forest.specs.declared.kids.Kids.TheVariants.{Zero}
use Rattle.dag_forest.specs.Tally.{AreDistinct}
use Rattle.dag_seam.proofs.lemmas.Growing.{formed_goes_on}
use Rattle.dag_seam.proofs.lemmas.Keys.{keys_root}
use Rattle.c_rows_agree.specs.Places.{stored_as, stored_by}
use Rattle.c_rows_agree.specs.Templates.{Template}
use Rattle.c_rows_agree.specs.Typed.{Typed, head, constant_i, as_i, as_p}
use Rattle.lowered_forms.specs.Accesses.{copied, copy_root}
use Rattle.lowered_forms.specs.Asked.{with_kids}
use Rattle.lowered_forms.specs.Blocks.{IsWithin}
use Rattle.lowered_forms.specs.Expressions.{low_e, low_test}
use Rattle.lowered_forms.specs.Lows.{Low, jumped, marked, with_label, with_slot, slot_offset}
use Rattle.lowered_forms.specs.Places.{local_by}
use Rattle.lowered_forms.specs.Values.{stored_in}
use Rattle.lowered_forms.proofs.lemmas.Adding.{lowering_adds, testing_adds}
use Rattle.lowered_forms.proofs.lemmas.NodesOf.{values_have_nodes}
use Rattle.lowered_forms.proofs.lemmas.Pending.{nodes, empty_block}
use Rattle.lowered_forms.proofs.lemmas.WithinTemplates as within
use Rattle.lowered_blocks.specs.Known.{AreNamed, IsKnown}
use Rattle.lowered_blocks.proofs.lemmas.ExpressionNames.{expressions_keep_known, tests_keep_known, value_knows}
use Rattle.lowered_blocks.proofs.lemmas.PlainRoots.{copy_plain, stored_plain}
use Rattle.lowered_blocks.proofs.lemmas.PlainTemplates as plain
use Rattle.lowered_statements.specs.Bodies.{Body, with_low, returned}
use Rattle.lowered_statements.specs.FunctionBodies.{function_in, word_passed, parameter_stored, parameters_stored, begun, no_exits, low_f}
use Rattle.lowered_statements.specs.Functions.{Function, Exits, label_at, placed_cases, label_or}
use Rattle.lowered_statements.specs.Layouts.{is_narrow, first_word, layout}
use Rattle.lowered_statements.specs.Returns.{hidden, given_by, nothing_given, return_row, end_by}
use Rattle.lowered_statements.specs.Rows.{maybe_dropped, maybe_tested, choice_by, repeated, while_row, do_row, last_and_test, for_row, for_labelled, switch_row}
use Rattle.lowered_statements.specs.Searches.{Choice, searched}
use Rattle.lowered_statements.specs.Statements.{StmtTree, StmtTrees, is_nothing, low_s, low_all}
use Rattle.lowered_statements.proofs.lemmas.Induction.{statement_steps}
use Rattle.lowered_labels.specs.Used.{IsOwn, GoesWithin, AllGoWithin, AreUsed}
use Rattle.lowered_labels.proofs.lemmas.KnownSearches.{grows, grow_steps, searched_known, search_below}
use Rattle.lowered_labels.proofs.lemmas.KnownSteps.{acted_known, acted_one_known, ended_known, marked_known, jumped_known, label_known, slot_known, stored_known, initialised_known}

-- ---- labels are only added

test_labels : (f : Function) (e : CoreTree) (n : ℕ) (when : Bool) (l : Low) → l.labels ≤ (low_test f.context e n when l).labels
test_labels f e n when l = (testing_adds f.context e n when l).labels

maybe_labels : (f : Function) (e : Option CoreTree) (l : Low) → l.labels ≤ (maybe_dropped f e l).labels
maybe_labels f None l = omega arith
maybe_labels f (Some e) l = (lowering_adds f.context e l).labels

maybe_test_labels : (f : Function) (e : Option CoreTree) (n : ℕ) (l : Low) → l.labels ≤ (maybe_tested f e n l).labels
maybe_test_labels f None n l = omega arith
maybe_test_labels f (Some e) n l = test_labels f e n true l

maybe_known : (f : Function) (e : Option CoreTree) (l : Low) → IsKnown l → IsKnown (maybe_dropped f e l)
maybe_known f None l h = h
maybe_known f (Some e) l h = expressions_keep_known f.context e l h

maybe_test_known : (f : Function) (e : Option CoreTree) (n : ℕ) (l : Low) → n < l.labels → IsKnown l → IsKnown (maybe_tested f e n l)
maybe_test_known f None n l lt h = jumped_known n l lt h
maybe_test_known f (Some e) n l lt h = tests_keep_known f.context e n true l lt h

-- ---- returns

named_behind : (k : ℕ) (es : List Entry) → AreNamed k es → AreNamed k (es ++ Root (with_kids (head op.Ret V) Zero) ∷ [])
named_behind k [] h = ((tt, tt), tt)
named_behind k (Value x ∷ es) h = (h.0, named_behind k es h.1)
named_behind k (Root x ∷ es) h = (h.0, named_behind k es h.1)

returned_known : (l : Low) → IsKnown l → IsKnown (returned l)
returned_known l h =
    let x = with_kids (head op.Ret V) Zero in
    record {
      pieces = h.pieces;
      block = record { formed = (formed_goes_on l.entries h.block.formed x tt).1; distinct = subst AreDistinct (sym (keys_root l.entries x)) h.block.distinct };
      named = named_behind l.labels l.entries h.named;
    }

nothing_known : (gives : Bool) (l : Low) → IsKnown l → IsKnown (nothing_given gives l)
nothing_known true l h = acted_one_known (head op.Ret I) (constant_i 0) l tt tt tt tt h
nothing_known false l h = returned_known l h

given_known : (whole : Bool) (f : Function) (v : Typed) (l : Low) → plain.IsPlainValue v → within.HasIn (nodes l) v → IsKnown l → IsKnown (given_by whole f v l)
given_known true f v l p i h =
    let size = size_of f.context.unit.tags f.result in
    let align = align_of f.context.unit.tags f.result in
    returned_known (copied f.context.unit.tags f.result hidden v l)
    (acted_known (copy_root size align hidden v) l (copy_plain size align hidden v tt p) tt (within.as_p_in (nodes l) v.suffix v.tree i) h)
given_known false f v l p i h = acted_one_known (head op.Ret I) (as_i v) l tt tt (plain.as_i_in v.suffix v.tree p) (within.as_i_in (nodes l) v.suffix v.tree i) h

return_known : (f : Function) (e : Option CoreTree) (l : Low) → IsKnown l → IsKnown (return_row f e l)
return_known f None l h = nothing_known f.gives_zero l h
return_known f (Some e) l h =
    let r = low_e f.context e l in
    given_known (is_record f.result) f r.value r.low (value_knows f.context e l h).plain (values_have_nodes f.context e l h.block).value (expressions_keep_known f.context e l h)

-- ---- choices

-- from a body with so many labels on
abbrev Knows : ℕ → (Body → Body) → Type 0
Knows k go = (b : Body) → k ≤ b.low.labels → IsKnown b.low → IsKnown (go b).low × (b.low.labels ≤ (go b).low.labels)

choice_known : (nothing : Bool) (f : Function) (e : CoreTree) (k : ℕ) (then otherwise : Body → Body) → Knows k then → Knows k otherwise → (b : Body) → k ≤ b.low.labels → IsKnown b.low → IsKnown (choice_by nothing f e then otherwise b).low
choice_known true f e k then otherwise g i b le h =
    let end = b.low.labels in
    let l1 = with_label b.low in
    let l2 = low_test f.context e end false l1 in
    let e2 : suc end ≤ l2.labels = test_labels f e end false l1 in
    let x = g (with_low l2 b) (omega (arith, le, e2)) (tests_keep_known f.context e end false l1 (omega arith) (label_known b.low h)) in
    let b3 = then (with_low l2 b) in
    let e3 : l2.labels ≤ b3.low.labels = x.1 in
    marked_known end b3.low (omega (arith, e2, e3)) x.0
choice_known false f e k then otherwise g i b le h =
    let n = b.low.labels in
    let end = suc n in
    let l1 = with_label (with_label b.low) in
    let l2 = low_test f.context e n false l1 in
    let e2 : suc end ≤ l2.labels = test_labels f e n false l1 in
    let x = g (with_low l2 b) (omega (arith, le, e2)) (tests_keep_known f.context e n false l1 (omega arith) (label_known (with_label b.low) (label_known b.low h))) in
    let b3 = then (with_low l2 b) in
    let e3 : l2.labels ≤ b3.low.labels = x.1 in
    let l4 = jumped end b3.low in
    let h4 = jumped_known end b3.low (omega (arith, e2, e3)) x.0 in
    let l5 = marked n l4 in
    let y = i (with_low l5 b3) (omega (arith, le, e2, e3)) (marked_known n l4 (omega (arith, e2, e3)) h4) in
    let b6 = otherwise (with_low l5 b3) in
    let e6 : b3.low.labels ≤ b6.low.labels = y.1 in
    marked_known end b6.low (omega (arith, e2, e3, e6)) y.0

-- ---- loops

-- a body whose own exits have been used
abbrev KnowsWithin : ℕ → (Exits → Body → Body) → Type 0
KnowsWithin k body = (y : Exits) (b : Body) → k ≤ b.low.labels → y.breaks < b.low.labels → y.continues < b.low.labels → IsKnown b.low → IsKnown (body y b).low × (b.low.labels ≤ (body y b).low.labels)

repeated_known : (body : Exits → Body → Body) (k : ℕ) → KnowsWithin k body → (between : ℕ → Low → Low) → ((n : ℕ) (l : Low) → n < l.labels → k ≤ l.labels → IsKnown l → IsKnown (between n l) × (l.labels ≤ (between n l).labels)) → (top next end : ℕ) (b : Body)
    → top < b.low.labels → next < b.low.labels → end < b.low.labels → k ≤ b.low.labels → IsKnown b.low → IsKnown (repeated body between top next end b).low
repeated_known body k g between i top next end b lt ln lend le h =
    let y : Exits = record { breaks = end; continues = next } in
    let l1 = marked top b.low in
    let x = g y (with_low l1 b) le lend ln (marked_known top b.low lt h) in
    let b2 = body y (with_low l1 b) in
    let e2 : b.low.labels ≤ b2.low.labels = x.1 in
    let l3 = marked next b2.low in
    let h3 = marked_known next b2.low (omega (arith, ln, e2)) x.0 in
    let z = i top l3 (omega (arith, lt, e2)) (omega (arith, le, e2)) h3 in
    let l4 = between top l3 in
    let e4 : b2.low.labels ≤ l4.labels = z.1 in
    marked_known end l4 (omega (arith, lend, e2, e4)) z.0

three_known : (l : Low) → IsKnown l → IsKnown (with_label (with_label (with_label l)))
three_known l h = label_known (with_label (with_label l)) (label_known (with_label l) (label_known l h))

while_known : (f : Function) (e : CoreTree) (k : ℕ) (body : Exits → Body → Body) → KnowsWithin k body → (b : Body) → k ≤ b.low.labels → IsKnown b.low → IsKnown (while_row f e body b).low
while_known f e k body g b le h =
    let n = b.low.labels in
    let l1 = with_label (with_label (with_label b.low)) in
    let l2 = jumped (suc n) l1 in
    repeated_known body k g (λ top l. low_test f.context e top true l) (λ top l lt le1 h1. (tests_keep_known f.context e top true l lt h1, test_labels f e top true l)) n (suc n) (suc (suc n)) (with_low l2 b)
    (omega arith) (omega arith) (omega arith) (omega (arith, le)) (jumped_known (suc n) l1 (omega arith) (three_known b.low h))

do_known : (f : Function) (e : CoreTree) (k : ℕ) (body : Exits → Body → Body) → KnowsWithin k body → (b : Body) → k ≤ b.low.labels → IsKnown b.low → IsKnown (do_row f e body b).low
do_known f e k body g b le h =
    let n = b.low.labels in
    let l1 = with_label (with_label (with_label b.low)) in
    repeated_known body k g (λ top l. low_test f.context e top true l) (λ top l lt le1 h1. (tests_keep_known f.context e top true l lt h1, test_labels f e top true l)) n (suc n) (suc (suc n)) (with_low l1 b)
    (omega arith) (omega arith) (omega arith) (omega (arith, le)) (three_known b.low h)

last_known : (f : Function) (test last : Option CoreTree) (here top : ℕ) (l : Low) → here < l.labels → top < l.labels → IsKnown l → IsKnown (last_and_test f test last here top l) × (l.labels ≤ (last_and_test f test last here top l).labels)
last_known f test last here top l lh lt h =
    let l1 = maybe_dropped f last l in
    let e1 = maybe_labels f last l in
    let l2 = marked here l1 in
    let h2 = marked_known here l1 (omega (arith, lh, e1)) (maybe_known f last l h) in
    let e3 : l1.labels ≤ (maybe_tested f test top l2).labels = maybe_test_labels f test top l2 in
    (maybe_test_known f test top l2 (omega (arith, lt, e1)) h2, omega (arith, e1, e3))

for_labelled_known : (f : Function) (test last : Option CoreTree) (k : ℕ) (body : Exits → Body → Body) → KnowsWithin k body → (b : Body) → k ≤ b.low.labels → IsKnown b.low → IsKnown (for_labelled f test last body b).low
for_labelled_known f test last k body g b le h =
    let n = b.low.labels in
    let here = suc (suc (suc n)) in
    let l1 = with_label (with_label (with_label (with_label b.low))) in
    let l2 = jumped here l1 in
    repeated_known body (suc here) (λ y b1 le1 lb lc h1. g y b1 (omega (arith, le, le1)) lb lc h1) (λ top l. last_and_test f test last here top l) (λ top l lt le1 h1. last_known f test last here top l (omega (arith, le1)) lt h1)
    n (suc n) (suc (suc n)) (with_low l2 b)
    (omega arith) (omega arith) (omega arith) (omega arith) (jumped_known here l1 (omega arith) (label_known (with_label (with_label (with_label b.low))) (three_known b.low h)))

for_known : (f : Function) (first test last : Option CoreTree) (k : ℕ) (body : Exits → Body → Body) → KnowsWithin k body → (b : Body) → k ≤ b.low.labels → IsKnown b.low → IsKnown (for_row f first test last body b).low
for_known f first test last k body g b le h =
    let e = maybe_labels f first b.low in
    for_labelled_known f test last k body g (with_low (maybe_dropped f first b.low) b) (omega (arith, le, e)) (maybe_known f first b.low h)

-- ---- switches

labels_placed : (f : Function) (k : ℕ) (cases : List CoreCase) → length f.labels ≤ k → AllByRecursion (λ c. IsOwn f c.label) cases → AllByRecursion (λ l. l < k) (map (λ (c : CoreCase). c.label) (placed_cases f cases))
labels_placed f k [] le h = tt
labels_placed f k (c ∷ cs) le h = (let e = h.0 in omega (arith, le, e), labels_placed f k cs le h.1)

default_below : (f : Function) (k end : ℕ) (default : Option ℕ) → length f.labels ≤ k → end < k → IfSome default (IsOwn f) → label_or f end default < k
default_below f k end None le lt h = lt
default_below f k end (Some n) le lt h = omega (arith, le, h)

-- a body in which `break` goes to the end
switch_known : (f : Function) (e : CoreTree) (cases : List CoreCase) (default : Option ℕ) (body : Exits → Body → Body) (y : Exits) (b : Body)
    → ((x : Exits) (b1 : Body) → b.low.labels ≤ b1.low.labels → x.breaks < b1.low.labels → x.continues ≡ y.continues → IsKnown b1.low → IsKnown (body x b1).low × (b1.low.labels ≤ (body x b1).low.labels))
    → AllByRecursion (λ c. IsOwn f c.label) cases → IfSome default (IsOwn f) → length f.labels ≤ b.low.labels → IsKnown b.low → IsKnown (switch_row f e cases default body y b).low
switch_known f e cases default body y b g own own_default le h =
    let r = low_e f.context e b.low in
    let e0 : b.low.labels ≤ r.low.labels = (lowering_adds f.context e b.low).labels in
    let end = r.low.labels in
    let z = slot_offset r.low in
    let signed = is_signed (type_of e) in
    let x : Choice = record { slot = z; signed = signed; default = label_or f end default } in
    let l1 = stored_in z r.value (with_slot r.low) in
    let h1 = stored_known z r.value (with_slot r.low) (value_knows f.context e b.low h).plain (values_have_nodes f.context e b.low h.block).value (slot_known r.low (expressions_keep_known f.context e b.low h)) in
    let l2 = with_label l1 in
    let k = suc end in
    let lk : length f.labels ≤ k = omega (arith, le, e0) in
    let ld : x.default < k = default_below f k end default lk (omega arith) own_default in
    let placed = placed_cases f cases in
    let s = search_over (tables_of signed x.default placed) in
    let q = searched_known f x k ld s (search_below k signed placed x.default ld (labels_placed f k cases lk own)) (with_low l2 b) (omega arith) (label_known l1 h1) in
    let b3 = searched f x s (with_low l2 b) in
    let e3 : k ≤ b3.low.labels = q.1 in
    let y1 : Exits = record { breaks = end; continues = y.continues } in
    let w = g y1 b3 (omega (arith, e0, e3)) (omega (arith, e3)) refl q.0 in
    let b4 = body y1 b3 in
    let e4 : b3.low.labels ≤ b4.low.labels = w.1 in
    marked_known end b4.low (omega (arith, e3, e4)) w.0

-- ---- statements

abbrev both_used : (y : Exits) (k : ℕ) → y.breaks < k → y.continues < k → AreUsed true true y k
both_used y k lb lc = (λ e. lb, λ e. lc)

used_more : (breaks continues : Bool) (y : Exits) (j k : ℕ) → j ≤ k → AreUsed breaks continues y j → AreUsed breaks continues y k
used_more breaks continues y j k le u = (λ e. let lt = u.0 e in omega (arith, lt, le), λ e. let lt = u.1 e in omega (arith, lt, le))

grown : (f : Function) (y : Exits) (t : StmtTree) (b : Body) → b.low.labels ≤ (low_s f y t b).low.labels
grown f y t b = statement_steps grows grow_steps f y t b

mutual
  pub statement_known : (f : Function) (breaks continues : Bool) (y : Exits) (t : StmtTree) (b : Body) → GoesWithin f breaks continues t → length f.labels ≤ b.low.labels → AreUsed breaks continues y b.low.labels
      → IsKnown b.low → IsKnown (low_s f y t b).low
  statement_known f bs cs y stmt.Nothing b w le u h = h
  statement_known f bs cs y (stmt.Expression e) b w le u h = expressions_keep_known f.context e b.low h
  statement_known f bs cs y (stmt.Initialise local clears ps) b w le u h = initialised_known f local (slice_get f.locals local) clears ps b.low h
  statement_known f bs cs y (stmt.Block first locals ts) b w le u h = statements_known f bs cs y ts b w le u h
  statement_known f bs cs y (stmt.If e t v) b w le u h =
      choice_known (is_nothing v) f e b.low.labels (λ b1. low_s f y t b1) (λ b1. low_s f y v b1)
      (λ b1 le1 h1. (statement_known f bs cs y t b1 w.0 (omega (arith, le, le1)) (used_more bs cs y b.low.labels b1.low.labels le1 u) h1, grown f y t b1))
      (λ b1 le1 h1. (statement_known f bs cs y v b1 w.1 (omega (arith, le, le1)) (used_more bs cs y b.low.labels b1.low.labels le1 u) h1, grown f y v b1))
      b (omega arith) h
  statement_known f bs cs y (stmt.While e t) b w le u h =
      while_known f e b.low.labels (λ x b1. low_s f x t b1) (λ x b1 le1 lb lc h1. (statement_known f true true x t b1 w (omega (arith, le, le1)) (both_used x b1.low.labels lb lc) h1, grown f x t b1)) b (omega arith) h
  statement_known f bs cs y (stmt.Do t e) b w le u h =
      do_known f e b.low.labels (λ x b1. low_s f x t b1) (λ x b1 le1 lb lc h1. (statement_known f true true x t b1 w (omega (arith, le, le1)) (both_used x b1.low.labels lb lc) h1, grown f x t b1)) b (omega arith) h
  statement_known f bs cs y (stmt.For first test last t) b w le u h =
      for_known f first test last b.low.labels (λ x b1. low_s f x t b1) (λ x b1 le1 lb lc h1. (statement_known f true true x t b1 w (omega (arith, le, le1)) (both_used x b1.low.labels lb lc) h1, grown f x t b1)) b (omega arith) h
  statement_known f bs cs y (stmt.Switch e cases default t) b w le u h =
      switch_known f e cases default (λ x b1. low_s f x t b1) y b
      (λ x b1 le1 lb same h1.
      (statement_known f true cs x t b1 w.1 (omega (arith, le, le1)) (λ q. lb, λ q. let lt = u.1 q in omega (arith, lt, le1, same)) h1, grown f x t b1))
      w.0.0 w.0.1 le h
  statement_known f bs cs y (stmt.Label n t) b w le u h =
      let lt = w.0 in
      statement_known f bs cs y t (with_low (marked (label_at f n) b.low) b) w.1 le u (marked_known (label_at f n) b.low (omega (arith, lt, le)) h)
  statement_known f bs cs y (stmt.Goto n) b w le u h = jumped_known (label_at f n) b.low (omega (arith, w, le)) h
  statement_known f bs cs y stmt.Break b w le u h = jumped_known y.breaks b.low (u.0 w) h
  statement_known f bs cs y stmt.Continue b w le u h = jumped_known y.continues b.low (u.1 w) h
  statement_known f bs cs y (stmt.Return e) b w le u h = return_known f e b.low h

  statements_known : (f : Function) (breaks continues : Bool) (y : Exits) (ts : StmtTrees) (b : Body) → AllGoWithin f breaks continues ts → length f.labels ≤ b.low.labels → AreUsed breaks continues y b.low.labels
      → IsKnown b.low → IsKnown (low_all f y ts b).low
  statements_known f bs cs y stmt.NoStmt b w le u h = h
  statements_known f bs cs y (stmt.Stmts t ts) b w le u h =
      let b1 = low_s f y t b in
      let e = grown f y t b in
      statements_known f bs cs y ts b1 w.1 (omega (arith, le, e)) (used_more bs cs y b.low.labels b1.low.labels e u) (statement_known f bs cs y t b w.0 le u h)

-- ---- functions

word_left : (n : ℕ) (w : Width) (a : Template) (v : ℕ) → IsWithin n a → IsWithin n (stored_by w a (word_passed v)).left
word_left n One a v h = h
word_left n Two a v h = h
word_left n Four a v h = h

word_right : (n : ℕ) (w : Width) (a : Template) (v : ℕ) → IsWithin n (stored_by w a (word_passed v)).right
word_right n One a v = tt
word_right n Two a v = tt
word_right n Four a v = tt

parameter_known : (narrow : Bool) (f : Function) (n word : ℕ) (t : CType) (l : Low) → IsKnown l → IsKnown (parameter_stored narrow f n word t l) × (l.labels ≤ (parameter_stored narrow f n word t l).labels)
parameter_known true f n word t l h =
    let place = local_by false (slice_get f.context.places n) in
    let w = (scalar_of t).width in (
      acted_known (stored_as w place (word_passed word)) l (stored_plain w place (word_passed word) (plain.local_in false (slice_get f.context.places n)) tt)
          (word_left (nodes l) w (as_p place) word (within.as_p_in (nodes l) place.suffix place.tree (within.local_in (nodes l) false (slice_get f.context.places n)))) (word_right (nodes l) w (as_p place) word) h,
      omega arith,
    )
parameter_known false f n word t l h = (h, omega arith)

parameters_known : (f : Function) (n word : ℕ) (ts : List CType) (l : Low) → IsKnown l → IsKnown (parameters_stored f n word ts l) × (l.labels ≤ (parameters_stored f n word ts l).labels)
parameters_known f n word [] l h = (h, omega arith)
parameters_known f n word (t ∷ ts) l h =
    let narrow = is_narrow f.context.unit.tags t in
    let x = parameter_known narrow f n word t l h in
    let y = parameters_known f (suc n) (suc word) ts (parameter_stored narrow f n word t l) x.0 in
    let e = x.1 in
    let g = y.1 in
    (y.0, omega (arith, e, g))

end_known : (gives : Bool) (l : Low) → IsKnown l → IsKnown (end_by gives l)
end_known true l h = nothing_known true l h
end_known false l h = h

pub functions_are_known : (u : UnitTree) (order : Order) (number tables : ℕ) (f : FunctionTree) → GoesWithin (function_in u order number tables f) false false f.body → IsKnown (low_f u order number tables f).low
functions_are_known u order number tables f w =
    let g = function_in u order number tables f in
    let b = begun g (layout u.tags f) in
    let x = parameters_known g 0 (first_word f) (take f.parameters f.locals) b.low (record { pieces = tt; block = empty_block; named = tt }) in
    let l1 = parameters_stored g 0 (first_word f) (take f.parameters f.locals) b.low in
    let e : length g.labels ≤ l1.labels = x.1 in
    let b2 = low_s g no_exits f.body (with_low l1 b) in
    let h2 = statement_known g false false no_exits f.body (with_low l1 b) w e (λ q. absurd (let never : ⊥ = cc in never), λ q. absurd (let never : ⊥ = cc in never)) x.0 in
    ended_known (end_by g.gives_zero b2.low) (end_known g.gives_zero b2.low h2)
