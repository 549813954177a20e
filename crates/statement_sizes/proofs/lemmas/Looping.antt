-- What rows of statements take, beside their parts.
use Rattle.std.specs.Prelude.{◌≤◌, ℕ, suc, ◌+◌, ◌*◌, Bool, true, false, Option, Some, None, List, length}
use Rattle.std.proofs.Common.{arith, ap}
use Rattle.std.proofs.lemmas.List.{length-map}
use Rattle.op_forest.specs.declared.op.Op.TheVariants as op
use Rattle.op_forest.specs.declared.suffix.Suffix.TheVariants.{I}
use Rattle.c_meaning.specs.declared.core_stmt.CoreCase.{CoreCase}
use Rattle.c_meaning.specs.CoreTrees.{parts, type_of}
use Rattle.c_meaning.specs.Scalars.{is_signed}
use Rattle.c_meaning.specs.Types.{is_record}
use Rattle.c_meaning.specs.Values.{CoreTree}
use Rattle.switch_tables.specs.declared.table.Table.{Table}
use Rattle.switch_tables.specs.Searches.{search_over, in_order}
use Rattle.switch_tables.specs.Tables.{tables_of}
use Rattle.switch_tables.proofs.lemmas.Searching.{tables_are_searched}
use Rattle.switch_tables.proofs.lemmas.TableParts.{are_few}
use Rattle.c_runs.specs.Places.{size_of, align_of}
use Rattle.c_rows_agree.specs.Typed.{Typed, head, constant_i, as_i}
use Rattle.lowering_limits.specs.Nodes.{some_nodes}
use Rattle.lowered_forms.specs.Accesses.{copy_root, copied}
use Rattle.lowered_forms.specs.Expressions.{low_e, low_test}
use Rattle.lowered_forms.specs.Lows.{Low, jumped, marked, with_label, slot_offset, with_slot}
use Rattle.lowered_forms.specs.Values.{stored_in}
use Rattle.lowered_statements.specs.Bodies.{Body, with_low, returned}
use Rattle.lowered_statements.specs.Functions.{Function, Exits, placed_case, placed_cases, label_or}
use Rattle.lowered_statements.specs.Returns.{hidden, given_by, nothing_given, return_row}
use Rattle.lowered_statements.specs.Rows.{maybe_dropped, maybe_tested, one_way, two_ways, choice_by, repeated, while_row, do_row, last_and_test, for_labelled, for_row, switch_on, switch_row}
use Rattle.lowered_statements.specs.Searches.{Choice, searched}
use Rattle.lowered_sizes.proofs.lemmas.Counting.{jumped_counts}
use Rattle.lowered_sizes.proofs.lemmas.CountedExpressions.{slots_are}
use Rattle.lowered_sizes.proofs.lemmas.Taking.{Takes, takes_counts, joined, at_most}
use Rattle.statement_sizes.proofs.lemmas.Filling.{value_takes, test_takes, stored_takes}
use Rattle.statement_sizes.proofs.lemmas.Searching.{searched_takes}

pub jump_takes : (n : ℕ) (l : Low) → Takes 0 0 l (jumped n l)
jump_takes n l = jumped_counts Takes takes_counts n l

-- ---- what may be left away

maybe_dropped_takes : (f : Function) (e : Option CoreTree) (l : Low) → Takes (2 * some_nodes e) (2 * some_nodes e) l (maybe_dropped f e l)
maybe_dropped_takes f None l = takes_counts.same l
maybe_dropped_takes f (Some e) l = let d = slots_are e in at_most (2 * parts e) (2 * parts e) (value_takes f.context e l) (omega (arith, d)) (omega arith)

maybe_tested_takes : (f : Function) (e : Option CoreTree) (n : ℕ) (l : Low) → Takes (2 * some_nodes e) (2 * some_nodes e) l (maybe_tested f e n l)
maybe_tested_takes f None n l = jump_takes n l
maybe_tested_takes f (Some e) n l = test_takes f.context e n true l

last_takes : (f : Function) (test last : Option CoreTree) (here top : ℕ) (l : Low)
    → Takes (2 * some_nodes last + (0 + 2 * some_nodes test)) (2 * some_nodes last + (0 + 2 * some_nodes test)) l (last_and_test f test last here top l)
last_takes f test last here top l =
    let l1 = maybe_dropped f last l in
    joined (maybe_dropped_takes f last l) (joined (takes_counts.marks here l1) (maybe_tested_takes f test top (marked here l1)))

-- ---- returns

pub returned_takes : (l : Low) → Takes 0 0 l (returned l)
returned_takes l = record { slots = omega arith; labels = omega arith }

pub nothing_takes : (gives : Bool) (l : Low) → Takes 0 0 l (nothing_given gives l)
nothing_takes true l = takes_counts.acts_one (head op.Ret I) (constant_i 0) l
nothing_takes false l = returned_takes l

given_takes : (whole : Bool) (f : Function) (v : Typed) (l : Low) → Takes 0 0 l (given_by whole f v l)
given_takes true f v l =
    joined (takes_counts.acts (copy_root (size_of f.context.unit.tags f.result) (align_of f.context.unit.tags f.result) hidden v) l) (returned_takes (copied f.context.unit.tags f.result hidden v l))
given_takes false f v l = takes_counts.acts_one (head op.Ret I) (as_i v) l

pub return_takes : (f : Function) (e : Option CoreTree) (l : Low) → Takes (2 * some_nodes e) (2 * some_nodes e) l (return_row f e l)
return_takes f None l = nothing_takes f.gives_zero l
return_takes f (Some e) l =
    let r = low_e f.context e l in
    let d = slots_are e in
    at_most (2 * parts e) (2 * parts e) (joined (value_takes f.context e l) (given_takes (is_record f.result) f r.value r.low)) (omega (arith, d)) (omega arith)

-- ---- choices

abbrev pub PartTakes : ℕ → ℕ → (Body → Body) → Type 0
PartTakes m n go = (b : Body) → Takes m n b.low (go b).low

one_way_takes : (m n : ℕ) (f : Function) (e : CoreTree) (then : Body → Body) → PartTakes m n then → (end : ℕ) (b : Body)
    → Takes (2 * parts e + (m + 0)) (2 * parts e + (n + 0)) b.low (one_way f e then end b).low
one_way_takes m n f e then h end b =
    let b1 = with_low (low_test f.context e end false b.low) b in
    joined (test_takes f.context e end false b.low) (joined (h b1) (takes_counts.marks end (then b1).low))

two_ways_takes : (m n p q : ℕ) (f : Function) (e : CoreTree) (then otherwise : Body → Body) → PartTakes m n then → PartTakes p q otherwise → (i end : ℕ) (b : Body)
    → Takes (2 * parts e + (m + (0 + (0 + (p + 0))))) (2 * parts e + (n + (0 + (0 + (q + 0))))) b.low (two_ways f e then otherwise i end b).low
two_ways_takes m n p q f e then otherwise g h i end b =
    let b1 = with_low (low_test f.context e i false b.low) b in
    let b2 = then b1 in
    let b3 = with_low (jumped end b2.low) b2 in
    let b4 = with_low (marked i b3.low) b3 in
    joined (test_takes f.context e i false b.low)
    (joined (g b1) (joined (jump_takes end b2.low) (joined (takes_counts.marks i b3.low) (joined (h b4) (takes_counts.marks end (otherwise b4).low)))))

pub choice_takes : (m n p q : ℕ) (nothing : Bool) (f : Function) (e : CoreTree) (then otherwise : Body → Body) → PartTakes m n then → PartTakes p q otherwise → (b : Body)
    → Takes (2 * parts e + (m + p)) (2 + (2 * parts e + (n + q))) b.low (choice_by nothing f e then otherwise b).low
choice_takes m n p q true f e then otherwise g h b =
    at_most _ _ (joined (takes_counts.label b.low) (one_way_takes m n f e then g b.low.labels (with_low (with_label b.low) b))) (omega arith) (omega arith)
choice_takes m n p q false f e then otherwise g h b =
    let b1 = with_low (with_label b.low) b in
    at_most _ _
    (joined (takes_counts.label b.low) (joined (takes_counts.label b1.low) (two_ways_takes m n p q f e then otherwise g h b.low.labels (suc b.low.labels) (with_low (with_label b1.low) b1))))
    (omega arith) (omega arith)

-- ---- loops

abbrev pub CodeTakes : ℕ → ℕ → (Exits → Body → Body) → Type 0
CodeTakes m n body = (y : Exits) (b : Body) → Takes m n b.low (body y b).low

repeated_takes : (m n p q : ℕ) (body : Exits → Body → Body) → CodeTakes m n body → (between : ℕ → Low → Low) → ((i : ℕ) (l : Low) → Takes p q l (between i l)) → (top next end : ℕ) (b : Body)
    → Takes (0 + (m + (0 + (p + 0)))) (0 + (n + (0 + (q + 0)))) b.low (repeated body between top next end b).low
repeated_takes m n p q body h between g top next end b =
    let z : Exits = record { breaks = end; continues = next } in
    let b1 = with_low (marked top b.low) b in
    let b2 = body z b1 in
    let b3 = with_low (marked next b2.low) b2 in
    let b4 = with_low (between top b3.low) b3 in
    joined (takes_counts.marks top b.low) (joined (h z b1) (joined (takes_counts.marks next b2.low) (joined (g top b3.low) (takes_counts.marks end b4.low))))

labels_taken : (b : Body) → Takes 0 3 b.low (with_label (with_label (with_label b.low)))
labels_taken b = joined (takes_counts.label b.low) (joined (takes_counts.label (with_label b.low)) (takes_counts.label (with_label (with_label b.low))))

pub while_takes : (m n : ℕ) (f : Function) (e : CoreTree) (body : Exits → Body → Body) → CodeTakes m n body → (b : Body) → Takes (m + 2 * parts e) (3 + (n + 2 * parts e)) b.low (while_row f e body b).low
while_takes m n f e body h b =
    let i = b.low.labels in
    let b1 = with_low (with_label (with_label (with_label b.low))) b in
    let b2 = with_low (jumped (suc i) b1.low) b1 in
    at_most _ _
    (joined (labels_taken b) (joined (jump_takes (suc i) b1.low)
    (repeated_takes m n (2 * parts e) (2 * parts e) body h (λ top l. low_test f.context e top true l) (λ top l. test_takes f.context e top true l) i (suc i) (suc (suc i)) b2)))
    (omega arith) (omega arith)

pub do_takes : (m n : ℕ) (f : Function) (e : CoreTree) (body : Exits → Body → Body) → CodeTakes m n body → (b : Body) → Takes (m + 2 * parts e) (3 + (n + 2 * parts e)) b.low (do_row f e body b).low
do_takes m n f e body h b =
    let i = b.low.labels in
    let b1 = with_low (with_label (with_label (with_label b.low))) b in
    at_most _ _
    (joined (labels_taken b) (repeated_takes m n (2 * parts e) (2 * parts e) body h (λ top l. low_test f.context e top true l) (λ top l. test_takes f.context e top true l) i (suc i) (suc (suc i)) b1))
    (omega arith) (omega arith)

for_labelled_takes : (m n : ℕ) (f : Function) (test last : Option CoreTree) (body : Exits → Body → Body) → CodeTakes m n body → (b : Body)
    → Takes (m + 2 * (some_nodes test + some_nodes last)) (4 + (n + 2 * (some_nodes test + some_nodes last))) b.low (for_labelled f test last body b).low
for_labelled_takes m n f test last body h b =
    let i = b.low.labels in
    let b1 = with_low (with_label (with_label (with_label b.low))) b in
    let b2 = with_low (with_label b1.low) b1 in
    let b3 = with_low (jumped (suc (suc (suc i))) b2.low) b2 in
    let p = 2 * some_nodes last + (0 + 2 * some_nodes test) in
    at_most _ _
    (joined (labels_taken b) (joined (takes_counts.label b1.low) (joined (jump_takes (suc (suc (suc i))) b2.low)
    (repeated_takes m n p p body h (λ top l. last_and_test f test last (suc (suc (suc i))) top l) (λ top l. last_takes f test last (suc (suc (suc i))) top l) i (suc i) (suc (suc i)) b3))))
    (omega arith) (omega arith)

pub for_takes : (m n : ℕ) (f : Function) (first test last : Option CoreTree) (body : Exits → Body → Body) → CodeTakes m n body → (b : Body)
    → Takes (m + 2 * (some_nodes first + (some_nodes test + some_nodes last))) (4 + (n + 2 * (some_nodes first + (some_nodes test + some_nodes last)))) b.low (for_row f first test last body b).low
for_takes m n f first test last body h b =
    at_most _ _ (joined (maybe_dropped_takes f first b.low) (for_labelled_takes m n f test last body h (with_low (maybe_dropped f first b.low) b))) (omega arith) (omega arith)

-- ---- switches

few_tables : (f : Function) (signed : Bool) (default : ℕ) (cases : List CoreCase) → length (in_order (search_over (tables_of signed default (placed_cases f cases)))) ≤ length cases
few_tables f signed default cases =
    let e = ap (λ (ts : List Table). length ts) (tables_are_searched (tables_of signed default (placed_cases f cases))) in
    let g = are_few signed (placed_cases f cases) default in
    let h = length-map cases (placed_case f) in
    omega (arith, e, g, h)

switch_on_takes : (m n : ℕ) (f : Function) (signed : Bool) (v : Typed) (cases : List CoreCase) (default : Option ℕ) (body : Exits → Body → Body) → CodeTakes m n body → (y : Exits) (b : Body)
    → Takes (1 + m) (1 + (2 * length cases + n)) b.low (switch_on f signed v cases default body y b).low
switch_on_takes m n f signed v cases default body h y b =
    let z = slot_offset b.low in
    let end = b.low.labels in
    let b1 = with_low (with_slot b.low) b in
    let b2 = with_low (stored_in z v b1.low) b1 in
    let b3 = with_low (with_label b2.low) b2 in
    let x : Choice = record { slot = z; signed = signed; default = label_or f end default } in
    let s = search_over (tables_of signed (label_or f end default) (placed_cases f cases)) in
    let b4 = searched f x s b3 in
    let w : Exits = record { breaks = end; continues = y.continues } in
    let e = few_tables f signed (label_or f end default) cases in
    at_most _ _
    (joined (takes_counts.slot b.low) (joined (stored_takes z v b1.low) (joined (takes_counts.label b2.low) (joined (searched_takes f x s b3) (joined (h w b4) (takes_counts.marks end (body w b4).low))))))
    (omega arith) (omega (arith, e))

pub switch_takes : (m n : ℕ) (f : Function) (e : CoreTree) (cases : List CoreCase) (default : Option ℕ) (body : Exits → Body → Body) → CodeTakes m n body → (y : Exits) (b : Body)
    → Takes (2 * parts e + m) (1 + (2 * parts e + (2 * length cases + n))) b.low (switch_row f e cases default body y b).low
switch_takes m n f e cases default body h y b =
    let r = low_e f.context e b.low in
    let d = slots_are e in
    at_most _ _ (joined (value_takes f.context e b.low) (switch_on_takes m n f (is_signed (type_of e)) r.value cases default body h y (with_low r.low b))) (omega (arith, d)) (omega arith)
