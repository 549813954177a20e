-- The lowering of a statement marks the labels of the program that stand in it, and each new label once.
use Rattle.std.specs.Prelude.{◌≡◌, ℕ, zero, suc, ◌+◌, ◌-◌, ◌*◌, ◌/◌, ◌%◌, min, nat_le, Bool, true, false, Option, Some, None, List, [], ◌∷◌, ◌++◌, length, map, get_or, slice_get}
use Rattle.std.proofs.Common.{refl, ap, sym, subst, arith}
use Rattle.objects.specs.declared.operators.Comparison.{Comparison}
use Rattle.objects.specs.declared.operators.Comparison.TheVariants as comparison
use Rattle.objects.specs.declared.width.Width.{Width}
use Rattle.objects.specs.declared.width.Width.TheVariants.{One, Four}
use Rattle.objects.specs.Values.{bytes_in}
use Rattle.op_forest.specs.declared.op.Op.TheVariants as op
use Rattle.op_forest.specs.declared.suffix.Suffix.TheVariants.{I, V}
use Rattle.switch_tables.specs.declared.table.Table.{Table}
use Rattle.switch_tables.specs.Searches.{Search, Nowhere, At, last_in, search_over}
use Rattle.switch_tables.specs.Tables.{tables_of}
use Rattle.c_types.specs.CType.{CType, Array}
use Rattle.c_meaning.specs.declared.core_expr.CoreKind.{CoreKind}
use Rattle.c_meaning.specs.declared.core_expr.CoreKind.TheVariants as kind
use Rattle.c_meaning.specs.declared.core_stmt.CoreCase.{CoreCase}
use Rattle.c_meaning.specs.CoreTrees.{what_of, type_of}
use Rattle.c_meaning.specs.Scalars.{is_signed}
use Rattle.c_meaning.specs.StmtTrees.{FilledOf}
use Rattle.c_meaning.specs.StmtTrees as stmt
use Rattle.c_meaning.specs.Types.{is_array, is_record}
use Rattle.c_meaning.specs.Units.{labels, all_labels}
use Rattle.c_meaning.specs.Values.{CoreTree}
use Rattle.c_runs.specs.Places.{size_of}
use Rattle.c_rows_agree.specs.Integers.{number, compared}
use Rattle.c_rows_agree.specs.Places.{loaded_pointer}
use Rattle.c_rows_agree.specs.Typed.{Typed, head}
use Rattle.lowered_forms.specs.Expressions.{low_e, low_test}
use Rattle.lowered_forms.specs.Lows.{Low, acted, acted_one, jumped, marked, with_label, with_slot, slot_offset}
use Rattle.lowered_forms.specs.Places.{local_place}
use Rattle.lowered_forms.specs.Values.{slot_read, stored_in}
use Rattle.lowered_statements.specs.Bodies.{Body, with_low}
use Rattle.lowered_statements.specs.Functions.{Function, Exits, label_at, placed_cases, label_or}
use Rattle.lowered_statements.specs.Initialisers.{text_filled, filled_by, filled, all_filled, zeroed_whole, initialised_as}
use Rattle.lowered_statements.specs.Returns.{given_by, nothing_given, return_row}
use Rattle.lowered_statements.specs.Rows.{maybe_dropped, maybe_tested, choice_by, repeated, while_row, do_row, last_and_test, for_row, for_labelled, switch_row}
use Rattle.lowered_statements.specs.Searches.{Choice, compared_with, place_in_table, through, Side, way, with_way, side_by, side_at, is_alone, below_tested, one_number, one_table, at_table, searched}
use Rattle.lowered_statements.specs.Statements.{StmtTree, StmtTrees, is_nothing, low_s, low_all}
use Rattle.lowered_statements.specs.Zeroing.{zeroed_at, zeroed_each, zeroed_next, zeroed_in_turn, zeroed_by, zeroed}
use Rattle.lowered_labels.specs.Marks.{same, times, Marks, marked_times, used_times, own_marks}
use Rattle.lowered_labels.proofs.lemmas.Counting.{times_append, marks_same, marks_on, marks_join, marks_behind, marks_ended, marks_jumped, marks_past, label_counts, mark_counts}
use Rattle.lowered_labels.proofs.lemmas.ExpressionMarks.{value_marks, test_marks}

-- ---- zeros

each_marks : (base : Typed) (w : Width) (from n : ℕ) (l : Low) → Marks [] l (zeroed_each base w from n l)
each_marks base w from zero l = marks_same l
each_marks base w from (suc n) l = record { counts = (each_marks base w (from + bytes_in w) n (zeroed_at base w from l)).counts }

turn_marks : (base : Typed) (w : Width) (from to : ℕ) (l : Low) → Marks [] l (zeroed_in_turn base w from to l)
turn_marks base w from to l =
    let z = slot_offset l in
    let l1 = stored_in z (number true from) (with_slot l) in
    let l2 = marked l.labels (with_label l1) in
    marks_on l l2 _
    (record { counts = (marks_past [] l1 (with_label l1) (marks_same (with_label l1))).counts })
    (record { counts = (marks_ended (acted (compared comparison.Less true true l.labels (slot_read I z) (number true to)) (zeroed_next base w z l2))).counts })

zeroed_by_marks : (few : Bool) (base : Typed) (w : Width) (from n : ℕ) (l : Low) → Marks [] l (zeroed_by few base w from n l)
zeroed_by_marks true base w from n l = each_marks base w from n l
zeroed_by_marks false base w from n l = turn_marks base w from (from + n * bytes_in w) l

zeroed_marks : (base : Typed) (w : Width) (from n : ℕ) (l : Low) → Marks [] l (zeroed base w from n l)
zeroed_marks base w from n l = zeroed_by_marks (nat_le n 4) base w from n l

-- ---- initialisers

text_marks : (f : Function) (base : Typed) (offset : ℕ) (of : CType) (what : CoreKind) (l : Low) → Marks [] l (text_filled f base offset of what l)
text_marks f base offset (Array of (Some room)) (kind.Text n) l =
    let bytes = min room (length (get_or f.context.unit.texts n []) + 1) in
    record { counts = (zeroed_marks base One (offset + bytes) (room - bytes) _).counts }
text_marks f base offset of what l = marks_same l

filled_by_marks : (array whole : Bool) (f : Function) (base : Typed) (p : FilledOf CType) (v : Typed) (l : Low) → Marks [] l (filled_by array whole f base p v l)
filled_by_marks true whole f base p v l = text_marks f base p.offset p.of (what_of p.value) l
filled_by_marks false true f base p v l = record { counts = λ n. omega arith }
filled_by_marks false false f base p v l = record { counts = λ n. omega arith }

all_filled_marks : (f : Function) (base : Typed) (ps : List (FilledOf CType)) (l : Low) → Marks [] l (all_filled f base ps l)
all_filled_marks f base [] l = marks_same l
all_filled_marks f base (p ∷ ps) l =
    let r = low_e f.context p.value l in
    let l1 = filled f base p l in
    marks_on l r.low _ (value_marks f.context p.value l)
    (marks_on r.low l1 _ (filled_by_marks (is_array p.of) (is_record p.of) f base p r.value r.low) (all_filled_marks f base ps l1))

whole_marks : (clears : Bool) (base : Typed) (size : ℕ) (l : Low) → Marks [] l (zeroed_whole clears base size l)
whole_marks true base size l =
    let l1 = zeroed base Four 0 (size / 4) l in
    marks_on l l1 _ (zeroed_marks base Four 0 (size / 4) l) (each_marks base One (4 * (size / 4)) (size % 4) l1)
whole_marks false base size l = marks_same l

initialised_marks : (f : Function) (n : ℕ) (of : Option CType) (clears : Bool) (ps : List (FilledOf CType)) (l : Low) → Marks [] l (initialised_as f n of clears ps l)
initialised_marks f n None clears ps l = marks_same l
initialised_marks f n (Some of) clears ps l =
    let base = local_place f.context n of in
    let l1 = zeroed_whole clears base (size_of f.context.unit.tags of) l in
    marks_on l l1 _ (whole_marks clears base (size_of f.context.unit.tags of) l) (all_filled_marks f base ps l1)

-- ---- returns

nothing_marks : (gives : Bool) (l : Low) → Marks [] l (nothing_given gives l)
nothing_marks true l = record { counts = λ n. omega arith }
nothing_marks false l = record { counts = λ n. omega arith }

given_marks : (whole : Bool) (f : Function) (v : Typed) (l : Low) → Marks [] l (given_by whole f v l)
given_marks true f v l = record { counts = λ n. omega arith }
given_marks false f v l = record { counts = λ n. omega arith }

return_marks : (f : Function) (e : Option CoreTree) (l : Low) → Marks [] l (return_row f e l)
return_marks f None l = nothing_marks f.gives_zero l
return_marks f (Some e) l = let r = low_e f.context e l in marks_on l r.low _ (value_marks f.context e l) (given_marks (is_record f.result) f r.value r.low)

-- ---- the search

abbrev CodeMarks : (Body → Body) → Type 0
CodeMarks code = (b : Body) → Marks [] b.low (code b).low

compared_marks : (o : Comparison) (x : Choice) (n label : ℕ) (l : Low) → Marks [] l (compared_with o x n label l)
compared_marks o x n label l = record { counts = (marks_ended (acted (compared o x.signed true label (slot_read I x.slot) (number x.signed n)) l)).counts }

below_marks : (alone : Bool) (x : Choice) (n label : ℕ) (l : Low) → Marks [] l (below_tested alone x n label l)
below_marks true x n label l = marks_same l
below_marks false x n label l = compared_marks comparison.Less x n label l

-- a side has a label of its own, if there are tables
abbrev way_label : Search → ℕ → List ℕ
way_label Nowhere n = []
way_label (At t less greater) n = n ∷ []

way_counts : (s : Search) (m : ℕ) (l : Low) → (marked_times m (with_way s l) ≡ marked_times m l) × (used_times m (with_way s l) ≡ used_times m l + times m (way_label s l.labels))
way_counts Nowhere m l = (refl, omega arith)
way_counts (At t less greater) m l = (refl, let e = label_counts m l in omega (arith, e))

side_marks : (s : Search) (code : Body → Body) → CodeMarks code → (n : ℕ) (b : Body) → Marks (way_label s n) b.low (side_by s code n b).low
side_marks Nowhere code h n b = marks_same b.low
side_marks (At t less greater) code h n b =
    let b1 = with_low (marked n b.low) b in
    record { counts = λ m. let e = mark_counts n m b.low in let f = (h b1).counts m in omega (arith, e, f) }

through_marks : (f : Function) (x : Choice) (t : Table) (b : Body) → Marks [] b.low (through f x t b).low
through_marks f x t b =
    record { counts = (marks_ended (acted_one (head op.Jump V) (loaded_pointer (place_in_table x t.low (f.tables + length b.tables))).tree b.low)).counts }

one_number_marks : (x : Choice) (n label : ℕ) (less greater : Side) → CodeMarks less.code → CodeMarks greater.code → CodeMarks (λ b. one_number x n label less greater b)
one_number_marks x n label less greater f g b =
    let below = b.low.labels in
    let l1 = with_way less.tables b.low in
    let l2 = compared_with comparison.Equal x n label l1 in
    let l3 = below_tested (is_alone less.tables greater.tables) x n (way less.tables x.default below) l2 in
    let b4 = greater.code (with_low l3 b) in
    record {
      counts = λ m.
          let e1 = way_counts less.tables m b.low in
          let e2 = (compared_marks comparison.Equal x n label l1).counts m in
          let e3 = (below_marks (is_alone less.tables greater.tables) x n (way less.tables x.default below) l2).counts m in
          let e4 = (g (with_low l3 b)).counts m in
          let e5 = (side_marks less.tables less.code f below b4).counts m in
          let e6 = e1.0 in
          let e7 = e1.1 in
          omega (arith, e2, e3, e4, e5, e6, e7);
    }

one_table_marks : (f : Function) (x : Choice) (t : Table) (less greater : Side) → CodeMarks less.code → CodeMarks greater.code → CodeMarks (λ b. one_table f x t less greater b)
one_table_marks f x t less greater g h b =
    let below = b.low.labels in
    let l1 = with_way less.tables b.low in
    let above = l1.labels in
    let l2 = with_way greater.tables l1 in
    let l3 = compared_with comparison.Less x t.low (way less.tables x.default below) l2 in
    let l4 = compared_with comparison.Greater x (last_in t) (way greater.tables x.default above) l3 in
    let b5 = through f x t (with_low l4 b) in
    let b6 = side_at greater above b5 in
    record {
      counts = λ m.
          let e1 = way_counts less.tables m b.low in
          let e2 = way_counts greater.tables m l1 in
          let e3 = (compared_marks comparison.Less x t.low (way less.tables x.default below) l2).counts m in
          let e4 = (compared_marks comparison.Greater x (last_in t) (way greater.tables x.default above) l3).counts m in
          let e5 = (through_marks f x t (with_low l4 b)).counts m in
          let e6 = (side_marks greater.tables greater.code h above b5).counts m in
          let e7 = (side_marks less.tables less.code g below b6).counts m in
          let a = e1.0 in
          let c = e1.1 in
          let d = e2.0 in
          let e = e2.1 in
          omega (arith, e3, e4, e5, e6, e7, a, c, d, e);
    }

at_table_marks : (ls : List ℕ) (f : Function) (x : Choice) (t : Table) (less greater : Side) → CodeMarks less.code → CodeMarks greater.code → CodeMarks (λ b. at_table ls f x t less greater b)
at_table_marks [] f x t less greater g h b = one_table_marks f x t less greater g h b
at_table_marks (label ∷ []) f x t less greater g h b = one_number_marks x t.low label less greater g h b
at_table_marks (label ∷ other ∷ ls) f x t less greater g h b = one_table_marks f x t less greater g h b

searched_marks : (f : Function) (x : Choice) (s : Search) → CodeMarks (λ b. searched f x s b)
searched_marks f x Nowhere b = marks_jumped x.default b.low
searched_marks f x (At t less greater) b =
    at_table_marks t.labels f x t (record { tables = less; code = λ b1. searched f x less b1 }) (record { tables = greater; code = λ b1. searched f x greater b1 })
    (λ b1. searched_marks f x less b1) (λ b1. searched_marks f x greater b1) b

-- ---- what may be left away

maybe_marks : (f : Function) (e : Option CoreTree) (l : Low) → Marks [] l (maybe_dropped f e l)
maybe_marks f None l = marks_same l
maybe_marks f (Some e) l = value_marks f.context e l

maybe_test_marks : (f : Function) (e : Option CoreTree) (n : ℕ) (l : Low) → Marks [] l (maybe_tested f e n l)
maybe_test_marks f None n l = marks_jumped n l
maybe_test_marks f (Some e) n l = test_marks f.context e n true l

-- ---- choices

abbrev PartMarks : List ℕ → (Body → Body) → Type 0
PartMarks own go = (b : Body) → Marks own b.low (go b).low

choice_marks : (nothing : Bool) (f : Function) (e : CoreTree) (xs ys : List ℕ) (then otherwise : Body → Body) → PartMarks xs then → PartMarks ys otherwise → (nothing ≡ true → ys ≡ []) → PartMarks (xs ++ ys) (λ b. choice_by nothing f e then otherwise b)
choice_marks true f e xs ys then otherwise g h none b =
    let end = b.low.labels in
    let l1 = with_label b.low in
    let l2 = low_test f.context e end false l1 in
    let b3 = then (with_low l2 b) in
    record {
      counts = λ m.
          let e1 = label_counts m b.low in
          let e2 = (test_marks f.context e end false l1).counts m in
          let e3 = (g (with_low l2 b)).counts m in
          let e4 = mark_counts end m b3.low in
          let e5 = times_append m xs ys in
          let e6 : times m ys ≡ 0 = ap (times m) (none refl) in
          omega (arith, e1, e2, e3, e4, e5, e6);
    }
choice_marks false f e xs ys then otherwise g h none b =
    let n = b.low.labels in
    let end = suc n in
    let l1 = with_label (with_label b.low) in
    let l2 = low_test f.context e n false l1 in
    let b3 = then (with_low l2 b) in
    let l4 = jumped end b3.low in
    let l5 = marked n l4 in
    let b6 = otherwise (with_low l5 b3) in
    record {
      counts = λ m.
          let e1 = label_counts m b.low in
          let e2 = label_counts m (with_label b.low) in
          let e3 = (test_marks f.context e n false l1).counts m in
          let e4 = (g (with_low l2 b)).counts m in
          let e5 = (marks_jumped end b3.low).counts m in
          let e6 = mark_counts n m l4 in
          let e7 = (h (with_low l5 b3)).counts m in
          let e8 = mark_counts end m b6.low in
          let e9 = times_append m xs ys in
          omega (arith, e1, e2, e3, e4, e5, e6, e7, e8, e9);
    }

-- ---- loops: from the label of the body on

repeated_counts : (body : Exits → Body → Body) (own : List ℕ) → ((y : Exits) → PartMarks own (body y)) → (between : ℕ → Low → Low) (new : List ℕ) → ((n : ℕ) (l : Low) → Marks new l (between n l)) → (top next end : ℕ) (b : Body) (m : ℕ)
    → marked_times m (repeated body between top next end b).low + used_times m b.low
    ≡ marked_times m b.low + used_times m (repeated body between top next end b).low + times m own + times m new + same m top + same m next + same m end
repeated_counts body own h between new g top next end b m =
    let y : Exits = record { breaks = end; continues = next } in
    let l1 = marked top b.low in
    let b2 = body y (with_low l1 b) in
    let l3 = marked next b2.low in
    let l4 = between top l3 in
    let e1 = mark_counts top m b.low in
    let e2 = (h y (with_low l1 b)).counts m in
    let e3 = mark_counts next m b2.low in
    let e4 = (g top l3).counts m in
    let e5 = mark_counts end m l4 in
    omega (arith, e1, e2, e3, e4, e5)

three_counts : (m : ℕ) (l : Low) → used_times m (with_label (with_label (with_label l))) ≡ used_times m l + same m l.labels + same m (suc l.labels) + same m (suc (suc l.labels))
three_counts m l =
    let e1 = label_counts m l in
    let e2 = label_counts m (with_label l) in
    let e3 = label_counts m (with_label (with_label l)) in
    omega (arith, e1, e2, e3)

while_marks : (f : Function) (e : CoreTree) (own : List ℕ) (body : Exits → Body → Body) → ((y : Exits) → PartMarks own (body y)) → PartMarks own (λ b. while_row f e body b)
while_marks f e own body h b =
    let n = b.low.labels in
    let l1 = with_label (with_label (with_label b.low)) in
    let l2 = jumped (suc n) l1 in
    record {
      counts = λ m.
          let e1 = three_counts m b.low in
          let e2 = (marks_jumped (suc n) l1).counts m in
          let e3 = repeated_counts body own h (λ top l. low_test f.context e top true l) [] (λ top l. test_marks f.context e top true l) n (suc n) (suc (suc n)) (with_low l2 b) m in
          omega (arith, e1, e2, e3);
    }

do_marks : (f : Function) (e : CoreTree) (own : List ℕ) (body : Exits → Body → Body) → ((y : Exits) → PartMarks own (body y)) → PartMarks own (λ b. do_row f e body b)
do_marks f e own body h b =
    let n = b.low.labels in
    let l1 = with_label (with_label (with_label b.low)) in
    record {
      counts = λ m.
          let e1 = three_counts m b.low in
          let e3 = repeated_counts body own h (λ top l. low_test f.context e top true l) [] (λ top l. test_marks f.context e top true l) n (suc n) (suc (suc n)) (with_low l1 b) m in
          omega (arith, e1, e3);
    }

last_marks : (f : Function) (test last : Option CoreTree) (here top : ℕ) (l : Low) → Marks (here ∷ []) l (last_and_test f test last here top l)
last_marks f test last here top l =
    let l1 = maybe_dropped f last l in
    let l2 = marked here l1 in
    record {
      counts = λ m.
          let e1 = (maybe_marks f last l).counts m in
          let e2 = mark_counts here m l1 in
          let e3 = (maybe_test_marks f test top l2).counts m in
          omega (arith, e1, e2, e3);
    }

for_labelled_marks : (f : Function) (test last : Option CoreTree) (own : List ℕ) (body : Exits → Body → Body) → ((y : Exits) → PartMarks own (body y)) → PartMarks own (λ b. for_labelled f test last body b)
for_labelled_marks f test last own body h b =
    let n = b.low.labels in
    let here = suc (suc (suc n)) in
    let l0 = with_label (with_label (with_label b.low)) in
    let l1 = with_label l0 in
    let l2 = jumped here l1 in
    record {
      counts = λ m.
          let e0 = three_counts m b.low in
          let e1 = label_counts m l0 in
          let e2 = (marks_jumped here l1).counts m in
          let e3 = repeated_counts body own h (λ top l. last_and_test f test last here top l) (here ∷ []) (λ top l. last_marks f test last here top l) n (suc n) (suc (suc n)) (with_low l2 b) m in
          omega (arith, e0, e1, e2, e3);
    }

for_marks : (f : Function) (first test last : Option CoreTree) (own : List ℕ) (body : Exits → Body → Body) → ((y : Exits) → PartMarks own (body y)) → PartMarks own (λ b. for_row f first test last body b)
for_marks f first test last own body h b =
    let l1 = maybe_dropped f first b.low in
    marks_behind own b.low l1 _ (maybe_marks f first b.low) (for_labelled_marks f test last own body h (with_low l1 b))

-- ---- switches

switch_marks : (f : Function) (e : CoreTree) (cases : List CoreCase) (default : Option ℕ) (own : List ℕ) (body : Exits → Body → Body) → ((y : Exits) → PartMarks own (body y)) → (y : Exits) → PartMarks own (λ b. switch_row f e cases default body y b)
switch_marks f e cases default own body h y b =
    let r = low_e f.context e b.low in
    let end = r.low.labels in
    let z = slot_offset r.low in
    let signed = is_signed (type_of e) in
    let x : Choice = record { slot = z; signed = signed; default = label_or f end default } in
    let l1 = stored_in z r.value (with_slot r.low) in
    let l2 = with_label l1 in
    let s = search_over (tables_of signed x.default (placed_cases f cases)) in
    let b3 = searched f x s (with_low l2 b) in
    let y1 : Exits = record { breaks = end; continues = y.continues } in
    let b4 = body y1 b3 in
    record {
      counts = λ m.
          let e1 = (value_marks f.context e b.low).counts m in
          let e2 = label_counts m l1 in
          let e3 = (searched_marks f x s (with_low l2 b)).counts m in
          let e4 = (h y1 b3).counts m in
          let e5 = mark_counts end m b4.low in
          omega (arith, e1, e2, e3, e4, e5);
    }

-- ---- statements

map_append : (f : Function) (xs ys : List ℕ) → map (label_at f) (xs ++ ys) ≡ map (label_at f) xs ++ map (label_at f) ys
map_append f [] ys = refl
map_append f (x ∷ xs) ys = ap (λ (zs : List ℕ). label_at f x ∷ zs) (map_append f xs ys)

marks_as : (xs ys : List ℕ) (a b : Low) → xs ≡ ys → Marks xs a b → Marks ys a b
marks_as xs ys a b e h = subst (λ (zs : List ℕ). Marks zs a b) e h

nothing_has_none : (f : Function) (t : StmtTree) → is_nothing t ≡ true → own_marks f t ≡ []
nothing_has_none f stmt.Nothing e = refl
nothing_has_none f t e = absurd (let never : ⊥ = cc in never)

abbrev own_of_all : Function → StmtTrees → List ℕ
own_of_all f ts = map (label_at f) (all_labels ts)

mutual
  pub statement_marks : (f : Function) (y : Exits) (t : StmtTree) (b : Body) → Marks (own_marks f t) b.low (low_s f y t b).low
  statement_marks f y stmt.Nothing b = marks_same b.low
  statement_marks f y (stmt.Expression e) b = value_marks f.context e b.low
  statement_marks f y (stmt.Initialise local clears ps) b = initialised_marks f local (slice_get f.locals local) clears ps b.low
  statement_marks f y (stmt.Block first locals ts) b = statements_mark f y ts b
  statement_marks f y (stmt.If e t u) b =
      marks_as (own_marks f t ++ own_marks f u) (own_marks f (stmt.If e t u)) b.low _ (sym (map_append f (labels t) (labels u)))
      (choice_marks (is_nothing u) f e (own_marks f t) (own_marks f u) (λ b1. low_s f y t b1) (λ b1. low_s f y u b1) (λ b1. statement_marks f y t b1) (λ b1. statement_marks f y u b1) (nothing_has_none f u) b)
  statement_marks f y (stmt.While e t) b = while_marks f e (own_marks f t) (λ x b1. low_s f x t b1) (λ x b1. statement_marks f x t b1) b
  statement_marks f y (stmt.Do t e) b = do_marks f e (own_marks f t) (λ x b1. low_s f x t b1) (λ x b1. statement_marks f x t b1) b
  statement_marks f y (stmt.For first test last t) b = for_marks f first test last (own_marks f t) (λ x b1. low_s f x t b1) (λ x b1. statement_marks f x t b1) b
  statement_marks f y (stmt.Switch e cases default t) b = switch_marks f e cases default (own_marks f t) (λ x b1. low_s f x t b1) (λ x b1. statement_marks f x t b1) y b
  statement_marks f y (stmt.Label n t) b =
      let b1 = with_low (marked (label_at f n) b.low) b in
      record { counts = λ m. let e = mark_counts (label_at f n) m b.low in let g = (statement_marks f y t b1).counts m in omega (arith, e, g) }
  statement_marks f y (stmt.Goto n) b = marks_jumped (label_at f n) b.low
  statement_marks f y stmt.Break b = marks_jumped y.breaks b.low
  statement_marks f y stmt.Continue b = marks_jumped y.continues b.low
  statement_marks f y (stmt.Return e) b = return_marks f e b.low

  statements_mark : (f : Function) (y : Exits) (ts : StmtTrees) (b : Body) → Marks (own_of_all f ts) b.low (low_all f y ts b).low
  statements_mark f y stmt.NoStmt b = marks_same b.low
  statements_mark f y (stmt.Stmts t ts) b =
      let b1 = low_s f y t b in
      marks_as (own_marks f t ++ own_of_all f ts) (own_of_all f (stmt.Stmts t ts)) b.low _ (sym (map_append f (labels t) (all_labels ts)))
      (marks_join (own_marks f t) (own_of_all f ts) b.low b1.low _ (statement_marks f y t b) (statements_mark f y ts b1))
