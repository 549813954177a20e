-- The search of a switch keeps blocks and labels known, where the labels of its tables have been used.
use Rattle.std.specs.Prelude.{◌≡◌, ◌<◌, ◌≤◌, ℕ, ◌+◌, ◌==◌, ◌&&◌, ◌||◌, pos, Bool, true, false, List, [], ◌∷◌, ◌++◌, length, map}
use Rattle.std.specs.List.{AllByRecursion}
use Rattle.std.proofs.Common.{⊎_elim, refl, ap, sym, ◌∙◌, subst, arith}
use Rattle.std.proofs.lemmas.Bool.Decides.{eqb_tells}
use Rattle.objects.specs.declared.operators.Binary.TheVariants as binary
use Rattle.objects.specs.declared.operators.Comparison.{Comparison}
use Rattle.objects.specs.declared.operators.Comparison.TheVariants as comparison
use Rattle.op_forest.specs.declared.op.Op.TheVariants as op
use Rattle.op_forest.specs.declared.suffix.Suffix.TheVariants.{I, V}
use Rattle.c_meaning.specs.declared.core_stmt.CoreCase.{CoreCase}
use Rattle.c_meaning.specs.Units.{are_among, is_among}
use Rattle.switch_tables.specs.declared.table.Table.{Table}
use Rattle.switch_tables.specs.Laws.{AreLabels}
use Rattle.switch_tables.specs.Searches.{Search, Nowhere, At, last_in, search_over, in_order}
use Rattle.switch_tables.specs.Tables.{tables_of}
use Rattle.switch_tables.proofs.lemmas.Searching.{tables_are_searched}
use Rattle.switch_tables.proofs.lemmas.TableParts.{are_known}
use Rattle.c_rows_agree.specs.Integers.{number, binary_of}
use Rattle.c_rows_agree.specs.Places.{loaded_pointer}
use Rattle.c_rows_agree.specs.Typed.{head}
use Rattle.c_pointers_agree.specs.Pointers.{name}
use Rattle.lowered_forms.specs.Lows.{Low, acted_one, marked}
use Rattle.lowered_forms.specs.Values.{slot_read}
use Rattle.lowered_forms.proofs.lemmas.Pending.{nodes, empty_block}
use Rattle.lowered_forms.proofs.lemmas.WithinTemplates as within
use Rattle.lowered_blocks.specs.Known.{IsKnown}
use Rattle.lowered_blocks.proofs.lemmas.ExpressionNames.{compared_names}
use Rattle.lowered_blocks.proofs.lemmas.PlainTemplates as plain
use Rattle.lowered_blocks.proofs.lemmas.Steps.{names_of, known_by}
use Rattle.lowered_statements.specs.Bodies.{Body, with_low}
use Rattle.lowered_statements.specs.Functions.{Function}
use Rattle.lowered_statements.specs.Searches.{Choice, compared_with, place_in_table, through, Side, way, with_way, side_by, side_at, is_alone, below_tested, one_number, one_table, at_table, searched}
use Rattle.lowered_statements.specs.Steps.{BodyRelation, BodySteps}
use Rattle.lowered_statements.proofs.lemmas.SearchSteps.{searched_step}
use Rattle.lowered_labels.proofs.lemmas.KnownSteps.{acted_one_known, ended_known, marked_known, jumped_known, label_known}

-- ---- labels are only added

abbrev pub grows : BodyRelation
grows a b = a.low.labels ≤ b.low.labels

pub grow_steps : BodySteps grows
grow_steps = record {
  same = λ b. omega arith;
  joins = λ a b c x y. omega (arith, x, y);
  asks = λ t b. omega arith;
  acts = λ r b. omega arith;
  acts_one = λ h t b. omega arith;
  returns = λ b. omega arith;
  slot = λ b. omega arith;
  ends = λ b. omega arith;
  marks = λ n b. omega arith;
  label = λ b. omega arith;
  table = λ labels b. omega arith;
}

-- ---- the labels of a search

abbrev AllBelow : ℕ → List ℕ → Type 0
AllBelow k ls = AllByRecursion (λ l. l < k) ls

abbrev pub SearchBelow : ℕ → Search → Type 0
SearchBelow k Nowhere = Unit {0}
SearchBelow k (At t less greater) = AllBelow k t.labels × (SearchBelow k less × SearchBelow k greater)

-- ---- tests and jumps

compared_known : (o : Comparison) (x : Choice) (n label : ℕ) (l : Low) → label < l.labels → IsKnown l → IsKnown (compared_with o x n label l)
compared_known o x n label l lt h =
    known_by (compared_with o x n label l)
    (compared_names o x.signed true label (slot_read I x.slot) (number x.signed n) l lt tt (plain.number_in x.signed n) tt (within.number_in (nodes l) x.signed n) h.block (names_of l h)) empty_block

through_known : (f : Function) (x : Choice) (t : Table) (b : Body) → IsKnown b.low → IsKnown (through f x t b).low
through_known f x t b h =
    let table = f.tables + length b.tables in
    let v = binary_of binary.Subtract x.signed (slot_read I x.slot) (number x.signed t.low) in
    let place = (loaded_pointer (place_in_table x t.low table)).tree in
    let n = nodes b.low in
    let p = plain.moved_in 4 false (name table (pos 0)) v tt (plain.binary_in binary.Subtract x.signed (slot_read I x.slot) (number x.signed t.low) tt (plain.number_in x.signed t.low)) in
    let i = within.moved_in n 4 false (name table (pos 0)) v tt (within.binary_in n binary.Subtract x.signed (slot_read I x.slot) (number x.signed t.low) tt (within.number_in n x.signed t.low)) in
    ended_known (acted_one (head op.Jump V) place b.low) (acted_one_known (head op.Jump V) place b.low tt tt p i h)

-- ---- sides

abbrev CodeKnows : ℕ → (Body → Body) → Type 0
CodeKnows k code = (b : Body) → k ≤ b.low.labels → IsKnown b.low → IsKnown (code b).low × (b.low.labels ≤ (code b).low.labels)

way_known : (s : Search) (l : Low) → IsKnown l → IsKnown (with_way s l) × (l.labels ≤ (with_way s l).labels)
way_known Nowhere l h = (h, omega arith)
way_known (At t less greater) l h = (label_known l h, omega arith)

-- a label of its own, or the default's, has been used then
way_less : (s : Search) (default : ℕ) (l : Low) → default < l.labels → way s default l.labels < (with_way s l).labels
way_less Nowhere default l lt = lt
way_less (At t less greater) default l lt = omega arith

side_known : (s : Search) (code : Body → Body) (k default n : ℕ) → CodeKnows k code → (b : Body) → way s default n < b.low.labels → k ≤ b.low.labels → IsKnown b.low → IsKnown (side_by s code n b).low × (b.low.labels ≤ (side_by s code n b).low.labels)
side_known Nowhere code k default n g b lt le h = (h, omega arith)
side_known (At t less greater) code k default n g b lt le h = g (with_low (marked n b.low) b) le (marked_known n b.low lt h)

below_known : (alone : Bool) (x : Choice) (n label : ℕ) (l : Low) → label < l.labels → IsKnown l → IsKnown (below_tested alone x n label l) × (l.labels ≤ (below_tested alone x n label l).labels)
below_known true x n label l lt h = (h, omega arith)
below_known false x n label l lt h = (compared_known comparison.Less x n label l lt h, omega arith)

module _ (f : Function) (x : Choice) (k : ℕ) (lt : x.default < k) where
  one_number_known : (n label : ℕ) (less greater : Side) → label < k → CodeKnows k less.code → CodeKnows k greater.code → (b : Body) → k ≤ b.low.labels → IsKnown b.low → IsKnown (one_number x n label less greater b).low
  one_number_known n label less greater lb g i b le h =
      let below = b.low.labels in
      let w = way_known less.tables b.low h in
      let l1 = with_way less.tables b.low in
      let e1 : b.low.labels ≤ l1.labels = w.1 in
      let to = way less.tables x.default below in
      let lw : to < l1.labels = way_less less.tables x.default b.low (omega (arith, lt, le)) in
      let l2 = compared_with comparison.Equal x n label l1 in
      let h2 = compared_known comparison.Equal x n label l1 (omega (arith, lb, le, e1)) w.0 in
      let alone = is_alone less.tables greater.tables in
      let y = below_known alone x n to l2 lw h2 in
      let l3 = below_tested alone x n to l2 in
      let e3 : l1.labels ≤ l3.labels = y.1 in
      let z = i (with_low l3 b) (omega (arith, le, e1, e3)) y.0 in
      let b4 = greater.code (with_low l3 b) in
      let e4 : l3.labels ≤ b4.low.labels = z.1 in
      (side_known less.tables less.code k x.default below g b4 (omega (arith, lw, e3, e4)) (omega (arith, le, e1, e3, e4)) z.0).0

  one_table_known : (t : Table) (less greater : Side) → CodeKnows k less.code → CodeKnows k greater.code → (b : Body) → k ≤ b.low.labels → IsKnown b.low → IsKnown (one_table f x t less greater b).low
  one_table_known t less greater g i b le h =
      let below = b.low.labels in
      let w = way_known less.tables b.low h in
      let l1 = with_way less.tables b.low in
      let above = l1.labels in
      let v = way_known greater.tables l1 w.0 in
      let l2 = with_way greater.tables l1 in
      let e1 : b.low.labels ≤ l1.labels = w.1 in
      let e2 : l1.labels ≤ l2.labels = v.1 in
      let down = way less.tables x.default below in
      let up = way greater.tables x.default above in
      let ld : down < l1.labels = way_less less.tables x.default b.low (omega (arith, lt, le)) in
      let lu : up < l2.labels = way_less greater.tables x.default l1 (omega (arith, lt, le, e1)) in
      let l3 = compared_with comparison.Less x t.low down l2 in
      let h3 = compared_known comparison.Less x t.low down l2 (omega (arith, ld, e2)) v.0 in
      let l4 = compared_with comparison.Greater x (last_in t) up l3 in
      let h4 = compared_known comparison.Greater x (last_in t) up l3 lu h3 in
      let b5 = through f x t (with_low l4 b) in
      let h5 = through_known f x t (with_low l4 b) h4 in
      let e5 : k ≤ l2.labels = omega (arith, le, e1, e2) in
      let y = side_known greater.tables greater.code k x.default above i b5 lu e5 h5 in
      let b6 = side_at greater above b5 in
      let e6 : l2.labels ≤ b6.low.labels = y.1 in
      (side_known less.tables less.code k x.default below g b6 (omega (arith, ld, e2, e6)) (omega (arith, le, e1, e2, e6)) y.0).0

  at_table_known : (ls : List ℕ) (t : Table) (less greater : Side) → AllBelow k ls → CodeKnows k less.code → CodeKnows k greater.code → (b : Body) → k ≤ b.low.labels → IsKnown b.low → IsKnown (at_table ls f x t less greater b).low
  at_table_known [] t less greater a g i b le h = one_table_known t less greater g i b le h
  at_table_known (label ∷ []) t less greater a g i b le h = one_number_known t.low label less greater a.0 g i b le h
  at_table_known (label ∷ other ∷ ls) t less greater a g i b le h = one_table_known t less greater g i b le h

  pub searched_known : (s : Search) → SearchBelow k s → CodeKnows k (λ b. searched f x s b)
  searched_known Nowhere a b le h = (jumped_known x.default b.low (omega (arith, lt, le)) h, omega arith)
  searched_known (At t less greater) a b le h = (
    at_table_known t.labels t (record { tables = less; code = λ b1. searched f x less b1 }) (record { tables = greater; code = λ b1. searched f x greater b1 }) a.0
        (λ b1 le1 h1. searched_known less a.1.0 b1 le1 h1) (λ b1 le1 h1. searched_known greater a.1.1 b1 le1 h1) b le h,
    searched_step grows grow_steps f x (At t less greater) b,
  )

-- ---- the tables of a switch

tables_front : (P : Table → Type 0) (xs ys : List Table) → AllByRecursion P (xs ++ ys) → AllByRecursion P xs
tables_front P [] ys h = tt
tables_front P (x ∷ xs) ys h = (h.0, tables_front P xs ys h.1)

tables_back : (P : Table → Type 0) (xs ys : List Table) → AllByRecursion P (xs ++ ys) → AllByRecursion P ys
tables_back P [] ys h = h
tables_back P (x ∷ xs) ys h = tables_back P xs ys h.1

from_order : (k : ℕ) (s : Search) → AllByRecursion (λ t. AllBelow k t.labels) (in_order s) → SearchBelow k s
from_order k Nowhere h = tt
from_order k (At t less greater) h =
    let behind = tables_back (λ u. AllBelow k u.labels) (in_order less) (t ∷ in_order greater) h in
    (behind.0, (from_order k less (tables_front (λ u. AllBelow k u.labels) (in_order less) (t ∷ in_order greater) h), from_order k greater behind.1))

or_true : (a b : Bool) → b ≡ true → (a || b) ≡ true
or_true true b h = refl
or_true false b h = h

and_true : (a b : Bool) → a ≡ true → b ≡ true → (a && b) ≡ true
and_true true b f g = g
and_true false b f g = f

and_both : (a b : Bool) → (a && b) ≡ true → (a ≡ true) × (b ≡ true)
and_both true b h = (refl, h)
and_both false b h = absurd (let never : ⊥ = cc in never)

first_among : (n : ℕ) (ns : List ℕ) → is_among n (n ∷ ns) ≡ true
first_among n ns = ⊎_elim (λ x. ap (λ (b : Bool). b || is_among n ns) x.0) (λ x. absurd (x.1 refl)) (eqb_tells n n)

cases_more : (cs : List CoreCase) (m : ℕ) (ns : List ℕ) → are_among cs ns ≡ true → are_among cs (m ∷ ns) ≡ true
cases_more [] m ns h = refl
cases_more (c ∷ cs) m ns h =
    let x = and_both (is_among c.label ns) (are_among cs ns) h in
    and_true (is_among c.label (m ∷ ns)) (are_among cs (m ∷ ns)) (or_true (c.label == m) (is_among c.label ns) x.0) (cases_more cs m ns x.1)

own_among : (cs : List CoreCase) → are_among cs (map (λ (c : CoreCase). c.label) cs) ≡ true
own_among [] = refl
own_among (c ∷ cs) =
    let ns = map (λ (d : CoreCase). d.label) cs in
    and_true (is_among c.label (c.label ∷ ns)) (are_among cs (c.label ∷ ns)) (first_among c.label ns) (cases_more cs c.label ns (own_among cs))

among_below : (k l : ℕ) (ns : List ℕ) → AllBelow k ns → is_among l ns ≡ true → l < k
among_below k l [] h e = absurd (let never : ⊥ = cc in never)
among_below k l (n ∷ ns) h e =
    ⊎_elim
    (λ x. subst (λ m. m < k) (sym x.1) h.0)
    (λ x. among_below k l ns h.1 (sym (ap (λ (b : Bool). b || is_among l ns) x.0) ∙ e))
    (eqb_tells l n)

labels_below : (k : ℕ) (known ls : List ℕ) → AllBelow k known → AllByRecursion (λ l. is_among l known ≡ true) ls → AllBelow k ls
labels_below k known [] h g = tt
labels_below k known (l ∷ ls) h g = (among_below k l known h g.0, labels_below k known ls h g.1)

tables_below : (k : ℕ) (known : List ℕ) (ts : List Table) → AllBelow k known → AllByRecursion (AreLabels known) ts → AllByRecursion (λ t. AllBelow k t.labels) ts
tables_below k known [] h g = tt
tables_below k known (t ∷ ts) h g = (labels_below k known t.labels h g.0, tables_below k known ts h g.1)

pub search_below : (k : ℕ) (signed : Bool) (cases : List CoreCase) (default : ℕ) → default < k → AllByRecursion (λ l. l < k) (map (λ (c : CoreCase). c.label) cases) → SearchBelow k (search_over (tables_of signed default cases))
search_below k signed cases default lt h =
    let ns = map (λ (c : CoreCase). c.label) cases in
    let tables = tables_of signed default cases in
    let known = are_known signed cases default (default ∷ ns) (cases_more cases default ns (own_among cases)) (first_among default ns) in
    let all = tables_below k (default ∷ ns) tables (lt, h) known in
    from_order k (search_over tables) (subst (λ (ts : List Table). AllByRecursion (λ t. AllBelow k t.labels) ts) (sym (tables_are_searched tables)) all)
