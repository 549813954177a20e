-- Blocks stay blocks behind statements: operands are nodes of the open block, and no two nodes are equal.
use Rattle.std.specs.Prelude.{ℕ, zero, suc, ◌+◌, ◌-◌, ◌*◌, ◌/◌, ◌%◌, min, length, get_or, pos, nat_le, nat_lt, Bool, true, false, Option, Some, None, List, [], ◌∷◌, slice_get}
use Rattle.std.proofs.Common.{sym, subst}
use Rattle.objects.specs.declared.width.Width.{Width}
use Rattle.objects.specs.declared.width.Width.TheVariants.{One, Two, Four}
use Rattle.objects.specs.Values.{bytes_in}
use Rattle.op_forest.specs.declared.op.Op.TheVariants as op
use Rattle.op_forest.specs.declared.suffix.Suffix.TheVariants.{I, V}
use Rattle.c_types.specs.CType.{CType, Array}
use Rattle.c_meaning.specs.declared.core_expr.CoreKind.{CoreKind}
use Rattle.c_meaning.specs.declared.core_expr.CoreKind.TheVariants as kind
use Rattle.c_meaning.specs.CoreTrees.{what_of}
use Rattle.c_meaning.specs.StmtTrees.{FilledOf}
use Rattle.c_meaning.specs.StmtTrees as stmt
use Rattle.c_meaning.specs.Types.{is_array, is_record}
use Rattle.c_meaning.specs.Values.{CoreTree}
use Rattle.c_runs.specs.Places.{size_of, align_of, spot_filled, is_field}
use Rattle.dag_forest.specs.declared.kids.Kids.TheVariants.{Zero}
use Rattle.dag_forest.specs.Tally.{AreDistinct, node_count}
use Rattle.dag_seam.proofs.lemmas.Growing.{formed_goes_on}
use Rattle.dag_seam.proofs.lemmas.Keys.{keys_root}
use Rattle.c_rows_agree.specs.Integers.{number}
use Rattle.c_rows_agree.specs.Places.{stored_as, stored_by}
use Rattle.c_rows_agree.specs.Templates.{Template, Root}
use Rattle.c_rows_agree.specs.Typed.{Typed, head, constant_i, as_i, as_p}
use Rattle.c_pointers_agree.specs.Pointers.{name}
use Rattle.lowered_forms.specs.Accesses.{copy_root, copied, written_by}
use Rattle.lowered_forms.specs.Asked.{with_kids}
use Rattle.lowered_forms.specs.Blocks.{IsBlock, IsWithin}
use Rattle.lowered_forms.specs.Contexts.{text_name}
use Rattle.lowered_forms.specs.Expressions.{low_e}
use Rattle.lowered_forms.specs.Lows.{Low, acted, acted_one, marked}
use Rattle.lowered_forms.specs.Places.{further, is_passed_whole, local_place}
use Rattle.lowered_forms.proofs.lemmas.Blocks.{rooted_there, rooted_one_there}
use Rattle.lowered_forms.proofs.lemmas.NodesOf.{values_have_nodes}
use Rattle.lowered_forms.proofs.lemmas.Pending.{empty_block}
use Rattle.lowered_forms.proofs.lemmas.WithinTemplates.{HasIn, as_i_in, as_p_in, further_in, local_in, written_left, written_right}
use Rattle.lowered_statements.specs.Bodies.{Body, with_low, returned}
use Rattle.lowered_statements.specs.Functions.{Function, Exits, label_at}
use Rattle.lowered_statements.specs.Initialisers.{part_at, text_copied, text_filled, filled_by, filled, all_filled, zeroed_whole, initialised_as}
use Rattle.lowered_statements.specs.Returns.{hidden, given_by, nothing_given, return_row}
use Rattle.lowered_statements.specs.Rows.{choice_by}
use Rattle.lowered_statements.specs.Statements.{StmtTree, StmtTrees, is_nothing, low_s, low_all}
use Rattle.lowered_statements.specs.Zeroing.{zeroed_at, zeroed_each, zeroed_by, zeroed}

abbrev nodes : Low → ℕ
nodes l = node_count l.entries

-- it finds no node
abbrev IsFree : Typed → Type 0
IsFree a = (n : ℕ) → HasIn n a

-- ---- roots

acted_block : (r : Root) (l : Low) → IsBlock l.entries → IsWithin (nodes l) r.left → IsWithin (nodes l) r.right → IsBlock (acted r l).entries
acted_block r l b f g = (rooted_there r l.entries b f g).0

returned_block : (l : Low) → IsBlock l.entries → IsBlock (returned l).entries
returned_block l b =
    let x = with_kids (head op.Ret V) Zero in
    record { formed = (formed_goes_on l.entries b.formed x tt).1; distinct = subst AreDistinct (sym (keys_root l.entries x)) b.distinct }

given_back : (t : Template) (l : Low) → IsBlock l.entries → IsWithin (nodes l) t → IsBlock (acted_one (head op.Ret I) t l).entries
given_back t l b h = (rooted_one_there (head op.Ret I) t l.entries b h).0

copied_block : (size align : ℕ) (to from : Typed) (l : Low) → IsBlock l.entries → HasIn (nodes l) to → HasIn (nodes l) from → IsBlock (acted (copy_root size align to from) l).entries
copied_block size align to from l b f g = acted_block (copy_root size align to from) l b (as_p_in (nodes l) to.suffix to.tree f) (as_p_in (nodes l) from.suffix from.tree g)

-- ---- zeros

free_further : (b : Bool) (by : ℕ) (base : Typed) → IsFree base → IsFree (further b by base)
free_further b by base h n = further_in n b by base (h n)

zero_left : (n : ℕ) (w : Width) (a : Template) → IsWithin n a → IsWithin n (stored_by w a (number true 0)).left
zero_left n One a h = h
zero_left n Two a h = h
zero_left n Four a h = h

zero_right : (n : ℕ) (w : Width) (a : Template) → IsWithin n (stored_by w a (number true 0)).right
zero_right n One a = tt
zero_right n Two a = tt
zero_right n Four a = tt

zero_block : (base : Typed) → IsFree base → (w : Width) (from : ℕ) (l : Low) → IsBlock l.entries → IsBlock (zeroed_at base w from l).entries
zero_block base h w from l b =
    let p = further true from base in
    acted_block (stored_as w p (number true 0)) l b
    (zero_left (nodes l) w (as_p p) (as_p_in (nodes l) p.suffix p.tree (free_further true from base h (nodes l))))
    (zero_right (nodes l) w (as_p p))

each_block : (base : Typed) → IsFree base → (w : Width) (from n : ℕ) (l : Low) → IsBlock l.entries → IsBlock (zeroed_each base w from n l).entries
each_block base h w from zero l b = b
each_block base h w from (suc n) l b = each_block base h w (from + bytes_in w) n (zeroed_at base w from l) (zero_block base h w from l b)

zeroed_by_block : (few : Bool) (base : Typed) → IsFree base → (w : Width) (from n : ℕ) (l : Low) → IsBlock l.entries → IsBlock (zeroed_by few base w from n l).entries
zeroed_by_block true base h w from n l b = each_block base h w from n l b
zeroed_by_block false base h w from n l b = empty_block

zeroed_block : (base : Typed) → IsFree base → (w : Width) (from n : ℕ) (l : Low) → IsBlock l.entries → IsBlock (zeroed base w from n l).entries
zeroed_block base h w from n l b = zeroed_by_block (nat_le n 4) base h w from n l b

-- ---- initialisers

text_copied_block : (base text : Typed) → IsFree base → IsFree text → (offset bytes room : ℕ) (l : Low) → IsBlock l.entries → IsBlock (text_copied base text offset bytes room l).entries
text_copied_block base text h g offset bytes room l b =
    zeroed_block base h One (offset + bytes) (room - bytes) (acted (copy_root bytes 1 (part_at room offset base) text) l) (copied_block bytes 1 (part_at room offset base) text l b (free_further (nat_lt 0 room) offset base h (nodes l)) (g (nodes l)))

text_block : (f : Function) (base : Typed) → IsFree base → (offset : ℕ) (of : CType) (what : CoreKind) (l : Low) → IsBlock l.entries → IsBlock (text_filled f base offset of what l).entries
text_block f base h offset (Array of (Some room)) (kind.Text n) l b = text_copied_block base (name (text_name f.context.unit n) (pos 0)) h (λ m. tt) offset (min room (length (get_or f.context.unit.texts n []) + 1)) room l b
text_block f base h offset of what l b = b

filled_by_block : (array whole : Bool) (f : Function) (base : Typed) → IsFree base → (p : FilledOf CType) (v : Typed) (l : Low) → IsBlock l.entries → HasIn (nodes l) v
    → IsBlock (filled_by array whole f base p v l).entries
filled_by_block true whole f base h p v l b g = text_block f base h p.offset p.of (what_of p.value) l b
filled_by_block false true f base h p v l b g =
    let size = size_of f.context.unit.tags p.of in
    copied_block size (align_of f.context.unit.tags p.of) (part_at size p.offset base) v l b (free_further (nat_lt 0 size) p.offset base h (nodes l)) g
filled_by_block false false f base h p v l b g =
    let x = spot_filled p in
    let to = further true p.offset base in
    acted_block (written_by (is_field x) false f.context.order x to v) l b
    (written_left (nodes l) (is_field x) false f.context.order x to v (free_further true p.offset base h (nodes l)))
    (written_right (nodes l) (is_field x) false f.context.order x to v (free_further true p.offset base h (nodes l)) g)

filled_block : (f : Function) (base : Typed) → IsFree base → (p : FilledOf CType) (l : Low) → IsBlock l.entries → IsBlock (filled f base p l).entries
filled_block f base h p l b =
    let r = low_e f.context p.value l in
    let v = values_have_nodes f.context p.value l b in
    filled_by_block (is_array p.of) (is_record p.of) f base h p r.value r.low v.block v.value

all_filled_block : (f : Function) (base : Typed) → IsFree base → (ps : List (FilledOf CType)) (l : Low) → IsBlock l.entries → IsBlock (all_filled f base ps l).entries
all_filled_block f base h [] l b = b
all_filled_block f base h (p ∷ ps) l b = all_filled_block f base h ps (filled f base p l) (filled_block f base h p l b)

whole_block : (clears : Bool) (base : Typed) → IsFree base → (size : ℕ) (l : Low) → IsBlock l.entries → IsBlock (zeroed_whole clears base size l).entries
whole_block true base h size l b = each_block base h One (4 * (size / 4)) (size % 4) (zeroed base Four 0 (size / 4) l) (zeroed_block base h Four 0 (size / 4) l b)
whole_block false base h size l b = b

initialised_as_block : (f : Function) (n : ℕ) (of : Option CType) (clears : Bool) (ps : List (FilledOf CType)) (l : Low) → IsBlock l.entries → IsBlock (initialised_as f n of clears ps l).entries
initialised_as_block f n None clears ps l b = b
initialised_as_block f n (Some of) clears ps l b =
    let base = local_place f.context n of in
    let h : IsFree base = λ m. local_in m (is_passed_whole f.context n of) (slice_get f.context.places n) in
    let size = size_of f.context.unit.tags of in
    all_filled_block f base h ps (zeroed_whole clears base size l) (whole_block clears base h size l b)

-- ---- returns

nothing_block : (clears : Bool) (l : Low) → IsBlock l.entries → IsBlock (nothing_given clears l).entries
nothing_block true l b = given_back (constant_i 0) l b tt
nothing_block false l b = returned_block l b

given_block : (whole : Bool) (f : Function) (v : Typed) (l : Low) → IsBlock l.entries → HasIn (nodes l) v → IsBlock (given_by whole f v l).entries
given_block true f v l b h =
    returned_block (copied f.context.unit.tags f.result hidden v l)
    (copied_block (size_of f.context.unit.tags f.result) (align_of f.context.unit.tags f.result) hidden v l b tt h)
given_block false f v l b h = given_back (as_i v) l b (as_i_in (nodes l) v.suffix v.tree h)

return_block : (f : Function) (e : Option CoreTree) (l : Low) → IsBlock l.entries → IsBlock (return_row f e l).entries
return_block f None l b = nothing_block f.gives_zero l b
return_block f (Some e) l b =
    let r = low_e f.context e l in
    let v = values_have_nodes f.context e l b in
    given_block (is_record f.result) f r.value r.low v.block v.value

-- ---- statements

choice_block : (nothing : Bool) (f : Function) (e : CoreTree) (then otherwise : Body → Body) (b : Body) → IsBlock (choice_by nothing f e then otherwise b).low.entries
choice_block true f e then otherwise b = empty_block
choice_block false f e then otherwise b = empty_block

mutual
  pub statements_leave : (f : Function) (y : Exits) (t : StmtTree) (b : Body) → IsBlock b.low.entries → IsBlock (low_s f y t b).low.entries
  statements_leave f y stmt.Nothing b h = h
  statements_leave f y (stmt.Expression e) b h = (values_have_nodes f.context e b.low h).block
  statements_leave f y (stmt.Initialise local clears ps) b h = initialised_as_block f local (slice_get f.locals local) clears ps b.low h
  statements_leave f y (stmt.Block first locals ts) b h = all_leave f y ts b h
  statements_leave f y (stmt.If e t u) b h = choice_block (is_nothing u) f e (λ b1. low_s f y t b1) (λ b1. low_s f y u b1) b
  statements_leave f y (stmt.While e t) b h = empty_block
  statements_leave f y (stmt.Do t e) b h = empty_block
  statements_leave f y (stmt.For first test last t) b h = empty_block
  statements_leave f y (stmt.Switch e cases default t) b h = empty_block
  statements_leave f y (stmt.Label n t) b h = statements_leave f y t (with_low (marked (label_at f n) b.low) b) empty_block
  statements_leave f y (stmt.Goto n) b h = empty_block
  statements_leave f y stmt.Break b h = empty_block
  statements_leave f y stmt.Continue b h = empty_block
  statements_leave f y (stmt.Return e) b h = return_block f e b.low h

  all_leave : (f : Function) (y : Exits) (ts : StmtTrees) (b : Body) → IsBlock b.low.entries → IsBlock (low_all f y ts b).low.entries
  all_leave f y stmt.NoStmt b h = h
  all_leave f y (stmt.Stmts t ts) b h = all_leave f y ts (low_s f y t b) (statements_leave f y t b h)
