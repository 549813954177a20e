-- What two operands, assignments and changes come to finds nodes of the open block.
use Rattle.std.specs.Prelude.{◌≡◌, ◌≤◌, ℕ, Bool, true, false, List, [], ◌∷◌, ◌++◌}
use Rattle.std.proofs.Common.{subst, sym, arith}
use Rattle.lcc_base.specs.declared.order.Order.{Order}
use Rattle.c_types.specs.CType.{CType}
use Rattle.c_meaning.specs.declared.core_expr.Change.{Change}
use Rattle.c_meaning.specs.Values.{CoreTree}
use Rattle.c_runs.specs.Places.{Spot, is_field, size_of, align_of}
use Rattle.dag_forest.specs.declared.entry.Entry.{Entry}
use Rattle.dag_forest.specs.declared.entry.Entry.TheVariants as entry
use Rattle.dag_forest.specs.Tally.{node_count}
use Rattle.c_rows_agree.specs.Typed.{Typed}
use Rattle.lowered_forms.specs.Accesses.{read, kept, written, written_by, assigned, copied, copy_root}
use Rattle.lowered_forms.specs.Blocks.{IsBlock}
use Rattle.lowered_forms.specs.Changes.{assigned_by, changed, changed_at, new_given, old_given}
use Rattle.lowered_forms.specs.Contexts.{Context}
use Rattle.lowered_forms.specs.Expressions.{low_e}
use Rattle.lowered_forms.specs.Later.{IsFront}
use Rattle.lowered_forms.specs.Lows.{Low}
use Rattle.lowered_forms.specs.Straight.{straight}
use Rattle.lowered_forms.specs.Values.{Lowered, Part, placed, held, of_two}
use Rattle.lowered_forms.proofs.lemmas.Blocks.{within_more}
use Rattle.lowered_forms.proofs.lemmas.Going.{straight_goes_on}
use Rattle.lowered_forms.proofs.lemmas.WithinTemplates.{HasIn, as_p_in, read_in, kept_in_block, written_left, written_right, changed_in}
use Rattle.lowered_forms.proofs.lemmas.Pending.{nodes, IsPending, pending_in, pending_more, Comes, placed_comes, placed_grows, Acted, acted_comes, PartComes, behind_comes}

-- ---- entries that go on have the nodes

count_more : (xs ys : List Entry) → node_count xs ≤ node_count (xs ++ ys)
count_more [] ys = omega arith
count_more (entry.Value x ∷ xs) ys = let e = count_more xs ys in omega (arith, e)
count_more (entry.Root x ∷ xs) ys = count_more xs ys

front_more : (xs ys : List Entry) → IsFront xs ys → node_count xs ≤ node_count ys
front_more xs ys f = subst (λ zs. node_count xs ≤ node_count zs) (sym f.is) (count_more xs f.more)

pub straight_grows : (s : Context) (e : CoreTree) → straight e ≡ true → (l : Low) → nodes l ≤ nodes (low_e s e l).low
straight_grows s e h l = front_more l.entries (low_e s e l).low.entries (straight_goes_on s e h l).entries

-- ---- operations

abbrev pub GoesIn : (Typed → Typed → Low → Lowered) → Type 0
GoesIn go = (x y : Typed) (l : Low) → IsBlock l.entries → HasIn (nodes l) x → HasIn (nodes l) y → Comes (go x y l)

pub two_come : (a b : Part) → PartComes a → PartComes b → (go : Typed → Typed → Low → Lowered) → GoesIn go → (l : Low) → IsBlock l.entries → Comes (of_two a b l go)
two_come a b p q go h l bl =
    let v = a.value l in
    let c = p.value l bl in
    let x = held (straight b.tree) v.value v.low in
    let y = b.value x.low in
    let d = behind_comes (straight b.tree) b q (λ e. e) v.value v.low c.block c.value in
    h x.value y.value y.low d.second.block (pending_in (nodes y.low) x.value.tree d.first) (pending_in (nodes y.low) y.value.tree d.second.value)

written_comes : (shared : Bool) (order : Order) (x : Spot) (p v : Typed) (l : Low) → IsBlock l.entries → HasIn (nodes l) p → HasIn (nodes l) v → Acted l (written shared order x p v l)
written_comes shared order x p v l b f g =
    acted_comes (written_by (is_field x) shared order x p v) l b (written_left (nodes l) (is_field x) shared order x p v f) (written_right (nodes l) (is_field x) shared order x p v f g)

pub copied_comes : (s : Context) (of : CType) (p v : Typed) (l : Low) → IsBlock l.entries → HasIn (nodes l) p → HasIn (nodes l) v → Acted l (copied s.unit.tags of p v l)
copied_comes s of p v l b f g = acted_comes (copy_root (size_of s.unit.tags of) (align_of s.unit.tags of) p v) l b (as_p_in (nodes l) p.suffix p.tree f) (as_p_in (nodes l) v.suffix v.tree g)

pub more_in : (m n : ℕ) (a : Typed) → m ≤ n → HasIn m a → HasIn n a
more_in m n a h f = within_more m n a.tree h f

-- a node is asked for, and the others stay
record ComesWith (l : Low) (r : Lowered) : Type 0 where
  pub comes : Comes r
  pub more : nodes l ≤ nodes r.low

placed_more : (a : Typed) (l : Low) → IsBlock l.entries → HasIn (nodes l) a → ComesWith l (placed a l)
placed_more a l b h = record { comes = placed_comes a l b h; more = placed_grows a.suffix a.tree l b h }

assigned_comes : (order : Order) (x : Spot) (p v : Typed) (l : Low) → IsBlock l.entries → HasIn (nodes l) p → HasIn (nodes l) v → Comes (assigned order x p v l)
assigned_comes order x p v l b f g =
    let u = placed (kept x v) l in
    let c = placed_more (kept x v) l b (kept_in_block (nodes l) (is_field x) x v g) in
    let n = nodes u.low in
    let a = written_comes true order x p v u.low c.comes.block (more_in (nodes l) n p c.more f) (more_in (nodes l) n v c.more g) in
    record { block = a.block; value = pending_more n (nodes (written true order x p v u.low)) u.value.tree a.more c.comes.value }

pub assigned_by_come : (b : Bool) (s : Context) (of : CType) (x : Spot) → GoesIn (λ p v l. assigned_by b s of x p v l)
assigned_by_come true s of x p v l b f g =
    let a = copied_comes s of p v l b f g in
    placed_comes p (copied s.unit.tags of p v l) a.block (more_in (nodes l) (nodes (copied s.unit.tags of p v l)) p a.more f)
assigned_by_come false s of x p v l b f g = assigned_comes s.order x p v l b f g

pub new_come : (order : Order) (x : Spot) (p old new : Typed) (l : Low) → IsBlock l.entries → HasIn (nodes l) p → HasIn (nodes l) old → HasIn (nodes l) new → Comes (new_given order x p old new l)
new_come order x p old new l b f g h = assigned_comes order x p new l b f h

pub old_come : (order : Order) (x : Spot) (p old new : Typed) (l : Low) → IsBlock l.entries → HasIn (nodes l) p → IsPending (nodes l) old.tree → HasIn (nodes l) new → Comes (old_given order x p old new l)
old_come order x p old new l b f g h =
    let a = written_comes false order x p new l b f h in
    record { block = a.block; value = pending_more (nodes l) (nodes (written false order x p new l)) old.tree a.more g }

-- what a change gives finds nodes, given those of the place, of the old value and of the new one
abbrev pub Gives : (Order → Spot → Typed → Typed → Typed → Low → Lowered) → Order → Spot → Type 0
Gives give order x = (p old new : Typed) (l : Low) → IsBlock l.entries → HasIn (nodes l) p → IsPending (nodes l) old.tree → HasIn (nodes l) new → Comes (give order x p old new l)

pub changed_come : (order : Order) (by : Change) (x : Spot) (give : Order → Spot → Typed → Typed → Typed → Low → Lowered) → Gives give order x → GoesIn (λ p v l. changed_at order by x give p v l)
changed_come order by x give h p v l b f g =
    let old = placed (read order x p) l in
    let c = placed_more (read order x p) l b (read_in (nodes l) order x p f) in
    let n = nodes old.low in
    let f1 = more_in (nodes l) n p c.more f in
    let g1 = more_in (nodes l) n v c.more g in
    let o1 = pending_in n old.value.tree c.comes.value in
    let new = placed (changed by x old.value v) old.low in
    let d = placed_more (changed by x old.value v) old.low c.comes.block (changed_in n by x old.value v o1 g1) in
    let m = nodes new.low in
    h p old.value new.value new.low d.comes.block (more_in n m p d.more f1) (pending_more n m old.value.tree d.more c.comes.value) (pending_in m new.value.tree d.comes.value)
