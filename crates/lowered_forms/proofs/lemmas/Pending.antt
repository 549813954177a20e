-- Operands that wait find nodes of the open block, or none.
use Rattle.std.specs.Prelude.{◌≡◌, ◌≤◌, ◌<◌, ℕ, Bool, true, false, ℤ, []}
use Rattle.std.proofs.Common.{refl, arith}
use Rattle.objects.specs.declared.width.Width.TheVariants.{Four}
use Rattle.op_forest.specs.Nodes.{Head}
use Rattle.op_forest.specs.declared.suffix.Suffix.{Suffix}
use Rattle.op_forest.specs.declared.suffix.Suffix.TheVariants.{C, S, I, U, P, B, V}
use Rattle.dag_forest.specs.Tally.{node_count}
use Rattle.c_rows_agree.specs.Templates.{Template, Given, Leaf, One, Two, Root}
use Rattle.c_rows_agree.specs.Typed.{Typed}
use Rattle.c_rows_agree.specs.Places.{stored_as}
use Rattle.c_pointers_agree.specs.Pointers.{local}
use Rattle.lowered_forms.specs.Blocks.{IsBlock, IsWithin}
use Rattle.lowered_forms.specs.Lows.{Low, acted, acted_one, slot_offset, with_slot}
use Rattle.lowered_forms.specs.Straight.{straight}
use Rattle.lowered_forms.specs.Values.{Lowered, Part, placed_tree, placed, slot_read, saved, saved_tree, held}
use Rattle.lowered_forms.proofs.lemmas.Blocks.{asked_there, rooted_there, rooted_one_there, within_more}
use Rattle.lowered_forms.proofs.lemmas.WithinTemplates.{HasIn, slot_left, slot_right}

abbrev pub nodes : Low → ℕ
nodes l = node_count l.entries

-- a node of the first n, an address or a constant, or what finds no node
abbrev pub IsPending : ℕ → Template → Type 0
IsPending n (Given m) = m < n
IsPending n (Leaf h) = Unit {0}
IsPending n (One h a) = IsWithin 0 (One h a)
IsPending n (Two h a b) = IsWithin 0 (Two h a b)

pub pending_in : (n : ℕ) (t : Template) → IsPending n t → IsWithin n t
pending_in n (Given m) h = h
pending_in n (Leaf x) h = tt
pending_in n (One x a) h = within_more 0 n (One x a) (omega arith) h
pending_in n (Two x a b) h = within_more 0 n (Two x a b) (omega arith) h

pub pending_more : (m n : ℕ) (t : Template) → m ≤ n → IsPending m t → IsPending n t
pending_more m n (Given k) h f = omega (arith, h, f)
pending_more m n (Leaf x) h f = tt
pending_more m n (One x a) h f = f
pending_more m n (Two x a b) h f = f

-- what an expression comes to
pub record Comes (r : Lowered) : Type 0 where
  pub block : IsBlock r.low.entries
  pub value : IsPending (nodes r.low) r.value.tree

pub empty_block : IsBlock []
empty_block = record { formed = tt; distinct = λ i j k e f. let never : ⊥ = cc in absurd never }

placed_tree_comes : (s : Suffix) (t : Template) (l : Low) → IsBlock l.entries → IsWithin (nodes l) t → Comes (placed_tree s t l)
placed_tree_comes s (Given n) l b h = record { block = b; value = h }
placed_tree_comes s (Leaf x) l b h = record { block = b; value = tt }
placed_tree_comes s (One x a) l b h = let t = asked_there (One x a) l.entries b h in record { block = t.block; value = t.below }
placed_tree_comes s (Two x a c) l b h = let t = asked_there (Two x a c) l.entries b h in record { block = t.block; value = t.below }

pub placed_comes : (a : Typed) (l : Low) → IsBlock l.entries → HasIn (nodes l) a → Comes (placed a l)
placed_comes a l b h = placed_tree_comes a.suffix a.tree l b h

pub placed_grows : (s : Suffix) (t : Template) (l : Low) → IsBlock l.entries → IsWithin (nodes l) t → nodes l ≤ nodes (placed_tree s t l).low
placed_grows s (Given n) l b h = omega arith
placed_grows s (Leaf x) l b h = omega arith
placed_grows s (One x a) l b h = (asked_there (One x a) l.entries b h).others
placed_grows s (Two x a c) l b h = (asked_there (Two x a c) l.entries b h).others

-- a root is added to the block, which has its nodes still
pub record Acted (l m : Low) : Type 0 where
  pub block : IsBlock m.entries
  pub more : nodes l ≤ nodes m

pub acted_comes : (r : Root) (l : Low) → IsBlock l.entries → IsWithin (nodes l) r.left → IsWithin (nodes l) r.right → Acted l (acted r l)
acted_comes r l b f g = let p = rooted_there r l.entries b f g in record { block = p.0; more = p.1 }

pub acted_one_comes : (h : Head) (t : Template) (l : Low) → IsBlock l.entries → IsWithin (nodes l) t → Acted l (acted_one h t l)
acted_one_comes h t l b f = let p = rooted_one_there h t l.entries b f in record { block = p.0; more = p.1 }

-- ---- operands that wait

saved_comes : (a : Typed) (l : Low) → IsBlock l.entries → HasIn (nodes l) a → Acted l (saved a l).low
saved_comes a l b h =
    let p = acted_comes (stored_as Four (local (slot_offset l)) a) (with_slot l) b (slot_left (nodes l) (slot_offset l) a) (slot_right (nodes l) (slot_offset l) a h) in
    record { block = p.block; more = p.more }

saved_tree_comes : (t : Template) (a : Typed) (l : Low) → IsBlock l.entries → HasIn (nodes l) a → Acted l (saved_tree t a l).low
saved_tree_comes (Given n) a l b h = saved_comes a l b h
saved_tree_comes (Leaf x) a l b h = record { block = b; more = omega arith }
saved_tree_comes (One x c) a l b h = record { block = b; more = omega arith }
saved_tree_comes (Two x c d) a l b h = record { block = b; more = omega arith }

pub held_comes : (st : Bool) (a : Typed) (l : Low) → IsBlock l.entries → HasIn (nodes l) a → Acted l (held st a l).low
held_comes true a l b h = record { block = b; more = omega arith }
held_comes false a l b h = saved_tree_comes a.tree a l b h

slot_free : (x : Suffix) (z : ℤ) → IsPending 0 (slot_read x z).tree
slot_free C z = tt
slot_free S z = tt
slot_free I z = tt
slot_free U z = tt
slot_free P z = tt
slot_free B z = tt
slot_free V z = tt

saved_free : (m : ℕ) (s : Suffix) (t : Template) (l : Low) → IsPending m t → IsPending 0 (saved_tree t (record { tree = t; suffix = s }) l).value.tree
saved_free m s (Given n) l h = slot_free s (slot_offset l)
saved_free m s (Leaf x) l h = tt
saved_free m s (One x a) l h = h
saved_free m s (Two x a b) l h = h

-- it finds no node where the other operand may end the block
pub held_free : (m : ℕ) (a : Typed) (l : Low) → IsPending m a.tree → IsPending 0 (held false a l).value.tree
held_free m a l h = saved_free m a.suffix a.tree l h

-- ---- two operands

pub record PartComes (a : Part) : Type 0 where
  pub value : (l : Low) → IsBlock l.entries → Comes (a.value l)
  pub grows : straight a.tree ≡ true → (l : Low) → nodes l ≤ nodes (a.value l).low

-- behind a second one the first one still finds its node, or none
pub record BothCome (x : Typed) (r : Lowered) : Type 0 where
  pub second : Comes r
  pub first : IsPending (nodes r.low) x.tree

pub behind_comes : (st : Bool) (b : Part) → PartComes b → (st ≡ true → straight b.tree ≡ true) → (v : Typed) (l : Low) → IsBlock l.entries → IsPending (nodes l) v.tree
    → BothCome (held st v l).value (b.value (held st v l).low)
behind_comes true b p e v l bl h = record { second = p.value l bl; first = pending_more (nodes l) (nodes (b.value l).low) v.tree (p.grows (e refl) l) h }
behind_comes false b p e v l bl h =
    let a = held_comes false v l bl (pending_in (nodes l) v.tree h) in
    record {
      second = p.value (held false v l).low a.block;
      first = pending_more 0 (nodes (b.value (held false v l).low).low) (held false v l).value.tree (omega arith) (held_free (nodes l) v l h);
    }
