-- How many nodes more each step adds to the open block at most.
use Rattle.std.proofs.Common.{◌≡◌, ℕ, zero, suc, ◌+◌, ◌≤◌, true, List, [], ◌∷◌, ◌++◌, refl, arith}
use Rattle.std.specs.Prelude.{Option, Some, None}
use Rattle.op_forest.specs.Nodes.{Head}
use Rattle.dag_forest.specs.declared.entry.Entry.{Entry}
use Rattle.dag_forest.specs.declared.entry.Entry.TheVariants as entry
use Rattle.dag_forest.specs.declared.kids.Kids.TheVariants as kids
use Rattle.dag_forest.specs.declared.parts.Parts.{Parts}
use Rattle.dag_forest.specs.Tally.{node_count, keys_of, key_behind}
use Rattle.c_rows_agree.specs.Templates.{Template, Given, Leaf, One, Two, Root}
use Rattle.c_rows_agree.specs.Typed.{Typed, as_p}
use Rattle.c_pointers_agree.specs.Pointers.{local, call_head}
use Rattle.lowered_forms.specs.Asked.{Asked, key_place, found_or_new, asked_parts, with_kids, asked, rooted, rooted_one}
use Rattle.lowered_forms.specs.Calls.{call_stored}
use Rattle.lowered_forms.specs.Lows.{Low}
use Rattle.expression_weights.specs.Templates.{Priced, Asks}
use Rattle.expression_weights.specs.Rises.{Rises}
use Rattle.expression_weights.proofs.lemmas.Blocks.{count_value, count_root}

found_count : (o : Option ℕ) (x : Parts) (es : List Entry) → node_count (found_or_new o x es).entries ≤ node_count es + 1
found_count (Some n) x es = omega arith
found_count None x es = let e = count_value es x in omega (arith, e)

parts_count : (x : Parts) (es : List Entry) → node_count (asked_parts x es).entries ≤ node_count es + 1
parts_count x es = found_count (key_place (key_behind es x) (keys_of es) 0) x es

used_count : (k : ℕ) (t : Template) (es : List Entry) → Priced k t → node_count (asked t es).entries ≤ node_count es + k
used_count k (Given n) es h = omega arith
used_count k (Leaf x) es h = let a = parts_count (with_kids x kids.Zero) es in let b = h.1 in omega (arith, a, b)
used_count k (One x t) es h =
    let a = used_count h.2 t es h.3 in
    let b = parts_count (with_kids x (kids.One (asked t es).node)) (asked t es).entries in
    let c = h.4 in
    omega (arith, a, b, c)
used_count k (Two x t u) es h =
    let p = asked t es in
    let q = asked u p.entries in
    let a = used_count h.2 t es h.4 in
    let b = used_count h.3 u p.entries h.5 in
    let c = parts_count (with_kids x (kids.Two p.node q.node)) q.entries in
    let d = h.6 in
    omega (arith, a, b, c, d)

asked_count : (k : ℕ) (t : Template) (es : List Entry) → Asks k t → node_count (asked t es).entries ≤ node_count es + k
asked_count k (Given n) es h = omega arith
asked_count k (Leaf x) es h = let a = parts_count (with_kids x kids.Zero) es in let b = h.1 in omega (arith, a, b)
asked_count k (One x t) es h =
    let a = used_count h.1 t es h.2 in
    let b = parts_count (with_kids x (kids.One (asked t es).node)) (asked t es).entries in
    let c = h.3 in
    omega (arith, a, b, c)
asked_count k (Two x t u) es h =
    let p = asked t es in
    let q = asked u p.entries in
    let a = used_count h.1 t es h.3 in
    let b = used_count h.2 u p.entries h.4 in
    let c = parts_count (with_kids x (kids.Two p.node q.node)) q.entries in
    let d = h.5 in
    omega (arith, a, b, c, d)

rooted_count : (i j : ℕ) (r : Root) (es : List Entry) → Priced i r.left → Priced j r.right → node_count (rooted r es) ≤ node_count es + suc (i + j)
rooted_count i j r es g h =
    let p = asked r.left es in
    let q = asked r.right p.entries in
    let a = used_count i r.left es g in
    let b = used_count j r.right p.entries h in
    let c = count_root q.entries (with_kids r.head (kids.Two p.node q.node)) in
    omega (arith, a, b, c)

one_count : (i : ℕ) (x : Head) (t : Template) (es : List Entry) → Priced i t → node_count (rooted_one x t es) ≤ node_count es + suc i
one_count i x t es h =
    let p = asked t es in
    let a = used_count i t es h in
    let c = count_root p.entries (with_kids x (kids.One p.node)) in
    omega (arith, a, c)

call_count : (i : ℕ) (z : _) (f : Typed) (es : List Entry) → Priced i (as_p f) → node_count (rooted (call_stored z f) es) ≤ node_count es + (18 + i)
call_count i z f es h =
    let p = asked (local z).tree es in
    let q = asked (as_p f) p.entries in
    let y = with_kids (call_head true) (kids.One q.node) in
    let r = asked_parts y q.entries in
    let a = used_count 1 (local z).tree es (refl, omega arith) in
    let b = used_count i (as_p f) p.entries h in
    let c = parts_count y q.entries in
    let d = count_root r.entries (with_kids (call_stored z f).head (kids.Two p.node r.node)) in
    omega (arith, a, b, c, d)

pub record Grows (n : ℕ) (a b : Low) : Type 0 where
  pub nodes : node_count b.entries ≤ node_count a.entries + n

pub grows_rises : Rises Grows
grows_rises = record {
  same = λ l. record { nodes = omega arith };
  joins = λ m n a b c x y. record { nodes = (let e = x.nodes in let f = y.nodes in omega (arith, e, f)) };
  weakens = λ m n a b le x. record { nodes = (let e = x.nodes in omega (arith, e, le)) };
  asks = λ k t l h. record { nodes = asked_count k t l.entries h };
  acts = λ i j r l g h. record { nodes = rooted_count i j r l.entries g h };
  acts_one = λ i x t l h. record { nodes = one_count i x t l.entries h };
  calls = λ i z f l h. record { nodes = call_count i z f l.entries h };
  alone = λ x l. record { nodes = (let e = count_root l.entries (with_kids x kids.Zero) in omega (arith, e)) };
  ends = λ l. record { nodes = omega arith };
  marks = λ n l. record { nodes = omega arith };
  slot = λ l. record { nodes = omega arith };
  label = λ l. record { nodes = omega arith };
}
