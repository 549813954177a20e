-- Lists that go on from others; and what asking a block for nodes and adding roots does to its entries.
use Rattle.std.specs.Prelude.{◌≡◌, ℕ, ◌+◌, Option, Some, None, List, [], ◌∷◌, ◌++◌}
use Rattle.std.proofs.Common.{refl, ap, sym, ◌∙◌, arith, append_assoc, append-nil}
use Rattle.op_forest.specs.Nodes.{Head}
use Rattle.dag_forest.specs.declared.entry.Entry.{Entry}
use Rattle.dag_forest.specs.declared.entry.Entry.TheVariants as entry
use Rattle.dag_forest.specs.declared.kids.Kids.TheVariants as kids
use Rattle.dag_forest.specs.declared.parts.Parts.{Parts}
use Rattle.dag_forest.specs.Tally.{keys_of, key_behind}
use Rattle.c_rows_agree.specs.Templates.{Template, Given, Leaf, One, Two, Root}
use Rattle.lowered_forms.specs.Asked.{key_place, found_or_new, asked_parts, with_kids, asked, rooted, rooted_one}
use Rattle.lowered_forms.specs.Later.{IsFront}
use Rattle.lowered_forms.specs.Straight.{root_count}

pub itself_is : {A : Type 0} (xs : List A) → xs ≡ xs ++ []
itself_is xs = sym (append-nil xs)

pub join_is : {A : Type 0} (xs ys zs m n : List A) → ys ≡ xs ++ m → zs ≡ ys ++ n → zs ≡ xs ++ (m ++ n)
join_is xs ys zs m n e f = f ∙ ap (λ l. l ++ n) e ∙ append_assoc xs m n

pub front_itself : {A : Type 0} (xs : List A) → IsFront xs xs
front_itself xs = record { more = []; is = itself_is xs }

pub front_joins : {A : Type 0} (xs ys zs : List A) → IsFront xs ys → IsFront ys zs → IsFront xs zs
front_joins xs ys zs p q = record { more = p.more ++ q.more; is = join_is xs ys zs p.more q.more p.is q.is }

pub front_before : {A : Type 0} (xs ys : List A) → IsFront xs (xs ++ ys)
front_before xs ys = record { more = ys; is = refl }

pub root_count_append : (xs ys : List Entry) → root_count (xs ++ ys) ≡ root_count xs + root_count ys
root_count_append [] ys = omega arith
root_count_append (entry.Value x ∷ xs) ys = root_count_append xs ys
root_count_append (entry.Root x ∷ xs) ys = let e = root_count_append xs ys in omega (arith, e)

-- entries that go on from others, with so many roots more
pub record Adds (n : ℕ) (es fs : List Entry) : Type 0 where
  pub front : IsFront es fs
  pub roots : root_count fs ≡ root_count es + n

pub adds_none : (es : List Entry) → Adds 0 es es
adds_none es = record { front = front_itself es; roots = omega arith }

pub adds_join : (m n : ℕ) (a b c : List Entry) → Adds m a b → Adds n b c → Adds (m + n) a c
adds_join m n a b c x y = record { front = front_joins a b c x.front y.front; roots = (let e = x.roots in let f = y.roots in omega (arith, e, f)) }

adds_found : (o : Option ℕ) (x : Parts) (es : List Entry) → Adds 0 es (found_or_new o x es).entries
adds_found (Some n) x es = adds_none es
adds_found None x es = record { front = front_before es (entry.Value x ∷ []); roots = root_count_append es (entry.Value x ∷ []) }

adds_parts : (x : Parts) (es : List Entry) → Adds 0 es (asked_parts x es).entries
adds_parts x es = adds_found (key_place (key_behind es x) (keys_of es) 0) x es

adds_then : (a b c : List Entry) → Adds 0 a b → Adds 0 b c → Adds 0 a c
adds_then a b c x y = record { front = front_joins a b c x.front y.front; roots = (let e = x.roots in let f = y.roots in omega (arith, e, f)) }

-- a template adds no root
pub asked_adds : (t : Template) (es : List Entry) → Adds 0 es (asked t es).entries
asked_adds (Given n) es = adds_none es
asked_adds (Leaf h) es = adds_parts (with_kids h kids.Zero) es
asked_adds (One h a) es = adds_then es (asked a es).entries _ (asked_adds a es) (adds_parts (with_kids h (kids.One (asked a es).node)) (asked a es).entries)
asked_adds (Two h a b) es =
    let p = asked a es in
    let q = asked b p.entries in
    adds_then es p.entries _ (asked_adds a es) (adds_then p.entries q.entries _ (asked_adds b p.entries) (adds_parts (with_kids h (kids.Two p.node q.node)) q.entries))

adds_root : (x : Parts) (es : List Entry) → Adds 1 es (es ++ entry.Root x ∷ [])
adds_root x es = record { front = front_before es (entry.Root x ∷ []); roots = root_count_append es (entry.Root x ∷ []) }

adds_one : (a b c : List Entry) → Adds 0 a b → Adds 1 b c → Adds 1 a c
adds_one a b c x y = record { front = front_joins a b c x.front y.front; roots = (let e = x.roots in let f = y.roots in omega (arith, e, f)) }

-- and a root adds one
pub rooted_one_adds : (h : Head) (t : Template) (es : List Entry) → Adds 1 es (rooted_one h t es)
rooted_one_adds h t es = adds_one es (asked t es).entries _ (asked_adds t es) (adds_root (with_kids h (kids.One (asked t es).node)) (asked t es).entries)

pub rooted_adds : (r : Root) (es : List Entry) → Adds 1 es (rooted r es)
rooted_adds r es =
    let p = asked r.left es in
    let q = asked r.right p.entries in
    adds_one es p.entries _ (asked_adds r.left es) (adds_one p.entries q.entries _ (asked_adds r.right p.entries) (adds_root (with_kids r.head (kids.Two p.node q.node)) q.entries))
