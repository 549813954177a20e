-- What asking blocks for nodes and adding roots names.
use Rattle.std.specs.Prelude.{◌<◌, ◌≤◌, ℕ, Option, Some, None, List, [], ◌∷◌, ◌++◌}
use Rattle.std.proofs.Common.{arith}
use Rattle.op_forest.specs.declared.op.Op.TheVariants as op
use Rattle.op_forest.specs.declared.suffix.Suffix.TheVariants.{P, V}
use Rattle.op_forest.specs.declared.sym.Sym.{Sym}
use Rattle.op_forest.specs.declared.sym.Sym.TheVariants as sym
use Rattle.op_forest.specs.Nodes.{Head}
use Rattle.dag_forest.specs.declared.entry.Entry.{Entry}
use Rattle.dag_forest.specs.declared.entry.Entry.TheVariants as entry
use Rattle.dag_forest.specs.declared.kids.Kids.TheVariants as kids
use Rattle.dag_forest.specs.declared.parts.Parts.{Parts}
use Rattle.dag_forest.specs.Tally.{keys_of, key_behind}
use Rattle.piece_runs.specs.Pieces.{Piece, OfBlock, Mark}
use Rattle.c_rows_agree.specs.Templates.{Template, Given, Leaf, One, Two, Root}
use Rattle.c_rows_agree.specs.Typed.{head, head_with}
use Rattle.lowered_forms.specs.Asked.{key_place, found_or_new, asked_parts, with_kids, asked, rooted, rooted_one}
use Rattle.lowered_blocks.specs.Known.{IsBelow, IsNoLabel, AreNamed, AreKnown}
use Rattle.lowered_blocks.proofs.lemmas.PlainTemplates.{IsPlainSym, plain_with, IsPlain}

-- ---- symbols

pub plain_below : (k : ℕ) (x : Sym) → IsPlainSym x → IsBelow k x
plain_below k sym.Nothing h = tt
plain_below k (sym.Global n z) h = tt
plain_below k (sym.Label l) h = absurd h
plain_below k (sym.Block size align) h = tt

plain_parts : (x : Sym) (A : Type 0) → plain_with x A → IsPlainSym x × A
plain_parts sym.Nothing A h = (tt, h)
plain_parts (sym.Global n z) A h = (tt, h)
plain_parts (sym.Label l) A h = absurd h
plain_parts (sym.Block size align) A h = (tt, h)

below_more : (j k : ℕ) (x : Sym) → j ≤ k → IsBelow j x → IsBelow k x
below_more j k sym.Nothing le h = tt
below_more j k (sym.Global n z) le h = tt
below_more j k (sym.Label l) le h = omega (arith, le, h)
below_more j k (sym.Block size align) le h = tt

-- ---- lists

pub named_more : (j k : ℕ) (es : List Entry) → j ≤ k → AreNamed j es → AreNamed k es
named_more j k [] le h = tt
named_more j k (entry.Value x ∷ es) le h = (below_more j k x.sym le h.0, named_more j k es le h.1)
named_more j k (entry.Root x ∷ es) le h = ((h.0.0, below_more j k x.sym le h.0.1), named_more j k es le h.1)

named_append : (k : ℕ) (es fs : List Entry) → AreNamed k es → AreNamed k fs → AreNamed k (es ++ fs)
named_append k [] fs h g = g
named_append k (entry.Value x ∷ es) fs h g = (h.0, named_append k es fs h.1 g)
named_append k (entry.Root x ∷ es) fs h g = (h.0, named_append k es fs h.1 g)

pub known_more : (j k : ℕ) (ps : List Piece) → j ≤ k → AreKnown j ps → AreKnown k ps
known_more j k [] le h = tt
known_more j k (OfBlock before es ∷ ps) le h = ((h.0.0, named_more j k es le h.0.1), known_more j k ps le h.1)
known_more j k (Mark n ∷ ps) le h = (let e = h.0 in omega (arith, le, e), known_more j k ps le h.1)

pub known_append : (k : ℕ) (ps qs : List Piece) → AreKnown k ps → AreKnown k qs → AreKnown k (ps ++ qs)
known_append k [] qs h g = g
known_append k (OfBlock before es ∷ ps) qs h g = (h.0, known_append k ps qs h.1 g)
known_append k (Mark n ∷ ps) qs h g = (h.0, known_append k ps qs h.1 g)

-- ---- nodes

found_named : (k : ℕ) (o : Option ℕ) (x : Parts) (es : List Entry) → IsBelow k x.sym → AreNamed k es → AreNamed k (found_or_new o x es).entries
found_named k (Some n) x es h g = g
found_named k None x es h g = named_append k es (entry.Value x ∷ []) g (h, tt)

parts_named : (k : ℕ) (x : Parts) (es : List Entry) → IsBelow k x.sym → AreNamed k es → AreNamed k (asked_parts x es).entries
parts_named k x es h g = found_named k (key_place (key_behind es x) (keys_of es) 0) x es h g

-- a leaf with a label that has been used
pub leaf_named : (k : ℕ) (h : Head) (es : List Entry) → IsBelow k h.sym → AreNamed k es → AreNamed k (asked (Leaf h) es).entries
leaf_named k h es b g = parts_named k (with_kids h kids.Zero) es b g

pub asked_named : (k : ℕ) (t : Template) (es : List Entry) → IsPlain t → AreNamed k es → AreNamed k (asked t es).entries
asked_named k (Given n) es p g = g
asked_named k (Leaf h) es p g = leaf_named k h es (plain_below k h.sym p) g
asked_named k (One h a) es p g =
    let q = plain_parts h.sym (IsPlain a) p in
    parts_named k (with_kids h (kids.One (asked a es).node)) (asked a es).entries (plain_below k h.sym q.0) (asked_named k a es q.1 g)
asked_named k (Two h a b) es p g =
    let q = plain_parts h.sym (IsPlain a × IsPlain b) p in
    let fs = (asked a es).entries in
    parts_named k (with_kids h (kids.Two (asked a es).node (asked b fs).node)) (asked b fs).entries (plain_below k h.sym q.0) (asked_named k b fs q.1.1 (asked_named k a es q.1.0 g))

-- ---- roots

pub rooted_one_named : (k : ℕ) (h : Head) (t : Template) (es : List Entry) → IsNoLabel h.operator.op → IsBelow k h.sym → IsPlain t → AreNamed k es → AreNamed k (rooted_one h t es)
rooted_one_named k h t es o b p g = named_append k (asked t es).entries (entry.Root (with_kids h (kids.One (asked t es).node)) ∷ []) (asked_named k t es p g) ((o, b), tt)

pub rooted_named : (k : ℕ) (r : Root) (es : List Entry) → IsNoLabel r.head.operator.op → IsBelow k r.head.sym → IsPlain r.left → IsPlain r.right → AreNamed k es → AreNamed k (rooted r es)
rooted_named k r es o b p q g =
    let fs = (asked r.left es).entries in
    named_append k (asked r.right fs).entries (entry.Root (with_kids r.head (kids.Two (asked r.left es).node (asked r.right fs).node)) ∷ [])
    (asked_named k r.right fs q (asked_named k r.left es p g)) ((o, b), tt)

-- a jump to a label that has been used
pub labelled_jump : (k n : ℕ) (es : List Entry) → n < k → AreNamed k es → AreNamed k (rooted_one (head op.Jump V) (Leaf (head_with op.Addrg P (sym.Label n) None)) es)
labelled_jump k n es lt g =
    let x = head_with op.Addrg P (sym.Label n) None in
    named_append k (asked (Leaf x) es).entries (entry.Root (with_kids (head op.Jump V) (kids.One (asked (Leaf x) es).node)) ∷ []) (leaf_named k x es lt g) ((tt, tt), tt)
