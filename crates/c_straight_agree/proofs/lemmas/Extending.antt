-- States that go on in the same block.
use Rattle.std.specs.Prelude.{◌≡◌, ◌≤◌, true, List, [], ◌∷◌, ◌++◌, length}
use Rattle.std.proofs.Common.{refl, sym, ap, ◌∙◌, subst, arith, append_assoc, append-nil, length-append}
use Rattle.op_forest.specs.declared.suffix.Suffix.{Suffix}
use Rattle.dag_forest.specs.declared.entry.Entry.{Entry}
use Rattle.dag_forest.specs.declared.entry.Entry.TheVariants as entry
use Rattle.dag_forest.specs.Tally.{node_count}
use Rattle.c_meaning.specs.Values.{CoreTree}
use Rattle.c_rows_agree.specs.Templates.{Template, Given, Leaf, One, Two, Root}
use Rattle.c_rows_agree.specs.Typed.{Typed}
use Rattle.piece_runs.specs.Pieces.{Piece, OfBlock, Front}
use Rattle.c_expr_agreement.specs.LoweredExpr.{GrowsTo}
use Rattle.lowered_forms.specs.Contexts.{Context}
use Rattle.lowered_forms.specs.Expressions.{low_e}
use Rattle.lowered_forms.specs.Later.{IsFront, HoldsOpen, IsLater}
use Rattle.lowered_forms.specs.Lows.{Low, with_entries, acted}
use Rattle.lowered_forms.specs.Straight.{straight}
use Rattle.lowered_forms.specs.Values.{placed_tree, placed}
use Rattle.lowered_forms.proofs.lemmas.Adding.{lowering_adds}
use Rattle.lowered_forms.proofs.lemmas.Fronts.{front_itself, front_joins, asked_adds, rooted_adds}
use Rattle.lowered_forms.proofs.lemmas.Going.{straight_goes_on}
use Rattle.c_straight_agree.specs.Extends.{Extends}
use Rattle.c_straight_agree.specs.Standing.{place_of}
use Rattle.c_straight_agree.proofs.lemmas.Kept.{front_length}

pub extends_itself : (l : Low) → Extends l l
extends_itself l = record { pieces = refl; entries = front_itself l.entries; slots = front_itself l.slots }

pub extends_joins : (l m n : Low) → Extends l m → Extends m n → Extends l n
extends_joins l m n x y = record { pieces = y.pieces ∙ x.pieces; entries = front_joins l.entries m.entries n.entries x.entries y.entries; slots = front_joins l.slots m.slots n.slots x.slots y.slots }

with_more : (l : Low) (es : List Entry) → IsFront l.entries es → Extends l (with_entries es l)
with_more l es f = record { pieces = refl; entries = f; slots = front_itself l.slots }

placed_tree_extends : (x : Suffix) (t : Template) (l : Low) → Extends l (placed_tree x t l).low
placed_tree_extends x (Given n) l = extends_itself l
placed_tree_extends x (Leaf h) l = extends_itself l
placed_tree_extends x (One h a) l = with_more l _ (asked_adds (One h a) l.entries).front
placed_tree_extends x (Two h a b) l = with_more l _ (asked_adds (Two h a b) l.entries).front

pub placed_extends : (a : Typed) (l : Low) → Extends l (placed a l).low
placed_extends a l = placed_tree_extends a.suffix a.tree l

pub acted_extends : (r : Root) (l : Low) → Extends l (acted r l)
acted_extends r l = with_more l _ (rooted_adds r l.entries).front

-- a straight expression
pub straight_extends : (x : Context) (e : CoreTree) → straight e ≡ true → (l : Low) → Extends l (low_e x e l).low
straight_extends x e h l = let g = straight_goes_on x e h l in record { pieces = g.pieces; entries = g.entries; slots = (lowering_adds x e l).slots }

-- ---- what follows

count_more : (xs ys : List Entry) → node_count xs ≤ node_count (xs ++ ys)
count_more [] ys = omega arith
count_more (entry.Value x ∷ xs) ys = let e = count_more xs ys in omega (arith, e)
count_more (entry.Root x ∷ xs) ys = count_more xs ys

pub extends_nodes : (l m : Low) → Extends l m → node_count l.entries ≤ node_count m.entries
extends_nodes l m x = subst (λ (es : List Entry). node_count l.entries ≤ node_count es) (sym x.entries.is) (count_more l.entries x.entries.more)

pub extends_slots : (l m : Low) → Extends l m → length l.slots ≤ length m.slots
extends_slots l m x = front_length l.slots m.slots x.slots

pub extends_grows : (l m : Low) → Extends l m → GrowsTo (place_of l) (place_of m)
extends_grows l m x = record { more = x.entries.more; done = x.pieces; entries = x.entries.is }

-- ---- states that go on from others, in the same block or in a later one

none_more : (xs ys zs more rest : List Piece) → ys ≡ xs ++ more → zs ≡ ys ++ rest → zs ≡ xs → more ≡ []
none_more xs ys zs [] rest e f g = refl
none_more xs ys zs (p ∷ more) rest e f g =
    let a = ap (λ (ps : List Piece). length ps) e in
    let b = ap (λ (ps : List Piece). length ps) f in
    let d = ap (λ (ps : List Piece). length ps) g in
    let m = length-append xs (p ∷ more) in
    let n = length-append ys rest in
    absurd (let never : ⊥ = omega (arith, a, b, d, m, n) in never)

block_goes_on : (l m : Low) (more : List Piece) → m.pieces ≡ l.pieces ++ more → HoldsOpen l.entries more m.entries → IsFront l.slots m.slots → more ≡ [] → Extends l m
block_goes_on l m [] is begins slots e = record { pieces = is ∙ append-nil l.pieces; entries = begins; slots = slots }
block_goes_on l m (p ∷ more) is begins slots e = absurd (let never : ⊥ = cc in never)

-- where a state behind the later one has no more pieces, no block is finished
pub later_extends : (l m : Low) (ps : List Piece) → IsLater l m → IsFront m.pieces ps → ps ≡ l.pieces → Extends l m
later_extends l m ps x p e = block_goes_on l m x.pieces.more x.pieces.is x.begins x.slots (none_more l.pieces m.pieces ps x.pieces.more p.more x.pieces.is p.is e)

-- what stays of a block over two steps, of which the second one may finish blocks, too
pub grows_later : (l m p : Low) → IsLater l m → IsFront m.pieces p.pieces → (p.pieces ≡ m.pieces → Extends m p) → GrowsTo (place_of l) (place_of p) → GrowsTo (place_of l) (place_of m) × (GrowsTo (place_of m) (place_of p) × (node_count l.entries ≤ node_count m.entries))
grows_later l m p x ps next g =
    let one = later_extends l m p.pieces x ps g.done in
    let two = next (g.done ∙ sym one.pieces) in
    (extends_grows l m one, (extends_grows m p two, extends_nodes l m one))

pub extends_pieces : (l m : Low) → Extends l m → IsFront l.pieces m.pieces
extends_pieces l m x = record { more = []; is = x.pieces ∙ sym (append-nil l.pieces) }

-- what the later block comes to be, the earlier one comes to be
pub front_back : (all : List Piece) (l m : Low) → Extends l m → Front all m.pieces m.entries → Front all l.pieces l.entries
front_back all l m x f = record {
  more = x.entries.more ++ f.more;
  before = f.before;
  rest = f.rest;
  is =
      f.is ∙ ap (λ (ps : List Piece). ps ++ OfBlock f.before (m.entries ++ f.more) ∷ f.rest) x.pieces
      ∙ ap (λ (es : List Entry). l.pieces ++ OfBlock f.before es ∷ f.rest) (ap (λ (es : List Entry). es ++ f.more) x.entries.is ∙ append_assoc l.entries x.entries.more f.more);
}

pub slots_back : (all : List Piece) (l m : Low) → (x : Extends l m) → (f : Front all m.pieces m.entries) → IsFront m.slots f.before → IsFront l.slots (front_back all l m x f).before
unfolding front_back
slots_back all l m x f h = front_joins l.slots m.slots f.before x.slots h
