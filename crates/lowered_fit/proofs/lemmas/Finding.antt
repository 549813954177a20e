-- Blocks that are asked for templates that fit, and roots over these.
use Rattle.std.specs.Prelude.{◌≡◌, ℕ, IsSomeAnd, ℤ, Option, Some, None, List, [], ◌∷◌, ◌++◌, length, slice_get}
use Rattle.std.proofs.Common.{refl, ap, sym, subst, ◌∙◌}
use Rattle.op_forest.specs.declared.frame.Slot.{Slot}
use Rattle.op_forest.specs.declared.suffix.Suffix.{Suffix}
use Rattle.op_forest.specs.Nodes.{Head}
use Rattle.op_forest.specs.Signature.{takes}
use Rattle.c_rows_agree.specs.Templates.{Template, Given, Leaf, One, Two, Root}
use Rattle.dag_forest.specs.declared.entry.Entry.{Entry}
use Rattle.dag_forest.specs.declared.entry.Entry.TheVariants as entry
use Rattle.dag_forest.specs.declared.key.Key.{Key}
use Rattle.dag_forest.specs.declared.kids.Kids.{Kids}
use Rattle.dag_forest.specs.declared.kids.Kids.TheVariants as kids
use Rattle.dag_forest.specs.declared.parts.Parts.{Parts}
use Rattle.dag_forest.specs.Tally.{keys_of, key_behind}
use Rattle.dag_seam.specs.Fitting.{Gives, AreGiven, Fits, FitsNode, FitsBlock}
use Rattle.dag_seam.proofs.lemmas.Acts.{get_left, get_last}
use Rattle.dag_seam.proofs.lemmas.Growing.{node_fits, root_fits}
use Rattle.dag_seam.proofs.lemmas.Keys.{keys_value, keys_root}
use Rattle.lowered_forms.specs.Asked.{Asked, key_place, found_or_new, asked_parts, with_kids, asked, rooted, rooted_one}
use Rattle.lowered_forms.proofs.lemmas.KeyPlaces.{found_there}
use Rattle.forests.specs.WellFormed.{LiesInOne}
use Rattle.lowered_fit.specs.States.{IsWider}
use Rattle.lowered_fit.specs.Fitted.{Standing, FitsHead, FitsValue, FitsTree, FitsRoot, standing, KeepsKeys, IsFound, GoesOn}

-- ---- nodes that stay

pub gives_still : (keys more : List Key) (s : Suffix) (n : ℕ) → KeepsKeys keys more → Gives keys s n → Gives more s n
gives_still keys more s n k g = record { key = g.key; is = k n g.key g.is; value = g.value; suffix = g.suffix }

pub keys_joined : (a b c : List Key) → KeepsKeys a b → KeepsKeys b c → KeepsKeys a c
keys_joined a b c f g m k e = g m k (f m k e)

some_and : (o : Option ℤ) (P Q : ℤ → Type 0) → ((z : ℤ) → P z → Q z) → IsSomeAnd o P → IsSomeAnd o Q
some_and None P Q f h = h
some_and (Some z) P Q f h = f z h

-- in a frame of more slots
pub value_still : (slots more : List Slot) (h : Head) (ss : List Suffix) (s : Suffix) → IsWider slots more → FitsValue slots h ss s → FitsValue more h ss s
value_still slots more h ss s w f = record {
  fits = record {
    operator = f.fits.operator;
    part = f.fits.part;
    operands = f.fits.operands;
    local = λ e. some_and h.value (LiesInOne slots) (LiesInOne more) w (f.fits.local e);
  };
  value = f.value;
  suffix = f.suffix;
}

pub tree_still : (g m : Standing) (t : Template) (s : Suffix) → KeepsKeys g.keys m.keys → IsWider g.slots m.slots → FitsTree g t s → FitsTree m t s
tree_still g m (Given n) s k w h = gives_still g.keys m.keys s n k h
tree_still g m (Leaf x) s k w h = value_still g.slots m.slots x [] s w h
tree_still g m (One x a) s k w h = (h.0, value_still g.slots m.slots x (h.0 ∷ []) s w h.1, tree_still g m a h.0 k w h.2)
tree_still g m (Two x a b) s k w h =
    (h.0, h.1, value_still g.slots m.slots x (h.0 ∷ h.1 ∷ []) s w h.2, tree_still g m a h.0 k w h.3, tree_still g m b h.1 k w h.4)

pub value_keeps : (es : List Entry) (x : Parts) → KeepsKeys (keys_of es) (keys_of (es ++ entry.Value x ∷ []))
value_keeps es x m k e = ap (λ z. slice_get z m) (keys_value es x) ∙ get_left (keys_of es) (key_behind es x ∷ []) m k e

pub root_keeps : (es : List Entry) (x : Parts) → KeepsKeys (keys_of es) (keys_of (es ++ entry.Root x ∷ []))
root_keeps es x m k e = ap (λ z. slice_get z m) (keys_root es x) ∙ e

-- ---- operands

are_given : (keys : List Key) (ss ts : List Suffix) (k : Kids) → ts ≡ ss → AreGiven keys ss k → AreGiven keys ts k
are_given keys ss ts k e h = subst (λ z. AreGiven keys z k) (sym e) h

parts_fit : (keys : List Key) (slots : List Slot) (h : Head) (ss : List Suffix) (k : Kids) → FitsHead slots h ss → AreGiven keys ss k → Fits keys slots (with_kids h k)
parts_fit keys slots h ss k f g = record {
  operator = f.operator;
  part = f.part;
  operands = are_given keys ss (takes h.operator.op h.operator.suffix) k f.operands g;
  local = f.local;
}

-- ---- one node

found_by : (o : Option ℕ) (slots : List Slot) (x : Parts) (s : Suffix) (es : List Entry) → key_place (key_behind es x) (keys_of es) 0 ≡ o
    → FitsBlock slots es → FitsNode (keys_of es) slots x → x.operator.suffix ≡ s → IsFound slots es s (found_or_new o x es)
found_by (Some m) slots x s es e b f p = record {
  block = b;
  node = record { key = key_behind es x; is = found_there (key_behind es x) (keys_of es) m e; value = f.value; suffix = p };
  keeps = λ n k d. d;
}
found_by None slots x s es e b f p = record {
  block = node_fits slots es x b f;
  node = record {
    key = key_behind es x;
    is = ap (λ z. slice_get z (length (keys_of es))) (keys_value es x) ∙ get_last (keys_of es) (key_behind es x);
    value = f.value;
    suffix = p;
  };
  keeps = value_keeps es x;
}

head_found : (slots : List Slot) (es : List Entry) (h : Head) (ss : List Suffix) (s : Suffix) (k : Kids)
    → FitsBlock slots es → FitsValue slots h ss s → AreGiven (keys_of es) ss k → IsFound slots es s (asked_parts (with_kids h k) es)
head_found slots es h ss s k b f g =
    found_by (key_place (key_behind es (with_kids h k)) (keys_of es) 0) slots (with_kids h k) s es refl b
    (record { fits = parts_fit (keys_of es) slots h ss k f.fits g; value = f.value }) f.suffix

found_then : (slots : List Slot) (es fs : List Entry) (s : Suffix) (a : Asked) → KeepsKeys (keys_of es) (keys_of fs) → IsFound slots fs s a → IsFound slots es s a
found_then slots es fs s a k f = record { block = f.block; node = f.node; keeps = keys_joined (keys_of es) (keys_of fs) (keys_of a.entries) k f.keeps }

-- ---- templates

pub template_found : (slots : List Slot) (es : List Entry) (t : Template) (s : Suffix) → FitsBlock slots es → FitsTree (standing slots es) t s → IsFound slots es s (asked t es)
template_found slots es (Given n) s b h = record { block = b; node = h; keeps = λ m k e. e }
template_found slots es (Leaf x) s b h = head_found slots es x [] s kids.Zero b h tt
template_found slots es (One x a) s b h =
    let p = template_found slots es a h.0 b h.2 in
    let fs = (asked a es).entries in
    found_then slots es fs s _ p.keeps (head_found slots fs x (h.0 ∷ []) s (kids.One (asked a es).node) p.block h.1 p.node)
template_found slots es (Two x a c) s b h =
    let p = template_found slots es a h.0 b h.3 in
    let fs = (asked a es).entries in
    let q = template_found slots fs c h.1 p.block (tree_still (standing slots es) (standing slots fs) c h.1 p.keeps (λ z l. l) h.4) in
    let gs = (asked c fs).entries in
    found_then slots es gs s _ (keys_joined (keys_of es) (keys_of fs) (keys_of gs) p.keeps q.keeps)
    (head_found slots gs x (h.0 ∷ h.1 ∷ []) s (kids.Two (asked a es).node (asked c fs).node) q.block h.2
    (gives_still (keys_of fs) (keys_of gs) h.0 (asked a es).node q.keeps p.node, q.node))

-- ---- roots

root_on : (slots : List Slot) (es fs : List Entry) (x : Parts) → KeepsKeys (keys_of es) (keys_of fs) → FitsBlock slots fs → Fits (keys_of fs) slots x → GoesOn slots es (fs ++ entry.Root x ∷ [])
root_on slots es fs x k b f = record { block = root_fits slots fs x b f; keeps = keys_joined (keys_of es) (keys_of fs) (keys_of (fs ++ entry.Root x ∷ [])) k (root_keeps fs x) }

pub lone_root_goes_on : (slots : List Slot) (es : List Entry) (h : Head) (t : Template) (s : Suffix) → FitsBlock slots es → FitsHead slots h (s ∷ []) → FitsTree (standing slots es) t s
    → GoesOn slots es (rooted_one h t es)
lone_root_goes_on slots es h t s b f g =
    let p = template_found slots es t s b g in
    let fs = (asked t es).entries in
    root_on slots es fs (with_kids h (kids.One (asked t es).node)) p.keeps p.block (parts_fit (keys_of fs) slots h (s ∷ []) (kids.One (asked t es).node) f p.node)

pub root_goes_on : (slots : List Slot) (es : List Entry) (r : Root) → FitsBlock slots es → FitsRoot (standing slots es) r → GoesOn slots es (rooted r es)
root_goes_on slots es r b f =
    let p = template_found slots es r.left f.first b f.left in
    let fs = (asked r.left es).entries in
    let q = template_found slots fs r.right f.second p.block (tree_still (standing slots es) (standing slots fs) r.right f.second p.keeps (λ z l. l) f.right) in
    let gs = (asked r.right fs).entries in
    let k = kids.Two (asked r.left es).node (asked r.right fs).node in
    root_on slots es gs (with_kids r.head k) (keys_joined (keys_of es) (keys_of fs) (keys_of gs) p.keeps q.keeps) q.block
    (parts_fit (keys_of gs) slots r.head (f.first ∷ f.second ∷ []) k f.fits
    (gives_still (keys_of fs) (keys_of gs) f.first (asked r.left es).node q.keeps p.node, q.node))
