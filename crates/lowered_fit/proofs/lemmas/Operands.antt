-- Operands that are placed, and that wait for others; slots, roots, blocks that are finished, labels.
use Rattle.std.specs.Prelude.{◌≡◌, ◌<◌, ℕ, Bool, true, false, ℤ, pos, ◌+ℤ◌, Option, Some, None, List, [], ◌∷◌, ◌++◌, length}
use Rattle.std.proofs.Common.{refl, sym, ◌∙◌, subst, arith, append_assoc, append-nil, length-append}
use Rattle.std.proofs.lemmas.Int.{ints}
use Rattle.objects.specs.declared.width.Width.TheVariants.{Four}
use Rattle.op_forest.specs.declared.frame.Slot.{Slot}
use Rattle.op_forest.specs.declared.op.Op.{Op}
use Rattle.op_forest.specs.declared.op.Op.TheVariants as op
use Rattle.op_forest.specs.declared.suffix.Suffix.{Suffix}
use Rattle.op_forest.specs.declared.suffix.Suffix.TheVariants.{C, S, I, U, P, B, V}
use Rattle.op_forest.specs.declared.sym.Sym.TheVariants as symbol
use Rattle.op_forest.specs.Frames.{lowest}
use Rattle.op_forest.specs.Nodes.{Head}
use Rattle.forests.specs.WellFormed.{LiesInOne}
use Rattle.c_pointers_agree.specs.Pointers.{local}
use Rattle.c_pointers_agree.proofs.lemmas.Fitting.{slots_lie}
use Rattle.c_rows_agree.specs.Fitting.{IsScalar}
use Rattle.c_rows_agree.specs.Places.{stored_as}
use Rattle.c_rows_agree.specs.Templates.{Template, Given, Leaf, One, Two, Root}
use Rattle.c_rows_agree.specs.Typed.{Typed, head, head_with}
use Rattle.dag_forest.specs.declared.entry.Entry.{Entry}
use Rattle.dag_forest.specs.declared.entry.Entry.TheVariants as entry
use Rattle.dag_forest.specs.declared.key.Key.{Key}
use Rattle.dag_forest.specs.NewSlots.{slot_below, slots_below}
use Rattle.dag_forest.specs.Split.{room_count}
use Rattle.dag_forest.specs.Tally.{keys_of}
use Rattle.dag_seam.proofs.lemmas.Acts.{get_last}
use Rattle.dag_seam.proofs.lemmas.Growing.{frame_fits}
use Rattle.std.proofs.lemmas.List.{get_or_append_left}
use Rattle.piece_runs.specs.Pieces.{Piece, OfBlock, Mark}
use Rattle.lowered_forms.specs.Asked.{asked}
use Rattle.lowered_forms.specs.Later.{IsFront}
use Rattle.lowered_forms.specs.Lows.{Low, acted, acted_one, ended, with_mark, marked, branched, jumped, with_label, slot_offset, with_slot}
use Rattle.lowered_forms.specs.Values.{Lowered, with_value, placed_tree, placed, slot_read, stored_in, saved, saved_tree, held}
use Rattle.lowered_fit.specs.Fitted.{Standing, FitsHead, FitsTree, FitsTyped, FitsRoot, KeepsKeys}
use Rattle.lowered_fit.specs.States.{AreFitPieces, IsFitState, IsWider, IsFitAfter, standing_in, bare, IsPending, FitsOperand, HasRoomBy, HasRoom, IsFitResult}
use Rattle.lowered_fit.proofs.lemmas.Finding.{gives_still, value_still, tree_still, value_keeps, root_keeps, keys_joined, template_found, root_goes_on, lone_root_goes_on}
use Rattle.lowered_fit.proofs.lemmas.RowsFit.{pointer_read_fits, store_fits}

abbrev pub keys_in : Low → List Key
keys_in l = keys_of l.entries

-- what lies in one of the slots lies in one where there are more
pub more_lie : (slots more : List Slot) → IsWider slots (slots ++ more)
more_lie slots more z h =
    let l = h.2 in
    let e = length-append slots more in
    (h.0, h.1, (let q : h.0 < length (slots ++ more) = omega (arith, l, e) in q), get_or_append_left slots more h.1 h.0 l ∙ h.3, h.4)

-- ---- operands

pub no_keys : (keys : List Key) → KeepsKeys [] keys
no_keys keys m k e = let no : ⊥ = cc in absurd no

pending_tree : (g : Standing) (t : Template) (s : Suffix) → IsPending g t s → FitsTree g t s
pending_tree g (Given n) s h = h
pending_tree g (Leaf x) s h = h
pending_tree g (One x a) s h = tree_still (bare g.slots) g (One x a) s (no_keys g.keys) (λ z l. l) h
pending_tree g (Two x a b) s h = tree_still (bare g.slots) g (Two x a b) s (no_keys g.keys) (λ z l. l) h

pub operand_typed : (g : Standing) (a : Typed) → FitsOperand g a → FitsTyped g a
operand_typed g a h = record { fits = pending_tree g a.tree a.suffix h.fits; scalar = h.scalar }

bare_pending : (g : Standing) (t : Template) (s : Suffix) → FitsTree (bare g.slots) t s → IsPending g t s
bare_pending g (Given n) s h = gives_still [] g.keys s n (no_keys g.keys) h
bare_pending g (Leaf x) s h = h
bare_pending g (One x a) s h = h
bare_pending g (Two x a b) s h = h

-- what has no node is an operand anywhere
pub bare_operand : (g : Standing) (a : Typed) → FitsTyped (bare g.slots) a → FitsOperand g a
bare_operand g a h = record { fits = bare_pending g a.tree a.suffix h.fits; scalar = h.scalar }

pending_still : (g m : Standing) (t : Template) (s : Suffix) → KeepsKeys g.keys m.keys → IsWider g.slots m.slots → IsPending g t s → IsPending m t s
pending_still g m (Given n) s k w h = gives_still g.keys m.keys s n k h
pending_still g m (Leaf x) s k w h = value_still g.slots m.slots x [] s w h
pending_still g m (One x a) s k w h = tree_still (bare g.slots) (bare m.slots) (One x a) s (λ n y e. e) w h
pending_still g m (Two x a b) s k w h = tree_still (bare g.slots) (bare m.slots) (Two x a b) s (λ n y e. e) w h

pub operand_still : (g m : Standing) (a : Typed) → KeepsKeys g.keys m.keys → IsWider g.slots m.slots → FitsOperand g a → FitsOperand m a
operand_still g m a k w h = record { fits = pending_still g m a.tree a.suffix k w h.fits; scalar = h.scalar }

pub typed_still : (g m : Standing) (a : Typed) → KeepsKeys g.keys m.keys → IsWider g.slots m.slots → FitsTyped g a → FitsTyped m a
typed_still g m a k w h = record { fits = tree_still g m a.tree a.suffix k w h.fits; scalar = h.scalar }

-- ---- room

by_none : (slots : List Slot) (o : Op) (z : Option ℤ) → HasRoomBy slots 0 o z
by_none slots op.Addrl (Some z) = λ by lt. absurd (omega (arith, lt))
by_none slots o z = tt

pub no_room : (slots : List Slot) (t : Template) → HasRoom slots 0 t
no_room slots (Given n) = tt
no_room slots (Leaf h) = by_none slots h.operator.op h.value
no_room slots (One h a) = tt
no_room slots (Two h a b) = tt

-- ---- values that are placed

-- a later state that has the nodes
pub record Goes (l m : Low) : Type 0 where
  pub state : IsFitState m
  pub wide : IsWider l.slots m.slots
  pub keeps : KeepsKeys (keys_in l) (keys_in m)

pub goes_nowhere : (l : Low) → IsFitState l → Goes l l
goes_nowhere l h = record { state = h; wide = λ z e. e; keeps = λ n k e. e }

pub goes_on : (a b c : Low) → Goes a b → Goes b c → Goes a c
goes_on a b c x y = record { state = y.state; wide = λ z e. y.wide z (x.wide z e); keeps = keys_joined (keys_in a) (keys_in b) (keys_in c) x.keeps y.keeps }

pub goes_after : (l m : Low) → Goes l m → IsFitAfter l m
goes_after l m g = record { state = g.state; wide = g.wide }

pub record IsPlaced (room : ℕ) (l : Low) (r : Lowered) : Type 0 where
  pub result : IsFitResult room l r
  pub keeps : KeepsKeys (keys_in l) (keys_in r.low)

node_placed : (room : ℕ) (s : Suffix) (t : Template) (l : Low) → IsScalar s → IsFitState l → FitsTree (standing_in l) t s
    → IsPlaced room l (with_value (record { tree = Given (asked t l.entries).node; suffix = s }) (record { pieces = l.pieces; entries = (asked t l.entries).entries; slots = l.slots; labels = l.labels }))
node_placed room s t l k b h =
    let f = template_found l.slots l.entries t s b.current h in
    record {
      result = record { state = record { current = f.block; pieces = b.pieces }; wide = λ z e. e; value = record { fits = f.node; scalar = k }; room = tt };
      keeps = f.keeps;
    }

tree_placed : (room : ℕ) (s : Suffix) (t : Template) (l : Low) → IsScalar s → IsFitState l → FitsTree (standing_in l) t s → HasRoom l.slots room t → IsPlaced room l (placed_tree s t l)
tree_placed room s (Given n) l k b h r = record { result = record { state = b; wide = λ z e. e; value = record { fits = h; scalar = k }; room = tt }; keeps = λ m x e. e }
tree_placed room s (Leaf x) l k b h r = record { result = record { state = b; wide = λ z e. e; value = record { fits = h; scalar = k }; room = r }; keeps = λ m y e. e }
tree_placed room s (One x a) l k b h r = node_placed room s (One x a) l k b h
tree_placed room s (Two x a c) l k b h r = node_placed room s (Two x a c) l k b h

pub is_placed : (room : ℕ) (a : Typed) (l : Low) → IsFitState l → FitsTyped (standing_in l) a → HasRoom l.slots room a.tree → IsPlaced room l (placed a l)
is_placed room a l b h r = tree_placed room a.suffix a.tree l h.scalar b h.fits r

-- without room behind it
pub just_placed : (a : Typed) (l : Low) → IsFitState l → FitsTyped (standing_in l) a → IsPlaced 0 l (placed a l)
just_placed a l b h = is_placed 0 a l b h (no_room l.slots a.tree)

-- from an earlier state on
pub result_behind : (room : ℕ) (l m : Low) (r : Lowered) → IsWider l.slots m.slots → IsFitResult room m r → IsFitResult room l r
result_behind room l m r w h = record { state = h.state; wide = λ z e. h.wide z (w z e); value = h.value; room = h.room }

pub after_behind : (l m n : Low) → IsWider l.slots m.slots → IsFitAfter m n → IsFitAfter l n
after_behind l m n w h = record { state = h.state; wide = λ z e. h.wide z (w z e) }

-- ---- roots

pub acted_goes : (r : Root) (l : Low) → IsFitState l → FitsRoot (standing_in l) r → Goes l (acted r l)
acted_goes r l b h = let g = root_goes_on l.slots l.entries r b.current h in record { state = record { current = g.block; pieces = b.pieces }; wide = λ z e. e; keeps = g.keeps }

pub lone_goes : (x : Head) (t : Template) (s : Suffix) (l : Low) → IsFitState l → FitsHead l.slots x (s ∷ []) → FitsTree (standing_in l) t s → Goes l (acted_one x t l)
lone_goes x t s l b f h = let g = lone_root_goes_on l.slots l.entries x t s b.current f h in record { state = record { current = g.block; pieces = b.pieces }; wide = λ z e. e; keeps = g.keeps }

-- ---- blocks and labels

pieces_fit : (ps qs : List Piece) → AreFitPieces ps → AreFitPieces qs → AreFitPieces (ps ++ qs)
pieces_fit [] qs h k = k
pieces_fit (OfBlock before es ∷ ps) qs h k = (h.0, pieces_fit ps qs h.1 k)
pieces_fit (Mark n ∷ ps) qs h k = pieces_fit ps qs h k

pub ended_fits : (l : Low) → IsFitState l → IsFitAfter l (ended l)
ended_fits l b = record {
  state = record { current = tt; pieces = pieces_fit l.pieces (OfBlock l.slots l.entries ∷ []) b.pieces (b.current, tt) };
  wide = more_lie l.slots (slots_below (lowest l.slots) (room_count l.entries));
}

mark_fits : (n : ℕ) (l : Low) → IsFitState l → IsFitState (with_mark n l)
mark_fits n l b = record { current = b.current; pieces = pieces_fit l.pieces (Mark n ∷ []) b.pieces tt }

pub marked_fits : (n : ℕ) (l : Low) → IsFitState l → IsFitAfter l (marked n l)
marked_fits n l b = let e = ended_fits l b in record { state = mark_fits n (ended l) e.state; wide = e.wide }

pub branched_fits : (r : Root) (l : Low) → IsFitState l → FitsRoot (standing_in l) r → IsFitAfter l (branched r l)
branched_fits r l b h = let g = acted_goes r l b h in after_behind l (acted r l) (branched r l) g.wide (ended_fits (acted r l) g.state)

pub jumped_fits : (n : ℕ) (l : Low) → IsFitState l → IsFitAfter l (jumped n l)
jumped_fits n l b =
    let to = Leaf (head_with op.Addrg P (symbol.Label n) None) in
    let g = lone_goes (head op.Jump V) to P l b (record { operator = omega arith; part = tt; operands = refl; local = λ e. absurd (jump_no e) })
    (record { fits = record { operator = omega arith; part = tt; operands = refl; local = λ e. absurd (global_no e) }; value = refl; suffix = refl }) in
    after_behind l (acted_one (head op.Jump V) to l) (jumped n l) g.wide (ended_fits (acted_one (head op.Jump V) to l) g.state)
  where
    jump_no : op.Jump ≡ op.Addrl → ⊥
    jump_no e = cc

    global_no : op.Addrg ≡ op.Addrl → ⊥
    global_no e = cc

pub label_fits : (l : Low) → IsFitState l → IsFitState (with_label l)
label_fits l b = record { current = b.current; pieces = b.pieces }

-- ---- slots

pub local_fits : (g : Standing) (z : ℤ) → LiesInOne g.slots z → FitsTyped g (local z)
local_fits g z h = record { fits = record { fits = record { operator = omega arith; part = (refl, tt); operands = refl; local = λ e. h }; value = refl; suffix = refl }; scalar = tt }

pub slot_goes : (l : Low) → IsFitState l → Goes l (with_slot l)
slot_goes l b = record {
  state = record { current = frame_fits l.slots (slot_below (lowest l.slots) 0 ∷ []) l.entries b.current; pieces = b.pieces };
  wide = more_lie l.slots (slot_below (lowest l.slots) 0 ∷ []);
  keeps = λ n k e. e;
}

pub slot_lies : (l : Low) → LiesInOne (with_slot l).slots (slot_offset l)
slot_lies l =
    let new = slot_below (lowest l.slots) 0 in
    let h = slots_lie (l.slots ++ new ∷ []) (length l.slots) new 0 (get_last l.slots new) (omega arith) in
    subst (λ z. LiesInOne (l.slots ++ new ∷ []) z) (plus_none (slot_offset l)) h
  where
    plus_none : (z : ℤ) → z +ℤ pos 0 ≡ z
    plus_none z = omega (arith, ints)

indir_no : op.Indir ≡ op.Addrl → ⊥
indir_no e = cc

word_read : (g : Standing) (z : ℤ) → LiesInOne g.slots z → FitsTyped g (slot_read I z)
word_read g z h = record {
  fits = (P, record { fits = record { operator = omega arith; part = tt; operands = refl; local = λ e. absurd (indir_no e) }; value = refl; suffix = refl }, (local_fits g z h).fits);
  scalar = tt;
}

pub slot_fits : (g : Standing) (s : Suffix) (z : ℤ) → LiesInOne g.slots z → FitsTyped g (slot_read s z)
slot_fits g C z h = word_read g z h
slot_fits g S z h = word_read g z h
slot_fits g I z h = word_read g z h
slot_fits g U z h = word_read g z h
slot_fits g P z h = pointer_read_fits g (local z) (local z) (local_fits g z h) (local_fits g z h)
slot_fits g B z h = word_read g z h
slot_fits g V z h = word_read g z h

pub stored_goes : (z : ℤ) (a : Typed) (l : Low) → IsFitState l → LiesInOne l.slots z → FitsTyped (standing_in l) a → Goes l (stored_in z a l)
stored_goes z a l b h k = acted_goes (stored_as Four (local z) a) l b (store_fits (standing_in l) (local z) a (local_fits (standing_in l) z h) k Four)

-- ---- operands that wait

-- what waits for a part that isn't straight has no node
abbrev pub Waits : Bool → Lowered → Type 0
Waits true r = FitsOperand (standing_in r.low) r.value
Waits false r = FitsTyped (bare r.low.slots) r.value

pub record IsHeld (st : Bool) (l : Low) (r : Lowered) : Type 0 where
  pub goes : Goes l r.low
  pub value : Waits st r

saved_held : (a : Typed) (l : Low) → IsFitState l → FitsTyped (standing_in l) a → IsHeld false l (saved a l)
saved_held a l b h =
    let m = with_slot l in
    let g = slot_goes l b in
    let p = stored_goes (slot_offset l) a m g.state (slot_lies l) (typed_still (standing_in l) (standing_in m) a g.keeps g.wide h) in
    record { goes = goes_on l m (saved a l).low g p; value = slot_fits (bare m.slots) a.suffix (slot_offset l) (slot_lies l) }

tree_held : (s : Suffix) (t : Template) (l : Low) → IsScalar s → IsFitState l → IsPending (standing_in l) t s
    → IsHeld false l (saved_tree t (record { tree = t; suffix = s }) l)
tree_held s (Given n) l k b h = saved_held (record { tree = Given n; suffix = s }) l b (record { fits = h; scalar = k })
tree_held s (Leaf x) l k b h = record { goes = goes_nowhere l b; value = record { fits = h; scalar = k } }
tree_held s (One x a) l k b h = record { goes = goes_nowhere l b; value = record { fits = h; scalar = k } }
tree_held s (Two x a c) l k b h = record { goes = goes_nowhere l b; value = record { fits = h; scalar = k } }

pub is_held : (st : Bool) (a : Typed) (l : Low) → IsFitState l → FitsOperand (standing_in l) a → IsHeld st l (held st a l)
is_held true a l b h = record { goes = goes_nowhere l b; value = h }
is_held false a l b h = tree_held a.suffix a.tree l h.scalar b h.fits

-- behind a part it is an operand still
pub waited : (st : Bool) (r : Lowered) (m : Low) → Waits st r → (st ≡ true → KeepsKeys (keys_in r.low) (keys_in m)) → IsWider r.low.slots m.slots → FitsOperand (standing_in m) r.value
waited true r m h k w = operand_still (standing_in r.low) (standing_in m) r.value (k refl) w h
waited false r m h k w = bare_operand (standing_in m) r.value (typed_still (bare r.low.slots) (bare m.slots) r.value (λ n x e. e) w h)

-- ---- entries that go on have the nodes

pub front_keeps : (es fs : List Entry) → IsFront es fs → KeepsKeys (keys_of es) (keys_of fs)
front_keeps es fs f = subst (λ gs. KeepsKeys (keys_of es) (keys_of gs)) (sym f.is) (more_keeps es f.more)
  where
    more_keeps : (es more : List Entry) → KeepsKeys (keys_of es) (keys_of (es ++ more))
    more_keeps es [] = subst (λ gs. KeepsKeys (keys_of es) (keys_of gs)) (sym (append-nil es)) (λ n k e. e)
    more_keeps es (entry.Value x ∷ more) =
        subst (λ gs. KeepsKeys (keys_of es) (keys_of gs)) (append_assoc es (entry.Value x ∷ []) more)
        (keys_joined (keys_of es) (keys_of (es ++ entry.Value x ∷ [])) (keys_of ((es ++ entry.Value x ∷ []) ++ more)) (value_keeps es x) (more_keeps (es ++ entry.Value x ∷ []) more))
    more_keeps es (entry.Root x ∷ more) =
        subst (λ gs. KeepsKeys (keys_of es) (keys_of gs)) (append_assoc es (entry.Root x ∷ []) more)
        (keys_joined (keys_of es) (keys_of (es ++ entry.Root x ∷ [])) (keys_of ((es ++ entry.Root x ∷ []) ++ more)) (root_keeps es x) (more_keeps (es ++ entry.Root x ∷ []) more))
