-- What single steps keep of the blocks and labels.
use Rattle.std.specs.Prelude.{◌<◌, ℕ, suc, ℤ, Bool, true, false, None, [], ◌∷◌}
use Rattle.std.proofs.Common.{arith}
use Rattle.objects.specs.declared.width.Width.TheVariants.{Four}
use Rattle.op_forest.specs.declared.op.Op.TheVariants as op
use Rattle.op_forest.specs.declared.suffix.Suffix.{Suffix}
use Rattle.op_forest.specs.declared.suffix.Suffix.TheVariants.{P, V}
use Rattle.op_forest.specs.declared.sym.Sym.TheVariants as sym
use Rattle.op_forest.specs.Nodes.{Head}
use Rattle.piece_runs.specs.Pieces.{OfBlock, Mark}
use Rattle.c_rows_agree.specs.Places.{stored_as}
use Rattle.c_rows_agree.specs.Templates.{Template, Given, Leaf, One, Two, Root}
use Rattle.c_rows_agree.specs.Typed.{Typed, head, head_with}
use Rattle.c_pointers_agree.specs.Pointers.{local}
use Rattle.lowered_forms.specs.Blocks.{IsBlock}
use Rattle.lowered_forms.specs.Lows.{Low, acted, acted_one, ended, jumped, marked, with_label, with_slot, slot_offset}
use Rattle.lowered_forms.specs.Values.{Lowered, placed_tree, placed, saved_tree, held, stored_in}
use Rattle.lowered_forms.proofs.lemmas.Blocks.{rooted_one_there}
use Rattle.lowered_blocks.specs.Known.{IsBelow, IsNoLabel, AreNamed, AreKnown, IsKnown}
use Rattle.lowered_blocks.proofs.lemmas.Naming.{plain_below, named_more, known_more, known_append, labelled_jump, asked_named, rooted_named, rooted_one_named}
use Rattle.lowered_blocks.proofs.lemmas.PlainRoots.{IsPlainRoot, stored_plain}
use Rattle.lowered_blocks.proofs.lemmas.PlainTemplates.{IsPlainSym, IsPlain, IsPlainValue, slot_in}

-- the labels of the pieces and of the open block have been used, and the finished blocks are blocks
pub record Names (l : Low) : Type 0 where
  pub pieces : AreKnown l.labels l.pieces
  pub named : AreNamed l.labels l.entries

pub names_of : (l : Low) → IsKnown l → Names l
names_of l h = record { pieces = h.pieces; named = h.named }

pub known_by : (l : Low) → Names l → IsBlock l.entries → IsKnown l
known_by l h b = record { pieces = h.pieces; block = b; named = h.named }

-- ---- roots and nodes

pub acted_names : (r : Root) (l : Low) → IsPlainRoot r → Names l → Names (acted r l)
acted_names r l p h = record { pieces = h.pieces; named = rooted_named l.labels r l.entries p.op (plain_below l.labels r.head.sym p.symbol) p.left p.right h.named }

-- a root that jumps to a label that has been used
pub jumping_names : (r : Root) (l : Low) → IsNoLabel r.head.operator.op → IsBelow l.labels r.head.sym → IsPlain r.left → IsPlain r.right → Names l → Names (acted r l)
jumping_names r l o b f g h = record { pieces = h.pieces; named = rooted_named l.labels r l.entries o b f g h.named }

pub acted_one_names : (x : Head) (t : Template) (l : Low) → IsNoLabel x.operator.op → IsPlainSym x.sym → IsPlain t → Names l → Names (acted_one x t l)
acted_one_names x t l o b p h = record { pieces = h.pieces; named = rooted_one_named l.labels x t l.entries o (plain_below l.labels x.sym b) p h.named }

-- an operand, and what is known where it is there
pub record Gives (r : Lowered) : Type 0 where
  pub names : Names r.low
  pub plain : IsPlainValue r.value

placed_tree_names : (s : Suffix) (t : Template) (l : Low) → IsPlain t → Names l → Gives (placed_tree s t l)
placed_tree_names s (Given n) l p h = record { names = h; plain = tt }
placed_tree_names s (Leaf x) l p h = record { names = h; plain = p }
placed_tree_names s (One x a) l p h = record { names = record { pieces = h.pieces; named = asked_named l.labels (One x a) l.entries p h.named }; plain = tt }
placed_tree_names s (Two x a b) l p h = record { names = record { pieces = h.pieces; named = asked_named l.labels (Two x a b) l.entries p h.named }; plain = tt }

pub placed_names : (a : Typed) (l : Low) → IsPlainValue a → Names l → Gives (placed a l)
placed_names a l p h = placed_tree_names a.suffix a.tree l p h

pub stored_names : (z : ℤ) (a : Typed) (l : Low) → IsPlainValue a → Names l → Names (stored_in z a l)
stored_names z a l p h = acted_names (stored_as Four (local z) a) l (stored_plain Four (local z) a tt p) h

slot_names : (l : Low) → Names l → Names (with_slot l)
slot_names l h = record { pieces = h.pieces; named = h.named }

saved_names : (t : Template) (a : Typed) (l : Low) → IsPlainValue a → Names l → Gives (saved_tree t a l)
saved_names (Given n) a l p h = record { names = stored_names (slot_offset l) a (with_slot l) p (slot_names l h); plain = slot_in a.suffix (slot_offset l) }
saved_names (Leaf x) a l p h = record { names = h; plain = p }
saved_names (One x b) a l p h = record { names = h; plain = p }
saved_names (Two x b c) a l p h = record { names = h; plain = p }

pub held_names : (straight : Bool) (a : Typed) (l : Low) → IsPlainValue a → Names l → Gives (held straight a l)
held_names true a l p h = record { names = h; plain = p }
held_names false a l p h = saved_names a.tree a l p h

-- ---- blocks that end, and labels

pub ended_names : (l : Low) → Names l → IsBlock l.entries → Names (ended l)
ended_names l h b = record { pieces = known_append l.labels l.pieces (OfBlock l.slots l.entries ∷ []) h.pieces ((b, h.named), tt); named = tt }

pub marked_names : (n : ℕ) (l : Low) → n < l.labels → Names l → IsBlock l.entries → Names (marked n l)
marked_names n l lt h b = let e = ended_names l h b in record { pieces = known_append l.labels (ended l).pieces (Mark n ∷ []) e.pieces (lt, tt); named = tt }

jump_block : (n : ℕ) (l : Low) → IsBlock l.entries → IsBlock (acted_one (head op.Jump V) (Leaf (head_with op.Addrg P (sym.Label n) None)) l).entries
jump_block n l b = (rooted_one_there (head op.Jump V) (Leaf (head_with op.Addrg P (sym.Label n) None)) l.entries b tt).0

pub jumped_names : (n : ℕ) (l : Low) → n < l.labels → Names l → IsBlock l.entries → Names (jumped n l)
jumped_names n l lt h b =
    let l1 = acted_one (head op.Jump V) (Leaf (head_with op.Addrg P (sym.Label n) None)) l in
    ended_names l1 (record { pieces = h.pieces; named = labelled_jump l.labels n l.entries lt h.named }) (jump_block n l b)

pub label_names : (l : Low) → Names l → Names (with_label l)
label_names l h = record { pieces = known_more l.labels (suc l.labels) l.pieces (omega arith) h.pieces; named = named_more l.labels (suc l.labels) l.entries (omega arith) h.named }
