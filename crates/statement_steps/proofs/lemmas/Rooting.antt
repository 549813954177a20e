-- Roots of a block that was asked for their operands before.
use Rattle.std.specs.Prelude.{◌≡◌, ℕ, false, None, List}
use Rattle.std.proofs.Common.{refl, sym, ap, ◌∙◌, subst}
use Rattle.objects.specs.declared.width.Width.{Width}
use Rattle.objects.specs.declared.width.Width.TheVariants as width
use Rattle.op_forest.specs.declared.op.Op.TheVariants as op
use Rattle.op_forest.specs.declared.suffix.Suffix.{Suffix}
use Rattle.op_forest.specs.declared.suffix.Suffix.TheVariants.{C, S, I, U, P, B, V}
use Rattle.op_forest.specs.declared.sym.Sym.TheVariants as sym
use Rattle.op_forest.specs.Nodes.{Head}
use Rattle.dag_forest.specs.declared.entry.Entry.{Entry}
use Rattle.c_rows_agree.specs.Integers.{narrow_from}
use Rattle.c_rows_agree.specs.Places.{stored_as, stored_by, word_stored, loaded_pointer}
use Rattle.c_rows_agree.specs.Templates.{Template, Given, Root}
use Rattle.c_rows_agree.specs.Typed.{Typed, head, head_with, over, as_i, as_i_from, as_p, as_p_from, constant_i}
use Rattle.c_pointers_agree.specs.Pointers.{moved, scaled}
use Rattle.lowered_forms.specs.Accesses.{copy_root}
use Rattle.lowered_forms.specs.Asked.{asked, rooted, rooted_one}
use Rattle.lowered_forms.specs.Lows.{Low, with_entries, acted, acted_one}
use Rattle.lowering_steps.specs.declared.operand.Operand.{Operand}
use Rattle.lowering_steps.specs.Asking.{answer, Asks, Acts, Places}
use Rattle.lowering_steps.specs.Operands.{template_of, typed_of}
use Rattle.statement_steps.proofs.lemmas.Asking.{placed_same, placed_suffix, same_i, same_p, same_one, same_left, same_right, root_left, root_right, root_one}

-- ---- the same root, behind what was asked for

pub acts_as : (r q : Root) (es fs gs : List Entry) → rooted r es ≡ rooted q fs → Acts fs (λ l. acted q l) gs → Acts es (λ l. acted r l) gs
acts_as r q es fs gs e a = record { is = λ l x. ap (λ ys. with_entries (rooted r ys) l) x ∙ ap (λ ys. with_entries ys l) e ∙ a.is (with_entries fs l) refl }

pub acts_one_as : (h : Head) (t u : Template) (es fs gs : List Entry) → rooted_one h t es ≡ rooted_one h u fs → Acts fs (λ l. acted_one h u l) gs → Acts es (λ l. acted_one h t l) gs
acts_one_as h t u es fs gs e a = record { is = λ l x. ap (λ ys. with_entries (rooted_one h t ys) l) x ∙ ap (λ ys. with_entries ys l) e ∙ a.is (with_entries fs l) refl }

-- one step behind another
pub acts_then : (f g : Low → Low) (es fs gs : List Entry) → Acts es f fs → Acts fs g gs → Acts es (λ l. g (f l)) gs
acts_then f g es fs gs a b = record { is = λ l x. ap g (a.is l x) ∙ b.is (with_entries fs l) refl }

-- ---- a place that was computed first

-- as a pointer
pub pointer_same : (es : List Entry) (t : Typed) (v : Operand) (fs : List Entry) → Places es t v fs → asked (as_p t) es ≡ asked (as_p (typed_of v)) fs
pointer_same es t v fs p =
    same_p t.suffix t.tree (template_of v) es fs (placed_same es t v fs p)
    ∙ ap (λ (s : Suffix). asked (as_p_from s (template_of v)) fs) (placed_suffix es t v fs p)

word_left : (s : Suffix) (a b t : Template) (es fs : List Entry) → asked a es ≡ asked b fs → rooted (word_stored s a t) es ≡ rooted (word_stored s b t) fs
word_left C a b t es fs e = root_left (head op.Asgn I) a b (as_i_from C t) es fs e
word_left S a b t es fs e = root_left (head op.Asgn I) a b (as_i_from S t) es fs e
word_left I a b t es fs e = root_left (head op.Asgn I) a b (as_i_from I t) es fs e
word_left U a b t es fs e = root_left (head op.Asgn I) a b (as_i_from U t) es fs e
word_left P a b t es fs e = root_left (head op.Asgn P) a b t es fs e
word_left B a b t es fs e = root_left (head op.Asgn I) a b (as_i_from B t) es fs e
word_left V a b t es fs e = root_left (head op.Asgn I) a b (as_i_from V t) es fs e

stored_left : (w : Width) (a b : Template) (x : Typed) (es fs : List Entry) → asked a es ≡ asked b fs → rooted (stored_by w a x) es ≡ rooted (stored_by w b x) fs
stored_left width.One a b x es fs e = root_left (head op.Asgn C) a b (narrow_from x.suffix C x.tree) es fs e
stored_left width.Two a b x es fs e = root_left (head op.Asgn S) a b (narrow_from x.suffix S x.tree) es fs e
stored_left width.Four a b x es fs e = word_left x.suffix a b x.tree es fs e

pub stores_at : (w : Width) (es fs gs : List Entry) (t x : Typed) (v : Operand) → Places es t v fs
    → Acts fs (λ l. acted (stored_as w (typed_of v) x) l) gs → Acts es (λ l. acted (stored_as w t x) l) gs
stores_at w es fs gs t x v p a = acts_as (stored_as w t x) (stored_as w (typed_of v) x) es fs gs (stored_left w (as_p t) (as_p (typed_of v)) x es fs (pointer_same es t v fs p)) a

pub copies_at : (size align : ℕ) (es fs gs : List Entry) (t from : Typed) (v : Operand) → Places es t v fs
    → Acts fs (λ l. acted (copy_root size align (typed_of v) from) l) gs → Acts es (λ l. acted (copy_root size align t from) l) gs
copies_at size align es fs gs t from v p a =
    acts_as (copy_root size align t from) (copy_root size align (typed_of v) from) es fs gs (root_left (head_with op.Asgn B (sym.Block size align) None) (as_p t) (as_p (typed_of v)) (over op.Indir B (as_p from)) es fs (pointer_same es t v fs p)) a

-- ---- a value that was computed behind its place: an int

int_right : (w : Width) (n : ℕ) (a t u : Template) (es fs gs : List Entry) → asked a es ≡ answer n fs → asked t fs ≡ asked u gs
    → rooted (stored_by w a (record { tree = t; suffix = I })) es ≡ rooted (stored_by w (Given n) (record { tree = u; suffix = I })) gs
int_right width.One n a t u es fs gs e d = root_right (head op.Asgn C) a (over op.Cvi C t) (over op.Cvi C u) n es fs gs e (same_one (head op.Cvi C) t u fs gs d)
int_right width.Two n a t u es fs gs e d = root_right (head op.Asgn S) a (over op.Cvi S t) (over op.Cvi S u) n es fs gs e (same_one (head op.Cvi S) t u fs gs d)
int_right width.Four n a t u es fs gs e d = root_right (head op.Asgn I) a t u n es fs gs e d

pub stores_behind : (w : Width) (es fs gs hs : List Entry) (a t : Template) (n : ℕ) (v : Operand) → Asks es a n fs → Places fs (record { tree = t; suffix = I }) v gs
    → Acts gs (λ l. acted (stored_as w (record { tree = Given n; suffix = P }) (typed_of v)) l) hs
    → Acts es (λ l. acted (stored_as w (record { tree = a; suffix = P }) (record { tree = t; suffix = I })) l) hs
stores_behind w es fs gs hs a t n v left right act =
    let same = placed_same fs (record { tree = t; suffix = I }) v gs right in
    let is : I ≡ v.suffix = placed_suffix fs (record { tree = t; suffix = I }) v gs right in
    acts_as (stored_by w a (record { tree = t; suffix = I })) (stored_by w (Given n) (record { tree = template_of v; suffix = I })) es gs hs
    (int_right w n a t (template_of v) es fs gs left.is same)
    (subst (λ (s : Suffix). Acts gs (λ l. acted (stored_by w (Given n) (record { tree = template_of v; suffix = s })) l) hs) (sym is) act)

-- ---- a jump to where the label at an index of a table says

abbrev at_index : Typed → Typed → Typed
at_index table index = moved 4 false table index

index_same : (es fs gs : List Entry) (a : Template) (index : Typed) (n : ℕ) (v : Operand) → Asks es a n fs → Places fs index v gs
    → asked (at_index (record { tree = a; suffix = P }) index).tree es ≡ asked (at_index (record { tree = Given n; suffix = P }) (typed_of v)).tree gs
index_same es fs gs a index n v left right =
    same_right (head op.Add P) a (scaled 4 index) (scaled 4 (typed_of v)) n es fs gs left.is
    (same_left (head op.Lsh I) (as_i index) (as_i (typed_of v)) (constant_i 2) fs gs
    (same_i index.suffix index.tree (template_of v) fs gs (placed_same fs index v gs right) ∙ ap (λ (s : Suffix). asked (as_i (record { tree = template_of v; suffix = s })) gs) (placed_suffix fs index v gs right)))

pub jumps_by : (h : Head) (es fs gs hs : List Entry) (a : Template) (index : Typed) (n : ℕ) (v : Operand) → Asks es a n fs → Places fs index v gs
    → Acts gs (λ l. acted_one h (loaded_pointer (at_index (record { tree = Given n; suffix = P }) (typed_of v))).tree l) hs
    → Acts es (λ l. acted_one h (loaded_pointer (at_index (record { tree = a; suffix = P }) index)).tree l) hs
jumps_by h es fs gs hs a index n v left right act =
    let old = at_index (record { tree = a; suffix = P }) index in
    let new = at_index (record { tree = Given n; suffix = P }) (typed_of v) in
    acts_one_as h (loaded_pointer old).tree (loaded_pointer new).tree es gs hs
    (root_one h (loaded_pointer old).tree (loaded_pointer new).tree es gs (same_one (head op.Indir P) old.tree new.tree es gs (index_same es fs gs a index n v left right))) act

-- a value that was computed, and one over it
pub jumps_at : (h : Head) (es fs gs hs is : List Entry) (t : Typed) (v u : Operand) (n : ℕ) → Places es t v fs → Places fs (loaded_pointer (typed_of v)) u gs → Asks gs (template_of u) n hs
    → Acts gs (λ l. acted_one h (template_of u) l) is → Acts es (λ l. acted_one h (loaded_pointer t).tree l) is
jumps_at h es fs gs hs is t v u n p q k act =
    acts_one_as h (loaded_pointer t).tree (template_of u) es gs is
    (root_one h (loaded_pointer t).tree (template_of u) es gs (same_one (head op.Indir P) (as_p t) (as_p (typed_of v)) es fs (pointer_same es t v fs p) ∙ placed_same fs (loaded_pointer (typed_of v)) u gs q))
    act
