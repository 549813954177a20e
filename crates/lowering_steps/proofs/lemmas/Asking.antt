-- What a block answers for a template, by what it answers for the operands.
use Rattle.std.specs.Prelude.{◌≡◌, ℕ, List}
use Rattle.std.proofs.Common.{refl, ap, sym, ◌∙◌}
use Rattle.op_forest.specs.declared.op.Op.{Op}
use Rattle.op_forest.specs.declared.suffix.Suffix.{Suffix}
use Rattle.op_forest.specs.Nodes.{Head}
use Rattle.dag_forest.specs.declared.entry.Entry.{Entry}
use Rattle.dag_forest.specs.declared.kids.Kids.TheVariants as kids
use Rattle.c_rows_agree.specs.Templates.{Template, Given, Leaf, One, Two}
use Rattle.c_rows_agree.specs.Typed.{Typed, head, over, over_two}
use Rattle.lowered_forms.specs.Asked.{Asked, with_kids, asked_over, asked_both, asked, root_over, root_both, rooted, rooted_one}
use Rattle.lowered_forms.specs.Lows.{Low, with_entries, acted, acted_one}
use Rattle.lowered_forms.specs.Values.{Lowered, with_value, as_node}
use Rattle.lowering_steps.specs.declared.operand.Operand.{Operand}
use Rattle.lowering_steps.specs.Operands.{typed_of}
use Rattle.lowering_steps.specs.Asking.{Answers, Asks, IsRoot, Acts, Places}

-- ---- nodes

pub asks_leaf : (es : List Entry) (h : Head) (n : ℕ) (fs : List Entry) → Answers es (with_kids h kids.Zero) n fs → Asks es (Leaf h) n fs
asks_leaf es h n fs a = record { is = a.is }

pub asks_given : (es : List Entry) (n : ℕ) → Asks es (Given n) n es
asks_given es n = record { is = refl }

pub asks_one : (es : List Entry) (h : Head) (t : Template) (m : ℕ) (fs : List Entry) (n : ℕ) (gs : List Entry) → Asks es t m fs → Answers fs (with_kids h (kids.One m)) n gs → Asks es (One h t) n gs
asks_one es h t m fs n gs a b = record { is = ap (asked_over h) a.is ∙ b.is }

pub asks_two : (es : List Entry) (h : Head) (s t : Template) (m : ℕ) (fs : List Entry) (n : ℕ) (gs : List Entry) (k : ℕ) (hs : List Entry)
    → Asks es s m fs → Asks fs t n gs → Answers gs (with_kids h (kids.Two m n)) k hs → Asks es (Two h s t) k hs
asks_two es h s t m fs n gs k hs a b c = record { is = ap (λ x. asked_both h x.node (asked t x.entries)) a.is ∙ ap (asked_both h m) b.is ∙ c.is }

-- one of an operator without a symbol or a constant
pub over_asks : (es : List Entry) (o : Op) (s : Suffix) (t : Template) (m : ℕ) (fs : List Entry) (n : ℕ) (gs : List Entry) → Asks es t m fs → Answers fs (with_kids (head o s) (kids.One m)) n gs → Asks es (over o s t) n gs
over_asks es o s t m fs n gs a b = asks_one es (head o s) t m fs n gs a b

pub both_asks : (es : List Entry) (o : Op) (x : Suffix) (s t : Template) (m : ℕ) (fs : List Entry) (n : ℕ) (gs : List Entry) (k : ℕ) (hs : List Entry)
    → Asks es s m fs → Asks fs t n gs → Answers gs (with_kids (head o x) (kids.Two m n)) k hs → Asks es (over_two o x s t) k hs
both_asks es o x s t m fs n gs k hs a b c = asks_two es (head o x) s t m fs n gs k hs a b c

-- ---- what is computed is a node

abbrev entries_kept : List Entry → List Entry → (Low → Lowered) → Typed → Type 0
entries_kept es fs step a = (l : Low) → l.entries ≡ es → step l ≡ with_value a (with_entries fs l)

node_by : (es : List Entry) (s : Suffix) (t : Template) (n : ℕ) (fs : List Entry) → Asks es t n fs → (l : Low) → l.entries ≡ es → as_node s (asked t l.entries) l ≡ with_value (record { tree = Given n; suffix = s }) (with_entries fs l)
node_by es s t n fs a l e = ap (λ x. as_node s (asked t x) l) e ∙ ap (λ (x : Asked). as_node s x l) a.is

pub places_one : (es : List Entry) (h : Head) (t : Template) (s : Suffix) (n : ℕ) (v : Operand) (fs : List Entry)
    → typed_of v ≡ record { tree = Given n; suffix = s } → Asks es (One h t) n fs → Places es (record { tree = One h t; suffix = s }) v fs
places_one es h t s n v fs e a = record { is = λ l x. node_by es s (One h t) n fs a l x ∙ ap (λ b. with_value b (with_entries fs l)) (sym e) }

pub places_two : (es : List Entry) (h : Head) (t u : Template) (s : Suffix) (n : ℕ) (v : Operand) (fs : List Entry)
    → typed_of v ≡ record { tree = Given n; suffix = s } → Asks es (Two h t u) n fs → Places es (record { tree = Two h t u; suffix = s }) v fs
places_two es h t u s n v fs e a = record { is = λ l x. node_by es s (Two h t u) n fs a l x ∙ ap (λ b. with_value b (with_entries fs l)) (sym e) }

-- ---- roots

pub acts_two : (es : List Entry) (h : Head) (s t : Template) (m : ℕ) (fs : List Entry) (n : ℕ) (gs hs : List Entry)
    → Asks es s m fs → Asks fs t n gs → IsRoot gs h (kids.Two m n) hs → Acts es (λ l. acted (record { head = h; left = s; right = t }) l) hs
acts_two es h s t m fs n gs hs a b c = record {
  is = λ l e.
      ap (λ x. with_entries (rooted (record { head = h; left = s; right = t }) x) l) e
      ∙ ap (λ x. with_entries x l) (ap (λ x. root_both h x.node (asked t x.entries)) a.is ∙ ap (root_both h m) b.is ∙ sym c);
}

pub acts_over : (es : List Entry) (h : Head) (t : Template) (m : ℕ) (fs gs : List Entry) → Asks es t m fs → IsRoot fs h (kids.One m) gs → Acts es (λ l. acted_one h t l) gs
acts_over es h t m fs gs a b = record {
  is = λ l e. ap (λ x. with_entries (rooted_one h t x) l) e ∙ ap (λ x. with_entries x l) (ap (root_over h) a.is ∙ sym b);
}
