-- Patterns whose names are places: what they mean, and which operators they use.
use Rattle.std.proofs.Common.{◌≡◌, ℕ, zero, suc, ◌+◌, ◌⊎◌, List, map, Option, Some, None, refl, sym, ap, ◌∙◌, subst, inl, inr, arith}
use Rattle.std.specs.Prelude.{slice_get, option_map}
use Rattle.std.proofs.lemmas.Option.{slice_get-map, slice_get_within, none-some, same_Some}
use Rattle.lcc_text.specs.Names.{place_of}
use Rattle.std.specs.Borrow.{Bor}
use Rattle.lcc_text.proofs.lemmas.Places.{place_none, place_some, place_here}
use Rattle.lburg_lines.specs.declared.named_tree.NamedTree.{NamedTree, Leaf}
use Rattle.lburg_faults.specs.Terminals.{Among}
use Rattle.lburg_lines.specs.NamedTree.{MNamed, Alone, Over, Both, names_in, named_of}
use Rattle.lburg_model.specs.declared.terminal.Terminal.{Terminal}
use Rattle.lburg_model.specs.Pattern.{MPattern, PHole, PLeaf, POne, PTwo, pattern_nodes}
use Rattle.lburg_model.specs.Description.{MDescription, AreDistinct, HasArity, FitsIn, Uses, terminal_names}
use Rattle.lburg_grammar.specs.DescriptionText.{IsNamed, PatternMeans}
use Rattle.lburg_grammar.specs.FirstUses.{AreApart}
use Rattle.lburg_grammar.specs.Places.{operator_of, alone_for, over_for, both_for, AreKnown, pattern_for}
use Rattle.lburg_grammar.specs.Uses.{UsesWith, arity_at, known}

-- what a table has that has every use
abbrev pub Has : (ℕ → ℕ → Type 0) → List (Option ℕ) → Type 0
Has Used table = (op n : ℕ) → Used op n → arity_at table op ≡ Some n

-- the names of terminals by place
pub name_at : (d : MDescription) (k : ℕ) (t : Terminal) → slice_get d.terminals k ≡ Some t → slice_get (terminal_names d) k ≡ Some t.name
name_at d k t h = slice_get-map (λ (x : Terminal). x.name) d.terminals k ∙ ap (λ (o : Option Terminal). option_map (λ (x : Terminal). x.name) o) h

pub mapped_at : {A B : Type 0} (f : A → B) (o : Option A) (b : B) → option_map f o ≡ Some b → (a : A) × (o ≡ Some a) × (f a ≡ b)
mapped_at f None b h = absurd (none-some b h)
mapped_at f (Some a) b h = (a, refl, same_Some (f a) b h)

-- an element of a list that is mapped
pub element_at : {A B : Type 0} (f : A → B) (xs : List A) (k : ℕ) (b : B) → slice_get (map f xs) k ≡ Some b → (a : A) × (slice_get xs k ≡ Some a) × (f a ≡ b)
element_at f xs k b h = mapped_at f (slice_get xs k) b (sym (slice_get-map f xs k) ∙ h)

pub named_operator : (d : MDescription) (op : ℕ) (name : List ℕ) → AreDistinct (terminal_names d) → IsNamed d op name → operator_of (terminal_names d) name ≡ Some op
named_operator d zero name once h = absurd (none-some h.0 h.1)
named_operator d (suc k) name once h =
    let at : slice_get (terminal_names d) k ≡ Some name = name_at d k h.0 h.1 ∙ ap (λ (n : List ℕ). Some n) h.2 in
    let p = place_here (terminal_names d) name k (λ j e. once j k name e at) at in
    ap (λ (o : Option ℕ). option_map (λ (n : ℕ). n + 1) o) p ∙ ap (λ (n : ℕ). Some n) (omega arith)

pub operator_named : (d : MDescription) (op : ℕ) (name : List ℕ) → operator_of (terminal_names d) name ≡ Some op → IsNamed d op name
operator_named d op name h =
    let p = mapped_at (λ (n : ℕ). n + 1) (place_of (terminal_names d) name) op h in
    let e = element_at (λ (x : Terminal). x.name) d.terminals p.0 name (place_some (terminal_names d) name p.0 p.1) in
    let o : suc p.0 ≡ op = (let q = p.2 in omega arith) in
    subst (λ (k : ℕ). IsNamed d k name) o (e.0, e.1, e.2)

no_operator : (ts ns : List (List ℕ)) (n : ℕ) (name : List ℕ) → AreApart ts ns → slice_get ns n ≡ Some name → operator_of ts name ≡ None
no_operator ts ns n name apart h = settled (place_of ts name) refl where
  settled : (o : Option ℕ) → place_of ts name ≡ o → operator_of ts name ≡ None
  settled None e = ap (λ (o : Option ℕ). option_map (λ (k : ℕ). k + 1) o) e
  settled (Some k) e = absurd (apart k n name (place_some ts name k e) h)

-- a pattern that a tree means is the one with its places
module _ (d : MDescription) (names : AreDistinct (terminal_names d)) (others : AreDistinct d.nonterminals) (apart : AreApart (terminal_names d) d.nonterminals) where
  pub complete : (t : MNamed) (p : MPattern) → PatternMeans d t p → pattern_for (terminal_names d) d.nonterminals t ≡ Some p
  complete (Alone name) (PHole n) h =
      let a = no_operator (terminal_names d) d.nonterminals n name apart h in
      let b = place_here d.nonterminals name n (λ j e. others j n name e h) h in
      rw (a, b) refl
  complete (Alone name) (PLeaf op) h = rw (named_operator d op name names h) refl
  complete (Alone name) (POne op p) h = absurd h
  complete (Alone name) (PTwo op p q) h = absurd h
  complete (Over name a) (PHole n) h = absurd h
  complete (Over name a) (PLeaf op) h = absurd h
  complete (Over name a) (POne op p) h = rw (named_operator d op name names h.0, complete a p h.1) refl
  complete (Over name a) (PTwo op p q) h = absurd h
  complete (Both name a b) (PHole n) h = absurd h
  complete (Both name a b) (PLeaf op) h = absurd h
  complete (Both name a b) (POne op p) h = absurd h
  complete (Both name a b) (PTwo op p q) h = rw (named_operator d op name names h.0, complete a p h.1.0, complete b q h.1.1) refl

-- the parts of a pattern that is found
pub alone_is : (o n : Option ℕ) (p : MPattern) → alone_for o n ≡ Some p → ((op : ℕ) × (o ≡ Some op) × (PLeaf op ≡ p)) ⊎ ((k : ℕ) × (n ≡ Some k) × (PHole k ≡ p))
alone_is None None p h = absurd (none-some p h)
alone_is None (Some k) p h = inr (k, refl, same_Some (PHole k) p h)
alone_is (Some op) n p h = inl (op, refl, same_Some (PLeaf op) p h)

pub over_is : (o : Option ℕ) (a : Option MPattern) (p : MPattern) → over_for o a ≡ Some p → (op : ℕ) × (q : MPattern) × (o ≡ Some op) × (a ≡ Some q) × (POne op q ≡ p)
over_is None a p h = absurd (none-some p h)
over_is (Some op) None p h = absurd (none-some p h)
over_is (Some op) (Some q) p h = (op, q, refl, refl, same_Some (POne op q) p h)

pub both_is : (o : Option ℕ) (a b : Option MPattern) (p : MPattern) → both_for o a b ≡ Some p → (op : ℕ) × (q r : MPattern) × (o ≡ Some op) × (a ≡ Some q) × (b ≡ Some r) × (PTwo op q r ≡ p)
both_is None a b p h = absurd (none-some p h)
both_is (Some op) None b p h = absurd (none-some p h)
both_is (Some op) (Some q) None p h = absurd (none-some p h)
both_is (Some op) (Some q) (Some r) p h = (op, q, r, refl, refl, refl, same_Some (PTwo op q r) p h)

pub sound : (d : MDescription) (t : MNamed) (p : MPattern) → pattern_for (terminal_names d) d.nonterminals t ≡ Some p → PatternMeans d t p
sound d (Alone name) p h = elim (alone_is (operator_of (terminal_names d) name) (place_of d.nonterminals name) p h) [
  | inl e ↦ subst (λ (x : MPattern). PatternMeans d (Alone name) x) e.2 (operator_named d e.0 name e.1)
  | inr e ↦ subst (λ (x : MPattern). PatternMeans d (Alone name) x) e.2 (place_some d.nonterminals name e.0 e.1)
]
sound d (Over name a) p h =
    let e = over_is (operator_of (terminal_names d) name) (pattern_for (terminal_names d) d.nonterminals a) p h in
    subst (λ (x : MPattern). PatternMeans d (Over name a) x) e.4 (operator_named d e.0 name e.2, sound d a e.1 e.3)
sound d (Both name a b) p h =
    let e = both_is (operator_of (terminal_names d) name) (pattern_for (terminal_names d) d.nonterminals a) (pattern_for (terminal_names d) d.nonterminals b) p h in
    subst (λ (x : MPattern). PatternMeans d (Both name a b) x) e.6 (operator_named d e.0 name e.3, (sound d a e.1 e.4, sound d b e.2 e.5))

-- as many nodes as names
pub nodes_of : (ts ns : List (List ℕ)) (t : MNamed) (p : MPattern) → pattern_for ts ns t ≡ Some p → pattern_nodes p ≡ names_in t
nodes_of ts ns (Alone name) p h = elim (alone_is (operator_of ts name) (place_of ns name) p h) [
  | inl e ↦ ap pattern_nodes (sym e.2)
  | inr e ↦ ap pattern_nodes (sym e.2)
]
nodes_of ts ns (Over name a) p h =
    let e = over_is (operator_of ts name) (pattern_for ts ns a) p h in
    ap pattern_nodes (sym e.4) ∙ ap (λ (n : ℕ). n + 1) (nodes_of ts ns a e.1 e.3)
nodes_of ts ns (Both name a b) p h =
    let e = both_is (operator_of ts name) (pattern_for ts ns a) (pattern_for ts ns b) p h in
    ap pattern_nodes (sym e.6) ∙ ap (λ (n : ℕ). n + pattern_nodes e.2 + 1) (nodes_of ts ns a e.1 e.4) ∙ ap (λ (n : ℕ). names_in a + n + 1) (nodes_of ts ns b e.2 e.5)

-- a pattern fits where each of its uses is right
pub fits : (d : MDescription) (t : MNamed) (p : MPattern) → pattern_for (terminal_names d) d.nonterminals t ≡ Some p → ((op n : ℕ) → UsesWith p op n → HasArity d op n) → FitsIn d p
fits d (Alone name) p h u = elim (alone_is (operator_of (terminal_names d) name) (place_of d.nonterminals name) p h) [
  | inl e ↦ subst (λ (x : MPattern). FitsIn d x) e.2 (u e.0 0 (subst (λ (x : MPattern). UsesWith x e.0 0) e.2 (refl, refl)))
  | inr e ↦ subst (λ (x : MPattern). FitsIn d x) e.2 (slice_get_within d.nonterminals e.0 name (place_some d.nonterminals name e.0 e.1))
]
fits d (Over name a) p h u =
    let e = over_is (operator_of (terminal_names d) name) (pattern_for (terminal_names d) d.nonterminals a) p h in
    let v : (op n : ℕ) → UsesWith (POne e.0 e.1) op n → HasArity d op n = λ op n w. u op n (subst (λ (x : MPattern). UsesWith x op n) e.4 w) in
    subst (λ (x : MPattern). FitsIn d x) e.4 (v e.0 1 (inl (refl, refl)), fits d a e.1 e.3 (λ op n w. v op n (inr w)))
fits d (Both name a b) p h u =
    let e = both_is (operator_of (terminal_names d) name) (pattern_for (terminal_names d) d.nonterminals a) (pattern_for (terminal_names d) d.nonterminals b) p h in
    let v : (op n : ℕ) → UsesWith (PTwo e.0 e.1 e.2) op n → HasArity d op n = λ op n w. u op n (subst (λ (x : MPattern). UsesWith x op n) e.6 w) in
    subst (λ (x : MPattern). FitsIn d x) e.6 (v e.0 2 (inl (refl, refl)), (fits d a e.1 e.4 (λ op n w. v op n (inr (inl w))), fits d b e.2 e.5 (λ op n w. v op n (inr (inr w)))))

-- a pattern that fits uses each operator with its arity
pub fitting : (d : MDescription) (p : MPattern) (op n : ℕ) → FitsIn d p → UsesWith p op n → HasArity d op n
fitting d (PHole m) op n h u = absurd u
fitting d (PLeaf o) op n h u = subst (λ (k : ℕ). HasArity d op k) (sym u.1) (subst (λ (k : ℕ). HasArity d k 0) u.0 h)
fitting d (POne o p) op n h u = elim u [
  | inl e ↦ subst (λ (k : ℕ). HasArity d op k) (sym e.1) (subst (λ (k : ℕ). HasArity d k 1) e.0 h.0)
  | inr e ↦ fitting d p op n h.1 e
]
fitting d (PTwo o p q) op n h u = elim u [
  | inl e ↦ subst (λ (k : ℕ). HasArity d op k) (sym e.1) (subst (λ (k : ℕ). HasArity d k 2) e.0 h.0)
  | inr v ↦ (elim v [ inl e ↦ fitting d p op n h.1.0 e | inr e ↦ fitting d q op n h.1.1 e ])
]

pub arity_has : (d : MDescription) (op n : ℕ) → HasArity d op n → arity_at (map (λ t. t.arity) d.terminals) op ≡ Some n
arity_has d zero n h = absurd (none-some h.0 h.1)
arity_has d (suc k) n h = ap known (slice_get-map (λ (t : Terminal). t.arity) d.terminals k ∙ ap (λ (o : Option Terminal). option_map (λ (t : Terminal). t.arity) o) h.1) ∙ h.2

pub known_some : (o : Option (Option ℕ)) (a : ℕ) → known o ≡ Some a → o ≡ Some (Some a)
known_some None a h = cc
known_some (Some x) a h = ap (λ (y : Option ℕ). Some y) h

known_at : (o : Option (Option ℕ)) (n : ℕ) → known o ≡ Some n → (a : Option ℕ) × (o ≡ Some a) × (a ≡ Some n)
known_at None n h = absurd (none-some n h)
known_at (Some a) n h = (a, refl, h)

pub has_arity : (d : MDescription) (op n : ℕ) → arity_at (map (λ t. t.arity) d.terminals) op ≡ Some n → HasArity d op n
has_arity d zero n h = absurd (none-some n h)
has_arity d (suc k) n h =
    let a = known_at (slice_get (map (λ (t : Terminal). t.arity) d.terminals) k) n h in
    let e = element_at (λ (t : Terminal). t.arity) d.terminals k a.0 a.1 in
    (e.0, e.1, e.2 ∙ a.2)

pub using : (p : MPattern) (op n : ℕ) → UsesWith p op n → Uses op p
using (PHole m) op n u = absurd u
using (PLeaf o) op n u = u.0
using (POne o p) op n u = elim u [ inl e ↦ inl e.0 | inr e ↦ inr (using p op n e) ]
using (PTwo o p q) op n u = elim u [ inl e ↦ inl e.0 | inr v ↦ (elim v [ inl e ↦ inr (inl (using p op n e)) | inr e ↦ inr (inr (using q op n e)) ]) ]

-- a leaf that is no terminal is a nonterminal
pub known_leaf : (ts ns : List (List ℕ)) (tree : NamedTree) (name : Bor (List ℕ)) → Leaf name ≡ tree → place_of ts name.now ≡ None → AreKnown ts ns (named_of tree) → Among name.now ns
known_leaf ts ns tree name e h k = let P : NamedTree → Type 0 = λ x. AreKnown ts ns (named_of x) in elim (subst P (sym e) k) [
  | inl a ↦ absurd (place_none ts name.now a.0 h a.1)
  | inr a ↦ a
]
