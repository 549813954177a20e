-- What is told at the node of a tag or an enumeration, and what it makes known.
use Rattle.std.proofs.Common.{◌≡◌, ℕ, ◌<◌, List, [], ◌∷◌, ◌++◌, get_or, length, inl, inr, refl, sym, ap, ◌∙◌}
use Rattle.std.specs.Prelude.{true, false, pos, Option, Some, None}
use Rattle.std.proofs.lemmas.Bool.{cases_lt}
use Rattle.c_ast.specs.declared.specifier.RecordKind.{RecordKind}
use Rattle.c_symbols.specs.declared.symbol.Symbol.{Symbol}
use Rattle.c_symbols.specs.Scoping.{found, or_else, symbol_named}
use Rattle.c_types.specs.CType.{CType}
use Rattle.c_meaning.specs.Constraints.{Breaks}
use Rattle.c_meaning.specs.Nodes as node
use Rattle.c_meaning.specs.State.{Known, State, counted, declared, known_at, level_of, nothing_known, place_here, place_of, replaced}
use Rattle.c_meaning.specs.TypeConstraints.{is_enumeration, is_of_kind}
use Rattle.c_meaning.specs.TypeRows.{enumerated, enumeration_type, named, record_type, tag_key, tagged}
use Rattle.c_meaning.specs.Typing.{Bad, Fine, Outcome, at_tag}
use Rattle.c_check_expr.specs.Known.{all_known}
use Rattle.c_check_expr.specs.Listed.{is_listed}
use Rattle.c_check_expr.proofs.lemmas.KnownSymbols.{known_nowhere}
use Rattle.c_check_expr.proofs.TypeNodes.{node_breaks, node_fine}

-- a name that no scope has isn't in the innermost
first_none : (o p : Option ℕ) → or_else o p ≡ None → o ≡ None
first_none None p h = refl
first_none (Some i) p h = absurd (cc)

-- a name is looked for in the last scope first
found_append : (ss : List (List (List ℕ × ℕ))) (s : List (List ℕ × ℕ)) (name : List ℕ) → found (ss ++ s ∷ []) name ≡ or_else (symbol_named s name) (found ss name)
found_append [] s name = by (symbol_named s name)
  where
    by : (o : Option ℕ) → or_else None o ≡ or_else o None
    by None = refl
    by (Some i) = refl
found_append (t ∷ ss) s name = ap (λ o. or_else o (symbol_named t name)) (found_append ss s name) ∙ by (symbol_named s name)
  where
    by : (o : Option ℕ) → or_else (or_else o (found ss name)) (symbol_named t name) ≡ or_else o (or_else (found ss name) (symbol_named t name))
    by None = refl
    by (Some i) = refl

pub absent_here : (outer : List (List (List ℕ × ℕ))) (inner : List (List ℕ × ℕ)) (name : List ℕ) → found (outer ++ inner ∷ []) name ≡ None → symbol_named inner name ≡ None
absent_here outer inner name h = first_none (symbol_named inner name) (found outer name) (sym (found_append outer inner name) ∙ h)

-- a symbol of an enumeration was declared
pub enumeration_there : (ts : List CType) (ys : List Symbol) (id : ℕ) → is_enumeration (get_or (all_known ts ys) id nothing_known).of ≡ true → id < length ys
enumeration_there ts ys id h = elim (cases_lt id (length ys)) [
  | inl l ↦ l
  | inr l ↦ absurd (let e : is_enumeration nothing_known.of ≡ true = sym (ap (λ (k : Known). is_enumeration k.of) (known_nowhere ts ys id l)) ∙ h in cc)
]

-- ---- structures and unions

pub record_tag_new : (s n : State) (line : ℕ) (k : RecordKind) (tag : List ℕ) (of : CType) → place_of s (tag_key tag) ≡ None → n ≡ declared (counted s) (tag_key tag) (tagged line (level_of s) of None) → of ≡ record_type k s.count →
    at_tag s line (node.RecordTag k tag) (named s line tag (record_type k s.count)) ≡ Fine n (node.Whole of)
record_tag_new s n line k tag of h e o =
    let t = named s line tag (record_type k s.count) in
    node_fine s line (node.RecordTag k tag) t.state (node.Whole t.of) (rw h refl) refl ∙ rw (h, e, o) refl

pub record_tag_known : (s : State) (line : ℕ) (k : RecordKind) (tag : List ℕ) (id : ℕ) (of : CType) → place_of s (tag_key tag) ≡ Some id → of ≡ (known_at s id).of → is_of_kind k of ≡ true →
    at_tag s line (node.RecordTag k tag) (named s line tag (record_type k s.count)) ≡ Fine s (node.Whole of)
record_tag_known s line k tag id of h o i =
    let t = named s line tag (record_type k s.count) in
    node_fine s line (node.RecordTag k tag) t.state (node.Whole t.of) (rw (h, sym (ap (is_of_kind k) o) ∙ i) refl) refl ∙ rw (h, o) refl

pub record_tag_other : (s : State) (line : ℕ) (k : RecordKind) (tag : List ℕ) (id : ℕ) (of : CType) → place_of s (tag_key tag) ≡ Some id → of ≡ (known_at s id).of → is_of_kind k of ≡ false →
    at_tag s line (node.RecordTag k tag) (named s line tag (record_type k s.count)) ≡ Bad (Breaks 8 line)
record_tag_other s line k tag id of h o i =
    let t = named s line tag (record_type k s.count) in
    node_breaks s line (node.RecordTag k tag) t.state (node.Whole t.of) 8 (rw (h, sym (ap (is_of_kind k) o) ∙ i) refl)

-- ---- enumerations by their tags

pub enumeration_tag_new : (s n : State) (line : ℕ) (tag : List ℕ) (of : CType) → place_of s (tag_key tag) ≡ None → n ≡ declared (counted s) (tag_key tag) (tagged line (level_of s) of None) → of ≡ enumeration_type s.count →
    at_tag s line (node.EnumerationTag tag) (named s line tag (enumeration_type s.count)) ≡ Fine n (node.Whole of)
enumeration_tag_new s n line tag of h e o =
    let t = named s line tag (enumeration_type s.count) in
    node_fine s line (node.EnumerationTag tag) t.state (node.Whole t.of) (rw h refl) refl ∙ rw (h, e, o) refl

pub enumeration_tag_known : (s : State) (line : ℕ) (tag : List ℕ) (id : ℕ) (of : CType) → place_of s (tag_key tag) ≡ Some id → of ≡ (known_at s id).of → is_enumeration of ≡ true →
    at_tag s line (node.EnumerationTag tag) (named s line tag (enumeration_type s.count)) ≡ Fine s (node.Whole of)
enumeration_tag_known s line tag id of h o i =
    let t = named s line tag (enumeration_type s.count) in
    node_fine s line (node.EnumerationTag tag) t.state (node.Whole t.of) (rw (h, sym (ap is_enumeration o) ∙ i) refl) refl ∙ rw (h, o) refl

pub enumeration_tag_other : (s : State) (line : ℕ) (tag : List ℕ) (id : ℕ) (of : CType) → place_of s (tag_key tag) ≡ Some id → of ≡ (known_at s id).of → is_enumeration of ≡ false →
    at_tag s line (node.EnumerationTag tag) (named s line tag (enumeration_type s.count)) ≡ Bad (Breaks 8 line)
enumeration_tag_other s line tag id of h o i =
    let t = named s line tag (enumeration_type s.count) in
    node_breaks s line (node.EnumerationTag tag) t.state (node.Whole t.of) 8 (rw (h, sym (ap is_enumeration o) ∙ i) refl)

-- ---- enumerations with their lists

abbrev pub at_list : State → ℕ → Option (List ℕ) → Outcome node.Part
at_list s line tag = at_tag s line (node.Enumeration tag) (enumerated s line tag)

pub enumeration_bare : (s n : State) (line : ℕ) (tag : Option (List ℕ)) (of : CType) → tag ≡ None → n ≡ counted s → of ≡ enumeration_type s.count → at_list s line tag ≡ Fine n (node.Whole of)
enumeration_bare s n line tag of g e o =
    let t = enumerated s line None in
    ap (at_list s line) g ∙ node_fine s line (node.Enumeration None) t.state (node.Whole t.of) refl refl ∙ rw (e, o) refl

pub enumeration_new : (s n : State) (line : ℕ) (tag : Option (List ℕ)) (x : List ℕ) (of : CType) → tag ≡ Some x → place_here s (tag_key x) ≡ None → n ≡ declared (counted s) (tag_key x) (tagged line (level_of s) of (Some (pos 0))) → of ≡ enumeration_type s.count →
    at_list s line tag ≡ Fine n (node.Whole of)
enumeration_new s n line tag x of g h e o =
    let t = enumerated s line (Some x) in
    ap (at_list s line) g ∙ node_fine s line (node.Enumeration (Some x)) t.state (node.Whole t.of) (rw h refl) refl ∙ rw (h, e, o) refl

pub enumeration_known : (s n : State) (line : ℕ) (tag : Option (List ℕ)) (x : List ℕ) (id : ℕ) (of : CType) → tag ≡ Some x → place_here s (tag_key x) ≡ Some id → is_listed s id ≡ false →
    n ≡ replaced (counted s) id (tagged line (level_of s) of (Some (pos 0))) → of ≡ enumeration_type s.count → at_list s line tag ≡ Fine n (node.Whole of)
enumeration_known s n line tag x id of g h l e o =
    let t = enumerated s line (Some x) in
    ap (at_list s line) g ∙ node_fine s line (node.Enumeration (Some x)) t.state (node.Whole t.of) (rw (h, l) refl) refl ∙ rw (h, e, o) refl

pub enumeration_listed : (s : State) (line : ℕ) (tag : Option (List ℕ)) (x : List ℕ) (id : ℕ) → tag ≡ Some x → place_here s (tag_key x) ≡ Some id → is_listed s id ≡ true → at_list s line tag ≡ Bad (Breaks 8 line)
enumeration_listed s line tag x id g h l =
    let t = enumerated s line (Some x) in
    ap (at_list s line) g ∙ node_breaks s line (node.Enumeration (Some x)) t.state (node.Whole t.of) 8 (rw (h, l) refl)

-- the tag stands for the new one
pub tag_replaced : (a b n : State) (id line level lev : ℕ) (of : CType) → n ≡ replaced a id (tagged line level of (Some (pos 0))) → a ≡ b → level ≡ lev → n ≡ replaced b id (tagged line lev of (Some (pos 0)))
tag_replaced a b n id line level lev of e h l = rw (e, h, l) refl
