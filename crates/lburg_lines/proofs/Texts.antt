-- A text's lines have one list of tokens each.
use Rattle.std.proofs.Common.{◌≡◌, ℕ, List, [], ◌∷◌, Option, Some, None, drop, sym, ap, subst, ◌∙◌}
use Rattle.lburg_lines.specs.declared.section.Section.{Section}
use Rattle.lburg_lines.specs.declared.section.Section.TheVariants.{Head, Prologue, Declarations, Rules, Tail}
use Rattle.lburg_lines.specs.declared.token.Border.{Border}
use Rattle.lburg_lines.specs.declared.token.Border.TheVariants.{Divider, PrologueStart, PrologueEnd}
use Rattle.lburg_lines.specs.Tokens.{Tok, Bound}
use Rattle.lburg_lines.specs.Sections.{border_at, spells_behind, spells_head, spells_prologue, SpellsIn, section_behind, TokenLine, AreLinesFrom}
use Rattle.lburg_lines.proofs.Once.{once}

one_behind : (border : Option Border) (ts us : List Tok) (bytes : List ℕ) → spells_behind border ts bytes → spells_behind border us bytes → ts ≡ us
one_behind None ts us bytes p q = once ts us bytes p q
one_behind (Some b) ts us bytes p q = p.1 ∙ ap (λ (l : List Tok). Bound b ∷ l) (once p.0 q.0 (drop 2 bytes) p.2 q.2) ∙ sym q.1

one_head : (border : Option Border) (ts us : List Tok) (bytes : List ℕ) → spells_head border ts bytes → spells_head border us bytes → ts ≡ us
one_head None ts us bytes p q = one_behind None ts us bytes p q
one_head (Some PrologueStart) ts us bytes p q = p ∙ sym q
one_head (Some Divider) ts us bytes p q = one_behind (Some Divider) ts us bytes p q
one_head (Some PrologueEnd) ts us bytes p q = one_behind (Some PrologueEnd) ts us bytes p q

one_prologue : (border : Option Border) (ts us : List Tok) (bytes : List ℕ) → spells_prologue border ts bytes → spells_prologue border us bytes → ts ≡ us
one_prologue None ts us bytes p q = p ∙ sym q
one_prologue (Some PrologueEnd) ts us bytes p q = one_behind (Some PrologueEnd) ts us bytes p q
one_prologue (Some Divider) ts us bytes p q = p ∙ sym q
one_prologue (Some PrologueStart) ts us bytes p q = p ∙ sym q

-- bytes spell no two lists of tokens in a section
pub one_in : (section : Section) (ts us : List Tok) (bytes : List ℕ) → SpellsIn section ts bytes → SpellsIn section us bytes → ts ≡ us
one_in Head ts us bytes p q = one_head (border_at bytes) ts us bytes p q
one_in Prologue ts us bytes p q = one_prologue (border_at bytes) ts us bytes p q
one_in Declarations ts us bytes p q = one_behind (border_at bytes) ts us bytes p q
one_in Rules ts us bytes p q = one_behind (border_at bytes) ts us bytes p q
one_in Tail ts us bytes p q = one_behind (border_at bytes) ts us bytes p q

abbrev more : Section → List Tok → List TokenLine → List TokenLine
more section tokens others = record { section = section; tokens = tokens } ∷ others

-- where a text's first line isn't in its tail
abbrev FirstOf : Section → List ℕ → List (List ℕ) → List TokenLine → Type 0
FirstOf section bytes lines all =
    (tokens : List Tok) × (others : List TokenLine) × SpellsIn section tokens bytes × (all ≡ more section tokens others) × AreLinesFrom (section_behind section tokens) lines others

one_more : (section : Section) (bytes : List ℕ) (lines : List (List ℕ)) (a b : List TokenLine) → ((s : Section) (x y : List TokenLine) → AreLinesFrom s lines x → AreLinesFrom s lines y → x ≡ y) → FirstOf section bytes lines a → FirstOf section bytes lines b → a ≡ b
one_more section bytes lines a b h p q =
    let e = one_in section p.0 q.0 bytes p.2 q.2 in
    let P : List Tok → Type 0 = λ ts. AreLinesFrom (section_behind section ts) lines p.1 in
    let f = h (section_behind section q.0) p.1 q.1 (subst P e p.4) q.4 in
    p.3 ∙ ap (λ (ts : List Tok). more section ts p.1) e ∙ ap (more section q.0) f ∙ sym q.3

-- a text has one list of lines
pub same_lines : (section : Section) (lines : List (List ℕ)) (a b : List TokenLine) → AreLinesFrom section lines a → AreLinesFrom section lines b → a ≡ b
same_lines Tail lines a b p q = p ∙ sym q
same_lines Head [] a b p q = p ∙ sym q
same_lines Prologue [] a b p q = p ∙ sym q
same_lines Declarations [] a b p q = p ∙ sym q
same_lines Rules [] a b p q = p ∙ sym q
same_lines Head (bytes ∷ lines) a b p q = one_more Head bytes lines a b (λ s x y. same_lines s lines x y) p q
same_lines Prologue (bytes ∷ lines) a b p q = one_more Prologue bytes lines a b (λ s x y. same_lines s lines x y) p q
same_lines Declarations (bytes ∷ lines) a b p q = one_more Declarations bytes lines a b (λ s x y. same_lines s lines x y) p q
same_lines Rules (bytes ∷ lines) a b p q = one_more Rules bytes lines a b (λ s x y. same_lines s lines x y) p q
