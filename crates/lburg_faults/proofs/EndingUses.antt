-- Where the use of a name ends, and which faults may stand there.
use Rattle.std.proofs.Common.{◌≡◌, ◌≤◌, ◌<◌, ◌+◌, ℕ, false, List, [], ◌∷◌, ◌++◌, length, take, Some, sym, ap, ◌∙◌, subst, arith, append_assoc, inl, inr}
use Rattle.std.specs.Prelude.{slice_get}
use Rattle.std.proofs.lemmas.List.{take-append-drop, length-take-le, length-append, length-drop, take-take, take_at}
use Rattle.lcc_base.specs.declared.which.Which.TheVariants as which
use Rattle.lburg_lines.specs.declared.section.Section.{Section}
use Rattle.lburg_lines.specs.declared.section.Section.TheVariants.{Rules}
use Rattle.lburg_lines.specs.Tokens.{Tok, Word}
use Rattle.lburg_lines.specs.NamedTree.{MNamed}
use Rattle.lburg_lines.specs.Sections.{TokenLine}
use Rattle.lburg_faults.specs.declared.line_fault.LineFault.{LineFault}
use Rattle.lburg_faults.specs.declared.line_fault.LineFault.TheVariants as fault
use Rattle.lburg_faults.specs.Lines.{has_template, IsRules, InDeclarations}
use Rattle.lburg_faults.specs.Terminals.{Among}
use Rattle.lburg_faults.specs.Uses.{IsUse, root_of}
use Rattle.lburg_faults.specs.Setting.{Setting}
use Rattle.lburg_faults.specs.LineFaults.{row_of}
use Rattle.lburg_faults.specs.Scans.{NameRows, UseRows}
use Rattle.lburg_faults.proofs.EndingTokens.{get_last, get_append, template_append, template_take, tree_tokens, tree_parts, tree_plain, tree_last}

-- ---- sections

pub declares_not : (section : Section) → InDeclarations section → section ≡ Rules → ⊥
declares_not section h e = subst InDeclarations e h

-- ---- the tokens of a use

-- the tokens before the tree, and its own
abbrev front_of : (l : TokenLine) (at : ℕ) (t : MNamed) → List Tok
front_of l at t = take at l.tokens ++ tree_tokens t

use_parts : (l : TokenLine) (at last : ℕ) (name : List ℕ) (n : ℕ) (u : IsUse l at last name n) → l.tokens ≡ front_of l at u.tree ++ u.rest
use_parts l at last name n u =
    sym (take-append-drop at l.tokens) ∙ ap (λ (x : List Tok). take at l.tokens ++ x) (u.tokens ∙ tree_parts u.tree u.rest) ∙ sym (append_assoc (take at l.tokens) (tree_tokens u.tree) u.rest)

use_length : (l : TokenLine) (at last : ℕ) (name : List ℕ) (n : ℕ) (u : IsUse l at last name n) → length (front_of l at u.tree) ≡ last + 1
use_length l at last name n u =
    let e = ap length (use_parts l at last name n u) in
    let f = u.last_is in
    omega (arith, length-append (front_of l at u.tree) u.rest)

-- no template stands before the end of a use
pub use_plain : (l : TokenLine) (at last : ℕ) (name : List ℕ) (n : ℕ) → IsUse l at last name n → has_template (take last l.tokens) ≡ false
use_plain l at last name n u =
    let all : has_template (front_of l at u.tree) ≡ false = template_append (take at l.tokens) (tree_tokens u.tree) u.in_pattern.2 ∙ tree_plain u.tree in
    let e : take (last + 1) l.tokens ≡ front_of l at u.tree = ap (take (last + 1)) (use_parts l at last name n u) ∙ take_at (front_of l at u.tree) u.rest (last + 1) (use_length l at last name n u) in
    ap has_template (sym (take-take last (last + 1) l.tokens (omega arith))) ∙ ap (λ (x : List Tok). has_template (take last x)) e ∙ template_take (front_of l at u.tree) last all

pub use_within : (l : TokenLine) (at last : ℕ) (name : List ℕ) (n : ℕ) → IsUse l at last name n → last < length l.tokens
use_within l at last name n u = let e = u.last_is in omega arith

use_at : (l : TokenLine) (at last : ℕ) (name : List ℕ) (n : ℕ) (u : IsUse l at last name n) → length (take at l.tokens) ≡ at
use_at l at last name n u =
    let e = ap length (u.tokens ∙ tree_parts u.tree u.rest) in
    let p = tree_last u.tree in
    let q = ap length p.2 in
    length-take-le at l.tokens (omega (arith, length-drop at l.tokens, length-append (tree_tokens u.tree) u.rest, length-append p.0 (p.1 ∷ [])))

-- a use ends behind the place where it begins, or there
pub use_end : (l : TokenLine) (at last : ℕ) (name : List ℕ) (n : ℕ) → IsUse l at last name n → at ≤ last
use_end l at last name n u =
    let p = tree_last u.tree in
    let q = ap length p.2 in
    let e = use_length l at last name n u in
    omega (arith, use_at l at last name n u, length-append (take at l.tokens) (tree_tokens u.tree), length-append p.0 (p.1 ∷ []))

-- where a name is the last token of a use, it is the use's
pub use_name : (l : TokenLine) (at last : ℕ) (name : List ℕ) (n : ℕ) (word : List ℕ) → IsUse l at last name n → slice_get l.tokens last ≡ Some (Word word) → name ≡ word
use_name l at last name n word u h =
    let p = tree_last u.tree in
    let whole : l.tokens ≡ ((take at l.tokens ++ p.0) ++ p.1 ∷ []) ++ u.rest =
    use_parts l at last name n u ∙ ap (λ (x : List Tok). x ++ u.rest) (ap (λ (x : List Tok). take at l.tokens ++ x) p.2 ∙ sym (append_assoc (take at l.tokens) p.0 (p.1 ∷ []))) in
    let q = ap length p.2 in
    let e = use_length l at last name n u in
    let place : last ≡ length (take at l.tokens ++ p.0) = omega (arith, length-append (take at l.tokens) (tree_tokens u.tree), length-append p.0 (p.1 ∷ []), length-append (take at l.tokens) p.0) in
    let there : slice_get l.tokens last ≡ Some p.1 = ap (λ (x : List Tok). slice_get x last) whole ∙ get_append ((take at l.tokens ++ p.0) ++ p.1 ∷ []) u.rest last p.1 (get_last (take at l.tokens ++ p.0) p.1 last place) in
    let same : p.1 ≡ Word word = (let f = sym there ∙ h in cc) in
    sym u.name_is ∙ ap root_of (p.3 word same).1

-- ---- faults at the end of a use

-- at one token of a rule a fault of its names goes before one of their operands
pub name_first : (s : Setting) (l : TokenLine) (q : ℕ) (f g : LineFault) → IsRules l → NameRows f s l q → UseRows g s l q → row_of f ≤ row_of g
name_first s l q fault.BadRule fault.ArityDiffers r a b = omega arith
name_first s l q fault.UnknownTerminal fault.ArityDiffers r a b = omega arith
name_first s l q (fault.Limit which.Nonterminals) fault.ArityDiffers r a b =
    let u = b.5 in
    let known = b.4 in
    elim a.here [
      | inl m ↦ absurd (declares_not l.section m.1.0 r)
      | inr m ↦ absurd (m.2 (subst (λ (x : List ℕ). Among x s.terminals) (use_name l b.1 q b.0 b.2 a.name u m.1) known))
    ]
name_first s l q (fault.Limit which.Rules) fault.ArityDiffers r a b =
    let u = b.5 in
    let e = use_end l b.1 q b.0 b.2 u in
    let p = u.in_pattern.1 in
    let z = a.4 in
    absurd (omega arith)
name_first s l q f fault.ArityDiffers r a b = absurd a
name_first s l q f g r a b = absurd b
