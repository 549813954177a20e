-- A text has one first fault at most.
use Rattle.std.proofs.Common.{◌≡◌, ◌<◌, ◌⊎◌, ℕ, ◌+◌, List, ◌∷◌, refl, sym, ap, ◌∙◌, subst, inl, inr}
use Rattle.lcc_text.specs.Lines.{lines_of}
use Rattle.lburg_lines.specs.declared.section.Section.TheVariants.{Head}
use Rattle.lburg_lines.specs.Tokens.{Word}
use Rattle.lburg_lines.specs.Sections.{TokenLine}
use Rattle.lburg_faults.specs.declared.line_fault.LineFault.{LineFault}
use Rattle.lburg_faults.specs.declared.line_fault.LineFault.TheVariants.{BadRule}
use Rattle.lburg_faults.specs.declared.desc_fault.DescFault.{DescFault}
use Rattle.lburg_faults.specs.declared.desc_fault.DescFault.TheVariants as desc
use Rattle.lburg_faults.specs.LineFaults.{row_of}
use Rattle.lburg_faults.specs.UnknownNonterminal.{IsUnruledStart}
use Rattle.lburg_faults.specs.FirstFault.{StandsIn, told, NoneStands, InLine, AtEnd, InPatterns, AtStart, IsUnruled, FirstFault}
use Rattle.lburg_grammar.proofs.FaultNone.{OneText}
use Rattle.lburg_grammar.proofs.ResolveNames.{compare, take_get}
use Rattle.lburg_grammar.proofs.ResolveWritten.{none_at}
use Rattle.lburg_grammar.proofs.LawsPlaces.{firsts_alike}
use Rattle.lburg_grammar.proofs.LawsRows.{is_told, same_kind}

-- ---- in a line

in_line : (lines : List TokenLine) (f g : DescFault) → InLine lines f → InLine lines g → f ≡ g
in_line lines f g a b =
    let e = firsts_alike (StandsIn lines) (StandsIn lines) a.0 b.0 (λ r s. s) (λ r s. s) a.2 b.2 in
    let s = b.2.stands in
    let known : row_of b.1 ≡ 14 → ⊥ = λ x. is_told s.fault _ s.here b.0.token s.stands (sym s.row_is ∙ b.3 ∙ x) in
    let kind = same_kind a.1 b.1 known (sym a.3 ∙ e.1 ∙ b.3) in
    a.4 ∙ ap (λ (k : LineFault). told k a.0.line) kind ∙ ap (told b.1) e.0 ∙ sym b.4

-- ---- behind lines without a fault

later : (i j : ℕ) → i ≡ j → desc.UnknownNonterminal (i + 1) ≡ desc.UnknownNonterminal (j + 1)
later i j e = ap (λ (n : ℕ). desc.UnknownNonterminal (n + 1)) e

in_patterns : (lines : List TokenLine) (f g : DescFault) → InPatterns lines f → InPatterns lines g → f ≡ g
in_patterns lines f g a b = elim (compare a.0 b.0) [
  | inl l ↦ absurd (b.4 a.0 a.1 l a.2 a.3)
  | inr r ↦ elim r [
    | inl e ↦ a.5 ∙ later a.0 b.0 e ∙ sym b.5
    | inr l ↦ absurd (a.4 b.0 b.1 l b.2 b.3)
  ]
]

-- a second start symbol would be a fault of its line
one_start : (lines : List TokenLine) (i j : ℕ) → NoneStands lines → i < j → IsUnruledStart lines i → IsUnruledStart lines j → ⊥
one_start lines i j none h a b =
    none_at lines none j b.0 0 BadRule b.3 (inr (inl (Word b.1 ∷ b.2, Word a.1 ∷ a.2, i, a.0, b.4, take_get lines i j h ∙ a.3, a.4, refl)))

at_start : (lines : List TokenLine) (f g : DescFault) → NoneStands lines → AtStart lines f → AtStart lines g → f ≡ g
at_start lines f g none a b = elim (compare a.0 b.0) [
  | inl l ↦ absurd (one_start lines a.0 b.0 none l a.2 b.2)
  | inr r ↦ elim r [
    | inl e ↦ a.3 ∙ later a.0 b.0 e ∙ sym b.3
    | inr l ↦ absurd (one_start lines b.0 a.0 none l b.2 a.2)
  ]
]

unruled : (lines : List TokenLine) (f g : DescFault) → NoneStands lines → InPatterns lines f ⊎ AtStart lines f → InPatterns lines g ⊎ AtStart lines g → f ≡ g
unruled lines f g none (inl a) (inl b) = in_patterns lines f g a b
unruled lines f g none (inl a) (inr b) = absurd (b.1 a.0 a.1 a.2 a.3)
unruled lines f g none (inr a) (inl b) = absurd (a.1 b.0 b.1 b.2 b.3)
unruled lines f g none (inr a) (inr b) = at_start lines f g none a b

-- ---- the text

-- the first fault is in a line, at the text's end, or a nonterminal without a rule
abbrev Kinds : List ℕ → List TokenLine → DescFault → Type 0
Kinds text lines f = InLine lines f ⊎ (AtEnd text lines f ⊎ IsUnruled lines f)

of_lines : (text : List ℕ) (lines : List TokenLine) (f g : DescFault) → Kinds text lines f → Kinds text lines g → f ≡ g
of_lines text lines f g (inl a) (inl b) = in_line lines f g a b
of_lines text lines f g (inl a) (inr (inl b)) = absurd (b.0 a.0 a.2.stands)
of_lines text lines f g (inl a) (inr (inr b)) = absurd (b.0 a.0 a.2.stands)
of_lines text lines f g (inr (inl a)) (inl b) = absurd (a.0 b.0 b.2.stands)
of_lines text lines f g (inr (inr a)) (inl b) = absurd (a.0 b.0 b.2.stands)
of_lines text lines f g (inr (inl a)) (inr (inl b)) = a.2 ∙ sym b.2
of_lines text lines f g (inr (inl a)) (inr (inr b)) = absurd (b.1 a.1)
of_lines text lines f g (inr (inr a)) (inr (inl b)) = absurd (a.1 b.1)
of_lines text lines f g (inr (inr a)) (inr (inr b)) = unruled lines f g a.0 a.2 b.2

pub one_first : (text : List ℕ) (f g : DescFault) → OneText → FirstFault text f → FirstFault text g → f ≡ g
one_first text f g one x y =
    let e = one Head (lines_of text) y.lines x.lines y.are x.are in
    of_lines text x.lines f g x.first (subst (λ (ls : List TokenLine). Kinds text ls g) e y.first)
