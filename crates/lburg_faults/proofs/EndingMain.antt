-- A line's first fault, or that it has none, from its end by the grammar and what names have before it.
use Rattle.std.proofs.Common.{◌≡◌, ◌≤◌, ◌<◌, ◌+◌, ℕ, true, length, take, refl, sym, ap, ◌∙◌, subst, arith, ◌⊎◌, inl, inr}
use Rattle.std.specs.declared.result.Result.{Result}
use Rattle.std.specs.declared.result.Result.TheVariants.{Ok, Err}
use Rattle.std.proofs.lemmas.Option.{slice_get_within}
use Rattle.std.proofs.lemmas.Bool.{cases_lt}
use Rattle.lcc_base.specs.declared.which.Which.{Which}
use Rattle.lcc_base.specs.declared.which.Which.TheVariants as which
use Rattle.lburg_lines.specs.declared.line.Line.{Line}
use Rattle.lburg_lines.specs.Tokens.{Word}
use Rattle.lburg_lines.specs.Grammar.{IsLine, line_of, AreLineOf}
use Rattle.lburg_lines.specs.Sections.{TokenLine}
use Rattle.lburg_faults.specs.declared.line_fault.LineFault.{LineFault}
use Rattle.lburg_faults.specs.declared.line_fault.LineFault.TheVariants as fault
use Rattle.lburg_faults.specs.declared.found.Found.{Found}
use Rattle.lburg_faults.specs.declared.ending.Ending.{Ending}
use Rattle.lburg_faults.specs.Lines.{has_template}
use Rattle.lburg_faults.specs.BadToken.{IsBadToken}
use Rattle.lburg_faults.specs.Limits.{IsPatternLimit}
use Rattle.lburg_faults.specs.Setting.{Setting}
use Rattle.lburg_faults.specs.LineFaults.{Stands, row_of, limit_row}
use Rattle.lburg_faults.specs.Knowing.{IsLineFault, IsFine}
use Rattle.lburg_faults.specs.Grammatical.{IsBegun, EndsAt, EndsAs, IsEnding}
use Rattle.lburg_faults.specs.Scans.{Rows, IsFirstOf, NoneOf}
use Rattle.lburg_faults.proofs.EndingLines.{foreign_behind, break_behind, whole_breaks_not}
use Rattle.lburg_faults.proofs.EndingParts.{ending_begun, Alone}
use Rattle.lburg_faults.proofs.EndingTables.{GrammarRows, Table}
use Rattle.lburg_faults.proofs.EndingFirst.{not_right}

-- ---- where faults of the grammar stand

-- the line ends with its pattern's node too many, here
abbrev TooMany : TokenLine → Ending → ℕ → LineFault → Type 0
TooMany l e q f = (e.bound ≡ q + 1) × (e.line ≡ Err (fault.Limit which.Pattern)) × (f ≡ fault.Limit which.Pattern) × IsPatternLimit l q

not_before : (b q : ℕ) → (q < b → ⊥) → b ≤ q
not_before b q h = elim (cases_lt q b) [
  | inl m ↦ absurd (h m)
  | inr m ↦ m
]

pub behind_end : (l : TokenLine) (e : Ending) (f : LineFault) (q : ℕ) → IsEnding l e → Alone l e → GrammarRows f l q → (e.bound ≤ q) ⊎ TooMany l e q f
behind_end l e fault.BadToken q is a h = inl (not_before e.bound q (λ k. foreign_behind l e.bound q (ending_begun l e is) h k))
behind_end l e fault.BadRule q is a h = inl (break_behind l e.bound q (ending_begun l e is) is.bound h.0)
behind_end l e fault.CostForm q is a h = inl (break_behind l e.bound q (ending_begun l e is) is.bound h.0)
behind_end l e fault.CostTooLarge q is a h = inl (let b = is.bound in let p = h.6 in omega arith)
behind_end l e (fault.Limit which.Pattern) q is a h = elim (cases_lt q e.bound) [
  | inl k ↦ (let r = a q k h in inr (r.0, r.1, refl, h))
  | inr k ↦ inl k
]
behind_end l e other q is a h = absurd h

-- ---- a fault that names have

pub found_first : (rows : Rows) (s : Setting) (l : TokenLine) (e : Ending) (f : Found) → Table rows s l → IsEnding l e → Alone l e → IsFirstOf rows s l e.bound f → IsLineFault s l f.place f.fault
found_first rows s l e f t is a x = record {
  stands = t.join f.fault f.place x.stands;
  least = λ other q st. elim (t.split other q st) [
    | inl g ↦ elim (behind_end l e other q is a g) [
      | inl k ↦ inl (let w = x.within in omega arith)
      | inr m ↦
          let w = x.within in
          let b = m.0 in
          not_right f.place (row_of f.fault) q (row_of other) (omega arith) (λ p. (
          let r = t.limited f.fault q (subst (λ (n : ℕ). rows f.fault s l n) p x.stands) m.3 in
          let z : row_of other ≡ 12 = ap row_of m.2 in
          omega arith))
    ]
    | inr r ↦ x.least other q r
  ];
}

-- ---- no fault at all

grammar_fine : (l : TokenLine) (e : Ending) (f : LineFault) (q : ℕ) (line : Line) → IsEnding l e → EndsAs l e.bound (Ok line) → Alone l e → e.line ≡ Ok line → GrammarRows f l q → ⊥
grammar_fine l e fault.BadToken q line is w a o h =
    let b = slice_get_within l.tokens q h.0 h.1 in
    let c = w.0 in
    foreign_behind l e.bound q (ending_begun l e is) h (omega arith)
grammar_fine l e fault.BadRule q line is w a o h = whole_breaks_not l q (line_of line, w.1) h.0
grammar_fine l e fault.CostForm q line is w a o h = whole_breaks_not l q (line_of line, w.1) h.0
grammar_fine l e fault.CostTooLarge q line is w a o h = w.2 q h
grammar_fine l e (fault.Limit which.Pattern) q line is w a o h =
    let b = slice_get_within l.tokens q (Word h.0) h.2 in
    let c = w.0 in
    let r = a q (omega arith) h in
    let k = sym o ∙ r.1 in
    cc
grammar_fine l e other q line is w a o h = h

pub whole_fine : (rows : Rows) (s : Setting) (l : TokenLine) (e : Ending) (line : Line) → Table rows s l → IsEnding l e → Alone l e → e.line ≡ Ok line → NoneOf rows s l e.bound → IsFine s l
whole_fine rows s l e line t is a o n =
    let w : EndsAs l e.bound (Ok line) = subst (λ (r : Result Line LineFault). EndsAs l e.bound r) o is.ends in
    λ f q st. elim (t.split f q st) [
      | inl g ↦ grammar_fine l e f q line is w a o g
      | inr r ↦ n f q (let b = t.within f q r in let c = w.0 in omega arith) r
    ]

pub whole_line : (l : TokenLine) (e : Ending) (line : Line) → IsEnding l e → e.line ≡ Ok line → (e.bound ≡ length l.tokens) × IsLine l.section l.tokens (line_of line)
whole_line l e line is o =
    let w : EndsAs l e.bound (Ok line) = subst (λ (r : Result Line LineFault). EndsAs l e.bound r) o is.ends in
    (w.0, w.1)

-- ---- the grammar's end is the first fault

limit_later : (w : Which) → 9 ≤ limit_row w
limit_later which.Terminals = omega arith
limit_later which.Nonterminals = omega arith
limit_later which.Rules = omega arith
limit_later which.Pattern = omega arith
limit_later which.Number = omega arith
limit_later other = omega arith

some_row : (f : LineFault) → 1 ≤ row_of f
some_row fault.BadToken = omega arith
some_row fault.BadRule = omega arith
some_row fault.UnknownTerminal = omega arith
some_row fault.DoubleTerminal = omega arith
some_row fault.ArityDiffers = omega arith
some_row fault.CostForm = omega arith
some_row fault.CostTooLarge = omega arith
some_row (fault.Limit w) = let h = limit_later w in omega arith

token_first : (s : Setting) (l : TokenLine) (q : ℕ) (f : LineFault) → (IsBadToken l q → ⊥) → Stands f s l q → 2 ≤ row_of f
token_first s l q fault.BadToken n h = absurd (n h)
token_first s l q fault.BadRule n h = omega arith
token_first s l q fault.UnknownTerminal n h = omega arith
token_first s l q fault.DoubleTerminal n h = omega arith
token_first s l q fault.ArityDiffers n h = omega arith
token_first s l q fault.CostForm n h = omega arith
token_first s l q fault.CostTooLarge n h = omega arith
token_first s l q (fault.Limit w) n h = let k = limit_later w in omega arith

-- behind a template
cost_first : (l : TokenLine) (q : ℕ) (f : LineFault) → (IsBadToken l q → ⊥) → has_template (take q l.tokens) ≡ true → GrammarRows f l q → 7 ≤ row_of f
cost_first l q fault.BadToken n t h = absurd (n h)
cost_first l q fault.BadRule n t h = absurd (let e = sym t ∙ h.1 in cc)
cost_first l q fault.CostForm n t h = omega arith
cost_first l q fault.CostTooLarge n t h = omega arith
cost_first l q (fault.Limit w) n t h = let k = limit_later w in omega arith
cost_first l q other n t h = absurd h

-- behind the whole line
large_first : (l : TokenLine) (q : ℕ) (f : LineFault) → AreLineOf l.section l.tokens → length l.tokens ≤ q → GrammarRows f l q → 8 ≤ row_of f
large_first l q fault.BadToken is k h = let b = slice_get_within l.tokens q h.0 h.1 in absurd (omega arith)
large_first l q fault.BadRule is k h = absurd (whole_breaks_not l q is h.0)
large_first l q fault.CostForm is k h = absurd (whole_breaks_not l q is h.0)
large_first l q fault.CostTooLarge is k h = omega arith
large_first l q (fault.Limit w) is k h = let m = limit_later w in omega arith
large_first l q other is k h = absurd h

-- each fault stands at the end or behind it, where no name has one before it and the end isn't a pattern's node too many
from_end : (rows : Rows) (s : Setting) (l : TokenLine) (e : Ending) (f : LineFault) (q : ℕ) → Table rows s l → IsEnding l e → Alone l e → (e.line ≡ Err (fault.Limit which.Pattern) → ⊥) → NoneOf rows s l e.bound → Stands f s l q → e.bound ≤ q
from_end rows s l e f q t is a x n st = elim (t.split f q st) [
  | inl g ↦ elim (behind_end l e f q is a g) [
    | inl k ↦ k
    | inr m ↦ absurd (x m.1)
  ]
  | inr r ↦ not_before e.bound q (λ k. n f q k r)
]

cost_tie : (rows : Rows) (s : Setting) (l : TokenLine) (q : ℕ) (f : LineFault) → Table rows s l → IsBegun l q → (IsBadToken l q → ⊥) → has_template (take q l.tokens) ≡ true → Stands f s l q → 7 ≤ row_of f
cost_tie rows s l q f t b n h st = elim (t.split f q st) [
  | inl g ↦ cost_first l q f n h g
  | inr r ↦ absurd (let e = sym h ∙ t.plain f q r b in cc)
]

large_tie : (rows : Rows) (s : Setting) (l : TokenLine) (q : ℕ) (f : LineFault) → Table rows s l → AreLineOf l.section l.tokens → length l.tokens ≤ q → Stands f s l q → 8 ≤ row_of f
large_tie rows s l q f t is k st = elim (t.split f q st) [
  | inl g ↦ large_first l q f is k g
  | inr r ↦ (let w = t.within f q r in absurd (omega arith))
]

ends_first : (rows : Rows) (s : Setting) (l : TokenLine) (e : Ending) (g : LineFault) → Table rows s l → IsEnding l e → Alone l e → e.line ≡ Err g → NoneOf rows s l e.bound → EndsAt l e.bound g → (place : ℕ) × IsLineFault s l place g
ends_first rows s l e fault.BadToken t is a o n h = (
  e.bound,
  record {
    stands = h.1;
    least = λ f q st. not_right e.bound 1 q (row_of f) (from_end rows s l e f q t is a (λ x. (let y = sym o ∙ x in cc)) n st) (λ p. some_row f);
  },
)
ends_first rows s l e fault.BadRule t is a o n h = (
  e.bound,
  record {
    stands = inl (h.0, h.2);
    least = λ f q st. not_right e.bound 2 q (row_of f) (from_end rows s l e f q t is a (λ x. (let y = sym o ∙ x in cc)) n st)
        (λ p. token_first s l e.bound f h.1 (subst (λ (i : ℕ). Stands f s l i) (sym p) st));
  },
)
ends_first rows s l e fault.CostForm t is a o n h = (
  e.bound,
  record {
    stands = (h.0, h.2);
    least = λ f q st. not_right e.bound 7 q (row_of f) (from_end rows s l e f q t is a (λ x. (let y = sym o ∙ x in cc)) n st)
        (λ p. cost_tie rows s l e.bound f t (ending_begun l e is) h.1 h.2 (subst (λ (i : ℕ). Stands f s l i) (sym p) st));
  },
)
ends_first rows s l e fault.CostTooLarge t is a o n h = (
  e.bound,
  record {
    stands = h.1;
    least = λ f q st. not_right e.bound 8 q (row_of f) (from_end rows s l e f q t is a (λ x. (let y = sym o ∙ x in cc)) n st)
        (λ p. large_tie rows s l e.bound f t h.0 (let b = h.1.6 in omega arith) (subst (λ (i : ℕ). Stands f s l i) (sym p) st));
  },
)
ends_first rows s l e (fault.Limit which.Pattern) t is a o n h = (
  h.0,
  record {
    stands = h.3;
    least = λ f q st. elim (t.split f q st) [
      | inl g ↦ elim (behind_end l e f q is a g) [
        | inl k ↦ inl (let b = h.1 in omega arith)
        | inr m ↦ (let b = h.1 in let c = m.0 in let z : row_of f ≡ 12 = ap row_of m.2 in inr (omega arith, omega arith))
      ]
      | inr r ↦ (let b = h.1 in let k = not_before e.bound q (λ k. n f q k r) in inl (omega arith))
    ];
  },
)
ends_first rows s l e other t is a o n h = absurd h

pub end_first : (rows : Rows) (s : Setting) (l : TokenLine) (e : Ending) (g : LineFault) → Table rows s l → IsEnding l e → Alone l e → e.line ≡ Err g → NoneOf rows s l e.bound → (place : ℕ) × IsLineFault s l place g
end_first rows s l e g t is a o n = ends_first rows s l e g t is a o n (subst (λ (r : Result Line LineFault). EndsAs l e.bound r) o is.ends)
