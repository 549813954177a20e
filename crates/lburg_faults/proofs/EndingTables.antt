-- Which faults may stand in a line of each section: by its grammar, or by what its names mean.
use Rattle.std.proofs.Common.{◌≡◌, ◌≤◌, ◌<◌, ℕ, false, List, [], ◌∷◌, length, take, ap, subst, arith, ◌⊎◌, inl, inr}
use Rattle.std.proofs.lemmas.Option.{slice_get_within}
use Rattle.std.proofs.lemmas.List.{length-drop}
use Rattle.lcc_base.specs.declared.which.Which.{Which}
use Rattle.lcc_base.specs.declared.which.Which.TheVariants as which
use Rattle.lburg_lines.specs.declared.section.Section.{Section}
use Rattle.lburg_lines.specs.declared.section.Section.TheVariants.{Prologue, Rules, Tail}
use Rattle.lburg_lines.specs.Tokens.{Tok, Word, Number}
use Rattle.lburg_lines.specs.Sections.{TokenLine}
use Rattle.lburg_faults.specs.declared.line_fault.LineFault.{LineFault}
use Rattle.lburg_faults.specs.declared.line_fault.LineFault.TheVariants as fault
use Rattle.lburg_faults.specs.Lines.{has_template, IsRules, InDeclarations, BeginsRule}
use Rattle.lburg_faults.specs.Mentions.{MentionsAt}
use Rattle.lburg_faults.specs.Breaks.{Breaks}
use Rattle.lburg_faults.specs.BadToken.{IsBadToken}
use Rattle.lburg_faults.specs.CostForm.{IsCostForm}
use Rattle.lburg_faults.specs.CostTooLarge.{IsCostTooLarge}
use Rattle.lburg_faults.specs.Limits.{IsPatternLimit}
use Rattle.lburg_faults.specs.Setting.{Setting}
use Rattle.lburg_faults.specs.LineFaults.{Stands, row_of}
use Rattle.lburg_faults.specs.Grammatical.{IsBegun}
use Rattle.lburg_faults.specs.Scans.{Rows, DeclarationRows, NameRows, UseRows}
use Rattle.lburg_faults.specs.LineEnds.{RuleRows, IsSilent}
use Rattle.lburg_faults.proofs.EndingLines.{plain_front}
use Rattle.lburg_faults.proofs.EndingUses.{declares_not, use_plain, use_within}

-- the faults that the tokens have by themselves
abbrev pub GrammarRows : LineFault → TokenLine → ℕ → Type 0
GrammarRows fault.BadToken l q = IsBadToken l q
GrammarRows fault.BadRule l q = Breaks l q × (has_template (take q l.tokens) ≡ false)
GrammarRows fault.CostForm l q = IsCostForm l q
GrammarRows fault.CostTooLarge l q = IsCostTooLarge l q
GrammarRows (fault.Limit which.Pattern) l q = IsPatternLimit l q
GrammarRows other l q = ⊥

-- these rows are the others of the line
pub record Table (rows : Rows) (s : Setting) (l : TokenLine) : Type 0 where
  pub split : (f : LineFault) (q : ℕ) → Stands f s l q → GrammarRows f l q ⊎ rows f s l q
  pub join : (f : LineFault) (q : ℕ) → rows f s l q → Stands f s l q
  pub within : (f : LineFault) (q : ℕ) → rows f s l q → q < length l.tokens
  pub plain : (f : LineFault) (q : ℕ) → rows f s l q → IsBegun l q → has_template (take q l.tokens) ≡ false
  pub limited : (f : LineFault) (q : ℕ) → rows f s l q → IsPatternLimit l q → row_of f ≤ 12

-- ---- lines without names

abbrev pub NoRows : Rows
NoRows f s l q = ⊥

abbrev IsQuiet : TokenLine → Type 0
IsQuiet l = (IsRules l → ⊥) × (InDeclarations l.section → ⊥)

quiet_limit : (s : Setting) (l : TokenLine) (q : ℕ) (w : Which) → IsQuiet l → Stands (fault.Limit w) s l q → GrammarRows (fault.Limit w) l q ⊎ NoRows (fault.Limit w) s l q
quiet_limit s l q which.Terminals n h = absurd (n.1 h.2.0)
quiet_limit s l q which.Nonterminals n h = elim h.here [
  | inl m ↦ absurd (n.1 m.1.0)
  | inr m ↦ elim m.0 [
    | inl r ↦ absurd (n.0 r.0)
    | inr p ↦ absurd (n.0 p.0)
  ]
]
quiet_limit s l q which.Rules n h = absurd (n.0 h.1.0)
quiet_limit s l q which.Pattern n h = inl h
quiet_limit s l q which.Number n h = absurd (n.1 h.2.0)
quiet_limit s l q other n h = absurd h

quiet_split : (s : Setting) (l : TokenLine) (f : LineFault) (q : ℕ) → IsQuiet l → Stands f s l q → GrammarRows f l q ⊎ NoRows f s l q
quiet_split s l fault.BadToken q n h = inl h
quiet_split s l fault.BadRule q n h = elim h [
  | inl b ↦ inl b
  | inr h ↦ elim h [
    | inl x ↦ absurd (n.1 x.4.0)
    | inr h ↦ elim h [
      | inl x ↦ absurd (n.1 x.2.0)
      | inr x ↦ absurd (n.0 x.2)
    ]
  ]
]
quiet_split s l fault.UnknownTerminal q n h = absurd (n.0 h.2.0)
quiet_split s l fault.DoubleTerminal q n h = absurd (n.1 h.1.0)
quiet_split s l fault.ArityDiffers q n h = (let u = h.5 in absurd (n.0 u.in_pattern.0))
quiet_split s l fault.CostForm q n h = inl h
quiet_split s l fault.CostTooLarge q n h = inl h
quiet_split s l (fault.Limit w) q n h = quiet_limit s l q w n h

silent_rules : (section : Section) → IsSilent section → section ≡ Rules → ⊥
silent_rules section h e = subst IsSilent e h

silent_declares : (section : Section) → IsSilent section → InDeclarations section → ⊥
silent_declares Prologue h k = k
silent_declares Tail h k = k
silent_declares section h k = h

pub silent_quiet : (l : TokenLine) → IsSilent l.section → IsQuiet l
silent_quiet l h = (silent_rules l.section h, silent_declares l.section h)

pub silent_table : (s : Setting) (l : TokenLine) → IsSilent l.section → Table NoRows s l
silent_table s l h = record {
  split = λ f q st. quiet_split s l f q (silent_quiet l h) st;
  join = λ f q r. absurd r;
  within = λ f q r. absurd r;
  plain = λ f q r b. absurd r;
  limited = λ f q r p. absurd r;
}

-- ---- lines of declarations

declaration_limit : (s : Setting) (l : TokenLine) (q : ℕ) (w : Which) → (IsRules l → ⊥) → Stands (fault.Limit w) s l q → GrammarRows (fault.Limit w) l q ⊎ DeclarationRows (fault.Limit w) s l q
declaration_limit s l q which.Terminals n h = inr h
declaration_limit s l q which.Nonterminals n h = inr h
declaration_limit s l q which.Rules n h = absurd (n h.1.0)
declaration_limit s l q which.Pattern n h = inl h
declaration_limit s l q which.Number n h = inr h
declaration_limit s l q other n h = absurd h

declaration_split : (s : Setting) (l : TokenLine) (f : LineFault) (q : ℕ) → (IsRules l → ⊥) → Stands f s l q → GrammarRows f l q ⊎ DeclarationRows f s l q
declaration_split s l fault.BadToken q n h = inl h
declaration_split s l fault.BadRule q n h = elim h [
  | inl b ↦ inl b
  | inr h ↦ elim h [
    | inl x ↦ inr (inl x)
    | inr h ↦ elim h [
      | inl x ↦ inr (inr x)
      | inr x ↦ absurd (n x.2)
    ]
  ]
]
declaration_split s l fault.UnknownTerminal q n h = absurd (n h.2.0)
declaration_split s l fault.DoubleTerminal q n h = inr h
declaration_split s l fault.ArityDiffers q n h = (let u = h.5 in absurd (n u.in_pattern.0))
declaration_split s l fault.CostForm q n h = inl h
declaration_split s l fault.CostTooLarge q n h = inl h
declaration_split s l (fault.Limit w) q n h = declaration_limit s l q w n h

declaration_join : (s : Setting) (l : TokenLine) (f : LineFault) (q : ℕ) → DeclarationRows f s l q → Stands f s l q
declaration_join s l fault.BadRule q (inl h) = inr (inl h)
declaration_join s l fault.BadRule q (inr h) = inr (inr (inl h))
declaration_join s l fault.DoubleTerminal q h = h
declaration_join s l (fault.Limit which.Terminals) q h = h
declaration_join s l (fault.Limit which.Nonterminals) q h = h
declaration_join s l (fault.Limit which.Number) q h = h
declaration_join s l other q h = absurd h

mention_within : (terminals : List (List ℕ)) (l : TokenLine) (q : ℕ) (name : List ℕ) → MentionsAt terminals l q name → q < length l.tokens
mention_within terminals l q name (inl h) = let e = ap length h.1.1 in let p = h.2 in omega arith
mention_within terminals l q name (inr h) = slice_get_within l.tokens q (Word name) h.1

double_within : (s : Setting) (l : TokenLine) (q : ℕ) → DeclarationRows fault.DoubleTerminal s l q → q < length l.tokens
double_within s l q h = elim h.2 [
  | inl x ↦ slice_get_within l.tokens q (Word x.0) x.1
  | inr x ↦ slice_get_within l.tokens q (Number x.0) x.1
]

declaration_within : (s : Setting) (l : TokenLine) (f : LineFault) (q : ℕ) → DeclarationRows f s l q → q < length l.tokens
declaration_within s l fault.BadRule q (inl h) = let e = ap length h.4.1 in let p = h.7 in omega arith
declaration_within s l fault.BadRule q (inr h) = let e = ap length h.2.1 in let p = h.4 in omega arith
declaration_within s l fault.DoubleTerminal q h = double_within s l q h
declaration_within s l (fault.Limit which.Terminals) q h = slice_get_within l.tokens q (Word h.1) h.3
declaration_within s l (fault.Limit which.Nonterminals) q h = mention_within s.terminals l q h.name h.here
declaration_within s l (fault.Limit which.Number) q h = slice_get_within l.tokens q (Number h.1) h.3
declaration_within s l other q h = absurd h

pub declaration_table : (s : Setting) (l : TokenLine) → InDeclarations l.section → Table DeclarationRows s l
declaration_table s l h = record {
  split = λ f q st. declaration_split s l f q (declares_not l.section h) st;
  join = declaration_join s l;
  within = declaration_within s l;
  plain = λ f q r b. plain_front l q b (declares_not l.section h);
  limited = λ f q r p. absurd (declares_not l.section h p.1.0);
}

-- ---- lines of rules

rule_limit : (s : Setting) (l : TokenLine) (q : ℕ) (w : Which) → (InDeclarations l.section → ⊥) → Stands (fault.Limit w) s l q → GrammarRows (fault.Limit w) l q ⊎ RuleRows (fault.Limit w) s l q
rule_limit s l q which.Terminals n h = absurd (n h.2.0)
rule_limit s l q which.Nonterminals n h = inr (inl h)
rule_limit s l q which.Rules n h = inr (inl h)
rule_limit s l q which.Pattern n h = inl h
rule_limit s l q which.Number n h = absurd (n h.2.0)
rule_limit s l q other n h = absurd h

rule_split : (s : Setting) (l : TokenLine) (f : LineFault) (q : ℕ) → (InDeclarations l.section → ⊥) → Stands f s l q → GrammarRows f l q ⊎ RuleRows f s l q
rule_split s l fault.BadToken q n h = inl h
rule_split s l fault.BadRule q n h = elim h [
  | inl b ↦ inl b
  | inr h ↦ elim h [
    | inl x ↦ absurd (n x.4.0)
    | inr h ↦ elim h [
      | inl x ↦ absurd (n x.2.0)
      | inr x ↦ inr (inl x)
    ]
  ]
]
rule_split s l fault.UnknownTerminal q n h = inr (inl h)
rule_split s l fault.DoubleTerminal q n h = absurd (n h.1.0)
rule_split s l fault.ArityDiffers q n h = inr (inr h)
rule_split s l fault.CostForm q n h = inl h
rule_split s l fault.CostTooLarge q n h = inl h
rule_split s l (fault.Limit w) q n h = rule_limit s l q w n h

name_join : (s : Setting) (l : TokenLine) (f : LineFault) (q : ℕ) → NameRows f s l q → Stands f s l q
name_join s l fault.BadRule q h = inr (inr (inr h))
name_join s l fault.UnknownTerminal q h = h
name_join s l (fault.Limit which.Nonterminals) q h = h
name_join s l (fault.Limit which.Rules) q h = h
name_join s l other q h = absurd h

use_join : (s : Setting) (l : TokenLine) (f : LineFault) (q : ℕ) → UseRows f s l q → Stands f s l q
use_join s l fault.ArityDiffers q h = h
use_join s l other q h = absurd h

rule_line_within : (ts : List Tok) → BeginsRule ts → 0 < length ts
rule_line_within [] h = absurd h
rule_line_within (t ∷ ts) h = omega arith

name_within : (s : Setting) (l : TokenLine) (f : LineFault) (q : ℕ) → NameRows f s l q → q < length l.tokens
name_within s l fault.BadRule q h = let e = ap length h.3 in let p = h.5 in omega arith
name_within s l fault.UnknownTerminal q h = let e = ap length h.3 in omega (arith, length-drop q l.tokens)
name_within s l (fault.Limit which.Nonterminals) q h = mention_within s.terminals l q h.name h.here
name_within s l (fault.Limit which.Rules) q h = let e = rule_line_within l.tokens h.1.1 in let p = h.4 in omega arith
name_within s l other q h = absurd h

use_row_within : (s : Setting) (l : TokenLine) (f : LineFault) (q : ℕ) → UseRows f s l q → q < length l.tokens
use_row_within s l fault.ArityDiffers q h = use_within l h.1 q h.0 h.2 h.5
use_row_within s l other q h = absurd h

plain_at_first : (l : TokenLine) (q : ℕ) → q ≡ 0 → has_template (take q l.tokens) ≡ false
plain_at_first l q h = ap (λ (n : ℕ). has_template (take n l.tokens)) h

mention_plain : (terminals : List (List ℕ)) (l : TokenLine) (q : ℕ) (name : List ℕ) → IsRules l → MentionsAt terminals l q name → has_template (take q l.tokens) ≡ false
mention_plain terminals l q name r (inl h) = absurd (declares_not l.section h.1.0 r)
mention_plain terminals l q name r (inr h) = elim h.0 [
  | inl x ↦ plain_at_first l q x.1
  | inr x ↦ x.2
]

name_plain : (s : Setting) (l : TokenLine) (f : LineFault) (q : ℕ) → IsRules l → NameRows f s l q → has_template (take q l.tokens) ≡ false
name_plain s l fault.BadRule q r h = plain_at_first l q h.5
name_plain s l fault.UnknownTerminal q r h = h.2.2
name_plain s l (fault.Limit which.Nonterminals) q r h = mention_plain s.terminals l q h.name r h.here
name_plain s l (fault.Limit which.Rules) q r h = plain_at_first l q h.4
name_plain s l other q r h = absurd h

use_row_plain : (s : Setting) (l : TokenLine) (f : LineFault) (q : ℕ) → UseRows f s l q → has_template (take q l.tokens) ≡ false
use_row_plain s l fault.ArityDiffers q h = use_plain l h.1 q h.0 h.2 h.5
use_row_plain s l other q h = absurd h

name_limited : (s : Setting) (l : TokenLine) (f : LineFault) (q : ℕ) → NameRows f s l q → row_of f ≤ 12
name_limited s l fault.BadRule q h = omega arith
name_limited s l fault.UnknownTerminal q h = omega arith
name_limited s l (fault.Limit which.Nonterminals) q h = omega arith
name_limited s l (fault.Limit which.Rules) q h = omega arith
name_limited s l other q h = absurd h

use_limited : (s : Setting) (l : TokenLine) (f : LineFault) (q : ℕ) → UseRows f s l q → row_of f ≤ 12
use_limited s l fault.ArityDiffers q h = omega arith
use_limited s l other q h = absurd h

pub rule_table : (s : Setting) (l : TokenLine) → IsRules l → Table RuleRows s l
rule_table s l h = record {
  split = λ f q st. rule_split s l f q (λ d. declares_not l.section d h) st;
  join = λ f q r. elim r [
    | inl x ↦ name_join s l f q x
    | inr x ↦ use_join s l f q x
  ];
  within = λ f q r. elim r [
    | inl x ↦ name_within s l f q x
    | inr x ↦ use_row_within s l f q x
  ];
  plain = λ f q r b. elim r [
    | inl x ↦ name_plain s l f q h x
    | inr x ↦ use_row_plain s l f q x
  ];
  limited = λ f q r p. elim r [
    | inl x ↦ name_limited s l f q x
    | inr x ↦ use_limited s l f q x
  ];
}
