-- The faults of a line of terminals, by its tokens.
use Rattle.std.proofs.Common.{◌≡◌, ◌⊎◌, inl, inr, ℕ, zero, suc, List, [], ◌∷◌, take, Some, refl, sym, ap, ◌∙◌, length, arith}
use Rattle.std.specs.Prelude.{slice_get, codes}
use Rattle.std.proofs.lemmas.Option.{none-some, same_Some}
use Rattle.lcc_base.specs.declared.which.Which.{Which}
use Rattle.lcc_base.specs.declared.which.Which.TheVariants as which
use Rattle.lcc_text.specs.Decimal.{value_of}
use Rattle.lburg_lines.specs.declared.section.Section.{Section}
use Rattle.lburg_lines.specs.declared.section.Section.TheVariants.{Head, Prologue, Declarations, Rules, Tail}
use Rattle.lburg_lines.specs.declared.token.Sign.TheVariants.{Equals}
use Rattle.lburg_lines.specs.Tokens.{Tok, Word, Number, Keyword, Mark}
use Rattle.lburg_lines.specs.Grammar.{MLine, Blank, Divides, Opens, Closes, Declared, Ruled, Starts, Declares, MNumbered, terminal_tokens, line_tokens}
use Rattle.lburg_lines.specs.Sections.{TokenLine}
use Rattle.lburg_faults.specs.declared.line_fault.LineFault.{LineFault}
use Rattle.lburg_faults.specs.declared.line_fault.LineFault.TheVariants as fault
use Rattle.lburg_faults.specs.Lines.{InDeclarations, IsRules, Terms, StartLine}
use Rattle.lburg_faults.specs.Terminals.{numbered, names_of, numbers_of}
use Rattle.lburg_faults.specs.Setting.{Setting}
use Rattle.lburg_faults.specs.BadRule.{IsSecondStart, IsTerminalStart}
use Rattle.lburg_faults.specs.DoubleTerminal.{IsDoubleTerminal}
use Rattle.lburg_faults.specs.Limits.{IsTerminalLimit, IsNonterminalLimit, IsNumberLimit}
use Rattle.lburg_faults.specs.Scans.{DeclarationRows}
use Rattle.lburg_faults.specs.Declaring.{names_among, numbers_among}

-- ---- which rows there are

abbrev pub LimitRows : Setting → TokenLine → ℕ → LineFault → Type 0
LimitRows s l q f = ((f ≡ fault.Limit which.Terminals) × IsTerminalLimit s l q) ⊎ (((f ≡ fault.Limit which.Nonterminals) × IsNonterminalLimit s l q) ⊎ ((f ≡ fault.Limit which.Number) × IsNumberLimit l q))

abbrev pub AllRows : Setting → TokenLine → ℕ → LineFault → Type 0
AllRows s l q f = ((f ≡ fault.BadRule) × (IsSecondStart s l q ⊎ IsTerminalStart s l q)) ⊎ (((f ≡ fault.DoubleTerminal) × IsDoubleTerminal s l q) ⊎ LimitRows s l q f)

limit_rows : (w : Which) (s : Setting) (l : TokenLine) (q : ℕ) → DeclarationRows (fault.Limit w) s l q → LimitRows s l q (fault.Limit w)
limit_rows which.Input s l q h = absurd h
limit_rows which.Terminals s l q h = inl (refl, h)
limit_rows which.Nonterminals s l q h = inr (inl (refl, h))
limit_rows which.Rules s l q h = absurd h
limit_rows which.Pattern s l q h = absurd h
limit_rows which.Number s l q h = inr (inr (refl, h))
limit_rows which.Nodes s l q h = absurd h
limit_rows which.Height s l q h = absurd h
limit_rows which.Object s l q h = absurd h
limit_rows which.Depth s l q h = absurd h
limit_rows which.Parameters s l q h = absurd h
limit_rows which.Frame s l q h = absurd h
limit_rows which.Data s l q h = absurd h
limit_rows which.Code s l q h = absurd h
limit_rows which.Cost s l q h = absurd h
limit_rows which.States s l q h = absurd h
limit_rows which.Sets s l q h = absurd h

pub all_rows : (f : LineFault) (s : Setting) (l : TokenLine) (q : ℕ) → DeclarationRows f s l q → AllRows s l q f
all_rows fault.BadToken s l q h = absurd h
all_rows fault.BadRule s l q h = inl (refl, h)
all_rows fault.UnknownTerminal s l q h = absurd h
all_rows fault.DoubleTerminal s l q h = inr (inl (refl, h))
all_rows fault.ArityDiffers s l q h = absurd h
all_rows fault.CostForm s l q h = absurd h
all_rows fault.CostTooLarge s l q h = absurd h
all_rows (fault.Limit w) s l q h = inr (inr (limit_rows w s l q h))

-- ---- the two keywords

abbrev keyword_length : List Tok → ℕ
keyword_length (Keyword k ∷ ts) = length k
keyword_length ts = 0

pub start_or_term : (a b : List Tok) → Keyword (codes "start") ∷ a ≡ Keyword (codes "term") ∷ b → ⊥
start_or_term a b e = let h : 5 ≡ 4 = ap keyword_length e in omega (arith, h)

pub not_start : (l : TokenLine) (a b : List Tok) → l.tokens ≡ Keyword (codes "term") ∷ a → StartLine l b → ⊥
not_start l a b e h = start_or_term b a (sym h.1 ∙ e)

pub not_term : (l : TokenLine) (a b : List Tok) → l.tokens ≡ Keyword (codes "start") ∷ a → Terms l b → ⊥
not_term l a b e h = start_or_term a b (sym e ∙ h.1)

-- a line that may declare is none of the rules
pub not_rules : (l : TokenLine) → InDeclarations l.section → IsRules l → ⊥
not_rules l h r = aside l.section h r where
  aside : (section : Section) → InDeclarations section → section ≡ Rules → ⊥
  aside Head h e = absurd cc
  aside Declarations h e = absurd cc
  aside Prologue h e = h
  aside Rules h e = h
  aside Tail h e = h

-- ---- a line of terminals by the grammar

pub line_terms : (line : MLine) (rest : List Tok) → line_tokens line ≡ Keyword (codes "term") ∷ rest → (xs : List MNumbered) × (rest ≡ terminal_tokens xs)
line_terms Blank rest e = absurd cc
line_terms Divides rest e = absurd cc
line_terms Opens rest e = absurd cc
line_terms Closes rest e = absurd cc
line_terms (Declared (Starts name)) rest e = absurd (start_or_term (Word name ∷ []) rest e)
line_terms (Declared (Declares xs)) rest e = (xs, cc)
line_terms (Ruled r) rest e = absurd cc

pub line_start : (line : MLine) (rest : List Tok) → line_tokens line ≡ Keyword (codes "start") ∷ rest → (name : List ℕ) × (rest ≡ Word name ∷ [])
line_start Blank rest e = absurd cc
line_start Divides rest e = absurd cc
line_start Opens rest e = absurd cc
line_start Closes rest e = absurd cc
line_start (Declared (Starts name)) rest e = (name, cc)
line_start (Declared (Declares xs)) rest e = absurd (start_or_term rest (terminal_tokens xs) (sym e))
line_start (Ruled r) rest e = absurd cc

pub whole_terms : (xs : List MNumbered) → numbered (terminal_tokens xs) ≡ xs
whole_terms [] = refl
whole_terms (x ∷ xs) = ap (λ (ys : List MNumbered). x ∷ ys) (whole_terms xs)

pub names_whole : (xs : List MNumbered) → names_among (terminal_tokens xs) ≡ names_of xs
names_whole [] = refl
names_whole (x ∷ xs) = ap (λ (ys : List (List ℕ)). x.0 ∷ ys) (names_whole xs)

pub numbers_whole : (xs : List MNumbered) → numbers_among (terminal_tokens xs) ≡ numbers_of xs
numbers_whole [] = refl
numbers_whole (x ∷ xs) = ap (λ (ys : List ℕ). value_of x.1 ∷ ys) (numbers_whole xs)

-- where a name stands, whole terminals stand before
pub names_front : (xs : List MNumbered) (q : ℕ) (name : List ℕ) → slice_get (terminal_tokens xs) q ≡ Some (Word name) → names_of (numbered (take q (terminal_tokens xs))) ≡ names_among (take q (terminal_tokens xs))
names_front [] q name h = absurd (none-some (Word name) h)
names_front (x ∷ xs) zero name h = refl
names_front (x ∷ xs) (suc zero) name h = absurd (let e : Mark Equals ≡ Word name = same_Some (Mark Equals) (Word name) h in cc)
names_front (x ∷ xs) (suc (suc zero)) name h = absurd (let e : Number x.1 ≡ Word name = same_Some (Number x.1) (Word name) h in cc)
names_front (x ∷ xs) (suc (suc (suc q))) name h = ap (λ (ys : List (List ℕ)). x.0 ∷ ys) (names_front xs q name h)

-- where a number stands, whole terminals stand before, and then a name and a sign
pub numbers_front : (xs : List MNumbered) (q : ℕ) (digits : List ℕ) → slice_get (terminal_tokens xs) q ≡ Some (Number digits) → numbers_of (numbered (take q (terminal_tokens xs))) ≡ numbers_among (take q (terminal_tokens xs))
numbers_front [] q digits h = absurd (none-some (Number digits) h)
numbers_front (x ∷ xs) zero digits h = refl
numbers_front (x ∷ xs) (suc zero) digits h = refl
numbers_front (x ∷ xs) (suc (suc zero)) digits h = refl
numbers_front (x ∷ xs) (suc (suc (suc q))) digits h = ap (λ (ys : List ℕ). value_of x.1 ∷ ys) (numbers_front xs q digits h)
