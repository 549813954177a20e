-- Lines of a section as tokens: each line has one reading at most, and where a reading stops.
use Rattle.std.proofs.Common.{◌≡◌, ℕ, List, [], ◌∷◌, length, Option, Some, None, refl, sym, ap, ◌∙◌, arith}
use Rattle.std.specs.Prelude.{◌≢◌}
use Rattle.lburg_lines.specs.declared.section.Section.{Section}
use Rattle.lburg_lines.specs.declared.section.Section.TheVariants.{Head, Prologue, Declarations, Rules}
use Rattle.lburg_lines.specs.declared.token.Border.{Border}
use Rattle.lburg_lines.specs.declared.token.Border.TheVariants.{Divider, PrologueStart, PrologueEnd}
use Rattle.lburg_lines.specs.declared.read_error.ReadError.{ReadError}
use Rattle.lburg_lines.specs.declared.read_error.ReadError.TheVariants.{Stuck}
use Rattle.lburg_lines.specs.Tokens.{Tok, Word, Keyword, Bound}
use Rattle.lburg_lines.specs.Grammar.{MDeclaration, Starts, Declares, declaration_tokens, MLine, Blank, Divides, Opens, Closes, Declared, Ruled, line_tokens, MayStand, IsLine, AreLineOf}
use Rattle.lcc_text.specs.Stops.{next}
use Rattle.lburg_lines.specs.Readings.{SpellsDeclaration, SpellsRule, DeclarationFault, RuleFault, LineFault}
use Rattle.lburg_lines.proofs.Places.{stuck_at, start_stops, end_stops, widen_fault}
use Rattle.lburg_lines.proofs.Rules.{same_rule}
use Rattle.lburg_lines.proofs.Declarations.{same_declaration}

-- ---- what a line begins with

-- kinds of lines: 0 blank, 1 to 3 a border, 4 a declaration, 5 a rule
abbrev kind_of : MLine → ℕ
kind_of Blank = 0
kind_of Divides = 1
kind_of Opens = 2
kind_of Closes = 3
kind_of (Declared d) = 4
kind_of (Ruled r) = 5

abbrev border_kind : Border → ℕ
border_kind Divider = 1
border_kind PrologueStart = 2
border_kind PrologueEnd = 3

abbrev first_kind : Option Tok → ℕ
first_kind None = 0
first_kind (Some (Bound b)) = border_kind b
first_kind (Some (Keyword b)) = 4
first_kind (Some (Word b)) = 5
first_kind (Some t) = 6

declaration_kind : (d : MDeclaration) → first_kind (next (declaration_tokens d)) ≡ 4
declaration_kind (Starts n) = refl
declaration_kind (Declares ts) = refl

kind_is : (line : MLine) → first_kind (next (line_tokens line)) ≡ kind_of line
kind_is Blank = refl
kind_is Divides = refl
kind_is Opens = refl
kind_is Closes = refl
kind_is (Declared d) = declaration_kind d
kind_is (Ruled r) = refl

-- ---- one reading

same_line : (a b : MLine) → line_tokens a ≡ line_tokens b → a ≡ b
same_line Blank Blank e = refl
same_line Divides Divides e = refl
same_line Opens Opens e = refl
same_line Closes Closes e = refl
same_line (Declared d) (Declared c) e = ap Declared (same_declaration d c e)
same_line (Ruled r) (Ruled x) e = ap Ruled (same_rule r x e)
same_line a b e = let k : kind_of a ≡ kind_of b = sym (kind_is a) ∙ ap (λ (l : List Tok). first_kind (next l)) e ∙ kind_is b in absurd (omega arith)

pub one_reading : (section : Section) (tokens : List Tok) (a b : MLine) → IsLine section tokens a → IsLine section tokens b → a ≡ b
one_reading section tokens a b p q = same_line a b (sym p.1 ∙ q.1)

-- ---- where a line stops

undeclared : (b : Border) (more : List Tok) (d : MDeclaration) → Bound b ∷ more ≡ declaration_tokens d → ⊥
undeclared b more (Starts n) e = cc
undeclared b more (Declares ts) e = cc

-- a border is a line of its own
alone : (b : Border) (more : List Tok) (line : MLine) → Bound b ∷ more ≡ line_tokens line → more ≡ []
alone b more Blank e = absurd cc
alone b more Divides e = cc
alone b more Opens e = cc
alone b more Closes e = cc
alone b more (Declared d) e = absurd (undeclared b more d e)
alone b more (Ruled r) e = absurd cc

pub border_fault : (section : Section) (b : Border) (own : MLine) (line rest : List Tok) (e : ReadError) → MayStand section own → Bound b ∷ [] ≡ line_tokens own → line ≡ Bound b ∷ rest → next rest ≢ None → e ≡ Stuck (length rest) → LineFault section e line
border_fault section b own line rest e m q p h f = rw p (stuck_at (AreLineOf section) (Bound b ∷ rest) rest e f (end_stops (AreLineOf section) (Bound b ∷ []) rest (own, (m, q)) (λ more is. alone b more is.0 is.1.1) h))

in_prologue : (line : List Tok) → next line ≢ None → next line ≢ Some (Bound PrologueEnd) → (ts : List Tok) (one : MLine) → MayStand Prologue one → ts ≡ line_tokens one → next ts ≡ next line → ⊥
in_prologue line h k ts Blank m e g = h (sym g ∙ ap next e)
in_prologue line h k ts Closes m e g = k (sym g ∙ ap next e)
in_prologue line h k ts one m e g = m

pub prologue_fault : (line : List Tok) (e : ReadError) → next line ≢ None → next line ≢ Some (Bound PrologueEnd) → e ≡ Stuck (length line) → LineFault Prologue e line
prologue_fault line e h k f = stuck_at (AreLineOf Prologue) line line e f (start_stops (AreLineOf Prologue) line [] (Blank, (tt, refl)) (λ ts is g. in_prologue line h k ts is.0 is.1.0 is.1.1 g))

only_declaration : (line : List Tok) → next line ≢ None → next line ≢ Some (Bound Divider) → (ts : List Tok) (one : MLine) → MayStand Declarations one → ts ≡ line_tokens one → next ts ≡ next line → SpellsDeclaration ts
only_declaration line h k ts Blank m e g = absurd (h (sym g ∙ ap next e))
only_declaration line h k ts Divides m e g = absurd (k (sym g ∙ ap next e))
only_declaration line h k ts (Declared d) m e g = (d, e)
only_declaration line h k ts one m e g = absurd m

pub declaration_fault : (line : List Tok) (e : ReadError) → next line ≢ None → next line ≢ Some (Bound Divider) → DeclarationFault e line → LineFault Declarations e line
declaration_fault line e h k f = widen_fault SpellsDeclaration (AreLineOf Declarations) line e (λ ts is. (Declared is.0, (tt, is.1))) (λ ts is g. only_declaration line h k ts is.0 is.1.0 is.1.1 g) f

only_rule : (line : List Tok) → next line ≢ None → next line ≢ Some (Bound Divider) → (ts : List Tok) (one : MLine) → MayStand Rules one → ts ≡ line_tokens one → next ts ≡ next line → SpellsRule ts
only_rule line h k ts Blank m e g = absurd (h (sym g ∙ ap next e))
only_rule line h k ts Divides m e g = absurd (k (sym g ∙ ap next e))
only_rule line h k ts (Ruled r) m e g = (r, m, e)
only_rule line h k ts one m e g = absurd m

pub rule_fault : (line : List Tok) (e : ReadError) → next line ≢ None → next line ≢ Some (Bound Divider) → RuleFault e line → LineFault Rules e line
rule_fault line e h k f = widen_fault SpellsRule (AreLineOf Rules) line e (λ ts is. (Ruled is.0, (is.1, is.2))) (λ ts is g. only_rule line h k ts is.0 is.1.0 is.1.1 g) f

-- at the head each line of declarations may stand
in_head : (one : MLine) → MayStand Declarations one → MayStand Head one
in_head Blank m = tt
in_head Divides m = tt
in_head (Declared d) m = tt
in_head one m = absurd m

-- and beside them only the prologue's start
of_head : (line : List Tok) → next line ≢ Some (Bound PrologueStart) → (ts : List Tok) (one : MLine) → MayStand Head one → ts ≡ line_tokens one → next ts ≡ next line → MayStand Declarations one
of_head line h ts Blank m e g = tt
of_head line h ts Divides m e g = tt
of_head line h ts Opens m e g = h (sym g ∙ ap next e)
of_head line h ts (Declared d) m e g = tt
of_head line h ts one m e g = absurd m

pub head_fault : (line : List Tok) (e : ReadError) → next line ≢ Some (Bound PrologueStart) → LineFault Declarations e line → LineFault Head e line
head_fault line e h f = widen_fault (AreLineOf Declarations) (AreLineOf Head) line e (λ ts is. (is.0, (in_head is.0 is.1.0, is.1.1))) (λ ts is g. (is.0, (of_head line h ts is.0 is.1.0 is.1.1 g, is.1.1))) f
