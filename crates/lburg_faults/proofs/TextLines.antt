-- The lines of a text, section by section.
use Rattle.std.proofs.Common.{◌≡◌, ℕ, zero, suc, List, [], ◌∷◌, ◌++◌, take, Option, Some, None, refl, sym, ap, subst, ◌∙◌}
use Rattle.std.specs.Prelude.{slice_get}
use Rattle.std.proofs.lemmas.Option.{none-some, same_Some}
use Rattle.lcc_text.specs.Lines.{lines_of}
use Rattle.lburg_lines.specs.declared.section.Section.{Section}
use Rattle.lburg_lines.specs.declared.section.Section.TheVariants.{Head, Prologue, Declarations, Rules, Tail}
use Rattle.lburg_lines.specs.declared.token.Border.{Border}
use Rattle.lburg_lines.specs.declared.token.Border.TheVariants.{Divider, PrologueStart, PrologueEnd}
use Rattle.lburg_lines.specs.Tokens.{Tok}
use Rattle.lburg_lines.specs.Sections.{SpellsIn, first_border, section_behind, behind_divider, TokenLine, AreLinesFrom}
use Rattle.lburg_faults.specs.Lines.{InDeclarations}
use Rattle.lburg_faults.specs.Terminals.{declared_by, declared_in, names_of}
use Rattle.lburg_faults.specs.Telling.{IsSettingOf}
use Rattle.lburg_faults.specs.FirstFault.{setting_of}

-- ---- a list of lines grows

pub no_more : (s : Section) → AreLinesFrom s [] []
no_more Head = refl
no_more Prologue = refl
no_more Declarations = refl
no_more Rules = refl
no_more Tail = refl

pub at_tail : (s : Section) (lines : List (List ℕ)) → s ≡ Tail → AreLinesFrom s lines []
at_tail s lines e = let P : Section → Type 0 = λ t. AreLinesFrom t lines [] in subst P (sym e) refl

abbrev with_line : Section → List Tok → List TokenLine → List TokenLine
with_line s tokens others = record { section = s; tokens = tokens } ∷ others

pub one_more : (s : Section) (bytes : List ℕ) (lines : List (List ℕ)) (tokens : List Tok) (others : List TokenLine) → (s ≡ Tail → ⊥) → SpellsIn s tokens bytes → AreLinesFrom (section_behind s tokens) lines others → AreLinesFrom s (bytes ∷ lines) (record { section = s; tokens = tokens } ∷ others)
one_more Head bytes lines tokens others h p q = (tokens, others, p, refl, q)
one_more Prologue bytes lines tokens others h p q = (tokens, others, p, refl, q)
one_more Declarations bytes lines tokens others h p q = (tokens, others, p, refl, q)
one_more Rules bytes lines tokens others h p q = (tokens, others, p, refl, q)
one_more Tail bytes lines tokens others h p q = absurd (h refl)

-- ---- what the lines before a rule declare

behind_quiet : (b : Option Border) (lines : List (List ℕ)) (others : List TokenLine) → ((all : List TokenLine) → AreLinesFrom Rules lines all → declared_in all ≡ []) → AreLinesFrom (behind_divider Rules Tail b) lines others → declared_in others ≡ []
behind_quiet None lines others f p = f others p
behind_quiet (Some Divider) lines others f p = ap declared_in p
behind_quiet (Some PrologueStart) lines others f p = f others p
behind_quiet (Some PrologueEnd) lines others f p = f others p

rules_quiet : (lines : List (List ℕ)) (all : List TokenLine) → AreLinesFrom Rules lines all → declared_in all ≡ []
rules_quiet [] all p = ap declared_in p
rules_quiet (bytes ∷ lines) all p = ap declared_in p.3 ∙ behind_quiet (first_border p.0) lines p.1 (λ x q. rules_quiet lines x q) p.4

-- where a text's first line isn't in its tail
abbrev FirstOf : Section → List ℕ → List (List ℕ) → List TokenLine → Type 0
FirstOf section bytes lines all =
    (tokens : List Tok) × (others : List TokenLine) × SpellsIn section tokens bytes × (all ≡ with_line section tokens others) × AreLinesFrom (section_behind section tokens) lines others

abbrev DeclaredBefore : List TokenLine → ℕ → Type 0
DeclaredBefore all i = declared_in all ≡ declared_in (take i all)

first_before : (s : Section) (bytes : List ℕ) (lines : List (List ℕ)) (all : List TokenLine) → FirstOf s bytes lines all → s ≡ Rules → declared_in all ≡ []
first_before s bytes lines all p e = let P : Section → Type 0 = λ t. FirstOf t bytes lines all in rules_quiet (bytes ∷ lines) all (subst P e p)

step : (s : Section) (bytes : List ℕ) (lines : List (List ℕ)) (all : List TokenLine) (i : ℕ) (l : TokenLine) → ((t : Section) (x : List TokenLine) (j : ℕ) → AreLinesFrom t lines x → slice_get x j ≡ Some l → DeclaredBefore x j) → FirstOf s bytes lines all → slice_get all i ≡ Some l → l.section ≡ Rules → DeclaredBefore all i
step s bytes lines all zero l f p g r =
    let h : with_line s p.0 p.1 ≡ all = sym p.3 in
    let Q : List TokenLine → Type 0 = λ x. slice_get x zero ≡ Some l in
    let e = same_Some (record { section = s; tokens = p.0 }) l (subst Q p.3 g) in
    first_before s bytes lines all p (ap (λ (x : TokenLine). x.section) e ∙ r)
step s bytes lines all (suc i) l f p g r =
    let Q : List TokenLine → Type 0 = λ x. slice_get x (suc i) ≡ Some l in
    let D : List TokenLine → Type 0 = λ x. DeclaredBefore x (suc i) in
    subst D (sym p.3) (ap (λ d. declared_by s p.0 ++ d) (f (section_behind s p.0) p.1 i p.4 (subst Q p.3 g)))

nowhere : (all : List TokenLine) (i : ℕ) (l : TokenLine) → all ≡ [] → slice_get all i ≡ Some l → DeclaredBefore all i
nowhere all i l e g = let Q : List TokenLine → Type 0 = λ x. slice_get x i ≡ Some l in absurd (none-some l (subst Q e g))

before_rule : (s : Section) (lines : List (List ℕ)) (all : List TokenLine) (i : ℕ) (l : TokenLine) → l.section ≡ Rules → AreLinesFrom s lines all → slice_get all i ≡ Some l → DeclaredBefore all i
before_rule Tail lines all i l r p g = nowhere all i l p g
before_rule Head [] all i l r p g = nowhere all i l p g
before_rule Prologue [] all i l r p g = nowhere all i l p g
before_rule Declarations [] all i l r p g = nowhere all i l p g
before_rule Rules [] all i l r p g = nowhere all i l p g
before_rule Head (bytes ∷ lines) all i l r p g = step Head bytes lines all i l (λ t x j q k. before_rule t lines x j l r q k) p g r
before_rule Prologue (bytes ∷ lines) all i l r p g = step Prologue bytes lines all i l (λ t x j q k. before_rule t lines x j l r q k) p g r
before_rule Declarations (bytes ∷ lines) all i l r p g = step Declarations bytes lines all i l (λ t x j q k. before_rule t lines x j l r q k) p g r
before_rule Rules (bytes ∷ lines) all i l r p g = step Rules bytes lines all i l (λ t x j q k. before_rule t lines x j l r q k) p g r

-- ---- behind a line of the rules all lines are of them

behind_rules : (b : Option Border) (lines : List (List ℕ)) (others : List TokenLine) (i : ℕ) (l : TokenLine) → ((all : List TokenLine) → AreLinesFrom Rules lines all → slice_get all i ≡ Some l → l.section ≡ Rules) → AreLinesFrom (behind_divider Rules Tail b) lines others → slice_get others i ≡ Some l → l.section ≡ Rules
behind_rules None lines others i l f p g = f others p g
behind_rules (Some Divider) lines others i l f p g = let Q : List TokenLine → Type 0 = λ x. slice_get x i ≡ Some l in absurd (none-some l (subst Q p g))
behind_rules (Some PrologueStart) lines others i l f p g = f others p g
behind_rules (Some PrologueEnd) lines others i l f p g = f others p g

all_rules : (lines : List (List ℕ)) (all : List TokenLine) (i : ℕ) (l : TokenLine) → AreLinesFrom Rules lines all → slice_get all i ≡ Some l → l.section ≡ Rules
all_rules [] all i l p g = let Q : List TokenLine → Type 0 = λ x. slice_get x i ≡ Some l in absurd (none-some l (subst Q p g))
all_rules (bytes ∷ lines) all zero l p g =
    let Q : List TokenLine → Type 0 = λ x. slice_get x zero ≡ Some l in
    sym (ap (λ (x : TokenLine). x.section) (same_Some (record { section = Rules; tokens = p.0 }) l (subst Q p.3 g)))
all_rules (bytes ∷ lines) all (suc i) l p g =
    let Q : List TokenLine → Type 0 = λ x. slice_get x (suc i) ≡ Some l in
    behind_rules (first_border p.0) lines p.1 i l (λ x q h. all_rules lines x i l q h) p.4 (subst Q p.3 g)

abbrev RulesBehind : List TokenLine → ℕ → ℕ → TokenLine → TokenLine → Type 0
RulesBehind all i j l k = slice_get all i ≡ Some l → slice_get (take i all) j ≡ Some k → k.section ≡ Rules → l.section ≡ Rules

step_rules : (s : Section) (bytes : List ℕ) (lines : List (List ℕ)) (all : List TokenLine) (i j : ℕ) (l k : TokenLine) → ((t : Section) (x : List TokenLine) (m n : ℕ) → AreLinesFrom t lines x → RulesBehind x m n l k) → FirstOf s bytes lines all → RulesBehind all i j l k
step_rules s bytes lines all zero j l k f p g h r = absurd (none-some k h)
step_rules s bytes lines all (suc i) zero l k f p g h r =
    let Q : List TokenLine → Type 0 = λ x. slice_get (take (suc i) x) zero ≡ Some k in
    let e = same_Some (record { section = s; tokens = p.0 }) k (subst Q p.3 h) in
    let P : Section → Type 0 = λ t. FirstOf t bytes lines all in
    all_rules (bytes ∷ lines) all (suc i) l (subst P (ap (λ (x : TokenLine). x.section) e ∙ r) p) g
step_rules s bytes lines all (suc i) (suc j) l k f p g h r =
    let Q : List TokenLine → Type 0 = λ x. slice_get x (suc i) ≡ Some l in
    let R : List TokenLine → Type 0 = λ x. slice_get (take (suc i) x) (suc j) ≡ Some k in
    f (section_behind s p.0) p.1 i j p.4 (subst Q p.3 g) (subst R p.3 h) r

no_line : (all : List TokenLine) (i j : ℕ) (l k : TokenLine) → all ≡ [] → RulesBehind all i j l k
no_line all i j l k e g h r = let Q : List TokenLine → Type 0 = λ x. slice_get x i ≡ Some l in absurd (none-some l (subst Q e g))

rules_behind : (s : Section) (lines : List (List ℕ)) (all : List TokenLine) (i j : ℕ) (l k : TokenLine) → AreLinesFrom s lines all → RulesBehind all i j l k
rules_behind Tail lines all i j l k p = no_line all i j l k p
rules_behind Head [] all i j l k p = no_line all i j l k p
rules_behind Prologue [] all i j l k p = no_line all i j l k p
rules_behind Declarations [] all i j l k p = no_line all i j l k p
rules_behind Rules [] all i j l k p = no_line all i j l k p
rules_behind Head (bytes ∷ lines) all i j l k p = step_rules Head bytes lines all i j l k (λ t x m n q. rules_behind t lines x m n l k q) p
rules_behind Prologue (bytes ∷ lines) all i j l k p = step_rules Prologue bytes lines all i j l k (λ t x m n q. rules_behind t lines x m n l k q) p
rules_behind Declarations (bytes ∷ lines) all i j l k p = step_rules Declarations bytes lines all i j l k (λ t x m n q. rules_behind t lines x m n l k q) p
rules_behind Rules (bytes ∷ lines) all i j l k p = step_rules Rules bytes lines all i j l k (λ t x m n q. rules_behind t lines x m n l k q) p

-- the setting of each line of a text
pub setting_is : (text : List ℕ) (all : List TokenLine) (i : ℕ) (l : TokenLine) → AreLinesFrom Head (lines_of text) all → slice_get all i ≡ Some l → IsSettingOf text (setting_of all (take i all)) l
setting_is text all i l p g = record {
  terminals = (all, p, refl);
  declared = λ r. ap names_of (before_rule Head (lines_of text) all i l r p g);
  early = λ d j k h r. subst InDeclarations (rules_behind Head (lines_of text) all i j l k p g h r) d;
}
