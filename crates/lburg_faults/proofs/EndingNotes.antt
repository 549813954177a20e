-- What a line gave: what it is, or its first fault.
use Rattle.std.proofs.Common.{◌≡◌, ◌<◌, [], ◌∷◌, ◌++◌, length, Option, Some, None, refl, sym, ap, subst, arith, inl, inr}
use Rattle.std.specs.declared.result.Result.{Result}
use Rattle.std.specs.declared.result.Result.TheVariants.{Ok, Err}
use Rattle.std.proofs.lemmas.Bool.{cases_lt}
use Rattle.lcc_base.specs.declared.which.Which.TheVariants as which
use Rattle.lburg_lines.specs.declared.line.Line.{Line}
use Rattle.lburg_lines.specs.Grammar.{MLine, MRule, Ruled, IsLine, line_of}
use Rattle.lburg_lines.specs.Sections.{TokenLine}
use Rattle.lburg_faults.specs.declared.line_fault.LineFault.{LineFault}
use Rattle.lburg_faults.specs.declared.line_fault.LineFault.TheVariants as fault
use Rattle.lburg_faults.specs.declared.line_check.LineError.{LineError}
use Rattle.lburg_faults.specs.declared.found.Found.{Found}
use Rattle.lburg_faults.specs.declared.known.Known.{Known}
use Rattle.lburg_faults.specs.declared.ending.Ending.{Ending}
use Rattle.lburg_faults.specs.Lines.{IsRules, InDeclarations}
use Rattle.lburg_faults.specs.Setting.{Setting}
use Rattle.lburg_faults.specs.Knowing.{Knows, Mentions, Uses, NotesLine, LineFails}
use Rattle.lburg_faults.specs.Grammatical.{IsEnding}
use Rattle.lburg_faults.specs.Scans.{Rows, Scanned, NoneOf, DeclarationRows}
use Rattle.lburg_faults.specs.LineEnds.{RuleRows, FailsBy, Counts, IsSilent}
use Rattle.lburg_faults.proofs.EndingParts.{Alone}
use Rattle.lburg_faults.proofs.EndingUses.{declares_not}
use Rattle.lburg_faults.proofs.EndingTables.{Table, NoRows, silent_quiet, silent_table, declaration_table, rule_table}
use Rattle.lburg_faults.proofs.EndingMain.{found_first, whole_fine, whole_line, end_first}
use Rattle.lburg_faults.proofs.EndingKnown.{known_silent, known_rule, is_rule}

alone_outside : (l : TokenLine) (e : Ending) → (IsRules l → ⊥) → Alone l e
alone_outside l e h = λ place k p. absurd (h p.1.0)

-- ---- faults

none_fails : (rows : Rows) (s : Setting) (l : TokenLine) (e : Ending) (err : LineError) (line : Result Line LineFault) → Table rows s l → IsEnding l e → Alone l e → NoneOf rows s l e.bound → e.line ≡ line → FailsBy None line err → LineFails s l err
none_fails rows s l e err (Ok line) t is a n o h = absurd h
none_fails rows s l e err (Err g) t is a n o h = subst (λ (x : LineError). LineFails s l x) (sym h) (end_first rows s l e g t is a o n)

fails : (rows : Rows) (s : Setting) (l : TokenLine) (e : Ending) (found : Option Found) (err : LineError) → Table rows s l → IsEnding l e → Alone l e → Scanned rows s l e.bound found → FailsBy found e.line err → LineFails s l err
fails rows s l e (Some f) err t is a x h = subst (λ (y : LineError). LineFails s l y) (sym h) (f.place, found_first rows s l e f t is a x)
fails rows s l e None err t is a n h = none_fails rows s l e err e.line t is a n refl h

-- ---- lines without names

pub silent_found : (s : Setting) (l : TokenLine) (e : Ending) (line : Line) (k : Known) → IsSilent l.section → IsEnding l e → e.line ≡ Ok line → Knows s.terminals s.before k → NotesLine s l k (line_of line)
silent_found s l e line k h is o x =
    ((whole_line l e line is o).1, whole_fine NoRows s l e line (silent_table s l h) is (alone_outside l e (silent_quiet l h).0) o (λ f q m r. r), known_silent s.terminals s.before l k h x)

pub silent_fails : (s : Setting) (l : TokenLine) (e : Ending) (err : LineError) → IsSilent l.section → IsEnding l e → FailsBy None e.line err → LineFails s l err
silent_fails s l e err h is f = fails NoRows s l e None err (silent_table s l h) is (alone_outside l e (silent_quiet l h).0) (λ g q m r. r) f

-- ---- lines of declarations

pub declaration_found : (s : Setting) (l : TokenLine) (e : Ending) (line : Line) (found : Option Found) (new : Known) → InDeclarations l.section → IsEnding l e → found ≡ None → e.line ≡ Ok line
    → Scanned DeclarationRows s l e.bound found → Knows s.terminals (s.before ++ l ∷ []) new → NotesLine s l new (line_of line)
declaration_found s l e line found new h is f o n x =
    ((whole_line l e line is o).1, whole_fine DeclarationRows s l e line (declaration_table s l h) is (alone_outside l e (declares_not l.section h)) o (subst (λ (y : Option Found). Scanned DeclarationRows s l e.bound y) f n), x)

pub declaration_fails : (s : Setting) (l : TokenLine) (e : Ending) (found : Option Found) (err : LineError) → InDeclarations l.section → IsEnding l e → Scanned DeclarationRows s l e.bound found → FailsBy found e.line err → LineFails s l err
declaration_fails s l e found err h is n f = fails DeclarationRows s l e found err (declaration_table s l h) is (alone_outside l e (declares_not l.section h)) n f

-- ---- lines of rules

few_rules : (s : Setting) (l : TokenLine) (e : Ending) (line : Line) (old : Known) (r : MRule) → IsRules l → IsEnding l e → e.line ≡ Ok line → NoneOf RuleRows s l e.bound → Knows s.terminals s.before old → line_of line ≡ Ruled r → old.rules < 4095
few_rules s l e line old r h is o n x f =
    let w = whole_line l e line is o in
    let a : IsLine l.section l.tokens (Ruled r) = subst (λ (y : MLine). IsLine l.section l.tokens y) f w.1 in
    let b = ap length a.1 in
    let c = w.0 in
    elim (cases_lt old.rules 4095) [
      | inl k ↦ k
      | inr k ↦ absurd (n (fault.Limit which.Rules) 0 (omega arith) (inl (old.rules, is_rule l r h a, x.rules, k, refl)))
    ]

pub rule_found : (s : Setting) (l : TokenLine) (e : Ending) (line : Line) (old mid used new : Known) → IsRules l → IsEnding l e → Alone l e → e.line ≡ Ok line
    → NoneOf RuleRows s l e.bound → Knows s.terminals s.before old → Mentions s l old mid → Uses s l mid used → Counts (line_of line) used new → NotesLine s l new (line_of line)
rule_found s l e line old mid used new h is a o n x m u c =
    let w = whole_line l e line is o in
    (w.1, whole_fine RuleRows s l e line (rule_table s l h) is a o n, known_rule s l (line_of line) old mid used new h w.1 (λ r f. few_rules s l e line old r h is o n x f) x m u c)

pub rule_fails : (s : Setting) (l : TokenLine) (e : Ending) (found : Option Found) (err : LineError) → IsRules l → IsEnding l e → Alone l e → Scanned RuleRows s l e.bound found → FailsBy found e.line err → LineFails s l err
rule_fails s l e found err h is a n f = fails RuleRows s l e found err (rule_table s l h) is a n f
