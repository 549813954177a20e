-- The names of a whole rule.
use Rattle.std.proofs.Common.{◌≡◌, ◌<◌, ◌≤◌, ℕ, ◌+◌, zero, suc, max, true, false, List, [], ◌∷◌, ◌++◌, length, take, Option, Some, None, refl, sym, ap, ◌∙◌, subst, arith}
use Rattle.std.specs.Prelude.{IfOk}
use Rattle.std.specs.declared.result.Result.{Result}
use Rattle.std.specs.declared.result.Result.TheVariants.{Ok, Err}
use Rattle.lcc_text.specs.Names.{bytes_of}
use Rattle.lburg_lines.specs.Tokens.{Tok}
use Rattle.lburg_lines.specs.Grammar.{AreLineOf}
use Rattle.lburg_lines.specs.Sections.{TokenLine}
use Rattle.lburg_faults.specs.declared.line_fault.LineFault.{LineFault}
use Rattle.lburg_faults.specs.declared.known.Known.{Known}
use Rattle.lburg_faults.specs.declared.found.Found.{Found}
use Rattle.lburg_faults.specs.Lines.{IsRules, has_template}
use Rattle.lburg_faults.specs.Terminals.{declared_in, names_of}
use Rattle.lburg_faults.specs.Setting.{Setting}
use Rattle.lburg_faults.specs.Grammatical.{IsBegun}
use Rattle.lburg_faults.specs.Knowing.{Knows, Mentions}
use Rattle.lburg_faults.specs.Scans.{IsFirstOf, NameRows, Scanned}
use Rattle.lburg_faults.specs.Naming.{NamedBefore}
use Rattle.lburg_faults.proofs.RuleNames.{FirstGives, AllGive, within, to_pattern, to_bound, none_scanned, mentions_of, at_start}

-- the end of the pattern of these tokens before the bound
pub record IsPatternEnd (tokens : List Tok) (bound end : ℕ) : Type 0 where
  pub within : end ≤ bound
  pub none : has_template (take end tokens) ≡ false
  pub behind : end < bound → has_template (take (end + 1) tokens) ≡ true

whole : (ts : List Tok) (n : ℕ) → n ≡ length ts → take n ts ++ [] ≡ ts
whole [] zero e = refl
whole [] (suc n) e = refl
whole (t ∷ ts) zero e = absurd (omega arith)
whole (t ∷ ts) (suc n) e = ap (λ (l : List Tok). t ∷ l) (whole ts n (omega arith))

pub whole_begun : (l : TokenLine) (bound : ℕ) → AreLineOf l.section l.tokens → bound ≡ length l.tokens → IsBegun l bound
whole_begun l bound a e = ([], subst (AreLineOf l.section) (sym (whole l.tokens bound e)) a)

-- the names of the terminals
pub same_terminals : (s : Setting) (k : Known) → Knows s.terminals s.before k → s.terminals ≡ names_of (declared_in s.before) → s.terminals ≡ bytes_of k.terminals
same_terminals s k w e = e ∙ sym w.names

-- a fault of the first token
pub first_scanned : (tokens : List Tok) (k : Known) (new : List (List ℕ)) (bound : ℕ) (f : LineFault) → 0 < bound → FirstGives tokens k new (Some f)
    → (s : Setting) (l : TokenLine) → Knows s.terminals s.before k → s.terminals ≡ names_of (declared_in s.before) → IsRules l → l.tokens ≡ tokens → IsBegun l bound → IsFirstOf NameRows s l bound (record { place = 0; fault = f })
first_scanned tokens k new bound f p g s l w e i ts b = within NameRows s l 1 bound (record { place = 0; fault = f }) p (g s l bound w (same_terminals s k w e) i ts p b)

-- what is noted before the pattern
before_pattern : (tokens : List Tok) (k : Known) (names : List (List ℕ)) (bound : ℕ) → 0 < bound → FirstGives tokens k names None → (s : Setting) (l : TokenLine) → Knows s.terminals s.before k → s.terminals ≡ names_of (declared_in s.before) → IsRules l → l.tokens ≡ tokens → IsBegun l bound → NamedBefore s l 2 names
before_pattern tokens k names bound p g s l w e i ts b = to_pattern s l names (g s l bound w (same_terminals s k w e) i ts p b) i

template_line : (tokens : List Tok) (l : TokenLine) (end : ℕ) → l.tokens ≡ tokens → has_template (take end tokens) ≡ false → has_template (take end l.tokens) ≡ false
template_line tokens l end e h = ap (λ (ts : List Tok). has_template (take end ts)) e ∙ h

pub rest_scanned : (tokens : List Tok) (k mid : Known) (new : List (List ℕ)) (bound end : ℕ) → 0 < bound → IsPatternEnd tokens bound end → FirstGives tokens k (bytes_of mid.nonterminals) None → mid.terminals ≡ k.terminals
    → (f : Option Found) → AllGive tokens end (bytes_of mid.terminals) (bytes_of mid.nonterminals) new f
    → (s : Setting) (l : TokenLine) → Knows s.terminals s.before k → s.terminals ≡ names_of (declared_in s.before) → IsRules l → l.tokens ≡ tokens → IsBegun l bound → Scanned NameRows s l bound f
rest_scanned tokens k mid new bound end p q g t None h s l w e i ts b =
    let n = h s l (same_terminals s k w e ∙ ap (λ (x : _). bytes_of x) (sym t)) i ts (template_line tokens l end ts q.none) (before_pattern tokens k (bytes_of mid.nonterminals) bound p g s l w e i ts b) in
    none_scanned s l bound (max 2 bound) new (to_bound s l end bound new n i q.within (λ x. ap (λ (y : List Tok). has_template (take (end + 1) y)) ts ∙ q.behind x)) (omega arith)
rest_scanned tokens k mid new bound end p q g t (Some found) h s l w e i ts b =
    within NameRows s l end bound found q.within (h s l (same_terminals s k w e ∙ ap (λ (x : _). bytes_of x) (sym t)) i ts (template_line tokens l end ts q.none) (before_pattern tokens k (bytes_of mid.nonterminals) bound p g s l w e i ts b))

-- what is known behind the line
abbrev pub RuleKnown : List Tok → ℕ → Known → Known → Option Found → Type 0
RuleKnown tokens bound k new f = f ≡ None → (s : Setting) (l : TokenLine) → Knows s.terminals s.before k → s.terminals ≡ names_of (declared_in s.before) → IsRules l → l.tokens ≡ tokens → AreLineOf l.section l.tokens → bound ≡ length l.tokens → Mentions s l k new

rest_known : (tokens : List Tok) (k mid new : Known) (bound end : ℕ) → 0 < bound → IsPatternEnd tokens bound end → FirstGives tokens k (bytes_of mid.nonterminals) None → mid.terminals ≡ k.terminals
    → new.terminals ≡ k.terminals → new.numbers ≡ k.numbers → new.arities ≡ k.arities → new.start ≡ k.start → new.rules ≡ k.rules
    → AllGive tokens end (bytes_of mid.terminals) (bytes_of mid.nonterminals) (bytes_of new.nonterminals) None → RuleKnown tokens bound k new None
rest_known tokens k mid new bound end p q g t a1 a2 a3 a4 a5 h none s l w e i ts a z =
    let b = whole_begun l bound a z in
    let n = h s l (same_terminals s k w e ∙ ap (λ (x : _). bytes_of x) (sym t)) i ts (template_line tokens l end ts q.none) (before_pattern tokens k (bytes_of mid.nonterminals) bound p g s l w e i ts b) in
    mentions_of s l (max 2 bound) k new (to_bound s l end bound (bytes_of new.nonterminals) n i q.within (λ x. ap (λ (y : List Tok). has_template (take (end + 1) y)) ts ∙ q.behind x)) i (omega arith) a1 a2 a3 a4 a5

pub all_known : {E : Type 0} (r : Result (Option Found) E) (tokens : List Tok) (k mid new : Known) (bound end : ℕ) → 0 < bound → IsPatternEnd tokens bound end → FirstGives tokens k (bytes_of mid.nonterminals) None
    → mid.terminals ≡ k.terminals → mid.numbers ≡ k.numbers → mid.arities ≡ k.arities → mid.start ≡ k.start → mid.rules ≡ k.rules
    → IfOk r (λ f. new.terminals ≡ mid.terminals) → IfOk r (λ f. new.numbers ≡ mid.numbers) → IfOk r (λ f. new.arities ≡ mid.arities) → IfOk r (λ f. new.start ≡ mid.start) → IfOk r (λ f. new.rules ≡ mid.rules)
    → IfOk r (AllGive tokens end (bytes_of mid.terminals) (bytes_of mid.nonterminals) (bytes_of new.nonterminals)) → IfOk r (RuleKnown tokens bound k new)
all_known (Ok None) tokens k mid new bound end p q g t1 t2 t3 t4 t5 u1 u2 u3 u4 u5 h = rest_known tokens k mid new bound end p q g t1 (u1 ∙ t1) (u2 ∙ t2) (u3 ∙ t3) (u4 ∙ t4) (u5 ∙ t5) h
all_known (Ok (Some found)) tokens k mid new bound end p q g t1 t2 t3 t4 t5 u1 u2 u3 u4 u5 h = λ e. absurd cc
all_known (Err e) tokens k mid new bound end p q g t1 t2 t3 t4 t5 u1 u2 u3 u4 u5 h = tt

-- a line without tokens
pub none_known : (tokens : List Tok) (k : Known) (bound : ℕ) → bound ≡ 0 → RuleKnown tokens bound k k None
none_known tokens k bound z none s l w e i ts a n = mentions_of s l 0 k k (at_start s l k w) i (omega arith) refl refl refl refl refl
