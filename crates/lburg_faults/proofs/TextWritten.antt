-- The lines of a text as they are written.
use Rattle.std.proofs.Common.{◌≡◌, ℕ, ◌+◌, ◌<◌, ◌≤◌, zero, suc, List, [], ◌∷◌, ◌++◌, length, map, Some, refl, sym, ap, subst, ◌∙◌, arith}
use Rattle.std.specs.Prelude.{slice_get}
use Rattle.std.proofs.lemmas.List.{append-nil}
use Rattle.std.proofs.lemmas.Option.{none-some, same_Some, slice_get_within}
use Rattle.lburg_lines.specs.declared.section.Section.{Section}
use Rattle.lburg_lines.specs.declared.section.Section.TheVariants.{Head, Prologue, Declarations, Rules, Tail}
use Rattle.lburg_lines.specs.declared.token.Border.TheVariants.{Divider, PrologueStart, PrologueEnd}
use Rattle.lburg_lines.specs.Tokens.{Tok, Word, Bound}
use Rattle.lburg_lines.specs.Grammar.{MLine, Blank, Divides, Opens, Closes, Declared, Ruled, MRule, MDeclaration, Starts, Declares, MNumbered, IsLine, MayStand, line_tokens, rule_tokens, declaration_tokens, terminal_tokens, rule_of}
use Rattle.lburg_lines.specs.Sections.{TokenLine}
use Rattle.lburg_faults.specs.declared.numbered_rules.NumberedRules.{NumberedRules}
use Rattle.lburg_faults.specs.Lines.{InDeclarations, IsRules, BeginsRule, IsRuleLine}
use Rattle.lburg_faults.specs.Terminals.{numbered, declared_by, declared_in}
use Rattle.lburg_faults.specs.Written.{AreWritten, rules_in, terminals_in}
use Rattle.lburg_faults.specs.Reads.{rule_numbers, AddsLine, AreRulesOf}

written_more : (ls : List TokenLine) (ws : List MLine) (l : TokenLine) (w : MLine) → AreWritten ls ws → IsLine l.section l.tokens w → AreWritten (ls ++ l ∷ []) (ws ++ w ∷ [])
written_more [] [] l w p q = (q, tt)
written_more [] (v ∷ ws) l w p q = absurd p
written_more (k ∷ ls) [] l w p q = absurd p
written_more (k ∷ ls) (v ∷ ws) l w p q = (p.0, written_more ls ws l w p.1 q)

pub same_count : (ls : List TokenLine) (ws : List MLine) → AreWritten ls ws → length ws ≡ length ls
same_count [] [] p = refl
same_count [] (v ∷ ws) p = absurd p
same_count (k ∷ ls) [] p = absurd p
same_count (k ∷ ls) (v ∷ ws) p = let n = same_count ls ws p.1 in omega arith

rules_more : (ws : List MLine) (w : MLine) → rules_in (ws ++ w ∷ []) ≡ rules_in ws ++ rules_in (w ∷ [])
rules_more [] w = refl
rules_more (Ruled r ∷ ws) w = ap (λ rs. r ∷ rs) (rules_more ws w)
rules_more (Blank ∷ ws) w = rules_more ws w
rules_more (Divides ∷ ws) w = rules_more ws w
rules_more (Opens ∷ ws) w = rules_more ws w
rules_more (Closes ∷ ws) w = rules_more ws w
rules_more (Declared d ∷ ws) w = rules_more ws w

abbrev NumbersMore : ℕ → List MLine → MLine → Type 0
NumbersMore n ws w = (m : ℕ) → m ≡ n + length ws → rule_numbers n (ws ++ w ∷ []) ≡ rule_numbers n ws ++ rule_numbers m (w ∷ [])

numbers_more : (n : ℕ) (ws : List MLine) (w : MLine) → NumbersMore n ws w
numbers_more n [] w = λ m e. (let f : m ≡ n = omega arith in ap (λ k. rule_numbers k (w ∷ [])) (sym f))
numbers_more n (Ruled r ∷ ws) w = λ m e. ap (λ rs. n ∷ rs) (numbers_more (n + 1) ws w m (omega arith))
numbers_more n (Blank ∷ ws) w = λ m e. numbers_more (n + 1) ws w m (omega arith)
numbers_more n (Divides ∷ ws) w = λ m e. numbers_more (n + 1) ws w m (omega arith)
numbers_more n (Opens ∷ ws) w = λ m e. numbers_more (n + 1) ws w m (omega arith)
numbers_more n (Closes ∷ ws) w = λ m e. numbers_more (n + 1) ws w m (omega arith)
numbers_more n (Declared d ∷ ws) w = λ m e. numbers_more (n + 1) ws w m (omega arith)

-- no lines have no rules
pub no_rules : (rules : NumberedRules) → rules.lines.items ≡ [] → rules.numbers.items ≡ [] → AreRulesOf [] rules
no_rules rules e f = record { written = []; are_written = tt; rules_are = ap (map rule_of) e; numbers_are = f }

-- one line more
pub rules_of_more : (ls : List TokenLine) (l : TokenLine) (w : MLine) (old new : NumberedRules) (n : ℕ) → AreRulesOf ls old → IsLine l.section l.tokens w → AddsLine old new w n → n ≡ length ls + 1 → AreRulesOf (ls ++ l ∷ []) new
rules_of_more ls l w old new n a q d e =
    let c = same_count ls a.written a.are_written in
    record {
      written = a.written ++ w ∷ [];
      are_written = written_more ls a.written l w a.are_written q;
      rules_are = d.lines ∙ ap (λ rs. rs ++ rules_in (w ∷ [])) a.rules_are ∙ sym (rules_more a.written w);
      numbers_are = d.numbers ∙ ap (λ ns. ns ++ rule_numbers n (w ∷ [])) a.numbers_are ∙ sym (numbers_more 1 a.written w n (omega arith));
    }

-- ---- a line and what is written there

pub written_at : (ls : List TokenLine) (ws : List MLine) (i : ℕ) (l : TokenLine) → AreWritten ls ws → slice_get ls i ≡ Some l → (w : MLine) × (slice_get ws i ≡ Some w) × IsLine l.section l.tokens w
written_at [] ws i l p g = absurd (none-some l g)
written_at (k ∷ ls) [] i l p g = absurd p
written_at (k ∷ ls) (w ∷ ws) zero l p g = let P : TokenLine → Type 0 = λ x. IsLine x.section x.tokens w in (w, refl, subst P (same_Some k l g) p.0)
written_at (k ∷ ls) (w ∷ ws) (suc i) l p g = written_at ls ws i l p.1 g

pub line_at : (ls : List TokenLine) (ws : List MLine) (i : ℕ) (w : MLine) → AreWritten ls ws → slice_get ws i ≡ Some w → (l : TokenLine) × (slice_get ls i ≡ Some l) × IsLine l.section l.tokens w
line_at ls [] i w p g = absurd (none-some w g)
line_at [] (v ∷ ws) i w p g = absurd p
line_at (k ∷ ls) (v ∷ ws) zero w p g = let P : MLine → Type 0 = λ x. IsLine k.section k.tokens x in (k, refl, subst P (same_Some v w g) p.0)
line_at (k ∷ ls) (v ∷ ws) (suc i) w p g = line_at ls ws i w p.1 g

-- a rule stands among the rules
pub among_rules : (s : Section) (r : MRule) → MayStand s (Ruled r) → s ≡ Rules
among_rules Head r m = absurd m
among_rules Prologue r m = absurd m
among_rules Declarations r m = absurd m
among_rules Rules r m = refl
among_rules Tail r m = absurd m

-- a declaration stands among the declarations
pub among_declarations : (s : Section) (d : MDeclaration) → MayStand s (Declared d) → InDeclarations s
among_declarations Head d m = tt
among_declarations Prologue d m = absurd m
among_declarations Declarations d m = tt
among_declarations Rules d m = absurd m
among_declarations Tail d m = absurd m

undeclared : (s : Section) (d : MDeclaration) → MayStand s (Declared d) → s ≡ Rules → ⊥
undeclared s d m e = let P : Section → Type 0 = λ x. MayStand x (Declared d) in subst P e m

-- a line of the rules with a name behind its first two tokens is a rule
pub ruled_by_place : (l : TokenLine) (w : MLine) (place : ℕ) (name : List ℕ) → IsLine l.section l.tokens w → IsRules l → 2 ≤ place → slice_get l.tokens place ≡ Some (Word name) → (r : MRule) × (w ≡ Ruled r)
ruled_by_place l Blank place name p e h g = let w = slice_get_within l.tokens place (Word name) g in let n = ap length p.1 in absurd (omega arith)
ruled_by_place l Divides place name p e h g = let w = slice_get_within l.tokens place (Word name) g in let n = ap length p.1 in absurd (omega arith)
ruled_by_place l Opens place name p e h g = let w = slice_get_within l.tokens place (Word name) g in let n = ap length p.1 in absurd (omega arith)
ruled_by_place l Closes place name p e h g = let w = slice_get_within l.tokens place (Word name) g in let n = ap length p.1 in absurd (omega arith)
ruled_by_place l (Declared d) place name p e h g = absurd (undeclared l.section d p.0 e)
ruled_by_place l (Ruled r) place name p e h g = (r, refl)

-- and one that begins with a name is a rule with this left side
pub ruled_by_name : (l : TokenLine) (w : MLine) (name : List ℕ) (ts : List Tok) → IsLine l.section l.tokens w → IsRules l → l.tokens ≡ Word name ∷ ts → (r : MRule) × (w ≡ Ruled r) × (r.left ≡ name)
ruled_by_name l Blank name ts p e f = let g : [] ≡ Word name ∷ ts = sym p.1 ∙ f in absurd cc
ruled_by_name l Divides name ts p e f = let g : Bound Divider ∷ [] ≡ Word name ∷ ts = sym p.1 ∙ f in absurd cc
ruled_by_name l Opens name ts p e f = let g : Bound PrologueStart ∷ [] ≡ Word name ∷ ts = sym p.1 ∙ f in absurd cc
ruled_by_name l Closes name ts p e f = let g : Bound PrologueEnd ∷ [] ≡ Word name ∷ ts = sym p.1 ∙ f in absurd cc
ruled_by_name l (Declared d) name ts p e f = absurd (undeclared l.section d p.0 e)
ruled_by_name l (Ruled r) name ts p e f = let g : rule_tokens r ≡ Word name ∷ ts = sym p.1 ∙ f in (r, refl, cc)

-- a line that isn't blank and ends nothing is a rule
pub ruled_by_kind : (l : TokenLine) (w : MLine) → IsLine l.section l.tokens w → IsRuleLine l → (r : MRule) × (w ≡ Ruled r)
ruled_by_kind l Blank p e = absurd (subst BeginsRule p.1 e.1)
ruled_by_kind l Divides p e = absurd (subst BeginsRule p.1 e.1)
ruled_by_kind l Opens p e = absurd (subst BeginsRule p.1 e.1)
ruled_by_kind l Closes p e = absurd (subst BeginsRule p.1 e.1)
ruled_by_kind l (Declared d) p e = absurd (undeclared l.section d p.0 e.0)
ruled_by_kind l (Ruled r) p e = (r, refl)

-- ---- rules and their places

pub rule_of_line : (ws : List MLine) (i : ℕ) (r : MRule) → slice_get ws i ≡ Some (Ruled r) → (m : ℕ) × (slice_get (rules_in ws) m ≡ Some r)
rule_of_line [] i r g = absurd (none-some (Ruled r) g)
rule_of_line (Ruled x ∷ ws) zero r g = let e : x ≡ r = cc in (zero, ap (λ (y : MRule). Some y) e)
rule_of_line (Ruled x ∷ ws) (suc i) r g = let m = rule_of_line ws i r g in (suc m.0, m.1)
rule_of_line (Blank ∷ ws) zero r g = absurd cc
rule_of_line (Blank ∷ ws) (suc i) r g = rule_of_line ws i r g
rule_of_line (Divides ∷ ws) zero r g = absurd cc
rule_of_line (Divides ∷ ws) (suc i) r g = rule_of_line ws i r g
rule_of_line (Opens ∷ ws) zero r g = absurd cc
rule_of_line (Opens ∷ ws) (suc i) r g = rule_of_line ws i r g
rule_of_line (Closes ∷ ws) zero r g = absurd cc
rule_of_line (Closes ∷ ws) (suc i) r g = rule_of_line ws i r g
rule_of_line (Declared d ∷ ws) zero r g = absurd cc
rule_of_line (Declared d ∷ ws) (suc i) r g = rule_of_line ws i r g

-- the line of a rule; n is the number of the first line
pub record RuleAt (ws : List MLine) (n i : ℕ) (r : MRule) : Type 0 where
  pub index : ℕ
  pub there : slice_get ws index ≡ Some (Ruled r)
  pub number : slice_get (rule_numbers n ws) i ≡ Some (n + index)
  pub before : (j : ℕ) (x : MRule) → j < index → slice_get ws j ≡ Some (Ruled x) → (m : ℕ) × (m < i) × (slice_get (rules_in ws) m ≡ Some x)

at_first : (r x : MRule) (ws : List MLine) (n : ℕ) → x ≡ r → RuleAt (Ruled x ∷ ws) n zero r
at_first r x ws n e = record {
  index = zero;
  there = ap (λ y. Some (Ruled y)) e;
  number = (let f : n ≡ n + 0 = omega arith in ap (λ (k : ℕ). Some k) f);
  before = λ j y h g. absurd (omega arith);
}

at_later : (r x : MRule) (ws : List MLine) (n i : ℕ) → RuleAt ws (n + 1) i r → RuleAt (Ruled x ∷ ws) n (suc i) r
at_later r x ws n i a = record {
  index = suc a.index;
  there = a.there;
  number = (let f : n + 1 + a.index ≡ n + suc a.index = omega arith in a.number ∙ ap (λ (k : ℕ). Some k) f);
  before = earlier;
} where
  earlier : (j : ℕ) (y : MRule) → j < suc a.index → slice_get (Ruled x ∷ ws) j ≡ Some (Ruled y) → (m : ℕ) × (m < suc i) × (slice_get (x ∷ rules_in ws) m ≡ Some y)
  earlier zero y h g = let e : x ≡ y = cc in (zero, omega arith, ap (λ (z : MRule). Some z) e)
  earlier (suc j) y h g = let m = a.before j y (omega arith) g in let l = m.1 in (suc m.0, omega arith, m.2)

at_other : (r : MRule) (w : MLine) (ws : List MLine) (n i : ℕ) → ((x : MRule) → w ≡ Ruled x → ⊥) → rules_in (w ∷ ws) ≡ rules_in ws → rule_numbers n (w ∷ ws) ≡ rule_numbers (n + 1) ws → RuleAt ws (n + 1) i r → RuleAt (w ∷ ws) n i r
at_other r w ws n i not_it e f a = record {
  index = suc a.index;
  there = a.there;
  number = (let g : n + 1 + a.index ≡ n + suc a.index = omega arith in ap (λ (ns : List ℕ). slice_get ns i) f ∙ a.number ∙ ap (λ (k : ℕ). Some k) g);
  before = earlier;
} where
  earlier : (j : ℕ) (y : MRule) → j < suc a.index → slice_get (w ∷ ws) j ≡ Some (Ruled y) → (m : ℕ) × (m < i) × (slice_get (rules_in (w ∷ ws)) m ≡ Some y)
  earlier zero y h g = absurd (not_it y (same_Some w (Ruled y) g))
  earlier (suc j) y h g =
      let m = a.before j y (omega arith) g in
      let P : List MRule → Type 0 = λ rs. slice_get rs m.0 ≡ Some y in
      (m.0, m.1, subst P (sym e) m.2)

pub rule_at : (ws : List MLine) (n i : ℕ) (r : MRule) → slice_get (rules_in ws) i ≡ Some r → RuleAt ws n i r
rule_at [] n i r g = absurd (none-some r g)
rule_at (Ruled x ∷ ws) n zero r g = at_first r x ws n (same_Some x r g)
rule_at (Ruled x ∷ ws) n (suc i) r g = at_later r x ws n i (rule_at ws (n + 1) i r g)
rule_at (Blank ∷ ws) n i r g = at_other r Blank ws n i (λ x e. cc) refl refl (rule_at ws (n + 1) i r g)
rule_at (Divides ∷ ws) n i r g = at_other r Divides ws n i (λ x e. cc) refl refl (rule_at ws (n + 1) i r g)
rule_at (Opens ∷ ws) n i r g = at_other r Opens ws n i (λ x e. cc) refl refl (rule_at ws (n + 1) i r g)
rule_at (Closes ∷ ws) n i r g = at_other r Closes ws n i (λ x e. cc) refl refl (rule_at ws (n + 1) i r g)
rule_at (Declared d ∷ ws) n i r g = at_other r (Declared d) ws n i (λ x e. cc) refl refl (rule_at ws (n + 1) i r g)

pub as_many : (n : ℕ) (ws : List MLine) → length (rule_numbers n ws) ≡ length (rules_in ws)
as_many n [] = refl
as_many n (Ruled r ∷ ws) = let m = as_many (n + 1) ws in omega arith
as_many n (Blank ∷ ws) = as_many (n + 1) ws
as_many n (Divides ∷ ws) = as_many (n + 1) ws
as_many n (Opens ∷ ws) = as_many (n + 1) ws
as_many n (Closes ∷ ws) = as_many (n + 1) ws
as_many n (Declared d ∷ ws) = as_many (n + 1) ws

-- ---- what the lines declare

numbered_is : (ts : List MNumbered) → numbered (terminal_tokens ts) ≡ ts
numbered_is [] = refl
numbered_is (t ∷ ts) = ap (λ us. t ∷ us) (numbered_is ts)

declared_here : (s : Section) (d : MDeclaration) → MayStand s (Declared d) → declared_by s (declaration_tokens d) ≡ terminals_in (Declared d ∷ [])
declared_here Head (Starts n) m = refl
declared_here Head (Declares ts) m = numbered_is ts ∙ sym (append-nil ts)
declared_here Declarations (Starts n) m = refl
declared_here Declarations (Declares ts) m = numbered_is ts ∙ sym (append-nil ts)
declared_here Prologue d m = absurd m
declared_here Rules d m = absurd m
declared_here Tail d m = absurd m

declared_not : (s : Section) (w : MLine) → MayStand s w → ((d : MDeclaration) → w ≡ Declared d → ⊥) → declared_by s (line_tokens w) ≡ []
declared_not s (Declared d) m not_it = absurd (not_it d refl)
declared_not Head Blank m not_it = refl
declared_not Head Divides m not_it = refl
declared_not Head Opens m not_it = refl
declared_not Head Closes m not_it = refl
declared_not Head (Ruled r) m not_it = refl
declared_not Declarations Blank m not_it = refl
declared_not Declarations Divides m not_it = refl
declared_not Declarations Opens m not_it = refl
declared_not Declarations Closes m not_it = refl
declared_not Declarations (Ruled r) m not_it = refl
declared_not Prologue w m not_it = refl
declared_not Rules w m not_it = refl
declared_not Tail w m not_it = refl

terminals_more : (d : MDeclaration) (ws : List MLine) → terminals_in (Declared d ∷ ws) ≡ terminals_in (Declared d ∷ []) ++ terminals_in ws
terminals_more (Starts n) ws = refl
terminals_more (Declares ts) ws = ap (λ us. us ++ terminals_in ws) (sym (append-nil ts))

declared_line : (l : TokenLine) (w : MLine) (ls : List TokenLine) (ws : List MLine) → IsLine l.section l.tokens w → ((d : MDeclaration) → w ≡ Declared d → ⊥) → terminals_in (w ∷ ws) ≡ terminals_in ws → declared_in ls ≡ terminals_in ws → declared_in (l ∷ ls) ≡ terminals_in (w ∷ ws)
declared_line l w ls ws p not_it e f =
    ap (λ us. us ++ declared_in ls) (ap (declared_by l.section) p.1 ∙ declared_not l.section w p.0 not_it) ∙ f ∙ sym e

-- the terminals of the lines are those that are written
pub same_terminals : (ls : List TokenLine) (ws : List MLine) → AreWritten ls ws → declared_in ls ≡ terminals_in ws
same_terminals [] [] p = refl
same_terminals [] (w ∷ ws) p = absurd p
same_terminals (l ∷ ls) [] p = absurd p
same_terminals (l ∷ ls) (Declared d ∷ ws) p =
    ap (λ us. us ++ declared_in ls) (ap (declared_by l.section) p.0.1 ∙ declared_here l.section d p.0.0)
    ∙ ap (λ us. terminals_in (Declared d ∷ []) ++ us) (same_terminals ls ws p.1) ∙ sym (terminals_more d ws)
same_terminals (l ∷ ls) (Blank ∷ ws) p = declared_line l Blank ls ws p.0 (λ d e. cc) refl (same_terminals ls ws p.1)
same_terminals (l ∷ ls) (Divides ∷ ws) p = declared_line l Divides ls ws p.0 (λ d e. cc) refl (same_terminals ls ws p.1)
same_terminals (l ∷ ls) (Opens ∷ ws) p = declared_line l Opens ls ws p.0 (λ d e. cc) refl (same_terminals ls ws p.1)
same_terminals (l ∷ ls) (Closes ∷ ws) p = declared_line l Closes ls ws p.0 (λ d e. cc) refl (same_terminals ls ws p.1)
same_terminals (l ∷ ls) (Ruled r ∷ ws) p = declared_line l (Ruled r) ls ws p.0 (λ d e. cc) refl (same_terminals ls ws p.1)
