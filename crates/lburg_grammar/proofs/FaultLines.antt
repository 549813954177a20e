-- The lines of a text as they are written: rules and start symbols.
use Rattle.std.proofs.Common.{◌≡◌, ℕ, ◌+◌, ◌<◌, ◌≤◌, zero, suc, codes, List, [], ◌∷◌, ◌++◌, length, Some, refl, sym, ap, subst, ◌∙◌, arith}
use Rattle.std.specs.Prelude.{slice_get}
use Rattle.std.specs.Str.{bytes_eq}
use Rattle.std.proofs.lemmas.Bool.{false≢true}
use Rattle.std.proofs.lemmas.Option.{none-some, same_Some, slice_get_within}
use Rattle.lburg_lines.specs.declared.section.Section.{Section}
use Rattle.lburg_lines.specs.declared.section.Section.TheVariants.{Head, Prologue, Declarations, Rules, Tail}
use Rattle.lburg_lines.specs.declared.token.Border.TheVariants.{Divider, PrologueStart, PrologueEnd}
use Rattle.lburg_lines.specs.Tokens.{Tok, Word, Bound, Keyword}
use Rattle.lburg_lines.specs.Grammar.{MLine, Blank, Divides, Opens, Closes, Declared, Ruled, MRule, MDeclaration, Starts, Declares, MNumbered, IsLine, MayStand, rule_tokens, terminal_tokens}
use Rattle.lburg_lines.specs.Sections.{TokenLine}
use Rattle.lburg_faults.specs.Lines.{IsRules, BeginsRule, IsRuleLine, StartLine, Terms}
use Rattle.lburg_faults.specs.Terminals.{Among}
use Rattle.lburg_faults.specs.Limits.{RuleCount, NoLine, OneRule, OtherLine}
use Rattle.lburg_faults.specs.Written.{AreWritten, rules_in, starts_in}

-- ---- a line and what is written there

pub written_at : (ls : List TokenLine) (ws : List MLine) (i : ℕ) (l : TokenLine) → AreWritten ls ws → slice_get ls i ≡ Some l → (w : MLine) × (slice_get ws i ≡ Some w) × IsLine l.section l.tokens w
written_at [] ws i l p g = absurd (none-some l g)
written_at (k ∷ ls) [] i l p g = absurd p
written_at (k ∷ ls) (w ∷ ws) zero l p g = let P : TokenLine → Type 0 = λ x. IsLine x.section x.tokens w in (w, refl, subst P (same_Some k l g) p.0)
written_at (k ∷ ls) (w ∷ ws) (suc i) l p g = written_at ls ws i l p.1 g

-- a rule stands among the rules
pub among_rules : (s : Section) (r : MRule) → MayStand s (Ruled r) → s ≡ Rules
among_rules Head r m = absurd m
among_rules Prologue r m = absurd m
among_rules Declarations r m = absurd m
among_rules Rules r m = refl
among_rules Tail r m = absurd m

undeclared : (s : Section) (d : MDeclaration) → MayStand s (Declared d) → s ≡ Rules → ⊥
undeclared s d m e = let P : Section → Type 0 = λ x. MayStand x (Declared d) in subst P e m

-- a line of the rules with a name behind its first two tokens is a rule
pub ruled_by_place : (l : TokenLine) (w : MLine) (place : ℕ) (name : List ℕ) → IsLine l.section l.tokens w → IsRules l → 2 ≤ place → slice_get l.tokens place ≡ Some (Word name) → (r : MRule) × (w ≡ Ruled r)
ruled_by_place l Blank place name p e h g = let w = slice_get_within l.tokens place (Word name) g in let n = ap length p.1 in absurd (omega arith)
ruled_by_place l Divides place name p e h g = let w = slice_get_within l.tokens place (Word name) g in let n = ap length p.1 in absurd (omega arith)
ruled_by_place l Opens place name p e h g = let w = slice_get_within l.tokens place (Word name) g in let n = ap length p.1 in absurd (omega arith)
ruled_by_place l Closes place name p e h g = let w = slice_get_within l.tokens place (Word name) g in let n = ap length p.1 in absurd (omega arith)
ruled_by_place l (Declared d) place name p e h g = absurd (undeclared l.section d p.0 e)
ruled_by_place l (Ruled r) place name p e h g = (r, refl)

-- and one that begins with a name is a rule with this left side
pub ruled_by_name : (l : TokenLine) (w : MLine) (name : List ℕ) (ts : List Tok) → IsLine l.section l.tokens w → IsRules l → l.tokens ≡ Word name ∷ ts → (r : MRule) × (w ≡ Ruled r) × (r.left ≡ name)
ruled_by_name l Blank name ts p e f = let g : [] ≡ Word name ∷ ts = sym p.1 ∙ f in absurd cc
ruled_by_name l Divides name ts p e f = let g : Bound Divider ∷ [] ≡ Word name ∷ ts = sym p.1 ∙ f in absurd cc
ruled_by_name l Opens name ts p e f = let g : Bound PrologueStart ∷ [] ≡ Word name ∷ ts = sym p.1 ∙ f in absurd cc
ruled_by_name l Closes name ts p e f = let g : Bound PrologueEnd ∷ [] ≡ Word name ∷ ts = sym p.1 ∙ f in absurd cc
ruled_by_name l (Declared d) name ts p e f = absurd (undeclared l.section d p.0 e)
ruled_by_name l (Ruled r) name ts p e f = let g : rule_tokens r ≡ Word name ∷ ts = sym p.1 ∙ f in (r, refl, cc)

-- a line that isn't blank and ends nothing is a rule
pub ruled_by_kind : (l : TokenLine) (w : MLine) → IsLine l.section l.tokens w → IsRuleLine l → (r : MRule) × (w ≡ Ruled r)
ruled_by_kind l Blank p e = absurd (subst BeginsRule p.1 e.1)
ruled_by_kind l Divides p e = absurd (subst BeginsRule p.1 e.1)
ruled_by_kind l Opens p e = absurd (subst BeginsRule p.1 e.1)
ruled_by_kind l Closes p e = absurd (subst BeginsRule p.1 e.1)
ruled_by_kind l (Declared d) p e = absurd (undeclared l.section d p.0 e.0)
ruled_by_kind l (Ruled r) p e = (r, refl)

-- ---- rules

rule_kept : (w : MLine) (ws : List MLine) (r : MRule) → Among r (rules_in ws) → Among r (rules_in (w ∷ ws))
rule_kept (Ruled x) ws r a = (suc a.0, a.1)
rule_kept Blank ws r a = a
rule_kept Divides ws r a = a
rule_kept Opens ws r a = a
rule_kept Closes ws r a = a
rule_kept (Declared d) ws r a = a

pub rule_of_line : (ws : List MLine) (i : ℕ) (r : MRule) → slice_get ws i ≡ Some (Ruled r) → Among r (rules_in ws)
rule_of_line [] i r g = absurd (none-some (Ruled r) g)
rule_of_line (w ∷ ws) zero r g = let P : MLine → Type 0 = λ x. Among r (rules_in (x ∷ ws)) in subst P (sym (same_Some w (Ruled r) g)) (zero, refl)
rule_of_line (w ∷ ws) (suc i) r g = rule_kept w ws r (rule_of_line ws i r g)

-- the rule's line
abbrev pub HasLine : List TokenLine → MRule → Type 0
HasLine ls r = (i : ℕ) × (l : TokenLine) × (slice_get ls i ≡ Some l) × IsLine l.section l.tokens (Ruled r)

one_on : (l : TokenLine) (ls : List TokenLine) (r : MRule) → HasLine ls r → HasLine (l ∷ ls) r
one_on l ls r h = (suc h.0, h.1, h.2, h.3)

pub line_of_rule : (ls : List TokenLine) (ws : List MLine) (m : ℕ) (r : MRule) → AreWritten ls ws → slice_get (rules_in ws) m ≡ Some r → HasLine ls r
line_of_rule ls [] m r p g = absurd (none-some r g)
line_of_rule [] (w ∷ ws) m r p g = absurd p
line_of_rule (l ∷ ls) (Ruled x ∷ ws) zero r p g = let P : MRule → Type 0 = λ y. IsLine l.section l.tokens (Ruled y) in (zero, l, refl, subst P (same_Some x r g) p.0)
line_of_rule (l ∷ ls) (Ruled x ∷ ws) (suc m) r p g = one_on l ls r (line_of_rule ls ws m r p.1 g)
line_of_rule (l ∷ ls) (Blank ∷ ws) m r p g = one_on l ls r (line_of_rule ls ws m r p.1 g)
line_of_rule (l ∷ ls) (Divides ∷ ws) m r p g = one_on l ls r (line_of_rule ls ws m r p.1 g)
line_of_rule (l ∷ ls) (Opens ∷ ws) m r p g = one_on l ls r (line_of_rule ls ws m r p.1 g)
line_of_rule (l ∷ ls) (Closes ∷ ws) m r p g = one_on l ls r (line_of_rule ls ws m r p.1 g)
line_of_rule (l ∷ ls) (Declared d ∷ ws) m r p g = one_on l ls r (line_of_rule ls ws m r p.1 g)

rules_grow : (w : MLine) (ws : List MLine) → length (rules_in ws) ≤ length (rules_in (w ∷ ws))
rules_grow (Ruled x) ws = omega arith
rules_grow Blank ws = omega arith
rules_grow Divides ws = omega arith
rules_grow Opens ws = omega arith
rules_grow Closes ws = omega arith
rules_grow (Declared d) ws = omega arith

one_rule : (l : TokenLine) (w : MLine) (ws : List MLine) → IsLine l.section l.tokens w → IsRuleLine l → length (rules_in ws) + 1 ≤ length (rules_in (w ∷ ws))
one_rule l w ws p h =
    let P : MLine → Type 0 = λ x. length (rules_in ws) + 1 ≤ length (rules_in (x ∷ ws)) in
    let r = ruled_by_kind l w p h in
    let n : length (rules_in ws) + 1 ≤ length (rules_in (Ruled r.0 ∷ ws)) = omega arith in
    subst P (sym r.1) n

-- the rules before a rule, and this one, are no more than all
pub counted : (l : TokenLine) (behind : List TokenLine) → IsRuleLine l → {before : List TokenLine} {n : ℕ} → RuleCount before n → (ws : List MLine) → AreWritten (before ++ l ∷ behind) ws → n + 1 ≤ length (rules_in ws)
counted l behind h NoLine [] p = absurd p
counted l behind h NoLine (w ∷ ws) p = let n = one_rule l w ws p.0 h in omega arith
counted l behind h (OneRule k ks n is r) [] p = absurd p
counted l behind h (OneRule k ks n is r) (w ∷ ws) p = let m = counted l behind h r ws p.1 in let o = one_rule k w ws p.0 is in omega arith
counted l behind h (OtherLine k ks n is r) [] p = absurd p
counted l behind h (OtherLine k ks n is r) (w ∷ ws) p = let m = counted l behind h r ws p.1 in let o = rules_grow w ws in omega arith

-- ---- start symbols

other_keyword : (t u : List Tok) → Keyword (codes "term") ∷ t ≡ Keyword (codes "start") ∷ u → ⊥
other_keyword t u e =
    let f : codes "term" ≡ codes "start" = cc in
    false≢true (ap (λ x. bytes_eq x (codes "start")) f)

pub start_by_tokens : (l : TokenLine) (w : MLine) (t : List Tok) → IsLine l.section l.tokens w → StartLine l t → (name : List ℕ) × (w ≡ Declared (Starts name)) × (t ≡ Word name ∷ [])
start_by_tokens l Blank t p s = let f : [] ≡ Keyword (codes "start") ∷ t = sym p.1 ∙ s.1 in absurd cc
start_by_tokens l Divides t p s = let f : Bound Divider ∷ [] ≡ Keyword (codes "start") ∷ t = sym p.1 ∙ s.1 in absurd cc
start_by_tokens l Opens t p s = let f : Bound PrologueStart ∷ [] ≡ Keyword (codes "start") ∷ t = sym p.1 ∙ s.1 in absurd cc
start_by_tokens l Closes t p s = let f : Bound PrologueEnd ∷ [] ≡ Keyword (codes "start") ∷ t = sym p.1 ∙ s.1 in absurd cc
start_by_tokens l (Ruled r) t p s = let f : rule_tokens r ≡ Keyword (codes "start") ∷ t = sym p.1 ∙ s.1 in absurd cc
start_by_tokens l (Declared (Declares ts)) t p s = absurd (other_keyword (terminal_tokens ts) t (sym p.1 ∙ s.1))
start_by_tokens l (Declared (Starts n)) t p s =
    let f : Keyword (codes "start") ∷ (Word n ∷ []) ≡ Keyword (codes "start") ∷ t = sym p.1 ∙ s.1 in
    (n, refl, cc)

pub terms_by_tokens : (l : TokenLine) (w : MLine) (t : List Tok) → IsLine l.section l.tokens w → Terms l t → (ts : List MNumbered) × (w ≡ Declared (Declares ts)) × (t ≡ terminal_tokens ts)
terms_by_tokens l Blank t p s = let f : [] ≡ Keyword (codes "term") ∷ t = sym p.1 ∙ s.1 in absurd cc
terms_by_tokens l Divides t p s = let f : Bound Divider ∷ [] ≡ Keyword (codes "term") ∷ t = sym p.1 ∙ s.1 in absurd cc
terms_by_tokens l Opens t p s = let f : Bound PrologueStart ∷ [] ≡ Keyword (codes "term") ∷ t = sym p.1 ∙ s.1 in absurd cc
terms_by_tokens l Closes t p s = let f : Bound PrologueEnd ∷ [] ≡ Keyword (codes "term") ∷ t = sym p.1 ∙ s.1 in absurd cc
terms_by_tokens l (Ruled r) t p s = let f : rule_tokens r ≡ Keyword (codes "term") ∷ t = sym p.1 ∙ s.1 in absurd cc
terms_by_tokens l (Declared (Starts n)) t p s = absurd (other_keyword t (Word n ∷ []) (sym s.1 ∙ p.1))
terms_by_tokens l (Declared (Declares ts)) t p s =
    let f : Keyword (codes "term") ∷ terminal_tokens ts ≡ Keyword (codes "term") ∷ t = sym p.1 ∙ s.1 in
    (ts, refl, cc)

start_kept : (w : MLine) (ws : List MLine) (name : List ℕ) → Among name (starts_in ws) → Among name (starts_in (w ∷ ws))
start_kept (Declared (Starts n)) ws name a = (suc a.0, a.1)
start_kept (Declared (Declares ts)) ws name a = a
start_kept Blank ws name a = a
start_kept Divides ws name a = a
start_kept Opens ws name a = a
start_kept Closes ws name a = a
start_kept (Ruled r) ws name a = a

pub start_of_line : (ws : List MLine) (i : ℕ) (name : List ℕ) → slice_get ws i ≡ Some (Declared (Starts name)) → Among name (starts_in ws)
start_of_line [] i name g = absurd (none-some (Declared (Starts name)) g)
start_of_line (w ∷ ws) zero name g = let P : MLine → Type 0 = λ x. Among name (starts_in (x ∷ ws)) in subst P (sym (same_Some w (Declared (Starts name)) g)) (zero, refl)
start_of_line (w ∷ ws) (suc i) name g = start_kept w ws name (start_of_line ws i name g)

starts_grow : (w : MLine) (ws : List MLine) → length (starts_in ws) ≤ length (starts_in (w ∷ ws))
starts_grow (Declared (Starts n)) ws = omega arith
starts_grow (Declared (Declares ts)) ws = omega arith
starts_grow Blank ws = omega arith
starts_grow Divides ws = omega arith
starts_grow Opens ws = omega arith
starts_grow Closes ws = omega arith
starts_grow (Ruled r) ws = omega arith

pub two_starts : (ws : List MLine) (i j : ℕ) (n m : List ℕ) → i < j → slice_get ws i ≡ Some (Declared (Starts n)) → slice_get ws j ≡ Some (Declared (Starts m)) → 2 ≤ length (starts_in ws)
two_starts [] i j n m b g h = absurd (none-some (Declared (Starts n)) g)
two_starts (w ∷ ws) i zero n m b g h = absurd (omega arith)
two_starts (w ∷ ws) zero (suc j) n m b g h =
    let P : MLine → Type 0 = λ x. 2 ≤ length (starts_in (x ∷ ws)) in
    let a = start_of_line ws j m h in
    let k = slice_get_within (starts_in ws) a.0 m a.1 in
    let two : 2 ≤ length (starts_in (Declared (Starts n) ∷ ws)) = omega arith in
    subst P (sym (same_Some w (Declared (Starts n)) g)) two
two_starts (w ∷ ws) (suc i) (suc j) n m b g h = let k = two_starts ws i j n m (omega arith) g h in let o = starts_grow w ws in omega arith
