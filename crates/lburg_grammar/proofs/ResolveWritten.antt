-- The lines of a text as they are written, and the lines of its rules.
use Rattle.std.proofs.Common.{◌≡◌, ℕ, ◌+◌, ◌<◌, ◌≤◌, zero, suc, List, [], ◌∷◌, ◌++◌, length, take, drop, Some, refl, sym, ap, subst, ◌∙◌, arith}
use Rattle.std.specs.Prelude.{slice_get}
use Rattle.std.proofs.lemmas.List.{append-nil, length-take-le}
use Rattle.std.proofs.lemmas.Option.{none-some, same_Some, slice_get_within}
use Rattle.lburg_lines.specs.declared.section.Section.{Section}
use Rattle.lburg_lines.specs.declared.section.Section.TheVariants.{Head, Prologue, Declarations, Rules, Tail}
use Rattle.lburg_lines.specs.declared.token.Border.TheVariants.{Divider, PrologueStart, PrologueEnd}
use Rattle.lburg_lines.specs.Tokens.{Tok, Word, Bound}
use Rattle.lburg_lines.specs.Grammar.{MLine, Blank, Divides, Opens, Closes, Declared, Ruled, MRule, MDeclaration, Starts, Declares, MNumbered, IsLine, IsCost, MayStand, line_tokens, rule_tokens, declaration_tokens, terminal_tokens}
use Rattle.lburg_lines.specs.Sections.{TokenLine}
use Rattle.lburg_faults.specs.declared.line_fault.LineFault.{LineFault}
use Rattle.lburg_faults.specs.LineFaults.{Stands, row_of}
use Rattle.lburg_faults.specs.FirstFault.{setting_of, NoneStands}
use Rattle.lburg_faults.specs.Limits.{RuleCount, NoLine, OneRule, OtherLine}
use Rattle.lburg_faults.specs.Lines.{InDeclarations, IsRules, BeginsRule, IsRuleLine}
use Rattle.lburg_faults.specs.Terminals.{numbered, declared_by, declared_in}
use Rattle.lburg_faults.specs.Written.{AreWritten, rules_in, terminals_in}

pub parts_at : {T : Type 0} (xs : List T) (i : ℕ) (x : T) → slice_get xs i ≡ Some x → xs ≡ take i xs ++ x ∷ drop (suc i) xs
parts_at [] i x e = absurd (none-some x e)
parts_at (y ∷ ys) zero x e = ap (λ z. z ∷ ys) (same_Some y x e)
parts_at (y ∷ ys) (suc i) x e = ap (λ zs. y ∷ zs) (parts_at ys i x e)

-- no fault stands at a line
pub none_at : (all : List TokenLine) → NoneStands all → (i : ℕ) (l : TokenLine) (p : ℕ) (kind : LineFault) → slice_get all i ≡ Some l → Stands kind (setting_of all (take i all)) l p → ⊥
none_at all none i l p kind e f =
    let w : i < length all = slice_get_within all i l e in
    let n : length (take i all) ≡ i = length-take-le i all (omega arith) in
    none (record { line = i + 1; token = p; row = row_of kind }) (record {
      before = take i all;
      here = l;
      behind = drop (suc i) all;
      parts = parts_at all i l e;
      line_is = omega arith;
      fault = kind;
      row_is = refl;
      stands = f;
    })

-- ---- a line and what is written there

pub written_at : (ls : List TokenLine) (ws : List MLine) (i : ℕ) (l : TokenLine) → AreWritten ls ws → slice_get ls i ≡ Some l → (w : MLine) × (slice_get ws i ≡ Some w) × IsLine l.section l.tokens w
written_at [] ws i l p g = absurd (none-some l g)
written_at (k ∷ ls) [] i l p g = absurd p
written_at (k ∷ ls) (w ∷ ws) zero l p g = let P : TokenLine → Type 0 = λ x. IsLine x.section x.tokens w in (w, refl, subst P (same_Some k l g) p.0)
written_at (k ∷ ls) (w ∷ ws) (suc i) l p g = written_at ls ws i l p.1 g

pub line_at : (ls : List TokenLine) (ws : List MLine) (i : ℕ) (w : MLine) → AreWritten ls ws → slice_get ws i ≡ Some w → (l : TokenLine) × (slice_get ls i ≡ Some l) × IsLine l.section l.tokens w
line_at ls [] i w p g = absurd (none-some w g)
line_at [] (v ∷ ws) i w p g = absurd p
line_at (k ∷ ls) (v ∷ ws) zero w p g = let P : MLine → Type 0 = λ x. IsLine k.section k.tokens x in (k, refl, subst P (same_Some v w g) p.0)
line_at (k ∷ ls) (v ∷ ws) (suc i) w p g = line_at ls ws i w p.1 g

-- a rule stands among the rules
pub among_rules : (s : Section) (r : MRule) → MayStand s (Ruled r) → s ≡ Rules
among_rules Head r m = absurd m
among_rules Prologue r m = absurd m
among_rules Declarations r m = absurd m
among_rules Rules r m = refl
among_rules Tail r m = absurd m

-- a declaration stands among the declarations
pub among_declarations : (s : Section) (d : MDeclaration) → MayStand s (Declared d) → InDeclarations s
among_declarations Head d m = tt
among_declarations Prologue d m = absurd m
among_declarations Declarations d m = tt
among_declarations Rules d m = absurd m
among_declarations Tail d m = absurd m

undeclared : (s : Section) (d : MDeclaration) → MayStand s (Declared d) → s ≡ Rules → ⊥
undeclared s d m e = let P : Section → Type 0 = λ x. MayStand x (Declared d) in subst P e m

-- a line of the rules with a name behind its first two tokens is a rule
pub ruled_by_place : (l : TokenLine) (w : MLine) (place : ℕ) (name : List ℕ) → IsLine l.section l.tokens w → IsRules l → 2 ≤ place → slice_get l.tokens place ≡ Some (Word name) → (r : MRule) × (w ≡ Ruled r)
ruled_by_place l Blank place name p e h g = let w = slice_get_within l.tokens place (Word name) g in let n = ap length p.1 in absurd (omega arith)
ruled_by_place l Divides place name p e h g = let w = slice_get_within l.tokens place (Word name) g in let n = ap length p.1 in absurd (omega arith)
ruled_by_place l Opens place name p e h g = let w = slice_get_within l.tokens place (Word name) g in let n = ap length p.1 in absurd (omega arith)
ruled_by_place l Closes place name p e h g = let w = slice_get_within l.tokens place (Word name) g in let n = ap length p.1 in absurd (omega arith)
ruled_by_place l (Declared d) place name p e h g = absurd (undeclared l.section d p.0 e)
ruled_by_place l (Ruled r) place name p e h g = (r, refl)

-- and one that begins with a name is a rule with this left side
pub ruled_by_name : (l : TokenLine) (w : MLine) (name : List ℕ) (ts : List Tok) → IsLine l.section l.tokens w → IsRules l → l.tokens ≡ Word name ∷ ts → (r : MRule) × (w ≡ Ruled r) × (r.left ≡ name)
ruled_by_name l Blank name ts p e f = let g : [] ≡ Word name ∷ ts = sym p.1 ∙ f in absurd cc
ruled_by_name l Divides name ts p e f = let g : Bound Divider ∷ [] ≡ Word name ∷ ts = sym p.1 ∙ f in absurd cc
ruled_by_name l Opens name ts p e f = let g : Bound PrologueStart ∷ [] ≡ Word name ∷ ts = sym p.1 ∙ f in absurd cc
ruled_by_name l Closes name ts p e f = let g : Bound PrologueEnd ∷ [] ≡ Word name ∷ ts = sym p.1 ∙ f in absurd cc
ruled_by_name l (Declared d) name ts p e f = absurd (undeclared l.section d p.0 e)
ruled_by_name l (Ruled r) name ts p e f = let g : rule_tokens r ≡ Word name ∷ ts = sym p.1 ∙ f in (r, refl, cc)

-- a line that isn't blank and ends nothing is a rule
pub ruled_by_kind : (l : TokenLine) (w : MLine) → IsLine l.section l.tokens w → IsRuleLine l → (r : MRule) × (w ≡ Ruled r)
ruled_by_kind l Blank p e = absurd (subst BeginsRule p.1 e.1)
ruled_by_kind l Divides p e = absurd (subst BeginsRule p.1 e.1)
ruled_by_kind l Opens p e = absurd (subst BeginsRule p.1 e.1)
ruled_by_kind l Closes p e = absurd (subst BeginsRule p.1 e.1)
ruled_by_kind l (Declared d) p e = absurd (undeclared l.section d p.0 e.0)
ruled_by_kind l (Ruled r) p e = (r, refl)

-- ---- rules and their places

pub rule_of_line : (ws : List MLine) (i : ℕ) (r : MRule) → slice_get ws i ≡ Some (Ruled r) → (m : ℕ) × (slice_get (rules_in ws) m ≡ Some r)
rule_of_line [] i r g = absurd (none-some (Ruled r) g)
rule_of_line (Ruled x ∷ ws) zero r g = let e : x ≡ r = cc in (zero, ap (λ (y : MRule). Some y) e)
rule_of_line (Ruled x ∷ ws) (suc i) r g = let m = rule_of_line ws i r g in (suc m.0, m.1)
rule_of_line (Blank ∷ ws) zero r g = absurd cc
rule_of_line (Blank ∷ ws) (suc i) r g = rule_of_line ws i r g
rule_of_line (Divides ∷ ws) zero r g = absurd cc
rule_of_line (Divides ∷ ws) (suc i) r g = rule_of_line ws i r g
rule_of_line (Opens ∷ ws) zero r g = absurd cc
rule_of_line (Opens ∷ ws) (suc i) r g = rule_of_line ws i r g
rule_of_line (Closes ∷ ws) zero r g = absurd cc
rule_of_line (Closes ∷ ws) (suc i) r g = rule_of_line ws i r g
rule_of_line (Declared d ∷ ws) zero r g = absurd cc
rule_of_line (Declared d ∷ ws) (suc i) r g = rule_of_line ws i r g

-- the line of a rule
pub record RuleLineAt (lines : List TokenLine) (m : ℕ) (r : MRule) : Type 0 where
  pub index : ℕ
  pub line : TokenLine
  pub there : slice_get lines index ≡ Some line
  pub rules : IsRules line
  pub tokens : line.tokens ≡ rule_tokens r
  pub may : IsCost r.cost
  pub count : RuleCount (take index lines) m

pub is_rule_line : (l : TokenLine) (r : MRule) → IsRules l → l.tokens ≡ rule_tokens r → IsRuleLine l
is_rule_line l r e f = (e, subst BeginsRule (sym f) tt)

may_cost : (s : Section) (r : MRule) → MayStand s (Ruled r) → s ≡ Rules → IsCost r.cost
may_cost s r m e = let P : Section → Type 0 = λ x. MayStand x (Ruled r) in subst P e m

first_rule : (l : TokenLine) (ls : List TokenLine) (x r : MRule) → IsLine l.section l.tokens (Ruled x) → x ≡ r → RuleLineAt (l ∷ ls) zero r
first_rule l ls x r p e =
    let P : MRule → Type 0 = λ y. IsLine l.section l.tokens (Ruled y) in
    let q = subst P e p in
    record {
      index = zero;
      line = l;
      there = refl;
      rules = among_rules l.section r q.0;
      tokens = q.1;
      may = may_cost l.section r q.0 (among_rules l.section r q.0);
      count = NoLine;
    }

next_rule : (l : TokenLine) (ls : List TokenLine) (x r : MRule) (m : ℕ) → IsLine l.section l.tokens (Ruled x) → RuleLineAt ls m r → RuleLineAt (l ∷ ls) (suc m) r
next_rule l ls x r m p a = record {
  index = suc a.index;
  line = a.line;
  there = a.there;
  rules = a.rules;
  tokens = a.tokens;
  may = a.may;
  count = (let e : m + 1 ≡ suc m = omega arith in let P : ℕ → Type 0 = λ n. RuleCount (l ∷ take a.index ls) n in
      subst P e (OneRule l (take a.index ls) m (is_rule_line l x (among_rules l.section x p.0) p.1) a.count));
}

other_rule : (l : TokenLine) (ls : List TokenLine) (w : MLine) (r : MRule) (m : ℕ) → IsLine l.section l.tokens w → ((x : MRule) → w ≡ Ruled x → ⊥) → RuleLineAt ls m r → RuleLineAt (l ∷ ls) m r
other_rule l ls w r m p not_it a = record {
  index = suc a.index;
  line = a.line;
  there = a.there;
  rules = a.rules;
  tokens = a.tokens;
  may = a.may;
  count = OtherLine l (take a.index ls) m (λ k. (let x = ruled_by_kind l w p k in not_it x.0 x.1)) a.count;
}

pub rule_line_at : (ls : List TokenLine) (ws : List MLine) (m : ℕ) (r : MRule) → AreWritten ls ws → slice_get (rules_in ws) m ≡ Some r → RuleLineAt ls m r
rule_line_at ls [] m r p g = absurd (none-some r g)
rule_line_at [] (w ∷ ws) m r p g = absurd p
rule_line_at (l ∷ ls) (Ruled x ∷ ws) zero r p g = first_rule l ls x r p.0 (same_Some x r g)
rule_line_at (l ∷ ls) (Ruled x ∷ ws) (suc m) r p g = next_rule l ls x r m p.0 (rule_line_at ls ws m r p.1 g)
rule_line_at (l ∷ ls) (Blank ∷ ws) m r p g = other_rule l ls Blank r m p.0 (λ x e. cc) (rule_line_at ls ws m r p.1 g)
rule_line_at (l ∷ ls) (Divides ∷ ws) m r p g = other_rule l ls Divides r m p.0 (λ x e. cc) (rule_line_at ls ws m r p.1 g)
rule_line_at (l ∷ ls) (Opens ∷ ws) m r p g = other_rule l ls Opens r m p.0 (λ x e. cc) (rule_line_at ls ws m r p.1 g)
rule_line_at (l ∷ ls) (Closes ∷ ws) m r p g = other_rule l ls Closes r m p.0 (λ x e. cc) (rule_line_at ls ws m r p.1 g)
rule_line_at (l ∷ ls) (Declared d ∷ ws) m r p g = other_rule l ls (Declared d) r m p.0 (λ x e. cc) (rule_line_at ls ws m r p.1 g)

-- ---- what the lines declare

pub numbered_is : (ts : List MNumbered) → numbered (terminal_tokens ts) ≡ ts
numbered_is [] = refl
numbered_is (t ∷ ts) = ap (λ us. t ∷ us) (numbered_is ts)

declared_here : (s : Section) (d : MDeclaration) → MayStand s (Declared d) → declared_by s (declaration_tokens d) ≡ terminals_in (Declared d ∷ [])
declared_here Head (Starts n) m = refl
declared_here Head (Declares ts) m = numbered_is ts ∙ sym (append-nil ts)
declared_here Declarations (Starts n) m = refl
declared_here Declarations (Declares ts) m = numbered_is ts ∙ sym (append-nil ts)
declared_here Prologue d m = absurd m
declared_here Rules d m = absurd m
declared_here Tail d m = absurd m

pub declared_not : (s : Section) (w : MLine) → MayStand s w → ((d : MDeclaration) → w ≡ Declared d → ⊥) → declared_by s (line_tokens w) ≡ []
declared_not s (Declared d) m not_it = absurd (not_it d refl)
declared_not Head Blank m not_it = refl
declared_not Head Divides m not_it = refl
declared_not Head Opens m not_it = refl
declared_not Head Closes m not_it = refl
declared_not Head (Ruled r) m not_it = refl
declared_not Declarations Blank m not_it = refl
declared_not Declarations Divides m not_it = refl
declared_not Declarations Opens m not_it = refl
declared_not Declarations Closes m not_it = refl
declared_not Declarations (Ruled r) m not_it = refl
declared_not Prologue w m not_it = refl
declared_not Rules w m not_it = refl
declared_not Tail w m not_it = refl

terminals_more : (d : MDeclaration) (ws : List MLine) → terminals_in (Declared d ∷ ws) ≡ terminals_in (Declared d ∷ []) ++ terminals_in ws
terminals_more (Starts n) ws = refl
terminals_more (Declares ts) ws = ap (λ us. us ++ terminals_in ws) (sym (append-nil ts))

declared_line : (l : TokenLine) (w : MLine) (ls : List TokenLine) (ws : List MLine) → IsLine l.section l.tokens w → ((d : MDeclaration) → w ≡ Declared d → ⊥) → terminals_in (w ∷ ws) ≡ terminals_in ws → declared_in ls ≡ terminals_in ws → declared_in (l ∷ ls) ≡ terminals_in (w ∷ ws)
declared_line l w ls ws p not_it e f =
    ap (λ us. us ++ declared_in ls) (ap (declared_by l.section) p.1 ∙ declared_not l.section w p.0 not_it) ∙ f ∙ sym e

-- the terminals of the lines are those that are written
pub same_terminals : (ls : List TokenLine) (ws : List MLine) → AreWritten ls ws → declared_in ls ≡ terminals_in ws
same_terminals [] [] p = refl
same_terminals [] (w ∷ ws) p = absurd p
same_terminals (l ∷ ls) [] p = absurd p
same_terminals (l ∷ ls) (Declared d ∷ ws) p =
    ap (λ us. us ++ declared_in ls) (ap (declared_by l.section) p.0.1 ∙ declared_here l.section d p.0.0)
    ∙ ap (λ us. terminals_in (Declared d ∷ []) ++ us) (same_terminals ls ws p.1) ∙ sym (terminals_more d ws)
same_terminals (l ∷ ls) (Blank ∷ ws) p = declared_line l Blank ls ws p.0 (λ d e. cc) refl (same_terminals ls ws p.1)
same_terminals (l ∷ ls) (Divides ∷ ws) p = declared_line l Divides ls ws p.0 (λ d e. cc) refl (same_terminals ls ws p.1)
same_terminals (l ∷ ls) (Opens ∷ ws) p = declared_line l Opens ls ws p.0 (λ d e. cc) refl (same_terminals ls ws p.1)
same_terminals (l ∷ ls) (Closes ∷ ws) p = declared_line l Closes ls ws p.0 (λ d e. cc) refl (same_terminals ls ws p.1)
same_terminals (l ∷ ls) (Ruled r ∷ ws) p = declared_line l (Ruled r) ls ws p.0 (λ d e. cc) refl (same_terminals ls ws p.1)
