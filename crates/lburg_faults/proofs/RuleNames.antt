-- The names of a rule, token by token.
use Rattle.std.proofs.Common.{◌≡◌, ◌<◌, ◌≤◌, ◌⊎◌, ℕ, ◌+◌, suc, max, Bool, true, false, List, [], ◌∷◌, ◌++◌, length, take, drop, Option, Some, None, refl, sym, ap, ◌∙◌, subst, inl, inr, arith, add-one}
use Rattle.std.specs.Prelude.{slice_get}
use Rattle.std.proofs.lemmas.Option.{same_Some, slice_get_within}
use Rattle.lcc_base.specs.declared.which.Which.TheVariants as which
use Rattle.lcc_text.specs.Names.{bytes_of, with_name}
use Rattle.lburg_lines.specs.declared.token.Sign.TheVariants.{Open}
use Rattle.lburg_lines.specs.Tokens.{Tok, Word, Mark, Bound}
use Rattle.lburg_lines.specs.Sections.{TokenLine}
use Rattle.lburg_faults.specs.declared.line_fault.LineFault.{LineFault}
use Rattle.lburg_faults.specs.declared.line_fault.LineFault.TheVariants as fault
use Rattle.lburg_faults.specs.declared.known.Known.{Known}
use Rattle.lburg_faults.specs.declared.found.Found.{Found}
use Rattle.lburg_faults.specs.Lines.{IsRules, InPattern, IsRuleLine, BeginsRule, InDeclarations, has_template}
use Rattle.lburg_faults.specs.Terminals.{Among}
use Rattle.lburg_faults.specs.Mentions.{MentionsAt, MentionedBefore}
use Rattle.lburg_faults.specs.Limits.{RuleCount, NoLine, OneRule, OtherLine, IsNonterminalLimit}
use Rattle.lburg_faults.specs.BadRule.{IsTerminalLeft}
use Rattle.lburg_faults.specs.LineFaults.{row_of}
use Rattle.lburg_faults.specs.Setting.{Setting}
use Rattle.lburg_faults.specs.Grammatical.{IsBegun}
use Rattle.lburg_faults.specs.Knowing.{Knows, Mentions, MentionedIn, NotRight}
use Rattle.lburg_faults.specs.Scans.{Rows, IsFirstOf, NoneOf, NameRows}
use Rattle.lburg_faults.specs.Naming.{NamedBefore, Fits, Adds, IsTooMany, LeftGives, NodeGives, TokenGives, NodesGive}
use Rattle.lburg_faults.proofs.RuleLists.{compare, not_less, at_end, at_front, in_front, no_more, with_among, with_itself, with_only, with_distinct, with_few}
use Rattle.lburg_faults.proofs.RulePatterns.{IsFirst, begins, begun_first, drop_first, drop_second, first_dropped, template_kept, fewer_templates, no_more_template}
use Rattle.lburg_faults.proofs.RuleTokens.{IsNoName, no_word}

-- ---- where names stand

-- a mention in a rule is a name there
pub word_of : (s : Setting) (l : TokenLine) (q : ℕ) (name : List ℕ) → IsRules l → MentionsAt s.terminals l q name → slice_get l.tokens q ≡ Some (Word name)
word_of s l q name r (inl h) = absurd (subst InDeclarations r h.1.0)
word_of s l q name r (inr h) = h.1

-- behind its first token it stands in the pattern
pub pattern_of : (s : Setting) (l : TokenLine) (q : ℕ) (name : List ℕ) → IsRules l → 1 ≤ q → MentionsAt s.terminals l q name → InPattern l q
pattern_of s l q name r p (inl h) = absurd (subst InDeclarations r h.1.0)
pattern_of s l q name r p (inr h) = elim h.0 [
  | inl a ↦ absurd (let e = a.1 in omega arith)
  | inr a ↦ a
]

-- it isn't a terminal's
pub none_of : (s : Setting) (l : TokenLine) (q : ℕ) (name : List ℕ) → IsRules l → MentionsAt s.terminals l q name → Among name s.terminals → ⊥
none_of s l q name r (inl h) = absurd (subst InDeclarations r h.1.0)
none_of s l q name r (inr h) = h.2

pub before_weaker : (s : Setting) (l : TokenLine) (q r : ℕ) (name : List ℕ) → q ≤ r → MentionedBefore s l q name → MentionedBefore s l r name
before_weaker s l q r name e (inl h) = inl h
before_weaker s l q r name e (inr h) = inr (h.0, (let k = h.1 in omega arith), h.2)

-- a name of the line, or of what stands before the place
pub before_more : (s : Setting) (l : TokenLine) (q : ℕ) (name : List ℕ) → MentionedBefore s l (q + 1) name → MentionedBefore s l q name ⊎ MentionsAt s.terminals l q name
before_more s l q name (inl h) = inl (inl h)
before_more s l q name (inr h) = elim (compare h.0 q) [
  | inl k ↦ inl (inr (h.0, k, h.2))
  | inr k ↦ elim k [
    | inl m ↦ inr (let P : ℕ → Type 0 = λ p. MentionsAt s.terminals l p name in subst P m h.2)
    | inr m ↦ absurd (let n = h.1 in omega arith)
  ]
]

-- ---- rows that stand at a place

-- behind the first token each row wants a name of the pattern
pub row_mentions : (s : Setting) (l : TokenLine) (other : LineFault) (q : ℕ) → IsRules l → 1 ≤ q → NameRows other s l q → (name : List ℕ) × MentionsAt s.terminals l q name
row_mentions s l fault.BadRule q r p h = absurd (let e = h.5 in omega arith)
row_mentions s l fault.UnknownTerminal q r p h = (h.0, inr (inr h.2, drop_first l.tokens (Mark Open ∷ h.1) q (Word h.0) h.3, h.4))
row_mentions s l (fault.Limit which.Nonterminals) q r p h = (h.name, h.here)
row_mentions s l (fault.Limit which.Rules) q r p h = absurd (let e = h.4 in omega arith)
row_mentions s l other q r p h = absurd h

-- a name that fits is no nonterminal too many
pub fits_no_limit : (s : Setting) (l : TokenLine) (q : ℕ) (names : List (List ℕ)) (name : List ℕ) → NamedBefore s l q names → IsRules l → slice_get l.tokens q ≡ Some (Word name) → Fits names name → IsNonterminalLimit s l q → ⊥
fits_no_limit s l q names name b r e f h =
    let w = word_of s l q h.name r h.here in
    let same : h.name ≡ name = (let t = same_Some (Word h.name) (Word name) (sym w ∙ e) in cc) in
    let new : Among name names → ⊥ = λ a. h.new (subst (MentionedBefore s l q) (sym same) (b.mentions name a)) in
    let few = f new in
    let many = h.many in
    let most = no_more h.others names h.once (λ x a. b.mentioned x (h.before x a)) in
    omega arith

pub too_many : (s : Setting) (l : TokenLine) (q : ℕ) (names : List (List ℕ)) (name : List ℕ) → NamedBefore s l q names → MentionsAt s.terminals l q name → IsTooMany names name → IsNonterminalLimit s l q
too_many s l q names name b m h = record {
  name = name;
  here = m;
  new = λ k. h.1 (b.mentioned name k);
  others = names;
  many = h.0;
  once = b.once;
  before = λ other a. b.mentions other a;
}

-- the first row at the place
pub first_at : (s : Setting) (l : TokenLine) (p : ℕ) (names : List (List ℕ)) (f : LineFault) → NamedBefore s l p names → NameRows f s l p → ((other : LineFault) → NameRows other s l p → row_of f ≤ row_of other) → IsFirstOf NameRows s l (p + 1) (record { place = p; fault = f })
first_at s l p names f b h k = record {
  within = omega arith;
  stands = h;
  least = λ other q g. here other q g (compare q p);
} where
  here : (other : LineFault) (q : ℕ) → NameRows other s l q → (q < p) ⊎ ((q ≡ p) ⊎ (p < q)) → NotRight p (row_of f) q (row_of other)
  here other q g (inl x) = absurd (b.none other q x g)
  here other q g (inr x) = elim x [
    | inl y ↦ inr (sym y, k other (let P : ℕ → Type 0 = λ z. NameRows other s l z in subst P y g))
    | inr y ↦ inl y
  ]

-- ---- one place further

-- where nothing is mentioned
pub quiet : (s : Setting) (l : TokenLine) (p r : ℕ) (names : List (List ℕ)) → NamedBefore s l p names → IsRules l → 1 ≤ p → p ≤ r → ((q : ℕ) (name : List ℕ) → p ≤ q → q < r → MentionsAt s.terminals l q name → ⊥) → NamedBefore s l r names
quiet s l p r names b i o le h = record {
  mentioned = λ name m. named name m;
  mentions = λ name a. before_weaker s l p r name le (b.mentions name a);
  once = b.once;
  few = b.few;
  none = λ other q less row. row_none other q less row (compare q p);
} where
  named : (name : List ℕ) → MentionedBefore s l r name → Among name names
  named name (inl m) = b.mentioned name (inl m)
  named name (inr m) = elim (compare m.0 p) [
    | inl x ↦ b.mentioned name (inr (m.0, x, m.2))
    | inr x ↦ absurd (h m.0 name (not_less m.0 p x) m.1 m.2)
  ]

  row_none : (other : LineFault) (q : ℕ) → q < r → NameRows other s l q → (q < p) ⊎ ((q ≡ p) ⊎ (p < q)) → ⊥
  row_none other q less row (inl x) = b.none other q x row
  row_none other q less row (inr x) = let e = not_less q p x in let m = row_mentions s l other q i (omega arith) row in h q m.0 e less m.1

-- where a name is added
pub added : (s : Setting) (l : TokenLine) (p : ℕ) (names new : List (List ℕ)) (name : List ℕ) → NamedBefore s l p names → IsRules l → MentionsAt s.terminals l p name → Adds names name new → ((other : LineFault) → NameRows other s l p → ⊥) → NamedBefore s l (p + 1) new
added s l p names new name b i m a h = subst (NamedBefore s l (p + 1)) (sym a.names) (record {
  mentioned = λ other k. named other (before_more s l p other k);
  mentions = λ other k. known other (with_only names name other k);
  once = with_distinct names name b.once;
  few = with_few names name 127 b.few a.fits;
  none = λ other q less row. elim (compare q p) [
    | inl x ↦ b.none other q x row
    | inr x ↦ elim x [
      | inl y ↦ h other (let P : ℕ → Type 0 = λ z. NameRows other s l z in subst P y row)
      | inr y ↦ absurd (omega arith)
    ]
  ];
}) where
  named : (other : List ℕ) → MentionedBefore s l p other ⊎ MentionsAt s.terminals l p other → Among other (with_name names name)
  named other (inl k) = with_among names name other (b.mentioned other k)
  named other (inr k) =
      let e : name ≡ other = (let t = same_Some (Word name) (Word other) (sym (word_of s l p name i m) ∙ word_of s l p other i k) in cc) in
      let P : List ℕ → Type 0 = λ x. Among x (with_name names name) in
      subst P e (with_itself names name)

  known : (other : List ℕ) → Among other names ⊎ (name ≡ other) → MentionedBefore s l (p + 1) other
  known other (inl k) = before_weaker s l p (p + 1) other (omega arith) (b.mentions other k)
  known other (inr k) = inr (p, omega arith, (let P : List ℕ → Type 0 = λ x. MentionsAt s.terminals l p x in subst P k m))

-- ---- the first token

-- how many rules stand before, once more
abbrev Counted : List TokenLine → ℕ → Type 0
Counted [] n = n ≡ 0
Counted (l ∷ ls) n = (m : ℕ) × RuleCount ls m × ((IsRuleLine l × (n ≡ m + 1)) ⊎ ((IsRuleLine l → ⊥) × (n ≡ m)))

counted : (ls : List TokenLine) (n : ℕ) → RuleCount ls n → Counted ls n
counted [] n NoLine = refl
counted (l ∷ ls) n (OneRule k ks m h c) = (m, c, inl (h, refl))
counted (l ∷ ls) n (OtherLine k ks m h c) = (m, c, inr (h, refl))

pub one_count : (ls : List TokenLine) (n m : ℕ) → RuleCount ls n → RuleCount ls m → n ≡ m
one_count [] n m a b = counted [] n a ∙ sym (counted [] m b)
one_count (l ∷ ls) n m a b =
    let x = counted (l ∷ ls) n a in
    let y = counted (l ∷ ls) m b in
    let e : x.0 ≡ y.0 = one_count ls x.0 y.0 x.1 y.1 in
    elim x.2 [
      | inl u ↦ elim y.2 [
        | inl v ↦ (let f = u.1 in let g = v.1 in omega arith)
        | inr v ↦ absurd (v.0 u.0)
      ]
      | inr u ↦ elim y.2 [
        | inl v ↦ absurd (u.0 v.0)
        | inr v ↦ (let f = u.1 in let g = v.1 in omega arith)
      ]
    ]

-- before the first token
pub at_start : (s : Setting) (l : TokenLine) (k : Known) → Knows s.terminals s.before k → NamedBefore s l 0 (bytes_of k.nonterminals)
at_start s l k w = record {
  mentioned = λ name m. named name m;
  mentions = λ name a. inl (w.mentions name a);
  once = w.mentioned_once;
  few = w.few_mentioned;
  none = λ other q less row. absurd (omega arith);
} where
  named : (name : List ℕ) → MentionedBefore s l 0 name → Among name (bytes_of k.nonterminals)
  named name (inl m) = w.mentioned name m
  named name (inr m) = absurd (let h = m.1 in omega arith)

-- no row stands at a left side that was noted
left_clear : (s : Setting) (l : TokenLine) (names : List (List ℕ)) (rules : ℕ) (name : List ℕ) → NamedBefore s l 0 names → RuleCount s.before rules → IsRules l → slice_get l.tokens 0 ≡ Some (Word name) → (Among name s.terminals → ⊥) → Fits names name → rules < 4095 → (other : LineFault) → NameRows other s l 0 → ⊥
left_clear s l names rules name b n i e a f r fault.BadRule h = a (let t : Word name ≡ Word h.0 = same_Some _ _ (sym e ∙ ap (λ (x : List Tok). slice_get x 0) h.3) in let u : h.0 ≡ name = cc in let P : List ℕ → Type 0 = λ x. Among x s.terminals in subst P u h.4)
left_clear s l names rules name b n i e a f r fault.UnknownTerminal h = (let k = h.2.1 in omega arith)
left_clear s l names rules name b n i e a f r (fault.Limit which.Nonterminals) h = fits_no_limit s l 0 names name b i e f h
left_clear s l names rules name b n i e a f r (fault.Limit which.Rules) h = (let k = one_count s.before rules h.0 n h.2 in let m = h.3 in omega arith)
left_clear s l names rules name b n i e a f r other h = h

-- the rows at a left side, behind which only some may stand
from_row : (s : Setting) (l : TokenLine) (row : ℕ) → row ≤ 3 → (NameRows fault.BadRule s l 0 → row ≤ 2) → (other : LineFault) → NameRows other s l 0 → row ≤ row_of other
from_row s l row h k fault.BadRule g = k g
from_row s l row h k fault.UnknownTerminal g = h
from_row s l row h k (fault.Limit which.Nonterminals) g = omega arith
from_row s l row h k (fault.Limit which.Rules) g = omega arith
from_row s l row h k other g = absurd g

-- a left side is no terminal's name
not_left : (s : Setting) (l : TokenLine) (p : ℕ) (name : List ℕ) → slice_get l.tokens 0 ≡ Some (Word name) → (Among name s.terminals → ⊥) → IsTerminalLeft s l p → ⊥
not_left s l p name e a h =
    let t : Word name ≡ Word h.0 = same_Some _ _ (sym e ∙ ap (λ (x : List Tok). slice_get x 0) h.3) in
    let u : h.0 ≡ name = cc in
    let P : List ℕ → Type 0 = λ x. Among x s.terminals in
    a (subst P u h.4)

left_mention : (s : Setting) (l : TokenLine) (name : List ℕ) → IsRules l → slice_get l.tokens 0 ≡ Some (Word name) → (Among name s.terminals → ⊥) → MentionsAt s.terminals l 0 name
left_mention s l name i e a = inr (inl (i, refl), e, a)

left_line : (l : TokenLine) (name : List ℕ) → slice_get l.tokens 0 ≡ Some (Word name) → (rest : List Tok) × (l.tokens ≡ Word name ∷ rest)
left_line l name e = (drop 1 l.tokens, first_dropped l.tokens 0 (Word name) e)

-- what a left side gave
pub left_gives : (s : Setting) (l : TokenLine) (names new : List (List ℕ)) (rules : ℕ) (name : List ℕ) (f : Option LineFault) → NamedBefore s l 0 names → RuleCount s.before rules → IsRules l → slice_get l.tokens 0 ≡ Some (Word name) → LeftGives s.terminals names rules name new f → TokenGives s l 0 new f
left_gives s l names new rules name None b n i e g = added s l 0 names new name b i (left_mention s l name i e g.0) g.1 (left_clear s l names rules name b n i e g.0 g.1.fits g.2)
left_gives s l names new rules name (Some fault.BadRule) b n i e g =
    let t = left_line l name e in
    first_at s l 0 names fault.BadRule b (name, t.0, i, t.1, g, refl) (λ other h. from_row s l 2 (omega arith) (λ x. omega arith) other h)
left_gives s l names new rules name (Some (fault.Limit which.Nonterminals)) b n i e g =
    first_at s l 0 names (fault.Limit which.Nonterminals) b (too_many s l 0 names name b (left_mention s l name i e g.0) g.1) (λ other h. later other h) where
      later : (other : LineFault) → NameRows other s l 0 → 10 ≤ row_of other
      later fault.BadRule h = absurd (not_left s l 0 name e g.0 h)
      later fault.UnknownTerminal h = absurd (let k = h.2.1 in omega arith)
      later (fault.Limit which.Nonterminals) h = omega arith
      later (fault.Limit which.Rules) h = omega arith
      later other h = absurd h
left_gives s l names new rules name (Some (fault.Limit which.Rules)) b n i e g =
    first_at s l 0 names (fault.Limit which.Rules) b (rules, (i, begins l.tokens name e), n, g.2, refl) (λ other h. later other h) where
      later : (other : LineFault) → NameRows other s l 0 → 11 ≤ row_of other
      later fault.BadRule h = absurd (not_left s l 0 name e g.0 h)
      later fault.UnknownTerminal h = absurd (let k = h.2.1 in omega arith)
      later (fault.Limit which.Nonterminals) h = absurd (fits_no_limit s l 0 names name b i e g.1 h)
      later (fault.Limit which.Rules) h = omega arith
      later other h = absurd h
left_gives s l names new rules name (Some other) b n i e g = absurd g

-- a border at the front, or nothing of a rule
border_clear : (s : Setting) (l : TokenLine) (t : Tok) → slice_get l.tokens 0 ≡ Some t → IsFirst t → IsNoName t → IsRules l → (other : LineFault) → NameRows other s l 0 → ⊥
border_clear s l t e f n i fault.BadRule h = no_word l.tokens 0 t h.0 e n (ap (λ (x : List Tok). slice_get x 0) h.3)
border_clear s l t e f n i fault.UnknownTerminal h = (let k = h.2.1 in omega arith)
border_clear s l t e f n i (fault.Limit which.Nonterminals) h = no_word l.tokens 0 t h.name e n (word_of s l 0 h.name i h.here)
border_clear s l t e f n i (fault.Limit which.Rules) h = no_rule l.tokens t e f n h.1.1 where
  no_rule : (ts : List Tok) (u : Tok) → slice_get ts 0 ≡ Some u → IsFirst u → IsNoName u → BeginsRule ts → ⊥
  no_rule [] u e f n b = b
  no_rule (x ∷ ts) (Bound y) e f n b = begins_not x y ts (same_Some x (Bound y) e) b where
    begins_not : (x : Tok) (y : _) (ts : List Tok) → x ≡ Bound y → BeginsRule (x ∷ ts) → ⊥
    begins_not x y ts e b = let P : Tok → Type 0 = λ z. BeginsRule (z ∷ ts) in subst P e b
  no_rule (x ∷ ts) (Word y) e f n b = n
  no_rule (x ∷ ts) u e f n b = f
border_clear s l t e f n i other h = h

-- no name stands first
pub no_left : (s : Setting) (l : TokenLine) (bound : ℕ) (names : List (List ℕ)) (t : Tok) → NamedBefore s l 0 names → IsRules l → 0 < bound → IsBegun l bound → slice_get l.tokens 0 ≡ Some t → IsNoName t → NamedBefore s l 1 names
no_left s l bound names t b i p g e n = record {
  mentioned = λ name m. named name (before_more s l 0 name m);
  mentions = λ name a. before_weaker s l 0 1 name (omega arith) (b.mentions name a);
  once = b.once;
  few = b.few;
  none = λ other q less row. (let z : q ≡ 0 = omega arith in let P : ℕ → Type 0 = λ x. NameRows other s l x in border_clear s l t e (begun_first l bound t i p e g) n i other (subst P z row));
} where
  named : (name : List ℕ) → MentionedBefore s l 0 name ⊎ MentionsAt s.terminals l 0 name → Among name names
  named name (inl m) = b.mentioned name m
  named name (inr m) = absurd (no_word l.tokens 0 t name e n (word_of s l 0 name i m))

-- what the first token gave, whatever is known
abbrev pub FirstGives : List Tok → Known → List (List ℕ) → Option LineFault → Type 0
FirstGives tokens k new f = (s : Setting) (l : TokenLine) (bound : ℕ) → Knows s.terminals s.before k → s.terminals ≡ bytes_of k.terminals → IsRules l → l.tokens ≡ tokens → 0 < bound → IsBegun l bound → TokenGives s l 0 new f

pub first_name : (tokens : List Tok) (k : Known) (new : List (List ℕ)) (name : List ℕ) → slice_get tokens 0 ≡ Some (Word name) → (f : Option LineFault) → LeftGives (bytes_of k.terminals) (bytes_of k.nonterminals) k.rules name new f → FirstGives tokens k new f
first_name tokens k new name t f g s l bound w e i ts p b =
    let P : List (List ℕ) → Type 0 = λ terminals. LeftGives terminals (bytes_of k.nonterminals) k.rules name new f in
    left_gives s l (bytes_of k.nonterminals) new k.rules name f (at_start s l k w) w.rules i (ap (λ (x : List Tok). slice_get x 0) ts ∙ t) (subst P (sym e) g)

pub first_other : (tokens : List Tok) (k : Known) (t : Tok) → slice_get tokens 0 ≡ Some t → IsNoName t → FirstGives tokens k (bytes_of k.nonterminals) None
first_other tokens k t h n s l bound w e i ts p b =
    no_left s l bound (bytes_of k.nonterminals) t (at_start s l k w) i p b (ap (λ (x : List Tok). slice_get x 0) ts ∙ h) n

-- ---- the tokens of the pattern

-- what a name of the pattern gave
pub node_gives : (s : Setting) (l : TokenLine) (p : ℕ) (names new : List (List ℕ)) (name : List ℕ) (operands : Bool) (f : Option LineFault) → NamedBefore s l p names → InPattern l p → slice_get l.tokens p ≡ Some (Word name) → (operands ≡ true → slice_get l.tokens (p + 1) ≡ Some (Mark Open)) → (operands ≡ false → slice_get l.tokens (p + 1) ≡ Some (Mark Open) → ⊥) → NodeGives s.terminals names name operands new f → TokenGives s l p new f
node_gives s l p names new name operands None b i e one none g = elim g [
  | inl a ↦ subst (NamedBefore s l (p + 1)) (sym a.1) (quiet s l p (p + 1) names b i.0 (let k = i.1 in omega arith) (omega arith) (λ q other x y m. (let z : q ≡ p = omega arith in let P : ℕ → Type 0 = λ x. slice_get l.tokens x ≡ Some (Word other) in let t = same_Some _ _ (sym e ∙ subst P z (word_of s l q other i.0 m)) in let u : name ≡ other = cc in let Q : List ℕ → Type 0 = λ x. Among x s.terminals in none_of s l q other i.0 m (subst Q u a.0))))
  | inr a ↦ added s l p names new name b i.0 (inr (inr i, e, a.0)) a.2 (λ other h. clear other h a.1 a.2.fits)
] where
  clear : (other : LineFault) → NameRows other s l p → operands ≡ false → Fits names name → ⊥
  clear fault.BadRule h o f = (let k = h.5 in let m = i.1 in omega arith)
  clear fault.UnknownTerminal h o f = none o (drop_second l.tokens h.1 p (Word h.0) (Mark Open) h.3)
  clear (fault.Limit which.Nonterminals) h o f = fits_no_limit s l p names name b i.0 e f h
  clear (fault.Limit which.Rules) h o f = (let k = h.4 in let m = i.1 in omega arith)
  clear other h o f = h
node_gives s l p names new name operands (Some fault.UnknownTerminal) b i e one none g =
    let d : drop p l.tokens ≡ Word name ∷ (Mark Open ∷ drop (suc (suc p)) l.tokens) = first_dropped l.tokens p (Word name) e ∙ ap (λ (x : List Tok). Word name ∷ x) (first_dropped l.tokens (suc p) (Mark Open) (rw add-one at one g.1)) in
    first_at s l p names fault.UnknownTerminal b (name, drop (suc (suc p)) l.tokens, i, d, g.0) (λ other h. later other h) where
      later : (other : LineFault) → NameRows other s l p → 3 ≤ row_of other
      later fault.BadRule h = absurd (let k = h.5 in let m = i.1 in omega arith)
      later fault.UnknownTerminal h = omega arith
      later (fault.Limit which.Nonterminals) h = omega arith
      later (fault.Limit which.Rules) h = omega arith
      later other h = absurd h
node_gives s l p names new name operands (Some (fault.Limit which.Nonterminals)) b i e one none g =
    first_at s l p names (fault.Limit which.Nonterminals) b (too_many s l p names name b (inr (inr i, e, g.0)) g.2) (λ other h. later other h) where
      later : (other : LineFault) → NameRows other s l p → 10 ≤ row_of other
      later fault.BadRule h = absurd (let k = h.5 in let m = i.1 in omega arith)
      later fault.UnknownTerminal h = absurd (none g.1 (drop_second l.tokens h.1 p (Word h.0) (Mark Open) h.3))
      later (fault.Limit which.Nonterminals) h = omega arith
      later (fault.Limit which.Rules) h = omega arith
      later other h = absurd h
node_gives s l p names new name operands (Some other) b i e one none g = absurd g

-- a token that is no name
pub other_gives : (s : Setting) (l : TokenLine) (p : ℕ) (names : List (List ℕ)) (t : Tok) → NamedBefore s l p names → InPattern l p → slice_get l.tokens p ≡ Some t → IsNoName t → NamedBefore s l (p + 1) names
other_gives s l p names t b i e n =
    quiet s l p (p + 1) names b i.0 (let k = i.1 in omega arith) (omega arith) (λ q other x y m. (let z : q ≡ p = omega arith in let P : ℕ → Type 0 = λ x. slice_get l.tokens x ≡ Some (Word other) in no_word l.tokens p t other e n (subst P z (word_of s l q other i.0 m))))

pub within : (rows : Rows) (s : Setting) (l : TokenLine) (a b : ℕ) (found : Found) → a ≤ b → IsFirstOf rows s l a found → IsFirstOf rows s l b found
within rows s l a b found le f = record { within = (let k = f.within in omega arith); stands = f.stands; least = f.least }

-- what a token of the pattern gave
abbrev pub PatternGives : List Tok → ℕ → List (List ℕ) → List (List ℕ) → List (List ℕ) → Option LineFault → Type 0
PatternGives tokens p terminals names new f = (s : Setting) (l : TokenLine) → s.terminals ≡ terminals → l.tokens ≡ tokens → InPattern l p → NamedBefore s l p names → TokenGives s l p new f

pub token_name : (tokens : List Tok) (p : ℕ) (terminals names new : List (List ℕ)) (name : List ℕ) (operands : Bool) → slice_get tokens p ≡ Some (Word name) → (operands ≡ true → slice_get tokens (p + 1) ≡ Some (Mark Open)) → (operands ≡ false → slice_get tokens (p + 1) ≡ Some (Mark Open) → ⊥) → (f : Option LineFault) → NodeGives terminals names name operands new f → PatternGives tokens p terminals names new f
token_name tokens p terminals names new name operands t one none f g s l e ts i b =
    let P : List (List ℕ) → Type 0 = λ x. NodeGives x names name operands new f in
    node_gives s l p names new name operands f b i (ap (λ (x : List Tok). slice_get x p) ts ∙ t) (λ o. ap (λ (x : List Tok). slice_get x (p + 1)) ts ∙ one o) (λ o h. none o (sym (ap (λ (x : List Tok). slice_get x (p + 1)) ts) ∙ h)) (subst P (sym e) g)

pub token_other : (tokens : List Tok) (p : ℕ) (terminals names : List (List ℕ)) (t : Tok) → slice_get tokens p ≡ Some t → IsNoName t → PatternGives tokens p terminals names names None
token_other tokens p terminals names t h n s l e ts i b = other_gives s l p names t b i (ap (λ (x : List Tok). slice_get x p) ts ∙ h) n

-- the same, where what is known before has the terminals of what was known at first
pub patterned : (tokens : List Tok) (p : ℕ) (mid first : Known) (new : List (List ℕ)) (f g : Option LineFault) → f ≡ g → mid.terminals ≡ first.terminals → PatternGives tokens p (bytes_of mid.terminals) (bytes_of mid.nonterminals) new f → PatternGives tokens p (bytes_of first.terminals) (bytes_of mid.nonterminals) new g
patterned tokens p mid first new f g e t h =
    let P : Option LineFault → Type 0 = λ x. PatternGives tokens p (bytes_of first.terminals) (bytes_of mid.nonterminals) new x in
    let Q : List (List ℕ) → Type 0 = λ ts. PatternGives tokens p ts (bytes_of mid.nonterminals) new f in
    subst P e (subst Q (ap (λ (x : _). bytes_of x) t) h)

-- what is noted before a place of the pattern
abbrev pub NotedTo : List Tok → ℕ → ℕ → List (List ℕ) → List (List ℕ) → List (List ℕ) → Type 0
NotedTo tokens end p terminals names new = (s : Setting) (l : TokenLine) → s.terminals ≡ terminals → IsRules l → l.tokens ≡ tokens → has_template (take end l.tokens) ≡ false → NamedBefore s l 2 names → NamedBefore s l p new

pub noted_more : (tokens : List Tok) (end p : ℕ) (terminals names mid new : List (List ℕ)) → NotedTo tokens end p terminals names mid → 2 ≤ p → p < end → PatternGives tokens p terminals mid new None → NotedTo tokens end (p + 1) terminals names new
noted_more tokens end p terminals names mid new h o le g s l e i ts t b = g s l e ts (i, o, fewer_templates l.tokens p end (omega arith) t) (h s l e i ts t b)

-- what the tokens of a pattern before its end gave
abbrev pub AllGive : List Tok → ℕ → List (List ℕ) → List (List ℕ) → List (List ℕ) → Option Found → Type 0
AllGive tokens end terminals names new f = (s : Setting) (l : TokenLine) → s.terminals ≡ terminals → IsRules l → l.tokens ≡ tokens → has_template (take end l.tokens) ≡ false → NamedBefore s l 2 names → NodesGive s l end new f

pub all_noted : (tokens : List Tok) (end p : ℕ) (terminals names new : List (List ℕ)) → NotedTo tokens end p terminals names new → p ≡ max 2 end → AllGive tokens end terminals names new None
all_noted tokens end p terminals names new h q s l e i ts t b = subst (λ (x : ℕ). NamedBefore s l x new) q (h s l e i ts t b)

pub one_found : (tokens : List Tok) (end p : ℕ) (terminals names mid new : List (List ℕ)) (f : LineFault) → NotedTo tokens end p terminals names mid → 2 ≤ p → p < end → PatternGives tokens p terminals mid new (Some f) → AllGive tokens end terminals names new (Some (record { place = p; fault = f }))
one_found tokens end p terminals names mid new f h o le g s l e i ts t b =
    within NameRows s l (p + 1) end (record { place = p; fault = f }) (omega arith) (g s l e ts (i, o, fewer_templates l.tokens p end (omega arith) t) (h s l e i ts t b))

-- ---- the whole rule

-- between the first token and the pattern nothing is mentioned
pub to_pattern : (s : Setting) (l : TokenLine) (names : List (List ℕ)) → NamedBefore s l 1 names → IsRules l → NamedBefore s l 2 names
to_pattern s l names b i = quiet s l 1 2 names b i (omega arith) (omega arith) (λ q name x y m. (let k = (pattern_of s l q name i (omega arith) m).1 in omega arith))

-- nor is anything behind it
pub to_bound : (s : Setting) (l : TokenLine) (end bound : ℕ) (names : List (List ℕ)) → NamedBefore s l (max 2 end) names → IsRules l → end ≤ bound → (end < bound → has_template (take (end + 1) l.tokens) ≡ true) → NamedBefore s l (max 2 bound) names
to_bound s l end bound names b i le h =
    quiet s l (max 2 end) (max 2 bound) names b i (omega arith) (omega arith) (λ q name x y m.
    (let p = pattern_of s l q name i (omega arith) m in
    let low = p.1 in
    let few : end < bound = omega arith in
    let t = no_more_template l.tokens q (Word name) (word_of s l q name i m) tt p.2 in
    let u = template_kept l.tokens (end + 1) (suc q) (omega arith) (h few) in
    absurd cc))

pub none_scanned : (s : Setting) (l : TokenLine) (bound top : ℕ) (names : List (List ℕ)) → NamedBefore s l top names → bound ≤ top → NoneOf NameRows s l bound
none_scanned s l bound top names b le other q less row = b.none other q (omega arith) row

-- what is mentioned by the lines before and a whole line
pub all_mentioned : (s : Setting) (l : TokenLine) (top : ℕ) (names : List (List ℕ)) → NamedBefore s l top names → IsRules l → length l.tokens ≤ top → (name : List ℕ) → MentionedIn s.terminals (s.before ++ l ∷ []) name → Among name names
all_mentioned s l top names b i le name m = elim (in_front s.before l m.0 m.2 m.3) [
  | inl x ↦ b.mentioned name (inl (m.0, m.1, m.2, x, m.4))
  | inr x ↦
      (let P : TokenLine → Type 0 = λ k. MentionsAt s.terminals k m.1 name in
      let h : MentionsAt s.terminals l m.1 name = subst P (sym x.1) m.4 in
      let k = slice_get_within l.tokens m.1 (Word name) (word_of s l m.1 name i h) in
      b.mentioned name (inr (m.1, omega arith, h)))
]

pub all_mention : (s : Setting) (l : TokenLine) (top : ℕ) (names : List (List ℕ)) → NamedBefore s l top names → (name : List ℕ) → Among name names → MentionedIn s.terminals (s.before ++ l ∷ []) name
all_mention s l top names b name a = elim (b.mentions name a) [
  | inl x ↦ (x.0, x.1, x.2, at_front s.before (l ∷ []) x.0 x.2 x.3, x.4)
  | inr x ↦ (length s.before, x.0, l, at_end s.before l, x.2)
]

pub mentions_of : (s : Setting) (l : TokenLine) (top : ℕ) (old new : Known) → NamedBefore s l top (bytes_of new.nonterminals) → IsRules l → length l.tokens ≤ top → new.terminals ≡ old.terminals → new.numbers ≡ old.numbers → new.arities ≡ old.arities → new.start ≡ old.start → new.rules ≡ old.rules → Mentions s l old new
mentions_of s l top old new b i le t n a st r = record {
  terminals = t;
  numbers = n;
  arities = a;
  start = st;
  rules = r;
  mentioned = all_mentioned s l top (bytes_of new.nonterminals) b i le;
  mentions = all_mention s l top (bytes_of new.nonterminals) b;
  mentioned_once = b.once;
  few_mentioned = b.few;
}
