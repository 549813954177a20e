-- What is known behind a line.
use Rattle.std.proofs.Common.{◌≡◌, ◌<◌, ◌+◌, ℕ, zero, suc, List, [], ◌∷◌, ◌++◌, length, Option, Some, None, refl, sym, ap, ◌∙◌, subst, arith, ◌⊎◌, inl, inr}
use Rattle.std.specs.Prelude.{slice_get}
use Rattle.std.proofs.lemmas.Option.{slice_get_within, none-some}
use Rattle.lcc_text.specs.Names.{bytes_of}
use Rattle.lburg_lines.specs.declared.section.Section.{Section}
use Rattle.lburg_lines.specs.declared.section.Section.TheVariants.{Head, Declarations}
use Rattle.lburg_lines.specs.declared.token.Border.TheVariants.{Divider, PrologueStart, PrologueEnd}
use Rattle.lburg_lines.specs.Tokens.{Tok, Bound}
use Rattle.lburg_lines.specs.Grammar.{MLine, MRule, Blank, Divides, Opens, Closes, Declared, Ruled, MNumbered, MayStand, IsLine}
use Rattle.lburg_lines.specs.Sections.{TokenLine}
use Rattle.lburg_faults.specs.declared.known.Known.{Known}
use Rattle.lburg_faults.specs.declared.known.StartSymbol.{StartSymbol}
use Rattle.lburg_faults.specs.Lines.{IsRules, InDeclarations, IsRuleLine, BeginsRule}
use Rattle.lburg_faults.specs.Terminals.{Among, declared_by, declared_in, names_of, numbers_of}
use Rattle.lburg_faults.specs.Mentions.{MentionsAt}
use Rattle.lburg_faults.specs.Limits.{AreDistinct, RuleCount, NoLine, OneRule, OtherLine}
use Rattle.lburg_faults.specs.Uses.{IsFirstUse}
use Rattle.lburg_faults.specs.Setting.{Setting}
use Rattle.lburg_faults.specs.Knowing.{Knows, IsStartIn, Mentions, Uses}
use Rattle.lburg_faults.specs.KnowsUses.{KnowsUses}
use Rattle.lburg_faults.specs.LineEnds.{IsSilent, Counts}
use Rattle.lburg_faults.proofs.EndingTokens.{get_append}
use Rattle.lburg_faults.proofs.EndingUses.{declares_not}
use Rattle.lburg_faults.proofs.EndingTables.{silent_quiet}

-- ---- one line more

-- a line of them is one of those before, or the last
at_end : {T : Type 0} (xs : List T) (y : T) (i : ℕ) (x : T) → slice_get (xs ++ y ∷ []) i ≡ Some x → (slice_get xs i ≡ Some x) ⊎ ((i ≡ length xs) × (x ≡ y))
at_end {T} [] y zero x h = inr (refl, (cc))
at_end {T} [] y (suc i) x h = absurd (none-some x h)
at_end {T} (z ∷ xs) y zero x h = inl h
at_end {T} (z ∷ xs) y (suc i) x h = elim (at_end xs y i x h) [
  | inl m ↦ inl m
  | inr m ↦ (let e = m.0 in inr (omega arith, m.1))
]

declared_more : (before : List TokenLine) (l : TokenLine) → declared_by l.section l.tokens ≡ [] → declared_in (before ++ l ∷ []) ≡ declared_in before
declared_more [] l h = ap (λ (ts : List MNumbered). ts ++ []) h
declared_more (k ∷ before) l h = ap (λ (ts : List MNumbered). declared_by k.section k.tokens ++ ts) (declared_more before l h)

declares_none : (section : Section) (ts : List Tok) → (InDeclarations section → ⊥) → declared_by section ts ≡ []
declares_none Head ts h = absurd (h tt)
declares_none Declarations ts h = absurd (h tt)
declares_none section ts h = refl

start_more : (before : List TokenLine) (l : TokenLine) (o : Option StartSymbol) → (InDeclarations l.section → ⊥) → IsStartIn before o → IsStartIn (before ++ l ∷ []) o
start_more before l None n h = λ i k ts e st. elim (at_end before l i k e) [
  | inl m ↦ h i k ts m st
  | inr m ↦ n (subst (λ (x : TokenLine). InDeclarations x.section) m.1 st.0)
]
start_more before l (Some x) n h = (h.0, h.1, h.2, get_append before (l ∷ []) h.0 h.1 h.3, h.4, h.5)

first_use_more : (before : List TokenLine) (l : TokenLine) (name : List ℕ) (n : ℕ) → IsFirstUse before name n → IsFirstUse (before ++ l ∷ []) name n
first_use_more before l name n f = record {
  index = f.index;
  line = f.line;
  place = f.place;
  last = f.last;
  there = get_append before (l ∷ []) f.index f.line f.there;
  is_use = f.is_use;
  earlier = λ i k p q m h e u. elim (at_end before l i k e) [
    | inl x ↦ f.earlier i k p q m h x u
    | inr x ↦ (let a = x.0 in let b = slice_get_within before f.index f.line f.there in absurd (omega arith))
  ];
  left = f.left;
}

first_use_less : (before : List TokenLine) (l : TokenLine) (name : List ℕ) (n : ℕ) → (IsRules l → ⊥) → IsFirstUse (before ++ l ∷ []) name n → IsFirstUse before name n
first_use_less before l name n r f = elim (at_end before l f.index f.line f.there) [
  | inl x ↦ record {
    index = f.index;
    line = f.line;
    place = f.place;
    last = f.last;
    there = x;
    is_use = f.is_use;
    earlier = λ i k p q m h e u. f.earlier i k p q m h (get_append before (l ∷ []) i k e) u;
    left = f.left;
  }
  | inr x ↦ absurd (r (subst IsRules x.1 f.is_use.in_pattern.0))
]

rule_more : {before : List TokenLine} {n : ℕ} (l : TokenLine) → IsRuleLine l → RuleCount before n → RuleCount (before ++ l ∷ []) (n + 1)
rule_more l is NoLine = OneRule l [] 0 is NoLine
rule_more l is (OneRule k ks n h r) = OneRule k (ks ++ l ∷ []) (n + 1) h (rule_more l is r)
rule_more l is (OtherLine k ks n h r) = OtherLine k (ks ++ l ∷ []) (n + 1) h (rule_more l is r)

other_more : {before : List TokenLine} {n : ℕ} (l : TokenLine) → (IsRuleLine l → ⊥) → RuleCount before n → RuleCount (before ++ l ∷ []) n
other_more l is NoLine = OtherLine l [] 0 is NoLine
other_more l is (OneRule k ks n h r) = OneRule k (ks ++ l ∷ []) n h (other_more l is r)
other_more l is (OtherLine k ks n h r) = OtherLine k (ks ++ l ∷ []) n h (other_more l is r)

-- ---- a line without names

mentions_none : (terminals : List (List ℕ)) (l : TokenLine) (p : ℕ) (name : List ℕ) → IsSilent l.section → MentionsAt terminals l p name → ⊥
mentions_none terminals l p name h (inl m) = (silent_quiet l h).1 m.1.0
mentions_none terminals l p name h (inr m) = elim m.0 [
  | inl r ↦ (silent_quiet l h).0 r.0
  | inr r ↦ (silent_quiet l h).0 r.0
]

pub known_silent : (terminals : List (List ℕ)) (before : List TokenLine) (l : TokenLine) (k : Known) → IsSilent l.section → Knows terminals before k → Knows terminals (before ++ l ∷ []) k
known_silent terminals before l k h x =
    let quiet = silent_quiet l h in
    let same = declared_more before l (declares_none l.section l.tokens quiet.1) in
    record {
      names = x.names ∙ ap names_of (sym same);
      numbers = x.numbers ∙ ap numbers_of (sym same);
      small_numbers = x.small_numbers;
      names_once = x.names_once;
      few = x.few;
      mentioned = λ name m. elim (at_end before l m.0 m.2 m.3) [
        | inl y ↦ x.mentioned name (m.0, m.1, m.2, y, m.4)
        | inr y ↦ absurd (mentions_none terminals l m.1 name h (subst (λ (z : TokenLine). MentionsAt terminals z m.1 name) y.1 m.4))
      ];
      mentions = λ name m. (let y = x.mentions name m in (y.0, y.1, y.2, get_append before (l ∷ []) y.0 y.2 y.3, y.4));
      mentioned_once = x.mentioned_once;
      few_mentioned = x.few_mentioned;
      start = start_more before l k.start quiet.1 x.start;
      noted = x.noted;
      arities = λ i n name a b. first_use_more before l name n (x.arities i n name a b);
      used = λ i n name a b. x.used i n name a (first_use_less before l name n quiet.0 b);
      rules = other_more l (λ r. quiet.0 r.0) x.rules;
    }

-- ---- a line of the rules

pub known_uses : (terminals : List (List ℕ)) (before : List TokenLine) (old new : Known) → Knows terminals before old → new.terminals ≡ old.terminals → new.arities ≡ old.arities → KnowsUses before new
known_uses terminals before old new x t a =
    let e : bytes_of new.terminals ≡ bytes_of old.terminals = rw t refl in
    let f : new.arities.items ≡ old.arities.items = rw a refl in
    record {
      names = e ∙ x.names;
      names_once = subst (λ (xs : List (List ℕ)). AreDistinct xs) (sym e) x.names_once;
      noted = ap length f ∙ x.noted ∙ ap length (sym e);
      arities = λ i n name g h. x.arities i n name (ap (λ (xs : List (List ℕ)). slice_get xs i) (sym e) ∙ g) (ap (λ (xs : List (Option ℕ)). slice_get xs i) (sym f) ∙ h);
      used = λ i n name g h. ap (λ (xs : List (Option ℕ)). slice_get xs i) f ∙ x.used i n name (ap (λ (xs : List (List ℕ)). slice_get xs i) (sym e) ∙ g) h;
    }

not_rule : (l : TokenLine) (ts : List Tok) → l.tokens ≡ ts → (BeginsRule ts → ⊥) → IsRuleLine l → ⊥
not_rule l ts e h r = h (subst BeginsRule e r.1)

pub is_rule : (l : TokenLine) (x : MRule) → IsRules l → IsLine l.section l.tokens (Ruled x) → IsRuleLine l
is_rule l x r is = (r, subst BeginsRule (sym is.1) tt)

as_before : (before : List TokenLine) (l : TokenLine) (n m : ℕ) → RuleCount before n → (IsRuleLine l → ⊥) → m ≡ n → RuleCount (before ++ l ∷ []) m
as_before before l n m c h e = subst (λ (i : ℕ). RuleCount (before ++ l ∷ []) i) (sym e) (other_more l h c)

counted_line : (before : List TokenLine) (l : TokenLine) (line : MLine) (n m : ℕ) → IsRules l → IsLine l.section l.tokens line → RuleCount before n
    → ((r : MRule) → line ≡ Ruled r → m ≡ n + 1) → (((r : MRule) → line ≡ Ruled r → ⊥) → m ≡ n) → RuleCount (before ++ l ∷ []) m
counted_line before l Blank n m r is c h k = as_before before l n m c (not_rule l [] is.1 (λ x. x)) (k (λ y e. cc))
counted_line before l Divides n m r is c h k = as_before before l n m c (not_rule l (Bound Divider ∷ []) is.1 (λ x. x)) (k (λ y e. cc))
counted_line before l Opens n m r is c h k = as_before before l n m c (not_rule l (Bound PrologueStart ∷ []) is.1 (λ x. x)) (k (λ y e. cc))
counted_line before l Closes n m r is c h k = as_before before l n m c (not_rule l (Bound PrologueEnd ∷ []) is.1 (λ x. x)) (k (λ y e. cc))
counted_line before l (Declared d) n m r is c h k = absurd (subst (λ (x : Section). MayStand x (Declared d)) r is.0)
counted_line before l (Ruled x) n m r is c h k = subst (λ (i : ℕ). RuleCount (before ++ l ∷ []) i) (sym (h x refl)) (rule_more l (is_rule l x r is) c)

pub known_rule : (s : Setting) (l : TokenLine) (line : MLine) (old mid used new : Known) → IsRules l → IsLine l.section l.tokens line → ((r : MRule) → line ≡ Ruled r → old.rules < 4095)
    → Knows s.terminals s.before old → Mentions s l old mid → Uses s l mid used → Counts line used new → Knows s.terminals (s.before ++ l ∷ []) new
known_rule s l line old mid used new r is few x m u c =
    let quiet : InDeclarations l.section → ⊥ = λ d. declares_not l.section d r in
    let same = declared_more s.before l (declares_none l.section l.tokens quiet) in
    let e : bytes_of new.terminals ≡ bytes_of old.terminals = rw (c.terminals, u.terminals, m.terminals) refl in
    let mids : bytes_of mid.terminals ≡ bytes_of new.terminals = rw (c.terminals, u.terminals) refl in
    let numbers : new.numbers.keys ≡ old.numbers.keys = rw (c.numbers, u.numbers, m.numbers) refl in
    let others : bytes_of new.nonterminals ≡ bytes_of mid.nonterminals = rw (c.nonterminals, u.nonterminals) refl in
    let arities : new.arities.items ≡ used.arities.items = rw c.arities refl in
    let first : mid.arities.items ≡ old.arities.items = rw m.arities refl in
    let start : new.start ≡ old.start = c.start ∙ u.start ∙ m.start in
    let count : used.rules ≡ old.rules = u.rules ∙ m.rules in
    record {
      names = e ∙ x.names ∙ ap names_of (sym same);
      numbers = numbers ∙ x.numbers ∙ ap numbers_of (sym same);
      small_numbers = λ i n h. x.small_numbers i n (ap (λ (xs : List ℕ). slice_get xs i) (sym numbers) ∙ h);
      names_once = subst (λ (xs : List (List ℕ)). AreDistinct xs) (sym e) x.names_once;
      few = (let a = x.few in let b = ap length e in omega arith);
      mentioned = λ name h. subst (λ (xs : List (List ℕ)). Among name xs) (sym others) (m.mentioned name h);
      mentions = λ name h. m.mentions name (subst (λ (xs : List (List ℕ)). Among name xs) others h);
      mentioned_once = subst (λ (xs : List (List ℕ)). AreDistinct xs) (sym others) m.mentioned_once;
      few_mentioned = (let a = m.few_mentioned in let b = ap length others in omega arith);
      start = start_more s.before l new.start quiet (subst (λ (o : Option StartSymbol). IsStartIn s.before o) (sym start) x.start);
      noted = ap length arities ∙ u.noted ∙ ap length first ∙ x.noted ∙ ap length (sym e);
      arities = λ i n name g h. u.arities i n name (ap (λ (xs : List (List ℕ)). slice_get xs i) mids ∙ g) (ap (λ (xs : List (Option ℕ)). slice_get xs i) (sym arities) ∙ h);
      used = λ i n name g h. ap (λ (xs : List (Option ℕ)). slice_get xs i) arities ∙ u.used i n name (ap (λ (xs : List (List ℕ)). slice_get xs i) mids ∙ g) h;
      rules = counted_line s.before l line old.rules new.rules r is x.rules
          (λ y f. c.rule y f (let b = few y f in omega arith) ∙ ap (λ (n : ℕ). n + 1) count)
          (λ f. c.other f ∙ count);
    }
