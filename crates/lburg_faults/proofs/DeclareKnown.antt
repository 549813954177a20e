-- What is known behind a line of declarations.
use Rattle.std.proofs.Common.{◌≡◌, ◌<◌, ◌≤◌, ◌⊎◌, inl, inr, ℕ, ◌+◌, zero, suc, List, [], ◌∷◌, ◌++◌, map, Option, Some, None, refl, sym, ap, ◌∙◌, subst, length, length-append, append_assoc, get_or, arith}
use Rattle.std.specs.Prelude.{slice_get}
use Rattle.std.proofs.lemmas.Option.{none-some, same_Some, slice_get_within, slice_get-get_or}
use Rattle.std.proofs.lemmas.List.{append-nil, map-append, length-map}
use Rattle.lcc_text.specs.Names.{bytes_of, with_name}
use Rattle.lburg_lines.specs.Tokens.{Tok, Word}
use Rattle.lburg_lines.specs.Grammar.{MNumbered}
use Rattle.lburg_lines.specs.Sections.{TokenLine}
use Rattle.lcc_text.specs.Decimal.{value_of}
use Rattle.lburg_faults.specs.declared.known.Known.{Known}
use Rattle.lburg_faults.specs.declared.known.StartSymbol.{StartSymbol}
use Rattle.lburg_faults.specs.Lines.{InDeclarations, IsRules, IsRuleLine, StartLine}
use Rattle.lburg_faults.specs.Terminals.{Among, declared_by, declared_in, names_of, numbers_of}
use Rattle.lburg_faults.specs.Mentions.{MentionsAt}
use Rattle.lburg_faults.specs.Limits.{AreDistinct, RuleCount, NoLine, OneRule, OtherLine}
use Rattle.lburg_faults.specs.Uses.{IsFirstUse}
use Rattle.lburg_faults.specs.Knowing.{Knows, MentionedIn, IsStartIn}
use Rattle.lburg_faults.specs.Declaring.{names_among, numbers_among, Adds}
use Rattle.lburg_faults.proofs.RuleLists.{at_end, at_front, in_front, with_among, with_itself, with_only, with_distinct, with_few}
use Rattle.lburg_faults.proofs.DeclareFits.{Good}
use Rattle.lburg_faults.proofs.DeclareRows.{not_rules}
use Rattle.lburg_faults.proofs.DeclareStart.{Named, start_line, mentioned_at, same_word}

abbrev pub NoRules : List TokenLine → Type 0
NoRules lines = (i : ℕ) (k : TokenLine) → slice_get lines i ≡ Some k → IsRules k → ⊥

-- no line of declarations stands among the rules
no_rules_more : (before : List TokenLine) (l : TokenLine) → NoRules before → InDeclarations l.section → NoRules (before ++ l ∷ [])
no_rules_more before l h d i k e r = elim (in_front before l i k e) [
  | inl a ↦ h i k a r
  | inr a ↦ not_rules l d (subst IsRules (sym a.1) r)
]

no_use : (lines : List TokenLine) (name : List ℕ) (n : ℕ) → NoRules lines → IsFirstUse lines name n → ⊥
no_use lines name n h u = h u.index u.line u.there u.is_use.in_pattern.0

pub declared_more : (before : List TokenLine) (l : TokenLine) → declared_in (before ++ l ∷ []) ≡ declared_in before ++ declared_by l.section l.tokens
declared_more [] l = append-nil (declared_by l.section l.tokens)
declared_more (k ∷ ks) l = ap (λ (x : List MNumbered). declared_by k.section k.tokens ++ x) (declared_more ks l) ∙ sym (append_assoc (declared_by k.section k.tokens) (declared_in ks) (declared_by l.section l.tokens))

pub rules_more : (before : List TokenLine) (l : TokenLine) (n : ℕ) → (IsRuleLine l → ⊥) → RuleCount before n → RuleCount (before ++ l ∷ []) n
rules_more _ l _ h NoLine = OtherLine l [] 0 h NoLine
rules_more _ l _ h (OneRule k ks n r c) = OneRule k (ks ++ l ∷ []) n r (rules_more ks l n h c)
rules_more _ l _ h (OtherLine k ks n r c) = OtherLine k (ks ++ l ∷ []) n r (rules_more ks l n h c)

-- ---- numbers of operands

abbrev NoArity : List (Option ℕ) → Type 0
NoArity arities = (i n : ℕ) → slice_get arities i ≡ Some (Some n) → ⊥

no_arity : (terminals : List (List ℕ)) (before : List TokenLine) (k : Known) → NoRules before → Knows terminals before k → NoArity k.arities.items
no_arity terminals before k h knows i n e =
    let within : i < length (bytes_of k.terminals) = (let w = slice_get_within k.arities.items i (Some n) e in omega (arith, w, knows.noted)) in
    no_use before (get_or (bytes_of k.terminals) i []) n h (knows.arities i n (get_or (bytes_of k.terminals) i []) (slice_get-get_or (bytes_of k.terminals) i [] within) e)

none_of : (ns : List (List ℕ)) → NoArity (map (λ _. None) ns)
none_of [] i n e = none-some (Some n) e
none_of (x ∷ xs) zero n e = none-some n (same_Some None (Some n) e)
none_of (x ∷ xs) (suc i) n e = none_of xs i n e

no_arity_more : (os : List (Option ℕ)) (ns : List (List ℕ)) → NoArity os → NoArity (os ++ map (λ _. None) ns)
no_arity_more [] ns h i n e = none_of ns i n e
no_arity_more (o ∷ os) ns h zero n e = h 0 n e
no_arity_more (o ∷ os) ns h (suc i) n e = no_arity_more os ns (λ j m f. h (suc j) m f) i n e

-- ---- the whole

-- the terminals that a line adds, and what it mentions and starts, are known behind it
pub record Behind (terminals : List (List ℕ)) (before : List TokenLine) (l : TokenLine) (old new : Known) : Type 0 where
  pub knows : Knows terminals before old
  pub early : NoRules before
  pub declares : InDeclarations l.section
  pub names : bytes_of new.terminals ≡ bytes_of old.terminals ++ names_of (declared_by l.section l.tokens)
  pub numbers : new.numbers.keys ≡ old.numbers.keys ++ numbers_of (declared_by l.section l.tokens)
  pub good : Good (bytes_of new.terminals) new.numbers.keys
  pub added : List (List ℕ)
  pub added_names : length added ≡ length (names_of (declared_by l.section l.tokens))
  pub arities : new.arities.items ≡ old.arities.items ++ map (λ _. None) added
  pub mentioned : (name : List ℕ) → MentionedIn terminals (before ++ l ∷ []) name → Among name (bytes_of new.nonterminals)
  pub mentions : (name : List ℕ) → Among name (bytes_of new.nonterminals) → MentionedIn terminals (before ++ l ∷ []) name
  pub once : AreDistinct (bytes_of new.nonterminals)
  pub few : length (bytes_of new.nonterminals) ≤ 127
  pub start : IsStartIn (before ++ l ∷ []) new.start
  pub rules : new.rules ≡ old.rules

lengths : (os bs cs : List (Option ℕ)) (xs ys ns ms : List (List ℕ)) → os ≡ bs ++ cs → cs ≡ map (λ _. None) ns → xs ≡ ys ++ ms → length bs ≡ length ys → length ns ≡ length ms → length os ≡ length xs
lengths os bs cs xs ys ns ms e c f g h =
    let p : length os ≡ length (bs ++ cs) = ap (λ (x : List (Option ℕ)). length x) e in
    let q : length xs ≡ length (ys ++ ms) = ap (λ (x : List (List ℕ)). length x) f in
    let m : length cs ≡ length ns = ap (λ (x : List (Option ℕ)). length x) c ∙ length-map ns (λ _. None) in
    omega (arith, p, q, g, h, m, length-append bs cs, length-append ys ms)

pub knows_behind : (terminals : List (List ℕ)) (before : List TokenLine) (l : TokenLine) (old new : Known) → Behind terminals before l old new → Knows terminals (before ++ l ∷ []) new
knows_behind terminals before l old new b =
    let all = declared_by l.section l.tokens in
    let early = no_rules_more before l b.early b.declares in
    let none : NoArity new.arities.items = subst NoArity (sym b.arities) (no_arity_more old.arities.items b.added (no_arity terminals before old b.early b.knows)) in
    record {
      names = b.names ∙ ap (λ (ns : List (List ℕ)). ns ++ names_of all) b.knows.names ∙ sym (map-append (λ (t : MNumbered). t.0) (declared_in before) all) ∙ ap names_of (sym (declared_more before l));
      numbers = b.numbers ∙ ap (λ (ns : List ℕ). ns ++ numbers_of all) b.knows.numbers ∙ sym (map-append (λ (t : MNumbered). value_of t.1) (declared_in before) all) ∙ ap numbers_of (sym (declared_more before l));
      small_numbers = b.good.small;
      names_once = b.good.once;
      few = b.good.few;
      mentioned = b.mentioned;
      mentions = b.mentions;
      mentioned_once = b.once;
      few_mentioned = b.few;
      start = b.start;
      noted = lengths new.arities.items old.arities.items (map (λ _. None) b.added) (bytes_of new.terminals) (bytes_of old.terminals) b.added (names_of all) b.arities refl b.names b.knows.noted b.added_names;
      arities = λ i n name e f. absurd (none i n f);
      used = λ i n name e u. absurd (no_use (before ++ l ∷ []) name n early u);
      rules = subst (λ (n : ℕ). RuleCount (before ++ l ∷ []) n) (sym b.rules) (rules_more before l old.rules (λ r. not_rules l b.declares r.0) b.knows.rules);
    }

-- ---- a line of no start symbol

abbrev pub NotStart : TokenLine → Type 0
NotStart l = (tokens : List Tok) → StartLine l tokens → ⊥

start_more : (before : List TokenLine) (l : TokenLine) (o : Option StartSymbol) → NotStart l → IsStartIn before o → IsStartIn (before ++ l ∷ []) o
start_more before l None h is = λ i k tokens e line. elim (in_front before l i k e) [
  | inl a ↦ is i k tokens a line
  | inr a ↦ h tokens (subst (λ (x : TokenLine). StartLine x tokens) (sym a.1) line)
]
start_more before l (Some x) h (i, k, tokens, e, line, number) = (i, k, tokens, at_front before (l ∷ []) i k e, line, number)

mentioned_before : (terminals : List (List ℕ)) (before : List TokenLine) (l : TokenLine) (name : List ℕ) → MentionedIn terminals before name → MentionedIn terminals (before ++ l ∷ []) name
mentioned_before terminals before l name (i, p, k, e, m) = (i, p, k, at_front before (l ∷ []) i k e, m)

pub not_mentioned : (terminals : List (List ℕ)) (l : TokenLine) (p : ℕ) (name : List ℕ) → InDeclarations l.section → NotStart l → MentionsAt terminals l p name → ⊥
not_mentioned terminals l p name d h (inl (tokens, line, e)) = h (Word name ∷ tokens) line
not_mentioned terminals l p name d h (inr (inl r, get, new)) = not_rules l d r.0
not_mentioned terminals l p name d h (inr (inr r, get, new)) = not_rules l d r.0

still_mentioned : (terminals : List (List ℕ)) (before : List TokenLine) (l : TokenLine) (name : List ℕ) → InDeclarations l.section → NotStart l → MentionedIn terminals (before ++ l ∷ []) name → MentionedIn terminals before name
still_mentioned terminals before l name d h (i, p, k, e, m) = elim (in_front before l i k e) [
  | inl a ↦ (i, p, k, a, m)
  | inr a ↦ absurd (not_mentioned terminals l p name d h (subst (λ (x : TokenLine). MentionsAt terminals x p name) (sym a.1) m))
]

-- the line adds the names and numbers among these tokens
pub knows_plain : (terminals : List (List ℕ)) (before : List TokenLine) (l : TokenLine) (tokens : List Tok) (old new : Known) → Knows terminals before old → NoRules before → InDeclarations l.section → NotStart l
    → names_among tokens ≡ names_of (declared_by l.section l.tokens) → numbers_among tokens ≡ numbers_of (declared_by l.section l.tokens) → Good (bytes_of new.terminals) new.numbers.keys → Adds tokens old new → Knows terminals (before ++ l ∷ []) new
knows_plain terminals before l tokens old new k early d h names numbers good adds =
    let same : bytes_of new.nonterminals ≡ bytes_of old.nonterminals = ap bytes_of adds.nonterminals in
    knows_behind terminals before l old new (record {
      knows = k;
      early = early;
      declares = d;
      names = adds.names ∙ ap (λ (ns : List (List ℕ)). bytes_of old.terminals ++ ns) names;
      numbers = adds.numbers ∙ ap (λ (ns : List ℕ). old.numbers.keys ++ ns) numbers;
      good = good;
      added = names_among tokens;
      added_names = ap (λ (ns : List (List ℕ)). length ns) names;
      arities = adds.arities;
      mentioned = λ name m. subst (Among name) (sym same) (k.mentioned name (still_mentioned terminals before l name d h m));
      mentions = λ name a. mentioned_before terminals before l name (k.mentions name (subst (Among name) same a));
      once = subst AreDistinct (sym same) k.mentioned_once;
      few = rw same k.few_mentioned;
      start = subst (IsStartIn (before ++ l ∷ [])) (sym adds.start) (start_more before l old.start h k.start);
      rules = adds.rules;
    })

-- ---- a line of the start symbol

mentioned_here : (terminals : List (List ℕ)) (before : List TokenLine) (l : TokenLine) (rest : List Tok) (bound : ℕ) (name other : List ℕ) → Named l rest bound name → MentionedIn terminals (before ++ l ∷ []) other → MentionedIn terminals before other ⊎ (name ≡ other)
mentioned_here terminals before l rest bound name other n (i, p, k, e, m) = elim (in_front before l i k e) [
  | inl a ↦ inl (i, p, k, a, m)
  | inr a ↦ inr (sym (same_word l name other n.get (mentioned_at terminals l rest p other n.is (subst (λ (x : TokenLine). MentionsAt terminals x p other) (sym a.1) m)).1))
]

-- the name is noted, and the start symbol in the line with this number
pub record Starts (name : List ℕ) (number : ℕ) (old new : Known) : Type 0 where
  pub terminals : new.terminals ≡ old.terminals
  pub numbers : new.numbers ≡ old.numbers
  pub arities : new.arities ≡ old.arities
  pub rules : new.rules ≡ old.rules
  pub nonterminals : bytes_of new.nonterminals ≡ with_name (bytes_of old.nonterminals) name
  pub symbol : StartSymbol
  pub start : new.start ≡ Some symbol
  pub name_is : symbol.name.now ≡ name
  pub number_is : symbol.line ≡ number

pub knows_start : (terminals : List (List ℕ)) (before : List TokenLine) (l : TokenLine) (rest : List Tok) (bound : ℕ) (name : List ℕ) (old new : Known) → Knows terminals before old → NoRules before → Named l rest bound name
    → declared_by l.section l.tokens ≡ [] → ((Among name (bytes_of old.nonterminals) → ⊥) → length (bytes_of old.nonterminals) < 127) → Starts name (length before + 1) old new → Knows terminals (before ++ l ∷ []) new
knows_start terminals before l rest bound name old new k early n none room s =
    let line = start_line l rest bound name n in
    let same_names : bytes_of new.terminals ≡ bytes_of old.terminals = ap bytes_of s.terminals in
    let same_numbers : new.numbers.keys ≡ old.numbers.keys = ap (λ t. t.keys) s.numbers in
    let here : MentionedIn terminals (before ++ l ∷ []) name = (length before, 1, l, at_end before l, inl (line.0, line.1, refl)) in
    knows_behind terminals before l old new (record {
      knows = k;
      early = early;
      declares = n.is.declares;
      names = same_names ∙ sym (append-nil (bytes_of old.terminals)) ∙ ap (λ (x : List MNumbered). bytes_of old.terminals ++ names_of x) (sym none);
      numbers = same_numbers ∙ sym (append-nil old.numbers.keys) ∙ ap (λ (x : List MNumbered). old.numbers.keys ++ numbers_of x) (sym none);
      good = record {
        once = subst AreDistinct (sym same_names) k.names_once;
        few = rw same_names k.few;
        small = rw same_numbers k.small_numbers;
      };
      added = [];
      added_names = ap (λ (x : List MNumbered). length (names_of x)) (sym none);
      arities = ap (λ v. v.items) s.arities ∙ sym (append-nil old.arities.items);
      mentioned = λ other m. subst (Among other) (sym s.nonterminals) (elim (mentioned_here terminals before l rest bound name other n m) [
        | inl a ↦ with_among (bytes_of old.nonterminals) name other (k.mentioned other a)
        | inr a ↦ subst (λ (x : List ℕ). Among x (with_name (bytes_of old.nonterminals) name)) a (with_itself (bytes_of old.nonterminals) name)
      ]);
      mentions = λ other a. elim (with_only (bytes_of old.nonterminals) name other (subst (Among other) s.nonterminals a)) [
        | inl b ↦ mentioned_before terminals before l other (k.mentions other b)
        | inr b ↦ subst (λ (x : List ℕ). MentionedIn terminals (before ++ l ∷ []) x) b here
      ];
      once = subst AreDistinct (sym s.nonterminals) (with_distinct (bytes_of old.nonterminals) name k.mentioned_once);
      few = rw s.nonterminals (with_few (bytes_of old.nonterminals) name 127 k.few_mentioned room);
      start = subst (IsStartIn (before ++ l ∷ [])) (sym s.start) (length before, l, line.0, at_end before l, subst (λ (x : List ℕ). StartLine l (Word x ∷ line.0)) (sym s.name_is) line.1, s.number_is);
      rules = s.rules;
    })

-- ---- before the first line

once_none : {A : Type 0} (xs : List A) → xs ≡ [] → AreDistinct xs
once_none {A} xs e i j x h g = absurd (none-some x (ap (λ (ys : List A). slice_get ys i) (sym e) ∙ h))

few_none : {A : Type 0} (xs : List A) (n : ℕ) → xs ≡ [] → length xs ≤ n
few_none {A} xs n e = let l : length xs ≡ 0 = ap (λ (ys : List A). length ys) e in omega (arith, l)

no_place : {A : Type 0} (xs : List A) (i : ℕ) (x : A) → xs ≡ [] → slice_get xs i ≡ Some x → ⊥
no_place {A} xs i x e h = none-some x (ap (λ (ys : List A). slice_get ys i) (sym e) ∙ h)

starts_none : (o : Option StartSymbol) → o ≡ None → IsStartIn [] o
starts_none o e = subst (IsStartIn []) (sym e) (λ i k tokens h line. none-some k h)

pub knows_nothing : (terminals : List (List ℕ)) (k : Known) → k.terminals.keys ≡ [] → k.numbers.keys ≡ [] → k.arities.items ≡ [] → k.nonterminals.keys ≡ [] → k.start ≡ None → k.rules ≡ 0 → Knows terminals [] k
knows_nothing terminals k t n a m s r =
    let names : bytes_of k.terminals ≡ [] = ap (λ ks. map (λ x. x.now) ks) t in
    let mentioned : bytes_of k.nonterminals ≡ [] = ap (λ ks. map (λ x. x.now) ks) m in
    record {
      names = names;
      numbers = n;
      small_numbers = λ i x h. absurd (no_place k.numbers.keys i x n h);
      names_once = once_none (bytes_of k.terminals) names;
      few = few_none (bytes_of k.terminals) 1023 names;
      mentioned = λ name h. absurd (none-some h.2 h.3);
      mentions = λ name h. absurd (no_place (bytes_of k.nonterminals) h.0 name mentioned h.1);
      mentioned_once = once_none (bytes_of k.nonterminals) mentioned;
      few_mentioned = few_none (bytes_of k.nonterminals) 127 mentioned;
      start = starts_none k.start s;
      noted = ap (λ (os : List (Option ℕ)). length os) a ∙ ap (λ (ns : List (List ℕ)). length ns) (sym names);
      arities = λ i x name h g. absurd (no_place (bytes_of k.terminals) i name names h);
      used = λ i x name h u. absurd (no_place (bytes_of k.terminals) i name names h);
      rules = subst (λ (x : ℕ). RuleCount [] x) (sym r) NoLine;
    }
