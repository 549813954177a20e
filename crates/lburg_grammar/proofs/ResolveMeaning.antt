-- What the words of a text mean is what its parts are resolved to.
use Rattle.std.proofs.Common.{◌≡◌, ℕ, zero, suc, ◌<◌, ◌≤◌, List, [], ◌∷◌, length, map, get_or, Option, Some, refl, sym, ap, ◌∙◌, subst, arith}
use Rattle.std.specs.Prelude.{slice_get, option_map}
use Rattle.std.proofs.lemmas.Option.{slice_get-map, slice_get-get_or, slice_get_within, none-some, same_Some}
use Rattle.lcc_text.specs.Decimal.{value_of}
use Rattle.lcc_text.proofs.lemmas.Places.{place_here}
use Rattle.lburg_lines.specs.Grammar.{MRule, MLine, MNumbered}
use Rattle.lburg_model.specs.declared.rule.Rule.{Rule}
use Rattle.lburg_model.specs.declared.terminal.Terminal.{Terminal}
use Rattle.lburg_model.specs.Range.{IsRangeFor}
use Rattle.lburg_model.specs.Pattern.{MPattern, pattern_of}
use Rattle.lburg_model.specs.Description.{MDescription, terminal_names, terminal_numbers}
use Rattle.lburg_grammar.specs.DescriptionText.{Means, RulesMean, RuleMeans, StartMeans, named_number, declared_number}
use Rattle.lburg_faults.specs.Written.{rules_in, terminals_in, starts_in}
use Rattle.lburg_faults.specs.Ruling.{lefts_of}
use Rattle.lburg_faults.specs.Terminals.{names_of, numbers_of}
use Rattle.lburg_grammar.specs.FirstUses.{AreFirsts}
use Rattle.lburg_grammar.specs.Places.{StartFor, RuleFor, RulesFor}
use Rattle.lburg_grammar.specs.Uses.{UsesWith, AreUsing}
use Rattle.lburg_grammar.proofs.ResolvePatternPlaces.{Has, element_at, complete, fitting, arity_has}

-- the lists of names and of numbers
pub same_names : (ts : List Terminal) (ds : List MNumbered) → map named_number ts ≡ map declared_number ds → map (λ (t : Terminal). t.name) ts ≡ names_of ds
same_names [] [] h = refl
same_names [] (d ∷ ds) h = absurd (cc)
same_names (t ∷ ts) [] h = absurd (cc)
same_names (t ∷ ts) (d ∷ ds) h =
    let a : named_number t ≡ declared_number d = cc in
    let b : map named_number ts ≡ map declared_number ds = cc in
    let r = same_names ts ds b in
    let n : t.name ≡ d.0 = ap (λ (p : List ℕ × ℕ). p.0) a in
    cc

pub same_numbers : (ts : List Terminal) (ds : List MNumbered) → map named_number ts ≡ map declared_number ds → map (λ (t : Terminal). t.number) ts ≡ numbers_of ds
same_numbers [] [] h = refl
same_numbers [] (d ∷ ds) h = absurd (cc)
same_numbers (t ∷ ts) [] h = absurd (cc)
same_numbers (t ∷ ts) (d ∷ ds) h =
    let a : named_number t ≡ declared_number d = cc in
    let b : map named_number ts ≡ map declared_number ds = cc in
    let r = same_numbers ts ds b in
    let n : t.number ≡ value_of d.1 = ap (λ (p : List ℕ × ℕ). p.1) a in
    cc

pub same_both : (ts : List Terminal) (ds : List MNumbered) → map (λ (t : Terminal). t.name) ts ≡ names_of ds → map (λ (t : Terminal). t.number) ts ≡ numbers_of ds → map named_number ts ≡ map declared_number ds
same_both [] [] h g = refl
same_both [] (d ∷ ds) h g = absurd (cc)
same_both (t ∷ ts) [] h g = absurd (cc)
same_both (t ∷ ts) (d ∷ ds) h g =
    let a : t.name ≡ d.0 = cc in
    let b : t.number ≡ value_of d.1 = cc in
    let e : map (λ (t : Terminal). t.name) ts ≡ names_of ds = cc in
    let f : map (λ (t : Terminal). t.number) ts ≡ numbers_of ds = cc in
    let r = same_both ts ds e f in
    cc

-- rules by their places
pub rules_long : (d : MDescription) (ss : List MRule) (rs : List Rule) → RulesMean d ss rs → length rs ≡ length ss
rules_long d [] [] h = refl
rules_long d [] (r ∷ rs) h = absurd h
rules_long d (s ∷ ss) [] h = absurd h
rules_long d (s ∷ ss) (r ∷ rs) h = ap suc (rules_long d ss rs h.1)

pub rule_there : (d : MDescription) (ss : List MRule) (rs : List Rule) (i : ℕ) (s : MRule) → RulesMean d ss rs → slice_get ss i ≡ Some s → (r : Rule) × (slice_get rs i ≡ Some r) × RuleMeans d s r
rule_there d [] rs i s h e = absurd (none-some s e)
rule_there d (x ∷ ss) [] i s h e = absurd h
rule_there d (x ∷ ss) (r ∷ rs) zero s h e = (r, refl, subst (λ (y : MRule). RuleMeans d y r) (same_Some x s e) h.0)
rule_there d (x ∷ ss) (r ∷ rs) (suc i) s h e = rule_there d ss rs i s h.1 e

pub rule_back : (d : MDescription) (ss : List MRule) (rs : List Rule) (i : ℕ) (r : Rule) → RulesMean d ss rs → slice_get rs i ≡ Some r → (s : MRule) × (slice_get ss i ≡ Some s) × RuleMeans d s r
rule_back d ss [] i r h e = absurd (none-some r e)
rule_back d [] (y ∷ rs) i r h e = absurd h
rule_back d (s ∷ ss) (y ∷ rs) zero r h e = (s, refl, subst (λ (z : Rule). RuleMeans d s z) (same_Some y r e) h.0)
rule_back d (s ∷ ss) (y ∷ rs) (suc i) r h e = rule_back d ss rs i r h.1 e

pub rules_mean : (d : MDescription) (ss : List MRule) (rs : List Rule) → length rs ≡ length ss → ((i : ℕ) (s : MRule) → slice_get ss i ≡ Some s → (r : Rule) × (slice_get rs i ≡ Some r) × RuleMeans d s r) → RulesMean d ss rs
rules_mean d [] [] l h = tt
rules_mean d [] (r ∷ rs) l h = absurd (omega arith)
rules_mean d (s ∷ ss) [] l h = absurd (omega arith)
rules_mean d (s ∷ ss) (r ∷ rs) l h =
    let e = h 0 s refl in
    (subst (λ (x : Rule). RuleMeans d s x) (sym (same_Some r e.0 e.1)) e.2, rules_mean d ss rs (omega arith) (λ i x f. h (suc i) x f))

start_for : (d : MDescription) (names : List (List ℕ)) → StartMeans d names → StartFor d.nonterminals names d.start
start_for d [] h = h
start_for d (a ∷ []) h = h
start_for d (a ∷ b ∷ names) h = absurd h

pub start_means : (d : MDescription) (names : List (List ℕ)) → StartFor d.nonterminals names d.start → StartMeans d names
start_means d [] h = h
start_means d (a ∷ []) h = h
start_means d (a ∷ b ∷ names) h = absurd h

pub left_at : (ss : List MRule) (i : ℕ) (s : MRule) → slice_get ss i ≡ Some s → slice_get (lefts_of ss) i ≡ Some s.left
left_at ss i s e = slice_get-map (λ (x : MRule). x.left) ss i ∙ ap (λ (o : Option MRule). option_map (λ (x : MRule). x.left) o) e

-- What is said of the words if they mean a description.
module _ (s : List MLine) (d : MDescription) (m : Means s d) where
  pub means_names : terminal_names d ≡ names_of (terminals_in s)
  means_names = same_names d.terminals (terminals_in s) m.terminals

  pub means_numbers : terminal_numbers d ≡ numbers_of (terminals_in s)
  means_numbers = same_numbers d.terminals (terminals_in s) m.terminals

  pub means_many : length d.rules ≡ length (rules_in s)
  means_many = rules_long d (rules_in s) d.rules m.rules

  pub means_start : StartFor d.nonterminals (starts_in s) d.start
  means_start = start_for d (starts_in s) m.start

  pub means_firsts : AreFirsts (lefts_of (rules_in s)) d.nonterminals
  means_firsts = record {
    once = m.is.nonterminal_names;
    noted = λ j a e.
        let x = element_at (λ (y : MRule). y.left) (rules_in s) j a e in
        let r = rule_there d (rules_in s) d.rules j x.0 m.rules x.1 in
        (r.0.left, r.2.left ∙ ap (λ (n : List ℕ). Some n) x.2);
    used = λ n a e.
        let r = m.is.ruled n (slice_get_within d.nonterminals n a e) in
        let x = rule_back d (rules_in s) d.rules r.0 r.1 m.rules r.2 in
        let f : Some x.0.left ≡ Some a = sym x.2.left ∙ ap (λ (k : ℕ). slice_get d.nonterminals k) r.3 ∙ e in
        (r.0, left_at (rules_in s) r.0 x.0 x.1 ∙ f);
    in_order = λ j k n a b e f g l.
        let x = element_at (λ (y : MRule). y.left) (rules_in s) j a e in
        let r = rule_there d (rules_in s) d.rules j x.0 m.rules x.1 in
        let h : slice_get d.nonterminals r.0.left ≡ Some a = r.2.left ∙ ap (λ (n : List ℕ). Some n) x.2 in
        let o : r.0.left ≡ k = m.is.nonterminal_names r.0.left k a h f in
        let q = m.is.in_order j r.0 n r.1 (subst (λ (z : ℕ). n < z) (sym o) l) in
        let y = rule_back d (rules_in s) d.rules q.0 q.1 m.rules q.3 in
        let c : Some y.0.left ≡ Some b = sym y.2.left ∙ ap (λ (k : ℕ). slice_get d.nonterminals k) q.4 ∙ g in
        (q.0, q.2, left_at (rules_in s) q.0 y.0 y.1 ∙ c);
  }

  rule_for : (x : MRule) (r : Rule) → RuleMeans d x r → r.cost ≤ 32766 → IsRangeFor r.cost r.range → RuleFor (terminal_names d) d.nonterminals x r
  rule_for x r h c e = record {
    left = place_here d.nonterminals x.left r.left (λ j e. m.is.nonterminal_names j r.left x.left e h.left) h.left;
    pattern = complete d m.is.names m.is.nonterminal_names m.is.apart x.tree (pattern_of r.pattern) h.pattern;
    template = h.template;
    cost = h.cost;
    small = c;
    range = e;
  }

  pub means_rules : RulesFor (names_of (terminals_in s)) d.nonterminals (rules_in s) d.rules
  means_rules = subst (λ (ts : List (List ℕ)). RulesFor ts d.nonterminals (rules_in s) d.rules) means_names (record {
    many = means_many;
    each = λ i x e. let r = rule_there d (rules_in s) d.rules i x m.rules e in (r.0, r.1, rule_for x r.0 r.2 (m.is.rules i r.0 r.1).cost (m.is.rules i r.0 r.1).range);
  })

  pub means_table : (rs : List Rule) → RulesFor (names_of (terminals_in s)) d.nonterminals (rules_in s) rs → Has (AreUsing rs) (map (λ t. t.arity) d.terminals)
  means_table rs h = λ op n u.
      let w = slice_get_within rs u.0 u.1 u.2 in
      let k = h.many in
      let l : u.0 < length d.rules = (let q = means_many in omega arith) in
      let x = slice_get-get_or d.rules u.0 u.1 l in
      let b = rule_back d (rules_in s) d.rules u.0 (get_or d.rules u.0 u.1) m.rules x in
      let mine = h.each u.0 b.0 b.1 in
      let theirs = means_rules.each u.0 b.0 b.1 in
      let e : u.1 ≡ mine.0 = same_Some u.1 mine.0 (sym u.2 ∙ mine.1) in
      let p : pattern_of mine.0.pattern ≡ pattern_of theirs.0.pattern = same_Some (pattern_of mine.0.pattern) (pattern_of theirs.0.pattern) (sym mine.2.pattern ∙ theirs.2.pattern) in
      let f = (m.is.rules u.0 theirs.0 theirs.1).fits in
      arity_has d op n (fitting d (pattern_of theirs.0.pattern) op n f (subst (λ (q : MPattern). UsesWith q op n) (ap (λ (r : Rule). pattern_of r.pattern) e ∙ p) u.3))
