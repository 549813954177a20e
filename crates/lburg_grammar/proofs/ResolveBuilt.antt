-- A description that is put together from its resolved parts is what the words mean.
use Rattle.std.proofs.Common.{◌≡◌, ℕ, suc, ◌+◌, ◌<◌, ◌≤◌, List, [], ◌∷◌, length, map, Some, sym, ap, ◌∙◌, subst, arith}
use Rattle.std.specs.Prelude.{slice_get}
use Rattle.std.proofs.lemmas.Option.{slice_get_within, same_Some}
use Rattle.std.proofs.lemmas.List.{length-map}
use Rattle.lcc_text.proofs.lemmas.Places.{place_some}
use Rattle.lburg_lines.specs.Tokens.{Word, Template, IsToken}
use Rattle.lburg_lines.specs.NamedTree.{names_in}
use Rattle.lburg_lines.specs.Grammar.{MRule, MLine}
use Rattle.lburg_model.specs.declared.rule.Rule.{Rule}
use Rattle.lburg_model.specs.declared.terminal.Terminal.{Terminal}
use Rattle.lburg_model.specs.Pattern.{pattern_of}
use Rattle.lburg_model.specs.Description.{MDescription, IsDescription, IsRuleOf, HasArity, AreNames, terminal_names, terminal_numbers, RuleAt}
use Rattle.lburg_faults.specs.Written.{rules_in, terminals_in, starts_in}
use Rattle.lburg_faults.specs.Ruling.{lefts_of}
use Rattle.lburg_faults.specs.Terminals.{names_of, numbers_of}
use Rattle.lburg_grammar.specs.DescriptionText.{Means}
use Rattle.lburg_grammar.specs.DeclaredTerminals.{AreTerminals}
use Rattle.lburg_grammar.specs.FirstUses.{AreFirsts, AreApart}
use Rattle.lburg_grammar.specs.Places.{StartFor, RuleFor, RulesFor}
use Rattle.lburg_grammar.specs.Uses.{UsesWith, AreUsing, arity_at}
use Rattle.lburg_grammar.proofs.ResolveNames.{some_at}
use Rattle.lburg_grammar.proofs.ResolvePatternPlaces.{element_at, sound, nodes_of, fits, has_arity, arity_has, using}
use Rattle.lburg_grammar.proofs.ResolveSpelled.{IsRuleSpelled}
use Rattle.lburg_grammar.proofs.ResolveMeaning.{same_both, rules_mean, start_means, left_at}

start_within : (ns names : List (List ℕ)) (start : ℕ) → 1 ≤ length ns → StartFor ns names start → start < length ns
start_within ns [] start l h = omega arith
start_within ns (a ∷ []) start l h = slice_get_within ns start a h
start_within ns (a ∷ c ∷ names) start l h = absurd h

-- what the steps of resolving say of the whole
pub record IsBuilt (s : List MLine) (d : MDescription) : Type 0 where
  pub names : terminal_names d ≡ names_of (terminals_in s)
  pub numbers : terminal_numbers d ≡ numbers_of (terminals_in s)
  pub fine : AreTerminals (terminal_names d) (terminal_numbers d)
  pub firsts : AreFirsts (lefts_of (rules_in s)) d.nonterminals
  pub few : length d.nonterminals ≤ 127
  pub apart : AreApart (terminal_names d) (lefts_of (rules_in s))
  pub start : StartFor d.nonterminals (starts_in s) d.start
  pub rules : RulesFor (terminal_names d) d.nonterminals (rules_in s) d.rules
  pub noted : (op n : ℕ) → AreUsing d.rules op n → arity_at (map (λ t. t.arity) d.terminals) op ≡ Some n
  pub only : (op n : ℕ) → arity_at (map (λ t. t.arity) d.terminals) op ≡ Some n → AreUsing d.rules op n
  pub some : 1 ≤ length (rules_in s)
  pub limit : length (rules_in s) ≤ 4095
  pub small : (i : ℕ) (r : MRule) → slice_get (rules_in s) i ≡ Some r → names_in r.tree ≤ 16
  pub names_spelled : AreNames (names_of (terminals_in s))
  pub rules_spelled : (i : ℕ) (r : MRule) → slice_get (rules_in s) i ≡ Some r → IsRuleSpelled r

module _ (s : List MLine) (d : MDescription) (b : IsBuilt s d) where
  -- the line of a rule
  line_of : (i : ℕ) (r : Rule) → RuleAt d i r → (x : MRule) × (slice_get (rules_in s) i ≡ Some x) × RuleFor (terminal_names d) d.nonterminals x r
  line_of i r e =
      let w = slice_get_within d.rules i r e in
      let k = b.rules.many in
      let l : i < length (rules_in s) = omega arith in
      let q : (x : MRule) × (slice_get (rules_in s) i ≡ Some x) = some_at (rules_in s) i l in
      let f = b.rules.each i q.0 q.1 in
      (q.0, q.1, subst (λ (y : Rule). RuleFor (terminal_names d) d.nonterminals q.0 y) (same_Some f.0 r (sym f.1 ∙ e)) f.2)

  left_of : (x : MRule) (r : Rule) (n : ℕ) (a : List ℕ) → RuleFor (terminal_names d) d.nonterminals x r → x.left ≡ a → slice_get d.nonterminals n ≡ Some a → r.left ≡ n
  left_of x r n a h e f = b.firsts.once r.left n a (place_some d.nonterminals x.left r.left h.left ∙ ap (λ (z : List ℕ). Some z) e) f

  -- the rule of a left side
  rule_of_left : (i n : ℕ) (a : List ℕ) → slice_get (lefts_of (rules_in s)) i ≡ Some a → slice_get d.nonterminals n ≡ Some a → (r : Rule) × RuleAt d i r × (r.left ≡ n)
  rule_of_left i n a e f =
      let x = element_at (λ (y : MRule). y.left) (rules_in s) i a e in
      let r = b.rules.each i x.0 x.1 in
      (r.0, r.1, left_of x.0 r.0 n a r.2 x.2 f)

  uses_fit : (i : ℕ) (r : Rule) (op n : ℕ) → RuleAt d i r → UsesWith (pattern_of r.pattern) op n → HasArity d op n
  uses_fit i r op n e u = has_arity d op n (b.noted op n (i, r, e, u))

  built_rule : (i : ℕ) (r : Rule) → RuleAt d i r → IsRuleOf d r
  built_rule i r e =
      let x = line_of i r e in
      record {
        left = slice_get_within d.nonterminals r.left x.0.left (place_some d.nonterminals x.0.left r.left x.2.left);
        fits = fits d x.0.tree (pattern_of r.pattern) x.2.pattern (λ op n u. uses_fit i r op n e u);
        nodes = (let h = b.small i x.0 x.1 in let k = nodes_of (terminal_names d) d.nonterminals x.0.tree (pattern_of r.pattern) x.2.pattern in omega arith);
        template = (let P : List ℕ → Type 0 = λ t. IsToken (Template t) in subst P (sym x.2.template) (b.rules_spelled i x.0 x.1).template);
        cost = x.2.small;
        range = x.2.range;
      }

  first_left : 1 ≤ length d.nonterminals
  first_left =
      let x = some_at (rules_in s) 0 (let l = b.some in omega arith) in
      let n = b.firsts.noted 0 x.0.left (left_at (rules_in s) 0 x.0 x.1) in
      let w = slice_get_within d.nonterminals n.0 x.0.left n.1 in
      omega arith

  built_used : (i : ℕ) (t : Terminal) (n : ℕ) → slice_get d.terminals i ≡ Some t → t.arity ≡ Some n → AreUsing d.rules (i + 1) n
  built_used i t n e f =
      let at : arity_at (map (λ (x : Terminal). x.arity) d.terminals) (suc i) ≡ Some n = arity_has d (suc i) n (t, e, f) in
      let r : suc i ≡ i + 1 = omega arith in
      subst (λ (k : ℕ). AreUsing d.rules k n) r (b.only (suc i) n at)

  pub built_is : IsDescription d
  built_is = record {
    terminals = (let l = b.fine.few in let e = length-map d.terminals (λ (t : Terminal). t.name) in omega arith);
    names = b.fine.names_once;
    names_spelled = (let P : List (List ℕ) → Type 0 = λ ns. AreNames ns in subst P (sym b.names) b.names_spelled);
    numbers = b.fine.numbers_once;
    number_limit = b.fine.small;
    used = λ i t n e f. let u = built_used i t n e f in (u.0, u.1, u.2, using (pattern_of u.1.pattern) (i + 1) n u.3);
    nonterminals = b.few;
    nonterminal_names = b.firsts.once;
    nonterminals_spelled = λ n name e.
        let u = b.firsts.used n name e in
        let x = element_at (λ (y : MRule). y.left) (rules_in s) u.0 name u.1 in
        let P : List ℕ → Type 0 = λ t. IsToken (Word t) in
        subst P x.2 (b.rules_spelled u.0 x.0 x.1).left;
    apart = λ i j name e f. let u = b.firsts.used j name f in b.apart i u.0 name e u.1;
    start = start_within d.nonterminals (starts_in s) d.start first_left b.start;
    some_rule = (let l = b.some in let k = b.rules.many in omega arith);
    rule_limit = (let l = b.limit in let k = b.rules.many in omega arith);
    rules = built_rule;
    ruled = λ n l.
        let a = some_at d.nonterminals n l in
        let u = b.firsts.used n a.0 a.1 in
        let r = rule_of_left u.0 n a.0 u.1 a.1 in
        (u.0, r.0, r.1, r.2);
    in_order = λ j r n e l.
        let x = line_of j r e in
        let at = place_some d.nonterminals x.0.left r.left x.2.left in
        let w = slice_get_within d.nonterminals r.left x.0.left at in
        let a = some_at d.nonterminals n (omega arith) in
        let q = b.firsts.in_order j r.left n x.0.left a.0 (left_at (rules_in s) j x.0 x.1) at a.1 l in
        let y = rule_of_left q.0 n a.0 q.2 a.1 in
        (q.0, y.0, q.1, y.1, y.2);
  }

  pub built_means : Means s d
  built_means = record {
    terminals = same_both d.terminals (terminals_in s) b.names b.numbers;
    start = start_means d (starts_in s) b.start;
    rules = rules_mean d (rules_in s) d.rules b.rules.many (λ i x e. (
        let r = b.rules.each i x e in (
          r.0,
          r.1,
          record {
            left = place_some d.nonterminals x.left r.0.left r.2.left;
            pattern = sound d x.tree (pattern_of r.0.pattern) r.2.pattern;
            template = r.2.template;
            cost = r.2.cost;
          },
        )));
    is = built_is;
  }
