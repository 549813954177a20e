-- What is resolved of a text without a fault is what its lines mean.
use Rattle.std.proofs.Common.{◌≡◌, ◌≤◌, ℕ, List, length, map, Option, Some, sym, ap, ◌∙◌, subst}
use Rattle.std.specs.Prelude.{slice_get, option_map, option_to_list}
use Rattle.std.specs.Borrow.{Bor}
use Rattle.lcc_text.specs.Lines.{lines_of}
use Rattle.lcc_text.specs.Names.{bytes_of}
use Rattle.lburg_lines.specs.Grammar.{MRule, rule_of}
use Rattle.lburg_faults.specs.declared.checked_text.CheckedText.{CheckedText}
use Rattle.lburg_faults.specs.CheckedText.{IsChecked}
use Rattle.lburg_faults.specs.Terminals.{Among, declared_in, names_of, numbers_of}
use Rattle.lburg_faults.specs.Ruling.{lefts_of}
use Rattle.lburg_faults.specs.Written.{rules_in}
use Rattle.lburg_model.specs.declared.rule.Rule.{Rule}
use Rattle.lburg_model.specs.declared.terminal.Terminal.{Terminal}
use Rattle.lburg_grammar.specs.DeclaredTerminals.{AreTerminals}
use Rattle.lburg_grammar.specs.FirstUses.{AreFirsts, AreApart}
use Rattle.lburg_grammar.specs.Places.{StartFor, AreResolvable, RulesFor}
use Rattle.lburg_grammar.proofs.ResolveWritten.{same_terminals}
use Rattle.lburg_grammar.proofs.ResolveTrees.{OneTree}
use Rattle.lburg_grammar.proofs.ResolveDeclared.{are_terminals}
use Rattle.lburg_grammar.proofs.ResolveFine.{few_rules, some_rule, apart, small, few_lefts, resolvable, start_known}
use Rattle.lburg_grammar.proofs.ResolveArities.{AreFirstArities, all_noted, only_used}
use Rattle.lburg_grammar.proofs.ResolveSpelled.{names_spelled, rules_spelled}
use Rattle.lburg_grammar.proofs.ResolveBuilt.{IsBuilt}

module _ (c : CheckedText) (text : List ℕ) (is : IsChecked c text) where
  names_are : bytes_of c.terminals ≡ names_of (declared_in is.lines)
  names_are = is.names ∙ ap names_of (sym (same_terminals is.lines is.written is.are_written))

  numbers_are : c.numbers.keys ≡ numbers_of (declared_in is.lines)
  numbers_are = is.numbers ∙ ap numbers_of (sym (same_terminals is.lines is.written is.are_written))

  terminals_are : AreTerminals (bytes_of c.terminals) c.numbers.keys
  terminals_are =
      let P : List (List ℕ) → Type 0 = λ ns. AreTerminals ns c.numbers.keys in
      let Q : List ℕ → Type 0 = λ us. AreTerminals (names_of (declared_in is.lines)) us in
      subst P (sym names_are) (subst Q (sym numbers_are) (are_terminals is.lines is.written is.faultless.none is.are_written))

  pub few_terminals : length (bytes_of c.terminals) ≤ 1023
  few_terminals = terminals_are.few

  module _ (ns : List (List ℕ)) (given : AreFirsts (lefts_of (map rule_of c.rules.items)) ns) where
    firsts : AreFirsts (lefts_of (rules_in is.written)) ns
    firsts = let P : List MRule → Type 0 = λ rs. AreFirsts (lefts_of rs) ns in subst P is.rules given

    pub few_nonterminals : length ns ≤ 127
    few_nonterminals = few_lefts is.lines is.written is.faultless is.are_written ns firsts

    pub are_resolvable : AreResolvable (bytes_of c.terminals) ns (map rule_of c.rules.items)
    are_resolvable =
        let P : List MRule → Type 0 = λ rs. AreResolvable (bytes_of c.terminals) ns rs in
        let Q : List (List ℕ) → Type 0 = λ ts. AreResolvable ts ns (rules_in is.written) in
        subst P (sym is.rules) (subst Q (sym names_are) (resolvable is.lines is.written is.faultless is.are_written ns firsts))

    pub start_there : (name : List ℕ) → option_map (λ (n : Bor (List ℕ)). n.now) c.start ≡ Some name → Among name ns
    start_there name e =
        let f = ap (λ (xs : List (List ℕ)). slice_get xs 0) (sym is.start) ∙ ap (λ (o : Option (List ℕ)). slice_get (option_to_list o) 0) e in
        start_known is.lines is.written is.faultless is.are_written ns firsts 0 name f

    first_arities : AreFirstArities is.lines c.arities.items
    first_arities = record {
      long = is.known ∙ ap length names_are;
      first = λ i n name t a. is.arities i n name (ap (λ (xs : List (List ℕ)). slice_get xs i) names_are ∙ t) a;
      noted = λ i n name t u. is.noted i n name (ap (λ (xs : List (List ℕ)). slice_get xs i) names_are ∙ t) u;
    }

    module _ (rs : List Rule) (found : RulesFor (bytes_of c.terminals) ns (map rule_of c.rules.items) rs) where
      written_rules : RulesFor (bytes_of c.terminals) ns (rules_in is.written) rs
      written_rules = let P : List MRule → Type 0 = λ ss. RulesFor (bytes_of c.terminals) ns ss rs in subst P is.rules found

      named_rules : RulesFor (names_of (declared_in is.lines)) ns (rules_in is.written) rs
      named_rules = let P : List (List ℕ) → Type 0 = λ ts. RulesFor ts ns (rules_in is.written) rs in subst P names_are written_rules

      pub is_built : OneTree → (ts : List Terminal) (start : ℕ) → map (λ (t : Terminal). t.name) ts ≡ bytes_of c.terminals → map (λ (t : Terminal). t.number) ts ≡ c.numbers.keys → map (λ (t : Terminal). t.arity) ts ≡ c.arities.items → StartFor ns (option_to_list (option_map (λ (n : Bor (List ℕ)). n.now) c.start)) start → IsBuilt is.written (record { terminals = ts; nonterminals = ns; start = start; rules = rs })
      is_built one ts start en eu ea st =
          let P : List (List ℕ) → Type 0 = λ xs. AreTerminals xs (map (λ (t : Terminal). t.number) ts) in
          let Q : List ℕ → Type 0 = λ xs. AreTerminals (bytes_of c.terminals) xs in
          let R : List (List ℕ) → Type 0 = λ xs. AreApart xs (lefts_of (rules_in is.written)) in
          let S : List (List ℕ) → Type 0 = λ xs. StartFor ns xs start in
          let U : List (List ℕ) → Type 0 = λ xs. RulesFor xs ns (rules_in is.written) rs in
          let once = (are_terminals is.lines is.written is.faultless.none is.are_written).names_once in
          record {
            names = en ∙ is.names;
            numbers = eu ∙ is.numbers;
            fine = subst P (sym en) (subst Q (sym eu) terminals_are);
            firsts = firsts;
            few = few_nonterminals;
            apart = subst R (sym (en ∙ names_are)) (apart is.lines is.written is.faultless is.are_written);
            start = subst S is.start st;
            rules = subst U (sym en) written_rules;
            noted = rw ea (all_noted is.lines is.written is.faultless.none is.are_written ns rs c.arities.items first_arities named_rules (small is.lines is.written is.faultless is.are_written));
            only = rw ea (only_used is.lines is.written is.faultless.none is.are_written ns rs c.arities.items first_arities named_rules one once);
            some = some_rule is.lines is.written is.faultless is.are_written;
            limit = few_rules is.lines is.written is.faultless is.are_written;
            small = small is.lines is.written is.faultless is.are_written;
            names_spelled = names_spelled (lines_of text) is.lines is.written is.are is.are_written;
            rules_spelled = rules_spelled (lines_of text) is.lines is.written is.are is.are_written;
          }
