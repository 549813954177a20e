-- What is written on the lines of a printed description means the description.
use Rattle.std.proofs.Common.{◌≡◌, ◌≤◌, ℕ, suc, Option, Some, None, List, [], ◌∷◌, map, decimal, refl, sym, ap, subst, ◌∙◌, arith}
use Rattle.std.specs.Prelude.{slice_get}
use Rattle.lcc_text.specs.Decimal.{value_of}
use Rattle.lburg_lines.specs.Grammar.{MLine, MRule, MNumbered, Divides}
use Rattle.lburg_faults.specs.Written.{rules_in, terminals_in, starts_in}
use Rattle.lburg_model.specs.declared.range.Range.{Range}
use Rattle.lburg_model.specs.declared.rule.Rule.{Rule}
use Rattle.lburg_model.specs.declared.terminal.Terminal.{Terminal}
use Rattle.lburg_model.specs.Range.{IsRangeFor}
use Rattle.lburg_model.specs.Pattern.{MPattern, PHole, PLeaf, POne, PTwo, pattern_of}
use Rattle.lburg_model.specs.Description.{MDescription, IsDescription, IsRuleOf, HasArity, FitsIn}
use Rattle.lburg_model.specs.NamesOf.{operator_name, nonterminal_name}
use Rattle.lburg_grammar.specs.DescriptionText.{IsNamed, PatternMeans, CostMeans, RuleMeans, RulesMean, StartMeans, Means, named_number, declared_number}
use Rattle.lburg_grammar.proofs.PrintedNumbers.{value_decimal, end_value}
use Rattle.lburg_grammar.proofs.PrintedParts.{tree_in, cost_in, rule_in, terminal_in, rules_written, terminals_then, written_in}
use Rattle.lburg_grammar.proofs.PrintedLines.{name_of, nonterminal_there}

-- ---- rules

cost_means : (cost : ℕ) (range : Option Range) → cost ≤ 32766 → IsRangeFor cost range → CostMeans (cost_in cost range) cost range
cost_means cost None h k = (sym (value_decimal cost (omega (arith, h))), refl)
cost_means cost (Some range) h k =
    let low = end_value range.low k.1 in
    let high = end_value range.high k.2 in
    (k.0, rw (low, high) refl)

is_named : (d : MDescription) (op n : ℕ) → HasArity d op n → IsNamed d op (operator_name d op)
is_named d op n h = (h.0, h.1, name_of d op h.0 h.1)

pattern_means : (d : MDescription) (p : MPattern) → FitsIn d p → PatternMeans d (tree_in d p) p
pattern_means d (PHole n) h = nonterminal_there d n h
pattern_means d (PLeaf op) h = is_named d op 0 h
pattern_means d (POne op p) h = (is_named d op 1 h.0, pattern_means d p h.1)
pattern_means d (PTwo op p q) h = (is_named d op 2 h.0, (pattern_means d p h.1.0, pattern_means d q h.1.1))

rule_means : (d : MDescription) (r : Rule) → IsRuleOf d r → RuleMeans d (rule_in d r) r
rule_means d r h = record {
  left = nonterminal_there d r.left h.left;
  pattern = pattern_means d (pattern_of r.pattern) h.fits;
  template = refl;
  cost = cost_means r.cost r.range h.cost h.range;
}

rules_mean : (d : MDescription) (rs : List Rule) → ((i : ℕ) (r : Rule) → slice_get rs i ≡ Some r → IsRuleOf d r) → RulesMean d (map (rule_in d) rs) rs
rules_mean d [] h = tt
rules_mean d (r ∷ rs) h = (rule_means d r (h 0 r refl), rules_mean d rs (λ i x e. h (suc i) x e))

-- ---- terminals

terminals_mean : (ts : List Terminal) → ((i n : ℕ) → slice_get (map (λ (t : Terminal). t.number) ts) i ≡ Some n → n ≤ 2147483647) → map named_number ts ≡ map declared_number (map terminal_in ts)
terminals_mean [] h = refl
terminals_mean (t ∷ ts) h =
    let limit = h 0 t.number refl in
    let e = value_decimal t.number (omega (arith, limit)) in
    let rest = terminals_mean ts (λ i n g. h (suc i) n g) in
    let Pair : Type 0 = List ℕ × ℕ in
    ap (λ (n : ℕ). (t.name, n) ∷ map named_number ts) (sym e) ∙ ap (λ (ps : List Pair). (t.name, value_of (decimal t.number)) ∷ ps) rest

-- ---- the parts of the lines

terminals_rules : (ts : List Terminal) (ws : List MLine) → rules_in (terminals_then ts ws) ≡ rules_in ws
terminals_rules [] ws = refl
terminals_rules (t ∷ ts) ws = terminals_rules ts ws

terminals_starts : (ts : List Terminal) (ws : List MLine) → starts_in (terminals_then ts ws) ≡ starts_in ws
terminals_starts [] ws = refl
terminals_starts (t ∷ ts) ws = terminals_starts ts ws

all_rules : (d : MDescription) (rs : List Rule) → rules_in (rules_written d rs) ≡ map (rule_in d) rs
all_rules d [] = refl
all_rules d (r ∷ rs) = ap (λ (ss : List MRule). rule_in d r ∷ ss) (all_rules d rs)

no_starts : (d : MDescription) (rs : List Rule) → starts_in (rules_written d rs) ≡ []
no_starts d [] = refl
no_starts d (r ∷ rs) = no_starts d rs

no_terminals : (d : MDescription) (rs : List Rule) → terminals_in (rules_written d rs) ≡ []
no_terminals d [] = refl
no_terminals d (r ∷ rs) = no_terminals d rs

all_terminals : (ts : List Terminal) (ws : List MLine) → terminals_in ws ≡ [] → terminals_in (terminals_then ts ws) ≡ map terminal_in ts
all_terminals [] ws e = e
all_terminals (t ∷ ts) ws e = ap (λ (ns : List MNumbered). terminal_in t ∷ ns) (all_terminals ts ws e)

pub written_means : (d : MDescription) → IsDescription d → Means (written_in d) d
written_means d is =
    let ws = Divides ∷ rules_written d d.rules in
    let name = nonterminal_name d d.start in
    let rules : rules_in (written_in d) ≡ map (rule_in d) d.rules = terminals_rules d.terminals ws ∙ all_rules d d.rules in
    let starts : starts_in (written_in d) ≡ name ∷ [] = ap (λ (ns : List (List ℕ)). name ∷ ns) (terminals_starts d.terminals ws ∙ no_starts d d.rules) in
    let terminals : terminals_in (written_in d) ≡ map terminal_in d.terminals = all_terminals d.terminals ws (no_terminals d d.rules) in
    let S : List (List ℕ) → Type 0 = λ ns. StartMeans d ns in
    let R : List MRule → Type 0 = λ ss. RulesMean d ss d.rules in
    record {
      terminals = terminals_mean d.terminals is.number_limit ∙ ap (map declared_number) (sym terminals);
      start = subst S (sym starts) (nonterminal_there d d.start is.start);
      rules = subst R (sym rules) (rules_mean d d.rules is.rules);
      is = is;
    }
