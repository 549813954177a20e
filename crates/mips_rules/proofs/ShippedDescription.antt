-- The shipped tables make a description.
use Rattle.std.specs.Prelude.{◌≡◌, ℕ, zero, suc, ◌+◌, ◌<◌, ◌≤◌, ◌==◌, ◌&&◌, ◌||◌, not, ◌⊎◌, nat_le, nat_lt, Bool, true, false, Option, Some, None, is_some, List, [], ◌∷◌, map, length, slice_get, slice_index_or, refl}
use Rattle.std.specs.List.{list_any, AllByRecursion}
use Rattle.std.specs.Str.{bytes_eq}
use Rattle.std.proofs.Common.{ap, sym, ◌∙◌, arith, subst, inl, inr, ⊎_elim}
use Rattle.std.proofs.lemmas.List.{length-map}
use Rattle.std.proofs.lemmas.Bool.{both_ways, and_parts, or_cases, eqb-true, leb-true, ltb-true}
use Rattle.lcc_text.specs.declared.class.Class.TheVariants.{Letter, Name}
use Rattle.lcc_text.specs.Classes.{in_class, AllIn}
use Rattle.lburg_lines.specs.Tokens.{Word, Template, IsToken, is_quoted, escapes_well}
use Rattle.lburg_model.specs.declared.rule.Rule.{Rule}
use Rattle.lburg_model.specs.declared.range.Range.{Range}
use Rattle.lburg_model.specs.Range.{IsRangeFor}
use Rattle.lburg_model.specs.declared.terminal.Terminal.{Terminal}
use Rattle.lburg_model.specs.Pattern.{MPattern, PHole, PLeaf, POne, PTwo, pattern_of, pattern_nodes}
use Rattle.lburg_model.specs.Description.{MDescription, FitsIn, Uses, RuleAt, AreNames, IsDescription}
use Rattle.vcode.specs.RuleSets.{Row, row_of}
use Rattle.frame_rules.specs.Rows.{Line, nonterminals, stmt}
use Rattle.mips_rules.specs.MipsRows.{lines, rows, costs, ranges}
use Rattle.mips_rules.specs.MipsTerminals.{terminals}
use Rattle.mips_rules.proofs.ListTests.{each, each_at, distinct, distinct_places, found_by, bytes_same, number_same, apart, apart_at, mapped_at, at_mapped, all_at}

abbrev described : List Rule → MDescription
described rules = record { terminals = terminals; nonterminals = nonterminals; start = stmt; rules = rules }

names_distinct : distinct bytes_eq (map (λ t. t.name) terminals) ≡ true
names_distinct = refl

numbers_distinct : distinct (λ n m. n == m) (map (λ t. t.number) terminals) ≡ true
numbers_distinct = refl

nonterminals_distinct : distinct bytes_eq nonterminals ≡ true
nonterminals_distinct = refl

names_apart : apart bytes_eq (map (λ t. t.name) terminals) nonterminals ≡ true
names_apart = refl

numbers_small : each (λ place n. nat_le n 2147483647) 0 (map (λ t. t.number) terminals) ≡ true
numbers_small = refl

-- all bytes are in a class
abbrev all_in : (ℕ → Bool) → List ℕ → Bool
all_in class [] = true
all_in class (b ∷ bs) = class b && all_in class bs

all_are : (class : ℕ → Bool) (bs : List ℕ) → all_in class bs ≡ true → AllIn class bs
all_are class [] h = tt
all_are class (b ∷ bs) h = let p = and_parts (class b) (all_in class bs) h in (p.0, all_are class bs p.1)

-- a letter, then bytes of names
abbrev is_name : List ℕ → Bool
is_name [] = false
is_name (b ∷ bs) = in_class Letter b && all_in (in_class Name) (b ∷ bs)

is_word : (name : List ℕ) → is_name name ≡ true → IsToken (Word name)
is_word [] h = absurd (both_ways false refl h)
is_word (b ∷ bs) h =
    let p = and_parts (in_class Letter b) (all_in (in_class Name) (b ∷ bs)) h in (p.0, all_are (in_class Name) (b ∷ bs) p.1)

abbrev is_template : List ℕ → Bool
is_template bytes = all_in is_quoted bytes && escapes_well bytes

is_text : (bytes : List ℕ) → is_template bytes ≡ true → IsToken (Template bytes)
is_text bytes h = let p = and_parts (all_in is_quoted bytes) (escapes_well bytes) h in (all_are is_quoted bytes p.0, p.1)

names_fit : each (λ place n. is_name n) 0 (map (λ t. t.name) terminals) ≡ true
names_fit = refl

nonterminals_fit : each (λ place n. is_name n) 0 nonterminals ≡ true
nonterminals_fit = refl

templates_fit : each (λ place row. is_template row.template) 0 rows ≡ true
templates_fit = refl

are_names : (names : List (List ℕ)) → each (λ place n. is_name n) 0 names ≡ true → AreNames names
are_names names h i name e = is_word name (each_at (λ place n. is_name n) 0 names i name h e)

costs_small : each (λ place n. nat_le n 32766) 0 costs ≡ true
costs_small = refl

-- the operator stands in the pattern
abbrev uses : ℕ → MPattern → Bool
uses op (PHole n) = false
uses op (PLeaf o) = o == op
uses op (POne o p) = (o == op) || uses op p
uses op (PTwo o p q) = (o == op) || (uses op p || uses op q)

uses_so : (op : ℕ) (p : MPattern) → uses op p ≡ true → Uses op p
uses_so op (PHole n) h = both_ways false refl h
uses_so op (PLeaf o) h = eqb-true o op h
uses_so op (POne o p) h = ⊎_elim (λ e. inl (eqb-true o op e)) (λ e. inr (uses_so op p e)) (or_cases (o == op) (uses op p) h)
uses_so op (PTwo o p q) h =
    ⊎_elim (λ e. inl (eqb-true o op e)) (λ e. inr (⊎_elim (λ f. inl (uses_so op p f)) (λ f. inr (uses_so op q f)) (or_cases (uses op p) (uses op q) e))) (or_cases (o == op) (uses op p || uses op q) h)

-- a terminal with an arity is used
abbrev is_used : ℕ → Terminal → Bool
is_used op t = not (is_some t.arity) || list_any (λ row. uses op row.pattern) rows

all_used : each (λ op t. is_used op t) 1 terminals ≡ true
all_used = refl

-- the first rule of a nonterminal
abbrev first_rule : ℕ → ℕ
first_rule n = slice_index_or (0 ∷ 1 ∷ 2 ∷ 4 ∷ 5 ∷ []) n 0

abbrev all_before : ℕ → ℕ → Bool
all_before place zero = true
all_before place (suc n) = nat_lt (first_rule n) place && all_before place n

before : (place left n : ℕ) → all_before place left ≡ true → n < left → first_rule n < place
before place zero n h g = absurd (none n g)
  where
    none : (k : ℕ) → k < 0 → ⊥
    none k f = omega (arith, f)
before place (suc left) n h g =
    let p = and_parts (nat_lt (first_rule left) place) (all_before place left) h in
    ⊎_elim (λ e. subst (λ k. first_rule k < place) (sym e) (ltb-true (first_rule left) place p.0)) (λ f. before place left n p.1 f) (last n left g)
  where
    last : (k l : ℕ) → k < suc l → (k ≡ l) ⊎ (k < l)
    last k l f = grind (arith, f)

lefts_ordered : each (λ place row. all_before place row.left) 0 rows ≡ true
lefts_ordered = refl

-- a nonterminal has its first rule
first_at : (n : ℕ) → n < length nonterminals → (row : Row) × (slice_get rows (first_rule n) ≡ Some row) × (row.left ≡ n)
first_at zero h = (_, refl, refl)
first_at (suc zero) h = (_, refl, refl)
first_at (suc (suc zero)) h = (_, refl, refl)
first_at (suc (suc (suc zero))) h = (_, refl, refl)
first_at (suc (suc (suc (suc zero)))) h = (_, refl, refl)
first_at (suc (suc (suc (suc (suc n))))) h = absurd (past n h)
  where
    past : (k : ℕ) → suc (suc (suc (suc (suc k)))) < 5 → ⊥
    past k g = omega (arith, g)

-- where no rule of the table has a range, none has
pub no_range : (rules : List Rule) → map (λ r. r.range) rules ≡ ranges → (i : ℕ) (r : Rule) → slice_get rules i ≡ Some r → r.range ≡ None
no_range rules same i r e =
    sym (mapped_at (λ (l : Line). let none : Option Range = None in none) lines i r.range (ap (λ l. slice_get l i) (sym same) ∙ at_mapped (λ x. x.range) rules i r e)).2

module _ (rules : List Rule) (same_rows : map row_of rules ≡ rows) (same_costs : map (λ r. r.cost) rules ≡ costs) (same_ranges : map (λ r. r.range) rules ≡ ranges) where
  -- a rule of a row, and the row of a rule
  rule_at : (i : ℕ) (row : Row) → slice_get rows i ≡ Some row → (r : Rule) × (slice_get rules i ≡ Some r) × (row_of r ≡ row)
  rule_at i row e = mapped_at row_of rules i row (ap (λ l. slice_get l i) same_rows ∙ e)

  row_at : (i : ℕ) (r : Rule) → slice_get rules i ≡ Some r → slice_get rows i ≡ Some (row_of r)
  row_at i r e = ap (λ l. slice_get l i) (sym same_rows) ∙ at_mapped row_of rules i r e

  used_by : (i : ℕ) (t : Terminal) (n : ℕ) → slice_get terminals i ≡ Some t → t.arity ≡ Some n → (j : ℕ) × (r : Rule) × RuleAt (described rules) j r × Uses (i + 1) (pattern_of r.pattern)
  used_by i t n e arity =
      let test : is_used (1 + i) t ≡ true = each_at (λ op u. is_used op u) 1 terminals i t all_used e in
      let some : not (is_some t.arity) ≡ false = ap (λ a. not (is_some a)) arity in
      let found = found_by (λ row. uses (1 + i) row.pattern) rows (⊎_elim (λ h. absurd (both_ways (not (is_some t.arity)) some h)) (λ h. h) (or_cases (not (is_some t.arity)) (list_any (λ row. uses (1 + i) row.pattern) rows) test)) in
      let rule = rule_at found.0 found.1 found.2 in
      let same : 1 + i ≡ i + 1 = omega arith in
      (found.0, rule.0, rule.1, subst (λ k. Uses k (pattern_of rule.0.pattern)) same (subst (λ row. Uses (1 + i) row.pattern) (sym rule.2) (uses_so (1 + i) found.1.pattern found.3)))

  -- what each row keeps
  abbrev Fits : Row → Type 0
  Fits row = (row.left < 5) × FitsIn (described rules) row.pattern × (pattern_nodes row.pattern ≤ 16)

  all_fit : AllByRecursion Fits rows
  all_fit = (
    (omega arith, omega arith, omega arith),
    (
      (omega arith, (_, refl, refl), omega arith),
      (
        (omega arith, omega arith, omega arith),
        (
          (omega arith, omega arith, omega arith),
          (
            (omega arith, omega arith, omega arith),
            (
              (omega arith, (_, refl, refl), omega arith),
              (
                (omega arith, ((_, refl, refl), (omega arith, omega arith)), omega arith),
                (
                  (omega arith, ((_, refl, refl), (omega arith, omega arith)), omega arith),
                  (
                    (omega arith, ((_, refl, refl), (omega arith, omega arith)), omega arith),
                    (
                      (omega arith, ((_, refl, refl), omega arith), omega arith),
                      (
                        (omega arith, ((_, refl, refl), omega arith), omega arith),
                        (
                          (omega arith, ((_, refl, refl), omega arith), omega arith),
                          (
                            (omega arith, ((_, refl, refl), omega arith), omega arith),
                            tt,
                          ),
                        ),
                      ),
                    ),
                  ),
                ),
              ),
            ),
          ),
        ),
      ),
    ),
  )

  fit_at : (i : ℕ) (r : Rule) → slice_get rules i ≡ Some r → Fits (row_of r)
  fit_at i r e = all_at Fits rows i (row_of r) all_fit (row_at i r e)

  cost_at : (i : ℕ) (r : Rule) → slice_get rules i ≡ Some r → r.cost ≤ 32766
  cost_at i r e =
      leb-true r.cost 32766 (each_at (λ place n. nat_le n 32766) 0 costs i r.cost costs_small (ap (λ l. slice_get l i) (sym same_costs) ∙ at_mapped (λ x. x.cost) rules i r e))

  template_at : (i : ℕ) (r : Rule) → slice_get rules i ≡ Some r → IsToken (Template r.template)
  template_at i r e = is_text r.template (each_at (λ place row. is_template row.template) 0 rows i (row_of r) templates_fit (row_at i r e))

  rule_of : (n : ℕ) → n < length nonterminals → (i : ℕ) × (r : Rule) × RuleAt (described rules) i r × (r.left ≡ n)
  rule_of n h =
      let first = first_at n h in
      let rule = rule_at (first_rule n) first.0 first.1 in
      (first_rule n, rule.0, rule.1, ap (λ row. row.left) rule.2 ∙ first.2)

  earlier : (j : ℕ) (r : Rule) (n : ℕ) → RuleAt (described rules) j r → n < r.left → (i : ℕ) × (q : Rule) × (i < j) × RuleAt (described rules) i q × (q.left ≡ n)
  earlier j r n e h =
      let fit = fit_at j r e in
      let low : n < 5 = omega (arith, fit.0, h) in
      let first = first_at n low in
      let rule = rule_at (first_rule n) first.0 first.1 in
      let test : all_before (0 + j) r.left ≡ true = each_at (λ place row. all_before place row.left) 0 rows j (row_of r) lefts_ordered (row_at j r e) in
      let less = before (0 + j) r.left n test h in
      (first_rule n, rule.0, omega (arith, less), rule.1, ap (λ row. row.left) rule.2 ∙ first.2)

  how_many : length rules ≡ 13
  how_many = sym (length-map rules row_of) ∙ ap (λ l. length l) same_rows

  pub is_description : IsDescription (described rules)
  is_description = record {
    terminals = omega arith;
    names = distinct_places bytes_eq bytes_same (map (λ t. t.name) terminals) names_distinct;
    numbers = distinct_places (λ n m. n == m) number_same (map (λ t. t.number) terminals) numbers_distinct;
    number_limit = λ i n e. leb-true n 2147483647 (each_at (λ place k. nat_le k 2147483647) 0 (map (λ t. t.number) terminals) i n numbers_small e);
    used = used_by;
    names_spelled = are_names (map (λ t. t.name) terminals) names_fit;
    nonterminals = omega arith;
    nonterminals_spelled = are_names nonterminals nonterminals_fit;
    nonterminal_names = distinct_places bytes_eq bytes_same nonterminals nonterminals_distinct;
    apart = λ i j name e f. apart_at bytes_eq bytes_same (map (λ t. t.name) terminals) nonterminals i j name names_apart e f;
    start = omega arith;
    some_rule = omega (arith, how_many);
    rule_limit = omega (arith, how_many);
    rules = λ i r e. let fit = fit_at i r e in record { left = fit.0; fits = fit.1; nodes = fit.2; template = template_at i r e; cost = cost_at i r e; range = subst (λ o. IsRangeFor r.cost o) (sym (no_range rules same_ranges i r e)) tt };
    ruled = rule_of;
    in_order = earlier;
  }

-- the same of the lists that the tables make
pub makes_description : (ts : List Terminal) (ns : List (List ℕ)) (rules : List Rule) → ts ≡ terminals → ns ≡ nonterminals → map row_of rules ≡ rows → map (λ r. r.cost) rules ≡ costs → map (λ r. r.range) rules ≡ ranges → IsDescription (record { terminals = ts; nonterminals = ns; start = stmt; rules = rules })
makes_description ts ns rules e f g h k =
    subst (λ us. IsDescription (record { terminals = us; nonterminals = ns; start = stmt; rules = rules })) (sym e) (subst (λ ms. IsDescription (record { terminals = terminals; nonterminals = ms; start = stmt; rules = rules })) (sym f) (is_description rules g h k))
