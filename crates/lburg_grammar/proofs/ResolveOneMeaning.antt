-- The words of a text mean one description at most.
use Rattle.std.proofs.Common.{◌≡◌, ℕ, suc, ◌+◌, List, [], ◌∷◌, length, map, Option, Some, None, refl, sym, ap, ◌∙◌, subst, inl, inr, arith}
use Rattle.std.specs.Prelude.{slice_get}
use Rattle.std.proofs.lemmas.Option.{same_Some}
use Rattle.std.proofs.lemmas.List.{length-map}
use Rattle.lburg_lines.specs.Grammar.{MRule, MLine, MCost, Omitted, Fixed, Between}
use Rattle.lburg_faults.specs.Written.{rules_in, terminals_in, starts_in}
use Rattle.lburg_faults.specs.Ruling.{lefts_of}
use Rattle.lburg_faults.specs.Terminals.{names_of}
use Rattle.lburg_model.specs.declared.range.Range.{Range}
use Rattle.lburg_model.specs.declared.rule.Rule.{Rule}
use Rattle.lburg_model.specs.declared.terminal.Terminal.{Terminal}
use Rattle.lburg_model.specs.Pattern.{MPattern, PHole, PLeaf, POne, PTwo, pattern_of}
use Rattle.lburg_model.specs.Description.{MDescription, RuleAt, Uses, HasArity}
use Rattle.lburg_grammar.specs.DescriptionText.{Means, CostMeans}
use Rattle.lburg_grammar.specs.Places.{StartFor, RuleFor, RulesFor}
use Rattle.lburg_grammar.specs.Uses.{UsesWith, arity_at}
use Rattle.lburg_model.specs.SameParts.{SameRule, SameParts}
use Rattle.lburg_grammar.proofs.ResolveFirsts.{one_order}
use Rattle.lburg_grammar.proofs.ResolveMeaning.{rule_back, means_names, means_numbers, means_many, means_start, means_firsts, means_rules, means_table}
use Rattle.lburg_grammar.proofs.ResolvePatternPlaces.{element_at, fitting, known_some}

same_cost : (cost : MCost) (a b : ℕ) (r q : Option Range) → CostMeans cost a r → CostMeans cost b q → (a ≡ b) × (r ≡ q)
same_cost Omitted a b r q h k = (h.0 ∙ sym k.0, h.1 ∙ sym k.1)
same_cost (Fixed digits) a b r q h k = (h.0 ∙ sym k.0, h.1 ∙ sym k.1)
same_cost (Between low high) a b r q h k = (h.0 ∙ sym k.0, h.1 ∙ sym k.1)

same_rule : (ts ns : List (List ℕ)) (s : MRule) (r q : Rule) → RuleFor ts ns s r → RuleFor ts ns s q → SameRule r q
same_rule ts ns s r q h k = record {
  left = same_Some r.left q.left (sym h.left ∙ k.left);
  pattern = same_Some (pattern_of r.pattern) (pattern_of q.pattern) (sym h.pattern ∙ k.pattern);
  template = h.template ∙ sym k.template;
  cost = (same_cost s.cost r.cost q.cost r.range q.range h.cost k.cost).0;
  range = (same_cost s.cost r.cost q.cost r.range q.range h.cost k.cost).1;
}

-- an operator of a pattern has so many operands there
used_with : (p : MPattern) (op : ℕ) → Uses op p → (n : ℕ) × UsesWith p op n
used_with (PHole m) op u = absurd u
used_with (PLeaf o) op u = (0, (u, refl))
used_with (POne o p) op (inl e) = (1, inl (e, refl))
used_with (POne o p) op (inr u) = let w = used_with p op u in (w.0, inr w.1)
used_with (PTwo o p q) op (inl e) = (2, inl (e, refl))
used_with (PTwo o p q) op (inr (inl u)) = let w = used_with p op u in (w.0, inr (inl w.1))
used_with (PTwo o p q) op (inr (inr u)) = let w = used_with q op u in (w.0, inr (inr w.1))

-- a start symbol has one place
same_start : (ns names : List (List ℕ)) (a b : ℕ) → ((i j : ℕ) (x : List ℕ) → slice_get ns i ≡ Some x → slice_get ns j ≡ Some x → i ≡ j) → StartFor ns names a → StartFor ns names b → a ≡ b
same_start ns [] a b once h k = h ∙ sym k
same_start ns (x ∷ []) a b once h k = once a b x h k
same_start ns (x ∷ y ∷ names) a b once h k = absurd h

-- terminals are told by names, numbers and arities
same_terminals : (ts us : List Terminal) → map (λ (t : Terminal). t.name) ts ≡ map (λ (t : Terminal). t.name) us → map (λ (t : Terminal). t.number) ts ≡ map (λ (t : Terminal). t.number) us → map (λ (t : Terminal). t.arity) ts ≡ map (λ (t : Terminal). t.arity) us → ts ≡ us
same_terminals [] [] e f g = refl
same_terminals [] (u ∷ us) e f g = cc
same_terminals (t ∷ ts) [] e f g = cc
same_terminals (t ∷ ts) (u ∷ us) e f g =
    let names : map (λ (t : Terminal). t.name) ts ≡ map (λ (t : Terminal). t.name) us = cc in
    let numbers : map (λ (t : Terminal). t.number) ts ≡ map (λ (t : Terminal). t.number) us = cc in
    let arities : map (λ (t : Terminal). t.arity) ts ≡ map (λ (t : Terminal). t.arity) us = cc in
    let rest : ts ≡ us = same_terminals ts us names numbers arities in
    let name : t.name ≡ u.name = cc in
    let number : t.number ≡ u.number = cc in
    let arity : t.arity ≡ u.arity = cc in
    let first : t ≡ u = ap (λ (n : List ℕ). record { name = n; number = t.number; arity = t.arity }) name ∙ ap (λ (n : ℕ). record { name = u.name; number = n; arity = t.arity }) number ∙ ap (λ (a : Option ℕ). record { name = u.name; number = u.number; arity = a }) arity in
    cc

-- lists that have the same numbers at the same places
same_options : (xs ys : List (Option ℕ)) → length xs ≡ length ys → ((k a : ℕ) → slice_get xs k ≡ Some (Some a) → slice_get ys k ≡ Some (Some a)) → ((k a : ℕ) → slice_get ys k ≡ Some (Some a) → slice_get xs k ≡ Some (Some a)) → xs ≡ ys
same_options [] [] l f g = refl
same_options [] (y ∷ ys) l f g = absurd (omega arith)
same_options (x ∷ xs) [] l f g = absurd (omega arith)
same_options (x ∷ xs) (y ∷ ys) l f g =
    let rest : xs ≡ ys = same_options xs ys (omega arith) (λ k. f (suc k)) (λ k. g (suc k)) in
    let first : x ≡ y = same_first x y (f 0) (g 0) in
    cc
  where
    same_first : (o p : Option ℕ) → ((a : ℕ) → ◌≡◌ {A = Option (Option ℕ)} (Some o) (Some (Some a)) → ◌≡◌ {A = Option (Option ℕ)} (Some p) (Some (Some a))) → ((a : ℕ) → ◌≡◌ {A = Option (Option ℕ)} (Some p) (Some (Some a)) → ◌≡◌ {A = Option (Option ℕ)} (Some o) (Some (Some a))) → o ≡ p
    same_first None None h k = refl
    same_first None (Some b) h k = let e = k b refl in cc
    same_first (Some a) p h k = let e = h a refl in cc

-- the arity of a terminal is told by the rules that use it
module _ (s : List MLine) (d e : MDescription) (m : Means s d) (n : Means s e) where
  pub same_nonterminals : d.nonterminals ≡ e.nonterminals
  same_nonterminals = one_order (lefts_of (rules_in s)) d.nonterminals e.nonterminals (means_firsts s d m) (means_firsts s e n)

  -- the rules of d, as e places names
  pub rules_as : RulesFor (names_of (terminals_in s)) e.nonterminals (rules_in s) d.rules
  rules_as = subst (λ (ns : List (List ℕ)). RulesFor (names_of (terminals_in s)) ns (rules_in s) d.rules) same_nonterminals (means_rules s d m)

  some_at : (k a : ℕ) → arity_at (map (λ (x : Terminal). x.arity) e.terminals) (suc k) ≡ Some a → slice_get (map (λ (x : Terminal). x.arity) e.terminals) k ≡ Some (Some a)
  some_at k a h = known_some (slice_get (map (λ (x : Terminal). x.arity) e.terminals) k) a h

  arity_there : (k : ℕ) (t : Terminal) (a : ℕ) → slice_get d.terminals k ≡ Some t → t.arity ≡ Some a → slice_get (map (λ (x : Terminal). x.arity) e.terminals) k ≡ Some (Some a)
  arity_there k t a at is =
      let u = m.is.used k t a at is in
      let w = used_with (pattern_of u.1.pattern) (k + 1) u.3 in
      let next : k + 1 ≡ suc k = omega arith in
      let has : HasArity d (suc k) w.0 = subst (λ (z : ℕ). HasArity d z w.0) next (fitting d (pattern_of u.1.pattern) (k + 1) w.0 (m.is.rules u.0 u.1 u.2).fits w.1) in
      let same = same_Some has.0 t (sym has.1 ∙ at) in
      let count : Some w.0 ≡ Some a = sym has.2 ∙ ap (λ (x : Terminal). x.arity) same ∙ is in
      let table = means_table s e n d.rules rules_as (k + 1) w.0 (u.0, u.1, u.2, w.1) in
      some_at k a (subst (λ (z : ℕ). arity_at (map (λ (x : Terminal). x.arity) e.terminals) z ≡ Some a) next (table ∙ count))

  -- the same with the terminals' places
  arity_kept : (k a : ℕ) → slice_get (map (λ (x : Terminal). x.arity) d.terminals) k ≡ Some (Some a) → slice_get (map (λ (x : Terminal). x.arity) e.terminals) k ≡ Some (Some a)
  arity_kept k a h = let t = element_at (λ (x : Terminal). x.arity) d.terminals k (Some a) h in arity_there k t.0 a t.1 t.2

module _ (s : List MLine) (d e : MDescription) (m : Means s d) (n : Means s e) where
  same_names : map (λ (t : Terminal). t.name) d.terminals ≡ map (λ (t : Terminal). t.name) e.terminals
  same_names = means_names s d m ∙ sym (means_names s e n)

  same_arities : map (λ (t : Terminal). t.arity) d.terminals ≡ map (λ (t : Terminal). t.arity) e.terminals
  same_arities =
      let long = length-map d.terminals (λ (t : Terminal). t.arity) in
      let long' = length-map e.terminals (λ (t : Terminal). t.arity) in
      let named = length-map d.terminals (λ (t : Terminal). t.name) in
      let named' = length-map e.terminals (λ (t : Terminal). t.name) in
      let equal = ap length same_names in
      same_options _ _ (omega arith) (arity_kept s d e m n) (arity_kept s e d n m)

  rule_of_both : (i : ℕ) (r : Rule) → RuleAt d i r → (q : Rule) × RuleAt e i q × SameRule r q
  rule_of_both i r at =
      let b = rule_back d (rules_in s) d.rules i r m.rules at in
      let mine = (rules_as s d e m n).each i b.0 b.1 in
      let theirs = (means_rules s e n).each i b.0 b.1 in
      let same : mine.0 ≡ r = same_Some mine.0 r (sym mine.1 ∙ at) in
      (theirs.0, theirs.1, subst (λ (x : Rule). SameRule x theirs.0) same (same_rule _ _ b.0 mine.0 theirs.0 mine.2 theirs.2))

  pub one_meaning : SameParts d e
  one_meaning =
      let ns = same_nonterminals s d e m n in
      record {
        terminals = same_terminals d.terminals e.terminals same_names (means_numbers s d m ∙ sym (means_numbers s e n)) same_arities;
        nonterminals = ns;
        start = same_start e.nonterminals (starts_in s) d.start e.start n.is.nonterminal_names (subst (λ (xs : List (List ℕ)). StartFor xs (starts_in s) d.start) ns (means_start s d m)) (means_start s e n);
        many = means_many s d m ∙ sym (means_many s e n);
        rules = rule_of_both;
      }
