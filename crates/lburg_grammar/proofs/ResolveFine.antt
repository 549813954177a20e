-- What a text without a fault says of its rules and of its start symbol.
use Rattle.std.proofs.Common.{◌≡◌, ◌≤◌, ◌⊎◌, ℕ, zero, suc, false, List, [], ◌∷◌, length, take, drop, Some, refl, sym, ap, ◌∙◌, subst, inl, inr, arith}
use Rattle.std.specs.Prelude.{slice_get, option_map}
use Rattle.std.proofs.lemmas.Option.{none-some, same_Some, slice_get-map, slice_get_within}
use Rattle.std.proofs.lemmas.Bool.{cases_lt}
use Rattle.lcc_base.specs.declared.which.Which.TheVariants as which
use Rattle.lcc_text.specs.Decimal.{value_of}
use Rattle.lcc_text.proofs.lemmas.Places.{known_or_new}
use Rattle.lburg_lines.specs.declared.token.Sign.TheVariants.{Open, Close, Comma, Colon}
use Rattle.lburg_lines.specs.Tokens.{Tok, Word, Template, Mark}
use Rattle.lburg_lines.specs.NamedTree.{MNamed, Alone, Over, Both, tree_then, names_in}
use Rattle.lburg_lines.specs.Grammar.{MLine, Blank, Divides, Opens, Closes, Declared, Ruled, MRule, MCost, Omitted, Fixed, Between, Starts, Declares, IsCost, IsLine, cost_tokens}
use Rattle.lburg_lines.specs.Sections.{TokenLine}
use Rattle.lburg_faults.specs.declared.line_fault.LineFault.TheVariants.{BadRule, UnknownTerminal, CostTooLarge, Limit}
use Rattle.lburg_faults.specs.Lines.{StartLine, has_template, words_in}
use Rattle.lburg_faults.specs.Terminals.{Among, declared_in, names_of}
use Rattle.lburg_faults.specs.UnknownNonterminal.{IsLeft}
use Rattle.lburg_faults.specs.Ruling.{lefts_of}
use Rattle.lburg_faults.specs.FirstFault.{NoRule, IsFaultless}
use Rattle.lburg_faults.specs.Written.{AreWritten, rules_in, starts_in}
use Rattle.lburg_grammar.specs.FirstUses.{AreFirsts, AreApart}
use Rattle.lburg_grammar.specs.Places.{AreKnown, IsPrice, AreResolvable}
use Rattle.lburg_grammar.proofs.ResolveNames.{some_at}
use Rattle.lburg_grammar.proofs.ResolveWritten.{RuleLineAt, rule_line_at, is_rule_line, none_at, written_at, ruled_by_kind, ruled_by_name, rule_of_line, among_declarations}
use Rattle.lburg_grammar.proofs.ResolveTrees.{IsPart, name_at}
use Rattle.lburg_grammar.proofs.ResolveUses.{PartInLine, part_in_line, part_word}
use Rattle.lburg_grammar.proofs.ResolveMentions.{at_most}
use Rattle.lburg_grammar.proofs.ResolvePatternPlaces.{element_at}

-- the name of the tree's root is known, as one with or without operands
abbrev pub IsRootKnown : List (List ℕ) → List (List ℕ) → MNamed → Type 0
IsRootKnown ts ns (Alone n) = Among n ts ⊎ Among n ns
IsRootKnown ts ns (Over n a) = Among n ts
IsRootKnown ts ns (Both n a b) = Among n ts

known_from : (ts ns : List (List ℕ)) (tree : MNamed) → ((sub : MNamed) → IsPart sub tree → IsRootKnown ts ns sub) → AreKnown ts ns tree
known_from ts ns (Alone n) h = h (Alone n) refl
known_from ts ns (Over n a) h = (h (Over n a) (inl refl), known_from ts ns a (λ sub p. h sub (inr p)))
known_from ts ns (Both n a b) h = (h (Both n a b) (inl refl), (known_from ts ns a (λ sub p. h sub (inr (inl p))), known_from ts ns b (λ sub p. h sub (inr (inr p)))))

-- ---- the start symbol's line

-- a line that starts with this name
pub record StartAt (lines : List TokenLine) (name : List ℕ) : Type 0 where
  pub index : ℕ
  pub line : TokenLine
  pub there : slice_get lines index ≡ Some line
  pub start : StartLine line (Word name ∷ [])

start_later : (l : TokenLine) (ls : List TokenLine) (name : List ℕ) → StartAt ls name → StartAt (l ∷ ls) name
start_later l ls name a = record { index = suc a.index; line = a.line; there = a.there; start = a.start }

start_first : (l : TokenLine) (ls : List TokenLine) (n name : List ℕ) → IsLine l.section l.tokens (Declared (Starts n)) → n ≡ name → StartAt (l ∷ ls) name
start_first l ls n name p e = record {
  index = zero;
  line = l;
  there = refl;
  start = (let P : List ℕ → Type 0 = λ x. StartLine l (Word x ∷ []) in subst P e (among_declarations l.section (Starts n) p.0, p.1));
}

pub start_at : (ls : List TokenLine) (ws : List MLine) (i : ℕ) (name : List ℕ) → AreWritten ls ws → slice_get (starts_in ws) i ≡ Some name → StartAt ls name
start_at ls [] i name p e = absurd (none-some name e)
start_at [] (w ∷ ws) i name p e = absurd p
start_at (l ∷ ls) (Declared (Starts n) ∷ ws) zero name p e = start_first l ls n name p.0 (same_Some n name e)
start_at (l ∷ ls) (Declared (Starts n) ∷ ws) (suc i) name p e = start_later l ls name (start_at ls ws i name p.1 e)
start_at (l ∷ ls) (Declared (Declares ts) ∷ ws) i name p e = start_later l ls name (start_at ls ws i name p.1 e)
start_at (l ∷ ls) (Blank ∷ ws) i name p e = start_later l ls name (start_at ls ws i name p.1 e)
start_at (l ∷ ls) (Divides ∷ ws) i name p e = start_later l ls name (start_at ls ws i name p.1 e)
start_at (l ∷ ls) (Opens ∷ ws) i name p e = start_later l ls name (start_at ls ws i name p.1 e)
start_at (l ∷ ls) (Closes ∷ ws) i name p e = start_later l ls name (start_at ls ws i name p.1 e)
start_at (l ∷ ls) (Ruled r ∷ ws) i name p e = start_later l ls name (start_at ls ws i name p.1 e)

-- ---- what no fault says

module _ (lines : List TokenLine) (ws : List MLine) (fine : IsFaultless lines) (written : AreWritten lines ws) where
  pub few_rules : length (rules_in ws) ≤ 4095
  few_rules = elim (cases_lt 4095 (length (rules_in ws))) [
    | inl l ↦
        let r = some_at (rules_in ws) 4095 l in
        let a = rule_line_at lines ws 4095 r.0 written r.1 in
        absurd (none_at lines fine.none a.index a.line 0 (Limit which.Rules) a.there (4095, is_rule_line a.line r.0 a.rules a.tokens, a.count, omega arith, refl))
    | inr l ↦ l
  ]

  no_rule : length (rules_in ws) ≤ 0 → NoRule lines
  no_rule h = λ i l g k.
      let w = written_at lines ws i l written g in
      let r = ruled_by_kind l w.0 w.2 k in
      let m = rule_of_line ws i r.0 (w.1 ∙ ap (λ (x : MLine). Some x) r.1) in
      let v = slice_get_within (rules_in ws) m.0 r.0 m.1 in
      absurd (omega arith)

  pub some_rule : 1 ≤ length (rules_in ws)
  some_rule = elim (cases_lt 0 (length (rules_in ws))) [
    | inl l ↦ omega arith
    | inr l ↦ absurd (fine.some_rule (no_rule l))
  ]

  pub apart : AreApart (names_of (declared_in lines)) (lefts_of (rules_in ws))
  apart = λ i j name e g.
      let x = element_at (λ (r : MRule). r.left) (rules_in ws) j name g in
      let a = rule_line_at lines ws j x.0 written x.1 in
      let more = Mark Colon ∷ tree_then x.0.tree (Template x.0.template ∷ cost_tokens x.0.cost) in
      none_at lines fine.none a.index a.line 0 BadRule a.there (inr (inr (inr (name, more, a.rules, a.tokens ∙ ap (λ (n : List ℕ). Word n ∷ more) x.2, (i, e), refl))))

  price : (m : ℕ) (r : MRule) → RuleLineAt lines m r → IsPrice r.cost
  price m r a = settled r.cost refl a.may where
    settled : (c : MCost) → r.cost ≡ c → IsCost c → IsPrice c
    settled Omitted e h = tt
    settled (Between low high) e h = h
    settled (Fixed digits) e h = elim (cases_lt 32766 (value_of digits)) [
      | inl l ↦ absurd (none_at lines fine.none a.index a.line (length a.line.tokens) CostTooLarge a.there (r, digits, a.rules, (a.may, a.tokens), e, l, refl))
      | inr l ↦ l
    ]

  pub small : (m : ℕ) (r : MRule) → slice_get (rules_in ws) m ≡ Some r → names_in r.tree ≤ 16
  small m r g = elim (cases_lt 16 (names_in r.tree)) [
    | inl l ↦
        let a = rule_line_at lines ws m r written g in
        let n = name_at r.tree (Template r.template ∷ cost_tokens r.cost) 16 l in
        let P : List Tok → Type 0 = λ ts. has_template (take (suc (suc n.place)) ts) ≡ false in
        let Q : List Tok → Type 0 = λ ts. slice_get ts (suc (suc n.place)) ≡ Some (Word n.name) in
        let R : List Tok → Type 0 = λ ts. 16 ≤ words_in (drop 2 (take (suc (suc n.place)) ts)) in
        absurd (none_at lines fine.none a.index a.line (suc (suc n.place)) (Limit which.Pattern) a.there
        (n.name, (a.rules, omega arith, subst P (sym a.tokens) n.plain), subst Q (sym a.tokens) n.there, subst R (sym a.tokens) (let w = n.words in omega arith)))
    | inr l ↦ l
  ]

  left_is : (name : List ℕ) → IsLeft lines name → Among name (lefts_of (rules_in ws))
  left_is name h =
      let w = written_at lines ws h.0 h.1 written h.3 in
      let r = ruled_by_name h.1 w.0 name h.2 w.2 h.4 h.5 in
      let m = rule_of_line ws h.0 r.0 (w.1 ∙ ap (λ (x : MLine). Some x) r.1) in
      (m.0, slice_get-map (λ (x : MRule). x.left) (rules_in ws) m.0 ∙ ap (option_map (λ (x : MRule). x.left)) m.1 ∙ ap (λ (n : List ℕ). Some n) r.2)

  module _ (ns : List (List ℕ)) (firsts : AreFirsts (lefts_of (rules_in ws)) ns) where
    left_among : (name : List ℕ) → IsLeft lines name → Among name ns
    left_among name h = let a = left_is name h in firsts.noted a.0 name a.1

    pub few_lefts : length ns ≤ 127
    few_lefts = at_most lines fine.none ns firsts.once (λ name b. (
        let u = firsts.used b.0 name b.1 in
        let x = element_at (λ (r : MRule). r.left) (rules_in ws) u.0 name u.1 in
        let a = rule_line_at lines ws u.0 x.0 written x.1 in
        let P : List Tok → Type 0 = λ ts. slice_get ts 0 ≡ Some (Word name) in
        (a.index, 0, a.line, a.there, inr (inl (a.rules, refl), subst P (sym a.tokens) (ap (λ (n : List ℕ). Some (Word n)) x.2), λ t. apart t.0 u.0 name t.1 u.1))))

    with_operands : (m : ℕ) (r : MRule) (a : RuleLineAt lines m r) (sub : MNamed) (n : List ℕ) (more : List Tok) (p : PartInLine a.line sub) → tree_then sub p.behind ≡ Word n ∷ (Mark Open ∷ more) → Among n (names_of (declared_in lines))
    with_operands m r a sub n more p e = elim (known_or_new (names_of (declared_in lines)) n) [
      | inl k ↦ (k.0, k.1)
      | inr k ↦ absurd (none_at lines fine.none a.index a.line p.place UnknownTerminal a.there (n, more, p.in_pattern, p.there ∙ e, λ x. k x.0 x.1))
    ]

    root_known : (m : ℕ) (r : MRule) → RuleLineAt lines m r → (sub : MNamed) → IsPart sub r.tree → IsRootKnown (names_of (declared_in lines)) ns sub
    root_known m r a (Over n x) h =
        let p = part_in_line lines m r a (Over n x) h in
        with_operands m r a (Over n x) n (tree_then x (Mark Close ∷ p.behind)) p refl
    root_known m r a (Both n x y) h =
        let p = part_in_line lines m r a (Both n x y) h in
        with_operands m r a (Both n x y) n (tree_then x (Mark Comma ∷ tree_then y (Mark Close ∷ p.behind))) p refl
    root_known m r a (Alone n) h =
        let p = part_in_line lines m r a (Alone n) h in
        elim (known_or_new (names_of (declared_in lines)) n) [
          | inl k ↦ inl (k.0, k.1)
          | inr k ↦ elim (known_or_new ns n) [
            | inl l ↦ inr (l.0, l.1)
            | inr l ↦ absurd (fine.patterns a.index a.line a.there (p.place, n, p.in_pattern, part_word a.line (Alone n) p, (λ x. k x.0 x.1), λ x. (let y = left_among n x in l y.0 y.1)))
          ]
        ]

    pub resolvable : AreResolvable (names_of (declared_in lines)) ns (rules_in ws)
    resolvable = λ m r g.
        let a = rule_line_at lines ws m r written g in
        record {
          left = firsts.noted m r.left (slice_get-map (λ (x : MRule). x.left) (rules_in ws) m ∙ ap (option_map (λ (x : MRule). x.left)) g);
          tree = known_from (names_of (declared_in lines)) ns r.tree (root_known m r a);
          cost = price m r a;
        }

    pub start_known : (i : ℕ) (name : List ℕ) → slice_get (starts_in ws) i ≡ Some name → Among name ns
    start_known i name e =
        let s = start_at lines ws i name written e in
        elim (known_or_new ns name) [
          | inl k ↦ (k.0, k.1)
          | inr k ↦ absurd (fine.start s.index (s.line, name, [], s.there, s.start, λ x. (let y = left_among name x in k y.0 y.1)))
        ]
