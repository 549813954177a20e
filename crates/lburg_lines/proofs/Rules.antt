-- Rules as tokens: each line has one reading at most, and where a reading stops.
use Rattle.std.proofs.Common.{◌≡◌, ℕ, List, [], ◌∷◌, ◌++◌, length, Some, None, refl, sym, ap, ◌∙◌}
use Rattle.std.specs.Prelude.{◌≢◌, codes}
use Rattle.lburg_lines.specs.declared.token.Sign.TheVariants.{Open, Close, Comma, Colon}
use Rattle.lburg_lines.specs.declared.read_error.ReadError.{ReadError}
use Rattle.lburg_lines.specs.declared.read_error.ReadError.TheVariants.{Memory, Stuck}
use Rattle.lburg_lines.specs.Tokens.{Tok, Word, Number, Template, Mark}
use Rattle.lburg_lines.specs.Numbers.{MNumber, Plain, Minus, number_token}
use Rattle.lburg_lines.specs.NamedTree.{MNamed, Alone, tree_then}
use Rattle.lburg_lines.specs.Grammar.{MCost, Omitted, Fixed, Between, IsCost, MRule, rule_tokens, cost_tokens}
use Rattle.lcc_text.specs.Stops.{next, StopsAt}
use Rattle.lburg_lines.specs.Readings.{Ends, TreeStops, TreeFault, SpellsCost, SpellsRange, SpellsRule, CostFault, RangeFault, RuleFault}
use Rattle.lburg_lines.proofs.Places.{stuck_at, end_stops, widen_fault}
use Rattle.lburg_lines.proofs.Shapes.{Wanted, Exactly, SomeNumber, IsShaped, ShapeFault, shape_fault}
use Rattle.lburg_lines.proofs.Trees.{then_append, more_then, same_tree, ends_next, ends_template}

-- ---- a range

abbrev pub range_shape : List Wanted
range_shape =
    Exactly (Word (codes "range")) ∷ (Exactly (Mark Open) ∷ (Exactly (Word (codes "a")) ∷ (Exactly (Mark Comma) ∷ (SomeNumber ∷ (Exactly (Mark Comma) ∷ (SomeNumber ∷ (Exactly (Mark Close) ∷ [])))))))

shaped_range : (ts : List Tok) → IsShaped range_shape ts → SpellsRange ts
shaped_range ts is =
    let a = is.4 in
    let b = a.4 in
    let c = b.4 in
    let d = c.4 in
    let f = d.4 in
    let g = f.4 in
    let h = g.4 in
    let low = d.2 in
    let high = g.2 in
    let e : ts ≡ cost_tokens (Between low.0 high.0) = cc in
    (low.0, high.0, (low.1, high.1), e)

range_shaped : (ts : List Tok) → SpellsRange ts → IsShaped range_shape ts
range_shaped ts is =
    (_, _, refl, is.3, (_, _, refl, refl, (_, _, refl, refl, (_, _, refl, refl, (_, _, (is.0, is.2.0, refl), refl, (_, _, refl, refl, (_, _, (is.1, is.2.1, refl), refl, (_, _, refl, refl, refl))))))))

pub range_fault : (line : List Tok) (e : ReadError) → ShapeFault range_shape e line → RangeFault e line
range_fault line e h = shape_fault range_shape SpellsRange line e shaped_range range_shaped h

-- ---- a cost

too_long : (d : List ℕ) (more : List Tok) → SpellsCost (Number d ∷ more) → more ≡ []
too_long d more (Omitted, i, e) = absurd cc
too_long d more (Fixed c, i, e) = cc
too_long d more (Between low high, i, e) = absurd cc

pub cost_fault_behind : (d : List ℕ) (line rest : List Tok) (e : ReadError) → line ≡ Number d ∷ rest → next rest ≢ None → e ≡ Stuck (length rest) → CostFault e line
cost_fault_behind d line rest e p h f = rw p (stuck_at SpellsCost (Number d ∷ rest) rest e f (end_stops SpellsCost (Number d ∷ []) rest (Fixed d, tt, refl) (too_long d) h))

-- a line that isn't empty and begins with no digits can only be a range
only_range : (line : List Tok) → next line ≢ None → ((d : List ℕ) → next line ≢ Some (Number d)) → (ts : List Tok) → SpellsCost ts → next ts ≡ next line → SpellsRange ts
only_range line h k ts (Omitted, i, e) g = absurd (h (sym g ∙ ap next e))
only_range line h k ts (Fixed d, i, e) g = absurd (k d (sym g ∙ ap next e))
only_range line h k ts (Between low high, i, e) g = (low, high, i, e)

pub cost_fault_at_range : (line : List Tok) (e : ReadError) → next line ≢ None → ((d : List ℕ) → next line ≢ Some (Number d)) → RangeFault e line → CostFault e line
cost_fault_at_range line e h k f = widen_fault SpellsRange SpellsCost line e (λ ts is. (Between is.0 is.1, is.2, is.3)) (only_range line h k) f

-- ---- a rule

abbrev plain : List ℕ → MNamed → List ℕ → MRule
plain n t b = record { left = n; tree = t; template = b; cost = Omitted }

pub left_fault : (line : List Tok) (e : ReadError) → ((n : List ℕ) → next line ≢ Some (Word n)) → e ≡ Stuck (length line) → RuleFault e line
left_fault line e h f = rw f (
  line,
  refl,
  record {
    front = [];
    parts = refl;
    begun = (rule_tokens (plain (97 ∷ []) (Alone (97 ∷ [])) []), (plain (97 ∷ []) (Alone (97 ∷ [])) [], tt, refl));
    stuck = λ more is g. h is.0.left (sym g ∙ ap next is.2);
  },
)

colon_needed : (n : List ℕ) (rest more : List Tok) → next rest ≢ Some (Mark Colon) → (r : MRule) → Word n ∷ more ≡ rule_tokens r → next more ≡ next rest → ⊥
colon_needed n rest more h r e f =
    let g : more ≡ Mark Colon ∷ tree_then r.tree (Template r.template ∷ cost_tokens r.cost) = cc in
    h (sym f ∙ ap next g)

pub colon_fault : (n : List ℕ) (line rest : List Tok) (e : ReadError) → line ≡ Word n ∷ rest → next rest ≢ Some (Mark Colon) → e ≡ Stuck (length rest) → RuleFault e line
colon_fault n line rest e p h f = rw (f, p) (
  rest,
  refl,
  record {
    front = Word n ∷ [];
    parts = refl;
    begun = (Mark Colon ∷ (Word (97 ∷ []) ∷ (Template [] ∷ [])), (plain n (Alone (97 ∷ [])) [], tt, refl));
    stuck = λ more is g. colon_needed n rest more h is.0 is.2 g;
  },
)

abbrev under : List ℕ → List Tok → List Tok
under n l = Word n ∷ (Mark Colon ∷ l)

tree_needed : (n : List ℕ) (line rest : List Tok) (s : TreeStops line rest) (more : List Tok) (r : MRule) → under n (s.front ++ more) ≡ rule_tokens r → next more ≡ next rest → ⊥
tree_needed n line rest s more r e f = s.stuck r.tree (Template r.template ∷ cost_tokens r.cost) more (ends_template r.tree r.template _) (cc) f

tree_stops : (n : List ℕ) (line rest : List Tok) → TreeStops line rest → StopsAt SpellsRule (under n line) rest
tree_stops n line rest s = record {
  front = under n s.front;
  parts = ap (under n) s.parts;
  begun = (s.begun.1 ++ Template [] ∷ [], (plain n s.begun.0 [], tt, ap (under n) (more_then s.front s.begun.1 (Template [] ∷ []) s.begun.0 s.begun.2)));
  stuck = λ more is g. tree_needed n line rest s more is.0 is.2 g;
}

tree_fault_at : (n : List ℕ) (line : List Tok) (e : ReadError) → TreeFault e line → RuleFault e (under n line)
tree_fault_at n line Memory h = tt
tree_fault_at n line (Stuck k) h = (h.0, h.1, tree_stops n line h.0 h.2)

pub tree_fault : (n : List ℕ) (line mid behind : List Tok) (e : ReadError) → line ≡ Word n ∷ mid → mid ≡ Mark Colon ∷ behind → TreeFault e behind → RuleFault e line
tree_fault n line mid behind e p q h = rw (p, q) (tree_fault_at n behind e h)

template_needed : (n : List ℕ) (t : MNamed) (rest more : List Tok) → Ends t rest → ((b : List ℕ) → next rest ≢ Some (Template b)) → (r : MRule) → under n (tree_then t more) ≡ rule_tokens r → next more ≡ next rest → ⊥
template_needed n t rest more p h r e f =
    let u = same_tree t r.tree more (Template r.template ∷ cost_tokens r.cost) (ends_next t more rest f p) (ends_template r.tree r.template _) cc in
    h r.template (sym f ∙ ap next u.1)

template_stops : (n : List ℕ) (t : MNamed) (rest : List Tok) → Ends t rest → ((b : List ℕ) → next rest ≢ Some (Template b)) → StopsAt SpellsRule (under n (tree_then t rest)) rest
template_stops n t rest p h = record {
  front = under n (tree_then t []);
  parts = ap (under n) (sym (then_append t [] rest));
  begun = (Template [] ∷ [], (plain n t [], tt, ap (under n) (then_append t [] (Template [] ∷ []))));
  stuck = λ more is g. template_needed n t rest more p h is.0 (ap (under n) (sym (then_append t [] more)) ∙ is.2) g;
}

pub template_fault : (n : List ℕ) (t : MNamed) (line mid behind rest : List Tok) (e : ReadError) → line ≡ Word n ∷ mid → mid ≡ Mark Colon ∷ behind → behind ≡ tree_then t rest → Ends t rest → ((b : List ℕ) → next rest ≢ Some (Template b)) → e ≡ Stuck (length rest) → RuleFault e line
template_fault n t line mid behind rest e p q r s h f = rw (f, p, q, r) (rest, refl, template_stops n t rest s h)

cost_needed : (n : List ℕ) (t : MNamed) (b : List ℕ) (line rest : List Tok) (s : StopsAt SpellsCost line rest) (more : List Tok) (r : MRule) → IsCost r.cost → under n (tree_then t (Template b ∷ (s.front ++ more))) ≡ rule_tokens r → next more ≡ next rest → ⊥
cost_needed n t b line rest s more r i e f =
    let u = same_tree t r.tree (Template b ∷ (s.front ++ more)) (Template r.template ∷ cost_tokens r.cost) (ends_template t b _) (ends_template r.tree r.template _) cc in
    let k = u.1 in
    s.stuck more (r.cost, i, cc) f

cost_stops : (n : List ℕ) (t : MNamed) (b : List ℕ) (line rest : List Tok) → StopsAt SpellsCost line rest → StopsAt SpellsRule (under n (tree_then t (Template b ∷ line))) rest
cost_stops n t b line rest s = record {
  front = under n (tree_then t (Template b ∷ s.front));
  parts = ap (under n) (ap (λ (l : List Tok). tree_then t (Template b ∷ l)) s.parts ∙ sym (then_append t (Template b ∷ s.front) rest));
  begun = (s.begun.0, (record { left = n; tree = t; template = b; cost = s.begun.1.0 }, s.begun.1.1, ap (under n) (then_append t (Template b ∷ s.front) s.begun.0 ∙ ap (λ (l : List Tok). tree_then t (Template b ∷ l)) s.begun.1.2)));
  stuck = λ more is g. cost_needed n t b line rest s more is.0 is.1 (ap (under n) (sym (then_append t (Template b ∷ s.front) more)) ∙ is.2) g;
}

cost_fault_at : (n : List ℕ) (t : MNamed) (b : List ℕ) (line : List Tok) (e : ReadError) → CostFault e line → RuleFault e (under n (tree_then t (Template b ∷ line)))
cost_fault_at n t b line Memory h = tt
cost_fault_at n t b line (Stuck k) h = (h.0, h.1, cost_stops n t b line h.0 h.2)

pub cost_fault : (n : List ℕ) (t : MNamed) (b : List ℕ) (line mid behind rest last : List Tok) (e : ReadError) → line ≡ Word n ∷ mid → mid ≡ Mark Colon ∷ behind → behind ≡ tree_then t rest → rest ≡ Template b ∷ last → CostFault e last → RuleFault e line
cost_fault n t b line mid behind rest last e p q r s h = rw (p, q, r, s) (cost_fault_at n t b last e h)

-- ---- one reading

same_number : (a b : MNumber) → number_token a ≡ number_token b → a ≡ b
same_number (Plain d) (Plain n) e = let f : d ≡ n = cc in ap Plain f
same_number (Plain d) (Minus n) e = absurd cc
same_number (Minus d) (Plain n) e = absurd cc
same_number (Minus d) (Minus n) e = let f : d ≡ n = cc in ap Minus f

same_cost : (c d : MCost) → cost_tokens c ≡ cost_tokens d → c ≡ d
same_cost Omitted Omitted e = refl
same_cost Omitted (Fixed d) e = absurd cc
same_cost Omitted (Between l h) e = absurd cc
same_cost (Fixed c) Omitted e = absurd cc
same_cost (Fixed c) (Fixed d) e = let f : c ≡ d = cc in ap Fixed f
same_cost (Fixed c) (Between l h) e = absurd cc
same_cost (Between l h) Omitted e = absurd cc
same_cost (Between l h) (Fixed d) e = absurd cc
same_cost (Between l h) (Between m k) e =
    let f = same_number l m cc in
    let g = same_number h k cc in
    cc

abbrev parts : List ℕ → MNamed → List ℕ → MCost → MRule
parts n t b c = record { left = n; tree = t; template = b; cost = c }

pub same_rule : (x r : MRule) → rule_tokens x ≡ rule_tokens r → x ≡ r
same_rule x r e =
    let u = same_tree x.tree r.tree (Template x.template ∷ cost_tokens x.cost) (Template r.template ∷ cost_tokens r.cost) (ends_template x.tree x.template _) (ends_template r.tree r.template _) cc in
    let k = u.1 in
    let n : x.left ≡ r.left = cc in
    let b : x.template ≡ r.template = cc in
    let c = same_cost x.cost r.cost cc in
    ap (λ (l : List ℕ). parts l x.tree x.template x.cost) n ∙ ap (λ (t : MNamed). parts r.left t x.template x.cost) u.0 ∙ ap (λ (l : List ℕ). parts r.left r.tree l x.cost) b ∙ ap (λ (l : MCost). parts r.left r.tree r.template l) c
