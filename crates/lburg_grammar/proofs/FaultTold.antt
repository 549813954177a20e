-- The lines of a description's text, each told by what the description keeps.
use Rattle.std.proofs.Common.{◌≡◌, ℕ, ◌+◌, ◌≤◌, zero, suc, false, List, [], ◌∷◌, take, drop, length, Some, refl, sym, ap, subst, ◌∙◌, inl, inr, arith}
use Rattle.std.specs.Prelude.{slice_get}
use Rattle.std.proofs.lemmas.Option.{none-some, same_Some, slice_get_within}
use Rattle.lburg_lines.specs.declared.token.Sign.TheVariants.{Colon}
use Rattle.lburg_lines.specs.Tokens.{Tok, Word, Mark, Template}
use Rattle.lburg_lines.specs.NamedTree.{MNamed, Alone, Over, Both, tree_then}
use Rattle.lburg_lines.specs.Readings.{Ends}
use Rattle.lburg_lines.specs.Grammar.{MRule, MLine, Ruled, IsLine, rule_tokens, cost_tokens}
use Rattle.lburg_lines.specs.Sections.{TokenLine}
use Rattle.lburg_faults.specs.Lines.{InPattern, IsRules, BeginsRule, StartLine, has_template, words_in}
use Rattle.lburg_faults.specs.Terminals.{Among, declared_in, names_of}
use Rattle.lburg_faults.specs.Mentions.{MentionsAt}
use Rattle.lburg_faults.specs.Uses.{IsUse, root_of, operands_of}
use Rattle.lburg_faults.specs.UnknownNonterminal.{IsLeft}
use Rattle.lburg_faults.specs.Written.{AreWritten, rules_in, starts_in}
use Rattle.lburg_faults.specs.FirstFault.{NoRule}
use Rattle.lburg_model.specs.declared.rule.Rule.{Rule}
use Rattle.lburg_model.specs.Pattern.{pattern_of}
use Rattle.lburg_model.specs.Description.{MDescription, IsRuleOf, terminal_names}
use Rattle.lburg_grammar.specs.DescriptionText.{RuleMeans, Means}
use Rattle.lburg_grammar.proofs.FaultTrees.{in_tree}
use Rattle.lburg_grammar.proofs.FaultLines.{written_at, among_rules, ruled_by_place, ruled_by_name, rule_of_line, line_of_rule, start_by_tokens, start_of_line}
use Rattle.lburg_grammar.proofs.FaultMeans.{PartMeans, NameHas, names_are, named_among, part_means, as_many_nodes, root_means, rule_means, means_rule, start_means}

-- the lines are written so, and mean the description
pub record Told (d : MDescription) (lines : List TokenLine) : Type 0 where
  pub written : List MLine
  pub are_written : AreWritten lines written
  pub means : Means written d

-- at a place at most one tree stands
abbrev pub OneTree : Type 0
OneTree = (a b : MNamed) (x y : List Tok) → Ends a x → Ends b y → tree_then a x ≡ tree_then b y → (a ≡ b) × (x ≡ y)

-- ---- tokens from a place on

pub drop_get : {A : Type 0} (xs : List A) (n : ℕ) (x : A) → slice_get xs n ≡ Some x → drop n xs ≡ x ∷ drop (suc n) xs
drop_get [] n x g = absurd (none-some x g)
drop_get {A} (y ∷ xs) zero x g = ap (λ (z : A). z ∷ xs) (same_Some y x g)
drop_get (y ∷ xs) (suc n) x g = drop_get xs n x g

pub get_drop : {A : Type 0} (xs : List A) (n : ℕ) (x : A) (ys : List A) → drop n xs ≡ x ∷ ys → slice_get xs n ≡ Some x
get_drop [] zero x ys e = absurd cc
get_drop [] (suc n) x ys e = absurd cc
get_drop {A} (y ∷ xs) zero x ys e = let f : y ≡ x = cc in ap (λ (z : A). Some z) f
get_drop (y ∷ xs) (suc n) x ys e = get_drop xs n x ys e

head_is : {A : Type 0} (xs : List A) (x : A) → slice_get xs zero ≡ Some x → (ys : List A) × (xs ≡ x ∷ ys)
head_is [] x g = absurd (none-some x g)
head_is {A} (y ∷ xs) x g = (xs, ap (λ (z : A). z ∷ xs) (same_Some y x g))

-- a tree's first token
tree_first : (tree : MNamed) (rest : List Tok) → (ts : List Tok) × (tree_then tree rest ≡ Word (root_of tree) ∷ ts)
tree_first (Alone n) rest = (_, refl)
tree_first (Over n a) rest = (_, refl)
tree_first (Both n a b) rest = (_, refl)

same_word : (a b : List ℕ) (t u : List Tok) → Word a ∷ t ≡ Word b ∷ u → a ≡ b
same_word a b t u e = cc

root_is : (tree : MNamed) (rest ts : List Tok) (name : List ℕ) → tree_then tree rest ≡ Word name ∷ ts → root_of tree ≡ name
root_is tree rest ts name e = let f = tree_first tree rest in same_word (root_of tree) name f.0 ts (sym f.1 ∙ e)

-- ---- rules

-- the line is this rule, and the description has what it means
pub record RuleOf (d : MDescription) (l : TokenLine) (r : MRule) : Type 0 where
  pub tokens : l.tokens ≡ rule_tokens r
  pub made : Rule
  pub means : RuleMeans d r made
  pub keeps : IsRuleOf d made

pub made : (d : MDescription) (lines : List TokenLine) (t : Told d lines) (i : ℕ) (l : TokenLine) (w : MLine) (r : MRule) → slice_get t.written i ≡ Some w → IsLine l.section l.tokens w → w ≡ Ruled r → RuleOf d l r
made d lines t i l w r g is e =
    let a = rule_of_line t.written i r (g ∙ ap (λ (x : MLine). Some x) e) in
    let m = rule_means d (rules_in t.written) d.rules a.0 r t.means.rules a.1 in
    let P : MLine → Type 0 = λ x. IsLine l.section l.tokens x in
    record { tokens = (subst P e is).1; made = m.0; means = m.2; keeps = t.means.is.rules a.0 m.0 m.1 }

-- what stands at a place of a pattern
pub record PlaceMeans (d : MDescription) (l : TokenLine) (place : ℕ) : Type 0 where
  pub part : MNamed
  pub more : List Tok
  pub there : drop place l.tokens ≡ tree_then part more
  pub ends : Ends part more
  pub means : PartMeans d part
  pub few : words_in (drop 2 (take place l.tokens)) + 1 ≤ 16

pub place_means : (d : MDescription) (lines : List TokenLine) (t : Told d lines) (i : ℕ) (l : TokenLine) (place : ℕ) (name : List ℕ) → slice_get lines i ≡ Some l → InPattern l place → slice_get l.tokens place ≡ Some (Word name) → PlaceMeans d l place
place_means d lines t i l zero name g p h = let two = p.1 in absurd (omega arith)
place_means d lines t i l (suc zero) name g p h = let two = p.1 in absurd (omega arith)
place_means d lines t i l (suc (suc q)) name g p h =
    let w = written_at lines t.written i l t.are_written g in
    let r = ruled_by_place l w.0 (suc (suc q)) name w.2 p.0 p.1 h in
    let o = made d lines t i l w.0 r.0 w.1 w.2 r.1 in
    let P : List Tok → Type 0 = λ ts. has_template (take (suc (suc q)) ts) ≡ false in
    let Q : List Tok → Type 0 = λ ts. slice_get ts (suc (suc q)) ≡ Some (Word name) in
    let n = in_tree r.0 q name (subst P o.tokens p.2) (subst Q o.tokens h) in
    let all = as_many_nodes d r.0.tree (pattern_of o.made.pattern) o.means.pattern in
    let most = o.keeps.nodes in
    let few = n.few in
    let same : words_in (drop 2 (take (suc (suc q)) l.tokens)) ≡ words_in (take q (tree_then r.0.tree (Template r.0.template ∷ cost_tokens r.0.cost))) = ap (λ (ts : List Tok). words_in (drop 2 (take (suc (suc q)) ts))) o.tokens in
    let behind : drop (suc (suc q)) l.tokens ≡ drop q (tree_then r.0.tree (Template r.0.template ∷ cost_tokens r.0.cost)) = ap (λ (ts : List Tok). drop (suc (suc q)) ts) o.tokens in
    record {
      part = n.part;
      more = n.more;
      there = ◌∙◌ {c = tree_then n.part n.more} behind n.there;
      ends = n.ends;
      means = part_means d r.0.tree n.part (pattern_of o.made.pattern) o.means.pattern o.keeps.fits n.is_part;
      few = omega arith;
    }

-- a left side is a nonterminal
pub left_named : (d : MDescription) (lines : List TokenLine) (t : Told d lines) (i : ℕ) (l : TokenLine) (name : List ℕ) (ts : List Tok) → slice_get lines i ≡ Some l → IsRules l → l.tokens ≡ Word name ∷ ts → Among name d.nonterminals
left_named d lines t i l name ts g is e =
    let w = written_at lines t.written i l t.are_written g in
    let r = ruled_by_name l w.0 name ts w.2 is e in
    let o = made d lines t i l w.0 r.0 w.1 w.2 r.1 in
    (o.made.left, o.means.left ∙ ap (λ (n : List ℕ). Some n) r.2)

-- the start symbol is a nonterminal
pub start_named : (d : MDescription) (lines : List TokenLine) (t : Told d lines) (i : ℕ) (l : TokenLine) (name : List ℕ) (ts : List Tok) → slice_get lines i ≡ Some l → StartLine l (Word name ∷ ts) → Among name d.nonterminals
start_named d lines t i l name ts g s =
    let w = written_at lines t.written i l t.are_written g in
    let x = start_by_tokens l w.0 (Word name ∷ ts) w.2 s in
    let a = start_of_line t.written i x.0 (w.1 ∙ ap (λ (y : MLine). Some y) x.1) in
    let e : name ≡ x.0 = same_word name x.0 ts [] x.2 in
    (d.start, start_means d (starts_in t.written) a.0 x.0 t.means.start a.1 ∙ ap (λ (n : List ℕ). Some n) (sym e))

-- ---- names

pub terminal_among : (d : MDescription) (lines : List TokenLine) (t : Told d lines) (name : List ℕ) → Among name (terminal_names d) → Among name (names_of (declared_in lines))
terminal_among d lines t name a = let P : List (List ℕ) → Type 0 = λ ns. Among name ns in subst P (names_are d lines t.written t.are_written t.means) a

-- no name is a terminal's and a nonterminal's
pub not_both : (d : MDescription) (lines : List TokenLine) (t : Told d lines) (name : List ℕ) → Among name (names_of (declared_in lines)) → Among name d.nonterminals → ⊥
not_both d lines t name a b =
    let P : List (List ℕ) → Type 0 = λ ns. Among name ns in
    let c = subst P (sym (names_are d lines t.written t.are_written t.means)) a in
    t.means.is.apart c.0 b.0 name c.1 b.1

pub has_among : (d : MDescription) (lines : List TokenLine) (t : Told d lines) (name : List ℕ) (n : ℕ) → NameHas d name n → Among name (names_of (declared_in lines))
has_among d lines t name n h = terminal_among d lines t name (named_among d h.0 name h.1)

-- a name of a pattern that is no terminal's is a nonterminal's
pattern_named : (d : MDescription) (lines : List TokenLine) (t : Told d lines) (i : ℕ) (l : TokenLine) (place : ℕ) (name : List ℕ) → slice_get lines i ≡ Some l → InPattern l place → slice_get l.tokens place ≡ Some (Word name) → (Among name (names_of (declared_in lines)) → ⊥) → Among name d.nonterminals
pattern_named d lines t i l place name g p h not_it =
    let m = place_means d lines t i l place name g p h in
    let e = root_is m.part m.more (drop (suc place) l.tokens) name (sym m.there ∙ drop_get l.tokens place (Word name) h) in
    let P : List ℕ → Type 0 = λ n. Among n d.nonterminals in
    let Q : List ℕ → Type 0 = λ n. NameHas d n (operands_of m.part) in
    elim (root_means d m.part m.means.pattern m.means.means m.means.fits) [
      | inl x ↦ subst P e x.0
      | inr x ↦ absurd (not_it (has_among d lines t name (operands_of m.part) (subst Q e x)))
    ]

-- what the lines mention are nonterminals
pub mentioned : (d : MDescription) (lines : List TokenLine) (t : Told d lines) (i : ℕ) (l : TokenLine) (place : ℕ) (name : List ℕ) → slice_get lines i ≡ Some l → MentionsAt (names_of (declared_in lines)) l place name → Among name d.nonterminals
mentioned d lines t i l place name g (inl s) = start_named d lines t i l name s.0 g s.1
mentioned d lines t i l place name g (inr m) = elim m.0 [
  | inl r ↦
      let P : ℕ → Type 0 = λ n. slice_get l.tokens n ≡ Some (Word name) in
      let h = head_is l.tokens (Word name) (subst P r.1 m.1) in
      left_named d lines t i l name h.0 g r.0 h.1
  | inr p ↦ pattern_named d lines t i l place name g p m.1 m.2
]

-- a use of a terminal has its number of operands
pub used : (d : MDescription) (lines : List TokenLine) (t : Told d lines) (one : OneTree) (i : ℕ) (l : TokenLine) (place last : ℕ) (name : List ℕ) (n : ℕ) → slice_get lines i ≡ Some l → Among name (names_of (declared_in lines)) → IsUse l place last name n → NameHas d name n
used d lines t one i l place last name n g a u =
    let f = tree_first u.tree u.rest in
    let h = get_drop l.tokens place (Word (root_of u.tree)) f.0 (u.tokens ∙ f.1) in
    let m = place_means d lines t i l place (root_of u.tree) g u.in_pattern h in
    let e = (one m.part u.tree m.more u.rest m.ends u.ends (sym m.there ∙ u.tokens)).0 in
    let v : root_of m.part ≡ name = ap root_of e ∙ u.name_is in
    let k : operands_of m.part ≡ n = ap operands_of e ∙ u.operands_are in
    let P : List ℕ → Type 0 = λ x. Among x d.nonterminals in
    let Q : List ℕ → Type 0 = λ x. NameHas d x n in
    let R : ℕ → Type 0 = λ x. NameHas d (root_of m.part) x in
    elim (root_means d m.part m.means.pattern m.means.means m.means.fits) [
      | inl x ↦ absurd (not_both d lines t name a (subst P v x.0))
      | inr x ↦ subst Q v (subst R k x)
    ]

-- ---- rules for nonterminals

pub ruled : (d : MDescription) (lines : List TokenLine) (t : Told d lines) (name : List ℕ) → Among name d.nonterminals → IsLeft lines name
ruled d lines t name a =
    let x = t.means.is.ruled a.0 (slice_get_within d.nonterminals a.0 name a.1) in
    let y = means_rule d (rules_in t.written) d.rules x.0 x.1 t.means.rules x.2 in
    let h = line_of_rule lines t.written y.0 y.1 t.are_written y.2 in
    let P : ℕ → Type 0 = λ n. slice_get d.nonterminals n ≡ Some y.1.left in
    let e : y.1.left ≡ name = same_Some y.1.left name (sym (subst P x.3 y.3.left) ∙ a.1) in
    let more = Mark Colon ∷ tree_then y.1.tree (Template y.1.template ∷ cost_tokens y.1.cost) in
    (h.0, h.1, more, h.2, among_rules h.1.section y.1 h.3.0, h.3.1 ∙ ap (λ (n : List ℕ). Word n ∷ more) e)

first_of_some : {A : Type 0} (xs : List A) → 1 ≤ length xs → (x : A) × (slice_get xs 0 ≡ Some x)
first_of_some [] h = absurd (omega arith)
first_of_some (x ∷ xs) h = (x, refl)

pub some_rule : (d : MDescription) (lines : List TokenLine) (t : Told d lines) → NoRule lines → ⊥
some_rule d lines t none =
    let x = first_of_some d.rules t.means.is.some_rule in
    let y = means_rule d (rules_in t.written) d.rules 0 x.0 t.means.rules x.1 in
    let h = line_of_rule lines t.written y.0 y.1 t.are_written y.2 in
    none h.0 h.1 h.2 (among_rules h.1.section y.1 h.3.0, subst BeginsRule (sym h.3.1) tt)
