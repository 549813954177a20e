-- Nonterminals without a rule: in the rules' trees and in the lines' tokens.
use Rattle.std.proofs.Common.{◌≡◌, ℕ, ◌+◌, ◌≤◌, zero, suc, false, List, [], ◌∷◌, take, drop, Some, refl, sym, ap, subst, ◌∙◌, inl, inr, arith}
use Rattle.std.specs.Prelude.{slice_get, option_map}
use Rattle.std.proofs.lemmas.Option.{none-some, same_Some, slice_get-map}
use Rattle.lburg_lines.specs.declared.token.Sign.TheVariants.{Colon}
use Rattle.lburg_lines.specs.Tokens.{Tok, Word, Template, Mark}
use Rattle.lburg_lines.specs.NamedTree.{tree_then}
use Rattle.lburg_lines.specs.Grammar.{MLine, Ruled, MRule, IsLine, rule_tokens, cost_tokens}
use Rattle.lburg_lines.specs.Sections.{TokenLine}
use Rattle.lburg_faults.specs.declared.line_fault.LineFault.TheVariants.{UnknownTerminal}
use Rattle.lburg_faults.specs.declared.desc_fault.DescFault.TheVariants as desc
use Rattle.lburg_faults.specs.Lines.{InPattern, has_template, BeginsRule}
use Rattle.lburg_faults.specs.Terminals.{Among, declared_in, names_of}
use Rattle.lburg_faults.specs.UnknownNonterminal.{IsLeft, HasUnruled}
use Rattle.lburg_faults.specs.Written.{AreWritten, rules_in}
use Rattle.lburg_faults.specs.FirstFault.{NoneStands, NoRule, InPatterns, AllRuled}
use Rattle.lburg_faults.specs.Reads.{rule_numbers}
use Rattle.lburg_faults.specs.Ruling.{lefts_of, AreLeavesNamed, IsLeafUnnamed, IsFirstUnnamed, AreAllNamed}
use Rattle.lburg_faults.proofs.TextFirst.{stands_at}
use Rattle.lburg_faults.proofs.TextNames.{SameNames}
use Rattle.lburg_faults.proofs.TextTrees.{word_in, named_leaf, leaf_at}
use Rattle.lburg_faults.proofs.TextWritten.{written_at, line_at, among_rules, ruled_by_place, ruled_by_name, ruled_by_kind, rule_of_line, rule_at}

-- ---- left sides

left_rule : (rs : List MRule) (m : ℕ) (name : List ℕ) → slice_get (lefts_of rs) m ≡ Some name → (r : MRule) × (slice_get rs m ≡ Some r) × (r.left ≡ name)
left_rule [] m name g = absurd (none-some name g)
left_rule (r ∷ rs) zero name g = (r, refl, same_Some r.left name g)
left_rule (r ∷ rs) (suc m) name g = left_rule rs m name g

rule_line : (lines : List TokenLine) (ws : List MLine) (i : ℕ) (r : MRule) → AreWritten lines ws → slice_get ws i ≡ Some (Ruled r) → (l : TokenLine) × (slice_get lines i ≡ Some l) × IsLine l.section l.tokens (Ruled r)
rule_line lines ws i r p g = line_at lines ws i (Ruled r) p g

pub is_left : (lines : List TokenLine) (ws : List MLine) (name : List ℕ) → AreWritten lines ws → Among name (lefts_of (rules_in ws)) → IsLeft lines name
is_left lines ws name p a =
    let x = left_rule (rules_in ws) a.0 name a.1 in
    let s = rule_at ws 1 a.0 x.0 x.1 in
    let l = rule_line lines ws s.index x.0 p s.there in
    let more = Mark Colon ∷ tree_then x.0.tree (Template x.0.template ∷ cost_tokens x.0.cost) in
    (s.index, l.0, more, l.1, among_rules l.0.section x.0 l.2.0, l.2.1 ∙ ap (λ (n : List ℕ). Word n ∷ more) x.2)

pub left_is : (lines : List TokenLine) (ws : List MLine) (name : List ℕ) → AreWritten lines ws → IsLeft lines name → Among name (lefts_of (rules_in ws))
left_is lines ws name p h =
    let w = written_at lines ws h.0 h.1 p h.3 in
    let r = ruled_by_name h.1 w.0 name h.2 w.2 h.4 h.5 in
    let m = rule_of_line ws h.0 r.0 (w.1 ∙ ap (λ (x : MLine). Some x) r.1) in
    (m.0, slice_get-map (λ (x : MRule). x.left) (rules_in ws) m.0 ∙ ap (option_map (λ (x : MRule). x.left)) m.1 ∙ ap (λ (n : List ℕ). Some n) r.2)

-- ---- a line and its tree

no_template : (t : List ℕ) (cost : List Tok) (k : ℕ) (name : List ℕ) → has_template (take k (Template t ∷ cost)) ≡ false → slice_get (Template t ∷ cost) k ≡ Some (Word name) → ⊥
no_template t cost zero name h g = cc
no_template t cost (suc k) name h g = cc

at_place : (lines : List TokenLine) (lefts : List (List ℕ)) (j : ℕ) (l : TokenLine) (r : MRule) (place : ℕ) (name : List ℕ) → NoneStands lines → slice_get lines j ≡ Some l → l.tokens ≡ rule_tokens r → AreLeavesNamed (names_of (declared_in lines)) lefts r.tree → ((n : List ℕ) → Among n lefts → IsLeft lines n) → 2 ≤ place → InPattern l place → slice_get l.tokens place ≡ Some (Word name) → (Among name (names_of (declared_in lines)) → ⊥) → (IsLeft lines name → ⊥) → ⊥
at_place lines lefts j l r zero name none g e named left b p t k m = absurd (omega arith)
at_place lines lefts j l r (suc zero) name none g e named left b p t k m = absurd (omega arith)
at_place lines lefts j l r (suc (suc q)) name none g e named left b p t k m =
    let rest = Template r.template ∷ cost_tokens r.cost in
    let P : List Tok → Type 0 = λ ts. has_template (take (suc (suc q)) ts) ≡ false in
    let Q : List Tok → Type 0 = λ ts. slice_get ts (suc (suc q)) ≡ Some (Word name) in
    elim (word_in r.tree rest q name (subst P e p.2) (subst Q e t)) [
      | inl leaf ↦ elim (named_leaf (names_of (declared_in lines)) lefts r.tree name named leaf) [
        | inl a ↦ k a
        | inr a ↦ m (left name a)
      ]
      | inr x ↦ elim x [
        | inl o ↦ none _ (stands_at lines j l (suc (suc q)) UnknownTerminal g (name, o.0, p, ap (λ (ts : List Tok). drop (suc (suc q)) ts) e ∙ o.1, k))
        | inr o ↦ no_template r.template (cost_tokens r.cost) o.place name o.plain o.there
      ]
    ]

line_ruled : (lines : List TokenLine) (lefts : List (List ℕ)) (j : ℕ) (l : TokenLine) (r : MRule) → NoneStands lines → slice_get lines j ≡ Some l → l.tokens ≡ rule_tokens r → AreLeavesNamed (names_of (declared_in lines)) lefts r.tree → ((n : List ℕ) → Among n lefts → IsLeft lines n) → HasUnruled lines l → ⊥
line_ruled lines lefts j l r none g e named left u = at_place lines lefts j l r u.0 u.1 none g e named left u.2.1 u.2 u.3 u.4 u.5

line_unruled : (lines : List TokenLine) (lefts : List (List ℕ)) (l : TokenLine) (r : MRule) → IsLine l.section l.tokens (Ruled r) → IsLeafUnnamed (names_of (declared_in lines)) lefts r.tree → ((n : List ℕ) → IsLeft lines n → Among n lefts) → HasUnruled lines l
line_unruled lines lefts l r is h left =
    let m = leaf_at (names_of (declared_in lines)) lefts r.tree (Template r.template ∷ cost_tokens r.cost) h in
    let P : List Tok → Type 0 = λ ts. has_template (take (suc (suc m.place)) ts) ≡ false in
    let Q : List Tok → Type 0 = λ ts. slice_get ts (suc (suc m.place)) ≡ Some (Word m.name) in
    (suc (suc m.place), m.name, (among_rules l.section r is.0, omega arith, subst P (sym is.1) m.plain), subst Q (sym is.1) m.there, λ a. m.unnamed (inl a), λ a. m.unnamed (inr (left m.name a)))

-- ---- all lines

-- a line with an unruled name in its pattern is a rule, and what was looked at is a part of it
rule_there : (lines : List TokenLine) (ws : List MLine) (j : ℕ) (l : TokenLine) → AreWritten lines ws → slice_get lines j ≡ Some l → HasUnruled lines l → (r : MRule) × (slice_get ws j ≡ Some (Ruled r)) × (l.tokens ≡ rule_tokens r)
rule_there lines ws j l p g u =
    let w = written_at lines ws j l p g in
    let r = ruled_by_place l w.0 u.0 u.1 w.2 u.2.0 u.2.1 u.3 in
    let P : MLine → Type 0 = λ x. IsLine l.section l.tokens x in
    (r.0, w.1 ∙ ap (λ (x : MLine). Some x) r.1, (subst P r.1 w.2).1)

pub all_ruled : (lines : List TokenLine) (ws : List MLine) (lefts : List (List ℕ)) → NoneStands lines → AreWritten lines ws → SameNames lefts (lefts_of (rules_in ws)) → AreAllNamed (names_of (declared_in lines)) lefts (rules_in ws) → AllRuled lines
all_ruled lines ws lefts none p s h = λ j l g u.
    let r = rule_there lines ws j l p g u in
    let m = rule_of_line ws j r.0 r.1 in
    line_ruled lines lefts j l r.0 none g r.2 (h m.0 r.0 m.1) (λ n a. is_left lines ws n p (s.only n a)) u

pub in_patterns : (lines : List TokenLine) (ws : List MLine) (lefts : List (List ℕ)) (i n : ℕ) → NoneStands lines → AreWritten lines ws → SameNames lefts (lefts_of (rules_in ws)) → IsFirstUnnamed (names_of (declared_in lines)) lefts (rules_in ws) i → slice_get (rule_numbers 1 ws) i ≡ Some n → InPatterns lines (desc.UnknownNonterminal n)
in_patterns lines ws lefts i n none p s f g =
    let a = rule_at ws 1 i f.rule f.there in
    let l = rule_line lines ws a.index f.rule p a.there in
    let e : n ≡ 1 + a.index = same_Some n (1 + a.index) (sym g ∙ a.number) in
    let k : n ≡ a.index + 1 = omega arith in (
      a.index,
      l.0,
      l.1,
      line_unruled lines lefts l.0 f.rule l.2 f.unnamed (λ x h. s.all x (left_is lines ws x p h)),
      (λ j y b t u.
          let r = rule_there lines ws j y p t u in
          let m = a.before j r.0 b r.1 in
          line_ruled lines lefts j y r.0 none t r.2 (f.before m.0 r.0 m.1 m.2) (λ x h. is_left lines ws x p (s.only x h)) u),
      ap desc.UnknownNonterminal k,
    )

-- ---- whether there is a rule

pub no_rule : (lines : List TokenLine) (ws : List MLine) → AreWritten lines ws → rules_in ws ≡ [] → NoRule lines
no_rule lines ws p e = λ i l g h.
    let w = written_at lines ws i l p g in
    let r = ruled_by_kind l w.0 w.2 h in
    let m = rule_of_line ws i r.0 (w.1 ∙ ap (λ (x : MLine). Some x) r.1) in
    let P : List MRule → Type 0 = λ rs. slice_get rs m.0 ≡ Some r.0 in
    none-some r.0 (subst P e m.1)

first_of_some : (rs : List MRule) → (rs ≡ [] → ⊥) → (r : MRule) × (slice_get rs 0 ≡ Some r)
first_of_some [] h = absurd (h refl)
first_of_some (r ∷ rs) h = (r, refl)

pub some_rule : (lines : List TokenLine) (ws : List MLine) → AreWritten lines ws → (rules_in ws ≡ [] → ⊥) → NoRule lines → ⊥
some_rule lines ws p h none =
    let r = first_of_some (rules_in ws) h in
    let s = rule_at ws 1 0 r.0 r.1 in
    let l = rule_line lines ws s.index r.0 p s.there in
    none s.index l.0 l.1 (among_rules l.0.section r.0 l.2.0, subst BeginsRule (sym l.2.1) tt)
