-- The arities of terminals are those of their uses in the rules.
use Rattle.std.proofs.Common.{◌≡◌, ◌≤◌, ℕ, ◌+◌, zero, suc, false, List, length, take, drop, Option, Some, None, sym, ap, ◌∙◌, subst, inl, inr, arith}
use Rattle.std.specs.Prelude.{slice_get, option_map}
use Rattle.std.proofs.lemmas.Option.{none-some, same_Some, slice_get_within}
use Rattle.lcc_text.specs.Names.{place_of}
use Rattle.lcc_text.proofs.lemmas.Places.{place_some, place_here}
use Rattle.lburg_lines.specs.Tokens.{Tok, Word}
use Rattle.lburg_lines.specs.NamedTree.{MNamed, Alone, Over, Both, tree_then, names_in}
use Rattle.lburg_lines.specs.Grammar.{MLine, MRule, IsLine, cost_tokens, rule_tokens}
use Rattle.lburg_lines.specs.Sections.{TokenLine}
use Rattle.lburg_faults.specs.Lines.{has_template}
use Rattle.lburg_faults.specs.Terminals.{declared_in, names_of}
use Rattle.lburg_faults.specs.Uses.{IsUse, IsFirstUse, root_of}
use Rattle.lburg_faults.specs.FirstFault.{NoneStands}
use Rattle.lburg_faults.specs.Written.{AreWritten, rules_in}
use Rattle.lburg_model.specs.declared.rule.Rule.{Rule}
use Rattle.lburg_model.specs.Pattern.{pattern_of}
use Rattle.lburg_grammar.specs.Places.{operator_of, RulesFor}
use Rattle.lburg_grammar.specs.Uses.{UsesWith, AreUsing, arity_at, known}
use Rattle.lburg_model.specs.Description.{AreDistinct}
use Rattle.lburg_grammar.proofs.ResolveNames.{some_at}
use Rattle.lburg_grammar.proofs.ResolveWritten.{rule_line_at, written_at, ruled_by_place, rule_of_line}
use Rattle.lburg_grammar.proofs.ResolveTrees.{OneTree, IsPart, part_of_rule}
use Rattle.lburg_grammar.proofs.ResolveUses.{part_in_line, part_use, root_first, first_at, no_use, as_first, part_used, used_part}
use Rattle.lburg_grammar.proofs.ResolvePatternPlaces.{mapped_at, known_some}

part_small : (tree sub : MNamed) → IsPart sub tree → names_in sub ≤ names_in tree
part_small (Alone n) sub e = let f = ap names_in e in omega arith
part_small (Over n a) sub p = elim p [
  | inl e ↦ (let f = ap names_in e in omega arith)
  | inr q ↦ (let f = part_small a sub q in omega arith)
]
part_small (Both n a b) sub p = elim p [
  | inl e ↦ (let f = ap names_in e in omega arith)
  | inr q ↦ elim q [
    | inl q ↦ (let f = part_small a sub q in omega arith)
    | inr q ↦ (let f = part_small b sub q in omega arith)
  ]
]

-- what is noted of the terminals
pub record AreFirstArities (lines : List TokenLine) (arities : List (Option ℕ)) : Type 0 where
  pub long : length arities ≡ length (names_of (declared_in lines))
  pub first : (i n : ℕ) (name : List ℕ) → slice_get (names_of (declared_in lines)) i ≡ Some name → slice_get arities i ≡ Some (Some n) → IsFirstUse lines name n
  pub noted : (i n : ℕ) (name : List ℕ) → slice_get (names_of (declared_in lines)) i ≡ Some name → IsFirstUse lines name n → slice_get arities i ≡ Some (Some n)

module _ (lines : List TokenLine) (ws : List MLine) (none : NoneStands lines) (written : AreWritten lines ws) (ns : List (List ℕ)) (rs : List Rule) (arities : List (Option ℕ)) (h : AreFirstArities lines arities) (f : RulesFor (names_of (declared_in lines)) ns (rules_in ws) rs) where
  -- of a name that is used
  use_noted : (k n i p q : ℕ) (l : TokenLine) (name : List ℕ) → slice_get (names_of (declared_in lines)) k ≡ Some name → slice_get lines i ≡ Some l → IsUse l p q name n → slice_get arities k ≡ Some (Some n)
  use_noted k n i p q l name t e u =
      let w = slice_get_within (names_of (declared_in lines)) k name t in
      let v = h.long in
      let o = some_at arities k (omega arith) in
      settled o.0 o.1
    where
      settled : (o : Option ℕ) → slice_get arities k ≡ Some o → slice_get arities k ≡ Some (Some n)
      settled (Some m) g =
          let same : n ≡ m = as_first lines none i l p q n m name e u (k, t) (h.first k m name t g) in
          g ∙ ap (λ (x : ℕ). Some (Some x)) (sym same)
      settled None g = absurd (no_use lines name (λ m x. (
          let a : ◌≡◌ {A = Option (Option ℕ)} (Some None) (Some (Some m)) = sym g ∙ h.noted k m name t x in
          cc)) i l p q n e u)

  pub all_noted : (small : (m : ℕ) (r : MRule) → slice_get (rules_in ws) m ≡ Some r → names_in r.tree ≤ 16) (op n : ℕ) → AreUsing rs op n → arity_at arities op ≡ Some n
  all_noted small op n u =
      let w = slice_get_within rs u.0 u.1 u.2 in
      let v = f.many in
      let s = some_at (rules_in ws) u.0 (omega arith) in
      let g = f.each u.0 s.0 s.1 in
      let same : u.1 ≡ g.0 = same_Some u.1 g.0 (sym u.2 ∙ g.1) in
      let P : Rule → Type 0 = λ (x : Rule). UsesWith (pattern_of x.pattern) op n in
      let d = part_used (names_of (declared_in lines)) ns s.0.tree (pattern_of g.0.pattern) op n g.2.pattern (subst P same u.3) in
      let a = rule_line_at lines ws u.0 s.0 written s.1 in
      let p = part_in_line lines u.0 s.0 a d.0 d.1.0 in
      let b = part_small s.0.tree d.0 d.1.0 in
      let c = small u.0 s.0 s.1 in
      let e = part_use a.line d.0 p (omega arith) in
      let k = mapped_at (λ (x : ℕ). x + 1) (place_of (names_of (declared_in lines)) (root_of d.0)) op d.1.2 in
      let Q : ℕ → Type 0 = λ m. IsUse a.line p.place e.0 (root_of d.0) m in
      let r = use_noted k.0 n a.index p.place e.0 a.line (root_of d.0) (place_some (names_of (declared_in lines)) (root_of d.0) k.0 k.1) a.there (subst Q d.1.1 e.1) in
      let o : suc k.0 ≡ op = (let x = k.2 in omega arith) in
      let R : ℕ → Type 0 = λ m. arity_at arities m ≡ Some n in
      subst R o (ap known r)

  -- the use stands in a rule
  in_rule : OneTree → (l : TokenLine) (r : MRule) (p q n : ℕ) (name : List ℕ) → l.tokens ≡ rule_tokens r → (u : IsUse l p q name n) → IsPart u.tree r.tree
  in_rule one l r p q n name e u = settled p u.in_pattern.1 u.tokens u.in_pattern.2 where
    settled : (p : ℕ) → 2 ≤ p → drop p l.tokens ≡ tree_then u.tree u.rest → has_template (take p l.tokens) ≡ false → IsPart u.tree r.tree
    settled zero s t v = absurd (omega arith)
    settled (suc zero) s t v = absurd (omega arith)
    settled (suc (suc p)) s t v =
        let P : List Tok → Type 0 = λ ts. drop (suc (suc p)) ts ≡ tree_then u.tree u.rest in
        let Q : List Tok → Type 0 = λ ts. has_template (take (suc (suc p)) ts) ≡ false in
        part_of_rule one r.tree r.template (cost_tokens r.cost) u.tree u.rest p u.ends (subst P e t) (subst Q e v)

  only_at : OneTree → AreDistinct (names_of (declared_in lines)) → (k n : ℕ) → slice_get arities k ≡ Some (Some n) → AreUsing rs (suc k) n
  only_at one once k n a =
      let T = names_of (declared_in lines) in
      let w = slice_get_within arities k (Some n) a in
      let v = h.long in
      let t = some_at (names_of (declared_in lines)) k (omega arith) in
      let b = h.first k n t.0 t.1 a in
      let u = b.is_use in
      let word : slice_get b.line.tokens b.place ≡ Some (Word t.0) = first_at b.line.tokens b.place (Word t.0) (ap (λ (x : List Tok). slice_get x 0) u.tokens ∙ root_first u.tree u.rest ∙ ap (λ (x : List ℕ). Some (Word x)) u.name_is) in
      let x = written_at lines ws b.index b.line written b.there in
      let r = ruled_by_place b.line x.0 b.place t.0 x.2 u.in_pattern.0 u.in_pattern.1 word in
      let P : MLine → Type 0 = λ y. IsLine b.line.section b.line.tokens y in
      let tokens = (subst P r.1 x.2).1 in
      let m = rule_of_line ws b.index r.0 (x.1 ∙ ap (λ (y : MLine). Some y) r.1) in
      let g = f.each m.0 r.0 m.1 in
      let part = in_rule one b.line r.0 b.place b.last n t.0 tokens u in
      let p = place_here (names_of (declared_in lines)) t.0 k (λ j e. once j k t.0 e t.1) t.1 in
      let next : k + 1 ≡ suc k = omega arith in
      let o : operator_of (names_of (declared_in lines)) (root_of u.tree) ≡ Some (suc k) = ap (λ (y : List ℕ). operator_of (names_of (declared_in lines)) y) u.name_is ∙ ap (λ (y : Option ℕ). option_map (λ (z : ℕ). z + 1) y) p ∙ ap (λ (z : ℕ). Some z) next in
      let q = used_part (names_of (declared_in lines)) ns r.0.tree (pattern_of g.0.pattern) (suc k) u.tree g.2.pattern part o in
      let Q : ℕ → Type 0 = λ z. UsesWith (pattern_of g.0.pattern) (suc k) z in
      (m.0, g.0, g.1, subst Q u.operands_are q)

  pub only_used : OneTree → AreDistinct (names_of (declared_in lines)) → (op n : ℕ) → arity_at arities op ≡ Some n → AreUsing rs op n
  only_used one once zero n e = absurd (none-some n e)
  only_used one once (suc k) n e = only_at one once k n (known_some (slice_get arities k) n e)
