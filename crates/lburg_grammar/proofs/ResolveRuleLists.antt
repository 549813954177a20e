-- Rules that are resolved one by one.
use Rattle.std.proofs.Common.{◌≡◌, ℕ, ◌+◌, ◌<◌, List, [], ◌∷◌, ◌++◌, length, map, take, get_or, Option, Some, refl, sym, ap, ◌∙◌, subst, inl, inr}
use Rattle.std.specs.Prelude.{slice_get, option_map}
use Rattle.std.proofs.lemmas.Option.{slice_get_read, slice_get-map}
use Rattle.std.proofs.lemmas.List.{take_more, map_push, length_push}
use Rattle.lburg_lines.specs.declared.rule_line.RuleLine.{RuleLine}
use Rattle.lburg_lines.specs.Grammar.{MRule, rule_of}
use Rattle.lburg_model.specs.declared.rule.Rule.{Rule}
use Rattle.lburg_grammar.specs.Places.{IsResolvable, AreResolvable, RuleFor, RulesFor}
use Rattle.lburg_grammar.proofs.ResolveLists.{get_left, get_last, get_push}

module _ (lines : List RuleLine) (i : ℕ) (x : RuleLine) (l : i < length lines) (read : x ≡ get_or lines i x) (ts ns : List (List ℕ)) where
  pub line_there : AreResolvable ts ns (map rule_of lines) → IsResolvable ts ns (rule_of x)
  line_there h = h i (rule_of x) (slice_get-map rule_of lines i ∙ ap (λ (o : Option RuleLine). option_map rule_of o) (slice_get_read lines (length lines) i x refl l read))

  more : map rule_of (take (i + 1) lines) ≡ map rule_of (take i lines) ++ rule_of x ∷ []
  more = ap (map rule_of) (take_more lines i x l ∙ ap (λ (r : RuleLine). take i lines ++ r ∷ []) (sym read)) ∙ map_push rule_of (take i lines) x

  pub line_more : (rs new : List Rule) (r : Rule) → RulesFor ts ns (map rule_of (take i lines)) rs → RuleFor ts ns (rule_of x) r → new ≡ rs ++ r ∷ [] → RulesFor ts ns (map rule_of (take (i + 1) lines)) new
  line_more rs new r h q e =
      let P : List MRule → Type 0 = λ ss. RulesFor ts ns ss new in
      subst P (sym more) (rw e (record {
        many = rw (length_push, length_push) (ap (λ (n : ℕ). n + 1) h.many);
        each = λ k s f. elim (get_push (map rule_of (take i lines)) (rule_of x) s k f) [
          | inl g ↦ let w = h.each k s g in (w.0, get_left rs (r ∷ []) k w.0 w.1, w.2)
          | inr g ↦
              let n : k ≡ length rs = g.0 ∙ sym h.many in
              (r, subst (λ (j : ℕ). slice_get (rs ++ r ∷ []) j ≡ Some r) (sym n) (get_last rs [] r), subst (λ (y : MRule). RuleFor ts ns y r) g.1 q)
        ];
      }))
