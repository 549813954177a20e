use Rattle.std.proofs.Common.{◌≡◌, ◌+◌, ◌≤◌, ◌∷◌, ◌++◌, ℕ, List, [], length, map, take, slice_index_or, refl, sym, ap, subst, ◌∙◌, arith}
use Rattle.std.proofs.lemmas.List.{map_push, take_all}
use Rattle.std.proofs.lemmas.Option.{slice_get_read}
use Rattle.lcc_text.specs.Names.{bytes_of}
use Rattle.lburg_lines.specs.declared.rule_line.RuleLine.{RuleLine}
use Rattle.lburg_lines.specs.Grammar.{MRule, rule_of}
use Rattle.lburg_faults.specs.Ruling.{lefts_of}
use Rattle.lburg_faults.proofs.TextFirst.{take_next}
use Rattle.lburg_faults.proofs.TextNames.{SameNames, same_more}
use Rattle.lburg_faults.proofs.unruled.left_sides.Goals as goal

lefts_more : (rs : List RuleLine) (i : ℕ) (r : RuleLine) → i + 1 ≤ length rs → r ≡ slice_index_or rs i r → lefts_of (map rule_of (take (i + 1) rs)) ≡ lefts_of (map rule_of (take i rs)) ++ r.left.now ∷ []
lefts_more rs i r h e =
    let n = take_next rs i r (slice_get_read rs (length rs) i r refl (omega arith) e) in
    ap (λ (xs : List RuleLine). lefts_of (map rule_of xs)) n
    ∙ ap lefts_of (map_push rule_of (take i rs) r)
    ∙ map_push (λ (x : MRule). x.left) (map rule_of (take i rs)) (rule_of r)

pub loop-rule-preserved : goal.loop-rule-preserved
loop-rule-preserved c =
    let e = lefts_more c.args.rules.now c.loop-rule.rule-index c.rule-item.result (omega arith) c.rule-item.is in
    let P : List (List ℕ) → Type 0 = λ xs. SameNames (bytes_of c.place.new.names) xs in
    let Q : List (List ℕ) → Type 0 = λ xs. SameNames xs (lefts_of (map rule_of (take c.loop-rule.rule-index c.args.rules.now)) ++ c.rule-item.result.left.now ∷ []) in
    subst P (sym e) (subst Q (sym c.in_ok-place.ensures.names) (same_more (bytes_of c.loop-rule.names) (lefts_of (map rule_of (take c.loop-rule.rule-index c.args.rules.now))) c.rule-item.result.left.now c.loop-rule.invariant))

pub returns-clause-only : goal.returns-clause-only
returns-clause-only c =
    let e : take c.loop-rule.rule-index c.args.rules.now ≡ c.args.rules.now = take_all c.loop-rule.rule-index c.args.rules.now (omega arith) in
    let P : List RuleLine → Type 0 = λ xs. SameNames (bytes_of c.loop-rule.names) (lefts_of (map rule_of xs)) in
    (subst P e c.loop-rule.invariant).only
