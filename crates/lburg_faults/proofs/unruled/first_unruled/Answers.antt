use Rattle.std.proofs.Common.{◌≡◌, ◌+◌, ◌≤◌, ℕ, List, length, map, slice_index_or, Some, refl, sym, ap, subst, ◌∙◌, inl, inr, arith}
use Rattle.std.specs.Prelude.{slice_get, option_map}
use Rattle.std.proofs.lemmas.Bool.{cases_lt}
use Rattle.std.proofs.lemmas.List.{length-map}
use Rattle.std.proofs.lemmas.Option.{slice_get-map, slice_get_read, slice_get_within, same_Some}
use Rattle.lcc_text.specs.Names.{bytes_of}
use Rattle.lburg_lines.specs.declared.rule_line.RuleLine.{RuleLine}
use Rattle.lburg_lines.specs.Grammar.{MRule, rule_of}
use Rattle.lburg_faults.specs.Ruling.{AreLeavesNamed}
use Rattle.lburg_faults.proofs.unruled.first_unruled.Goals as goal

there : (rs : List RuleLine) (i : ℕ) (r : RuleLine) → i + 1 ≤ length rs → r ≡ slice_index_or rs i r → slice_get (map rule_of rs) i ≡ Some (rule_of r)
there rs i r h e = slice_get-map rule_of rs i ∙ ap (option_map rule_of) (slice_get_read rs (length rs) i r refl (omega arith) e)

pub returns-then-not-is_ruled : goal.returns-then-not-is_ruled
returns-then-not-is_ruled c = record {
  rule = rule_of c.index-rules-i.result;
  there = there c.args.rules.now c.loop-i.i c.index-rules-i.result (omega arith) c.index-rules-i.is;
  unnamed = c.is_ruled.ensures.no c.if-not-is_ruled.true;
  before = c.loop-i.invariant;
}

pub loop-i-preserved : goal.loop-i-preserved
loop-i-preserved c = λ j r b g. elim (cases_lt j c.loop-i.i) [
  | inl lt ↦ c.loop-i.invariant j r lt g
  | inr ge ↦
      let e : j ≡ c.loop-i.i = omega arith in
      let P : ℕ → Type 0 = λ n. slice_get (map rule_of c.args.rules.now) n ≡ Some r in
      let t = there c.args.rules.now c.loop-i.i c.index-rules-i.result (omega arith) c.index-rules-i.is in
      let Q : MRule → Type 0 = λ x. AreLeavesNamed (bytes_of c.args.terminals.now) (bytes_of c.args.lefts.now) x.tree in
      subst Q (same_Some (rule_of c.index-rules-i.result) r (sym t ∙ subst P e g)) (c.is_ruled.ensures.yes c.if-not-is_ruled.false)
]

pub returns : goal.returns
returns c = λ j r g.
    let w = slice_get_within (map rule_of c.args.rules.now) j r g in
    c.loop-i.invariant j r (omega (arith, length-map c.args.rules.now rule_of)) g
