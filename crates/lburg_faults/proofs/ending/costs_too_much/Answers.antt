use Rattle.std.proofs.Common.{◌≡◌, ℕ, Bool, true, false, Option, Some, None, ap}
use Rattle.std.specs.Prelude.{IsTrue, IfNone, is_some, not}
use Rattle.lburg_lines.specs.Grammar.{line_of, rule_of, cost_of}
use Rattle.lburg_faults.proofs.ending.costs_too_much.Goals as goal

none_then : {P : Type 0} (o : Option ℕ) (b : Bool) → IsTrue b → is_some o ≡ not b → IfNone o P → P
none_then {P} None b t e h = h
none_then {P} (Some x) true t e h = absurd cc
none_then {P} (Some x) false t e h = absurd cc

pub returns-in-Fixed-clause-yes : goal.returns-in-Fixed-clause-yes
returns-in-Fixed-clause-yes c = λ yes.
    (rule_of c.in-Rule.rule, c.in-Fixed.digits.now, ap line_of c.in-Rule.is, ap cost_of c.in-Fixed.is, none_then c.decimal_value.result c.is_none.result yes c.is_none.ensures c.decimal_value.ensures.none)
