-- What follows of rules that are what the closing of a row needs.
use Rattle.std.specs.Prelude.{ℕ, ◌-◌, ◌<◌, ◌≤◌, ◌^◌, length}
use Rattle.std.proofs.Common.{arith}
use Rattle.lburg_model.specs.Description.{MDescription, IsDescription}
use Rattle.lburg_tables.specs.AreRules.{AreRules}

-- a description's rules are so
pub are_rules : (d : MDescription) (w : ℕ) → IsDescription d → length d.nonterminals ≤ w → w < 2 ^ 32 - 1 → AreRules d.rules w
are_rules d w is wide narrow = record {
  lefts = λ i r e. let l = (is.rules i r e).left in omega arith;
  named = λ i r e. let l = (is.rules i r e).left in let m = is.nonterminals in omega arith;
  few = let l = is.rule_limit in omega arith;
  narrow = narrow;
  cheap = λ i r e. let l = (is.rules i r e).cost in omega arith;
}
