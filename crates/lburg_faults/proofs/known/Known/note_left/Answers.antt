use Rattle.std.proofs.Common.{arith}
use Rattle.lcc_text.specs.Names.{bytes_of}
use Rattle.lburg_faults.proofs.RuleLists.{found, lacks}
use Rattle.lburg_faults.proofs.RuleGives.{left_many}
use Rattle.lburg_faults.proofs.known.Known.note_left.Goals as goal

pub returns-then-is_some-clause-gives : goal.returns-then-is_some-clause-gives
returns-then-is_some-clause-gives c = found (bytes_of c.args.self.now.terminals) c.args.name.now _ _ c.find.ensures c.is_some.ensures c.if-is_some.true

pub returns-in-Some-clause-gives : goal.returns-in-Some-clause-gives
returns-in-Some-clause-gives c =
    left_many (bytes_of c.args.self.now.terminals) (bytes_of c.args.self.now.nonterminals) (bytes_of c.mention.new.self.nonterminals) c.args.self.now.rules c.args.name.now c.in-Some.fault (lacks (bytes_of c.args.self.now.terminals) c.args.name.now _ _ c.find.ensures c.is_some.ensures c.if-is_some.false) (rw c.in-Some.is at c.in_ok-fault.ensures.full)

pub returns-then-self-ge-MOST_RULES-clause-gives :
    goal.returns-then-self-ge-MOST_RULES-clause-gives
returns-then-self-ge-MOST_RULES-clause-gives c = (
  lacks (bytes_of c.args.self.now.terminals) c.args.name.now _ _ c.find.ensures c.is_some.ensures c.if-is_some.false,
  c.in_ok-fault.ensures.room c.in_default.is,
  (let e = c.in_ok-fault.ensures.rules in omega arith),
)

pub returns-clause-gives : goal.returns-clause-gives
returns-clause-gives c = (
  lacks (bytes_of c.args.self.now.terminals) c.args.name.now _ _ c.find.ensures c.is_some.ensures c.if-is_some.false,
  record { fits = c.in_ok-fault.ensures.room c.in_default.is; names = c.in_ok-fault.ensures.names c.in_default.is },
  (let e = c.in_ok-fault.ensures.rules in omega arith),
)
