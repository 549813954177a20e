use Rattle.std.proofs.Common.{Some, None, arith, ◌∙◌}
use Rattle.lcc_text.specs.Names.{bytes_of}
use Rattle.lburg_lines.specs.Tokens.{views}
use Rattle.lburg_faults.proofs.RuleNames.{patterned, noted_more, all_noted, one_found}
use Rattle.lburg_faults.proofs.known.Known.note_nodes.Goals as goal

pub returns-in-Some-clause-give : goal.returns-in-Some-clause-give
returns-in-Some-clause-give c =
    let g = patterned (views c.args.tokens.now) c.loop-place.place c.loop-place.self c.args.self.now (bytes_of c.note_token.new.self.nonterminals) c.in_ok-fault.field-0 (Some c.in-Some.fault) c.in-Some.is c.loop-place.invariant.terminals c.in_ok-fault.ensures.gives in
    one_found (views c.args.tokens.now) c.args.end c.loop-place.place (bytes_of c.args.self.now.terminals) (bytes_of c.args.self.now.nonterminals) (bytes_of c.loop-place.self.nonterminals) (bytes_of c.note_token.new.self.nonterminals) c.in-Some.fault c.loop-place.invariant.noted c.loop-place.auto.place (omega arith) g

pub loop-place-preserved : goal.loop-place-preserved
loop-place-preserved c =
    let g = patterned (views c.args.tokens.now) c.loop-place.place c.loop-place.self c.args.self.now (bytes_of c.note_token.new.self.nonterminals) c.in_ok-fault.field-0 None c.in_default.is c.loop-place.invariant.terminals c.in_ok-fault.ensures.gives in
    record {
      noted = noted_more (views c.args.tokens.now) c.args.end c.loop-place.place (bytes_of c.args.self.now.terminals) (bytes_of c.args.self.now.nonterminals) (bytes_of c.loop-place.self.nonterminals) (bytes_of c.note_token.new.self.nonterminals) c.loop-place.invariant.noted c.loop-place.auto.place (omega arith) g;
      within = omega arith;
      terminals = c.in_ok-fault.ensures.terminals ∙ c.loop-place.invariant.terminals;
      numbers = c.in_ok-fault.ensures.numbers ∙ c.loop-place.invariant.numbers;
      arities = c.in_ok-fault.ensures.arities ∙ c.loop-place.invariant.arities;
      start = c.in_ok-fault.ensures.start ∙ c.loop-place.invariant.start;
      rules = c.in_ok-fault.ensures.rules ∙ c.loop-place.invariant.rules;
    }

pub returns-clause-give : goal.returns-clause-give
returns-clause-give c = all_noted (views c.args.tokens.now) c.args.end c.loop-place.place (bytes_of c.args.self.now.terminals) (bytes_of c.args.self.now.nonterminals) (bytes_of c.loop-place.self.nonterminals) c.loop-place.invariant.noted (omega arith)
