use Rattle.lcc_text.specs.Names.{bytes_of}
use Rattle.lburg_lines.specs.Tokens.{views}
use Rattle.lburg_faults.proofs.RuleArities.{no_terminal, no_tree, differing, agreeing}
use Rattle.lburg_faults.proofs.known.Known.note_use_at.Goals as goal

pub returns-in_default-clause-gives : goal.returns-in_default-clause-gives
returns-in_default-clause-gives c = no_terminal (views c.args.tokens.now) c.args.place (bytes_of c.args.self.now.terminals) c.args.name.now c.args.self.now.arities.items c.find.result c.find.ensures c.in_default.is

pub returns-in_default-2-clause-gives : goal.returns-in_default-2-clause-gives
returns-in_default-2-clause-gives c = no_tree (views c.args.tokens.now) c.args.place (bytes_of c.args.self.now.terminals) c.args.name.now c.args.self.now.arities.items (rw c.in_default-2.is at c.in_ok-found.ensures.none)

pub returns-then-note_use-clause-gives : goal.returns-then-note_use-clause-gives
returns-then-note_use-clause-gives c =
    differing c.one_tree.ensures (views c.args.tokens.now) c.args.place (bytes_of c.args.self.now.terminals) c.args.name.now c.args.self.now.arities.items c.note_use.new.self.arities.items c.find.result c.in-Some.terminal c.in-Some-2.found.operands c.in-Some-2.found.last c.note_use.result c.find.ensures c.in-Some.is (rw c.in-Some-2.is at c.in_ok-found.ensures.some) c.note_use.ensures.gives c.if-note_use.true

pub returns-else-note_use-clause-gives : goal.returns-else-note_use-clause-gives
returns-else-note_use-clause-gives c =
    agreeing c.one_tree.ensures (views c.args.tokens.now) c.args.place (bytes_of c.args.self.now.terminals) c.args.name.now c.args.self.now.arities.items c.note_use.new.self.arities.items c.find.result c.in-Some.terminal c.in-Some-2.found.operands c.in-Some-2.found.last c.note_use.result c.find.ensures c.in-Some.is (rw c.in-Some-2.is at c.in_ok-found.ensures.some) c.note_use.ensures.gives c.if-note_use.false
