use Rattle.std.proofs.Common.{Some, refl, sym, ◌∙◌, true≢false}
use Rattle.lburg_lines.specs.Tokens.{views}
use Rattle.lburg_faults.proofs.DeclareNotes.{scans_second, scans_unnamed, scans_terminal, scans_full, scans_fits, notes_unnamed, notes_start}
use Rattle.lburg_faults.proofs.known.Known.declare_start.Goals as goal

pub returns-then-is_some-clause-scanned : goal.returns-then-is_some-clause-scanned
returns-then-is_some-clause-scanned c =
    scans_second c.args.self.now c.args.here.now.text.now (views c.args.tokens.now) c.requires.start.0 c.args.bound c.requires.within.0 c.requires.start.1 (sym c.is_some.ensures ∙ c.if-is_some.true)

pub returns-in_default-clause-scanned : goal.returns-in_default-clause-scanned
returns-in_default-clause-scanned c =
    scans_unnamed c.args.self.now c.args.here.now.text.now (views c.args.tokens.now) c.requires.start.0 c.args.bound c.requires.start.1 (sym c.is_some.ensures ∙ c.if-is_some.false) c.in_default.ensures.none

pub returns-in_default-clause-known : goal.returns-in_default-clause-known
returns-in_default-clause-known c = λ _.
    notes_unnamed c.args.self.now c.args.self.now c.args.here.now.text.now c.args.here.now.number (views c.args.tokens.now) c.requires.start.0 c.args.bound c.requires.start.1 c.in_default.ensures.none

pub returns-then-branch-clause-scanned : goal.returns-then-branch-clause-scanned
returns-then-branch-clause-scanned c =
    scans_terminal c.args.self.now c.args.here.now.text.now (views c.args.tokens.now) c.requires.start.0 c.args.bound c.in-Some.name.now c.requires.start.1 (sym c.is_some.ensures ∙ c.if-is_some.false) c.in-Some.ensures.some (c.in_ok-is_declared.ensures.yes c.if-branch.true)

pub returns-in-Some-2-clause-scanned : goal.returns-in-Some-2-clause-scanned
returns-in-Some-2-clause-scanned c =
    scans_full c.args.self.now c.args.here.now.text.now (views c.args.tokens.now) c.requires.start.0 c.args.bound c.in-Some.name.now c.in-Some-2.fault c.requires.start.1 (sym c.is_some.ensures ∙ c.if-is_some.false) c.in-Some.ensures.some
    (λ terminals h a. true≢false (sym (c.in_ok-is_declared.ensures.no terminals h a) ∙ c.if-branch.false)) (rw c.in-Some-2.is at c.in_ok-fault.ensures.full)

pub returns-clause-scanned : goal.returns-clause-scanned
returns-clause-scanned c =
    scans_fits c.args.self.now c.args.here.now.text.now (views c.args.tokens.now) c.requires.start.0 c.args.bound c.in-Some.name.now c.requires.start.1 (sym c.is_some.ensures ∙ c.if-is_some.false) c.in-Some.ensures.some
    (λ terminals h a. true≢false (sym (c.in_ok-is_declared.ensures.no terminals h a) ∙ c.if-branch.false)) (c.in_ok-fault.ensures.room c.in_default-2.is)

pub returns-clause-known : goal.returns-clause-known
returns-clause-known c = λ _.
    notes_start c.args.self.now (record {
      terminals = c.mention.new.self.terminals;
      numbers = c.mention.new.self.numbers;
      arities = c.mention.new.self.arities;
      nonterminals = c.mention.new.self.nonterminals;
      start = Some (record { name = c.in-Some.name; line = c.args.here.now.number });
      rules = c.mention.new.self.rules;
    }) c.args.here.now.text.now c.args.here.now.number (views c.args.tokens.now) c.requires.start.0 c.args.bound c.in-Some.name.now c.requires.start.1 c.in-Some.ensures.some (c.in_ok-fault.ensures.room c.in_default-2.is) (record {
      terminals = c.in_ok-fault.ensures.terminals;
      numbers = c.in_ok-fault.ensures.numbers;
      arities = c.in_ok-fault.ensures.arities;
      rules = c.in_ok-fault.ensures.rules;
      nonterminals = c.in_ok-fault.ensures.names c.in_default-2.is;
      symbol = record { name = c.in-Some.name; line = c.args.here.now.number };
      start = refl;
      name_is = refl;
      number_is = refl;
    })
