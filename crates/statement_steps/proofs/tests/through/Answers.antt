use Rattle.std.proofs.Common.{arith, ◌∙◌}
use Rattle.statement_steps.specs.Functions.{function_of}
use Rattle.statement_steps.specs.Sides.{choice_of}
use Rattle.statement_steps.proofs.lemmas.Searching.{goes_through}
use Rattle.statement_steps.proofs.tests.through.Goals as goal

pub returns : goal.returns
returns c =
    goes_through (function_of c.args.f.now) (choice_of c.args.choice) c.args.table.now c.args.into.now c.jump_by.new.block (record { state = c.end.new.self; tables = c.push.new.self }) c.in_ok-name.name c.in_ok-labels.labels
    (record {
      name_is = omega (arith, c.in_ok-name.ensures, c.len.ensures, c.args.into.now.tables.ok.0);
      jump = c.in_ok-jump_by.ensures;
      end = c.in_ok-end.ensures;
      labels_are = c.in_ok-labels.ensures ∙ c.as_slice.ensures;
      tables = c.in_ok-push.ensures.items;
    })
