use Rattle.std.proofs.Common.{length}
use Rattle.c_check_expr.specs.KnownLaws.{symbols_in-append}
use Rattle.c_check_expr.proofs.lemmas.KnownSymbols.{state-declare}
use Rattle.c_values.specs.Stays.{extends_itself}
use Rattle.c_check_expr.proofs.declaring.declare.Goals as goal

pub returns-in-Ok-clause-state : goal.returns-in-Ok-clause-state
returns-in-Ok-clause-state c =
    let e = c.in-Ok.ensures in
    state-declare c.args.scopes.now c.declare.new.self c.args.types.now c.args.name.now c.in-Ok.field-0 c.args.symbol e.outer e.inner e.id e.links e.symbols

pub returns-in-Ok-clause-keeps : goal.returns-in-Ok-clause-keeps
returns-in-Ok-clause-keeps c =
    let e = c.in-Ok.ensures in
    record {
      outer = e.outer;
      extends = extends_itself c.args.types.now;
      symbols = rw e.symbols (symbols_in-append (length c.args.types.now.forms) c.args.scopes.now.symbols c.args.symbol c.requires.symbols c.requires.of);
    }
