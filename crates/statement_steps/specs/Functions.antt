-- What a function's statements are lowered in, as the code has it.
use Rattle.std.specs.Prelude.{map}
use Rattle.lowered_statements.specs.Functions.{Function}
use Rattle.lowering_acts.specs.Sites.{context_of, type_in}
use Rattle.statement_steps.specs.declared.site.FunctionSite.{FunctionSite}

abbrev pub function_of : FunctionSite → Function
function_of f =
    record {
      context = context_of f.site;
      locals = map (type_in f.site) f.locals.now;
      result = type_in f.site f.result;
      gives_zero = f.gives_zero;
      labels = f.labels.now;
      tables = f.tables;
    }
