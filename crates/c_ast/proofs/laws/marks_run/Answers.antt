use Rattle.c_ast.specs.InForce.{nothing_in_force}
use Rattle.c_ast.specs.UnitMarks.{unit}
use Rattle.c_ast.proofs.MarkLaws.{to_runs, run_tokens, run_classed, run_lined}
use Rattle.c_ast.proofs.laws.marks_run.Goals as goal

pub returns : goal.returns
returns c = λ ts u. (
  (λ d. (d.fits.levels, d.fits.low, to_runs (unit u) nothing_in_force ts d.spelled d.fits.classed d.lined)),
  (λ h. record {
    spelled = run_tokens (unit u) nothing_in_force ts h.2;
    fits = record { levels = h.0; classed = run_classed (unit u) nothing_in_force ts h.2; low = h.1 };
    lined = run_lined (unit u) nothing_in_force ts h.2;
  }),
)
