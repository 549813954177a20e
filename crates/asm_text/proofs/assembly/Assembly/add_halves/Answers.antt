use Rattle.std.proofs.Common.{map, ap}
use Rattle.asm_text.specs.declared.datum.Datum.TheVariants.{Half}
use Rattle.asm_text.specs.Added.{with_data, IsDataFault}
use Rattle.asm_text.specs.Made.{Made}
use Rattle.asm_text.proofs.DataAdded.{fault_more, handed_on}
use Rattle.asm_text.proofs.assembly.Assembly.add_halves.Goals as goal

pub returns-in_err-add_datum-clause-fault : goal.returns-in_err-add_datum-clause-fault
returns-in_err-add_datum-clause-fault c =
    let m = c.args.self.now in
    let e = c.in_err-add_datum.field-0.0 in
    handed_on c.from_residual.result e (IsDataFault c.args.line (with_data m (map (λ n. Half n) c.args.halves.now))) c.from_residual.ensures.1 (fault_more (λ n. Half n) c.args.line m c.loop-half.self c.args.halves.now c.loop-half.half-index 0 e c.loop-half-test.true (ap (λ (x : Made). x.datums) c.loop-half.invariant) c.in_err-add_datum.ensures.fault)
