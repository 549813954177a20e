use Rattle.std.proofs.Common.{map, ap}
use Rattle.asm_text.specs.declared.datum.Datum.TheVariants.{Byte}
use Rattle.asm_text.specs.Added.{with_data, IsDataFault}
use Rattle.asm_text.specs.Made.{Made}
use Rattle.asm_text.proofs.DataAdded.{fault_more, handed_on}
use Rattle.asm_text.proofs.assembly.Assembly.add_bytes.Goals as goal

pub returns-in_err-add_datum-clause-fault : goal.returns-in_err-add_datum-clause-fault
returns-in_err-add_datum-clause-fault c =
    let m = c.args.self.now in
    let e = c.in_err-add_datum.field-0.0 in
    handed_on c.from_residual.result e (IsDataFault c.args.line (with_data m (map (λ n. Byte n) c.args.bytes.now))) c.from_residual.ensures.1 (fault_more (λ n. Byte n) c.args.line m c.loop-byte.self c.args.bytes.now c.loop-byte.byte-index 0 e c.loop-byte-test.true (ap (λ (x : Made). x.datums) c.loop-byte.invariant) c.in_err-add_datum.ensures.fault)
