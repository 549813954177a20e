use Rattle.std.proofs.Common.{◌≡◌, ◌∙◌, sym, true, false}
use Rattle.c_meaning.specs.Types.{is_record}
use Rattle.c_types.specs.Table.{type_at}
use Rattle.c_acts.proofs.assigning.assign.Goals as goal

pub returns-then-is_record-clause-gets : goal.returns-then-is_record-clause-gets
returns-then-is_record-clause-gets c =
    let h : is_record (type_at c.types.result.now c.args.of) ≡ true = sym c.is_record.ensures ∙ c.if-is_record.true in
    let here = rw c.types.ensures at h in
    λ calls. rw here (c.assign_whole.ensures.gets calls)

pub returns-else-is_record-clause-gets : goal.returns-else-is_record-clause-gets
returns-else-is_record-clause-gets c =
    let h : is_record (type_at c.types.result.now c.args.of) ≡ false = sym c.is_record.ensures ∙ c.if-is_record.false in
    let here = rw c.types.ensures at h in
    λ calls. rw here (c.assign_scalar.ensures.gets calls)
