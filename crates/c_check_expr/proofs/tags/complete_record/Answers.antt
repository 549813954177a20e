use Rattle.std.proofs.Common.{sym, ◌∙◌}
use Rattle.c_types.specs.Table.{member_types, type_at, types}
use Rattle.c_meaning.specs.TypeRows.{number_of}
use Rattle.c_check_expr.specs.Known.{state_of}
use Rattle.c_check_expr.proofs.RecordNodes.{record_fine, record_misused, record_told}
use Rattle.c_check_expr.specs.Kept.{keeps_later}
use Rattle.c_check_expr.proofs.tags.complete_record.Goals as goal

pub returns-then-branch-clause-err : goal.returns-then-branch-clause-err
returns-then-branch-clause-err c =
    let t = c.args.types.now in
    let n = number_of (type_at t c.args.begun.id) in
    let ms = member_types (types t) c.args.members in
    record_misused (state_of c.args.scopes.now t) c.args.begun.line c.args.begun.kind c.args.tag.now n ms (sym (c.in_ok-is_misused.ensures n ms) ∙ c.if-branch.true)

pub returns-clause-ok : goal.returns-clause-ok
returns-clause-ok c =
    let t = c.args.types.now in
    let n = number_of (type_at t c.args.begun.id) in
    let ms = member_types (types t) c.args.members in
    let e = c.complete.ensures in
    record_fine c.args.scopes.now t c.complete.new.types c.args.begun.line c.args.begun.kind c.args.tag.now c.args.begun.id c.args.members c.complete.result (sym (c.in_ok-is_misused.ensures n ms) ∙ c.if-branch.false)
    e.accepted e.extends e.forms e.tags c.requires.symbols e.means

pub returns-clause-err : goal.returns-clause-err
returns-clause-err c =
    let t = c.args.types.now in
    let n = number_of (type_at t c.args.begun.id) in
    let ms = member_types (types t) c.args.members in
    record_told c.args.scopes.now t c.args.begun.line c.args.begun.kind c.args.tag.now c.args.begun.id c.args.members c.complete.result (sym (c.in_ok-is_misused.ensures n ms) ∙ c.if-branch.false) c.complete.ensures.err

pub returns-clause-keeps : goal.returns-clause-keeps
returns-clause-keeps c = keeps_later c.args.scopes.now c.args.types.now c.complete.new.types c.complete.ensures.extends c.requires.symbols
