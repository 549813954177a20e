use Rattle.std.proofs.Common.{◌≡◌, true, sym, ap, ◌∙◌, rules}
use Rattle.std.specs.Prelude.{not, is_some}
use Rattle.c_check_expr.specs.Known.{state_of}
use Rattle.c_check_decl.specs.Named.{linked}
use Rattle.c_check_decl.proofs.NameTests.{one_alone, other_alone}
use Rattle.c_check_decl.proofs.name_faults.is_again.Goals as goal
use Rattle.c_check_decl.proofs.name_faults.is_again.Goals.{then-is_linked, else-is_linked}

pub returns-after-is_linked : goal.returns-after-is_linked
returns-after-is_linked c t =
    let s = state_of c.args.scopes.now t in
    let l = linked c.args.linkage in
    let some : is_some c.args.id ≡ true = search rules in
    elim c.if-is_linked.branch [
      | then-is_linked w ↦ ap not (w.result-is ∙ w.is_linked-then-is_linked.ensures) ∙ sym (other_alone s l (linked w.linkage_at.result) c.args.id some (sym c.is_linked.ensures ∙ w.if-is_linked.true) (w.linkage_at.ensures t))
      | else-is_linked w ↦ ap not (w.result-is ∙ w.if-is_linked.false) ∙ sym (one_alone s l c.args.id some (sym c.is_linked.ensures ∙ w.if-is_linked.false))
    ]
