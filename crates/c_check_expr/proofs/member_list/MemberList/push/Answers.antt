use Rattle.std.proofs.Common.{◌++◌, List, ℕ, ap, ◌∙◌}
use Rattle.c_check_expr.proofs.MemberLists.{named_push}
use Rattle.c_check_expr.proofs.member_list.MemberList.push.Goals as goal

pub invariant_of-self-in-Ok : goal.invariant_of-self-in-Ok
invariant_of-self-in-Ok c =
    let i = c.self.inside in
    let k = c.extend_from_slice.new.self in
    let e = c.in_ok-extend_from_slice.ensures.items ∙ ap (λ (xs : List ℕ). xs ++ c.as_slice.result.now) c.new-key.ensures.items ∙ c.as_slice.ensures in
    rw (c.in-Ok.ensures.keys, c.in_ok-push.ensures.items) (named_push i.names.keys i.members.items k _ c.self.invariant e)
