use Rattle.std.proofs.Common.{arith}
use Rattle.plain_cover.proofs.Small.{one_room, two_rooms}
use Rattle.plain_cover.proofs.plain.+room_of.Goals as goal

pub overflow_add-result : goal.overflow_add-result
overflow_add-result g t c =
    let h = one_room c.args.width (g.N.TreeNode.tree c.args.tree.now) (g.N.TreeNode.tree c.kid.result.now) c.requires.width c.requires.tree c.kid.ensures in
    let e = c.room_of.ensures in
    omega arith

pub overflow_add-result-in_default : goal.overflow_add-result-in_default
overflow_add-result-in_default g t c =
    let h = one_room c.args.width (g.N.TreeNode.tree c.args.tree.now) (g.N.TreeNode.tree c.kid-in_default.result.now) c.requires.width c.requires.tree c.kid-in_default.ensures in
    let k = two_rooms c.args.width (g.N.TreeNode.tree c.args.tree.now) (g.N.TreeNode.tree c.kid-in_default-2.result.now) c.requires.width c.requires.tree c.kid-in_default-2.ensures in
    let e = c.room_of-in_default.ensures in
    let f = c.room_of-in_default-2.ensures in
    let m = c.max.ensures in
    omega arith
