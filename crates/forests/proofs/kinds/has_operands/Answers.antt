use Rattle.op_forest.specs.Nodes.{head_of}
use Rattle.forests.proofs.OperandLists.{operator_of-node, one_fits, two_fit, first_unfit}
use Rattle.forests.proofs.kinds.has_operands.Goals as goal

pub returns-in-Unary-Unary : goal.returns-in-Unary-Unary
returns-in-Unary-Unary c =
    let i = c.tree.inside in
    one_fits c.args.tree.now i.operator (operator_of-node i.operator i.sym i.value i.kids c.args.tree.now c.tree.view_is) c.is_operand.result
    (head_of c.args.tree.now) c.in-Unary-Unary.a.now c.in-Unary-Unary.s c.in-Unary-Unary.ensures c.in-Unary-Unary.ensures' c.is_operand.ensures

pub returns-then-is_operand : goal.returns-then-is_operand
returns-then-is_operand c =
    let i = c.tree.inside in
    two_fit c.args.tree.now i.operator (operator_of-node i.operator i.sym i.value i.kids c.args.tree.now c.tree.view_is) c.is_operand-then-is_operand.result
    (head_of c.args.tree.now) c.in-Binary-Binary.a.now c.in-Binary-Binary.b.now c.in-Binary-Binary.s c.in-Binary-Binary.t
    c.in-Binary-Binary.ensures c.in-Binary-Binary.ensures' (c.is_operand-in-Binary-Binary.ensures.0 c.if-is_operand.true) c.is_operand-then-is_operand.ensures

pub returns-else-is_operand : goal.returns-else-is_operand
returns-else-is_operand c =
    let i = c.tree.inside in
    first_unfit c.args.tree.now i.operator (operator_of-node i.operator i.sym i.value i.kids c.args.tree.now c.tree.view_is) c.is_operand-in-Binary-Binary.result
    (head_of c.args.tree.now) c.in-Binary-Binary.a.now c.in-Binary-Binary.b.now c.in-Binary-Binary.s c.in-Binary-Binary.t
    c.in-Binary-Binary.ensures c.in-Binary-Binary.ensures' c.is_operand-in-Binary-Binary.ensures c.if-is_operand.false
