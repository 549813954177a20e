use Rattle.std.proofs.Common.{nat_eq}
use Rattle.indexmap.specs.IndexMap.{get}
use Rattle.whole_lowered.proofs.Known.{leaf_known, one_known, two_known}
use Rattle.whole_lowered.proofs.symbols.+is_known.Goals as goal

pub returns-in-Leaf : goal.returns-in-Leaf
returns-in-Leaf t c = λ h.
    leaf_known c.args.names (get nat_eq c.args.labels.now.places) c.args.tree.now c.symbol_of.result c.symbol_of.ensures (c.has_known_symbol.ensures c.if-not-has_known_symbol.false) c.in-Leaf.ensures

pub returns-in-Unary : goal.returns-in-Unary
returns-in-Unary t c = λ h.
    one_known c.args.names (get nat_eq c.args.labels.now.places) c.args.tree.now c.in-Unary.a.now c.symbol_of.result c.symbol_of.ensures (c.has_known_symbol.ensures c.if-not-has_known_symbol.false) c.in-Unary.ensures (c.is_known.ensures h)

pub returns-then-is_known : goal.returns-then-is_known
returns-then-is_known t c = λ h.
    two_known c.args.names (get nat_eq c.args.labels.now.places) c.args.tree.now c.in-Binary.a.now c.in-Binary.b.now c.symbol_of.result c.symbol_of.ensures (c.has_known_symbol.ensures c.if-not-has_known_symbol.false) c.in-Binary.ensures
    (c.is_known-in-Binary.ensures c.if-is_known.true) (c.is_known-then-is_known.ensures h)
