use Rattle.std.proofs.Common.{List, ℕ, sym, subst}
use Rattle.lburg_trees.specs.Known.{ReadsName}
use Rattle.lburg_trees.proofs.KnownNames.{known_front, known_within, name_longer}
use Rattle.lburg_trees.proofs.plain_tree.head_at.Goals as goal

pub split_at-requires : goal.split_at-requires
split_at-requires c =
    let k = c.in-Some-known_in.known in
    known_within c.args.d.now c.args.bytes.now c.in-Some.word k c.in-Some.ensures (c.in-Some-known_in.ensures.is c.args.d.now.terminals c.requires.known)

pub returns-in-Some-known_in-clause-found : goal.returns-in-Some-known_in-clause-found
returns-in-Some-known_in-clause-found c =
    let k = c.in-Some-known_in.known in
    let d = c.args.d.now in
    let reads = known_front d c.args.bytes.now c.in-Some.word k c.requires.is c.in-Some.ensures (c.in-Some-known_in.ensures.is d.terminals c.requires.known) c.in-Some-known_in.ensures.found in
    subst (λ (z : List ℕ). ReadsName d c.args.bytes.now z k.op k.arity) (sym c.split_at.ensures.back) reads

pub returns-in-Some-known_in-clause-shorter : goal.returns-in-Some-known_in-clause-shorter
returns-in-Some-known_in-clause-shorter c = name_longer c.args.d.now c.args.bytes.now c.split_at.result.1.now c.in-Some-known_in.known.op c.in-Some-known_in.known.arity c.requires.is (returns-in-Some-known_in-clause-found c)
