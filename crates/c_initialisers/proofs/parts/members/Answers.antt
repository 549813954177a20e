use Rattle.std.proofs.Common.{◌≡◌, ◌<◌, length, sym, ◌∙◌, subst, arith}
use Rattle.std.proofs.lemmas.Bool.{eqb-true}
use Rattle.c_initialisers.proofs.MemberLists.{all_parts, members_count, none_from, not_none}
use Rattle.c_initialisers.proofs.parts.members.Goals as goal

pub returns-then-is_empty-clause-are : goal.returns-then-is_empty-clause-are
returns-then-is_empty-clause-are c =
    let t = c.args.types.now in
    let at = c.args.at in
    let ms = c.initialised.result.now in
    let are = c.initialised.ensures.members at.offset in
    let none : length ms ≡ 0 = eqb-true (length ms) 0 (sym c.if-is_empty.ensures) in
    sym (none_from t at.of.of at.offset ms are 0 (omega (arith, none))) ∙ all_parts t at.of.of at.offset ms are at.of.qualifiers.0 c.requires.array

pub returns-clause-are : goal.returns-clause-are
returns-clause-are c =
    let at = c.args.at in
    all_parts c.args.types.now at.of.of at.offset c.initialised.result.now (c.initialised.ensures.members at.offset) at.of.qualifiers.0 c.requires.array

pub returns-clause-within : goal.returns-clause-within
returns-clause-within c =
    let at = c.args.at in
    let ms = c.initialised.result.now in
    (c.requires.at, subst (λ n. 0 < n) (members_count c.args.types.now at.of.of at.offset ms (c.initialised.ensures.members at.offset)) (not_none ms c.if-is_empty.ensures))
