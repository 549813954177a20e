use Rattle.std.proofs.Common.{◌≡◌, ◌+◌, ◌++◌, ◌∷◌, [], length, arith, ap, ◌∙◌}
use Rattle.asm_text.proofs.NameTables.{names_more, ends_more}
use Rattle.asm_text.proofs.name_table.NameTable.push.Goals as goal

pub invariant_of-self-in-Ok : goal.invariant_of-self-in-Ok
invariant_of-self-in-Ok c =
    let e : c.len.result ≡ 0 + (length c.self.inside.bytes.items + length c.args.name.now) = omega (arith, c.self.inside.bytes.ok.0, c.in_ok-extend_from_slice.ensures.len) in
    rw (c.in-Ok.ensures.items, c.in_ok-extend_from_slice.ensures.items) (ends_more 0 c.len.result c.self.inside.ends.items c.self.inside.bytes.items c.args.name.now c.self.invariant e)

pub returns-in-Ok-clause-ok : goal.returns-in-Ok-clause-ok
returns-in-Ok-clause-ok c =
    let e : c.len.result ≡ 0 + (length c.self.inside.bytes.items + length c.args.name.now) = omega (arith, c.self.inside.bytes.ok.0, c.in_ok-extend_from_slice.ensures.len) in
    rw (c.in-Ok.ensures.items, c.in_ok-extend_from_slice.ensures.items, ← c.self.view_is) (names_more 0 c.len.result c.self.inside.ends.items c.self.inside.bytes.items c.args.name.now c.self.invariant e)
