use Rattle.c_entries.proofs.Providing.{putchar_writes}
use Rattle.c_entries.proofs.built_ins.provide.Goals as goal

pub returns-in_ok-given-in-Putchar-clause-provides : goal.returns-in_ok-given-in-Putchar-clause-provides
returns-in_ok-given-in-Putchar-clause-provides c =
    let n = c.in_ok-n-in-Putchar in
    let v = c.in_ok-given-in-Putchar in
    rw c.in-Putchar.is
    (putchar_writes c.args.arguments.now c.args.line n.n v.given c.args.world.now c.put_character.new.world n.ensures v.ensures.ok v.ensures.output
    (c.put_character.ensures.storage, (c.put_character.ensures.locals, c.put_character.ensures.input)))
