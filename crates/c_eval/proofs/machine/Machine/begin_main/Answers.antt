use Rattle.std.specs.Prelude.{slice_get}
use Rattle.c_types.specs.Table.{types}
use Rattle.c_meaning.specs.Units.{function_seen}
use Rattle.c_worlds.specs.Programs.{unit_of}
use Rattle.c_eval.proofs.Beginning.{main_begins, no_main_begins}
use Rattle.c_eval.proofs.machine.Machine.begin_main.Goals as goal

pub returns-in-None : goal.returns-in-None
returns-in-None c =
    let p = c.args.program.now in
    no_main_begins p c.args.self.now (slice_get (unit_of p).functions (unit_of p).main) c.stray.result c.in-None.ensures.none c.stray.ensures

pub returns-in-Some : goal.returns-in-Some
returns-in-Some c =
    let p = c.args.program.now in
    main_begins p c.args.self.now c.enter_main.new.self (slice_get (unit_of p).functions (unit_of p).main) (function_seen (types p.core.now.types) c.in-Some.f.now) c.enter_main.result c.in-Some.ensures.some c.enter_main.ensures
