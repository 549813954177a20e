use Rattle.std.specs.Prelude.{Err, Ok}
use Rattle.c_ast.specs.SeenUnits.{initialiser_seen}
use Rattle.c_ast.specs.UnitViews.{initialiser_of}
use Rattle.c_check_expr.specs.Known.{state_of}
use Rattle.c_initialisers.specs.Objects.{object_in}
use Rattle.c_check_decl.proofs.MaybeInitialised.{maybe_as, maybe_none, some_goes, some_stops, walk_initialiser}
use Rattle.c_check_decl.proofs.initialising.maybe_initialised.Goals as goal

pub returns-in_err-filled-in-Some : goal.returns-in_err-filled-in-Some
returns-in_err-filled-in-Some c =
    let s = c.args.scopes.now in
    let a = c.args.types.now in
    let u = c.initialise.new.scopes in
    let b = c.initialise.new.types in
    let o = object_in a c.args.object in
    let w = c.deref.result.now in
    let f = c.in_err-filled-in-Some.field-0.0 in
    let k = c.in_err-filled-in-Some.ensures in
    let law = c.declaring_is_a_function.ensures in
    maybe_as s u a b o c.from_residual.result c.args.i.now c.in-Some.i w c.in-Some.is c.deref.ensures
    (some_stops s u a b o (initialiser_seen w) f c.from_residual.result c.from_residual.ensures.1 (walk_initialiser s u a b o w (Err f) (law.initialisers (state_of s a) o (initialiser_of w)) (law.initialiser_faults (state_of s a) o (initialiser_of w)) k.typed k.constraint k.limit k.within k.keeps))

pub returns-in_ok-filled-in-Some : goal.returns-in_ok-filled-in-Some
returns-in_ok-filled-in-Some c =
    let s = c.args.scopes.now in
    let a = c.args.types.now in
    let u = c.initialise.new.scopes in
    let b = c.initialise.new.types in
    let o = object_in a c.args.object in
    let w = c.deref.result.now in
    let f = c.in_ok-filled-in-Some.filled in
    let k = c.in_ok-filled-in-Some.ensures in
    let law = c.declaring_is_a_function.ensures in
    maybe_as s u a b o _ c.args.i.now c.in-Some.i w c.in-Some.is c.deref.ensures
    (some_goes s u a b o (initialiser_seen w) f (walk_initialiser s u a b o w (Ok f) (law.initialisers (state_of s a) o (initialiser_of w)) (law.initialiser_faults (state_of s a) o (initialiser_of w)) k.typed k.constraint k.limit k.within k.keeps))

pub returns-in-None : goal.returns-in-None
returns-in-None c = maybe_none c.args.scopes.now c.args.types.now (object_in c.args.types.now c.args.object) c.args.i.now c.in-None.is c.requires.symbols
