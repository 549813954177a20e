use Rattle.std.proofs.Common.{◌≡◌, sym, ap, ◌∙◌}
use Rattle.std.specs.Prelude.{None}
use Rattle.c_types.specs.Table.{tags}
use Rattle.c_values.specs.Stays.{extends_on, grows_on}
use Rattle.c_check_decl.proofs.lemmas.StmtsStay.{maybe_stays}
use Rattle.c_units.specs.Bodies.{maybe_value}
use Rattle.c_meaning.specs.Postorder.{or_else}
use Rattle.c_units.specs.Statements.{value_fault}
use Rattle.c_stmt_parts.specs.Asked.{IsToldAt, maybe_core, maybe_test_broken}
use Rattle.c_stmt_parts.specs.Heads.{for_node}
use Rattle.c_stmt_parts.proofs.ForHeads.{fault_stays, some_later}
use Rattle.c_stmt_parts.proofs.NodeFaults.{broken_by, first_told, for_first, handed_on, limit_by, none_told, second_told, sound_by}
use Rattle.c_stmt_parts.proofs.tests.repeated.Goals as goal

pub returns-in-Some-clause-told : goal.returns-in-Some-clause-told
returns-in-Some-clause-told c =
    let a = c.args.types.now in
    let h = c.args.head in
    broken_by a c.args.line (for_node a h) (λ g. maybe_test_broken g (maybe_core a h.test)) (for_first (maybe_core a h.first) (maybe_core a h.test) (maybe_core a h.last)) c.in-Some.number (sym c.in-Some.ensures)

pub returns-in_err-first-clause-told : goal.returns-in_err-first-clause-told
returns-in_err-first-clause-told c =
    let a = c.args.types.now in
    let h = c.args.head in
    let x = value_fault (tags a) (maybe_core a h.first) in
    let y = value_fault (tags a) (maybe_core a h.test) in
    let z = value_fault (tags a) (maybe_core a h.last) in
    let e = c.in_err-first.field-0.0 in
    handed_on c.from_residual.result e (IsToldAt a c.args.line (for_node a h)) c.from_residual.ensures.1
    (limit_by a c.args.line (for_node a h) (λ g. maybe_test_broken g (maybe_core a h.test)) (for_first (maybe_core a h.first) (maybe_core a h.test) (maybe_core a h.last)) e (sym c.in_default.ensures)
    (first_told e x (or_else y z) c.in_err-first.ensures.told))

pub maybe_evaluated-requires-2 : goal.maybe_evaluated-requires-2
maybe_evaluated-requires-2 c = some_later c.args.types.now c.maybe_evaluated.new.types c.in_ok-first.ensures.grows.extends c.args.head.test c.requires.test

pub returns-in_err-test-clause-told : goal.returns-in_err-test-clause-told
returns-in_err-test-clause-told c =
    let a = c.args.types.now in
    let b = c.maybe_evaluated.new.types in
    let h = c.args.head in
    let x = value_fault (tags a) (maybe_core a h.first) in
    let y = value_fault (tags a) (maybe_core a h.test) in
    let z = value_fault (tags a) (maybe_core a h.last) in
    let e = c.in_err-test.field-0.0 in
    let same : value_fault (tags b) (maybe_core b h.test) ≡ y = fault_stays a b c.in_ok-first.ensures.grows h.test c.requires.test in
    handed_on c.from_residual-in_err-test.result e (IsToldAt a c.args.line (for_node a h)) c.from_residual-in_err-test.ensures.1
    (limit_by a c.args.line (for_node a h) (λ g. maybe_test_broken g (maybe_core a h.test)) (for_first (maybe_core a h.first) (maybe_core a h.test) (maybe_core a h.last)) e (sym c.in_default.ensures)
    (second_told e x (or_else y z) c.in_ok-first.ensures.sound (first_told e y z (rw same at c.in_err-test.ensures.told))))

pub maybe_evaluated-requires-3 : goal.maybe_evaluated-requires-3
maybe_evaluated-requires-3 c =
    let a = c.args.types.now in
    let b = c.maybe_evaluated.new.types in
    let d = c.maybe_evaluated-2.new.types in
    some_later a d (extends_on a b d c.in_ok-first.ensures.grows.extends c.in_ok-test.ensures.grows.extends) c.args.head.last c.requires.last

pub returns-in_err-test-clause-grows : goal.returns-in_err-test-clause-grows
returns-in_err-test-clause-grows c = grows_on c.args.types.now c.maybe_evaluated.new.types c.maybe_evaluated-2.new.types c.in_ok-first.ensures.grows c.in_err-test.ensures.grows

pub returns-in_err-last-clause-told : goal.returns-in_err-last-clause-told
returns-in_err-last-clause-told c =
    let a = c.args.types.now in
    let b = c.maybe_evaluated.new.types in
    let d = c.maybe_evaluated-2.new.types in
    let h = c.args.head in
    let x = value_fault (tags a) (maybe_core a h.first) in
    let y = value_fault (tags a) (maybe_core a h.test) in
    let z = value_fault (tags a) (maybe_core a h.last) in
    let e = c.in_err-last.field-0.0 in
    let second : y ≡ None = sym (fault_stays a b c.in_ok-first.ensures.grows h.test c.requires.test) ∙ c.in_ok-test.ensures.sound in
    let same : value_fault (tags d) (maybe_core d h.last) ≡ z = fault_stays a d (grows_on a b d c.in_ok-first.ensures.grows c.in_ok-test.ensures.grows) h.last c.requires.last in
    handed_on c.from_residual-in_err-last.result e (IsToldAt a c.args.line (for_node a h)) c.from_residual-in_err-last.ensures.1
    (limit_by a c.args.line (for_node a h) (λ g. maybe_test_broken g (maybe_core a h.test)) (for_first (maybe_core a h.first) (maybe_core a h.test) (maybe_core a h.last)) e (sym c.in_default.ensures)
    (second_told e x (or_else y z) c.in_ok-first.ensures.sound (second_told e y z second (rw same at c.in_err-last.ensures.told))))

pub returns-in_err-last-clause-grows : goal.returns-in_err-last-clause-grows
returns-in_err-last-clause-grows c =
    let a = c.args.types.now in
    let b = c.maybe_evaluated.new.types in
    let d = c.maybe_evaluated-2.new.types in
    grows_on a d c.maybe_evaluated-3.new.types (grows_on a b d c.in_ok-first.ensures.grows c.in_ok-test.ensures.grows) c.in_err-last.ensures.grows

pub returns-clause-first : goal.returns-clause-first
returns-clause-first c =
    let b = c.maybe_evaluated.new.types in
    let d = c.maybe_evaluated-2.new.types in
    let e = c.maybe_evaluated-3.new.types in
    maybe_stays b e (extends_on b d e c.in_ok-test.ensures.grows.extends c.in_ok-last.ensures.grows.extends) c.in_ok-first.first c.in_ok-first.ensures.within ∙ c.in_ok-first.ensures.ok

pub returns-clause-test : goal.returns-clause-test
returns-clause-test c =
    let a = c.args.types.now in
    let b = c.maybe_evaluated.new.types in
    let d = c.maybe_evaluated-2.new.types in
    let e = c.maybe_evaluated-3.new.types in
    maybe_stays d e c.in_ok-last.ensures.grows.extends c.in_ok-test.test c.in_ok-test.ensures.within ∙ c.in_ok-test.ensures.ok ∙ ap maybe_value (maybe_stays a b c.in_ok-first.ensures.grows.extends c.args.head.test c.requires.test)

pub returns-clause-last : goal.returns-clause-last
returns-clause-last c =
    let a = c.args.types.now in
    let b = c.maybe_evaluated.new.types in
    let d = c.maybe_evaluated-2.new.types in
    c.in_ok-last.ensures.ok ∙ ap maybe_value (maybe_stays a d (extends_on a b d c.in_ok-first.ensures.grows.extends c.in_ok-test.ensures.grows.extends) c.args.head.last c.requires.last)

pub returns-clause-sound : goal.returns-clause-sound
returns-clause-sound c =
    let a = c.args.types.now in
    let b = c.maybe_evaluated.new.types in
    let d = c.maybe_evaluated-2.new.types in
    let h = c.args.head in
    let x = value_fault (tags a) (maybe_core a h.first) in
    let y = value_fault (tags a) (maybe_core a h.test) in
    let z = value_fault (tags a) (maybe_core a h.last) in
    let second : y ≡ None = sym (fault_stays a b c.in_ok-first.ensures.grows h.test c.requires.test) ∙ c.in_ok-test.ensures.sound in
    let third : z ≡ None = sym (fault_stays a d (grows_on a b d c.in_ok-first.ensures.grows c.in_ok-test.ensures.grows) h.last c.requires.last) ∙ c.in_ok-last.ensures.sound in
    sound_by a c.args.line (for_node a h) (λ g. maybe_test_broken g (maybe_core a h.test)) (for_first (maybe_core a h.first) (maybe_core a h.test) (maybe_core a h.last)) (sym c.in_default.ensures)
    (none_told x (or_else y z) c.in_ok-first.ensures.sound (none_told y z second third))

pub returns-clause-within : goal.returns-clause-within
returns-clause-within c =
    let b = c.maybe_evaluated.new.types in
    let d = c.maybe_evaluated-2.new.types in
    let e = c.maybe_evaluated-3.new.types in
    record {
      first = some_later b e (extends_on b d e c.in_ok-test.ensures.grows.extends c.in_ok-last.ensures.grows.extends) c.in_ok-first.first c.in_ok-first.ensures.within;
      test = some_later d e c.in_ok-last.ensures.grows.extends c.in_ok-test.test c.in_ok-test.ensures.within;
      last = c.in_ok-last.ensures.within;
    }

pub returns-clause-grows : goal.returns-clause-grows
returns-clause-grows c =
    let a = c.args.types.now in
    let b = c.maybe_evaluated.new.types in
    let d = c.maybe_evaluated-2.new.types in
    grows_on a d c.maybe_evaluated-3.new.types (grows_on a b d c.in_ok-first.ensures.grows c.in_ok-test.ensures.grows) c.in_ok-last.ensures.grows
