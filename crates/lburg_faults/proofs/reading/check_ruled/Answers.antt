use Rattle.std.proofs.Common.{◌≡◌, ◌<◌, length, map, refl, ap, inl, inr, arith}
use Rattle.std.proofs.lemmas.List.{length-map}
use Rattle.std.proofs.lemmas.Option.{slice_get_within, slice_get_read}
use Rattle.lcc_text.specs.Names.{bytes_of}
use Rattle.lburg_lines.specs.Grammar.{rule_of}
use Rattle.lburg_faults.specs.Ruling.{lefts_of}
use Rattle.lburg_faults.proofs.TextNames.{SameNames}
use Rattle.lburg_faults.proofs.TextAll.{read_pattern, read_ruled, read_start, read_no_start}
use Rattle.lburg_faults.proofs.reading.check_ruled.Goals as goal

pub returns-in-Some-clause-fault : goal.returns-in-Some-clause-fault
returns-in-Some-clause-fault c =
    let s : SameNames (bytes_of c.in_ok-lefts.lefts) (lefts_of (map rule_of c.deref.result.now)) = record { all = c.in_ok-lefts.ensures.all; only = c.in_ok-lefts.ensures.only } in
    let rules = c.args.rules.now in
    let w = slice_get_within (map rule_of c.deref-2.result.now) c.in-Some.i c.in-Some.ensures.rule c.in-Some.ensures.there in
    let n : length c.deref-2.result.now ≡ length rules.lines.items = ap length c.deref-2.ensures.value in
    let b : c.in-Some.i < length rules.numbers.items = omega (arith, length-map c.deref-2.result.now rule_of, c.requires) in
    inr (λ lines a. inl (read_pattern lines rules c.args.known.now (bytes_of c.in_ok-lefts.lefts) c.deref.result.now c.deref-2.result.now c.in-Some.i c.index.result.now a c.deref.ensures.value s c.deref-2.ensures.value c.in-Some.ensures (slice_get_read rules.numbers.items (length rules.numbers.items) c.in-Some.i c.index.result.now refl b c.index.ensures)))

pub returns-in-Some-unruled_start-clause-fault : goal.returns-in-Some-unruled_start-clause-fault
returns-in-Some-unruled_start-clause-fault c =
    let s : SameNames (bytes_of c.in_ok-lefts.lefts) (lefts_of (map rule_of c.deref.result.now)) = record { all = c.in_ok-lefts.ensures.all; only = c.in_ok-lefts.ensures.only } in
    let t = c.in-Some-unruled_start.ensures.some in
    inr (λ lines a. inr (read_start lines c.args.rules.now c.args.known.now (bytes_of c.in_ok-lefts.lefts) c.deref.result.now c.deref-2.result.now c.in-Some-unruled_start.line t.0 a c.deref.ensures.value s c.deref-2.ensures.value c.in_default.ensures t.1 t.2 t.3))

pub returns-clause-ruled : goal.returns-clause-ruled
returns-clause-ruled c =
    let s : SameNames (bytes_of c.in_ok-lefts.lefts) (lefts_of (map rule_of c.deref.result.now)) = record { all = c.in_ok-lefts.ensures.all; only = c.in_ok-lefts.ensures.only } in
    λ lines a. (
      read_ruled lines c.args.rules.now c.args.known.now (bytes_of c.in_ok-lefts.lefts) c.deref.result.now c.deref-2.result.now a c.deref.ensures.value s c.deref-2.ensures.value c.in_default.ensures,
      read_no_start lines c.args.rules.now c.args.known.now (bytes_of c.in_ok-lefts.lefts) c.deref.result.now a c.deref.ensures.value s c.in-None.ensures.none,
    )
