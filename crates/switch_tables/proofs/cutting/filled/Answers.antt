use Rattle.std.proofs.Common.{rules, ◌≡◌, ◌+◌, length, take, get_or, set, replicate, sym, ap, ◌∙◌, arith}
use Rattle.c_meaning.specs.declared.core_stmt.CoreCase.{CoreCase}
use Rattle.switch_tables.specs.Cuts.{offset}
use Rattle.switch_tables.specs.Tables.{first_number, last_number, labels_from}
use Rattle.switch_tables.proofs.lemmas.Labels.{labels_from_none, length-labels_from}
use Rattle.switch_tables.proofs.lemmas.Filling.{filled_more, is_within}
use Rattle.switch_tables.proofs.cutting.filled.Goals as goal

pub loop-case-init : goal.loop-case-init
loop-case-init c =
    let all : c.in_ok-labels.labels.items ≡ replicate (c.place_in-room.result + 1) c.args.default = search rules in
    all ∙ sym (labels_from_none c.args.default c.first_of-low.result (c.place_in-room.result + 1))

pub index_mut-requires : goal.index_mut-requires
index_mut-requires c =
    let cases = c.args.cases.now in
    let i = c.loop-case.case-index in
    let x = get_or c.args.cases.now c.loop-case.case-index (record { number = 0; label = 0 }) in
    let within = is_within c.requires.rising.0 c.args.cases.now c.loop-case.case-index (record { number = 0; label = 0 }) c.requires.words c.requires.rising.1 c.loop-case-test.true in
    let count = ap length c.loop-case.invariant ∙ length-labels_from (take c.loop-case.case-index c.args.cases.now) c.args.default c.first_of-low.result (c.place_in-room.result + 1) in
    let place = c.place_in.ensures.value ∙ ap (λ l. offset l x.number) c.first_of-low.ensures in
    let room = c.place_in-room.ensures.value ∙ (ap (λ l. offset l c.last_of.result) c.first_of-low.ensures ∙ ap (offset (first_number cases)) c.last_of.ensures) in
    omega arith

pub loop-case-preserved : goal.loop-case-preserved
loop-case-preserved c =
    let cases = c.args.cases.now in
    let i = c.loop-case.case-index in
    let d : CoreCase = record { number = 0; label = 0 } in
    let x = get_or cases i d in
    let default = c.args.default in
    let low = c.first_of-low.ensures in
    let place = c.place_in.ensures.value ∙ ap (λ l. offset l x.number) low in
    let room = c.place_in-room.ensures.value ∙ (ap (λ l. offset l c.last_of.result) low ∙ ap (offset (first_number cases)) c.last_of.ensures) in
    let all = offset (first_number cases) (last_number cases) + 1 in
    ap (λ ls. set ls c.place_in.result x.label) c.loop-case.invariant
    ∙ (ap (λ p. set (labels_from (take i cases) default c.first_of-low.result (c.place_in-room.result + 1)) p x.label) place
    ∙ (ap (λ r. set (labels_from (take i cases) default c.first_of-low.result (r + 1)) (offset (first_number cases) x.number) x.label) room
    ∙ (ap (λ l. set (labels_from (take i cases) default l all) (offset (first_number cases) x.number) x.label) low
    ∙ (filled_more c.requires.rising.0 cases default i d c.requires.words c.requires.rising.1 c.loop-case-test.true
    ∙ sym (ap (λ r. labels_from (take (i + 1) cases) default c.first_of-low.result (r + 1)) room ∙ ap (λ l. labels_from (take (i + 1) cases) default l all) low)))))
