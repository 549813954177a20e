use Rattle.std.specs.Prelude.{◌+◌, List, get_or}
use Rattle.std.proofs.Common.{arith, ap, drop, map, refl, sym, ◌∙◌, subst}
use Rattle.std.proofs.lemmas.List.{get_or_default}
use Rattle.dag_forest.specs.declared.entry.Entry.{Entry}
use Rattle.c_types.specs.Table.{Table, tags, type_at}
use Rattle.lowered_statements.specs.Layouts.{is_narrow}
use Rattle.lowering_acts.specs.Sites.{type_in}
use Rattle.statement_steps.specs.Functions.{function_of}
use Rattle.statement_steps.proofs.lemmas.Storing.{StoresLeft, stores_begin, stores_narrow, stores_none}
use Rattle.statement_steps.proofs.parameters.store_parameters.Goals.{then-is_narrow+in_ok-store_parameter, else-is_narrow}
use Rattle.statement_steps.proofs.parameters.store_parameters.Goals as goal

pub loop-of-init : goal.loop-of-init
loop-of-init c = stores_begin (function_of c.args.f.now) c.args.first (map (type_in c.args.f.now.site) c.args.parameters.now) c.args.block.now

pub loop-of-preserved : goal.loop-of-preserved
loop-of-preserved c =
    let f = function_of c.args.f.now in
    let type = type_in c.args.f.now.site in
    let ids = c.args.parameters.now in
    let i = c.loop-of.of-index in
    let id = get_or ids i 0 in
    let old = c.args.block.now in
    let m = c.in_ok-place.place in
    let w = c.in_ok-word.word in
    let left = λ (es : List Entry). StoresLeft f c.args.first (map type ids) old m w (map type (drop (i + 1) ids)) es in
    let narrow = sym (ap (λ (t : Table). is_narrow (tags t) (type_at t id)) c.types-types.ensures) ∙ sym c.is_narrow.ensures in
    elim c.if-is_narrow.branch [
      | then-is_narrow+in_ok-store_parameter x ↦
          subst left (sym x.block-is)
          (stores_narrow type f c.args.first ids old c.loop-of.place c.loop-of.word m w i id c.loop-of.block x.store_parameter.new.block c.loop-of-test.true (get_or_default ids i 0 id c.loop-of-test.true) (omega (arith, c.in_ok-place.ensures)) (omega (arith, c.in_ok-word.ensures)) c.loop-of.invariant
          (narrow ∙ x.if-is_narrow.true) x.in_ok-store_parameter.ensures)
      | else-is_narrow x ↦
          subst left (sym x.block-is)
          (stores_none type f c.args.first ids old c.loop-of.place c.loop-of.word m w i id c.loop-of.block c.loop-of.block c.loop-of-test.true (get_or_default ids i 0 id c.loop-of-test.true) (omega (arith, c.in_ok-place.ensures)) (omega (arith, c.in_ok-word.ensures)) c.loop-of.invariant
          (narrow ∙ x.if-is_narrow.false) refl)
    ]
