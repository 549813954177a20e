use Rattle.std.proofs.Common.{ap, sym, ◌∙◌}
use Rattle.std.proofs.lemmas.Result.{on_ok_weaker}
use Rattle.c_types.specs.CType.{Array}
use Rattle.c_meaning.specs.CoreTrees.{what_of}
use Rattle.c_meaning.specs.StmtTrees.{filled_of, place_seen}
use Rattle.lowering_acts.specs.Sites.{type_in}
use Rattle.lowering_steps.specs.Operands.{typed_of}
use Rattle.statement_steps.specs.Functions.{function_of}
use Rattle.statement_steps.proofs.lemmas.Filling.{fills_no_room, fills_no_text, fills_text, text_seen}
use Rattle.statement_steps.proofs.filling.fill_array.Goals as goal

pub returns-in_default : goal.returns-in_default
returns-in_default c =
    let p = place_seen (type_in c.args.f.now.site) (filled_of c.args.place.now) in
    λ of e. fills_no_room (function_of c.args.f.now) (typed_of c.args.base) p.offset p.of of (what_of p.value) c.args.into.now (e ∙ ap (Array of) c.in_default.is)

pub returns-in-Some-text_in : goal.returns-in-Some-text_in
returns-in-Some-text_in c =
    let p = place_seen (type_in c.args.f.now.site) (filled_of c.args.place.now) in
    on_ok_weaker c.fill_text.result (λ h of e.
    fills_text (function_of c.args.f.now) (typed_of c.args.base) p.offset c.in-Some.room c.in-Some-text_in.n p.of of (what_of p.value) c.args.into.now c.fill_text.new.into (e ∙ ap (Array of) c.in-Some.is) (text_seen (type_in c.args.f.now.site) c.args.place.now.value ∙ sym c.text_in.ensures ∙ c.in-Some-text_in.is) h) c.fill_text.ensures

pub returns-in-None : goal.returns-in-None
returns-in-None c =
    let p = place_seen (type_in c.args.f.now.site) (filled_of c.args.place.now) in
    λ of e. fills_no_text (function_of c.args.f.now) (typed_of c.args.base) p.offset c.in-Some.room p.of of (what_of p.value) c.args.into.now (e ∙ ap (Array of) c.in-Some.is) (text_seen (type_in c.args.f.now.site) c.args.place.now.value ∙ sym c.text_in.ensures ∙ c.in-None.is)
