use Rattle.std.specs.Prelude.{◌≡◌, false}
use Rattle.std.proofs.Common.{subst}
use Rattle.c_types.specs.CType.{Array, CType}
use Rattle.c_types.specs.Table.{Table, type_at}
use Rattle.c_meaning.specs.Types.{is_array}
use Rattle.c_meaning.specs.StmtTrees.{filled_of, place_seen}
use Rattle.lowering_acts.specs.Sites.{type_in}
use Rattle.lowering_steps.specs.Operands.{typed_of}
use Rattle.statement_steps.specs.Functions.{function_of}
use Rattle.statement_steps.proofs.lemmas.Filling.{fills_array, fills_other}
use Rattle.statement_steps.proofs.filling.fill_place.Goals as goal

pub returns-in-Some : goal.returns-in-Some
returns-in-Some c =
    fills_array c.fill_array.result (function_of c.args.f.now) (typed_of c.args.base) (typed_of c.args.value) (place_seen (type_in c.args.f.now.site) (filled_of c.args.place.now)) c.in-Some.count c.args.into.now c.fill_array.new.into (subst (λ (t : Table). (of : CType) × (type_at t c.args.place.now.at.of ≡ Array of c.in-Some.count)) c.types-types.ensures c.in-Some.ensures.some) c.fill_array.ensures

pub returns-in-None : goal.returns-in-None
returns-in-None c =
    fills_other c.fill_other.result (function_of c.args.f.now) (typed_of c.args.base) (typed_of c.args.value) (place_seen (type_in c.args.f.now.site) (filled_of c.args.place.now)) c.args.into.now c.fill_other.new.block (subst (λ (t : Table). is_array (type_at t c.args.place.now.at.of) ≡ false) c.types-types.ensures c.in-None.ensures.none) c.fill_other.ensures
