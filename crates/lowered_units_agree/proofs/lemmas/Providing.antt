-- The numbers of built-in functions that a unit doesn't define stand for these.
use Rattle.std.specs.Prelude.{ℕ, Option, None}
use Rattle.std.proofs.Common.{ap, ◌∙◌, arith}
use Rattle.std.proofs.lemmas.Option.{slice_get_within}
use Rattle.op_forest.specs.declared.lowered.LoweredFunction.{LoweredFunction}
use Rattle.op_forest.specs.Callees as callee
use Rattle.op_forest.specs.Units.{built_in_named, callee_by, object_place}
use Rattle.c_meaning.specs.declared.built_in.BuiltIn.{BuiltIn}
use Rattle.c_runs.specs.Calls.{built_ins}
use Rattle.lowered_data.proofs.lemmas.Numbering.{no_function, no_object}
use Rattle.lowered_units_agree.specs.Laws.{BuiltInsAreProvided}
use Rattle.lowered_units_agree.proofs.lemmas.Numbering.{built_in_there, is_built_in, names_numbered}

pub built_ins_provided : BuiltInsAreProvided
built_ins_provided u order l i n b e =
    let a = names_numbered u order l i in
    let h = is_built_in u n b e in
    let at = h.number in
    let less = slice_get_within (built_ins u) h.place b h.there in
    ap (λ (o : Option LoweredFunction). callee_by o (object_place l n) (built_in_named l n)) (no_function u l a n (omega (arith, at)))
    ∙ ap (λ (o : Option ℕ). callee_by None o (built_in_named l n)) (no_object u l a n (omega (arith, at)) (omega (arith, at, less)))
    ∙ ap (λ (o : Option callee.BuiltIn). callee_by None None o) (built_in_there u order l i n b e)
