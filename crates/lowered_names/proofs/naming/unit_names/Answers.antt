use Rattle.std.specs.Prelude.{ℕ, List, ◌++◌, length, map}
use Rattle.std.proofs.Common.{ap, subst, ◌∙◌, arith}
use Rattle.c_types.specs.Table.{types}
use Rattle.c_meaning.specs.declared.core_unit.CoreFunction.{CoreFunction}
use Rattle.c_meaning.specs.declared.core_unit.CoreObject.{CoreObject}
use Rattle.c_worlds.specs.BuiltIns.{numbered_built_ins}
use Rattle.c_worlds.specs.Programs.{unit_of}
use Rattle.lowered_names.specs.UnitNames.{AreAdded}
use Rattle.lowered_names.proofs.lemmas.Apart.{unit_names_distinct, unit_names_are_names}
use Rattle.lowered_names.proofs.lemmas.Building.{names_seen, built_ins_seen, names_made}
use Rattle.lowered_names.proofs.naming.unit_names.Goals as goal

pub returns-clause-names : goal.returns-clause-names
returns-clause-names c =
    let core = c.args.program.now.core.now in
    let fs = c.functions.result.now in
    let os = c.objects.result.now in
    names_made (unit_of c.args.program.now) c.args.tables (length c.texts.result.now) (map (λ (f : CoreFunction). f.name) fs) (map (λ (o : CoreObject). o.name) os) c.add_functions.new.all c.add_objects.new.all c.add_numbered.new.all c.add_built_ins.new.all c.add_numbered-2.new.all
    (numbered_built_ins c.args.program.now.names)
    (ap (λ (l : List CoreFunction). map (λ (f : CoreFunction). f.name) l ++ map (λ (o : CoreObject). o.name) os) c.functions.ensures.value ∙ ap (λ (l : List CoreObject). map (λ (f : CoreFunction). f.name) core.functions ++ map (λ (o : CoreObject). o.name) l) c.objects.ensures.value ∙ names_seen (types core.types) core.functions core.objects)
    (ap (λ (l : List (List ℕ)). length l) c.texts.ensures.value)
    (built_ins_seen (unit_of c.args.program.now) c.args.program.now.names c.requires)
    (subst (λ (l : List (List ℕ)). AreAdded (map (λ (f : CoreFunction). f.name) fs) l c.add_functions.new.all) c.new-all.ensures c.in_ok-add_functions.ensures)
    c.in_ok-add_objects.ensures c.in_ok-add_numbered.ensures c.in_ok-add_built_ins.ensures c.in_ok-add_numbered-2.ensures

pub returns-clause-distinct : goal.returns-clause-distinct
returns-clause-distinct c = unit_names_distinct (unit_of c.args.program.now) c.args.tables c.add_numbered-2.new.all c.functions.ensures.is.unit (let f = c.ranges.tables in omega (arith, f)) (returns-clause-names c)

pub returns-clause-each : goal.returns-clause-each
returns-clause-each c = unit_names_are_names (unit_of c.args.program.now) c.args.tables c.add_numbered-2.new.all c.functions.ensures.is.unit (let f = c.ranges.tables in omega (arith, f)) (returns-clause-names c)
