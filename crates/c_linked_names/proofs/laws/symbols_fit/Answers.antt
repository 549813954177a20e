use Rattle.c_typing_steps.proofs.lemmas.Laws.{step_laws}
use Rattle.c_linked_names.proofs.lemmas.Different.{unit_names_differ}
use Rattle.c_linked_names.proofs.lemmas.Externals.{unit_symbols_fit}
use Rattle.c_linked_names.proofs.laws.symbols_fit.Goals as goal

pub returns-clause-symbols : goal.returns-clause-symbols
returns-clause-symbols c =
    unit_symbols_fit
    (record { itself = c.compatible_types_are_mutual.ensures.itself; either = c.compatible_types_are_mutual.ensures.either; others = c.composites_are_compatible.ensures.others }) step_laws

pub returns-clause-names : goal.returns-clause-names
returns-clause-names c =
    unit_names_differ
    (record { itself = c.compatible_types_are_mutual.ensures.itself; either = c.compatible_types_are_mutual.ensures.either; others = c.composites_are_compatible.ensures.others }) step_laws
