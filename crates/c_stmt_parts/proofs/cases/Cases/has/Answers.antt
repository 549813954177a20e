use Rattle.std.proofs.Common.{◌≡◌, List, sym, ap, subst, ◌∙◌}
use Rattle.std.specs.Prelude.{is_some}
use Rattle.c_meaning.specs.declared.core_stmt.CoreCase.{CoreCase}
use Rattle.c_meaning.specs.Units.{is_among, numbers}
use Rattle.c_stmt_parts.proofs.CaseNumbers.{among_entries, some_copied}
use Rattle.c_stmt_parts.proofs.cases.Cases.has.Goals as goal

pub returns : goal.returns
returns c =
    subst (λ (cs : List CoreCase). c.is_some.result ≡ is_among c.args.number (numbers cs)) c.self.view_is
    (c.is_some.ensures ∙ sym (some_copied c.get.result) ∙ ap is_some c.get.ensures.value ∙ among_entries c.self.inside.labels.entries c.args.number)
