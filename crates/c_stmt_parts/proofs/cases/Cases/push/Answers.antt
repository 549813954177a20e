use Rattle.std.proofs.Common.{◌≡◌, ◌++◌, ◌∷◌, [], List, sym, ap, subst, ◌∙◌}
use Rattle.std.specs.Prelude.{false}
use Rattle.indexmap.proofs.CallerLemmas.{insert_entry-new}
use Rattle.c_meaning.specs.declared.core_stmt.CoreCase.{CoreCase}
use Rattle.c_meaning.specs.Units.{is_among, numbers}
use Rattle.c_stmt_parts.specs.CaseLists.{cases_in}
use Rattle.c_stmt_parts.proofs.CaseNumbers.{cases_push, not_among}
use Rattle.c_stmt_parts.proofs.cases.Cases.push.Goals as goal

pub returns : goal.returns
returns c =
    let m = c.self.inside.labels in
    let n = c.args.number in
    let l = c.args.label in
    let a : is_among n (numbers (cases_in m.entries)) ≡ false = subst (λ (cs : List CoreCase). is_among n (numbers cs) ≡ false) (sym c.self.view_is) c.requires in
    ap cases_in (c.in_ok-insert.ensures.entries ∙ insert_entry-new _ m n l (not_among m.entries n a)) ∙ cases_push m.entries n l
    ∙ ap (λ (cs : List CoreCase). cs ++ record { number = n; label = l } ∷ []) c.self.view_is
