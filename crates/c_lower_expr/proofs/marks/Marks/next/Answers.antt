use Rattle.std.proofs.Common.{◌∷◌, drop, sym, ap, ◌∙◌}
use Rattle.std.proofs.lemmas.List.{drop-drop}
use Rattle.c_lower_expr.proofs.marks.Marks.next.Goals as goal

pub returns : goal.returns
returns c = c.in_ok-mark.ensures ∙ ap (λ xs. c.in_ok-mark.mark ∷ xs) (ap (λ xs. drop 1 xs) (sym c.self.view_is) ∙ drop-drop 1 c.self.inside.used c.self.inside.marks.items)
