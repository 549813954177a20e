use Rattle.std.proofs.Common.{◌≡◌, List, ℕ, ap, subst, ◌∙◌}
use Rattle.std.specs.Prelude.{Option, unwrap_or}
use Rattle.c_meaning.specs.Declarations.{or_zero}
use Rattle.c_units.specs.Functions.{place_in}
use Rattle.c_wholes.proofs.OnceLists.{text_at}
use Rattle.c_wholes.proofs.texts.Texts.place.Goals as goal

pub returns : goal.returns
returns c =
    subst (λ (ts : List (List ℕ)). c.unwrap_or.result ≡ or_zero (place_in ts c.args.text.now)) c.self.view_is
    (c.unwrap_or.ensures ∙ ap (λ (o : Option ℕ). unwrap_or o 0) c.get_index_of.ensures.index ∙ text_at c.self.inside.texts.keys c.args.text.now)
