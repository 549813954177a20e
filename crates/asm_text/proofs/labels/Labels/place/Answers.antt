use Rattle.std.proofs.Common.{Option, sym, ap, subst, ◌∙◌}
use Rattle.std.specs.Prelude.{IfSome}
use Rattle.std.proofs.lemmas.Map.Entries.{All-lookup}
use Rattle.asm_text.specs.declared.place.Place.{Place}
use Rattle.asm_text.specs.Addresses.{IsAddressable}
use Rattle.asm_text.specs.Program.{place_of}
use Rattle.asm_text.proofs.Entries.{is_key, place_at}
use Rattle.asm_text.proofs.labels.Labels.place.Goals as goal

pub returns-clause-place : goal.returns-clause-place
returns-clause-place c =
    let name = c.args.name.now in
    c.copied.ensures ∙ c.get.ensures.value ∙ place_at name c.self.inside.places.entries ∙ ap (λ ls. place_of ls name) c.self.view_is

pub returns-clause-within : goal.returns-clause-within
returns-clause-within c =
    let P : Option Place → Type 0 = λ o. IfSome o IsAddressable in
    subst P (sym (c.copied.ensures ∙ c.get.ensures.value)) (All-lookup IsAddressable (is_key c.args.name.now) c.self.inside.places.entries c.self.invariant)
