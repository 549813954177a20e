use Rattle.std.proofs.Common.{sym, ap, subst, ◌∙◌, List, ◌++◌, ◌∷◌, []}
use Rattle.std.proofs.lemmas.List.Elements.{All-push, All-same}
use Rattle.asm_text.specs.Addresses.{IsAddressable}
use Rattle.asm_text.specs.Made.{label_at}
use Rattle.asm_text.specs.Makes.{label_names, IsNew}
use Rattle.asm_text.specs.Program.{MLabel}
use Rattle.asm_text.proofs.Entries.{Labelled, entries_more, known_at, new_at, labels_more}
use Rattle.asm_text.proofs.labels.Labels.add.Goals as goal

pub returns-then-contains_key-clause-known : goal.returns-then-contains_key-clause-known
returns-then-contains_key-clause-known c =
    λ e h. known_at c.args.name.now c.self.inside.places.entries (sym c.contains_key.ensures ∙ c.if-contains_key.true) (let P : List MLabel → Type 0 = λ ls. IsNew (label_names ls) c.args.name.now in subst P (sym c.self.view_is) h)

pub invariant_of-self-2 : goal.invariant_of-self-2
invariant_of-self-2 c =
    let P : Labelled → Type 0 = λ e. IsAddressable e.1 in
    let old = c.self.inside.places.entries in
    let e = entries_more c.self.inside.places c.insert.new.self.entries c.args.name c.args.at (sym c.contains_key.ensures ∙ c.if-contains_key.false) c.in_ok-insert.ensures.entries in
    All-same P c.insert.new.self.entries (old ++ (c.args.name, c.args.at) ∷ []) e (All-push P old (c.args.name, c.args.at) c.self.invariant c.requires)

pub returns-clause-added : goal.returns-clause-added
returns-clause-added c =
    let old = c.self.inside.places.entries in
    let none = sym c.contains_key.ensures ∙ c.if-contains_key.false in
    let e = entries_more c.self.inside.places c.insert.new.self.entries c.args.name c.args.at none c.in_ok-insert.ensures.entries in
    λ _. (let P : List MLabel → Type 0 = λ ls. IsNew (label_names ls) c.args.name.now in subst P c.self.view_is (new_at c.args.name.now old none), labels_more old c.insert.new.self.entries c.args.name c.args.at e ∙ ap (λ ls. ls ++ label_at c.args.at c.args.name.now ∷ []) c.self.view_is)
