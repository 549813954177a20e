use Rattle.std.proofs.Common.{◌≡◌, ◌++◌, ◌∷◌, [], List, ℕ, sym, ap, subst, ◌∙◌}
use Rattle.std.specs.Prelude.{None}
use Rattle.indexmap.proofs.CallerLemmas.{insert_entry-new}
use Rattle.c_symbols.specs.Scoping.{symbol_named}
use Rattle.c_symbols.specs.Entries.{names_in}
use Rattle.c_symbols.proofs.Naming.{named_entries, names_push}
use Rattle.c_symbols.proofs.scope.Scope.add.Goals as goal

pub returns-clause-ok : goal.returns-clause-ok
returns-clause-ok c =
    let m = c.self.inside.names in
    let v = c.extend_from_slice.new.self in
    let name = c.args.name.now in
    let i : v.items ≡ name = c.in_ok-extend_from_slice.ensures.items ∙ ap (λ (xs : List ℕ). xs ++ name) c.new-copy.ensures.items in
    let s : symbol_named (names_in m.entries) name ≡ None = subst (λ (t : List (List ℕ × ℕ)). symbol_named t name ≡ None) (sym c.self.view_is) c.requires in
    let a = named_entries m.entries v.items ∙ ap (symbol_named (names_in m.entries)) i ∙ s in
    ap names_in (c.in_ok-insert.ensures.entries ∙ insert_entry-new _ m v c.args.id a) ∙ names_push m.entries v c.args.id
    ∙ ap (λ (n : List ℕ). names_in m.entries ++ (n, c.args.id) ∷ []) i ∙ ap (λ (t : List (List ℕ × ℕ)). t ++ (name, c.args.id) ∷ []) c.self.view_is
