use Rattle.std.proofs.Common.{◌≡◌, ◌<◌, List, ℕ, Some, false, true, length, sym, ap, subst, ◌∙◌}
use Rattle.std.specs.Prelude.{slice_get}
use Rattle.c_symbols.proofs.Naming.{name_at, names_length}
use Rattle.c_symbols.proofs.scope.Scope.entry.Goals as goal

pub unreachable-requires : goal.unreachable-requires
unreachable-requires c =
    let es = c.self.inside.names.entries in
    let l : c.args.place < length es = subst (λ (n : ℕ). c.args.place < n) (ap (λ (s : List (List ℕ × ℕ)). length s) (sym c.self.view_is) ∙ names_length es) c.requires in
    let e : false ≡ true = c.in-None.ensures.found.1 l in cc

pub returns : goal.returns
returns c =
    let es = c.self.inside.names.entries in
    let name = c.in-Some.name.now in
    subst (λ (s : List (List ℕ × ℕ)). slice_get s c.args.place ≡ Some (c.as_slice.result.now, c.in-Some.id.now)) c.self.view_is
    (name_at es c.args.place name c.in-Some.id.now c.in-Some.ensures.entry ∙ ap (λ (n : List ℕ). Some (n, c.in-Some.id.now)) (sym c.as_slice.ensures.value))
