use Rattle.std.proofs.Common.{◌≡◌, ◌++◌, ◌∷◌, [], List, ℕ, false, Some, length, map, sym, ap, subst, ◌∙◌}
use Rattle.std.specs.Prelude.{slice_get}
use Rattle.names_in_force.specs.Stacked.{Stacked}
use Rattle.names_in_force.specs.Numbered.{Known, names_in, named, AreNumbered}
use Rattle.names_in_force.proofs.Looks.{place_is, entered}
use Rattle.names_in_force.proofs.Numbering.{named_new, numbered_new, name_new}
use Rattle.names_in_force.proofs.bindings.Bindings.number.Goals as goal

pub returns-in-Some-clause-number : goal.returns-in-Some-clause-number
returns-in-Some-clause-number c =
    subst (λ (s : Stacked). slice_get s.names c.in-Some.number ≡ Some c.args.name.now) c.self.view_is
    (place_is c.self.inside.known.entries c.args.name.now c.in-Some.number (sym c.in-Some.ensures.index) c.in-Some.ensures.within)

is_name : (c : goal.In_ok-insert) → c.extend_from_slice.new.self.items ≡ c.args.name.now
is_name c = c.in_ok-extend_from_slice.ensures.items ∙ ap (λ (xs : List ℕ). xs ++ c.args.name.now) c.new-copy.ensures.items

entries : (c : goal.In_ok-insert) → c.insert.new.self.entries ≡ c.self.inside.known.entries ++ (c.extend_from_slice.new.self, false) ∷ []
entries c = c.in_ok-insert.ensures.entries ∙ entered c.self.inside.known c.extend_from_slice.new.self c.args.name.now (is_name c) c.in_default.ensures.found

pub invariant_of-self-2 : goal.invariant_of-self-2
invariant_of-self-2 c =
    let i = c.self.inside in
    subst (λ (es : Known). AreNumbered es i.bound.items i.kept.items) (sym (entries c)) (numbered_new i.known.entries c.extend_from_slice.new.self i.bound.items i.kept.items c.self.invariant)

pub returns-clause-number : goal.returns-clause-number
returns-clause-number c =
    let known = c.self.inside.known.entries in
    ap (λ (n : ℕ). slice_get (names_in c.insert.new.self.entries) n) c.len-number.ensures.len
    ∙ ap (λ (es : Known). slice_get (names_in es) (length known)) (entries c)
    ∙ name_new known c.extend_from_slice.new.self
    ∙ ap (λ (n : List ℕ). Some n) (is_name c)

pub returns-clause-bound : goal.returns-clause-bound
returns-clause-bound c =
    let i = c.self.inside in
    ap (λ (es : Known). map (named (names_in es)) i.bound.items) (entries c)
    ∙ named_new i.known.entries c.extend_from_slice.new.self i.bound.items c.self.invariant.of_bound
    ∙ ap (λ (s : Stacked). s.bound) c.self.view_is

pub returns-clause-kept : goal.returns-clause-kept
returns-clause-kept c =
    let i = c.self.inside in
    ap (λ (es : Known). map (named (names_in es)) i.kept.items) (entries c)
    ∙ named_new i.known.entries c.extend_from_slice.new.self i.kept.items c.self.invariant.of_kept
    ∙ ap (λ (s : Stacked). s.kept) c.self.view_is
