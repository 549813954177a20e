use Rattle.std.proofs.Common.{◌≡◌, ◌++◌, ◌∷◌, [], List, ℕ, length, sym, ap, subst, ◌∙◌}
use Rattle.std.specs.Prelude.{None}
use Rattle.c_symbols.specs.Meanings.{IsAt, MeanTheSame, Meant, meaning, meant_in}
use Rattle.c_symbols.proofs.Meaning.{entered, looked_up, looked_none, new_at, new_same, position_at}
use Rattle.c_symbols.proofs.meanings.Meanings.hide.Goals as goal

pub returns-in-Some-clause-place : goal.returns-in-Some-clause-place
returns-in-Some-clause-place c =
    subst (λ (m : Meant). IsAt m c.args.name.now c.in-Some.place) c.self.view_is
    (position_at c.self.inside.names.entries c.args.name.now c.in-Some.place c.in-Some.ensures.within (sym c.in-Some.ensures.index))

pub returns-in-Some-clause-before : goal.returns-in-Some-clause-before
returns-in-Some-clause-before c =
    subst (λ (m : Meant). c.index-before.result.now ≡ meaning m c.args.name.now) c.self.view_is
    (looked_up c.self.inside.names.entries c.args.name.now c.index-before.result.now (sym c.index-before.ensures ∙ c.in-Some.ensures.value))

is_name : (c : goal.In_ok-insert) → c.extend_from_slice.new.self.items ≡ c.args.name.now
is_name c = c.in_ok-extend_from_slice.ensures.items ∙ ap (λ (xs : List ℕ). xs ++ c.args.name.now) c.new-copy.ensures.items

entries : (c : goal.In_ok-insert) → c.insert.new.self.entries ≡ c.self.inside.names.entries ++ (c.extend_from_slice.new.self, None) ∷ []
entries c = c.in_ok-insert.ensures.entries ∙ (entered c.self.inside.names c.extend_from_slice.new.self c.args.name.now (is_name c) c.in_default.ensures.found).0

pub returns-clause-place : goal.returns-clause-place
returns-clause-place c =
    let es = c.self.inside.names.entries in
    let v = c.extend_from_slice.new.self in
    let a = new_at es v (entered c.self.inside.names v c.args.name.now (is_name c) c.in_default.ensures.found).1 in
    let b = subst (λ (n : List ℕ). IsAt (meant_in (es ++ (v, None) ∷ [])) n (length es)) (is_name c) a in
    subst (λ (i : ℕ). IsAt (meant_in c.insert.new.self.entries) c.args.name.now i) (sym c.len-place.ensures.len)
    (subst (λ (m : Meant). IsAt m c.args.name.now (length es)) (ap meant_in (sym (entries c))) b)

pub returns-clause-before : goal.returns-clause-before
returns-clause-before c =
    let v = c.extend_from_slice.new.self in
    let a = (entered c.self.inside.names v c.args.name.now (is_name c) c.in_default.ensures.found).1 in
    subst (λ (m : Meant). None ≡ meaning m c.args.name.now) c.self.view_is
    (subst (λ (n : List ℕ). None ≡ meaning (meant_in c.self.inside.names.entries) n) (is_name c) (looked_none c.self.inside.names.entries v.items (sym a)))

pub returns-clause-same : goal.returns-clause-same
returns-clause-same c =
    let new = meant_in c.insert.new.self.entries in
    subst (λ (m : Meant). MeanTheSame m new) c.self.view_is
    (subst (MeanTheSame (meant_in c.self.inside.names.entries)) (ap meant_in (sym (entries c))) (new_same c.self.inside.names.entries c.extend_from_slice.new.self))
