use Rattle.std.proofs.Common.{◌≡◌, ℕ, ◌∙◌, refl, sym, ap, List, Option, None, Some}
use Rattle.std.specs.Prelude.{IfNone, slice_get}
use Rattle.lcc_text.specs.Names.{bytes_of}
use Rattle.lburg_model.specs.declared.terminal.Terminal.{Terminal}
use Rattle.lburg_trees.specs.UnknownOp.{IsNamed}
use Rattle.lburg_trees.proofs.Heads.{name_at, name_known, name_unknown}
use Rattle.lburg_trees.proofs.tree_reader.operator.Goals as goal

if_none : (o : Option ℕ) (P : Type 0) → o ≡ None → P → IfNone o P
if_none None P e p = p
if_none (Some n) P e p = tt

pub returns-then-is_named-clause-some : goal.returns-then-is_named-clause-some
returns-then-is_named-clause-some c =
    let d = c.args.d.now in
    let place = c.guess-guess.result in
    let (t, at, named) = c.if-is_named.ensures.named refl in
    (t, name_at d c.args.name.now place t (ap (λ (l : List Terminal). slice_get l place) (sym c.terminals-terminals.ensures.value) ∙ at) named)

pub returns-in_err-place-clause-none : goal.returns-in_err-place-clause-none
returns-in_err-place-clause-none c =
    if_none c.from_residual.result ((op : ℕ) (t : Terminal) → IsNamed c.args.d.now op t c.args.name.now → ⊥) c.from_residual.ensures
    (λ op t h. name_unknown c.args.d.now (bytes_of c.args.names.now.set) c.args.name.now op t c.requires (sym c.find.ensures ∙ c.in_err-place.was) h)

pub returns-clause-some : goal.returns-clause-some
returns-clause-some c = name_known c.args.d.now (bytes_of c.args.names.now.set) c.args.name.now c.in_ok-place.place c.requires (sym c.find.ensures ∙ c.in_ok-place.was)
