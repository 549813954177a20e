use Rattle.std.proofs.Common.{◌≡◌, ◌+◌, ◌∙◌, List, ◌++◌, length, refl, ap, sym}
use Rattle.std.specs.Prelude.{slice_get}
use Rattle.std.proofs.lemmas.List.{take-append-drop}
use Rattle.std.proofs.lemmas.Option.{slice_get_read}
use Rattle.lcc_text.specs.Names.{bytes_of}
use Rattle.lburg_model.specs.declared.terminal.Terminal.{Terminal}
use Rattle.lburg_trees.proofs.KnownNames.{named_front, name_longer}
use Rattle.lburg_trees.proofs.plain_tree.spelled_head.Goals as goal

pub returns-clause-found : goal.returns-clause-found
returns-clause-found c =
    let d = c.args.d.now in
    let t = c.index-terminals-place.result in
    let place = c.in_ok-place.place in
    let bytes = c.args.bytes.now in
    let there = slice_get_read c.terminals-terminals.result.now (length c.terminals-terminals.result.now) place t refl c.if-prove.false c.index-terminals-place.is in
    let parts : bytes ≡ c.split_at.result.0.now ++ c.split_at.result.1.now = sym (take-append-drop c.run_len.result bytes) ∙ (λ i. sym c.split_at.ensures.front i ++ sym c.split_at.ensures.back i) in
    named_front d (bytes_of c.args.names.now.set) bytes c.split_at.result.1.now c.split_at.result.0.now place c.in_ok-arity.arity t c.requires (sym c.find.ensures ∙ c.in_ok-place.was) (ap (λ (z : List Terminal). slice_get z place) (sym c.terminals-terminals.ensures.value) ∙ there) c.in_ok-arity.was parts

pub returns-clause-shorter : goal.returns-clause-shorter
returns-clause-shorter c = name_longer c.args.d.now c.args.bytes.now c.split_at.result.1.now (c.in_ok-place.place + 1) c.in_ok-arity.arity c.terminals-terminals.ensures.is (returns-clause-found c)
