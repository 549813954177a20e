use Rattle.std.proofs.Common.{◌≡◌, ◌∙◌, ℕ, ◌+◌, false, true, ap, sym, subst, List, ◌∷◌, length}
use Rattle.std.proofs.lemmas.List.{length-map}
use Rattle.std.proofs.lemmas.Result.{err_from_is_err_and}
use Rattle.lburg_lines.specs.declared.token.Sign.TheVariants.{Close, Comma}
use Rattle.lburg_lines.specs.declared.token.Token.{Token}
use Rattle.lburg_lines.specs.Tokens.{Tok, views, view, Mark}
use Rattle.lburg_model.specs.Tree.{MTree}
use Rattle.lburg_model.specs.Shape.{tree_of}
use Rattle.lburg_model.specs.Description.{MDescription}
use Rattle.lburg_trees.specs.declared.row.Row.TheVariants.{WrongArity, TooHigh}
use Rattle.lburg_trees.specs.declared.stop.Stop.{Stop}
use Rattle.lburg_trees.specs.declared.stop.Stop.TheVariants.{Fault}
use Rattle.lburg_trees.specs.Reading.{ReadsTree, StopsTree, opened}
use Rattle.lburg_trees.specs.Setting.{Before, placed}
use Rattle.lburg_trees.proofs.Operands.{as_operand}
use Rattle.lburg_trees.proofs.Heads.{leaf, leaf_differs, too_high}
use Rattle.lburg_trees.proofs.Parts.{behind_token, comma_next, close_next, first_stops, one_operand, one_differs, second_stops, both_read, two_operands, two_differs}
use Rattle.lburg_trees.proofs.tree_reader.+tree.Goals as goal

-- the place of a tree's last token, by what is left
last_token : (d : MDescription) (b : Before) (line : List Tok) (rest : List Token) (s : Stop) → s ≡ Fault WrongArity (length rest + 1) → StopsTree d b line (Fault WrongArity (length (views rest) + 1)) → StopsTree d b line s
last_token d b line rest s e h = subst (λ (z : Stop). StopsTree d b line z) (sym e) (subst (λ (k : ℕ). StopsTree d b line (Fault WrongArity (k + 1))) (length-map rest view) h)

pub tree_at-returns-in_ok-check_arity-in-Err-clause-found :
    goal.tree_at-returns-in_ok-check_arity-in-Err-clause-found
tree_at-returns-in_ok-check_arity-in-Err-clause-found t c =
    let b = placed c.args.before.opened c.args.before.names in
    let h = c.in_ok-head.head in
    let rest = views h.rest.now in
    let line = views c.args.tokens.now in
    subst (λ (z : MTree). ReadsTree c.args.d.now b line rest z) (sym (c.new-in-Err.ensures ∙ ap (tree_of h.op h.value) c.new.ensures)) (leaf c.args.d.now b line rest h.op h.value c.in_ok-head.ensures.is c.in_ok-head.ensures.found c.in-Err.ensures.no c.requires.open c.in_ok-check_arity-in-Err.ensures.ok)

pub tree_at-returns-in_err-check_arity-in-Err-clause-stops :
    goal.tree_at-returns-in_err-check_arity-in-Err-clause-stops
tree_at-returns-in_err-check_arity-in-Err-clause-stops t c =
    let b = placed c.args.before.opened c.args.before.names in
    let h = c.in_ok-head.head in
    let line = views c.args.tokens.now in
    let e = c.in_err-check_arity-in-Err.ensures.err in
    let stops = leaf_differs c.args.d.now b line (views h.rest.now) h.op h.value c.in_ok-head.ensures.found c.in-Err.ensures.no e.1 in
    let p = err_from_is_err_and c.from_residual-in_err-check_arity-in-Err.result c.from_residual-in_err-check_arity-in-Err.ensures.1 in
    rw (p.1, p.2) (last_token c.args.d.now b line h.rest.now _ e.0 stops)

pub tree_at-returns-then-before-ge-MOST_OPEN-clause-stops :
    goal.tree_at-returns-then-before-ge-MOST_OPEN-clause-stops
tree_at-returns-then-before-ge-MOST_OPEN-clause-stops t c =
    let b = placed c.args.before.opened c.args.before.names in
    let h = c.in_ok-head.head in
    subst (λ (k : ℕ). StopsTree c.args.d.now b (views c.args.tokens.now) (Fault TooHigh k)) (length-map h.rest.now view) (too_high c.args.d.now b (views c.args.tokens.now) (views h.rest.now) (views c.in-Ok.rest.now) h.op h.value c.in_ok-head.ensures.found c.in-Ok.ensures.ok c.if-before-ge-MOST_OPEN.true)

pub operands-returns-in_err-first-clause-stops : goal.operands-returns-in_err-first-clause-stops
operands-returns-in_err-first-clause-stops t c = λ n k h.
    let d = c.args.d.now in
    let b = placed c.args.before.opened c.args.before.names in
    let inside = placed (b.opened + 1) (b.names + 1) in
    let line = views c.args.head.rest.now in
    let p = err_from_is_err_and c.from_residual.result c.from_residual.ensures.1 in
    rw (p.1, p.2) (first_stops d b c.args.head.op c.args.head.value n k line _ h c.requires.open (as_operand d inside false line _ c.in_err-first.ensures.stops))

pub operands-returns-in_err-check_behind-clause-stops :
    goal.operands-returns-in_err-check_behind-clause-stops
operands-returns-in_err-check_behind-clause-stops t c = λ n k h.
    let d = c.args.d.now in
    let b = placed c.args.before.opened c.args.before.names in
    let inside = placed (b.opened + 1) (b.names + 1) in
    let line = views c.args.head.rest.now in
    let stops = c.in_err-check_behind.ensures.stops d inside line c.in_ok-first.ensures.found in
    let p = err_from_is_err_and c.from_residual-in_err-check_behind.result c.from_residual-in_err-check_behind.ensures.1 in
    rw (p.1, p.2) (first_stops d b c.args.head.op c.args.head.value n k line _ h c.requires.open stops)

pub operands-returns-in-Ok-clause-found : goal.operands-returns-in-Ok-clause-found
operands-returns-in-Ok-clause-found t c = λ n k h.
    let d = c.args.d.now in
    let b = placed c.args.before.opened c.args.before.names in
    let line = views c.args.head.rest.now in
    let op = c.args.head.op in
    let value = c.args.head.value in
    let first = c.in_ok-check_behind.ensures.found d (placed (b.opened + 1) (b.names + 1)) line c.in_ok-first.ensures.found in
    let after = views c.in-Ok.rest.now in
    let Reads : MTree → Type 0 = λ z. ReadsTree d b (opened n k line) after z in
    subst Reads (sym (c.new.ensures ∙ ap (tree_of op value) c.in_ok-kids.ensures)) (one_operand d b op value n k line (views c.in_ok-first.first.rest.now) after c.in_ok-first.first.tree c.requires.is h c.requires.open first c.in-Ok.ensures.ok c.in_ok-check_arity.ensures.ok)

pub operands-returns-in_err-check_arity-clause-stops :
    goal.operands-returns-in_err-check_arity-clause-stops
operands-returns-in_err-check_arity-clause-stops t c = λ n k h.
    let d = c.args.d.now in
    let b = placed c.args.before.opened c.args.before.names in
    let line = views c.args.head.rest.now in
    let first = c.in_ok-check_behind.ensures.found d (placed (b.opened + 1) (b.names + 1)) line c.in_ok-first.ensures.found in
    let e = c.in_err-check_arity.ensures.err in
    let stops = one_differs d b c.args.head.op c.args.head.value n k line (views c.in_ok-first.first.rest.now) (views c.in-Ok.rest.now) c.in_ok-first.first.tree c.requires.is h c.requires.open first c.in-Ok.ensures.ok e.1 in
    let p = err_from_is_err_and c.from_residual-in_err-check_arity.result c.from_residual-in_err-check_arity.ensures.1 in
    rw (p.1, p.2) (last_token d b (opened n k line) c.in-Ok.rest.now _ e.0 stops)

pub operands-returns-in_err-second-clause-stops : goal.operands-returns-in_err-second-clause-stops
operands-returns-in_err-second-clause-stops t c = λ n k h.
    let d = c.args.d.now in
    let b = placed c.args.before.opened c.args.before.names in
    let line = views c.args.head.rest.now in
    let rest = c.in_ok-first.first.rest.now in
    let others = views c.split_at.result.1.now in
    let names = c.in_ok-first.first.names in
    let first = c.in_ok-check_behind.ensures.found d (placed (b.opened + 1) (b.names + 1)) line c.in_ok-first.ensures.found in
    let e = behind_token rest (Mark Comma) (comma_next (views rest) first.behind c.in_default.ensures.no) ∙ ap (λ (l : List Token). Mark Comma ∷ views l) (sym c.split_at.ensures.back) in
    let stops = as_operand d (placed (b.opened + 1) names) true others _ c.in_err-second.ensures.stops in
    let p = err_from_is_err_and c.from_residual-in_err-second.result c.from_residual-in_err-second.ensures.1 in
    rw (p.1, p.2) (second_stops d b c.args.head.op c.args.head.value n k line (views rest) others c.in_ok-first.first.tree names _ c.requires.is h c.requires.open first e c.in_ok-first.ensures.counted stops)

pub operands-returns-in_err-check_behind-2-clause-stops :
    goal.operands-returns-in_err-check_behind-2-clause-stops
operands-returns-in_err-check_behind-2-clause-stops t c = λ n k h.
    let d = c.args.d.now in
    let b = placed c.args.before.opened c.args.before.names in
    let line = views c.args.head.rest.now in
    let rest = c.in_ok-first.first.rest.now in
    let others = views c.split_at.result.1.now in
    let names = c.in_ok-first.first.names in
    let first = c.in_ok-check_behind.ensures.found d (placed (b.opened + 1) (b.names + 1)) line c.in_ok-first.ensures.found in
    let e = behind_token rest (Mark Comma) (comma_next (views rest) first.behind c.in_default.ensures.no) ∙ ap (λ (l : List Token). Mark Comma ∷ views l) (sym c.split_at.ensures.back) in
    let stops = c.in_err-check_behind-2.ensures.stops d (placed (b.opened + 1) names) others c.in_ok-second.ensures.found in
    let p = err_from_is_err_and c.from_residual-in_err-check_behind-2.result c.from_residual-in_err-check_behind-2.ensures.1 in
    rw (p.1, p.2) (second_stops d b c.args.head.op c.args.head.value n k line (views rest) others c.in_ok-first.first.tree names _ c.requires.is h c.requires.open first e c.in_ok-first.ensures.counted stops)

pub operands-returns-clause-found : goal.operands-returns-clause-found
operands-returns-clause-found t c = λ n k h.
    let d = c.args.d.now in
    let b = placed c.args.before.opened c.args.before.names in
    let line = views c.args.head.rest.now in
    let rest = c.in_ok-first.first.rest.now in
    let others = views c.split_at.result.1.now in
    let names = c.in_ok-first.first.names in
    let rest2 = c.in_ok-second.second.rest.now in
    let after = views c.split_at-2.result.1.now in
    let first = c.in_ok-check_behind.ensures.found d (placed (b.opened + 1) (b.names + 1)) line c.in_ok-first.ensures.found in
    let second = c.in_ok-check_behind-2.ensures.found d (placed (b.opened + 1) names) others c.in_ok-second.ensures.found in
    let e = behind_token rest (Mark Comma) (comma_next (views rest) first.behind c.in_default.ensures.no) ∙ ap (λ (l : List Token). Mark Comma ∷ views l) (sym c.split_at.ensures.back) in
    let f = behind_token rest2 (Mark Close) (close_next (views rest2) second.behind) ∙ ap (λ (l : List Token). Mark Close ∷ views l) (sym c.split_at-2.ensures.back) in
    let both = both_read d b line (views rest) others (views rest2) after c.in_ok-first.first.tree c.in_ok-second.second.tree names first e c.in_ok-first.ensures.counted second f in
    let op = c.args.head.op in
    let value = c.args.head.value in
    let Reads : MTree → Type 0 = λ z. ReadsTree d b (opened n k line) after z in
    subst Reads (sym (c.new-2.ensures ∙ ap (tree_of op value) c.in_ok-kids-2.ensures)) (two_operands d b op value n k line after c.in_ok-first.first.tree c.in_ok-second.second.tree c.requires.is h c.requires.open both c.in_ok-check_arity-2.ensures.ok)

pub operands-returns-in_err-check_arity-2-clause-stops :
    goal.operands-returns-in_err-check_arity-2-clause-stops
operands-returns-in_err-check_arity-2-clause-stops t c = λ n k h.
    let d = c.args.d.now in
    let b = placed c.args.before.opened c.args.before.names in
    let line = views c.args.head.rest.now in
    let rest = c.in_ok-first.first.rest.now in
    let others = views c.split_at.result.1.now in
    let names = c.in_ok-first.first.names in
    let rest2 = c.in_ok-second.second.rest.now in
    let after = views c.split_at-2.result.1.now in
    let first = c.in_ok-check_behind.ensures.found d (placed (b.opened + 1) (b.names + 1)) line c.in_ok-first.ensures.found in
    let second = c.in_ok-check_behind-2.ensures.found d (placed (b.opened + 1) names) others c.in_ok-second.ensures.found in
    let e = behind_token rest (Mark Comma) (comma_next (views rest) first.behind c.in_default.ensures.no) ∙ ap (λ (l : List Token). Mark Comma ∷ views l) (sym c.split_at.ensures.back) in
    let f = behind_token rest2 (Mark Close) (close_next (views rest2) second.behind) ∙ ap (λ (l : List Token). Mark Close ∷ views l) (sym c.split_at-2.ensures.back) in
    let both = both_read d b line (views rest) others (views rest2) after c.in_ok-first.first.tree c.in_ok-second.second.tree names first e c.in_ok-first.ensures.counted second f in
    let w = c.in_err-check_arity-2.ensures.err in
    let stops = two_differs d b c.args.head.op c.args.head.value n k line after c.in_ok-first.first.tree c.in_ok-second.second.tree c.requires.is h c.requires.open both w.1 in
    let p = err_from_is_err_and c.from_residual-in_err-check_arity-2.result c.from_residual-in_err-check_arity-2.ensures.1 in
    rw (p.1, p.2) (last_token d b (opened n k line) c.split_at-2.result.1.now _ w.0 stops)
