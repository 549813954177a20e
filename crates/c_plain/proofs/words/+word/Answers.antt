use Rattle.std.proofs.Common.{subst}
use Rattle.std.specs.Prelude.{[], ◌∷◌, Some, Ok}
use Rattle.objects.specs.declared.value.Value.TheVariants.{Number}
use Rattle.c_meaning.specs.CoreTrees.{line_of, type_of, what_of}
use Rattle.c_runs.specs.Expressions.{row}
use Rattle.c_worlds.specs.Programs.{known, setting_of, tree}
use Rattle.c_worlds.specs.Shown.{Comes, giving}
use Rattle.c_plain.proofs.AtOnce.{binary_at_once, if_some, unary_at_once}
use Rattle.c_plain.proofs.words.+word.Goals as goal

pub binary_word-returns : goal.binary_word-returns
binary_word-returns t c =
    let p = c.args.program.now in
    let w = c.args.world.now in
    if_some _ _ c.combined_word.result c.combined_word.ensures
    (λ o h calls. binary_at_once (setting_of p calls) (known p) c.args.e.now c.in_ok-left.left.now c.in_ok-left.right.now w w (Number c.in_ok-n.n) (Number c.in_ok-m.m) (Ok (Some (Number o)))
    c.in_ok-left.ensures.some c.requires.shape (c.in_ok-n.ensures calls) (c.in_ok-m.ensures calls) (h w calls))

pub moved_pointer-returns : goal.moved_pointer-returns
moved_pointer-returns t c =
    let p = c.args.program.now in
    let w = c.args.world.now in
    let e = c.args.e.now in
    let a = c.in_ok-left.left.now in
    let b = c.in_ok-left.right.now in
    let v = c.in_ok-left_value.left_value in
    let u = Number c.in_ok-n.n in
    if_some _ _ c.found.result c.found.ensures
    (λ x i calls. binary_at_once (setting_of p calls) (known p) e a b w w v u (Ok (Some x))
    c.in_ok-left.ensures.some c.requires.shape (c.in_ok-left_value.ensures calls) (c.in_ok-n.ensures calls)
    (subst (λ r. Comes (λ k y. row (setting_of p calls) (what_of e) (known p (type_of e)) (line_of e) (giving (tree p a) v ∷ giving (tree p b) u ∷ []) k y) w w r) i (c.combine.ensures calls)))

pub unary_pointer-returns : goal.unary_pointer-returns
unary_pointer-returns t c =
    let p = c.args.program.now in
    let w = c.args.world.now in
    let e = c.args.e.now in
    let a = c.in_ok-part.part.now in
    let v = c.in_ok-p.p in
    if_some _ _ c.found.result c.found.ensures
    (λ x i calls. unary_at_once (setting_of p calls) (known p) e a w w v (Ok (Some x)) c.in_ok-part.ensures.some c.requires.shape (c.in_ok-p.ensures calls)
    (subst (λ r. Comes (λ k y. row (setting_of p calls) (what_of e) (known p (type_of e)) (line_of e) (giving (tree p a) v ∷ []) k y) w w r) i (c.unary_act.ensures calls)))

pub unary_word-returns-in-Some : goal.unary_word-returns-in-Some
unary_word-returns-in-Some t c =
    let p = c.args.program.now in
    let w = c.args.world.now in
    if_some _ _ c.read_word.result c.read_word.ensures
    (λ n h calls. unary_at_once (setting_of p calls) (known p) c.args.e.now c.in_ok-part.part.now w w c.in-Some.p.now (Ok (Some (Number n)))
    c.in_ok-part.ensures.some c.requires.shape (c.in-Some.ensures p calls) (h calls))

pub unary_word-returns-in_ok-p-in-None : goal.unary_word-returns-in_ok-p-in-None
unary_word-returns-in_ok-p-in-None t c =
    let p = c.args.program.now in
    let w = c.args.world.now in
    if_some _ _ c.read_word-in-None.result c.read_word-in-None.ensures
    (λ n h calls. unary_at_once (setting_of p calls) (known p) c.args.e.now c.in_ok-part.part.now w w c.in_ok-p-in-None.p (Ok (Some (Number n)))
    c.in_ok-part.ensures.some c.requires.shape (c.in_ok-p-in-None.ensures calls) (h calls))

pub unary_word-returns-in_ok-n-in_default : goal.unary_word-returns-in_ok-n-in_default
unary_word-returns-in_ok-n-in_default t c =
    let p = c.args.program.now in
    let w = c.args.world.now in
    if_some _ _ c.changed_word.result c.changed_word.ensures
    (λ m h calls. unary_at_once (setting_of p calls) (known p) c.args.e.now c.in_ok-part.part.now w w (Number c.in_ok-n-in_default.n) (Ok (Some (Number m)))
    c.in_ok-part.ensures.some c.requires.shape (c.in_ok-n-in_default.ensures calls) (h p w calls))
