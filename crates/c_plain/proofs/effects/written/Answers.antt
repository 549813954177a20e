use Rattle.std.proofs.Common.{[], ◌∷◌, sym, subst}
use Rattle.objects.specs.Objects.{Storage}
use Rattle.objects.specs.declared.value.Value.TheVariants.{Number}
use Rattle.c_meaning.specs.CoreTrees.{line_of, type_of, what_of}
use Rattle.c_runs.specs.Expressions.{row}
use Rattle.c_worlds.specs.Programs.{known, setting_of, tree}
use Rattle.c_worlds.specs.Shown.{Comes, giving}
use Rattle.c_plain.proofs.AtOnce.{binary_at_once, with_storage, writes_at_once}
use Rattle.c_plain.proofs.effects.written.Goals as goal

pub returns-clause-done : goal.returns-clause-done
returns-clause-done c =
    let p = c.args.program.now in
    let w = c.args.world.now in
    let e = c.args.e.now in
    let a = c.in_ok-left.left.now in
    let b = c.in_ok-left.right.now in
    let v = c.in_ok-left_value.left_value in
    let n = Number c.in_ok-n.n in (
      c.binary_act.result,
      (
        sym c.no_value.ensures,
        λ calls. binary_at_once (setting_of p calls) (known p) e a b w c.binary_act.new.world v n c.binary_act.result c.in_ok-left.ensures.some c.requires.shape (c.in_ok-left_value.ensures calls) (c.in_ok-n.ensures calls)
            (subst (λ (s : Storage). Comes (λ k x. row (setting_of p calls) (what_of e) (known p (type_of e)) (line_of e) (giving (tree p a) v ∷ giving (tree p b) n ∷ []) k x) (with_storage w s) c.binary_act.new.world c.binary_act.result)
            (c.number_stored.ensures.same c.if-number_stored.false) (c.binary_act.ensures.comes calls)),
      ),
    )

pub returns-then-number_stored-clause-done : goal.returns-then-number_stored-clause-done
returns-then-number_stored-clause-done c =
    writes_at_once c.args.program.now c.args.e.now c.in_ok-left.left.now c.in_ok-left.right.now c.args.world.now c.number_stored.new.storage c.in_ok-left_value.left_value c.in_ok-n.n
    c.in_ok-left.ensures.some c.requires.shape c.in_ok-left_value.ensures c.in_ok-n.ensures (c.number_stored.ensures.written c.if-number_stored.true)
