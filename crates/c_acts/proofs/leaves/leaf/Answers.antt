use Rattle.std.proofs.Common.{refl}
use Rattle.std.specs.Prelude.{slice_get}
use Rattle.c_runs.specs.Expressions.{place}
use Rattle.c_worlds.proofs.lemmas.Comings.{comes_alike}
use Rattle.c_acts.proofs.leaves.leaf.Goals as goal

pub returns-in-Local : goal.returns-in-Local
returns-in-Local c =
    λ calls. rw (← c.e.view_is, c.in-Local.is)
    (comes_alike (λ k w. place (slice_get w.locals c.in-Local.place) c.e.inside.line k w) (λ k w. place c.get.result c.e.inside.line k w)
    c.args.world.now c.args.world.now c.found.result (c.found.ensures c.args.world.now) (λ k t. rw c.get.ensures refl))

pub returns-in-Object : goal.returns-in-Object
returns-in-Object c =
    λ calls. rw (← c.e.view_is, c.in-Object.is) (rw c.object_place.ensures at (c.found-in-Object.ensures c.args.world.now))

pub returns-in_ok-text_place-in-Text : goal.returns-in_ok-text_place-in-Text
returns-in_ok-text_place-in-Text c =
    λ calls. rw (← c.e.view_is, c.in-Text.is) (rw c.in_ok-text_place-in-Text.ensures.ok at (c.found-in-Text.ensures c.args.world.now))
