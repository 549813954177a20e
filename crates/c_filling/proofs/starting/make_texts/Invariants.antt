use Rattle.std.proofs.Common.{◌≡◌, drop}
use Rattle.c_runs.specs.Run.{with_texts}
use Rattle.c_runs.specs.Worlds.{World as RunWorld}
use Rattle.c_filling.specs.Starts.{kept_in}
use Rattle.c_filling.proofs.starting.make_texts.Given as goal

abbrev pub invariant-loop-text : goal.invariant-loop-text
invariant-loop-text l = (w : RunWorld) →
    with_texts l.texts (kept_in l.fn.storage w) ≡ with_texts (drop l.text-index l.texts) (kept_in l.storage w)
