use Rattle.std.proofs.Common.{◌≡◌, true, length, rules, arith, ap, sym, ◌∙◌}
use Rattle.lowered_data.specs.Still.{are_still_objects}
use Rattle.lowered_data.proofs.lemmas.Beginning.{initial_is, sound_start}
use Rattle.lowered_data.proofs.data.initial_data.Goals as goal

pub homes-requires-clause-sound : goal.homes-requires-clause-sound
homes-requires-clause-sound c =
    let yes : c.objects_are_still.result ≡ true = first_of (search rules, grind (arith, c.if-not-objects_are_still.false)) in
    let still : are_still_objects c.args.core.now.objects ≡ true = ap are_still_objects (sym c.objects.ensures.value) ∙ sym c.objects_are_still.ensures ∙ yes in
    sound_start c.start_is_sound.ensures c.new-program.result c.args.core.now c.args.order c.in-Ok.world c.new-program.ensures.core c.new-program.ensures.order c.objects.ensures.is still c.in-Ok.ensures.starts

pub returns : goal.returns
returns c =
    let yes : c.objects_are_still.result ≡ true = first_of (search rules, grind (arith, c.if-not-objects_are_still.false)) in
    let still : are_still_objects c.args.core.now.objects ≡ true = ap are_still_objects (sym c.objects.ensures.value) ∙ sym c.objects_are_still.ensures ∙ yes in
    let count : length c.in_ok-homes.homes ≡ length c.homes.new.storage.objects = omega arith in
    initial_is c.start_stands_alone.ensures c.start_is_sound.ensures c.new-program.result c.args.core.now c.args.order c.in-Ok.world c.homes.new.storage c.in_ok-homes.homes c.new-program.ensures.core c.new-program.ensures.order c.objects.ensures.is still c.in-Ok.ensures.starts
    c.homes.ensures.same count c.in_ok-homes.ensures.homes c.in_ok-homes.ensures.many
