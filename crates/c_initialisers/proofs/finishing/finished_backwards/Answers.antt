use Rattle.std.proofs.Common.{[], ◌∷◌, ◌++◌, map, reverse, sym, ap, ◌∙◌, subst}
use Rattle.c_initialisers.specs.FilledPlaces.{ArePlacesIn, filled_place_in}
use Rattle.c_initialisers.specs.Storing.{AreStoredIn, stored_in}
use Rattle.c_initialisers.proofs.Finished.{one_more, reverse_one_more, stored_but_last}
use Rattle.c_initialisers.proofs.finishing.finished_backwards.Goals as goal

pub loop-place-preserved : goal.loop-place-preserved
loop-place-preserved c =
    let i = c.loop-place.invariant in
    let filled = c.loop-place.filled.items in
    let place = c.in-Some.place in
    let placed = c.in_ok-placed.placed in
    let left = c.pop.new.self.items in
    let popped = c.in-Some.ensures.items in
    let pushed = c.in_ok-push.ensures.items ∙ ap (λ l. l ++ placed ∷ []) c.make_room.ensures in
    let released = c.release_spare.ensures in
    record {
      same = λ t.
          ap (λ l. map (stored_in t) l ++ map (filled_place_in t) (reverse c.push.new.self.items)) released
          ∙ ap (λ l. map (stored_in t) left ++ map (filled_place_in t) (reverse l)) pushed
          ∙ one_more (filled_place_in t) (stored_in t) filled placed left place (c.in_ok-placed.ensures.same t)
          ∙ ap (λ l. map (stored_in t) l ++ map (filled_place_in t) (reverse filled)) (sym popped)
          ∙ i.same t;
      within = λ n h.
          let both = i.within n h in
          let those = stored_but_last n left place (subst (AreStoredIn n) popped both.0) in
          let finished : ArePlacesIn n (placed ∷ reverse filled) = (c.in_ok-placed.ensures.within n those.1, both.1) in
          (subst (AreStoredIn n) (sym released) those.0, subst (λ l. ArePlacesIn n (reverse l)) (sym pushed) (subst (ArePlacesIn n) (sym (reverse_one_more filled placed)) finished));
    }

pub returns-clause-within : goal.returns-clause-within
returns-clause-within c = λ n h. (c.loop-place.invariant.within n h).1
