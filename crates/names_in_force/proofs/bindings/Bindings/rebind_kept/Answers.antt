use Rattle.std.proofs.Common.{◌≡◌, false, take, drop, ◌++◌, sym, ◌∙◌}
use Rattle.std.specs.Prelude.{Result, Ok, Err, OnOk, is_err}
use Rattle.names_in_force.proofs.Numbering.{bound_more}
use Rattle.names_in_force.proofs.bindings.Bindings.rebind_kept.Goals as goal

at_ok : {A E : Type 0} (r : Result A E) (P : Type 0) → is_err r ≡ false → OnOk r P → P
at_ok (Ok a) P e h = h
at_ok (Err x) P e h = cc

pub loop-place-preserved : goal.loop-place-preserved
loop-place-preserved c =
    let s = c.loop-place.self in
    let i = c.loop-place.invariant in
    record {
      bound = bound_more _ _ s.bound s.kept c.rebind.new.self.bound c.loop-place.place i.bound i.kept
          (at_ok c.rebind.result (c.rebind.new.self.bound ≡ s.bound ++ take 1 (drop c.loop-place.place s.kept)) (sym c.is_err.ensures.value ∙ c.if-is_err.false) c.rebind.ensures.ok);
      kept = c.rebind.ensures.kept ∙ i.kept;
      start = i.start;
      end = i.end;
    }
