use Rattle.std.proofs.Common.{◌≡◌, ◌+◌, ◌++◌, ◌∷◌, ◌<◌, ◌≤◌, List, ℕ, [], length, take, sym, subst, arith}
use Rattle.std.proofs.lemmas.List.{take_all}
use Rattle.c_symbols.specs.Meanings.{meaning}
use Rattle.c_symbols.specs.Hiding.{Hide}
use Rattle.c_symbols.proofs.Meaning.{same_refl, same_trans}
use Rattle.c_symbols.proofs.Steps.{hide_step}
use Rattle.c_symbols.proofs.meanings.Meanings.hide_all.Goals as goal

pub loop-place-init : goal.loop-place-init
loop-place-init c = record {
  same = same_refl c.args.self.now;
  hidden = subst (Hide c.args.self.now (meaning c.args.self.now) []) (sym c.in_ok-hidden.ensures.items) tt;
  end = c.len-place-end.ensures;
}

pub returns-in_err-hide-clause-same : goal.returns-in_err-hide-clause-same
returns-in_err-hide-clause-same c = same_trans c.args.self.now c.loop-place.self c.hide.new.self c.loop-place.invariant.same c.in_err-hide.ensures.same

pub returns-in_err-push-clause-same : goal.returns-in_err-push-clause-same
returns-in_err-push-clause-same c = same_trans c.args.self.now c.loop-place.self c.hide.new.self c.loop-place.invariant.same c.in_ok-hide.ensures.same

pub loop-place-preserved : goal.loop-place-preserved
loop-place-preserved c =
    let l = c.loop-place in
    let e = c.in_ok-hide.ensures in
    let w : l.place < length c.args.names.now = omega (arith, l.invariant.end) in
    let pushed : c.push.new.self.items ≡ l.hidden.items ++ c.in_ok-hide.field-0 ∷ [] = c.in_ok-push.ensures.items in
    record {
      same = same_trans c.args.self.now l.self c.hide.new.self l.invariant.same e.same;
      hidden = subst (Hide c.hide.new.self (meaning c.args.self.now) (take (l.place + 1) c.args.names.now)) (sym pushed)
          (hide_step c.args.self.now l.self c.hide.new.self c.args.names.now l.hidden.items l.place c.entry.result.0.now c.entry.result.1 c.in_ok-hide.field-0 l.invariant.same e.same l.invariant.hidden w c.entry.ensures e.place e.before);
      end = l.invariant.end;
    }

pub returns-clause-hidden : goal.returns-clause-hidden
returns-clause-hidden c =
    let l = c.loop-place in
    let w : length c.args.names.now ≤ l.place = omega (arith, l.invariant.end) in
    subst (λ (ns : List (List ℕ × ℕ)). Hide l.self (meaning c.args.self.now) ns l.hidden.items) (take_all l.place c.args.names.now w) l.invariant.hidden

pub returns-clause-same : goal.returns-clause-same
returns-clause-same c = c.loop-place.invariant.same
