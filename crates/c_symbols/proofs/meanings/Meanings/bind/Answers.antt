use Rattle.std.proofs.Common.{◌≡◌, ◌+◌, ◌-◌, List, ℕ, length, drop, get_or, Some, sym, ap, ◌∙◌, refl, arith}
use Rattle.std.specs.Prelude.{None}
use Rattle.std.proofs.lemmas.List.{drop_all}
use Rattle.indexmap.specs.Layout.{set_value_at, length-set_value_at}
use Rattle.c_symbols.specs.declared.hidden.Hidden.{Hidden}
use Rattle.c_symbols.specs.Meanings.{Meant}
use Rattle.c_symbols.specs.Hiding.{bound}
use Rattle.c_symbols.proofs.Steps.{bound_step, place_at}
use Rattle.c_symbols.proofs.meanings.Meanings.bind.Goals as goal

abbrev absent : Hidden
absent = record { place = 0; before = None }

pub loop-place-init : goal.loop-place-init
loop-place-init c =
    let hs = c.args.hidden.now in
    record {
      length = refl;
      bound = sym (ap (λ (ns : List (List ℕ × ℕ)). bound c.args.self.now ns (drop c.len-place.result hs)) (drop_all c.len-place.result c.args.names.now (omega (arith, c.len-place.ensures))));
    }

pub set-requires : goal.set-requires
set-requires c =
    let i = c.loop-place.invariant in
    let k = c.loop-place.place - 1 in
    let p = place_at c.args.self.now c.args.hidden.now k absent c.requires.places (omega (arith, c.requires.each, c.len-place.ensures)) in
    omega (arith, p, i.length)

pub loop-place-preserved : goal.loop-place-preserved
loop-place-preserved c =
    let l = c.loop-place in
    let k = l.place - 1 in
    let one : l.place ≡ k + 1 = omega arith in
    let x = get_or c.args.hidden.now k absent in
    let n : List ℕ × ℕ = (c.entry-symbol.result.0.now, c.entry-symbol.result.1) in
    record {
      length = ap (λ (m : Meant). length m) c.set.ensures ∙ length-set_value_at l.self x.place (Some n.1) ∙ l.invariant.length;
      bound = c.set.ensures ∙ ap (λ (m : Meant). set_value_at m x.place (Some n.1)) l.invariant.bound
          ∙ bound_step c.args.self.now c.args.names.now c.args.hidden.now l.place k n absent one c.requires.each c.entry-symbol.ensures;
    }
