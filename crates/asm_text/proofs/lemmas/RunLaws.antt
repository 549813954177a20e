-- What runs that agree come to.
use Rattle.std.specs.Prelude.{ℕ, ℤ, List, ◌++◌}
use Rattle.std.proofs.Common.{sym, ap, ◌∙◌, append_assoc, inl, inr, ⊎_elim, arith}
use Rattle.asm_text.specs.Runs.{Run, Ended}
use Rattle.asm_text.specs.IsPrefix.{IsPrefix}
use Rattle.asm_text.specs.Agrees.{Seen, Agrees}
use Rattle.asm_text.specs.RunsAs.{ComesTo, RunsAs}

-- a first part of a first part is one
pub prefix_of : (a b c : List ℕ) → IsPrefix a b → IsPrefix b c → IsPrefix a c
prefix_of a b c s t = (s.0 ++ t.0, sym (append_assoc a s.0 t.0) ∙ ap (λ x. x ++ t.0) s.1 ∙ t.1)

-- a run that agrees with one that comes to an end does what that one does
pub runs_as : {S : Type 0} (run : ℕ → Run S) (other : ℕ → Seen) (output : List ℕ) (status : ℤ) (room stack : ℕ) → ComesTo other output status room → Agrees run other stack → RunsAs output status room stack run
runs_as {S} run other output status room stack c a = record {
  never_stuck = a.never_stuck;
  prefix = λ n. let k = a.prefix n in prefix_of (run n).printed (other k.0).printed output k.1 (c.prefix k.0);
  ended = λ n answer is.
      (let k = a.ended n answer is in
      let d = c.only k.0 answer k.1 in
      (is ∙ ap (λ v. Ended v) d.0, k.2 ∙ d.1));
  reached =
      (let last = c.done in
      let d = c.only last.0 status last.1 in
      let r = a.reached last.0 in
      (r.0, ⊎_elim (λ out. inl out) (λ x. let y = x.1 status last.1 in inr (y.0, y.1 ∙ d.1)) r.1));
  too_deep = λ n pc is.
      (let k = a.too_deep n pc is in
      let deep = k.1 in
      let few = c.depth k.0 in
      omega (arith, deep, few));
}
