-- Steps behind steps.
use Rattle.std.specs.Prelude.{◌≤◌, refl}
use Rattle.std.proofs.Common.{sym, ◌∙◌, arith}
use Rattle.c_worlds.specs.declared.program.Program.{Program}
use Rattle.c_eval.specs.declared.focus.Focus.{Focus}
use Rattle.c_eval.specs.declared.focus.Focus.TheVariants as at
use Rattle.c_eval.specs.declared.machine.Machine.{Machine}
use Rattle.c_eval.specs.Steps.{IsQuiet, Leads, Same}
use Rattle.c_eval.specs.Weights.{going}

pub leads_nowhere : (p : Program) (m : Machine) (a : Focus) → Leads p m a m a
leads_nowhere p m a t e = (t, e, refl)

pub leads_same : (p : Program) (i m n : Machine) (a b c : Focus) → Leads p i a m b → Same p m b n c → IsQuiet m n → Leads p i a n c
leads_same p i m n a b c h s q t e = let r = h t e in (r.0, r.1 ∙ sym q.1, s r.0 ∙ r.2)

pub leads_more : (p : Program) (i m n : Machine) (a b c : Focus) → Leads p i a m b → Leads p m b n c → Leads p i a n c
leads_more p i m n a b c h g t e = let r = h t e in let u = g r.0 r.1 in (u.0, u.1, u.2 ∙ r.2)

pub going_once : (focus : Focus) → going focus ≤ 1
going_once (at.Eval e) = omega arith
going_once (at.Value v) = omega arith
going_once (at.NoValue line) = omega arith
going_once (at.Start s) = omega arith
going_once (at.At s l) = omega arith
going_once (at.List ss) = omega arith
going_once (at.ListAt ss l) = omega arith
going_once (at.Fill ps base) = omega arith
going_once at.Next = omega arith
going_once at.Break = omega arith
going_once at.Continue = omega arith
going_once (at.Return v line) = omega arith
going_once (at.Goto l) = omega arith
going_once (at.Repeat s) = omega arith
going_once (at.Jump ss l) = omega arith
going_once (at.Invoke n) = omega arith
going_once (at.Over how) = omega arith
