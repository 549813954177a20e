-- Calls of built-in functions.
use Rattle.std.specs.Prelude.{◌≡◌, ◌≤◌, ◌-◌, ℕ, true, List, Some, None, Ok, Err, refl}
use Rattle.std.proofs.Common.{sym, ap, ◌∙◌}
use Rattle.lcc_base.specs.Traces.{Event, output_of}
use Rattle.objects.specs.declared.value.Value.{Value}
use Rattle.c_types.specs.CType.{CType}
use Rattle.c_meaning.specs.declared.built_in.BuiltIn.{BuiltIn}
use Rattle.c_runs.specs.Calls.{built_in_fits, called_by}
use Rattle.c_runs.specs.Locals.{made_call}
use Rattle.c_runs.specs.Outcomes.{Ends, Exit, Gives, Undefined as Undefines}
use Rattle.c_entries.specs.declared.argument.Argument.{Argument}
use Rattle.c_entries.specs.declared.built_ins.Provided.TheVariants.{Gave, Exits}
use Rattle.c_entries.specs.Arguments.{arguments_seen}
use Rattle.c_entries.specs.Provides.{IsCall, Provides}
use Rattle.c_worlds.specs.declared.program.Program.{Program}
use Rattle.c_worlds.specs.declared.stop.Stop.{Stop}
use Rattle.c_worlds.specs.declared.stop.Stop.TheVariants.{Undefined, Memory}
use Rattle.c_worlds.specs.declared.world.World.{World}
use Rattle.c_worlds.specs.Shown.{shown}
use Rattle.c_eval.specs.declared.focus.Focus.{Focus}
use Rattle.c_eval.specs.declared.frame.Frame.{Frame}
use Rattle.c_eval.specs.Came.{IsStopped}
use Rattle.c_eval.specs.Ends.{OfExpression, final}
use Rattle.c_eval.specs.States.{ends, own, state}
use Rattle.c_eval.proofs.Invoking.{built_in_gives, seen_is_passed}
use Rattle.c_eval.proofs.Passes.{end_of}

the_call : (p : Program) (of : CType) (line at n number : ℕ) (ps : List Argument) (w : World) (t : List Event) → at ≡ line → IsCall ps at w t (made_call of line n (arguments_seen p ps) (shown w t) number)
the_call p of line at n number ps w t e = record { arguments = seen_is_passed p ps; line = sym e; world = refl }

pub provided_gives : (p : Program) (b : BuiltIn) (number : ℕ) (of : CType) (line at n : ℕ) (ps : List Argument) (turns : ℕ) (old new : World) (fs : List Frame) (v : Value) → at ≡ line → built_in_fits b of (arguments_seen p ps) ≡ true → 1 ≤ turns → new.locals ≡ old.locals → Provides b ps at old new (Ok (Gave v)) → (t : List Event) → output_of t ≡ old.output → (t1 : List Event) × (output_of t1 ≡ new.output) × (ends p new.locals.below fs (OfExpression (Gives v (turns - 1) (shown new t1))) ≡ ends p old.locals.below fs (OfExpression (called_by (own p) None (Some b) (made_call of line n (arguments_seen p ps) (shown old t) number) turns (shown old t))))
provided_gives p b number of line at n ps turns old new fs v el fits some same h t e =
    let r = h (made_call of line n (arguments_seen p ps) (shown old t) number) t (the_call p of line at n number ps old t el) e in (
      r.0,
      r.1,
      (ap (λ l. ends p l.below fs (OfExpression (Gives v (turns - 1) (shown new r.0)))) same
          ∙ built_in_gives p b number of line n (arguments_seen p ps) turns (shown old t) old.locals.below fs (Gives v (turns - 1) (shown new r.0)) fits some (r.2 (turns - 1))),
    )

pub provided_exits : (p : Program) (b : BuiltIn) (number : ℕ) (of : CType) (line at n : ℕ) (ps : List Argument) (turns : ℕ) (old new : World) (fs : List Frame) (status : ℕ) → at ≡ line → built_in_fits b of (arguments_seen p ps) ≡ true → 1 ≤ turns → Provides b ps at old new (Ok (Exits status)) → (t : List Event) → output_of t ≡ old.output → (t1 : List Event) × (output_of t1 ≡ new.output) × (final (Exit status) (output_of t1) ≡ ends p old.locals.below fs (OfExpression (called_by (own p) None (Some b) (made_call of line n (arguments_seen p ps) (shown old t) number) turns (shown old t))))
provided_exits p b number of line at n ps turns old new fs status el fits some h t e = (
  t,
  e ∙ sym h.0,
  (sym (end_of p old.locals.below fs (Exit status) (shown new t))
      ∙ built_in_gives p b number of line n (arguments_seen p ps) turns (shown old t) old.locals.below fs (Ends (Exit status) (shown new t)) fits some (h.1 (made_call of line n (arguments_seen p ps) (shown old t) number) t (the_call p of line at n number ps old t el) (turns - 1))),
)

pub provided_stops : (p : Program) (b : BuiltIn) (number : ℕ) (of : CType) (line at n : ℕ) (ps : List Argument) (turns : ℕ) (old new : World) (fs : List Frame) (stop : Stop) (focus : Focus) → at ≡ line → built_in_fits b of (arguments_seen p ps) ≡ true → 1 ≤ turns → Provides b ps at old new (Err stop) → IsStopped stop focus → (t : List Event) → output_of t ≡ old.output → (t1 : List Event) × (output_of t1 ≡ new.output) × (state p new.locals.below fs focus (turns - 1) (shown new t1) ≡ ends p old.locals.below fs (OfExpression (called_by (own p) None (Some b) (made_call of line n (arguments_seen p ps) (shown old t) number) turns (shown old t))))
provided_stops p b number of line at n ps turns old new fs (Undefined cause l) focus el fits some h i t e = (
  t,
  e ∙ sym h.0,
  (ap (λ (x : Focus). state p new.locals.below fs x (turns - 1) (shown new t)) i
      ∙ sym (end_of p old.locals.below fs (Undefines cause l) (shown new t))
      ∙ built_in_gives p b number of line n (arguments_seen p ps) turns (shown old t) old.locals.below fs (Ends (Undefines cause l) (shown new t)) fits some (h.1 (made_call of line n (arguments_seen p ps) (shown old t) number) t (the_call p of line at n number ps old t el) (turns - 1))),
)
provided_stops p b number of line at n ps turns old new fs Memory focus el fits some h i t e = absurd i
