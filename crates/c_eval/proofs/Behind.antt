-- What a statement's end meets on top of what is left to do, and what passes it on.
use Rattle.std.proofs.Common.{◌≡◌, ℕ, List, ◌∷◌, take, refl, sym, ap, ◌∙◌, Bor}
use Rattle.std.specs.Prelude.{Option}
use Rattle.lcc_base.specs.declared.cause.Cause.TheVariants.{Outside}
use Rattle.lcc_base.specs.Traces.{output_of}
use Rattle.objects.specs.declared.value.Value.{Value}
use Rattle.c_meaning.specs.CoreTrees.{CoreOf, line_of}
use Rattle.c_runs.specs.Outcomes.{Undefined, Next, Break, Continue, Return, Goto}
use Rattle.c_runs.specs.Worlds.{World}
use Rattle.c_worlds.specs.declared.program.Program.{Program}
use Rattle.c_eval.specs.declared.frame.Frame.{Frame}
use Rattle.c_eval.specs.declared.frame.Frame.TheVariants as on
use Rattle.c_eval.specs.declared.focus.Focus.{Focus}
use Rattle.c_eval.specs.declared.focus.Focus.TheVariants as at
use Rattle.c_eval.specs.declared.how.How.TheVariants as how
use Rattle.c_eval.specs.declared.machine.Machine.{Machine}
use Rattle.c_eval.specs.Ends.{Came, OfStatement, final}
use Rattle.c_eval.specs.Frames.{frames}
use Rattle.c_eval.specs.States.{ends, state}
use Rattle.c_eval.specs.Steps.{Meets}
use Rattle.c_eval.proofs.Acts.{popped}
use Rattle.c_eval.proofs.Passes.{end_of}

-- frames that pass on the end of a statement as it stands
abbrev pub PassesNext : Frame → Type 0
PassesNext (on.Then ss) = ⊥
PassesNext (on.Body s) = ⊥
PassesNext (on.Activation c n objects base) = ⊥
PassesNext f = Unit {0}

pub next_passes : (p : Program) (below : List Value) (fs : List Frame) (f : Frame) (k : ℕ) (w : World) → PassesNext f → ends p below (f ∷ fs) (OfStatement (Next k w)) ≡ ends p below fs (OfStatement (Next k w))
next_passes p below fs (on.First e) k w h = refl
next_passes p below fs (on.Second e v) k w h = refl
next_passes p below fs (on.Right e) k w h = refl
next_passes p below fs (on.Comma es) k w h = refl
next_passes p below fs (on.Argument es n) k w h = refl
next_passes p below fs (on.Passed c v) k w h = refl
next_passes p below fs (on.Called c v) k w h = refl
next_passes p below fs (on.Activation c n objects base) k w h = absurd h
next_passes p below fs on.Drop k w h = refl
next_passes p below fs (on.Then ss) k w h = absurd h
next_passes p below fs (on.Catch ss) k w h = refl
next_passes p below fs (on.Branch x s t) k w h = refl
next_passes p below fs (on.Initial s) k w h = refl
next_passes p below fs (on.Body s) k w h = absurd h
next_passes p below fs (on.Last s) k w h = refl
next_passes p below fs (on.Test s) k w h = refl
next_passes p below fs (on.Switch s) k w h = refl
next_passes p below fs on.Switched k w h = refl
next_passes p below fs (on.Return x) k w h = refl
next_passes p below fs (on.Fill ps base) k w h = refl

-- those that pass on a break
abbrev pub PassesBreak : Frame → Type 0
PassesBreak (on.Body s) = ⊥
PassesBreak on.Switched = ⊥
PassesBreak (on.Activation c n objects base) = ⊥
PassesBreak f = Unit {0}

pub break_passes : (p : Program) (below : List Value) (fs : List Frame) (f : Frame) (k : ℕ) (w : World) → PassesBreak f → ends p below (f ∷ fs) (OfStatement (Break k w)) ≡ ends p below fs (OfStatement (Break k w))
break_passes p below fs (on.First e) k w h = refl
break_passes p below fs (on.Second e v) k w h = refl
break_passes p below fs (on.Right e) k w h = refl
break_passes p below fs (on.Comma es) k w h = refl
break_passes p below fs (on.Argument es n) k w h = refl
break_passes p below fs (on.Passed c v) k w h = refl
break_passes p below fs (on.Called c v) k w h = refl
break_passes p below fs (on.Activation c n objects base) k w h = absurd h
break_passes p below fs on.Drop k w h = refl
break_passes p below fs (on.Then ss) k w h = refl
break_passes p below fs (on.Catch ss) k w h = refl
break_passes p below fs (on.Branch x s t) k w h = refl
break_passes p below fs (on.Initial s) k w h = refl
break_passes p below fs (on.Body s) k w h = absurd h
break_passes p below fs (on.Last s) k w h = refl
break_passes p below fs (on.Test s) k w h = refl
break_passes p below fs (on.Switch s) k w h = refl
break_passes p below fs on.Switched k w h = absurd h
break_passes p below fs (on.Return x) k w h = refl
break_passes p below fs (on.Fill ps base) k w h = refl

-- those that pass on a continue
abbrev pub PassesContinue : Frame → Type 0
PassesContinue (on.Body s) = ⊥
PassesContinue (on.Activation c n objects base) = ⊥
PassesContinue f = Unit {0}

pub continue_passes : (p : Program) (below : List Value) (fs : List Frame) (f : Frame) (k : ℕ) (w : World) → PassesContinue f → ends p below (f ∷ fs) (OfStatement (Continue k w)) ≡ ends p below fs (OfStatement (Continue k w))
continue_passes p below fs (on.First e) k w h = refl
continue_passes p below fs (on.Second e v) k w h = refl
continue_passes p below fs (on.Right e) k w h = refl
continue_passes p below fs (on.Comma es) k w h = refl
continue_passes p below fs (on.Argument es n) k w h = refl
continue_passes p below fs (on.Passed c v) k w h = refl
continue_passes p below fs (on.Called c v) k w h = refl
continue_passes p below fs (on.Activation c n objects base) k w h = absurd h
continue_passes p below fs on.Drop k w h = refl
continue_passes p below fs (on.Then ss) k w h = refl
continue_passes p below fs (on.Catch ss) k w h = refl
continue_passes p below fs (on.Branch x s t) k w h = refl
continue_passes p below fs (on.Initial s) k w h = refl
continue_passes p below fs (on.Body s) k w h = absurd h
continue_passes p below fs (on.Last s) k w h = refl
continue_passes p below fs (on.Test s) k w h = refl
continue_passes p below fs (on.Switch s) k w h = refl
continue_passes p below fs on.Switched k w h = refl
continue_passes p below fs (on.Return x) k w h = refl
continue_passes p below fs (on.Fill ps base) k w h = refl

-- those that pass on a goto
abbrev pub PassesGoto : Frame → Type 0
PassesGoto (on.Catch ss) = ⊥
PassesGoto (on.Activation c n objects base) = ⊥
PassesGoto f = Unit {0}

pub goto_passes : (p : Program) (below : List Value) (fs : List Frame) (f : Frame) (l k : ℕ) (w : World) → PassesGoto f → ends p below (f ∷ fs) (OfStatement (Goto l k w)) ≡ ends p below fs (OfStatement (Goto l k w))
goto_passes p below fs (on.First e) l k w h = refl
goto_passes p below fs (on.Second e v) l k w h = refl
goto_passes p below fs (on.Right e) l k w h = refl
goto_passes p below fs (on.Comma es) l k w h = refl
goto_passes p below fs (on.Argument es n) l k w h = refl
goto_passes p below fs (on.Passed c v) l k w h = refl
goto_passes p below fs (on.Called c v) l k w h = refl
goto_passes p below fs (on.Activation c n objects base) l k w h = absurd h
goto_passes p below fs on.Drop l k w h = refl
goto_passes p below fs (on.Then ss) l k w h = refl
goto_passes p below fs (on.Catch ss) l k w h = absurd h
goto_passes p below fs (on.Branch x s t) l k w h = refl
goto_passes p below fs (on.Initial s) l k w h = refl
goto_passes p below fs (on.Body s) l k w h = refl
goto_passes p below fs (on.Last s) l k w h = refl
goto_passes p below fs (on.Test s) l k w h = refl
goto_passes p below fs (on.Switch s) l k w h = refl
goto_passes p below fs on.Switched l k w h = refl
goto_passes p below fs (on.Return x) l k w h = refl
goto_passes p below fs (on.Fill ps base) l k w h = refl

-- those that pass on a return
abbrev pub PassesReturn : Frame → Type 0
PassesReturn (on.Activation c n objects base) = ⊥
PassesReturn f = Unit {0}

pub return_passes : (p : Program) (below : List Value) (fs : List Frame) (f : Frame) (v : Option Value) (line k : ℕ) (w : World) → PassesReturn f
    → ends p below (f ∷ fs) (OfStatement (Return v line k w)) ≡ ends p below fs (OfStatement (Return v line k w))
return_passes p below fs (on.First e) v line k w h = refl
return_passes p below fs (on.Second e u) v line k w h = refl
return_passes p below fs (on.Right e) v line k w h = refl
return_passes p below fs (on.Comma es) v line k w h = refl
return_passes p below fs (on.Argument es n) v line k w h = refl
return_passes p below fs (on.Passed c u) v line k w h = refl
return_passes p below fs (on.Called c u) v line k w h = refl
return_passes p below fs (on.Activation c n objects base) v line k w h = absurd h
return_passes p below fs on.Drop v line k w h = refl
return_passes p below fs (on.Then ss) v line k w h = refl
return_passes p below fs (on.Catch ss) v line k w h = refl
return_passes p below fs (on.Branch x s t) v line k w h = refl
return_passes p below fs (on.Initial s) v line k w h = refl
return_passes p below fs (on.Body s) v line k w h = refl
return_passes p below fs (on.Last s) v line k w h = refl
return_passes p below fs (on.Test s) v line k w h = refl
return_passes p below fs (on.Switch s) v line k w h = refl
return_passes p below fs on.Switched v line k w h = refl
return_passes p below fs (on.Return x) v line k w h = refl
return_passes p below fs (on.Fill ps base) v line k w h = refl

-- ---- by the frames that code has tried before

pub passes_next : (f : Frame) → ((ss : _) → f ≡ on.Then ss → ⊥) → ((s : _) → f ≡ on.Body s → ⊥) → ((c : Bor (CoreOf ℕ)) (n objects base : ℕ) → f ≡ on.Activation c n objects base → ⊥) → PassesNext f
passes_next (on.Then ss) h i j = h ss refl
passes_next (on.Body s) h i j = i s refl
passes_next (on.Activation c n objects base) h i j = j c n objects base refl
passes_next f h i j = tt

pub passes_break : (f : Frame) → ((s : _) → f ≡ on.Body s → ⊥) → (f ≡ on.Switched → ⊥) → ((c : Bor (CoreOf ℕ)) (n objects base : ℕ) → f ≡ on.Activation c n objects base → ⊥) → PassesBreak f
passes_break (on.Body s) h i j = h s refl
passes_break on.Switched h i j = i refl
passes_break (on.Activation c n objects base) h i j = j c n objects base refl
passes_break f h i j = tt

pub passes_continue : (f : Frame) → ((s : _) → f ≡ on.Body s → ⊥) → ((c : Bor (CoreOf ℕ)) (n objects base : ℕ) → f ≡ on.Activation c n objects base → ⊥) → PassesContinue f
passes_continue (on.Body s) h j = h s refl
passes_continue (on.Activation c n objects base) h j = j c n objects base refl
passes_continue f h j = tt

pub passes_goto : (f : Frame) → ((ss : _) → f ≡ on.Catch ss → ⊥) → ((c : Bor (CoreOf ℕ)) (n objects base : ℕ) → f ≡ on.Activation c n objects base → ⊥) → PassesGoto f
passes_goto (on.Catch ss) h j = h ss refl
passes_goto (on.Activation c n objects base) h j = j c n objects base refl
passes_goto f h j = tt

pub passes_return : (f : Frame) → ((c : Bor (CoreOf ℕ)) (n objects base : ℕ) → f ≡ on.Activation c n objects base → ⊥) → PassesReturn f
passes_return (on.Activation c n objects base) j = j c n objects base refl
passes_return f j = tt

-- a body that breaks off, continues or goes elsewhere leaves its call stray
pub break_strays : (p : Program) (below : List Value) (fs : List Frame) (c : Bor (CoreOf ℕ)) (n objects base k : ℕ) (w : World)
    → ends p below (on.Activation c n objects base ∷ fs) (OfStatement (Break k w)) ≡ final (Undefined Outside (line_of c.now)) (output_of w.trace)
break_strays p below fs c n objects base k w = end_of p (take base below) fs (Undefined Outside (line_of c.now)) w

pub continue_strays : (p : Program) (below : List Value) (fs : List Frame) (c : Bor (CoreOf ℕ)) (n objects base k : ℕ) (w : World)
    → ends p below (on.Activation c n objects base ∷ fs) (OfStatement (Continue k w)) ≡ final (Undefined Outside (line_of c.now)) (output_of w.trace)
continue_strays p below fs c n objects base k w = end_of p (take base below) fs (Undefined Outside (line_of c.now)) w

pub goto_strays : (p : Program) (below : List Value) (fs : List Frame) (c : Bor (CoreOf ℕ)) (n objects base l k : ℕ) (w : World)
    → ends p below (on.Activation c n objects base ∷ fs) (OfStatement (Goto l k w)) ≡ final (Undefined Outside (line_of c.now)) (output_of w.trace)
goto_strays p below fs c n objects base l k w = end_of p (take base below) fs (Undefined Outside (line_of c.now)) w

-- the run ends there
pub strays : (p : Program) (old new : Machine) (come : ℕ → World → Came) (c : Bor (CoreOf ℕ)) (n objects base line : ℕ) (focus : Focus)
    → frames old.stack ≡ on.Activation c n objects base ∷ frames new.stack → new.world ≡ old.world → new.turns ≡ old.turns → focus ≡ at.Over (how.Undefined Outside line) → line ≡ line_of c.now
    → ((below : List Value) (fs : List Frame) (k : ℕ) (w : World) → ends p below (on.Activation c n objects base ∷ fs) (come k w) ≡ final (Undefined Outside (line_of c.now)) (output_of w.trace))
    → Meets p old come new focus
strays p old new come c n objects base line focus f w k e l h =
    popped p old new come focus (on.Activation c n objects base) f w k
    (λ below fs j x. ap (λ y. state p below fs y j x) e ∙ ap (λ m. final (Undefined Outside m) (output_of x.trace)) l ∙ sym (h below fs j x))
