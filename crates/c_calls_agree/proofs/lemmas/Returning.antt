-- What calls leave: no argument word waits, and what held nothing of C holds nothing still.
use Rattle.std.specs.Prelude.{◌≡◌, ℕ, zero, suc, ◌==◌, Bool, true, false, Some, List, [], ◌∷◌, length, slice_get, if◌then◌else◌}
use Rattle.std.proofs.Common.{refl, sym, ap, subst, ◌∙◌, arith}
use Rattle.objects.specs.declared.value.Value.{Value}
use Rattle.objects.specs.declared.value.Value.TheVariants.{Number, Pointer, Function}
use Rattle.objects.specs.Objects.{Object as Old}
use Rattle.op_forest.specs.Callees.{BuiltIn, Putchar, Getchar, Exit, Callee, Defined, Provided, Missing}
use Rattle.op_forest.specs.Nodes.{Node}
use Rattle.forests.specs.Actions.{Calls}
use Rattle.forests.specs.Bodies.{Setting}
use Rattle.forests.specs.Functions.{Program, entered, answered, put_character, get_character, exit_with, provided, setting_of, call_by}
use Rattle.forests.specs.Meaning.{call_of}
use Rattle.forests.specs.Objects.{Object}
use Rattle.forests.specs.OneRoot.{runs}
use Rattle.forests.proofs.lemmas.OneRoot.{one_call}
use Rattle.forests.specs.Words.{Word, Plain}
use Rattle.forests.specs.Worlds.{World, Point, at_world, Move, Effect, Went, Stuck, Outcome, Finished, Exited, Going, Failed}
use Rattle.c_meaning.specs.Each.{EachIs}
use Rattle.c_runs.specs.Soundness.{Outline, outline, outlines, IsSoundValue, IsSoundObject, IsObjectOf}
use Rattle.c_match.specs.Held.{AreHeld}
use Rattle.c_match.specs.Left.{IsPrivate}
use Rattle.c_match.specs.Ranges.{Range, Map, Grown}
use Rattle.c_agreement.proofs.lemmas.Ends.{same_point}
use Rattle.c_straight_agree.proofs.lemmas.Putting.{each_at}

-- ---- no argument word waits behind a call

answered_none : (before : World) (o : Outcome) (ws : List Word) (q : Point) (mv : Move) → answered before o ≡ Went ws q mv → q.world.arguments ≡ []
answered_none before (Finished v p) ws q mv e = ap (λ (z : Point). z.world.arguments) (sym (same_point e))
answered_none before (Exited status w) ws q mv e = absurd (let never : ⊥ = cc in never)
answered_none before (Going w) ws q mv e = absurd (let never : ⊥ = cc in never)
answered_none before Failed ws q mv e = absurd (let never : ⊥ = cc in never)

if_none : (b : Bool) (e : Effect) (ws : List Word) (q : Point) (mv : Move) → (e ≡ Went ws q mv → q.world.arguments ≡ []) → (if b then e else Stuck) ≡ Went ws q mv → q.world.arguments ≡ []
if_none true e ws q mv h is = h is
if_none false e ws q mv h is = absurd (let never : ⊥ = cc in never)

put_none : (us : List Word) (p : Point) (ws : List Word) (q : Point) (mv : Move) → put_character us p ≡ Went ws q mv → q.world.arguments ≡ []
put_none (Plain (Number n) ∷ []) p ws q mv e = ap (λ (z : Point). z.world.arguments) (sym (same_point e))
put_none us p ws q mv e = absurd (let never : ⊥ = cc in never)

get_none : (us : List Word) (input : List ℕ) (p : Point) (ws : List Word) (q : Point) (mv : Move) → p.world.arguments ≡ us → get_character us input p ≡ Went ws q mv → q.world.arguments ≡ []
get_none [] [] p ws q mv is e = ap (λ (z : Point). z.world.arguments) (sym (same_point e)) ∙ is
get_none [] (byte ∷ rest) p ws q mv is e = ap (λ (z : Point). z.world.arguments) (sym (same_point e)) ∙ is
get_none us input p ws q mv is e = absurd (let never : ⊥ = cc in never)

exit_none : (us : List Word) (p : Point) (ws : List Word) (q : Point) (mv : Move) → exit_with us p ≡ Went ws q mv → q.world.arguments ≡ []
exit_none (Plain (Number n) ∷ []) p ws q mv e = absurd (let never : ⊥ = cc in never)
exit_none us p ws q mv e = absurd (let never : ⊥ = cc in never)

provided_none : (b : BuiltIn) (p : Point) (ws : List Word) (q : Point) (mv : Move) → provided b p ≡ Went ws q mv → q.world.arguments ≡ []
provided_none Putchar p ws q mv e = put_none p.world.arguments p ws q mv e
provided_none Getchar p ws q mv e = get_none p.world.arguments p.world.input p ws q mv refl e
provided_none Exit p ws q mv e = exit_none p.world.arguments p ws q mv e

by_none : (g : Program) (run : Setting → List Node → Point → Outcome) (call : Calls) (name : ℕ) (c : Callee) (p : Point) (ws : List Word) (q : Point) (mv : Move) → call_by g run call name c p ≡ Went ws q mv → q.world.arguments ≡ []
by_none g run call name (Defined f) p ws q mv e =
    if_none (length p.world.arguments == f.words) (answered p.world (run (setting_of g call name f p.world) f.roots (at_world p (entered g.order name f p.world)))) ws q mv
    (λ is. answered_none p.world (run (setting_of g call name f p.world) f.roots (at_world p (entered g.order name f p.world))) ws q mv is) e
by_none g run call name (Provided b) p ws q mv e = provided_none b p ws q mv e
by_none g run call name Missing p ws q mv e = absurd (let never : ⊥ = cc in never)

pub none_waits_behind : (g : Program) (name : ℕ) (p : Point) (ws : List Word) (q : Point) (mv : Move) → call_of g name p ≡ Went ws q mv → q.world.arguments ≡ []
none_waits_behind g name p ws q mv e = by_none g (λ s roots p1. runs s roots roots p1) (call_of g) name (g.callee name) p ws q mv (sym (one_call g name p) ∙ e)

-- ---- objects by their outlines

pub outline_back : (os : List Old) (p : ℕ) (o : Outline) → slice_get (outlines os) p ≡ Some o → (x : Old) × ((slice_get os p ≡ Some x) × (outline x ≡ o))
outline_back [] p o e = absurd (let never : ⊥ = cc in never)
outline_back (x ∷ os) zero o e = let same : outline x ≡ o = cc in (x, (refl, same))
outline_back (x ∷ os) (suc p) o e = outline_back os p o e

outline_there : (os : List Old) (p : ℕ) (x : Old) → slice_get os p ≡ Some x → slice_get (outlines os) p ≡ Some (outline x)
outline_there [] p x e = absurd (let never : ⊥ = cc in never)
outline_there (y ∷ os) zero x e = let same : y ≡ x = cc in ap (λ (z : Old). Some (outline z)) same
outline_there (y ∷ os) (suc p) x e = outline_there os p x e

same_range : (a b : Range) → Some a ≡ Some b → a ≡ b
same_range a b e = cc

-- where the same objects live, each in its range, or in one if it had none
pub private_stays : (map later : Map) → Grown map later → (old new : List Old) (objects : List Object) → AreHeld map old objects → outlines new ≡ outlines old → (place : ℕ) → IsPrivate map old place → IsPrivate later new place
private_stays map later grown old new objects held lives place private p x r is range at =
    let y = outline_back old p (outline x) (ap (λ (os : List Outline). slice_get os p) (sym lives) ∙ outline_there new p x is) in
    let h = held.held p y.0 y.1.0 in
    let same_made : y.0.made ≡ x.made = ap (λ (o : Outline). o.made) y.1.1 in
    let there : later x.made ≡ Some h.range = subst (λ (m : ℕ). later m ≡ Some h.range) same_made (grown y.0.made h.range h.is) in
    let same = same_range h.range r (sym there ∙ range) in
    private p y.0 h.range y.1.0 h.is (ap (λ (z : Range). z.object.place) same ∙ at)

-- a pointer to the first byte of an object that lives is sound
pub object_is_sound : (made size : ℕ) (os : List Old) (v : Value) → EachIs (IsSoundObject made) os → IsObjectOf (outlines os) size v → IsSoundValue made v
object_is_sound made size os (Pointer name offset) sound h =
    let y = outline_back os name.place (record { made = name.made; size = size }) h.1.1 in
    let there = each_at (IsSoundObject made) os name.place y.0 sound y.1.0 in
    let same : y.0.made ≡ name.made = ap (λ (o : Outline). o.made) y.1.1 in
    ((let l = there.0 in omega (arith, l, same)), (let e = h.0 in omega (arith, e)))
object_is_sound made size os (Number n) sound h = absurd h
object_is_sound made size os (Function f) sound h = absurd h
