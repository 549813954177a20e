-- The world in which a checked unit starts is sound, as those of its runs are.
use Rattle.std.specs.Prelude.{◌≡◌, ◌≤◌, ◌<◌, ℕ, ◌+◌, true, false, ◌&&◌, Bool, List, [], ◌∷◌, ◌++◌, length, map, slice_get}
use Rattle.std.proofs.Common.{refl, ap, sym, subst, ◌∙◌, arith}
use Rattle.std.proofs.lemmas.List.{length-map}
use Rattle.lcc_base.specs.declared.order.Order.{Order}
use Rattle.objects.specs.declared.value.Value.{Value}
use Rattle.objects.specs.Objects.{Object}
use Rattle.c_types.specs.CType.{CType}
use Rattle.c_types.specs.Layout.{Tag}
use Rattle.c_meaning.specs.Each.{EachIs}
use Rattle.c_meaning.specs.Numbers.{IsText}
use Rattle.c_meaning.specs.StmtTrees.{FilledOf, Initialise}
use Rattle.c_meaning.specs.Units.{ObjectTree, UnitTree}
use Rattle.c_runs.specs.Worlds.{World, objects, with_objects}
use Rattle.c_runs.specs.Outcomes.{Out, Next, Break, Continue, Return, Goto, Over, then_next}
use Rattle.c_runs.specs.Calls.{Setting}
use Rattle.c_runs.specs.Places.{size_of, static_place}
use Rattle.c_runs.specs.Soundness.{IsSoundOut, IsSound, Outline, own_outlines, IsTamePlace, IsTameObject, IsTameUnit, ExecStaysSound, RunStaysSound}
use Rattle.c_runs.specs.Statements.{Start, fill}
use Rattle.c_runs.specs.Run.{call, context, setting, empty_world, ended_by, filled_from, main_run, run_tree, started, with_objects_of, with_texts}
use Rattle.lowered_data.proofs.lemmas.Filling.{still_places, still_objects, out_in, fill_fills, first_world, first_made, only_objects}

-- ---- before anything is filled: the unit without functions and initialisers starts so

abbrev bare : ObjectTree → ObjectTree
bare o = record { name = o.name; of = o.of; line = o.line; constant = o.constant; places = [] }

abbrev bare_unit : UnitTree → UnitTree
bare_unit u = record { functions = []; objects = map bare u.objects; texts = u.texts; tags = u.tags; main = 0 }

bare_filled : (s : Setting) (n : ℕ) (os : List ObjectTree) (k : ℕ) (w : World) → filled_from s n (map bare os) k w ≡ Next k w
bare_filled s n [] k w = refl
bare_filled s n (o ∷ os) k w = bare_filled s (n + 1) os k w

bare_objects : (tags : List Tag) (os : List ObjectTree) (w : World) → with_objects_of tags (map bare os) w ≡ with_objects_of tags os w
bare_objects tags [] w = refl
bare_objects tags (o ∷ os) w = bare_objects tags os _

bare_outlines : (tags : List Tag) (n : ℕ) (os : List ObjectTree) (ts : List (List ℕ)) → own_outlines tags n (map bare os) ts ≡ own_outlines tags n os ts
bare_outlines tags n [] ts = refl
bare_outlines tags n (o ∷ os) ts = ap (λ (xs : List Outline). record { made = n; size = size_of tags o.of } ∷ xs) (bare_outlines tags (n + 1) os ts)

bare_objects_tame : (os : List ObjectTree) → EachIs IsTameObject (map bare os)
bare_objects_tame [] = tt
bare_objects_tame (o ∷ os) = (tt, bare_objects_tame os)

bare_tame : (u : UnitTree) → EachIs IsText u.texts → IsTameUnit (bare_unit u)
bare_tame u t = record { functions = tt; objects = bare_objects_tame u.objects; texts = t }

bare_world : (u : UnitTree) (order : Order) → (run_tree (bare_unit u) order [] 0).world ≡ first_world u []
unfolding context
bare_world u order =
    let s : Setting = context (bare_unit u) order in
    ap (λ (o : Out). (ended_by (then_next o (λ k w. main_run s (slice_get (bare_unit u).functions (bare_unit u).main) k w))).world) (bare_filled s 0 u.objects 0 (first_world (bare_unit u) []))
    ∙ ap (λ (w : World). with_texts u.texts w) (bare_objects u.tags u.objects (empty_world []))

first_sound : RunStaysSound → (u : UnitTree) → Order → EachIs IsText u.texts → IsSound u (first_world u [])
first_sound R u order t =
    let s : IsSound (bare_unit u) (first_world u []) = subst (λ (w : World). IsSound (bare_unit u) w) (bare_world u order) (R (bare_unit u) order [] 0 (bare_tame u t) tt).1 in
    record {
      own = (let a = s.own in let l = length-map u.objects bare in omega (arith, a, l));
      others = s.others;
      live = s.live ∙ ap (λ (xs : List Outline). xs ++ s.others) (bare_outlines u.tags 0 u.objects u.texts);
      objects = s.objects;
      locals = s.locals;
      input = s.input;
      trace = s.trace;
    }

-- ---- an object filled: as a local that stands there would be

abbrev with_base : World → Value → World
with_base w v = record { storage = w.storage; locals = v ∷ []; input = w.input; trace = w.trace }

based_sound : (u : UnitTree) (w : World) (n size : ℕ) → IsSound u w → n < w.storage.made → IsSound u (with_base w (static_place n size))
based_sound u w n size s l = record {
  own = s.own;
  others = s.others;
  live = s.live;
  objects = s.objects;
  locals = ((l, omega arith), tt);
  input = s.input;
  trace = s.trace;
}

back_sound : (u : UnitTree) (w : World) (v : Value) (os : List Object) → IsSound u w → IsSound u (with_objects (with_base w v) os) → IsSound u (with_objects w os)
back_sound u w v os old new = record {
  own = new.own;
  others = new.others;
  live = new.live;
  objects = new.objects;
  locals = old.locals;
  input = old.input;
  trace = old.trace;
}

record IsSoundBehind (u : UnitTree) (w x : World) : Type 0 where
  sound : IsSound u x
  made : x.storage.made ≡ w.storage.made

fill_sound : ExecStaysSound → (u : UnitTree) (order : Order) → IsTameUnit u → (n size : ℕ) (ps : List (FilledOf CType)) → still_places ps ≡ true → EachIs IsTamePlace ps → (k j : ℕ) (w x : World) → IsSound u w → n < w.storage.made → fill (context u order) (static_place n size) ps k w ≡ Next j x → IsSoundBehind u w x
fill_sound E u order T n size ps h t k j w x s l e =
    let v : Value = static_place n size in
    let y : World = with_base w v in
    let f = fill_fills (context u order) v ps h in
    let same : x ≡ with_objects w (objects x) = only_objects (λ k1 w1. fill (context u order) v ps k1 w1) k w x j f e in
    let comes : fill (context u order) v ps k y ≡ Next j (with_objects y (objects x)) = f.by k w y refl ∙ ap (λ o. out_in y o) e in
    let r : IsSoundOut u y (fill (context u order) v ps k y) = E u order (Initialise 0 false ps) Start k y T t (based_sound u w n size s l) in
    let g : IsSoundOut u y (Next j (with_objects y (objects x))) = subst (λ (o : Out). IsSoundOut u y o) comes r in
    record {
      sound = subst (λ (z : World). IsSound u z) (sym same) (back_sound u w v (objects x) s g.0);
      made = ap (λ (z : World). z.storage.made) same;
    }

then_sound : (u : UnitTree) (r : Out) (go : ℕ → World → Out) (j : ℕ) (x : World) → ((i : ℕ) (y : World) → r ≡ Next i y → go i y ≡ Next j x → IsSound u x) → then_next r go ≡ Next j x → IsSound u x
then_sound u (Next i y) go j x h e = h i y refl e
then_sound u (Break i y) go j x h e = absurd (let never : ⊥ = cc in never)
then_sound u (Continue i y) go j x h e = absurd (let never : ⊥ = cc in never)
then_sound u (Return v line i y) go j x h e = absurd (let never : ⊥ = cc in never)
then_sound u (Goto l i y) go j x h e = absurd (let never : ⊥ = cc in never)
then_sound u (Over how y) go j x h e = absurd (let never : ⊥ = cc in never)

next_is : (k j : ℕ) (w x : World) → ◌≡◌ {A = Out} (Next k w) (Next j x) → w ≡ x
next_is k j w x e = cc

first : (a b : Bool) → (a && b) ≡ true → a ≡ true
first true b e = refl
first false b e = absurd (let never : ⊥ = cc in never)

rest : (a b : Bool) → (a && b) ≡ true → b ≡ true
rest true b e = e
rest false b e = absurd (let never : ⊥ = cc in never)

filled_sound : ExecStaysSound → (u : UnitTree) (order : Order) → IsTameUnit u → (n : ℕ) (os : List ObjectTree) → still_objects os ≡ true → EachIs IsTameObject os → (k j : ℕ) (w x : World) → IsSound u w → n + length os ≤ w.storage.made → filled_from (context u order) n os k w ≡ Next j x → IsSound u x
filled_sound E u order T n [] h t k j w x s l e = subst (λ (z : World). IsSound u z) (next_is k j w x e) s
filled_sound E u order T n (o ∷ os) h t k j w x s l e =
    then_sound u (fill (context u order) (static_place n (size_of (context u order).unit.tags o.of)) o.places k w) (λ k1 w1. filled_from (context u order) (n + 1) os k1 w1) j x
    (λ i y f g.
    let b = fill_sound E u order T n (size_of (context u order).unit.tags o.of) o.places (first (still_places o.places) (still_objects os) h) t.0 k i w y s (omega (arith, l)) f in
    let m = b.made in
    filled_sound E u order T (n + 1) os (rest (still_places o.places) (still_objects os) h) t.1 i j y x b.sound (omega (arith, l, m)) g)
    e

pub start_sound : RunStaysSound → ExecStaysSound → (u : UnitTree) (order : Order) → IsTameUnit u → (w : World) → still_objects u.objects ≡ true → started (setting u order (λ k a. call u order k a)) [] 0 ≡ Next 0 w → IsSound u w
unfolding context
start_sound R E u order T w h e =
    let m = first_made u in
    filled_sound E u order T 0 u.objects h T.objects 0 0 (first_world u []) w (first_sound R u order T.texts) (omega (arith, m)) e
