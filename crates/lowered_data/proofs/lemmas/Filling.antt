-- Objects filled with values that neither call nor change anything: what comes depends on the objects that live alone.
use Rattle.std.specs.Prelude.{◌≡◌, ℕ, ◌+◌, Bool, true, false, ◌&&◌, pos, List, [], ◌∷◌, ◌++◌, length, map, replicate, Result as Checked, Ok, Err}
use Rattle.std.proofs.Common.{refl, ap, sym, ◌∙◌, arith}
use Rattle.lcc_base.specs.declared.cause.Cause.{Cause}
use Rattle.lcc_base.specs.declared.cause.Cause.TheVariants.{NoResult}
use Rattle.lcc_base.specs.declared.order.Order.{Order}
use Rattle.objects.specs.declared.value.Value.{Value}
use Rattle.objects.specs.Bytes.{known_bytes}
use Rattle.objects.specs.Objects.{Object}
use Rattle.objects.specs.Pointers.{place_after}
use Rattle.c_types.specs.CType.{CType}
use Rattle.c_types.specs.Constness.{is_const}
use Rattle.c_types.specs.Layout.{Tag}
use Rattle.c_types.specs.Table.{type_in}
use Rattle.c_meaning.specs.declared.core_unit.CoreObject.{CoreObject}
use Rattle.c_meaning.specs.declared.filled_place.FilledPlace.{FilledPlace}
use Rattle.c_meaning.specs.CoreTrees.{CoreOf, Core, CoresOf, NoCore, Cores, line_of, seen, all_seen}
use Rattle.c_meaning.specs.StmtTrees.{FilledOf, filled_of, place_seen}
use Rattle.c_meaning.specs.Units.{ObjectTree, UnitTree, object_seen}
use Rattle.c_runs.specs.Worlds.{World, objects, with_objects, with_input, made}
use Rattle.c_runs.specs.Outcomes.{How, Result, Gives, GivesNone, Ends, Undefined, Out, Next, Break, Continue, Return, Goto, Over, then_do, then_next, if_done}
use Rattle.c_runs.specs.Calls.{Call, Setting}
use Rattle.c_runs.specs.Expressions.{eval}
use Rattle.c_runs.specs.Places.{size_of, static_place}
use Rattle.c_runs.specs.Statements.{fill, filled}
use Rattle.c_runs.specs.Run.{setting, empty_world, filled_from, started, with_objects_of, with_texts}
use Rattle.lowered_data.specs.Initial.{StartsIn}
use Rattle.lowered_data.specs.Still.{is_still_kind, is_still, are_still, are_still_places, are_still_objects}
use Rattle.lowered_data.proofs.lemmas.Still.{in_world, IsStill, eval_still}

-- ---- trees whose values are such

abbrev pub still_places : List (FilledOf CType) → Bool
still_places [] = true
still_places (p ∷ ps) = is_still p.value && still_places ps

abbrev pub still_objects : List ObjectTree → Bool
still_objects [] = true
still_objects (o ∷ os) = still_places o.places && still_objects os

mutual
  seen_still : (known : ℕ → CType) (c : CoreOf ℕ) → is_still (seen known c) ≡ is_still c
  seen_still known (Core what of line kids) = ap (λ b. is_still_kind what && b) (all_seen_still known kids)

  all_seen_still : (known : ℕ → CType) (cs : CoresOf ℕ) → are_still (all_seen known cs) ≡ are_still cs
  all_seen_still known NoCore = refl
  all_seen_still known (Cores c cs) = ap (λ b. b && are_still (all_seen known cs)) (seen_still known c) ∙ ap (λ b. is_still c && b) (all_seen_still known cs)

places_still : (known : ℕ → CType) (ps : List FilledPlace) → still_places (map (λ p. place_seen known (filled_of p)) ps) ≡ are_still_places ps
places_still known [] = refl
places_still known (p ∷ ps) = ap (λ b. b && still_places (map (λ q. place_seen known (filled_of q)) ps)) (seen_still known p.value) ∙ ap (λ b. is_still p.value && b) (places_still known ps)

pub objects_still : (ts : List CType) (os : List CoreObject) → still_objects (map (object_seen ts) os) ≡ are_still_objects os
objects_still ts [] = refl
objects_still ts (o ∷ os) = ap (λ b. b && still_objects (map (object_seen ts) os)) (places_still (type_in ts) o.places) ∙ ap (λ b. are_still_places o.places && b) (objects_still ts os)

first : (a b : Bool) → (a && b) ≡ true → a ≡ true
first true b e = refl
first false b e = absurd (let never : ⊥ = cc in never)

rest : (a b : Bool) → (a && b) ≡ true → b ≡ true
rest true b e = e
rest false b e = absurd (let never : ⊥ = cc in never)

-- ---- what comes of filling

-- the same from another world on, with other objects
abbrev pub out_in : World → Out → Out
out_in x (Next k y) = Next k (with_objects x (objects y))
out_in x (Break k y) = Break k (with_objects x (objects y))
out_in x (Continue k y) = Continue k (with_objects x (objects y))
out_in x (Return v line k y) = Return v line k (with_objects x (objects y))
out_in x (Goto l k y) = Goto l k (with_objects x (objects y))
out_in x (Over how y) = Over how (with_objects x (objects y))

pub record Fills (act : ℕ → World → Out) : Type 0 where
  pub by : (k : ℕ) (w x : World) → objects w ≡ objects x → act k x ≡ out_in x (act k w)

same_world : (w x : World) → objects w ≡ objects x → x ≡ with_objects x (objects w)
same_world w x e = ap (λ os. with_objects x os) (sym e)

next_fills : Fills (λ k w. Next k w)
next_fills = record { by = λ k w x e. ap (λ (z : World). Next k z) (same_world w x e) }

world_is : (v : Value) (k : ℕ) (y w : World) → ◌≡◌ {A = Result} (Gives v k y) (Gives v k w) → y ≡ w
world_is v k y w e = cc

none_is : (line k : ℕ) (y w : World) → ◌≡◌ {A = Result} (GivesNone line k y) (GivesNone line k w) → y ≡ w
none_is line k y w e = cc

end_world : (how : How) (y w : World) → ◌≡◌ {A = Result} (Ends how y) (Ends how w) → y ≡ w
end_world how y w e = cc

done : (w x : World) (r : Result) (go : Value → ℕ → World → Out) → objects w ≡ objects x → r ≡ in_world w r → ((v : Value) → Fills (go v)) → then_do (in_world x r) go ≡ out_in x (then_do r go)
done w x (Gives v k y) go e s g = (g v).by k w x e ∙ ap (λ (z : World). out_in x (go v k z)) (sym (world_is v k y w s))
done w x (GivesNone line k y) go e s g = ap (λ (z : World). Over (Undefined NoResult line) z) (same_world w x e ∙ ap (λ (z : World). with_objects x (objects z)) (sym (none_is line k y w s)))
done w x (Ends how y) go e s g = ap (λ (z : World). Over how z) (same_world w x e ∙ ap (λ (z : World). with_objects x (objects z)) (sym (end_world how y w s)))

do_fills : (act : ℕ → World → Result) (go : Value → ℕ → World → Out) → IsStill act → ((v : Value) → Fills (go v)) → Fills (λ k w. then_do (act k w) go)
do_fills act go a g = record { by = λ k w x e. ap (λ r. then_do r go) (a.by k w x e) ∙ done w x (act k w) go e (a.by k w w refl) g }

forgets : (x : World) (os : List Object) (o : Out) → out_in (with_objects x os) o ≡ out_in x o
forgets x os (Next k y) = refl
forgets x os (Break k y) = refl
forgets x os (Continue k y) = refl
forgets x os (Return v line k y) = refl
forgets x os (Goto l k y) = refl
forgets x os (Over how y) = refl

written : (w x : World) (c : Checked (List Object) Cause) (line k : ℕ) (go : ℕ → World → Out) → objects w ≡ objects x → Fills go → if_done c line x (λ os. go k (with_objects x os)) ≡ out_in x (if_done c line w (λ os. go k (with_objects w os)))
written w x (Ok os) line k go e g = g.by k (with_objects w os) (with_objects x os) refl ∙ forgets x os (go k (with_objects w os))
written w x (Err cause) line k go e g = ap (λ (z : World). Over (Undefined cause line) z) (same_world w x e)

written_fills : (c : List Object → Checked (List Object) Cause) (line : ℕ) (go : ℕ → World → Out) → Fills go → Fills (λ k w. if_done (c (objects w)) line w (λ os. go k (with_objects w os)))
written_fills c line go g = record { by = λ k w x e. ap (λ ys. if_done (c ys) line x (λ os. go k (with_objects x os))) (sym e) ∙ written w x (c (objects w)) line k go e g }

pub fill_fills : (s : Setting) (base : Value) (ps : List (FilledOf CType)) → still_places ps ≡ true → Fills (λ k w. fill s base ps k w)
fill_fills s base [] h = next_fills
fill_fills s base (p ∷ ps) h =
    do_fills (λ k w. eval s p.value k w) _ (eval_still s p.value (first (is_still p.value) (still_places ps) h))
    (λ v. written_fills (λ os. filled s p (place_after base (pos p.offset)) v os) (line_of p.value) (λ k w. fill s base ps k w) (fill_fills s base ps (rest (is_still p.value) (still_places ps) h)))

-- ---- the start

sequenced : (x : World) (o : Out) (go : ℕ → World → Out) → Fills go → then_next (out_in x o) go ≡ out_in x (then_next o go)
sequenced x (Next k y) go g = g.by k y (with_objects x (objects y)) refl ∙ forgets x (objects y) (go k y)
sequenced x (Break k y) go g = refl
sequenced x (Continue k y) go g = refl
sequenced x (Return v line k y) go g = refl
sequenced x (Goto l k y) go g = refl
sequenced x (Over how y) go g = refl

next_of : (act : ℕ → World → Out) (go : ℕ → World → Out) → Fills act → Fills go → Fills (λ k w. then_next (act k w) go)
next_of act go a g = record { by = λ k w x e. ap (λ o. then_next o go) (a.by k w x e) ∙ sequenced x (act k w) go g }

pub filled_fills : (s : Setting) (n : ℕ) (os : List ObjectTree) → still_objects os ≡ true → Fills (λ k w. filled_from s n os k w)
filled_fills s n [] h = next_fills
filled_fills s n (o ∷ os) h =
    next_of (λ k w. fill s (static_place n (size_of s.unit.tags o.of)) o.places k w) (λ k w. filled_from s (n + 1) os k w)
    (fill_fills s (static_place n (size_of s.unit.tags o.of)) o.places (first (still_places o.places) (still_objects os) h))
    (filled_fills s (n + 1) os (rest (still_places o.places) (still_objects os) h))

-- the world before anything is filled
abbrev pub first_world : UnitTree → List ℕ → World
first_world u input = with_texts u.texts (with_objects_of u.tags u.objects (empty_world input))

texts_input : (ts : List (List ℕ)) (w : World) (i : List ℕ) → with_texts ts (with_input w i) ≡ with_input (with_texts ts w) i
texts_input [] w i = refl
texts_input (t ∷ ts) w i = texts_input ts (made true (known_bytes (t ++ 0 ∷ [])) w) i

objects_input : (tags : List Tag) (os : List ObjectTree) (w : World) (i : List ℕ) → with_objects_of tags os (with_input w i) ≡ with_input (with_objects_of tags os w) i
objects_input tags [] w i = refl
objects_input tags (o ∷ os) w i = objects_input tags os (made (is_const o.of) (known_bytes (replicate (size_of tags o.of) 0)) w) i

first_is : (u : UnitTree) (input : List ℕ) → first_world u input ≡ with_input (first_world u []) input
first_is u input = ap (λ w. with_texts u.texts w) (objects_input u.tags u.objects (empty_world []) input) ∙ texts_input u.texts (with_objects_of u.tags u.objects (empty_world [])) input

pub objects_made : (tags : List Tag) (os : List ObjectTree) (w : World) → (with_objects_of tags os w).storage.made ≡ w.storage.made + length os
objects_made tags [] w = omega arith
objects_made tags (o ∷ os) w = let h = objects_made tags os (made (is_const o.of) (known_bytes (replicate (size_of tags o.of) 0)) w) in h ∙ omega arith

texts_made : (ts : List (List ℕ)) (w : World) → (with_texts ts w).storage.made ≡ w.storage.made + length ts
texts_made [] w = omega arith
texts_made (x ∷ ts) w = let h = texts_made ts (made true (known_bytes (x ++ 0 ∷ [])) w) in h ∙ omega arith

pub first_made : (u : UnitTree) → (first_world u []).storage.made ≡ length u.objects + length u.texts
first_made u = let a = objects_made u.tags u.objects (empty_world []) in let b = texts_made u.texts (with_objects_of u.tags u.objects (empty_world [])) in omega (arith, a, b)

next_is : (k : ℕ) (w x : World) → ◌≡◌ {A = Out} (Next k w) (Next k x) → w ≡ x
next_is k w x e = cc

-- the world that is come to has other objects alone
pub only_objects : (act : ℕ → World → Out) (k : ℕ) (w x : World) (j : ℕ) → Fills act → act k w ≡ Next j x → x ≡ with_objects w (objects x)
only_objects act k w x j f e = next_is j x (with_objects w (objects x)) (sym e ∙ f.by k w w refl ∙ ap (λ o. out_in w o) e)

starts_with : (u : UnitTree) (order : Order) (calls : ℕ → Call → Result) (w : World) (input : List ℕ) (k : ℕ) → still_objects u.objects ≡ true → started (setting u order calls) [] k ≡ Next k w → started (setting u order calls) input k ≡ Next k (with_input w input)
starts_with u order calls w input k h e =
    let s : Setting = setting u order calls in
    let f = filled_fills s 0 u.objects h in
    let old : World = first_world u [] in
    let new : World = first_world u input in
    f.by k old new (sym (ap objects (first_is u input)))
    ∙ ap (λ o. out_in new o) e
    ∙ ap (λ (x : World). Next k (with_objects x (objects w))) (first_is u input)
    ∙ ap (λ (x : World). Next k (with_input x input)) (sym (only_objects (λ k1 w1. filled_from s 0 u.objects k1 w1) k old w k f e))

pub stands_alone : (u : UnitTree) (order : Order) (w : World) → still_objects u.objects ≡ true → ((calls : ℕ → Call → Result) (k : ℕ) → started (setting u order calls) [] k ≡ Next k w) → StartsIn u order w
stands_alone u order w h e = λ calls input k. starts_with u order calls w input k h (e calls k)

no_calls : ℕ → Call → Result
no_calls k a = GivesNone 0 k a.world

pub just_made : (u : UnitTree) (order : Order) (w : World) → still_objects u.objects ≡ true → ((calls : ℕ → Call → Result) (k : ℕ) → started (setting u order calls) [] k ≡ Next k w) → w.storage.made ≡ length u.objects + length u.texts
just_made u order w h e =
    let s : Setting = setting u order no_calls in
    ap (λ (x : World). x.storage.made) (only_objects (λ k w1. filled_from s 0 u.objects k w1) 0 (first_world u []) w 0 (filled_fills s 0 u.objects h) (e no_calls 0))
    ∙ first_made u
