-- Functions and objects one behind the other: those that are whole, and what those that are left become.
use Rattle.std.proofs.Common.{◌≡◌, ℕ, suc, ◌+◌, Bool, List, [], ◌∷◌, ◌++◌, length, map, sym, ap, ◌∙◌, append_assoc, arith, subst, ◌<◌}
use Rattle.std.proofs.lemmas.List.{append-nil, length-append, map-append}
use Rattle.c_types.specs.Table.{Table, AreBelow, types}
use Rattle.c_meaning.specs.declared.core_expr.CoreKind.{CoreKind}
use Rattle.c_meaning.specs.declared.core_unit.CoreFunction.{CoreFunction}
use Rattle.c_meaning.specs.declared.core_unit.CoreObject.{CoreObject}
use Rattle.c_meaning.specs.declared.filled_place.FilledPlace.{FilledPlace}
use Rattle.c_meaning.specs.Each.{EachIs}
use Rattle.c_meaning.specs.StmtTrees.{ArePlacesIn as ArePlacesBelow, filled_of}
use Rattle.c_meaning.specs.State.{State}
use Rattle.c_meaning.specs.Units.{FunctionTree, IsObjectIn, ObjectTree, function_seen, object_seen}
use Rattle.c_check_decl.specs.declared.declares.DefinedObject.{DefinedObject}
use Rattle.c_check_decl.specs.Declares.{AreLocalsIn, AreObjectsIn, IsObjectIn as IsOneIn, defined_in}
use Rattle.c_unit_parts.specs.declared.DefinedFunction.{DefinedFunction}
use Rattle.c_unit_parts.specs.PartsIn.{function_in}
use Rattle.c_units.specs.Ends.{is_link}
use Rattle.c_units.specs.Wholes.{whole_function, whole_functions, whole_object, whole_objects}

pub locals_below : (n : ℕ) (ts : List ℕ) → AreLocalsIn n ts → AreBelow n ts
locals_below n [] h = tt
locals_below n (t ∷ ts) h = (h.0, locals_below n ts h.1)

-- ---- functions

module _ (t : Table) (meant : ℕ → CoreKind) (texts : List (List ℕ)) where
  abbrev wholes : List DefinedFunction → List FunctionTree
  wholes fs = whole_functions meant texts (map (function_in t) fs)

  pub functions_turn : (done : List CoreFunction) (g : CoreFunction) (f : DefinedFunction) (rest items : List DefinedFunction) (all : List FunctionTree) → items ≡ f ∷ rest → function_seen (types t) g ≡ whole_function meant texts (function_seen (types t) f.function)
      → map (function_seen (types t)) done ++ wholes items ≡ all → map (function_seen (types t)) (done ++ g ∷ []) ++ wholes rest ≡ all
  functions_turn done g f rest items all s e h =
      ap (λ l. l ++ wholes rest) (map-append (function_seen (types t)) done (g ∷ []))
      ∙ append_assoc (map (function_seen (types t)) done) (function_seen (types t) g ∷ []) (wholes rest)
      ∙ ap (λ x. map (function_seen (types t)) done ++ (x ∷ wholes rest)) e
      ∙ ap (λ fs. map (function_seen (types t)) done ++ wholes fs) (sym s)
      ∙ h

  pub functions_end : (done : List CoreFunction) (rest : List DefinedFunction) (all : List FunctionTree) → length rest ≡ 0 → map (function_seen (types t)) done ++ wholes rest ≡ all → map (function_seen (types t)) done ≡ all
  functions_end done [] all n h = sym (append-nil (map (function_seen (types t)) done)) ∙ h
  functions_end done (f ∷ rest) all n h = absurd (omega (arith, n))

-- ---- objects

module _ (t : Table) (s : State) (meant : ℕ → CoreKind) (texts : List (List ℕ)) where
  abbrev objects : ℕ → List DefinedObject → List ObjectTree
  objects place os = whole_objects s meant texts place (map (defined_in t) os)

  more_place : (done : List CoreObject) (g : CoreObject) → length (done ++ g ∷ []) ≡ suc (length done)
  more_place done g = let e : length (done ++ g ∷ []) ≡ length done + 1 = length-append done (g ∷ []) in omega (arith, e)

  pub objects_turn : (done : List CoreObject) (g : CoreObject) (o : DefinedObject) (linked : Bool) (rest items : List DefinedObject) (all : List ObjectTree) → items ≡ o ∷ rest → linked ≡ is_link s.links o.symbol
      → object_seen (types t) g ≡ whole_object meant texts linked (length done) (object_seen (types t) o.object)
      → map (object_seen (types t)) done ++ objects (length done) items ≡ all → map (object_seen (types t)) (done ++ g ∷ []) ++ objects (length (done ++ g ∷ [])) rest ≡ all
  objects_turn done g o linked rest items all i l e h =
      ap (λ (n : ℕ). map (object_seen (types t)) (done ++ g ∷ []) ++ objects n rest) (more_place done g)
      ∙ ap (λ l. l ++ objects (suc (length done)) rest) (map-append (object_seen (types t)) done (g ∷ []))
      ∙ append_assoc (map (object_seen (types t)) done) (object_seen (types t) g ∷ []) (objects (suc (length done)) rest)
      ∙ ap (λ x. map (object_seen (types t)) done ++ (x ∷ objects (suc (length done)) rest)) (e ∙ ap (λ (b : Bool). whole_object meant texts b (length done) (object_seen (types t) o.object)) l)
      ∙ ap (λ os. map (object_seen (types t)) done ++ objects (length done) os) (sym i)
      ∙ h

  pub objects_end : (done : List CoreObject) (rest : List DefinedObject) (all : List ObjectTree) → length rest ≡ 0 → map (object_seen (types t)) done ++ objects (length done) rest ≡ all → map (object_seen (types t)) done ≡ all
  objects_end done [] all n h = sym (append-nil (map (object_seen (types t)) done)) ∙ h
  objects_end done (o ∷ rest) all n h = absurd (omega (arith, n))

-- ---- their types stand in the table

pub each_behind : {A : Type 0} (is : A → Type 0) (xs : List A) (x : A) → EachIs is xs → is x → EachIs is (xs ++ x ∷ [])
each_behind is [] x h i = (i, tt)
each_behind is (y ∷ xs) x h i = (h.0, each_behind is xs x h.1 i)

places_below : (n : ℕ) (o : CoreObject) (ps : List FilledPlace) → IsOneIn n (record o { places = ps }) → ArePlacesBelow n (map filled_of ps)
places_below n o [] h = tt
places_below n o (p ∷ ps) h = (h.1.0, places_below n o ps (h.0, h.1.1))

pub objects_placed : (n : ℕ) (done all : List CoreObject) (g : CoreObject) (o : DefinedObject) (rest items : List DefinedObject) → items ≡ o ∷ rest → all ≡ done ++ g ∷ [] → g.of ≡ o.object.of
    → (ArePlacesBelow n (map filled_of o.object.places) → ArePlacesBelow n (map filled_of g.places)) → EachIs (IsObjectIn n) done × AreObjectsIn n items → EachIs (IsObjectIn n) all × AreObjectsIn n rest
objects_placed n done all g o rest items s p e f h =
    let next : IsOneIn n o.object × AreObjectsIn n rest = subst (AreObjectsIn n) s h.1 in
    (subst (EachIs (IsObjectIn n)) (sym p) (each_behind (IsObjectIn n) done g h.0 (subst (λ (k : ℕ). k < n) (sym e) next.0.0, f (places_below n o.object o.object.places next.0))), next.1)
