-- The texts of functions and objects in order.
use Rattle.std.proofs.Common.{◌≡◌, ℕ, ◌+◌, ◌<◌, List, [], ◌∷◌, ◌++◌, length, get_or, drop, map, refl, sym, ap, ◌∙◌}
use Rattle.std.specs.Prelude.{if◌then◌else◌}
use Rattle.std.proofs.lemmas.List.{at_drop_more}
use Rattle.c_types.specs.Table.{Table, types}
use Rattle.c_meaning.specs.Units.{function_seen, is_same_among, object_seen}
use Rattle.c_check_decl.specs.declared.declares.DefinedObject.{DefinedObject}
use Rattle.c_check_decl.specs.Declares.{defined_in}
use Rattle.c_unit_parts.specs.declared.DefinedFunction.{DefinedFunction}
use Rattle.c_unit_parts.specs.declared.UnitParts.{UnitParts}
use Rattle.c_unit_parts.specs.PartsIn.{function_in, parts_in}
use Rattle.c_units.specs.Wholes.{function_literals, object_literals, once, place_literals, stmt_literals, texts_of}

-- more texts come behind what the first ones make
pub once_append : (b xs ys : List (List ℕ)) → once b (xs ++ ys) ≡ once (once b xs) ys
once_append b [] ys = refl
once_append b (t ∷ ts) ys = once_append (if is_same_among t b then b else b ++ t ∷ []) ts ys

module _ (t : Table) where
  pub functions_more : (before now : List (List ℕ)) (fs : List DefinedFunction) (i : ℕ) (f : DefinedFunction) → i < length fs → f ≡ get_or fs i f → now ≡ once before (stmt_literals (function_seen (types t) f.function).body)
      → once now (function_literals (map (function_in t) (drop (i + 1) fs))) ≡ once before (function_literals (map (function_in t) (drop i fs)))
  functions_more before now fs i f l e h =
      let rest = function_literals (map (function_in t) (drop (i + 1) fs)) in
      ap (λ xs. once xs rest) h
      ∙ sym (once_append before (stmt_literals (function_seen (types t) f.function).body) rest)
      ∙ ap (λ (g : DefinedFunction). once before (function_literals (map (function_in t) (g ∷ drop (i + 1) fs)))) e
      ∙ sym (at_drop_more (λ (zs : List DefinedFunction). once before (function_literals (map (function_in t) zs))) fs i f l)

  pub objects_more : (before now : List (List ℕ)) (os : List DefinedObject) (i : ℕ) (o : DefinedObject) → i < length os → o ≡ get_or os i o → now ≡ once before (place_literals (object_seen (types t) o.object).places)
      → once now (object_literals (map (defined_in t) (drop (i + 1) os))) ≡ once before (object_literals (map (defined_in t) (drop i os)))
  objects_more before now os i o l e h =
      let rest = object_literals (map (defined_in t) (drop (i + 1) os)) in
      ap (λ xs. once xs rest) h
      ∙ sym (once_append before (place_literals (object_seen (types t) o.object).places) rest)
      ∙ ap (λ (p : DefinedObject). once before (object_literals (map (defined_in t) (p ∷ drop (i + 1) os)))) e
      ∙ sym (at_drop_more (λ (zs : List DefinedObject). once before (object_literals (map (defined_in t) zs))) os i o l)

  -- those of the functions, then those of the objects
  pub noted_is : (u : UnitParts) (fs : List DefinedFunction) (os : List DefinedObject) (first between last : List (List ℕ)) → first ≡ [] → fs ≡ u.functions → os ≡ u.objects
      → between ≡ once first (function_literals (map (function_in t) fs)) → last ≡ once between (object_literals (map (defined_in t) os)) → last ≡ texts_of (parts_in t u)
  noted_is u fs os first between last n f o h k =
      let functions : between ≡ once [] (function_literals (map (function_in t) u.functions)) = h ∙ (λ j. once (n j) (function_literals (map (function_in t) (f j)))) in
      k ∙ (λ j. once (functions j) (object_literals (map (defined_in t) (o j)))) ∙ sym (once_append [] (function_literals (map (function_in t) u.functions)) (object_literals (map (defined_in t) u.objects)))
