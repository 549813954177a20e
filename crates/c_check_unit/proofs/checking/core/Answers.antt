use Rattle.std.proofs.Common.{List, ℕ, ◌<◌, ◌+◌, length, map, refl, subst, sym}
use Rattle.std.proofs.lemmas.List.{length-map}
use Rattle.c_types.specs.Table.{types}
use Rattle.c_meaning.specs.declared.core_unit.CoreFunction.{CoreFunction}
use Rattle.c_meaning.specs.declared.core_unit.CoreObject.{CoreObject}
use Rattle.c_meaning.specs.Each.{EachIs}
use Rattle.c_meaning.specs.Numbers.{IsText}
use Rattle.c_meaning.specs.Units.{function_seen, object_seen, total}
use Rattle.c_units.specs.Wholes.{FunctionHasWords, ObjectHasWords}
use Rattle.c_check_unit.proofs.checking.core.Goals as goal

pub new-requires : goal.new-requires
new-requires c =
    let u = c.args.u in
    let h = c.if-not-is_numbered.ensures in
    let few : (List CoreFunction) → (List CoreObject) → (List (List ℕ)) → Type 0 = λ fs os ts. total (map (function_seen (types u.types)) fs) + (length os + length ts) < 2147483648 in
    record {
      unit =
          c.requires.unit (record {
            functions = subst (λ (fs : List CoreFunction). EachIs FunctionHasWords (map (function_seen (types u.types)) fs)) c.as_slice.ensures (h.functions refl u.types);
            objects = subst (λ (os : List CoreObject). EachIs ObjectHasWords (map (object_seen (types u.types)) os)) c.as_slice-2.ensures (h.objects refl u.types);
            bytes = subst (EachIs IsText) c.as_slice-3.ensures (h.texts refl);
            few =
                subst (λ n. total (map (function_seen (types u.types)) u.functions) + (n + length u.texts) < 2147483648) (sym (length-map u.objects (object_seen (types u.types))))
                (subst (few u.functions u.objects) c.as_slice-3.ensures
                (subst (λ os. few u.functions os c.as_slice-3.result.now) c.as_slice-2.ensures
                (subst (λ fs. few fs c.as_slice-2.result.now c.as_slice-3.result.now) c.as_slice.ensures (h.few refl u.types))));
          });
      functions = c.requires.functions;
      objects = c.requires.objects;
    }
