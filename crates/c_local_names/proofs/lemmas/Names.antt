-- What holds of each name in an expression holds of each name in its value, and in what conversions make of it.
use Rattle.std.proofs.Common.{List, [], ◌∷◌}
use Rattle.std.specs.Prelude.{if◌then◌else◌}
use Rattle.c_types.specs.CType.{CType, Plain, Array, Kind, Simple, Void, Pointer, Function, Structure, Union, Enumeration}
use Rattle.c_meaning.specs.declared.core_expr.CoreKind.{CoreKind}
use Rattle.c_meaning.specs.declared.core_expr.CoreKind.TheVariants as kind
use Rattle.c_meaning.specs.CoreTrees.{Core, NoCore, Cores, line_of, one, type_of}
use Rattle.c_meaning.specs.Rows.{stored}
use Rattle.c_meaning.specs.Scalars.{conversion_to}
use Rattle.c_meaning.specs.StmtTrees.{FilledOf}
use Rattle.c_meaning.specs.Types.{is_record, pointer_to}
use Rattle.c_meaning.specs.Values.{CoreTree, CoreTrees, converted, is_lvalue, is_place, promoted_type, promoted_value, same_simple, value, value_by}
use Rattle.c_typing_steps.specs.Names.{EachName, EachNameOf, EachNameStored, IfName}
use Rattle.c_fits.proofs.lemmas.Values.{chosen_by}

-- ---- of another property

module _ (P Q : CoreKind → CType → Type 0) (f : (what : CoreKind) (of : CType) → IfName P what of → IfName Q what of) where
  mutual
    pub each_name : (c : CoreTree) → EachName P c → EachName Q c
    each_name (Core what of line kids) h = (f what of h.0, each_name_of kids h.1)

    pub each_name_of : (cs : CoreTrees) → EachNameOf P cs → EachNameOf Q cs
    each_name_of NoCore h = tt
    each_name_of (Cores c cs) h = (each_name c h.0, each_name_of cs h.1)

  pub each_name_stored : (ps : List (FilledOf CType)) → EachNameStored P ps → EachNameStored Q ps
  each_name_stored [] h = tt
  each_name_stored (p ∷ ps) h = (each_name p.value h.0, each_name_stored ps h.1)

-- ---- values

module _ (P : CoreKind → CType → Type 0) where
  read_names : (c : CoreTree) (q : Kind) → EachName P c → EachName P (if is_place c then Core kind.Read (Plain 0 q) (line_of c) (one c) else c)
  read_names c q h = chosen_by (EachName P) (is_place c) (Core kind.Read (Plain 0 q) (line_of c) (one c)) c (λ e. (tt, (h, tt))) (λ e. h)

  by_names : (t : CType) (c : CoreTree) → EachName P c → EachName P (value_by t c)
  by_names (Array of n) c h = chosen_by (EachName P) (is_lvalue c) (Core kind.First (pointer_to of) (line_of c) (one c)) c (λ e. (tt, (h, tt))) (λ e. h)
  by_names (Plain q (Function r ps)) c h = (tt, (h, tt))
  by_names (Plain q (Structure n)) c h = h
  by_names (Plain q (Union n)) c h = h
  by_names (Plain q (Simple Void)) c h = h
  by_names (Plain q (Simple b)) c h = read_names c (Simple b) h
  by_names (Plain q (Pointer to)) c h = read_names c (Pointer to) h
  by_names (Plain q (Enumeration n)) c h = read_names c (Enumeration n) h

  pub value_names : (c : CoreTree) → EachName P c → EachName P (value c)
  value_names c h = by_names (type_of c) c h

  pub converted_names : (to : CType) (c : CoreTree) → EachName P c → EachName P (converted to c)
  converted_names to c h = chosen_by (EachName P) (same_simple to (type_of c)) c (Core (kind.Convert (conversion_to to)) to (line_of c) (one c)) (λ e. h) (λ e. (tt, (h, tt)))

  pub promoted_names : (c : CoreTree) → EachName P c → EachName P (promoted_value c)
  promoted_names c h = converted_names (promoted_type c) c h

  pub stored_names : (to : CType) (c : CoreTree) → EachName P c → EachName P (stored to c)
  stored_names to c h = chosen_by (EachName P) (is_record to) c (converted to c) (λ e. h) (λ e. converted_names to c h)
