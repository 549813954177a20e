-- What a unit has stays when a table grows, with objects behind it.
use Rattle.std.proofs.Common.{◌≡◌, ℕ, List, [], ◌∷◌, ◌++◌, length, map, refl, ap, arith}
use Rattle.c_types.specs.Table.{Table, Extends, type_at}
use Rattle.c_meaning.specs.Declarations.{Declares as DeclaresTrees, Defined}
use Rattle.c_meaning.specs.StmtTrees.{stmt_of}
use Rattle.c_values.specs.Stays.{longer}
use Rattle.c_check_decl.specs.declared.declares.Declares.{Declares}
use Rattle.c_check_decl.specs.declared.declares.LinkedName.{LinkedName}
use Rattle.c_check_decl.specs.Declares.{AreDeclaredIn, AreLinkedIn, AreLocalsIn, AreObjectsIn, defined_in, linked_in}
use Rattle.c_check_decl.proofs.lemmas.DeclaresStay.{declares_later, declares_stay}
use Rattle.c_check_decl.proofs.lemmas.StmtsStay.{stmt_later, stmt_stays}
use Rattle.c_unit_parts.specs.declared.DefinedFunction.{DefinedFunction}
use Rattle.c_unit_parts.specs.declared.UnitParts.{UnitParts}
use Rattle.c_unit_parts.specs.PartsIn.{AreFunctionsIn, ArePartsIn, function_in, parts_in}

abbrev beside : List ℕ → List LinkedName → Declares
beside ts ls = record { objects = []; locals = ts; fills = []; linked = ls }

beside_in : (n : ℕ) (ts : List ℕ) (ls : List LinkedName) → AreLocalsIn n ts → AreLinkedIn n ls → AreDeclaredIn n (beside ts ls)
beside_in n ts ls i j = record { objects = tt; locals = i; fills = tt; linked = j }

module _ (a b : Table) (h : Extends a b) where
  locals_stay : (ts : List ℕ) → AreLocalsIn (length a.forms) ts → map (type_at b) ts ≡ map (type_at a) ts
  locals_stay ts i = ap (λ (d : DeclaresTrees). d.locals) (declares_stay a b h (beside ts []) (beside_in (length a.forms) ts [] i tt))

  linked_stay : (ls : List LinkedName) → AreLinkedIn (length a.forms) ls → map (linked_in b) ls ≡ map (linked_in a) ls
  linked_stay ls i = ap (λ (d : DeclaresTrees). d.linked) (declares_stay a b h (beside [] ls) (beside_in (length a.forms) [] ls tt i))

  functions_stay : (fs : List DefinedFunction) → AreFunctionsIn (length a.forms) fs → map (function_in b) fs ≡ map (function_in a) fs
  functions_stay [] i = refl
  functions_stay (f ∷ fs) i = rw (h.types_stay f.function.of i.0.of, locals_stay f.function.locals i.0.locals, stmt_stays a b h (stmt_of f.function.body) i.0.body, functions_stay fs i.1) refl

  functions_later : (fs : List DefinedFunction) → AreFunctionsIn (length a.forms) fs → AreFunctionsIn (length b.forms) fs
  functions_later [] i = tt
  functions_later (f ∷ fs) i = (
    record {
      of = (let l = i.0.of in let m = longer a b h in omega arith);
      locals = (declares_later a b h (beside f.function.locals []) (beside_in (length a.forms) f.function.locals [] i.0.locals tt)).locals;
      body = stmt_later a b h (stmt_of f.function.body) i.0.body;
    },
    functions_later fs i.1,
  )

  pub parts_stay : (p new : UnitParts) (more : List Defined) → ArePartsIn (length a.forms) p → new.functions ≡ p.functions → new.linked ≡ p.linked → map (defined_in b) new.objects ≡ map (defined_in a) p.objects ++ more
      → parts_in b new ≡ record { functions = map (function_in a) p.functions; objects = map (defined_in a) p.objects ++ more; linked = map (linked_in a) p.linked }
  parts_stay p new more i e f g = rw (e, f, g, functions_stay p.functions i.functions, linked_stay p.linked i.linked) refl

  pub parts_later : (p new : UnitParts) → ArePartsIn (length a.forms) p → new.functions ≡ p.functions → new.linked ≡ p.linked → AreObjectsIn (length b.forms) new.objects → ArePartsIn (length b.forms) new
  parts_later p new i e f g =
      record {
        functions = rw e (functions_later p.functions i.functions);
        objects = g;
        linked = rw f (declares_later a b h (beside [] p.linked) (beside_in (length a.forms) [] p.linked tt i.linked)).linked;
      }
