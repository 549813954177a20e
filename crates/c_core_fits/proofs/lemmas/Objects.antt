-- An object that fits keeps what a checked one promises when its unit is made whole.
use Rattle.std.proofs.Common.{◌≡◌, ℕ, suc, Bool, true, false, List, [], ◌∷◌, refl, ◌∙◌}
use Rattle.std.proofs.lemmas.Option.{get_or_from_slice_get}
use Rattle.c_types.specs.CType.{CType, Plain, Array}
use Rattle.c_meaning.specs.declared.core_expr.CoreKind.TheVariants as kind
use Rattle.c_meaning.specs.AddressConstants.{is_static_value}
use Rattle.c_meaning.specs.CoreTrees.{Core, NoCore, Cores}
use Rattle.c_meaning.specs.Declarations.{Defined, or_zero}
use Rattle.c_meaning.specs.Each.{EachIs}
use Rattle.c_meaning.specs.Fits.{AllFit, Fits, IsOpenLeaf}
use Rattle.c_meaning.specs.State.{State}
use Rattle.c_meaning.specs.StmtTrees.{FilledOf}
use Rattle.c_meaning.specs.Types.{is_array}
use Rattle.c_meaning.specs.Units.{AreStatic, IsObject, IsStatic}
use Rattle.c_meaning.specs.Values.{CoreTree, CoreTrees}
use Rattle.c_units.specs.Ends.{is_link, over, place_uses}
use Rattle.c_units.specs.Externals.{Parts}
use Rattle.c_units.specs.Functions.{place_in}
use Rattle.c_units.specs.Wholes.{ObjectHasWords, all_literals, literals, place_literals, stands_for, texts_of, whole, whole_object, whole_objects, whole_places, whole_unit}
use Rattle.c_fits.specs.OpenDeclares.{IsOpenObject}
use Rattle.c_fits.specs.OpenPlaces.{AreOpenFilled}
use Rattle.c_unit_fits.specs.OpenUnits.{IsOpenDefined, IsStaticObject, IsStaticPlace}
use Rattle.c_whole_fits.specs.There.{IsOfFunction}
use Rattle.c_whole_fits.proofs.lemmas.Meant.{symbols_meant}
use Rattle.c_whole_fits.proofs.lemmas.Stored.{whole_of}
use Rattle.c_typing_steps.specs.Names.{EachName, EachNameOf, EachNameStored}
use Rattle.c_linked_names.specs.Laws.{ObjectSymbolsFit}
use Rattle.c_linked_names.specs.LinkedNames.{IfSymbol}
use Rattle.c_local_names.specs.Laws.{NamesNoLocal}
use Rattle.c_core_fits.proofs.lemmas.Again.{objects, symbol_again}
use Rattle.c_core_fits.proofs.lemmas.Found.{IsKnown}
use Rattle.c_core_fits.proofs.lemmas.Lists.{each_left, each_right}
use Rattle.c_core_fits.proofs.lemmas.Statics.{AllReady, AreReady, static_again}
use Rattle.c_core_fits.proofs.lemmas.Texts.{IsText}
use Rattle.c_core_fits.proofs.lemmas.There.{places_there}

-- what is known of an object when its unit ends
pub record ObjectReady (s : State) (p : Parts) (o : Defined) : Type 0 where
  pub fits : IsOpenObject s.tags o
  pub static : IsStaticObject s.tags p.objects o
  pub symbols : ObjectSymbolsFit s p o
  pub own : NamesNoLocal o
  pub known : EachIs (IsKnown s p) (place_uses o.object.places)
  pub texts : EachIs (IsText (texts_of p)) (place_literals o.object.places)

module _ (s : State) (p : Parts) (fits : EachIs (IsOpenDefined s.tags) p.functions) (types : EachIs IsOfFunction (whole_unit s p).functions) where
  abbrev IsReadyTree : CoreTree → Type 0
  IsReadyTree c = AreReady s.tags p.objects (objects s p fits) (texts_of p) (stands_for s p) c

  abbrev AreReadyTrees : CoreTrees → Type 0
  AreReadyTrees cs = AllReady s.tags p.objects (objects s p fits) (texts_of p) (stands_for s p) cs

  mutual
    tree_ready : (c : CoreTree) → Fits IsOpenLeaf s.tags c → EachName (IfSymbol s p) c → EachIs (IsText (texts_of p)) (literals c) → IsReadyTree c
    tree_ready (Core (kind.Symbol id) of line NoCore) f h t = (symbol_again s p fits id of h.0, tt)
    tree_ready (Core (kind.Symbol id) of line (Cores c cs)) f h t = absurd f.1.1
    tree_ready (Core (kind.Literal bytes) of line NoCore) f h t = (get_or_from_slice_get (texts_of p) (or_zero (place_in (texts_of p) bytes)) bytes [] t.0, tt)
    tree_ready (Core (kind.Literal bytes) of line (Cores c cs)) f h t = absurd f.1.1
    tree_ready (Core (kind.Object n) of line NoCore) f h t = absurd f.1.1
    tree_ready (Core (kind.Object n) of line (Cores c cs)) f h t = absurd f.1.1
    tree_ready (Core (kind.Text n) of line NoCore) f h t = absurd f.1.1
    tree_ready (Core (kind.Text n) of line (Cores c cs)) f h t = absurd f.1.1
    tree_ready (Core (kind.Function n) of line NoCore) f h t = absurd f.1.1
    tree_ready (Core (kind.Function n) of line (Cores c cs)) f h t = absurd f.1.1
    tree_ready (Core (kind.BuiltIn b) of line NoCore) f h t = absurd f.1.1
    tree_ready (Core (kind.BuiltIn b) of line (Cores c cs)) f h t = absurd f.1.1
    tree_ready (Core what of line kids) f h t = (tt, trees_ready kids f.0 h.1 t)

    trees_ready : (cs : CoreTrees) → AllFit IsOpenLeaf s.tags cs → EachNameOf (IfSymbol s p) cs → EachIs (IsText (texts_of p)) (all_literals cs) → AreReadyTrees cs
    trees_ready NoCore f h t = tt
    trees_ready (Cores c cs) f h t = (tree_ready c f.0 h.0 (each_left (IsText (texts_of p)) (literals c) (all_literals cs) t), trees_ready cs f.1 h.1 (each_right (IsText (texts_of p)) (literals c) (all_literals cs) t))

  value_static : (of : CType) (c : CoreTree) → IsReadyTree c → (is_array of ≡ false → is_static_value s.tags (over p.objects c) ≡ true) → IsStatic (whole_unit s p) of (whole (stands_for s p) (texts_of p) c)
  value_static (Array of count) c r h = tt
  value_static (Plain q k) c r h = static_again s.tags p.objects (objects s p fits) (texts_of p) (stands_for s p) c r ∙ h refl

  places_static : (size : ℕ) (ps : List (FilledOf CType)) → AreOpenFilled s.tags size ps → EachIs (IsStaticPlace s.tags p.objects) ps → EachNameStored (IfSymbol s p) ps → EachIs (IsText (texts_of p)) (place_literals ps)
      → AreStatic (whole_unit s p) (whole_places (stands_for s p) (texts_of p) ps)
  places_static size [] f k h t = tt
  places_static size (x ∷ xs) f k h t = (
    value_static x.of x.value (tree_ready x.value f.0.0 h.0 (each_left (IsText (texts_of p)) (literals x.value) (place_literals xs) t)) k.0,
    places_static size xs f.1 k.1 h.1 (each_right (IsText (texts_of p)) (literals x.value) (place_literals xs) t),
  )

  object_is : (linked : Bool) (place : ℕ) (o : Defined) → ObjectReady s p o → ObjectHasWords (whole_object (stands_for s p) (texts_of p) linked place o.object)
      → IsObject (whole_unit s p) (whole_object (stands_for s p) (texts_of p) linked place o.object)
  object_is linked place o r w =
      let x = o.object in
      record {
        constant = r.fits.0;
        places =
            whole_of (whole_unit s p) [] (stands_for s p) (texts_of p) (symbols_meant (whole_unit s p) [] s p types) x.of x.places r.fits.1
            (places_there s p [] [] (λ place register of h. h) r.fits.1.0 x.places r.fits.1.2 r.symbols r.own r.known r.texts);
        static = places_static r.fits.1.0 x.places r.fits.1.2 r.static r.symbols r.texts;
        words = w;
      }

  pub objects_are : (place : ℕ) (os : List Defined) → EachIs (ObjectReady s p) os → EachIs ObjectHasWords (whole_objects s (stands_for s p) (texts_of p) place os)
      → EachIs (IsObject (whole_unit s p)) (whole_objects s (stands_for s p) (texts_of p) place os)
  objects_are place [] h w = tt
  objects_are place (o ∷ os) h w = (object_is (is_link s.links o.symbol) place o h.0 w.0, objects_are (suc place) os h.1 w.1)
