-- An expression that fits fits when it is made whole.
use Rattle.std.proofs.Common.{◌≡◌, ℕ, true, false, List, refl, sym, ◌∙◌}
use Rattle.c_types.specs.CType.{CType}
use Rattle.c_types.specs.Layout.{Tag}
use Rattle.c_meaning.specs.declared.core_expr.CoreKind.{CoreKind}
use Rattle.c_meaning.specs.declared.core_expr.CoreKind.TheVariants as kind
use Rattle.c_meaning.specs.CoreTrees.{Core, NoCore, Cores, type_of}
use Rattle.c_meaning.specs.Fits.{AllFit, Fits, IsOpenLeaf, IsRow, are_values_behind, is_value, places_taken}
use Rattle.c_meaning.specs.Types.{is_function}
use Rattle.c_meaning.specs.Values.{CoreTree, CoreTrees, is_place_kind}
use Rattle.c_units.specs.Wholes.{all_whole, whole, whole_kind}
use Rattle.c_whole_fits.specs.There.{AllAreThere, IsMeant, IsThere, NamesAreThere, is_meaning}
use Rattle.c_whole_fits.proofs.lemmas.Alike.{AreAlike, IsAlike, node_alike, row_alike, value_alike, values_alike}
use Rattle.c_fits.proofs.lemmas.Booleans.{never}

pub whole_type : (meant : ℕ → CoreKind) (texts : List (List ℕ)) (c : CoreTree) → type_of (whole meant texts c) ≡ type_of c
whole_type meant texts (Core what of line kids) = refl

-- what a symbol may stand for has no parts
meaning_row : (leaf : CoreKind → CType → Type 0) (tags : List Tag) (what : CoreKind) (of : CType) → is_meaning what ≡ true → leaf what of → IsRow leaf tags what of NoCore
meaning_row leaf tags (kind.Object n) of m h = h
meaning_row leaf tags (kind.Function n) of m h = h
meaning_row leaf tags (kind.BuiltIn b) of m h = h
meaning_row leaf tags (kind.Symbol id) of m h = h
meaning_row leaf tags what of m h = never (sym m)

meaning_alike : (id : ℕ) (what : CoreKind) (of : CType) (line : ℕ) → is_meaning what ≡ true → (is_function of ≡ false → is_place_kind what ≡ true) → IsAlike (Core (kind.Symbol id) of line NoCore) (Core what of line NoCore)
meaning_alike id (kind.Object n) of line m h = record { type = refl; place = h; lvalue = h; width = refl; read = refl }
meaning_alike id (kind.Function n) of line m h = record { type = refl; place = h; lvalue = h; width = refl; read = refl }
meaning_alike id (kind.BuiltIn b) of line m h = record { type = refl; place = h; lvalue = h; width = refl; read = refl }
meaning_alike id (kind.Symbol n) of line m h = record { type = refl; place = h; lvalue = h; width = refl; read = refl }
meaning_alike id what of line m h = never (sym m)

module _ (leaf : CoreKind → CType → Type 0) (meant : ℕ → CoreKind) (texts : List (List ℕ)) (tags : List Tag) (p : IsMeant leaf meant) where
  whole_node : (what : CoreKind) (of : CType) (line : ℕ) (kids : CoreTrees) → AreAlike kids (all_whole meant texts kids) → IsRow IsOpenLeaf tags what of kids → IsThere leaf meant texts what of
      → IsAlike (Core what of line kids) (Core (whole_kind meant texts what) of line (all_whole meant texts kids))
  whole_node (kind.Symbol id) of line NoCore s h t = meaning_alike id (meant id) of line (p.meaning id) (p.places id of t)
  whole_node (kind.Symbol id) of line (Cores a rest) s h t = absurd h
  whole_node (kind.Literal bytes) of line kids s h t = record { type = refl; place = λ e. refl; lvalue = λ e. refl; width = refl; read = refl }
  whole_node what of line kids s h t = node_alike IsOpenLeaf tags what of line line kids (all_whole meant texts kids) s h

  whole_row : (what : CoreKind) (of : CType) (kids : CoreTrees) → AreAlike kids (all_whole meant texts kids) → IsRow IsOpenLeaf tags what of kids → IsThere leaf meant texts what of
      → IsRow leaf tags (whole_kind meant texts what) of (all_whole meant texts kids)
  whole_row (kind.Symbol id) of NoCore s h t = meaning_row leaf tags (meant id) of (p.meaning id) t
  whole_row (kind.Symbol id) of (Cores a rest) s h t = absurd h
  whole_row (kind.Literal bytes) of NoCore s h t = t
  whole_row (kind.Literal bytes) of (Cores a rest) s h t = absurd h
  whole_row (kind.Local place register) of kids s h t = row_alike IsOpenLeaf leaf tags (kind.Local place register) of kids (all_whole meant texts kids) s (λ k. t) h
  whole_row what of kids s h t = row_alike IsOpenLeaf leaf tags what of kids (all_whole meant texts kids) s (λ k. absurd k) h

  whole_taken : (what : CoreKind) (of : CType) (kids : CoreTrees) → IsRow IsOpenLeaf tags what of kids → are_values_behind (places_taken (whole_kind meant texts what)) kids ≡ are_values_behind (places_taken what) kids
  whole_taken (kind.Symbol id) of NoCore h = refl
  whole_taken (kind.Symbol id) of (Cores a rest) h = absurd h
  whole_taken what of kids h = refl

  mutual
    pub whole_alike : (c : CoreTree) → Fits IsOpenLeaf tags c → NamesAreThere leaf meant texts c → IsAlike c (whole meant texts c)
    whole_alike (Core what of line kids) h t = whole_node what of line kids (all_whole_alike kids h.0 t.1) h.1.1 t.0

    pub all_whole_alike : (cs : CoreTrees) → AllFit IsOpenLeaf tags cs → AllAreThere leaf meant texts cs → AreAlike cs (all_whole meant texts cs)
    all_whole_alike NoCore h t = tt
    all_whole_alike (Cores c cs) h t = (whole_alike c h.0 t.0, all_whole_alike cs h.1 t.1)

  mutual
    pub whole_fits : (c : CoreTree) → Fits IsOpenLeaf tags c → NamesAreThere leaf meant texts c → Fits leaf tags (whole meant texts c)
    whole_fits (Core what of line kids) h t =
        let s = all_whole_alike kids h.0 t.1 in (
          all_whole_fit kids h.0 t.1,
          (
            values_alike (places_taken (whole_kind meant texts what)) kids (all_whole meant texts kids) s ∙ (whole_taken what of kids h.1.1 ∙ h.1.0),
            whole_row what of kids s h.1.1 t.0,
          ),
        )

    pub all_whole_fit : (cs : CoreTrees) → AllFit IsOpenLeaf tags cs → AllAreThere leaf meant texts cs → AllFit leaf tags (all_whole meant texts cs)
    all_whole_fit NoCore h t = tt
    all_whole_fit (Cores c cs) h t = (whole_fits c h.0 t.0, all_whole_fit cs h.1 t.1)

  pub whole_value : (c : CoreTree) → Fits IsOpenLeaf tags c → NamesAreThere leaf meant texts c → is_value (whole meant texts c) ≡ is_value c
  whole_value c h t = value_alike c (whole meant texts c) (whole_alike c h t)
