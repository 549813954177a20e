-- An expression that fits fits when its calls name their copies.
use Rattle.std.proofs.Common.{◌≡◌, ℕ, List, refl, ◌∙◌}
use Rattle.std.specs.Prelude.{◌+◌, length}
use Rattle.c_types.specs.CType.{CType}
use Rattle.c_types.specs.Layout.{Tag}
use Rattle.c_meaning.specs.declared.core_expr.CoreKind.{CoreKind}
use Rattle.c_meaning.specs.declared.core_expr.CoreKind.TheVariants as kind
use Rattle.c_meaning.specs.Copies.{own_copies}
use Rattle.c_meaning.specs.CoreTrees.{Core, NoCore, Cores, type_of}
use Rattle.c_meaning.specs.Fits.{AllFit, Fits, IsRow, is_value, places_taken}
use Rattle.c_meaning.specs.Values.{CoreTree, CoreTrees}
use Rattle.c_units.specs.Wholes.{all_placed, copies, placed, placed_kind}
use Rattle.c_whole_fits.proofs.lemmas.Alike.{AreAlike, IsAlike, node_alike, row_alike, value_alike, values_alike}

pub placed_type : (n : ℕ) (c : CoreTree) → type_of (placed n c) ≡ type_of c
placed_type n (Core what of line kids) = refl

placed_taken : (n : ℕ) (what : CoreKind) → places_taken (placed_kind n what) ≡ places_taken what
placed_taken n (kind.Call before) = refl
placed_taken n what = refl

-- a leaf of calls doesn't depend on where their copies begin
module _ (leaf : CoreKind → CType → Type 0) (tags : List Tag) (l : (k m : ℕ) (of : CType) → leaf (kind.Call k) of → leaf (kind.Call m) of) where
  placed_node : (n : ℕ) (what : CoreKind) (of : CType) (line : ℕ) (kids others : CoreTrees) → AreAlike kids others → IsRow leaf tags what of kids
      → IsAlike (Core what of line kids) (Core (placed_kind n what) of line others)
  placed_node n (kind.Call before) of line kids others s h = record { type = refl; place = λ e. refl; lvalue = λ e. refl; width = refl; read = refl }
  placed_node n what of line kids others s h = node_alike leaf tags what of line line kids others s h

  placed_row : (n : ℕ) (what : CoreKind) (of : CType) (kids others : CoreTrees) → AreAlike kids others → IsRow leaf tags what of kids → IsRow leaf tags (placed_kind n what) of others
  placed_row n (kind.Call before) of NoCore NoCore s h = l before n of h
  placed_row n (kind.Call before) of (Cores f rest) (Cores g others) s h = row_alike leaf leaf tags (kind.Call n) of (Cores f rest) (Cores g others) s (λ k. k) h
  placed_row n (kind.Call before) of NoCore (Cores g others) s h = absurd s
  placed_row n (kind.Call before) of (Cores f rest) NoCore s h = absurd s
  placed_row n what of kids others s h = row_alike leaf leaf tags what of kids others s (λ k. k) h

  mutual
    pub placed_alike : (n : ℕ) (c : CoreTree) → Fits leaf tags c → IsAlike c (placed n c)
    placed_alike n (Core what of line kids) h =
        placed_node n what of line kids (all_placed (n + length (own_copies what of kids)) kids) (all_placed_alike (n + length (own_copies what of kids)) kids h.0) h.1.1

    pub all_placed_alike : (n : ℕ) (cs : CoreTrees) → AllFit leaf tags cs → AreAlike cs (all_placed n cs)
    all_placed_alike n NoCore h = tt
    all_placed_alike n (Cores c cs) h = (placed_alike n c h.0, all_placed_alike (n + copies c) cs h.1)

  mutual
    pub placed_fits : (n : ℕ) (c : CoreTree) → Fits leaf tags c → Fits leaf tags (placed n c)
    placed_fits n (Core what of line kids) h =
        let m = n + length (own_copies what of kids) in
        let s = all_placed_alike m kids h.0 in (
          all_placed_fit m kids h.0,
          (
            rw (placed_taken n what) (values_alike (places_taken what) kids (all_placed m kids) s ∙ h.1.0),
            placed_row n what of kids (all_placed m kids) s h.1.1,
          ),
        )

    pub all_placed_fit : (n : ℕ) (cs : CoreTrees) → AllFit leaf tags cs → AllFit leaf tags (all_placed n cs)
    all_placed_fit n NoCore h = tt
    all_placed_fit n (Cores c cs) h = (placed_fits n c h.0, all_placed_fit (n + copies c) cs h.1)

  pub placed_value : (n : ℕ) (c : CoreTree) → Fits leaf tags c → is_value (placed n c) ≡ is_value c
  placed_value n c h = value_alike c (placed n c) (placed_alike n c h)
