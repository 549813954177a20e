-- What an initialiser stores lies in its object when it is made whole.
use Rattle.std.proofs.Common.{◌≡◌, ℕ, true, List, [], ◌∷◌, sym, subst, ◌∙◌, eqb-true, arith}
use Rattle.std.specs.Prelude.{◌≤◌, ◌+◌, Option, Some, None, length}
use Rattle.c_types.specs.CType.{CType, Plain, Array, Char, basic}
use Rattle.c_types.specs.Compatible.{compatible, lengths_fit}
use Rattle.c_meaning.specs.declared.core_expr.CoreKind.{CoreKind}
use Rattle.c_meaning.specs.declared.core_expr.CoreKind.TheVariants as kind
use Rattle.c_meaning.specs.CoreTrees.{Core, NoCore, Cores, what_of}
use Rattle.c_meaning.specs.Fits.{Fits, IsOpenLeaf}
use Rattle.c_meaning.specs.StmtTrees.{FilledOf}
use Rattle.c_meaning.specs.Units.{AreFilled, AreOf, IsExpr, IsFor, IsLeaf, IsString, UnitTree, text_type}
use Rattle.c_meaning.specs.Values.{CoreTree}
use Rattle.c_units.specs.Wholes.{copies, placed, placed_places, whole, whole_places}
use Rattle.c_fits.specs.OpenPlaces.{AreOpenFilled, AreOpenOf, IsOpenFor, IsOpenString}
use Rattle.c_fits.proofs.lemmas.Booleans.{and_right}
use Rattle.c_whole_fits.specs.There.{IsMeant, NamesAreThere, PlacesAreThere}
use Rattle.c_whole_fits.proofs.lemmas.Placed.{placed_fits, placed_type, placed_value}
use Rattle.c_whole_fits.proofs.lemmas.Wholes.{whole_fits, whole_type, whole_value}

-- texts of compatible types are as long
text_length : (t : CType) (bytes a : List ℕ) → t ≡ text_type bytes → compatible t (text_type a) ≡ true → length a ≡ length bytes
text_length t bytes a e h =
    let k : compatible (text_type bytes) (text_type a) ≡ true = subst (λ x. compatible x (text_type a) ≡ true) e h in
    let l = eqb-true (length bytes + 1) (length a + 1) (and_right (compatible (basic Char) (basic Char)) (lengths_fit (Some (length bytes + 1)) (Some (length a + 1))) k) in omega (arith, l)

module _ (u : UnitTree) (locals : List CType) where
  module _ (meant : ℕ → CoreKind) (texts : List (List ℕ)) (p : IsMeant (IsLeaf u locals) meant) where
    whole_string : (of : CType) (count : Option ℕ) (c : CoreTree) → Fits IsOpenLeaf u.tags c → NamesAreThere (IsLeaf u locals) meant texts c → IsOpenString of count (what_of c)
        → IsString u.texts of count (what_of (whole meant texts c))
    whole_string of (Some n) (Core (kind.Literal bytes) t line NoCore) h k s =
        let i = k.0 in (s.0, (i.0, i.1, subst (λ m. m ≤ n) (sym (text_length t bytes i.0 h.1.1 i.2)) s.1))
    whole_string of (Some n) (Core (kind.Literal bytes) t line (Cores c cs)) h k s = absurd h.1.1
    whole_string of (Some n) (Core what t line kids) h k s = absurd s
    whole_string of None c h k s = absurd s

    whole_for : (of : CType) (c : CoreTree) → Fits IsOpenLeaf u.tags c → NamesAreThere (IsLeaf u locals) meant texts c → IsOpenFor u.tags of c → IsFor u of (whole meant texts c)
    whole_for (Array of count) c h k s = whole_string of count c h k s
    whole_for (Plain q o) c h k s = (whole_value (IsLeaf u locals) meant texts u.tags p c h k ∙ s.0, (s.1.0, rw (whole_type meant texts c) s.1.1))

    whole_filled : (size : ℕ) (ps : List (FilledOf CType)) → AreOpenFilled u.tags size ps → PlacesAreThere (IsLeaf u locals) meant texts ps → AreFilled u locals size (whole_places meant texts ps)
    whole_filled size [] h k = tt
    whole_filled size (x ∷ xs) h k = (
      (whole_fits (IsLeaf u locals) meant texts u.tags p x.value h.0.0 k.0, (whole_for x.of x.value h.0.0 k.0 h.0.1.0, h.0.1.1)),
      whole_filled size xs h.1 k.1,
    )

    pub whole_of : (of : CType) (ps : List (FilledOf CType)) → AreOpenOf u.tags of ps → PlacesAreThere (IsLeaf u locals) meant texts ps → AreOf u locals of (whole_places meant texts ps)
    whole_of of ps h k = (h.0, h.1, whole_filled h.0 ps h.2 k)

  pub placed_expr : (n : ℕ) (c : CoreTree) → IsExpr u locals c → IsExpr u locals (placed n c)
  placed_expr n c h = placed_fits (IsLeaf u locals) u.tags (λ k m of e. e) n c h

  placed_string : (n : ℕ) (of : CType) (count : Option ℕ) (c : CoreTree) → IsString u.texts of count (what_of c) → IsString u.texts of count (what_of (placed n c))
  placed_string n of (Some m) (Core (kind.Text k) t line kids) h = h
  placed_string n of (Some m) (Core what t line kids) h = absurd h
  placed_string n of None c h = absurd h

  placed_for : (n : ℕ) (of : CType) (c : CoreTree) → IsExpr u locals c → IsFor u of c → IsFor u of (placed n c)
  placed_for n (Array of count) c k h = placed_string n of count c h
  placed_for n (Plain q o) c k h = (placed_value (IsLeaf u locals) u.tags (λ i m of e. e) n c k ∙ h.0, (h.1.0, rw (placed_type n c) h.1.1))

  placed_filled : (n size : ℕ) (ps : List (FilledOf CType)) → AreFilled u locals size ps → AreFilled u locals size (placed_places n ps)
  placed_filled n size [] h = tt
  placed_filled n size (x ∷ xs) h = ((placed_expr n x.value h.0.0, (placed_for n x.of x.value h.0.0 h.0.1.0, h.0.1.1)), placed_filled (n + copies x.value) size xs h.1)

  pub placed_of : (n : ℕ) (of : CType) (ps : List (FilledOf CType)) → AreOf u locals of ps → AreOf u locals of (placed_places n ps)
  placed_of n of ps h = (h.0, h.1, placed_filled n h.0 ps h.2)
