-- Which nonterminals derivations by the rules of MIPS derive.
use Rattle.std.proofs.Common.{◌≡◌, ℕ, List, [], ◌∷◌, ◌++◌, Some, map, sym, ◌∙◌, subst}
use Rattle.std.specs.List.{AllZip}
use Rattle.std.proofs.lemmas.List.{map-append}
use Rattle.std.proofs.lemmas.Option.{same_Some}
use Rattle.lburg_model.specs.declared.rule.Rule.{Rule}
use Rattle.lburg_model.specs.Description.{MDescription}
use Rattle.lburg_model.specs.Derivation.{MDerivation, Apply, MParts, Derives, DeriveEach}
use Rattle.lburg_model.specs.DerivationOf.{parts_of}
use Rattle.reducer.specs.AreBest.{AreBest}
use Rattle.op_forest.specs.Nodes.{Node, tree_of}
use Rattle.vcode.specs.Patterns.{Meeting, leaves_at}
use Rattle.vcode.specs.RuleSets.{Row, row_of, Applies}
use Rattle.vcode.specs.Leaves.{turned}
use Rattle.vcode.proofs.lemmas.Deriving.{Parted, parted, applied_at}
use Rattle.frame_rules.specs.declared.part.Part.{Part}
use Rattle.mips_rules.specs.MipsRows.{rows}
use Rattle.mips_rules.specs.MipsRules.{mips_rules}

module _ (rules : List Rule) (are : map row_of rules ≡ rows) where
  -- a rule's left side is derived, and its nonterminals are those that its derivations derive
  pub derived : (number : ℕ) (row : Row) (t : Node) (ps : List Part) (to k : ℕ) (ms : List Meeting) (parts : MParts) → Applies mips_rules number row t ps to → leaves_at row.pattern t ≡ Some ms → Derives rules k (tree_of t) (Apply number parts) → (row.left ≡ k) × DeriveEach rules (map turned ms) parts
  derived number row t ps to k ms parts a fits d =
      let w = applied_at mips_rules rules are number row k t ps to parts a d in
      (w.left, subst (λ l. DeriveEach rules (map turned l) parts) (same_Some w.meetings ms (sym w.fits ∙ fits)) w.each)

pub each_derived : (rules : List Rule) (ms : List Meeting) (m : Meeting) (xs : List MDerivation) (x : MDerivation) → DeriveEach rules (map turned (ms ++ m ∷ [])) (parts_of (xs ++ x ∷ [])) → Parted rules (map turned ms) (turned m) xs x
each_derived rules ms m xs x d = parted rules (map turned ms) (turned m) xs x (subst (λ gs. DeriveEach rules gs (parts_of (xs ++ x ∷ []))) (map-append turned ms (m ∷ [])) d)

-- the same at roots
abbrev pub RootsDerive : List Rule → ℕ → List Node → List MDerivation → Type 0
RootsDerive rules k ts xs = AllZip (λ t x. Derives rules k (tree_of t) x) ts xs

pub roots_derived : (d : MDescription) (ts : List Node) (xs : List MDerivation) → AreBest d (map tree_of ts) xs → RootsDerive d.rules d.start ts xs
roots_derived d [] [] h = tt
roots_derived d [] (x ∷ xs) h = absurd h
roots_derived d (t ∷ ts) [] h = absurd h
roots_derived d (t ∷ ts) (x ∷ xs) h = (h.0.derives, roots_derived d ts xs h.1)

no_root : (rules : List Rule) (k : ℕ) (x : MDerivation) (xs : List MDerivation) → RootsDerive rules k [] (xs ++ x ∷ []) → ⊥
no_root rules k x [] d = d
no_root rules k x (y ∷ xs) d = d

no_derivation : (rules : List Rule) (k : ℕ) (t : Node) (ts : List Node) → RootsDerive rules k (ts ++ t ∷ []) [] → ⊥
no_derivation rules k t [] d = d
no_derivation rules k t (u ∷ ts) d = d

pub roots_parted : (rules : List Rule) (k : ℕ) (ts : List Node) (t : Node) (xs : List MDerivation) (x : MDerivation) → RootsDerive rules k (ts ++ t ∷ []) (xs ++ x ∷ []) → RootsDerive rules k ts xs × Derives rules k (tree_of t) x
roots_parted rules k [] t [] x d = (tt, d.0)
roots_parted rules k [] t (y ∷ xs) x d = absurd (no_root rules k x xs d.1)
roots_parted rules k (u ∷ ts) t [] x d = absurd (no_derivation rules k t ts d.1)
roots_parted rules k (u ∷ ts) t (y ∷ xs) x d = let p = roots_parted rules k ts t xs x d.1 in ((d.0, p.0), p.1)
