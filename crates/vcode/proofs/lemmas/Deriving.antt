-- What is derived at a pattern's nonterminals, one by one, and how a rule is applied in a derivation.
use Rattle.std.proofs.Common.{◌≡◌, ℕ, ◌+◌, List, [], ◌∷◌, ◌++◌, Some, map, sym, ap, ◌∙◌, subst, arith}
use Rattle.std.specs.Prelude.{slice_get}
use Rattle.std.proofs.lemmas.Option.{same_Some, slice_get-map}
use Rattle.std.specs.Option.{option_map}
use Rattle.lburg_model.specs.declared.rule.Rule.{Rule}
use Rattle.lburg_model.specs.Pattern.{Goal, pattern_of, goals_at}
use Rattle.lburg_model.specs.Derivation.{MDerivation, Apply, MParts, NoPart, Derives, DeriveEach}
use Rattle.lburg_model.specs.DerivationOf.{parts_of}
use Rattle.op_forest.specs.Nodes.{Node, tree_of}
use Rattle.vcode.specs.Patterns.{Meeting, leaves_at}
use Rattle.vcode.specs.RuleSets.{Row, row_of, Rules, Applies}
use Rattle.vcode.specs.Leaves.{turned}
use Rattle.vcode.proofs.lemmas.Leaves.{meetings_of}

-- the last of derivations, and those before it
pub record Parted (rows : List Rule) (gs : List Goal) (g : Goal) (xs : List MDerivation) (x : MDerivation) : Type 0 where
  pub front : DeriveEach rows gs (parts_of xs)
  pub last : Derives rows g.0 g.1 x

none_left : (rows : List Rule) (x : MDerivation) (xs : List MDerivation) → DeriveEach rows [] (parts_of (xs ++ x ∷ [])) → ⊥
none_left rows x [] d = d
none_left rows x (y ∷ xs) d = d

none_right : (rows : List Rule) (g : Goal) (gs : List Goal) → DeriveEach rows (gs ++ g ∷ []) NoPart → ⊥
none_right rows g [] d = d
none_right rows g (h ∷ gs) d = d

pub parted : (rows : List Rule) (gs : List Goal) (g : Goal) (xs : List MDerivation) (x : MDerivation) → DeriveEach rows (gs ++ g ∷ []) (parts_of (xs ++ x ∷ [])) → Parted rows gs g xs x
parted rows [] g [] x d = record { front = tt; last = d.0 }
parted rows [] g (y ∷ xs) x d = absurd (none_left rows x xs d.1)
parted rows (h ∷ gs) g [] x d = absurd (none_right rows g gs d.1)
parted rows (h ∷ gs) g (y ∷ xs) x d = let p = parted rows gs g xs x d.1 in record { front = (d.0, p.front); last = p.last }

-- how a rule is applied in a derivation, where the rules' rows are these
pub record AppliedAt (rows : List Rule) (row : Row) (n : ℕ) (t : Node) (parts : MParts) : Type 0 where
  pub left : row.left ≡ n
  pub meetings : List Meeting
  pub fits : leaves_at row.pattern t ≡ Some meetings
  pub each : DeriveEach rows (map turned meetings) parts

applied_row : (rows : List Rule) (row : Row) (n : ℕ) (t : Node) (parts : MParts) (r : Rule) (goals : List Goal) → row ≡ row_of r → r.left ≡ n → goals_at (pattern_of r.pattern) (tree_of t) ≡ Some goals → DeriveEach rows goals parts → AppliedAt rows row n t parts
applied_row rows row n t parts r goals e l g d =
    let m = meetings_of (pattern_of r.pattern) t goals g in
    record {
      left = ap (λ (w : Row). w.left) e ∙ l;
      meetings = m.0;
      fits = ap (λ (w : Row). leaves_at w.pattern t) e ∙ m.1;
      each = subst (λ gs. DeriveEach rows gs parts) m.2 d;
    }

pub row_is : (rows : List Rule) (all : List Row) (i : ℕ) (r : Rule) → map row_of rows ≡ all → slice_get rows i ≡ Some r → slice_get all i ≡ Some (row_of r)
row_is rows all i r e h = ap (λ l. slice_get l i) (sym e) ∙ slice_get-map row_of rows i ∙ ap (λ o. option_map row_of o) h

module _ {I P : Type 0} (rules : Rules I P) (rows : List Rule) (are : map row_of rows ≡ rules.rows) where
  pub applied_at : (number : ℕ) (row : Row) (n : ℕ) (t : Node) (ps : List P) (to : ℕ) (parts : MParts) → Applies rules number row t ps to → Derives rows n (tree_of t) (Apply number parts) → AppliedAt rows row n t parts
  applied_at number row n t ps to parts a d =
      let i = d.0 in
      let r = d.1 in
      let p = a.place in
      let e : number ≡ i + 1 = d.3 in
      let f : number ≡ p + 1 = a.number_is in
      let s : p ≡ i = omega (arith, e, f) in
      let w : slice_get rules.rows i ≡ Some (row_of r) = row_is rows rules.rows i r are d.4 in
      let v : slice_get rules.rows i ≡ Some row = subst (λ k. slice_get rules.rows k ≡ Some row) s a.row_is in
      applied_row rows row n t parts r d.2 (same_Some row (row_of r) (sym v ∙ w)) d.5 d.7 d.8
