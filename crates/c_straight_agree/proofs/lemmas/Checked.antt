-- Expressions of a checked function are as the lowering asks.
use Rattle.std.specs.Prelude.{◌≡◌, ◌≤◌, ℕ, ◌&&◌, nat_eq, Bool, true, false, List}
use Rattle.std.proofs.Common.{true≢false, refl, sym, ap, arith}
use Rattle.std.proofs.lemmas.Option.{slice_get_within}
use Rattle.c_types.specs.CType.{CType, Plain, Array, Kind, Simple, Pointer, Function, Structure, Union, Enumeration}
use Rattle.c_types.specs.Compatible.{compatible, kinds_compatible}
use Rattle.c_types.specs.Layout.{Tag, known, kind_extent, size_or_zero}
use Rattle.c_meaning.specs.declared.core_expr.CoreKind.{CoreKind}
use Rattle.c_meaning.specs.declared.core_expr.CoreKind.TheVariants as kind
use Rattle.c_meaning.specs.CoreTrees.{Core, NoCore, Cores}
use Rattle.c_meaning.specs.Each.{EachKind, EachKinds}
use Rattle.c_meaning.specs.Fits.{AllFit, IsRow}
use Rattle.c_meaning.specs.Types.{is_record, is_record_kind}
use Rattle.c_meaning.specs.Units.{IsLeaf, IsExpr}
use Rattle.c_meaning.specs.Values.{CoreTree, CoreTrees}
use Rattle.c_runs.specs.Places.{size_of}
use Rattle.c_expr_agreement.specs.Scenes.{Scene}
use Rattle.c_straight_agree.specs.Checked.{IsModest}
use Rattle.c_straight_agree.specs.Layouts.{FrameLayout, IsFairKind, IsFair, AreFair}

both_so : (a b : Bool) → (a && b) ≡ true → (a ≡ true) × (b ≡ true)
both_so true b e = (refl, e)
both_so false b e = absurd (true≢false (sym e))

same_number : (n m : ℕ) → nat_eq n m ≡ true → n ≡ m
same_number n m e = grind (arith, e)

-- ---- types that are compatible

kinds_whole : (a b : Kind) → kinds_compatible a b ≡ true → is_record_kind a ≡ is_record_kind b
kinds_whole (Structure n) (Structure m) e = refl
kinds_whole (Union n) (Union m) e = refl
kinds_whole (Structure n) b e = absurd (true≢false (sym e))
kinds_whole (Union n) b e = absurd (true≢false (sym e))
kinds_whole (Simple a) (Structure m) e = absurd (true≢false (sym e))
kinds_whole (Simple a) (Union m) e = absurd (true≢false (sym e))
kinds_whole (Simple a) b e = refl
kinds_whole (Pointer a) (Structure m) e = absurd (true≢false (sym e))
kinds_whole (Pointer a) (Union m) e = absurd (true≢false (sym e))
kinds_whole (Pointer a) b e = refl
kinds_whole (Function a ps) (Structure m) e = absurd (true≢false (sym e))
kinds_whole (Function a ps) (Union m) e = absurd (true≢false (sym e))
kinds_whole (Function a ps) b e = refl
kinds_whole (Enumeration n) (Structure m) e = absurd (true≢false (sym e))
kinds_whole (Enumeration n) (Union m) e = absurd (true≢false (sym e))
kinds_whole (Enumeration n) b e = refl

pub types_whole : (a b : CType) → compatible a b ≡ true → is_record a ≡ is_record b
types_whole (Plain p a) (Plain q b) e = kinds_whole a b (both_so (nat_eq p q) (kinds_compatible a b) e).1
types_whole (Array a n) (Array b m) e = refl
types_whole (Plain p a) (Array b m) e = absurd (true≢false (sym e))
types_whole (Array a n) (Plain q b) e = absurd (true≢false (sym e))

kinds_room : (tags : List Tag) (a b : Kind) → is_record_kind a ≡ true → kinds_compatible a b ≡ true → size_or_zero (kind_extent (known tags) a).size ≡ size_or_zero (kind_extent (known tags) b).size
kinds_room tags (Structure n) (Structure m) w e = ap (λ (i : ℕ). size_or_zero (known tags i).size) (same_number n m e)
kinds_room tags (Union n) (Union m) w e = ap (λ (i : ℕ). size_or_zero (known tags i).size) (same_number n m e)
kinds_room tags (Structure n) b w e = absurd (true≢false (sym e))
kinds_room tags (Union n) b w e = absurd (true≢false (sym e))
kinds_room tags a b w e = absurd (true≢false (sym w))

pub types_room : (tags : List Tag) (a b : CType) → is_record a ≡ true → compatible a b ≡ true → size_of tags a ≡ size_of tags b
types_room tags (Plain p a) (Plain q b) w e = kinds_room tags a b w (both_so (nat_eq p q) (kinds_compatible a b) e).1
types_room tags (Array a n) b w e = absurd (true≢false (sym w))
types_room tags (Plain p a) (Array b m) w e = absurd (true≢false (sym e))

same_is_less : (m n : ℕ) → m ≡ n → m ≤ n
same_is_less m n e = omega (arith, e)

-- ---- expressions

module _ (s : Scene) (y : FrameLayout) where
  fair_kind : (what : CoreKind) (of : CType) (kids : CoreTrees) → IsRow (IsLeaf s.unit y.types) s.unit.tags what of kids → IsModest s what → IsFairKind s y what of kids
  fair_kind (kind.Local n register) of NoCore row modest = (row.0, row.1, types_whole of row.0 row.2, λ whole. same_is_less (size_of s.unit.tags of) (size_of s.unit.tags row.0) (types_room s.unit.tags of row.0 whole row.2))
  fair_kind (kind.Function n) of NoCore row modest = slice_get_within s.unit.functions n row.0 row.1
  fair_kind (kind.BuiltIn b) of kids row modest = modest
  fair_kind (kind.Member offset first width) of (Cores a NoCore) row modest = row.0
  fair_kind (kind.Move size back) of kids row modest = modest
  fair_kind (kind.Difference size) of kids row modest = modest
  fair_kind (kind.Change by) of kids row modest = modest
  fair_kind (kind.Postfix by) of kids row modest = modest
  fair_kind (kind.Local n register) of (Cores a cs) row modest = absurd row
  fair_kind (kind.Function n) of (Cores a cs) row modest = absurd row
  fair_kind (kind.Member offset first width) of NoCore row modest = absurd row
  fair_kind (kind.Member offset first width) of (Cores a (Cores b cs)) row modest = absurd row
  fair_kind what of kids row modest = tt

  mutual
    pub checked_is_fair : (e : CoreTree) → IsExpr s.unit y.types e → EachKind (IsModest s) e → IsFair s y e
    checked_is_fair (Core what of line kids) fits modest = (fair_kind what of kids fits.1.1 modest.0, checked_are_fair kids fits.0 modest.1)

    checked_are_fair : (cs : CoreTrees) → AllFit (IsLeaf s.unit y.types) s.unit.tags cs → EachKinds (IsModest s) cs → AreFair s y cs
    checked_are_fair NoCore fits modest = tt
    checked_are_fair (Cores e es) fits modest = (checked_is_fair e fits.0 modest.0, checked_are_fair es fits.1 modest.1)
