-- Names that rise and names that don't; and names and labels that are there, and that aren't.
use Rattle.std.specs.Prelude.{◌≡◌, ◌<◌, ℕ, None, Some, [], ◌∷◌, pos}
use Rattle.std.proofs.Common.{refl, arith}
use Rattle.lcc_base.specs.declared.order.Order.TheVariants.{Little}
use Rattle.op_forest.specs.declared.lowered.Datum.TheVariants as datum
use Rattle.op_forest.specs.declared.sym.Sym.TheVariants as sym
use Rattle.op_forest.specs.Lowered.{LoweredUnit}
use Rattle.whole_lowered.specs.Labels.{AreLabelsOf, HasLabels, KnowsDatum, KnowsSymbol, noted}
use Rattle.whole_lowered.specs.Rising.{Rises}

two_rise : Rises 0 (1 ∷ 4 ∷ []) 5
two_rise = (omega arith, (omega arith, refl))

two_fall : (n : ℕ) → Rises 0 (4 ∷ 1 ∷ []) n → ⊥
two_fall n h = let l = h.1.0 in absurd (omega (arith, l))

first_name : KnowsSymbol 1 (λ l. None) (sym.Global 0 (pos 0))
first_name = λ u roots many are. omega (arith, many)

first_datum : KnowsDatum 1 [] (datum.Name 0 (pos 0))
first_datum = λ u many are. omega (arith, many)

no_labels : AreLabelsOf [] []
no_labels = tt

-- ---- what isn't there

abbrev nothing : LoweredUnit
nothing = record { functions = []; objects = []; names = []; order = Little }

none_there : HasLabels [] (λ l. None)
none_there = λ l s. absurd (let never : ⊥ = cc in never)

second_name : KnowsSymbol 0 (λ l. None) (sym.Global 0 (pos 0)) → ⊥
second_name k = let h : 0 < 0 = k nothing [] refl none_there in absurd (omega (arith, h))

no_label : KnowsSymbol 0 (λ l. None) (sym.Label 3) → ⊥
no_label k = let h = k nothing [] refl none_there in absurd (let l : h.0 < 0 = h.2 in omega (arith, l))

no_datum : KnowsDatum 0 [] (datum.Name 0 (pos 0)) → ⊥
no_datum k = let h : 0 < 0 = k nothing refl tt in absurd (omega (arith, h))

-- ---- a label that is noted, and another one

noted_here : noted (Some 3) 7 None 3 ≡ Some 7
noted_here = refl

noted_elsewhere : noted (Some 3) 7 None 4 ≡ None
noted_elsewhere = refl
