-- Initialisers of locals: zeros as a whole, where it is said, and then a value in each place, in turn: scalars, bit-fields and structures.
-- Source: ISO/IEC 9899:1990, 6.5.7.
use Rattle.std.specs.Prelude.{◌≡◌, ℕ, Bool, false, Some, List, length, slice_get}
use Rattle.c_types.specs.CType.{CType}
use Rattle.c_meaning.specs.Each.{EachIs}
use Rattle.c_meaning.specs.StmtTrees as stmt
use Rattle.c_meaning.specs.StmtTrees.{FilledOf}
use Rattle.c_meaning.specs.Types.{is_array}
use Rattle.c_meaning.specs.Units.{AreOf}
use Rattle.c_match_worlds.specs.Texts.{HasTexts}
use Rattle.lowered_statements.specs.Functions.{Function}
use Rattle.lowered_statements.specs.Initialisers.{initialised}
use Rattle.c_straight_agree.specs.Layouts.{context_in}
use Rattle.c_tests_agree.specs.Tested.{AreMarkedOnce}
use Rattle.c_stmt_agreement.specs.Comings.{Activation, HasFrame, Ending}
use Rattle.c_stmts_agree.specs.Parts.{ValueAgrees, RowAgrees}

-- a local of this type, of a function that is lowered where its locals are laid out so
pub record IsLocal (p : Activation) (f : Function) (n : ℕ) (of : CType) : Type 0 where
  pub context : f.context ≡ context_in p.scene p.layout
  pub listed : slice_get f.locals n ≡ Some of
  pub typed : slice_get p.layout.types n ≡ Some of

-- Where no place is an array that a string fills, and each value is lowered, so is the initialiser.
abbrev pub PlainInitialisersAgree : Type 0
PlainInitialisersAgree =
    (p : Activation) → HasFrame p → AreMarkedOnce p.scene.body → (f : Function) (e : Ending) (n : ℕ) (of : CType) → IsLocal p f n of → (locals : List CType) (xs : List (FilledOf CType)) → AreOf p.scene.unit locals of xs
    → EachIs (λ (x : FilledOf CType). is_array x.of ≡ false) xs → EachIs (λ (x : FilledOf CType). ValueAgrees p f x.value) xs → (zero : Bool) → RowAgrees p e (stmt.Initialise n zero xs) (λ l. initialised f n zero xs l)

-- So it is with strings, where the unit's texts stand in its lowering.
abbrev pub InitialisersAgree : Type 0
InitialisersAgree =
    (p : Activation) → HasFrame p → HasTexts p.scene.lowered (length p.scene.unit.objects) p.scene.unit.texts → AreMarkedOnce p.scene.body → (f : Function) (e : Ending) (n : ℕ) (of : CType) → IsLocal p f n of → (locals : List CType) (xs : List (FilledOf CType)) → AreOf p.scene.unit locals of xs
    → EachIs (λ (x : FilledOf CType). ValueAgrees p f x.value) xs → (zero : Bool) → RowAgrees p e (stmt.Initialise n zero xs) (λ l. initialised f n zero xs l)
