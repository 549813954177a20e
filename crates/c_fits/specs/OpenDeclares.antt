-- What a declaration gives while a unit is checked, where names are symbols.
-- Source: C89 3.5, 3.5.7.
use Rattle.std.specs.Prelude.{◌≡◌, true, List}
use Rattle.c_types.specs.CType.{CType}
use Rattle.c_types.specs.Constness.{is_const}
use Rattle.c_types.specs.Layout.{Tag}
use Rattle.c_meaning.specs.Declarations.{Declares, Defined}
use Rattle.c_meaning.specs.Each.{EachIs}
use Rattle.c_meaning.specs.StmtTrees.{StmtOf, Initialise}
use Rattle.c_meaning.specs.Types.{has_size}
use Rattle.c_fits.specs.OpenPlaces.{AreOpenOf}

-- an object with static storage is whole, and what it begins with lies in it
abbrev pub IsOpenObject : List Tag → Defined → Type 0
IsOpenObject tags o = (o.object.constant ≡ is_const o.object.of) × AreOpenOf tags o.object.of o.object.places

abbrev pub IsOpenLocal : List Tag → CType → Type 0
IsOpenLocal tags of = has_size tags of ≡ true

-- what a local object begins with lies in it
abbrev pub IsOpenFill : List Tag → StmtOf CType → Type 0
IsOpenFill tags (Initialise local zero ps) = (of : CType) × AreOpenOf tags of ps
IsOpenFill tags s = ⊥

pub record DeclaresFit (tags : List Tag) (d : Declares) : Type 0 where
  pub objects : EachIs (IsOpenObject tags) d.objects
  pub locals : EachIs (IsOpenLocal tags) d.locals
  pub fills : EachIs (IsOpenFill tags) d.fills
