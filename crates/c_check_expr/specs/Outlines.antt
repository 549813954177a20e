-- What the constraints and the limits of a declarator's steps ask of the type before a step.
-- Source: C89 3.5.4.2, 3.5.4.3.
use Rattle.std.specs.Prelude.{◌≡◌, ◌||◌, ℕ, min, List, Option, Some, None}
use Rattle.c_types.specs.CType.{CType}
use Rattle.c_types.specs.Layout.{Tag, extent}
use Rattle.c_meaning.specs.Types.{is_array, is_function}
use Rattle.c_check_expr.specs.declared.outline.Outline.{Outline}

-- a size, where all sizes above the limit count as the one past it
abbrev pub capped : Option ℕ → Option ℕ
capped None = None
capped (Some n) = Some (min n 16777217)

pub record IsOutline (tags : List Tag) (t : CType) (o : Outline) : Type 0 where
  pub size : o.size ≡ capped (extent tags t).size
  pub composed : o.is_composed ≡ (is_function t || is_array t)
