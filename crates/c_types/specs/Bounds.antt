-- Bounds that the types of a table keep.
use Rattle.std.specs.Prelude.{◌<◌, ◌≤◌, IfSome}
use Rattle.c_types.specs.declared.extent.Extent.{Extent}

pub record IsBounded (e : Extent) : Type 0 where
  pub size : IfSome e.size (λ n. n ≤ 16777216)
  pub some : 0 < e.align
  pub align : e.align ≤ 4
  pub nesting : e.nesting ≤ 500
