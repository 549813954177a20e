-- Numbers and their bytes: what is written is read, and the other way round, in each order of 1, 2 and 4 bytes.
use Rattle.lcc_base.specs.declared.order.Order.{Order}
use Rattle.lcc_base.specs.declared.order.Order.TheVariants.{Big, Little}

-- the first in big-endian order, the second in little-endian order
abbrev pub by_order : {A : Type 0} → Order → A → A → A
by_order Big big little = big
by_order Little big little = little
