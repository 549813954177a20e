-- Declared names as the checker holds them, over a table of types.
use Rattle.std.specs.Prelude.{◌<◌, ℕ}
use Rattle.c_types.specs.Table.{Table, type_at}
use Rattle.c_meaning.specs.Declarations.{Naming as NamingTrees}
use Rattle.c_meaning.specs.Linkage.{Linkage as Linked, Alone, Internal, External}
use Rattle.c_check_decl.specs.declared.linkage.Linkage.{Linkage}
use Rattle.c_check_decl.specs.declared.linkage.Linkage.TheVariants as linkage
use Rattle.c_check_decl.specs.declared.naming.Naming.{Naming}

abbrev pub linked : Linkage → Linked
linked linkage.Alone = Alone
linked linkage.Internal = Internal
linked linkage.External = External

abbrev pub naming_in : Table → Naming → NamingTrees
naming_in t n = record { class = n.class; name = n.name; of = type_at t n.of; linkage = linked n.linkage }

-- its type stands below this place
abbrev pub IsNamingIn : ℕ → Naming → Type 0
IsNamingIn n x = x.of < n
