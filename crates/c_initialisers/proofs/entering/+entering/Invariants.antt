-- What falls in the search: the nesting of what is left to search, and with the same nesting the rank of the function.
use Rattle.std.proofs.Common.{◌≡◌, ◌+◌, ◌*◌, ◌≤◌, true, length}
use Rattle.std.specs.Prelude.{option_to_list}
use Rattle.c_types.specs.Layout.{extent}
use Rattle.c_types.specs.Table.{tags, type_at}
use Rattle.c_meaning.specs.CoreTrees.{seen}
use Rattle.c_meaning.specs.Filling.{taken}
use Rattle.c_values.specs.Valued.{qualified_in}
use Rattle.c_initialisers.specs.Entering.{IsBehindIn, are_whole}
use Rattle.c_initialisers.specs.Waiting.{entries_in, waiting_in}
use Rattle.c_initialisers.proofs.Searches.{greatest}
use Rattle.c_initialisers.proofs.entering.+entering.Given as goal

abbrev pub decreases-enter : goal.decreases-enter
decreases-enter l = 4 * (extent (tags l.types.now) (qualified_in l.types.now l.at.of)).nesting

abbrev pub decreases-enter_front : goal.decreases-enter_front
decreases-enter_front l = 4 * (extent (tags l.types.now) (qualified_in l.types.now l.front.place.of)).nesting + 1

abbrev pub decreases-enter_members : goal.decreases-enter_members
decreases-enter_members l = 4 * greatest (tags l.types.now) (entries_in l.types.now l.entry) + 2

abbrev pub decreases-enter_entry : goal.decreases-enter_entry
decreases-enter_entry l = 4 * greatest (tags l.types.now) (entries_in l.types.now l.entry) + 3

-- the place for the expression is among the members that are left
abbrev pub invariant-enter_members-loop-rest : goal.invariant-enter_members-loop-rest
invariant-enter_members-loop-rest l = record {
  waits : l.waits.items ≡ l.fn.waits.items;
  entry : IsBehindIn l.types l.rest;
  whole : are_whole (waiting_in l.types (option_to_list l.rest)) ≡ true;
  nested : greatest (tags l.types) (waiting_in l.types (option_to_list l.rest)) ≤ greatest (tags l.types) (entries_in l.types l.fn.entry);
  taken : taken (tags l.types) (seen (type_at l.types) l.c) (waiting_in l.types (option_to_list l.rest)) ≡ taken (tags l.types) (seen (type_at l.types) l.c) (entries_in l.types l.fn.entry);
}

abbrev pub decreases-enter_members-loop-rest : goal.decreases-enter_members-loop-rest
decreases-enter_members-loop-rest l = length (waiting_in l.types (option_to_list l.rest))
