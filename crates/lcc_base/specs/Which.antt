-- The name of each limit in a report.
use Rattle.std.specs.Prelude.{ℕ, List, codes}
use Rattle.lcc_base.specs.declared.which.Which.{Which}
use Rattle.lcc_base.specs.declared.which.Which.TheVariants.{Input, Terminals, Nonterminals, Rules, Pattern, Number, Nodes, Height, Object, Depth, Parameters, Frame, Data, Code, Cost, States, Sets}

abbrev pub which_name : Which → List ℕ
which_name Input = codes "input"
which_name Terminals = codes "terminals"
which_name Nonterminals = codes "nonterminals"
which_name Rules = codes "rules"
which_name Pattern = codes "pattern"
which_name Number = codes "number"
which_name Nodes = codes "nodes"
which_name Height = codes "height"
which_name Object = codes "object"
which_name Depth = codes "depth"
which_name Parameters = codes "parameters"
which_name Frame = codes "frame"
which_name Data = codes "data"
which_name Code = codes "code"
which_name Cost = codes "cost"
which_name States = codes "states"
which_name Sets = codes "sets"
