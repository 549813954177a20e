use Rattle.lburg_tool.proofs.cover.cover_tail.Given as goal

abbrev pub ghosts-cover_trees : goal.ghosts-cover_trees
ghosts-cover_trees a = record { name = a.blank.name; parts = a.blank.parts }
