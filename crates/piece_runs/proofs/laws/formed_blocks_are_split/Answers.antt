use Rattle.piece_runs.proofs.laws.formed_blocks_are_split.Goals as goal

pub returns : goal.returns
returns c g before more es frame formed slots = record { split = c.blocks_are_split.ensures before frame es formed; more = more; frame = slots }
