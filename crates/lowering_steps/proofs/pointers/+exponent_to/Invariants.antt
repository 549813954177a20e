use Rattle.lowering_steps.proofs.pointers.+exponent_to.Given as goal

abbrev pub decreases-exponent_to : goal.decreases-exponent_to
decreases-exponent_to l = l.most
