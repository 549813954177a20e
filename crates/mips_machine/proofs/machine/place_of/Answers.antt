use Rattle.mips_machine.proofs.Fetches.{fetched-rotated, rotated-low}
use Rattle.mips_machine.proofs.machine.place_of.Goals as goal

pub returns-clause-is : goal.returns-clause-is
returns-clause-is c = λ code few. fetched-rotated code c.args.pc c.rotate_right.result few c.ranges.pc.fits c.rotate_right.ensures

pub returns-clause-low : goal.returns-clause-low
returns-clause-low c = λ few. rotated-low c.args.pc c.rotate_right.result c.ranges.pc.fits c.rotate_right.ensures few
