-- A count of ones is a size.
use Rattle.sperner.proofs.Sizes.{ones_size}
use Rattle.sperner.proofs.size.Goals as goal

pub returns : goal.returns
returns c = ones_size 64 c.args.coalition c.ranges.coalition.fits
