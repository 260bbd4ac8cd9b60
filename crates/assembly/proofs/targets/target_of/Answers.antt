-- `target_of`: the use has its entry. Assumes nothing.
use Rattle.assembly.specs.Targets.{is_held, targeted, units_alone}
use Rattle.assembly.proofs.targets.target_of.Goals as goal

pub find_use-requires : goal.find_use-requires
find_use-requires c = is_held c.args.s.now c.args.known.now c.args.units c.args.id c.requires.0 c.args.mark c.requires.2

pub returns-in_err-found : goal.returns-in_err-found
returns-in_err-found c =
    let t = targeted c.args.s.now c.args.known.now c.args.units c.args.id c.requires.0 c.args.mark c.requires.2 c.find_use.result c.find_use.ensures in
    rw c.from_residual.ensures (rw c.in_err-found.was at t)

pub returns : goal.returns
returns c =
    let t = targeted c.args.s.now c.args.known.now c.args.units c.args.id c.requires.0 c.args.mark c.requires.2 c.find_use.result c.find_use.ensures in
    rw (c.unit_of.ensures, units_alone c.args.known.now.files c.args.units c.requires.0.fits c.in_ok-found.found.target) (rw c.in_ok-found.was at t)
