-- `ask_use`: the use in the bytes that `rewrite_use` gives. Assumes nothing.
use Rattle.std.proofs.Common.{arith}
use Rattle.items.specs.UseRoom.{use_few}
use Rattle.scope_walk.proofs.calls.ask_use.Goals as goal

pub rewrite_use-n-requires : goal.rewrite_use-n-requires
rewrite_use-n-requires c =
    let u = c.args.unit.now in
    let f = c.requires.1.1 in
    let n = use_few u.bytes.now u.known.now u.units u.id c.args.at u.among f.0 f.1 in
    ((u.among, c.requires.0.0, c.requires.0.1), (f.0.0, omega arith))
