use Rattle.std.proofs.Common.{rules}
use Rattle.text.specs.Writing.{put_whole}
use Rattle.printing.specs.Lines.{printed}
use Rattle.printing.proofs.tell.Goals as goal

pub returns : goal.returns
unfolding printed
returns c =
    let p = put_whole (printed c.args.s.now) c.args.out.now c.put_all.new.out.bytes.now c.put_all.new.out.at c.put_all.ensures.1 in
    search rules
