-- `put_elements` meets its contract. Assumes nothing.
use Rattle.std.proofs.Common.{rules}
use Rattle.assembly.specs.Walk.{elements-read}
use Rattle.encoder.specs.Parts.{one_some, one_front, front-room, front-done, same-filled}
use Rattle.items.specs.Uses.{elements-form}
use Rattle.items.proofs.writing.put_elements.Goals as goal

pub bounds-out-0 : goal.bounds-out-0
bounds-out-0 c =
    let elements = c.use_elements-elements in
    let form = elements-form c.args.s.now c.args.mark _ _ (elements-read c.args.s.now c.args.mark c.requires.0.kind elements.result.first elements.result.count elements.ensures.0) in
    one_some c.args.out.now _ _ _ form c.requires.1

pub slice_bounds-put-count : goal.slice_bounds-put-count
slice_bounds-put-count c =
    let elements = c.use_elements-elements in
    let form = elements-form c.args.s.now c.args.mark _ _ (elements-read c.args.s.now c.args.mark c.requires.0.kind elements.result.first elements.result.count elements.ensures.0) in
    let some = one_some c.args.out.now _ _ _ form c.requires.1 in
    search rules

pub slice_bounds-put-start : goal.slice_bounds-put-start
slice_bounds-put-start c =
    let elements = c.use_elements-elements in
    let form = elements-form c.args.s.now c.args.mark _ _ (elements-read c.args.s.now c.args.mark c.requires.0.kind elements.result.first elements.result.count elements.ensures.0) in
    let some = one_some c.args.out.now _ _ _ form c.requires.1 in
    search rules

pub put-requires : goal.put-requires
put-requires c =
    let elements = c.use_elements-elements in
    let form = elements-form c.args.s.now c.args.mark _ _ (elements-read c.args.s.now c.args.mark c.requires.0.kind elements.result.first elements.result.count elements.ensures.0) in
    rw c.new.ensures (front-room (one_front c.args.out.now _ _ _ form c.requires.1))

pub returns : goal.returns
returns c =
    let elements = c.use_elements-elements in
    let form = elements-form c.args.s.now c.args.mark _ _ (elements-read c.args.s.now c.args.mark c.requires.0.kind elements.result.first elements.result.count elements.ensures.0) in
    same-filled _ _ c.args.out.now _ _ form (front-done (one_front c.args.out.now _ _ _ form c.requires.1) c.put.new.out c.put.result (rw c.new.ensures at c.put.ensures))
