-- `rewrite_use` meets its contract: its path, then its elements behind it. Assumes nothing.
use Rattle.bundle.specs.Decode.{decode}
use Rattle.encoder.specs.Parts.{front_of, front-room, front-done, same-filled}
use Rattle.assembly.specs.Assemble.{file_of}
use Rattle.items.specs.Uses.{use_form, path_room}
use Rattle.items.proofs.writing.rewrite_use.Goals as goal

pub put_path-a-requires : goal.put_path-a-requires
put_path-a-requires c =
    let s = c.args.s.now in
    ((c.requires.0.1, c.target_of-target.ensures.1), (c.requires.1.0, path_room s c.args.mark (file_of (decode s) c.args.id) c.target_of-target.result c.target_of-target.ensures.0 c.args.out.now c.requires.1.1))

pub put_elements-requires : goal.put_elements-requires
put_elements-requires c =
    let s = c.args.s.now in
    let form = use_form s c.args.mark (file_of (decode s) c.args.id) c.target_of-target.result c.target_of-target.ensures.0 in
    (c.requires.0.1, front-room (front_of _ _ c.args.out.now _ _ _ c.put_path-a.ensures form c.requires.1.1))

pub returns : goal.returns
returns c =
    let s = c.args.s.now in
    let form = use_form s c.args.mark (file_of (decode s) c.args.id) c.target_of-target.result c.target_of-target.ensures.0 in
    same-filled _ _ c.args.out.now _ _ form (front-done (front_of _ _ c.args.out.now _ _ _ c.put_path-a.ensures form c.requires.1.1) c.put_elements.new.out c.put_elements.result c.put_elements.ensures)
