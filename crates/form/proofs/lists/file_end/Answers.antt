-- `form::lists::file_end`: what is read lies within the bytes. Assumes nothing.
use mathlib.Core.Path.{sym}
use native.Mathlib.Omega.{arith}
use Rattle.bundle.specs.Steps.{length-next, formed-next, string-next}
use Rattle.names.specs.Path.{is_path}
use Rattle.form.proofs.lists.file_end.Goals as goal

pub length_end-requires : goal.length_end-requires
length_end-requires c =
    let n = formed-next c.args.bundle.now.bytes.now c.args.bundle.now.end c.args.w.at is_path 4 (sym c.in_ok-size.ensures) in
    let b = string-next c.args.bundle.now.bytes.now c.args.bundle.now.end c.args.w.at n.0 in
    b.2

pub invariant_of-file : goal.invariant_of-file
invariant_of-file c =
    let n = formed-next c.args.bundle.now.bytes.now c.args.bundle.now.end c.args.w.at is_path 4 (sym c.in_ok-size.ensures) in
    let b = string-next c.args.bundle.now.bytes.now c.args.bundle.now.end c.args.w.at n.0 in
    let l = length-next c.args.bundle.now.bytes.now c.args.bundle.now.end c.in_ok-size.size (sym c.in_ok-end.ensures) in
    record { inside = omega (arith, c.args.bundle.now.inside) }

pub overflow_add-size : goal.overflow_add-size
overflow_add-size c =
    let n = formed-next c.args.bundle.now.bytes.now c.args.bundle.now.end c.args.w.at is_path 4 (sym c.in_ok-size.ensures) in
    let b = string-next c.args.bundle.now.bytes.now c.args.bundle.now.end c.args.w.at n.0 in
    let l = length-next c.args.bundle.now.bytes.now c.args.bundle.now.end c.in_ok-size.size (sym c.in_ok-end.ensures) in
    omega (arith, c.args.bundle.now.inside)

pub items-requires : goal.items-requires
items-requires c =
    let n = formed-next c.args.bundle.now.bytes.now c.args.bundle.now.end c.args.w.at is_path 4 (sym c.in_ok-size.ensures) in
    let b = string-next c.args.bundle.now.bytes.now c.args.bundle.now.end c.args.w.at n.0 in
    let l = length-next c.args.bundle.now.bytes.now c.args.bundle.now.end c.in_ok-size.size (sym c.in_ok-end.ensures) in
    (omega arith, c.requires)
