-- `reader::make::make` meets its contract. Assumes nothing.
use native.Mathlib.Omega.{arith}
use Rattle.std.proofs.lemmas.Result.{err_from_is_err_and}
use Rattle.reader.specs.Made.{told-paths, told-maps, told-root, to_map, to_end, end-folders, made}
use Rattle.reader.proofs.make.make.Goals as goal

pub returns-in_err-link_paths-clause-tells : goal.returns-in_err-link_paths-clause-tells
returns-in_err-link_paths-clause-tells c =
    let p = err_from_is_err_and c.from_residual.result c.from_residual.ensures.1 in
    rw (p.1, p.2) (told-paths _ _ _ c.in_err-link_paths.ensures.told)

pub map_names-requires : goal.map_names-requires
map_names-requires c = to_map c.args.s.now (λ i. omega (arith, c.type_inv.s i)) c.requires _ _ c.index_paths.ensures c.in_ok-link_paths.ensures

pub returns-in_err-map_names-clause-tells : goal.returns-in_err-map_names-clause-tells
returns-in_err-map_names-clause-tells c =
    let p = err_from_is_err_and c.from_residual-in_err-map_names.result c.from_residual-in_err-map_names.ensures.1 in
    rw (p.1, p.2) (told-maps _ _ _ c.in_ok-link_paths.ensures.told c.in_err-map_names.ensures.tells)

pub invariant_of-index : goal.invariant_of-index
invariant_of-index c = record {
  index = to_end c.args.s.now (λ i. omega (arith, c.type_inv.s i)) c.requires _ _ c.index_paths.ensures c.in_ok-link_paths.ensures _ c.in_ok-map_names.ensures;
  folders = end-folders c.args.s.now (λ i. omega (arith, c.type_inv.s i)) c.requires _ _ c.index_paths.ensures c.in_ok-link_paths.ensures _ c.in_ok-map_names.ensures;
}

pub returns-in_err-root-clause-tells : goal.returns-in_err-root-clause-tells
returns-in_err-root-clause-tells c =
    let p = err_from_is_err_and c.from_residual-in_err-root.result c.from_residual-in_err-root.ensures.1 in
    rw (p.1, p.2) (told-root _ _ c.in_ok-link_paths.ensures.told c.in_ok-map_names.ensures.tells c.in_err-root.ensures.tells)

pub returns-clause-tells : goal.returns-clause-tells
returns-clause-tells c = told-root _ _ c.in_ok-link_paths.ensures.told c.in_ok-map_names.ensures.tells c.in_ok-root.ensures.tells

pub returns-clause-is : goal.returns-clause-is
returns-clause-is c = made c.args.s.now (λ i. omega (arith, c.type_inv.s i)) c.requires _ _ c.index_paths.ensures c.in_ok-link_paths.ensures _ c.in_ok-map_names.ensures _ c.in_ok-root.ensures.found c.in_ok-root.ensures.tells
