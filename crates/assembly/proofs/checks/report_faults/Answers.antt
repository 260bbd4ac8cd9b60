-- `report_faults`: all faults are told, in the order of their pushes. Assumes nothing.
use Rattle.std.proofs.Common.{arith, ap, ◌∙◌, ◌-◌, ◌++◌, List, map, length, take, length-append}
use Rattle.std.proofs.lemmas.List.{length-map}
use Rattle.refusal.specs.declared.Refusal.{Refusal}
use Rattle.bundle.specs.Decode.{decode}
use Rattle.discovery.specs.Discovery.{Fault}
use Rattle.driver.specs.Meaning.{fault_told}
use Rattle.order.specs.Report.{fault, lent_report, reporting}
use Rattle.assembly.specs.Faults.{enums_of}
use Rattle.assembly.specs.FaultRoom.{foreign, main_told, main_few}
use Rattle.assembly.specs.EnumRoom.{enums_fit, all-meant}
use Rattle.assembly.proofs.checks.report_faults.Goals as goal

pub forbid_enum_dec_in_deps-requires : goal.forbid_enum_dec_in_deps-requires
forbid_enum_dec_in_deps-requires c =
    let e = enums_fit c.args.program.now.bytes.now c.args.program.now.fit c.args.program.now.known.now c.args.program.now.ids.now c.args.program.now.given in
    let n = ap length c.new-faults.ensures in
    omega arith

pub require_main-requires : goal.require_main-requires
require_main-requires c =
    let e = enums_fit c.args.program.now.bytes.now c.args.program.now.fit c.args.program.now.known.now c.args.program.now.ids.now c.args.program.now.given in
    let n = ap length (rw c.new-faults.ensures at c.forbid_enum_dec_in_deps.ensures) in
    omega (arith, length-map (enums_of (decode c.args.program.now.bytes.now) (take (length c.args.program.now.ids.now - 1) c.args.program.now.ids.now)) foreign)

pub write_faults-requires : goal.write_faults-requires
write_faults-requires c =
    let e = enums_fit c.args.program.now.bytes.now c.args.program.now.fit c.args.program.now.known.now c.args.program.now.ids.now c.args.program.now.given in
    let marks = enums_of (decode c.args.program.now.bytes.now) (take (length c.args.program.now.ids.now - 1) c.args.program.now.ids.now) in
    let n = ap length (c.as_slice.ensures.value ∙ (c.require_main.ensures ∙ ap (λ l. l ++ main_told (decode c.args.program.now.bytes.now)) (rw c.new-faults.ensures at c.forbid_enum_dec_in_deps.ensures))) in
    omega (arith, length-map marks foreign, length-append (map foreign marks) (main_told (decode c.args.program.now.bytes.now)), main_few (decode c.args.program.now.bytes.now))

pub returns-clause-value : goal.returns-clause-value
returns-clause-value c =
    let p = c.args.program.now in
    let all = c.as_slice.ensures.value ∙ (c.require_main.ensures ∙ ap (λ l. l ++ main_told (decode p.bytes.now)) (rw c.new-faults.ensures at c.forbid_enum_dec_in_deps.ensures)) in
    c.write_faults.ensures.value
    ∙ (ap (λ (l : List Refusal). reporting (map fault (map fault_told l)) (length c.args.report.now)) all
    ∙ ap (λ (l : List Fault). reporting (map fault l) (length c.args.report.now)) (all-meant p.bytes.now p.fit p.known.now p.ids.now p.given))

pub returns-clause-report_after : goal.returns-clause-report_after
returns-clause-report_after c =
    let p = c.args.program.now in
    let all = c.as_slice.ensures.value ∙ (c.require_main.ensures ∙ ap (λ l. l ++ main_told (decode p.bytes.now)) (rw c.new-faults.ensures at c.forbid_enum_dec_in_deps.ensures)) in
    c.write_faults.ensures.out_after
    ∙ (ap (λ (l : List Refusal). lent_report (map fault (map fault_told l)) c.args.report.now) all
    ∙ ap (λ (l : List Fault). lent_report (map fault l) c.args.report.now) (all-meant p.bytes.now p.fit p.known.now p.ids.now p.given))
