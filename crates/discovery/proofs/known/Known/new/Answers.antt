-- `Known::new` meets its contract. Assumes nothing.
use Rattle.std.proofs.Common.{refl, ap}
use Rattle.std.proofs.lemmas.List.{get_or-replicate, length-replicate}
use Rattle.discovery.specs.Known.{no_row, no_entry}
use Rattle.discovery.specs.declared.known.FileRow.{FileRow}
use Rattle.discovery.specs.declared.known.Entry.{Entry}
use Rattle.discovery.proofs.known.Known.new.Goals as goal

pub returns : goal.returns
returns c = record { wide = record { rows = length-replicate {A = FileRow} 64 no_row; entries = length-replicate {A = Entry} 256 no_entry }; none = refl; clear = λ i h. ap (λ (r : FileRow). r.place) (get_or-replicate {A = FileRow} 64 i no_row no_row h) }
