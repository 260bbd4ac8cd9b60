-- The unit that is handled, as an importer over a card. Assumes nothing.
use Rattle.std.specs.Prelude.{ℕ, suc, ◌+◌, ◌^◌, ◌<◌, ◌≤◌, ◌≡◌, refl, List, length, get_or}
use Rattle.std.proofs.Common.{arith, add-one, ap, ◌∙◌}
use Rattle.std.proofs.lemmas.List.{length-map}
use Rattle.bundle.specs.Bundle.{File}
use Rattle.bundle.specs.Limits.{file_limit, use_limit}
use Rattle.bundle.specs.Decode.{decode, file_at}
use Rattle.bundle.specs.Stand.{Bytes}
use Rattle.bundle.specs.Read.{verdict}
use Rattle.bundle.specs.Form.{Every}
use Rattle.bundle.specs.Theorems.{accepted, sound}
use Rattle.bundle.specs.Results.{Ok}
use Rattle.card.specs.declared.parts.Card.{Card}
use Rattle.card.specs.Card.{CardIs, CardIs-CardOf}
use Rattle.card.specs.Laws.{node-file}
use Rattle.resolution.specs.Indices.{lists_in, path_in, Importer}
use Rattle.resolution.specs.CardLaws.{total}
use Rattle.driver.specs.declared.record.Graph.{Graph}
use Rattle.discovery.specs.Discovery.{Use, uses}
use Rattle.discovery.specs.Room.{bytes-roomy}
use Rattle.driver.specs.Turns.{Invariant, unit_small, place-small, path-is, uses-fit, faults-fit, seen-is, reads_fit, next}
use Rattle.driver.specs.Record.{looked_all, no_imports, ReadsRoom, read_all}
use Rattle.driver.specs.Complete.{Table, row_room, table-next}
use Rattle.discovery.specs.declared.known.Known.{Known}
use Rattle.discovery.specs.Known.{begun, Fills}
use Rattle.discovery.specs.Places.{Places, places-turn}
use Rattle.discovery.specs.Walk.{use_at, use_list, UseMarks, UsesAre, uses-count, NamedUse, file-named}

module _ (s : List ℕ) (B : Bytes s) (v : verdict s ≡ Ok) {c : Card} (C : CardIs s c) where
  module _ (n : ℕ) (g : Graph) (i : Invariant (decode s) n g) (waits : n < g.units) where
    abbrev at : ℕ
    at = c.folders + 1 + get_or g.files n 0

    at_is : at ≡ suc (length (decode s).folders + get_or g.files n 0)
    at_is = omega (arith, C.folders)

    pub unit-importer : Importer s at
    unit-importer =
        let h = place-small (decode s) (bytes-roomy s B v) n g i waits in
        record { file = omega (arith, at_is); listed = omega (arith, at_is, total (CardIs-CardOf C), length-map (decode s).files (λ (f : File). f.path)) }

    pub unit-below : n < file_limit
    unit-below = unit_small (decode s) (bytes-roomy s B v) n g i waits

    pub at-small : at < 2 ^ 20
    at-small =
        let h = place-small (decode s) (bytes-roomy s B v) n g i waits in
        let r = bytes-roomy s B v in
        let f = r.files in
        let d = r.folders in
        let e = C.folders in
        omega arith

    module _ (f : File) (is : get_or (decode s).files (get_or g.files n 0) f ≡ f) where
      pub unit-path : path_in s at ≡ f.path
      unit-path = ap (path_in s) at_is ∙ (node-file (lists_in s).folders (lists_in s).files (get_or g.files n 0) ∙ path-is (decode s) (bytes-roomy s B v) n g i waits f is)

      pub unit-named : Every NamedUse (uses f.items)
      unit-named = file-named (decode s) (sound s B (decode s) (accepted s v)).1 (get_or g.files n 0) f (place-small (decode s) (bytes-roomy s B v) n g i waits) is

    -- A TURN, where t is what is kept of the units before
    module _ (t : Known) (x : Table (decode s) n g t) (p : Places s t) where
      abbrev index : ℕ
      index = get_or g.files n 0

      pub index_small : index < file_limit
      index_small = let h = place-small (decode s) (bytes-roomy s B v) n g i waits in let r = (bytes-roomy s B v).files in omega arith

      -- its file stands at place
      module _ (place : ℕ) (placed : ((d : File) → index < length (decode s).files → get_or (decode s).files index d ≡ file_at s place) × (place < 2 ^ 26)) where
        abbrev f : File
        f = file_at s place

        abbrev its : List Use
        its = uses f.items

        is : get_or (decode s).files index f ≡ f
        is = placed.0 f (place-small (decode s) (bytes-roomy s B v) n g i waits)

        pub uses_there : (place < 2 ^ 57) × (length its ≤ use_limit)
        uses_there = (omega (arith, placed.1), uses-fit (decode s) (bytes-roomy s B v) n g i waits f is)

        -- those uses, by their marks
        module _ (u : List ℕ) (U : UsesAre s u its) where
          pub begins : (index < file_limit) × (t.next + length u ≤ use_limit)
          begins = (index_small, (let k = uses-count U in let r = row_room (decode s) (bytes-roomy s B v) n g i waits f is t x in omega arith))

          pub marked : UseMarks s u × Every NamedUse (use_list s u)
          marked = (U.marks, rw U.list (unit-named f is))

          pub uses_room : (length u ≤ use_limit) × ((g.fault_count + length u ≤ use_limit) × (t.next + length u ≤ use_limit))
          uses_room =
              let k = uses-count U in
              let a = uses_there.1 in
              let d = faults-fit (decode s) (bytes-roomy s B v) n g i waits f is in
              (omega arith, (omega arith, begins.1))

          -- after the lookups
          module _ (w : Graph) (e : w ≡ looked_all (lists_in s) (path_in s at) (use_list s u) (no_imports g)) where
            seen_is : w ≡ looked_all (lists_in s) f.path its (no_imports g)
            seen_is = seen-is (decode s) (bytes-roomy s B v) n g i waits f is (lists_in s) (path_in s at) (use_list s u) w refl (unit-path f is) U.list e

            pub reads : ReadsRoom w n
            reads = rw seen_is (reads_fit (decode s) (bytes-roomy s B v) n g i waits f is)

            -- after the readings
            module _ (r : Graph) (d : r ≡ read_all w n) where
              turned : r ≡ read_all (looked_all (lists_in s) f.path its (no_imports g)) n
              turned = d ∙ ap (λ (w : Graph). read_all w n) seen_is

              pub next-graph : Invariant (decode s) (n + 1) r
              next-graph = rw (add-one n, turned) (next (decode s) (bytes-roomy s B v) n g i waits f is)

              module _ (k : Known) (y : Fills (lists_in s) (path_in s at) (begun t index (length u)) k t.next (use_list s u) (length u)) where
                filled : Fills (lists_in s) f.path (begun t index (length its)) k t.next its (length its)
                filled = rw (← unit-path f is, ← U.list) (let c = length-map u (use_at s) in rw c y)

                pub next-table : Table (decode s) (n + 1) r k × Places s k
                next-table = (
                  rw (add-one n, turned) (table-next (decode s) (bytes-roomy s B v) n g i waits f is t x k filled),
                  places-turn s t k index (length u) t.next (length u) (lists_in s) (path_in s at) (use_list s u) v x.wide.rows index_small y p,
                )
