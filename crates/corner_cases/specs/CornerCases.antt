-- C1 to C12 as one table. Each layer has its rows, in the words of its definitions; here they stand together, each with the number of its
-- case, under one theorem: every row's answer is the definition's. Assumes nothing.
use Rattle.std.specs.Prelude.{ℕ, ◌≡◌, refl, Bool, true, false, List, [], ◌∷◌, ◌++◌, map, length}
use Rattle.names.specs.Bytes.{ascii, same, all}
use Rattle.names.specs.Keywords.{is_crate, is_main}
use Rattle.names.specs.Identifier.{letter, digit, class, is_identifier}
use Rattle.names.specs.Packed.{word, packed, same_name}
use Rattle.names.specs.Path.{onto, split, components}
use Rattle.names.specs.Prefix.{begins, starts_with}
use Rattle.bundle.specs.Encode.{encode}
use Rattle.bundle.specs.Read.{read}
use Rattle.resolution.specs.Call.{resolve}
use Rattle.resolution.specs.Cases.{corner_rows, number-rows}
use Rattle.resolution.specs.Cases as resolution
use Rattle.discovery.specs.Cases.{rows, rows_hold}
use Rattle.discovery.specs.Cases as discovery
use Rattle.graph.specs.Linearize.{linearize}
use Rattle.graph.specs.Cases.{corners, lists, holds}
use Rattle.graph.specs.Cases as graph
use Rattle.order.specs.Cases as order
use Rattle.scope_tree.specs.Step.{shared, any_main, nav, element, stage, step, run}
use Rattle.scope_tree.specs.Register.{append, find, whole, names, registered}
use Rattle.scope_tree.specs.Form.{Request, exits, string, after_strings, names_from, local_name, elements_from, string_fault, names_fault, elements_fault, after_elements, rest_fault, use_fault, use_call, call_of, calls_of}
use Rattle.register.specs.Cases.{Case, answers, expected, text, texts, elements, uses, module_in}
use Rattle.register.specs.Cases as scopes

pub data Row : Type 0 where
  -- C1: a path, another, and whether the second is a prefix of the first
  leads : List ℕ → List ℕ → Bool → Row
  -- C1 to C5: a bundle in bytes, an importer, a use, and what it resolves to
  resolves : resolution.Row → Row
  -- C6: a bundle, and its units, lists and faults
  discovers : discovery.Row → Row
  -- C7, C8: lists, and the order or ring
  orders : graph.Row → Row
  -- C6 to C8 and the printed case: a bundle, and its linked order or the report
  links : order.Row → Row
  -- C9 to C12: tree calls, and their answers
  tells : Case → Row
  -- C10: tree calls, and others that leave the same register
  leaves : List Request → List Request → Row

abbrev pub Right : Row → Type 0
Right (leads f p b) = starts_with f p ≡ b
Right (resolves r) = resolve r.bundle r.importer r.use_bytes_lem ≡ r.answer
Right (discovers r) = discovery.discovery (read (encode r.bundle)) ≡ r.expected
Right (orders r) = linearize (lists r.deps) (length r.deps) ≡ r.out
Right (links r) = order.ordering (read (encode r.bundle)) ≡ r.expected
Right (tells c) = (registered (calls_of c.calls)).1 ≡ c.told
Right (leaves cs ds) = (registered (calls_of cs)).0 ≡ (registered (calls_of ds)).0

abbrev pub All : List Row → Type 0
All [] = Unit {0}
All (r ∷ l) = Right r × All l

-- a row with the number of its case, 1 to 12; 0 for one beside them
pub record Numbered : Type 0 where
  pub number : ℕ
  pub row : Row

abbrev pub numbered : List ℕ → List Row → List Numbered
numbered [] [] = []
numbered (n ∷ ns) [] = []
numbered [] (r ∷ l) = record { number = 0; row = r } ∷ numbered [] l
numbered (n ∷ ns) (r ∷ l) = record { number = n; row = r } ∷ numbered ns l

-- C1, in the paper's words: `/r/pay` is no prefix of `/r/payroll/m.simf`; `/r/pay` is one of itself
abbrev pub prefixes : List Row
prefixes = leads (ascii "/r/payroll/m.simf") (ascii "/r/pay") false ∷ leads (ascii "/r/pay") (ascii "/r/pay") true ∷ []

-- C10: an empty use list on a valid path changes nothing
abbrev pub unchanged : List Row
unchanged =
    leaves (module_in "a" false 10 ∷ exits ∷ uses ("crate" ∷ "a" ∷ []) [] ∷ []) (module_in "a" false 10 ∷ exits ∷ [])
    ∷ []

-- C1 to C5
abbrev pub of_resolution : List Numbered
of_resolution = numbered (1 ∷ 1 ∷ 1 ∷ 1 ∷ 2 ∷ 2 ∷ 2 ∷ 3 ∷ 3 ∷ 3 ∷ 4 ∷ 4 ∷ 4 ∷ 5 ∷ []) (map resolves (corner_rows ++ number-rows))

-- C4 and C6
abbrev pub of_discovery : List Numbered
of_discovery = numbered (0 ∷ 4 ∷ 6 ∷ []) (map discovers rows)

-- C7 and C8
abbrev pub of_graph : List Numbered
of_graph = numbered (7 ∷ 8 ∷ 8 ∷ 8 ∷ []) (map orders corners)

-- C6 to C8
abbrev pub of_order : List Numbered
of_order = numbered (0 ∷ 7 ∷ 8 ∷ 8 ∷ 0 ∷ 0 ∷ 6 ∷ []) (map links order.rows)

-- C9 to C12
abbrev pub of_scopes : List Numbered
of_scopes = numbered (9 ∷ 10 ∷ 11 ∷ 12 ∷ []) (map tells scopes.table)

abbrev pub table : List Numbered
table = numbered (1 ∷ 1 ∷ []) prefixes ++ (of_resolution ++ (of_discovery ++ (of_graph ++ (of_order ++ (of_scopes ++ numbered (10 ∷ []) unchanged)))))

abbrev pub Holds : List Numbered → Type 0
Holds [] = Unit {0}
Holds (r ∷ l) = Right r.row × Holds l

-- rows of two tables
both : (l m : List Numbered) → Holds l → Holds m → Holds (l ++ m)
both [] m p q = q
both (r ∷ l) m p q = (p.0, both l m p.1 q)

-- a row holds with any number
with_numbers : (ns : List ℕ) (l : List Row) → All l → Holds (numbered ns l)
with_numbers [] [] p = tt
with_numbers (n ∷ ns) [] p = tt
with_numbers [] (r ∷ l) p = (p.0, with_numbers [] l p.1)
with_numbers (n ∷ ns) (r ∷ l) p = (p.0, with_numbers ns l p.1)

-- a table that holds as a whole holds row by row
each : {A B : Type 0} (f g : A → B) (row : A → Row) → ((a : A) → f a ≡ g a → Right (row a)) → (l : List A) → map f l ≡ map g l → All (map row l)
each f g row right [] e = tt
each f g row right (a ∷ l) e =
    let h : f a ≡ g a = cc in
    let t : map f l ≡ map g l = cc in
    (right a h, each f g row right l t)

ordered : (l : List graph.Row) → holds l → All (map orders l)
ordered [] p = tt
ordered (r ∷ l) p = (p.0, ordered l p.1)

told : (l : List Case) → answers l ≡ expected l → All (map tells l)
unfolding answers expected
told [] e = tt
told (c ∷ l) e =
    let h : (registered (calls_of c.calls)).1 ≡ c.told = cc in
    let t : answers l ≡ expected l = cc in
    (h, told l t)

prefixes_hold : All prefixes
unfolding ascii starts_with begins components split onto same
prefixes_hold = (refl, (refl, tt))

unchanged_hold : All unchanged
unfolding text texts elements uses module_in ascii same all is_crate is_main letter digit class is_identifier word packed same_name shared any_main nav element stage step run append find whole names string after_strings names_from local_name elements_from string_fault names_fault elements_fault after_elements rest_fault use_fault use_call call_of calls_of
unchanged_hold = (refl, tt)

-- THE THEOREM
pub corner_cases : Holds table
corner_cases =
    both (numbered (1 ∷ 1 ∷ []) prefixes) (of_resolution ++ (of_discovery ++ (of_graph ++ (of_order ++ (of_scopes ++ numbered (10 ∷ []) unchanged)))))
    (with_numbers (1 ∷ 1 ∷ []) prefixes prefixes_hold)
    (both of_resolution (of_discovery ++ (of_graph ++ (of_order ++ (of_scopes ++ numbered (10 ∷ []) unchanged))))
    (with_numbers (1 ∷ 1 ∷ 1 ∷ 1 ∷ 2 ∷ 2 ∷ 2 ∷ 3 ∷ 3 ∷ 3 ∷ 4 ∷ 4 ∷ 4 ∷ 5 ∷ []) (map resolves (corner_rows ++ number-rows))
    (each (λ r. resolve r.bundle r.importer r.use_bytes_lem) (λ r. r.answer) resolves (λ r e. e) (corner_rows ++ number-rows) resolution.corner_cases))
    (both of_discovery (of_graph ++ (of_order ++ (of_scopes ++ numbered (10 ∷ []) unchanged)))
    (with_numbers (0 ∷ 4 ∷ 6 ∷ []) (map discovers rows) (each (λ r. discovery.discovery (read (encode r.bundle))) (λ r. r.expected) discovers (λ r e. e) rows rows_hold))
    (both of_graph (of_order ++ (of_scopes ++ numbered (10 ∷ []) unchanged)) (with_numbers (7 ∷ 8 ∷ 8 ∷ 8 ∷ []) (map orders corners) (ordered corners graph.corner_cases))
    (both of_order (of_scopes ++ numbered (10 ∷ []) unchanged)
    (with_numbers (0 ∷ 7 ∷ 8 ∷ 8 ∷ 0 ∷ 0 ∷ 6 ∷ []) (map links order.rows)
    (each (λ r. order.ordering (read (encode r.bundle))) (λ r. r.expected) links (λ r e. e) order.rows order.rows_hold))
    (both of_scopes (numbered (10 ∷ []) unchanged) (with_numbers (9 ∷ 10 ∷ 11 ∷ 12 ∷ []) (map tells scopes.table) (told scopes.table scopes.corner_cases))
    (with_numbers (10 ∷ []) unchanged unchanged_hold))))))
