-- Theorems about the definition of discovery: ids are given breadth first, and the faults stand unit by unit. Assumes nothing.
use Rattle.std.specs.Prelude.{◌+◌, ◌≡◌, length}
use Rattle.std.proofs.Common.{arith, sym, ap, subst, ◌∙◌, take_all}
use mathlib.Core.List.{List, []}
use Rattle.bundle.specs.Bundle.{Text, Bundle}
use Rattle.discovery.specs.Discovery.{discover_dependencies}
use Rattle.discovery.specs.Reached.{Once}
use Rattle.discovery.specs.InTurn.{BreadthFirst, unread_in_turn, paths_in, first_of_path, readings_in_turn, faults_in_turn}
use Rattle.discovery.specs.Facts.{firsts-once}
use Rattle.discovery.specs.Right.{discovered}
use Rattle.discovery.specs.InTurnFacts.{path-firsts, sources_in_turn, faults-of-units, same-front, readings_after}

module _ (b : Bundle) where
  -- IDS
  -- "ids are given in order of discovery, breadth first": the entry, then what each unit in turn imports, each file at its first place
  pub breadth_first : BreadthFirst b (discover_dependencies b).sources
  breadth_first = record { reached = (discovered b).sound; in_turn = sources_in_turn b }

  -- there is no other such list: another numbering, depth first say, is none
  pub breadth_first-only : (l : List Text) → BreadthFirst b l → l ≡ (discover_dependencies b).sources
  breadth_first-only l h =
      let k = (discover_dependencies b).sources in
      sym (take_all (length l + length k) l (omega arith)) ∙ (same-front b l k h breadth_first (length l + length k) ∙ take_all (length l + length k) k (omega arith))

  -- FAULTS
  -- "in the order of the Rust's pushes": unit by unit in the order of ids, of each its lookup faults and then its reading faults
  pub faults_in_turn_lem : (discover_dependencies b).faults ≡ faults_in_turn b [] (discover_dependencies b).sources
  faults_in_turn_lem = faults-of-units b

  -- C6: what is told of readings in the whole is the first use of each path that can't be read
  pub readings_first : (l : List Text) → readings_in_turn b [] l ≡ first_of_path [] (unread_in_turn b l)
  unfolding unread_in_turn
  readings_first l = readings_after b [] l

  -- each path once
  pub readings_once : (l : List Text) → Once (paths_in (readings_in_turn b [] l))
  readings_once l = subst Once (sym (ap paths_in (readings_first l) ∙ path-firsts [] (unread_in_turn b l))) (firsts-once [] (paths_in (unread_in_turn b l)))
