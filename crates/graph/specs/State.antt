-- The code's state of the walk, as the definition has it. Assumes nothing.
use Rattle.std.specs.Prelude.{◌≡◌, false, Result, Ok, Err, List, ℕ, suc, ◌<◌, ◌≤◌, ◌+◌, ◌-◌, length, get_or}
use Rattle.graph.specs.declared.Graph.{Graph}
use Rattle.graph.specs.declared.linearization.Search.{Search}
use Rattle.graph.specs.Limits.{unit_limit, id_limit}
use Rattle.graph.specs.Linearize.{Out, order, ring, memb, visit}
use Rattle.graph.specs.Order.{Reaches, Within}
use Rattle.graph.specs.OrderTheorems.{Done, Apart, Trail, On}
use Rattle.graph.specs.Given.{deps_of}

-- the counts are within the limits, the lists within the ids, and each id in a list is a unit
pub record Sound (g : Graph) : Type 0 where
  pub small : g.units ≤ unit_limit
  pub within : Within (deps_of g) g.units
  pub rooms : (x : ℕ) → x < g.units → get_or g.start x 0 + get_or g.len x 0 ≤ id_limit

-- the flags of what is done
pub record Fine (w : Search) : Type 0 where
  pub long : length w.visited ≡ unit_limit
  pub flags : (x : ℕ) → x < unit_limit → get_or w.visited x false ≡ memb x w.order

-- what holds where unit u, which is not done, is visited
pub record Ready (g : Graph) (w : Search) (u : ℕ) : Type 0 where
  pub sound : Sound g
  pub fine : Fine w
  pub on : On (deps_of g) g.units sound.within w.visiting (suc g.units - length w.visiting)
  pub new : memb u w.order ≡ false
  pub done : Done (deps_of g) w.order
  pub apart : Apart (deps_of g) w.visiting w.order
  pub trail : Trail (deps_of g) w.visiting u
  pub below : u < g.units
  pub reach : Reaches (deps_of g) 0 u

-- what the definition makes of w at u
abbrev pub visit_of : Graph → Search → ℕ → Out
visit_of g w u = visit (deps_of g) (suc g.units - length w.visiting) w.visiting w.order u

-- x is what visiting u makes of w, where no ring is met
pub record Walked (g : Graph) (w : Search) (u : ℕ) (x : Search) : Type 0 where
  pub answer : visit_of g w u ≡ order x.order
  pub fine : Fine x
  pub stack : x.visiting ≡ w.visiting

-- what visiting u answers, and the state that it leaves
abbrev pub Visited : Graph → Search → ℕ → Result (Unit {0}) (List ℕ) → Search → Type 0
Visited g w u (Ok _) x = Walked g w u x
Visited g w u (Err r) x = visit_of g w u ≡ ring r
