-- Small graphs that are given as rows, for the tests: for each vertex of one block the arcs that leave it, by where they end and their weight.
use Rattle.std.specs.Prelude.{ℕ, Bool, IsTrue, nat_lt, ◌&&◌, List, [], map, slice_index_or}
use Rattle.std.specs.List.{list_all, range_with_len}
use Rattle.graph_search.specs.declared.graph.Vertex.{Vertex}
use Rattle.graph_search.specs.declared.graph.Arc.{Arc}

-- a vertex of the one block
abbrev pub vertex_at : ℕ → Vertex
vertex_at place = record { block = 0; place = place }

-- the vertices: ten of them
abbrev pub ten_vertices : List Vertex
ten_vertices = map vertex_at (range_with_len 0 10)

-- an arc ends at one of the ten vertices, and weighs less than 100
abbrev pub is_pair : ℕ × ℕ → Bool
is_pair pair = nat_lt pair.0 10 && nat_lt pair.1 100

-- all of them do
pub record AreRows (rows : List (List (ℕ × ℕ))) : Type 0 where
  pub pass : IsTrue (list_all (list_all is_pair) rows)

abbrev pub pair_arc : ℕ × ℕ → Arc
pair_arc pair = record { to = vertex_at pair.0; weight = pair.1 }

-- the arcs that leave a vertex
abbrev pub row_arcs : List (List (ℕ × ℕ)) → Vertex → List Arc
row_arcs rows v = map pair_arc (slice_index_or rows v.place [])

-- an estimate of 0
abbrev pub none_left : Vertex → ℕ
none_left v = 0
