-- A graph of rows may be searched.
use Rattle.std.proofs.Common.{◌≡◌, ℕ, ◌+◌, ◌<◌, ◌≤◌, true, List, [], ◌∷◌, ◌++◌, length, map, take, get_or, refl, sym, subst, ap, append_assoc, ◌∙◌, arith, inl, inr}
use Rattle.std.specs.Prelude.{Contains, All, IsTrue}
use Rattle.std.specs.List.{list_all}
use Rattle.std.proofs.lemmas.Bool.{and_parts, ltb-true, cases_lt}
use Rattle.std.proofs.lemmas.List.{get_or_past, get_or-map, length-map, map-append, map_more}
use Rattle.std.proofs.lemmas.List.Sums.{AllPass-from_list_all}
use Rattle.std.proofs.lemmas.List.Elements.{All-map, All-weaker, All-nil}
use Rattle.std.proofs.lemmas.List.FromFn.{get_or-map-range_with_len}
use Rattle.graph_search.specs.declared.graph.Vertex.{Vertex}
use Rattle.graph_search.specs.declared.graph.Arc.{Arc}
use Rattle.graph_search.specs.declared.graph.Step.{Step}
use Rattle.graph_search.specs.Walks.{no_arc, arc_of, ends_of, IsSearchable}
use Rattle.tests_base.specs.Rows.{vertex_at, ten_vertices, is_pair, pair_arc, row_arcs, none_left}

abbrev Pair : Type 0
Pair = ℕ × ℕ

-- a place below ten is that of a vertex
pub ten-contains : (place : ℕ) → place < 10 → Contains ten_vertices (vertex_at place)
ten-contains place below = (place, below, get_or-map-range_with_len vertex_at 0 10 place place (vertex_at place) below (omega arith))

-- what the test of an arc says
ends : (pair : Pair) → is_pair pair ≡ true → pair.0 < 10
ends pair passes = ltb-true _ _ (and_parts _ _ passes).0

weighs : (pair : Pair) → is_pair pair ≡ true → pair.1 < 100
weighs pair passes = ltb-true _ _ (and_parts _ _ passes).1

module _ (rows : List (List Pair)) (pass : IsTrue (list_all (list_all is_pair) rows)) where
  row-passes : (place : ℕ) → All (λ (pair : Pair). is_pair pair ≡ true) (get_or rows place [])
  row-passes place =
      elim (cases_lt place (length rows)) [
        | inl there ↦ AllPass-from_list_all is_pair (get_or rows place []) (AllPass-from_list_all (list_all is_pair) rows pass place [] there)
        | inr past ↦ subst (All (λ (pair : Pair). is_pair pair ≡ true)) (sym (get_or_past rows place [] past)) (All-nil (λ (pair : Pair). is_pair pair ≡ true))
      ]

  each-arc : (v : Vertex) (P : Arc → Type 0) → ((pair : Pair) → is_pair pair ≡ true → P (pair_arc pair)) → All P (row_arcs rows v)
  each-arc v P each =
      All-map P pair_arc (get_or rows v.place [])
      (All-weaker (λ (pair : Pair). is_pair pair ≡ true) (λ (pair : Pair). P (pair_arc pair)) each (get_or rows v.place []) (row-passes v.place))

  pub rows-searchable : IsSearchable ten_vertices (row_arcs rows) none_left 100
  rows-searchable = record {
    enters = λ v member. each-arc v (λ arc. Contains ten_vertices arc.to) (λ pair passes. ten-contains pair.0 (ends pair passes));
    weights = λ v member. each-arc v (λ arc. arc.weight ≤ 100) (λ pair passes. let below = weighs pair passes in omega (arith, below));
    consistent = λ v member. each-arc v (λ arc. 0 ≤ arc.weight + 0) (λ pair passes. omega arith);
    few = omega arith;
    small = λ v member. omega arith;
  }

-- a row has the arcs of its vertex
pub row-there : (rows : List (List Pair)) (step : Step) (row : List Pair) → row ≡ get_or rows step.from.place [] → step.place < length (row_arcs rows step.from)
    → step.place < length row
row-there rows step row is below =
    let count = length-map (get_or rows step.from.place []) pair_arc in
    let same : length row ≡ length (get_or rows step.from.place []) = ap length is in
    omega (arith, count, same, below)

pub row-weight : (rows : List (List Pair)) (step : Step) (row : List Pair) → row ≡ get_or rows step.from.place [] → step.place < length (row_arcs rows step.from)
    → (get_or row step.place (0, 0)).1 ≡ (arc_of (row_arcs rows) step).weight
row-weight rows step row is below =
    let there = row-there rows step row is below in
    ap (λ (arc : Arc). arc.weight) (sym (get_or-map pair_arc row step.place (0, 0) no_arc there))
    ∙ ap (λ (pairs : List Pair). (get_or (map pair_arc pairs) step.place no_arc).weight) is

-- one more arc's end
pub ends_more : (before ends made : List Vertex) (row : List Pair) (i : ℕ) (d : Pair) (to : Vertex) → i < length row → ends ≡ before ++ ends_of (map pair_arc (take i row))
    → to ≡ vertex_at (get_or row i d).0 → made ≡ ends ++ to ∷ [] → made ≡ before ++ ends_of (map pair_arc (take (i + 1) row))
ends_more before ends made row i d to below so is more =
    let arcs = map pair_arc (take i row) in
    more ∙ ap (λ (vs : List Vertex). vs ++ to ∷ []) so ∙ append_assoc before (ends_of arcs) (to ∷ [])
    ∙ ap (λ (v : Vertex). before ++ (ends_of arcs ++ v ∷ [])) is
    ∙ ap (λ (vs : List Vertex). before ++ vs) (sym (map-append (λ (arc : Arc). arc.to) arcs (pair_arc (get_or row i d) ∷ [])))
    ∙ ap (λ (more : List Arc). before ++ ends_of more) (sym (map_more pair_arc row i d below))

-- the rows of the tests
abbrev pub small_rows : List (List Pair)
small_rows =
    ((3, 90) ∷ (1, 40) ∷ []) ∷ ((3, 40) ∷ (1, 70) ∷ []) ∷ ((2, 0) ∷ (2, 30) ∷ []) ∷ ((4, 20) ∷ (4, 10) ∷ []) ∷ ((5, 0) ∷ (5, 60) ∷ []) ∷ ((6, 0) ∷ (5, 0) ∷ [])
    ∷ ((4, 0) ∷ (6, 0) ∷ []) ∷ ((8, 50) ∷ (8, 90) ∷ []) ∷ ((7, 50) ∷ (0, 10) ∷ []) ∷ ((9, 0) ∷ (9, 0) ∷ []) ∷ []

pub small-searchable : IsSearchable ten_vertices (row_arcs small_rows) none_left 100
small-searchable = rows-searchable small_rows refl
