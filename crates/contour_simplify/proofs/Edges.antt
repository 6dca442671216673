-- Loops over the edges of a contour.
use Rattle.std.proofs.Common.{◌≡◌, ℕ, ◌+◌, ◌<◌, Bool, true, false, cond, List, [], ◌∷◌, ◌++◌, length, get_or, arith, sym, ap, ◌∙◌}
use Rattle.std.specs.Prelude.{filter}
use Rattle.std.specs.List.{IsFirstBest, range_with_len}
use Rattle.std.specs.Cmp.{IsStrictWeakOrder}
use Rattle.std.proofs.lemmas.List.{get_or-map, length-map, map-id, append-nil}
use Rattle.std.proofs.lemmas.List.FromFn.{filter_of_map_range_with_len_more}
use Rattle.std.proofs.lemmas.List.MinMax.{IsFirstBest-keeps, IsFirstBest-takes}
use Rattle.nav_base.specs.declared.point.Point.{Point}
use Rattle.mesh_types.specs.declared.region.UnitEdge.{UnitEdge}
use Rattle.mesh_types.specs.Rings.{beginnings}

place_next : (p : ℕ → Bool) (place : ℕ) → filter p (range_with_len 0 (place + 1)) ≡ filter p (range_with_len 0 place) ++ cond (p place) (place ∷ []) []
place_next p place =
    ap (filter p) (sym (map-id (range_with_len 0 (place + 1))))
    ∙ filter_of_map_range_with_len_more p (λ k. k) 0 place place (omega arith)
    ∙ ap (λ ks. filter p ks ++ cond (p place) (place ∷ []) []) (map-id (range_with_len 0 place))

-- one place more that a test lets through or not
pub place_more : (p : ℕ → Bool) (place : ℕ) (found : List ℕ) → found ≡ filter p (range_with_len 0 place) → p place ≡ true
    → found ++ place ∷ [] ≡ filter p (range_with_len 0 (place + 1))
place_more p place found before is =
    ap (λ ks. ks ++ place ∷ []) before ∙ sym (place_next p place ∙ ap (λ test. filter p (range_with_len 0 place) ++ cond test (place ∷ []) []) is)

pub place_less : (p : ℕ → Bool) (place : ℕ) (found : List ℕ) → found ≡ filter p (range_with_len 0 place) → p place ≡ false
    → found ≡ filter p (range_with_len 0 (place + 1))
place_less p place found before is =
    before ∙ sym (place_next p place ∙ ap (λ test. filter p (range_with_len 0 place) ++ cond test (place ∷ []) []) is ∙ append-nil (filter p (range_with_len 0 place)))

-- where an edge begins
from_at : (edges : List UnitEdge) (place : ℕ) (d : UnitEdge) → place < length edges → (get_or edges place d).from ≡ get_or (beginnings edges) place (get_or edges place d).from
from_at edges place d there = sym (get_or-map (λ (edge : UnitEdge). edge.from) edges place d (get_or edges place d).from there)

module _ (beats : Point → Point → Bool) (order : IsStrictWeakOrder beats) (edges : List UnitEdge) where
  -- a step of the loop that finds the first corner that none beats
  pub corner_taken : (place best : ℕ) (d e : UnitEdge) → IsFirstBest beats (beginnings edges) place best → place < length edges
      → beats (get_or edges place d).from (get_or edges best e).from ≡ true → IsFirstBest beats (beginnings edges) (place + 1) place
  corner_taken place best d e found there is =
      IsFirstBest-takes order (beginnings edges) place best (get_or edges place d).from (get_or edges best e).from found (omega (arith, there, length-map edges (λ (edge : UnitEdge). edge.from)))
      (from_at edges place d there) (from_at edges best e (omega (arith, there, found.0))) is

  pub corner_kept : (place best : ℕ) (d e : UnitEdge) → IsFirstBest beats (beginnings edges) place best → place < length edges
      → beats (get_or edges place d).from (get_or edges best e).from ≡ false → IsFirstBest beats (beginnings edges) (place + 1) best
  corner_kept place best d e found there is =
      IsFirstBest-keeps order (beginnings edges) place best (get_or edges place d).from (get_or edges best e).from found (omega (arith, there, length-map edges (λ (edge : UnitEdge). edge.from)))
      (from_at edges place d there) (from_at edges best e (omega (arith, there, found.0))) is
