-- In the triangles of an outline each edge stands once in each direction, and none leads back along the outline.
--
-- The edges of the triangles so far and of what remains, together, change by an ear in two places alone: there is one more each way between the places
-- before and behind the ear, between which there was none.
use Rattle.std.proofs.Common.{◌≡◌, ℕ, zero, suc, ◌+◌, ◌-◌, ◌<◌, ◌≤◌, pos, Bool, true, false, cond, List, [], ◌∷◌, length, get_or, map, Option, refl, sym, ap, subst, ◌∙◌, inl, inr, arith}
use Rattle.std.specs.Prelude.{None, Some, Ok, Err, Result, slice_index, ◌==◌, if◌then◌else◌}
use Rattle.std.specs.Int.Signed.{lt_z}
use Rattle.std.specs.Option.{option_map_or}
use Rattle.std.specs.List.{remove, range_with_len}
use Rattle.std.proofs.lemmas.Bool.{and_from, and_parts, eq-eqb, eqb-true}
use Rattle.std.proofs.lemmas.Bool.Decides.{nat_tests}
use Rattle.std.proofs.lemmas.List.Edits.{length-remove}
use Rattle.std.proofs.lemmas.List.FromFn.{get_or-range_with_len, length-range_with_len}
use Rattle.std.proofs.lemmas.List.Sums.{sum_by-cons, get_or-le-sum_by}
use Rattle.nav_base.specs.declared.point.Point.{Point}
use Rattle.nav_base.specs.Convex.{place_after}
use Rattle.nav_base.proofs.ConvexLaws.{place_after-in}
use Rattle.mesh_types.specs.declared.region.Triangle.{Triangle}
use Rattle.mesh_types.specs.declared.region.Piece.{Piece}
use Rattle.mesh_types.specs.Ears.{best_ear, cut_ears, ears_of, put_before, triangle_at, turn_of}
use Rattle.mesh_types.specs.Merging.{edge_end}
use Rattle.mesh_types.specs.Words.{piece_of}
use Rattle.mesh_types.specs.Rings.{place_before}
use Rattle.mesh_types.proofs.EarLaws.{best_ear-is, place_before-in}
use Rattle.mesh_types.proofs.Totals.{once_in_range, sum_by-range_same, sum_by-zero}
use Rattle.mesh_types.specs.Edges.{HaveEdgesOnce, KeepOutline, edges_between, edges_round, leads}
use Rattle.mesh_types.proofs.EdgeCounts.{edges-from, edges-remove, edges-total, one_if, parted, step, step-back, step-from, step-to, step_cases, there-at, times, times-remove}

-- ---- edges so far and of what remains, together

-- so many edges lead from u to v, in the triangles so far and in what remains: one at most, and none between places of what remains that no edge joins
-- there; what remains has different places
pub record AreEdges (edges : ℕ → ℕ → ℕ) (rest : List ℕ) : Type 0 where
  pub different : (u : ℕ) → times u rest ≤ 1
  pub most : (u v : ℕ) → edges u v ≤ 1
  pub free : (u v : ℕ) → 1 ≤ times u rest → 1 ≤ times v rest → edges_round u v rest ≡ 0 → edges_round v u rest ≡ 0 → edges u v ≡ 0

-- the cut of an ear
module _ (edges : ℕ → ℕ → ℕ) (rest : List ℕ) (i : ℕ) (below : i < length rest) (more : 3 < length rest) (are : AreEdges edges rest) where
  abbrev t : Triangle
  t = triangle_at rest i

  -- one more each way
  abbrev next : ℕ → ℕ → ℕ
  next u v = edges u v + (step u v t.a t.c + step u v t.c t.a)

  there_a : 1 ≤ times t.a rest
  there_a = there-at rest (place_before (length rest) i) (place_before-in (length rest) i below)

  there_c : 1 ≤ times t.c rest
  there_c = there-at rest (place_after (length rest) i) (place_after-in (length rest) i below)

  none_ac : edges t.a t.c ≡ 0
  none_ac = let is = parted rest i below more are.different in are.free t.a t.c there_a there_c is.there is.back

  none_ca : edges t.c t.a ≡ 0
  none_ca = let is = parted rest i below more are.different in are.free t.c t.a there_c there_a is.back is.there

  next_most : (u v : ℕ) → next u v ≤ 1
  next_most u v =
      elim (step_cases u v t.a t.c) [
        | inr is ↦
            let none : edges u v ≡ 0 = (λ k. edges (sym is.1 k) (sym is.2 k)) ∙ none_ac in
            elim (step_cases u v t.c t.a) [
              | inr back ↦ absurd ((parted rest i below more are.different).differ (is.1 ∙ sym back.1))
              | inl other ↦ omega (arith, none, is.0, other)
            ]
        | inl another ↦ elim (step_cases u v t.c t.a) [
          | inr back ↦
              let none : edges u v ≡ 0 = (λ k. edges (sym back.1 k) (sym back.2 k)) ∙ none_ca in
              omega (arith, none, back.0, another)
          | inl other ↦ omega (arith, are.most u v, another, other)
        ]
      ]

  next_free : (u v : ℕ) → 1 ≤ times u (remove rest i) → 1 ≤ times v (remove rest i) → edges_round u v (remove rest i) ≡ 0 → edges_round v u (remove rest i) ≡ 0
      → next u v ≡ 0
  next_free u v has_u has_v none none' =
      let out_u = times-remove u rest i below in
      let out_v = times-remove v rest i below in
      let one_u = are.different u in
      let one_v = are.different v in
      let enough : 2 ≤ length rest = omega (arith, more) in
      let there = edges-remove u v rest i below enough in
      let back = edges-remove v u rest i below enough in
      let free : edges u v ≡ 0 =
      are.free u v (omega (arith, has_u, out_u)) (omega (arith, has_v, out_v))
      (omega (arith, there, none, step-to u v t.a t.b, step-from u v t.b t.c, out_u, out_v, one_u, one_v, has_u, has_v))
      (omega (arith, back, none', step-to v u t.a t.b, step-from v u t.b t.c, out_u, out_v, one_u, one_v, has_u, has_v)) in
      omega (
        arith,
        free,
        there,
        back,
        none,
        none',
        step-to u v t.a t.b,
        step-from u v t.b t.c,
        step-to v u t.a t.b,
        step-from v u t.b t.c,
        step-back u v t.c t.a,
        out_u,
        out_v,
        one_u,
        one_v,
        has_u,
        has_v,
      )

  are_next : AreEdges next (remove rest i)
  are_next = record {
    different = λ u. omega (arith, times-remove u rest i below, are.different u);
    most = next_most;
    free = next_free;
  }

-- ---- triangles of what remains

-- the edges of triangles
abbrev pub triangle_edges : ℕ → ℕ → List Triangle → ℕ
triangle_edges u v triangles = edges_between u v (map piece_of triangles)

-- with the edges so far, triangles of what remains have no edge twice in one direction; where there was an edge already, they have that of what remains alone
pub record AreTrianglesOf (edges : ℕ → ℕ → ℕ) (rest : List ℕ) (triangles : List Triangle) : Type 0 where
  pub most : (u v : ℕ) → edges u v + triangle_edges u v triangles ≤ edges_round u v rest + 1
  pub same : (u v : ℕ) → edges u v ≡ 1 → (triangle_edges u v triangles ≡ edges_round u v rest) × (triangle_edges v u triangles ≡ edges_round v u rest)

-- a triangle before others
edges-more : (u v : ℕ) (t : Triangle) (triangles : List Triangle)
    → triangle_edges u v (t ∷ triangles) ≡ (step u v t.a t.b + (step u v t.b t.c + step u v t.c t.a)) + triangle_edges u v triangles
edges-more u v t triangles =
    sum_by-cons (λ (piece : Piece). edges_round u v piece.corners) (piece_of t) (map piece_of triangles)
    ∙ ap (λ n. n + triangle_edges u v triangles) (edges-total u v (t.a ∷ t.b ∷ t.c ∷ []))

-- an ear before those of what remains then
ear-edges : (edges : ℕ → ℕ → ℕ) (rest : List ℕ) (i : ℕ) (others : List Triangle) (below : i < length rest) (more : 3 < length rest) (are : AreEdges edges rest)
    → AreTrianglesOf (next edges rest i below more are) (remove rest i) others → AreTrianglesOf edges rest (triangle_at rest i ∷ others)
ear-edges edges rest i others below more are of =
    let t : Triangle = triangle_at rest i in
    let enough : 2 ≤ length rest = omega (arith, more) in
    record {
      most = λ u v. omega (arith, of.most u v, edges-remove u v rest i below enough, edges-more u v t others);
      same = λ u v one.
          let bound = next_most edges rest i below more are u v in
          let inner = of.same u v (omega (arith, one, bound)) in (
            omega (arith, inner.0, one, bound, edges-remove u v rest i below enough, edges-more u v t others),
            omega (
              arith,
              inner.1,
              one,
              bound,
              edges-remove v u rest i below enough,
              edges-more v u t others,
              step-back u v t.a t.c,
              step-back u v t.c t.a,
            ),
          );
    }

-- the last three
last-edges : (corners : List Point) (edges : ℕ → ℕ → ℕ) (rest : List ℕ) (triangles : List Triangle) → length rest ≡ 3 → AreEdges edges rest
    → (b : Bool) → (if b then Ok (triangle_at rest 1 ∷ []) else Err rest) ≡ Ok triangles → AreTrianglesOf edges rest triangles
last-edges corners edges rest triangles count are false is = absurd (cc)
last-edges corners edges [] triangles count are true is = absurd (omega (arith, count))
last-edges corners edges (a ∷ []) triangles count are true is = absurd (omega (arith, count))
last-edges corners edges (a ∷ b ∷ []) triangles count are true is = absurd (omega (arith, count))
last-edges corners edges (a ∷ b ∷ c ∷ []) triangles count are true is =
    let t : Triangle = triangle_at (a ∷ b ∷ c ∷ []) 1 in
    let made : t ∷ [] ≡ triangles = cc in
    let all : (u v : ℕ) → triangle_edges u v (t ∷ []) ≡ edges_round u v (a ∷ b ∷ c ∷ []) =
    λ u v. sum_by-cons (λ (piece : Piece). edges_round u v piece.corners) (piece_of t) [] ∙ omega arith in
    subst (AreTrianglesOf edges (a ∷ b ∷ c ∷ [])) made (record {
      most = λ u v. omega (arith, are.most u v, all u v);
      same = λ u v one. (all u v, all v u);
    })
last-edges corners edges (a ∷ b ∷ c ∷ d ∷ rest) triangles count are true is = absurd (omega (arith, count))

-- all cuts
put-edges : (edges : ℕ → ℕ → ℕ) (rest : List ℕ) (i : ℕ) (triangles : List Triangle) (r : Result (List Triangle) (List ℕ)) (below : i < length rest) (more : 3 < length rest)
    (are : AreEdges edges rest) → ((others : List Triangle) → r ≡ Ok others → AreTrianglesOf (next edges rest i below more are) (remove rest i) others)
    → put_before (triangle_at rest i) r ≡ Ok triangles → AreTrianglesOf edges rest triangles
put-edges edges rest i triangles (Ok others) below more are others_are is =
    let made : triangle_at rest i ∷ others ≡ triangles = cc in
    subst (AreTrianglesOf edges rest) made (ear-edges edges rest i others below more are (others_are others refl))
put-edges edges rest i triangles (Err left) below more are others_are is = absurd (cc)

cut_ears-edges : (corners : List Point) (above : ℕ) (rest : List ℕ) (triangles : List Triangle) (edges : ℕ → ℕ → ℕ) → AreEdges edges rest → length rest ≡ above + 3
    → cut_ears corners above rest ≡ Ok triangles → AreTrianglesOf edges rest triangles
unfolding cut_ears
cut_ears-edges corners zero rest triangles edges are count is = last-edges corners edges rest triangles count are (lt_z (pos 0) (turn_of corners (triangle_at rest 1))) is
cut_ears-edges corners (suc above) rest triangles edges are count is =
    ear (best_ear corners rest) refl is (λ i others after are' fewer cut. cut_ears-edges corners above (remove rest i) others after are' fewer cut)
  where
    ear : (o : Option ℕ) → best_ear corners rest ≡ o
        → option_map_or (λ i. put_before (triangle_at rest i) (cut_ears corners above (remove rest i))) o (Err rest) ≡ Ok triangles
        → ((i : ℕ) (others : List Triangle) (after : ℕ → ℕ → ℕ) → AreEdges after (remove rest i) → length (remove rest i) ≡ above + 3
        → cut_ears corners above (remove rest i) ≡ Ok others → AreTrianglesOf after (remove rest i) others)
        → AreTrianglesOf edges rest triangles
    ear None e same others_are = absurd (cc)
    ear (Some i) e same others_are =
        let below : i < length rest = (best_ear-is corners rest i e).0 in
        let more : 3 < length rest = omega (arith, count) in
        put-edges edges rest i triangles (cut_ears corners above (remove rest i)) below more are
        (λ others cut. others_are i others (next edges rest i below more are) (are_next edges rest i below more are) (omega (arith, count, length-remove rest i below)) cut) same

-- ---- the outline

-- the places of an outline, round
abbrev pub round : ℕ → List ℕ
round count = range_with_len 0 count

place-at : (count k : ℕ) → k < count → slice_index (round count) k ≡ k
place-at count k below = get_or-range_with_len 0 count k 0 below ∙ omega arith

end-at : (count k : ℕ) → k < count → edge_end (round count) k ≡ place_after count k
end-at count k below =
    ap (λ n. slice_index (round count) (place_after n k)) (length-range_with_len 0 count) ∙ place-at count (place_after count k) (place_after-in count k below)

round-different : (count u : ℕ) → times u (round count) ≤ 1
round-different count u = once_in_range (λ k. k == u) 1 0 count (λ i j less below is_i is_j. omega (arith, less, eqb-true i u is_i, eqb-true j u is_j))

round-edges : (count : ℕ) → AreEdges (λ u v. edges_round u v (round count)) (round count)
round-edges count = record {
  different = round-different count;
  most = λ u v. omega (arith, edges-from u v (round count), round-different count u);
  free = λ u v has has' none none'. none;
}

round-along : (count k : ℕ) → k < count → edges_round k (place_after count k) (round count) ≡ 1
round-along count k below =
    let passes : leads (round count) k (place_after count k) k ≡ true =
    and_from (slice_index (round count) k == k) (edge_end (round count) k == place_after count k) (eq-eqb _ k (place-at count k below)) (eq-eqb _ _ (end-at count k below)) in
    let size = length-range_with_len 0 count in
    let here : leads (round count) k (place_after count k) (get_or (range_with_len 0 (length (round count))) k 0) ≡ true =
    ap (leads (round count) k (place_after count k)) (get_or-range_with_len 0 (length (round count)) k 0 (omega (arith, below, size)) ∙ omega arith) ∙ passes in
    let one : one_if (leads (round count) k (place_after count k) (get_or (range_with_len 0 (length (round count))) k 0)) ≡ 1 = ap one_if here in
    omega (
      arith,
      one,
      get_or-le-sum_by (λ edge. cond (leads (round count) k (place_after count k) edge) 1 0) (range_with_len 0 (length (round count))) k 0
          (omega (arith, below, size, length-range_with_len 0 (length (round count)))),
      edges-from k (place_after count k) (round count),
      round-different count k,
    )

two_on : (count k : ℕ) → 3 ≤ count → k < count → place_after count (place_after count k) ≡ k → ⊥
two_on count k enough below same = grind (arith, nat_tests)

round-back : (count k : ℕ) → 3 ≤ count → k < count → edges_round (place_after count k) k (round count) ≡ 0
round-back count k enough below =
    sum_by-range_same (λ edge. cond (leads (round count) (place_after count k) k edge) 1 0) (λ edge. 0) 0 (length (round count))
    (λ edge least most. none edge (omega (arith, most, length-range_with_len 0 count)) (leads (round count) (place_after count k) k edge) refl)
    ∙ sum_by-zero (range_with_len 0 (length (round count)))
  where
    none : (edge : ℕ) → edge < count → (b : Bool) → leads (round count) (place_after count k) k edge ≡ b → one_if b ≡ 0
    none edge inside false is = refl
    none edge inside true is =
        let both = and_parts (slice_index (round count) edge == place_after count k) (edge_end (round count) edge == k) is in
        let begins : edge ≡ place_after count k = sym (place-at count edge inside) ∙ eqb-true _ _ both.0 in
        let ends : place_after count edge ≡ k = sym (end-at count edge inside) ∙ eqb-true _ _ both.1 in
        absurd (two_on count k enough below (ap (place_after count) (sym begins) ∙ ends))

-- the triangles of an outline
ears_of-edges : (corners : List Point) (triangles : List Triangle) → 3 ≤ length corners → ears_of corners ≡ Ok triangles
    → AreTrianglesOf (λ u v. edges_round u v (round (length corners))) (round (length corners)) triangles
unfolding ears_of
ears_of-edges corners triangles enough is =
    cut_ears-edges corners (length corners - 3) (round (length corners)) triangles (λ u v. edges_round u v (round (length corners))) (round-edges (length corners))
    (omega (arith, enough, length-range_with_len 0 (length corners))) is

pub ears_of-once : (corners : List Point) (triangles : List Triangle) → 3 ≤ length corners → ears_of corners ≡ Ok triangles → HaveEdgesOnce (map piece_of triangles)
ears_of-once corners triangles enough is u v = omega (arith, (ears_of-edges corners triangles enough is).most u v)

pub ears_of-outline : (corners : List Point) (triangles : List Triangle) → 3 ≤ length corners → ears_of corners ≡ Ok triangles
    → KeepOutline corners (map piece_of triangles)
ears_of-outline corners triangles enough is =
    let of = ears_of-edges corners triangles enough is in
    record {
      along = λ place below. (of.same place (place_after (length corners) place) (round-along (length corners) place below)).0 ∙ round-along (length corners) place below;
      back = λ place below. (of.same place (place_after (length corners) place) (round-along (length corners) place below)).1 ∙ round-back (length corners) place enough below;
    }
