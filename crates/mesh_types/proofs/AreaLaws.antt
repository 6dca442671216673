-- Areas: a cut takes away exactly the area of its triangle.
use Rattle.std.proofs.Common.{◌≡◌, ℕ, zero, suc, ◌+◌, ◌-◌, ◌<◌, ◌≤◌, ℤ, pos, ◌+ℤ◌, Bool, true, false, List, [], ◌∷◌, length, Option, refl, sym, ap, ◌∙◌, arith}
use Rattle.std.specs.Prelude.{None, Some, Ok, Err, Result, if◌then◌else◌}
use Rattle.std.specs.Int.Signed.{lt_z}
use Rattle.std.specs.Option.{option_map_or}
use Rattle.std.specs.List.{remove, range_with_len}
use Rattle.std.proofs.lemmas.Int.{ints}
use Rattle.std.proofs.lemmas.List.Edits.{length-remove}
use Rattle.std.proofs.lemmas.List.FromFn.{length-range_with_len}
use Rattle.nav_base.specs.declared.point.Point.{Point}
use Rattle.nav_base.specs.Point.{cross_of, dot_of, orient_of}
use Rattle.nav_base.specs.Convex.{corner_at}
use Rattle.nav_base.proofs.Polynomials.{sum, equal}
use Rattle.nav_base.proofs.PointTerms.{place, coordinates, cross_term, orient_term}
use Rattle.mesh_types.specs.declared.region.Triangle.{Triangle}
use Rattle.mesh_types.specs.Ears.{put_before, area_of, outline_area, best_ear, cut_ears, ears_of, triangle_at, turn_of, turns_of}
use Rattle.mesh_types.proofs.EarLaws.{best_ear-is}
use Rattle.mesh_types.proofs.Rounds.{round-remove}

-- the crosses along two sides of a triangle, and along the third
two_sides : (a b c : Point) → cross_of a b +ℤ cross_of b c ≡ cross_of a c +ℤ orient_of a b c
unfolding cross_of dot_of orient_of
two_sides a b c =
    equal (coordinates (a ∷ b ∷ c ∷ [])) (sum (cross_term (place 0) (place 1)) (cross_term (place 1) (place 2)))
    (sum (cross_term (place 0) (place 2)) (orient_term (place 0) (place 1) (place 2))) refl

pub three_sides : (a b c : Point) → cross_of a b +ℤ (cross_of b c +ℤ cross_of c a) ≡ orient_of a b c
unfolding cross_of dot_of orient_of
three_sides a b c =
    equal (coordinates (a ∷ b ∷ c ∷ [])) (sum (cross_term (place 0) (place 1)) (sum (cross_term (place 1) (place 2)) (cross_term (place 2) (place 0))))
    (orient_term (place 0) (place 1) (place 2)) refl

-- a place taken out of a list that runs round
pub area-remove : (corners : List Point) (rest : List ℕ) (i : ℕ) → i < length rest → 3 ≤ length rest
    → area_of corners rest ≡ area_of corners (remove rest i) +ℤ turn_of corners (triangle_at rest i)
area-remove corners rest i below enough =
    let at : ℕ → Point = corner_at corners in
    let t : Triangle = triangle_at rest i in
    left (area_of corners rest) (area_of corners (remove rest i)) (cross_of (at t.a) (at t.c)) (cross_of (at t.a) (at t.b)) (cross_of (at t.b) (at t.c)) (turn_of corners t)
    (round-remove (λ a b. cross_of (at a) (at b)) rest i below (omega (arith, enough))) (two_sides (at t.a) (at t.b) (at t.c))
  where
    left : (r s ac ab bc turn : ℤ) → r +ℤ ac ≡ s +ℤ (ab +ℤ bc) → ab +ℤ bc ≡ ac +ℤ turn → r ≡ s +ℤ turn
    left r s ac ab bc turn e f = omega (arith, ints)

-- the last three
last-area : (corners : List Point) (rest : List ℕ) (triangles : List Triangle) → length rest ≡ 3 → (b : Bool)
    → (if b then Ok (triangle_at rest 1 ∷ []) else Err rest) ≡ Ok triangles → turns_of corners triangles ≡ area_of corners rest
last-area corners rest triangles count false is = absurd (cc)
last-area corners [] triangles count true is = absurd (omega (arith, count))
last-area corners (a ∷ []) triangles count true is = absurd (omega (arith, count))
last-area corners (a ∷ b ∷ []) triangles count true is = absurd (omega (arith, count))
last-area corners (a ∷ b ∷ c ∷ []) triangles count true is =
    let same : triangle_at (a ∷ b ∷ c ∷ []) 1 ∷ [] ≡ triangles = cc in
    ap (turns_of corners) (sym same) ∙ alone (turn_of corners (triangle_at (a ∷ b ∷ c ∷ []) 1))
    ∙ sym (three_sides (corner_at corners a) (corner_at corners b) (corner_at corners c))
  where
    alone : (n : ℤ) → n +ℤ pos 0 ≡ n
    alone n = omega (arith, ints)
last-area corners (a ∷ b ∷ c ∷ d ∷ rest) triangles count true is = absurd (omega (arith, count))

-- an ear before triangles
ear-area : (corners : List Point) (rest : List ℕ) (i : ℕ) (triangles : List Triangle) (r : Result (List Triangle) (List ℕ)) → i < length rest → 3 ≤ length rest
    → ((others : List Triangle) → r ≡ Ok others → turns_of corners others ≡ area_of corners (remove rest i))
    → put_before (triangle_at rest i) r ≡ Ok triangles → turns_of corners triangles ≡ area_of corners rest
ear-area corners rest i triangles (Ok others) below enough others_are is =
    let same : triangle_at rest i ∷ others ≡ triangles = cc in
    ap (turns_of corners) (sym same) ∙ ap (λ n. turn_of corners (triangle_at rest i) +ℤ n) (others_are others refl)
    ∙ swapped (turn_of corners (triangle_at rest i)) (area_of corners (remove rest i)) ∙ sym (area-remove corners rest i below enough)
  where
    swapped : (a b : ℤ) → a +ℤ b ≡ b +ℤ a
    swapped a b = omega (arith, ints)
ear-area corners rest i triangles (Err left) below enough others_are is = absurd (cc)

cut_ears-area : (corners : List Point) (above : ℕ) (rest : List ℕ) (triangles : List Triangle) → length rest ≡ above + 3
    → cut_ears corners above rest ≡ Ok triangles → turns_of corners triangles ≡ area_of corners rest
unfolding cut_ears
cut_ears-area corners zero rest triangles count is = last-area corners rest triangles count (lt_z (pos 0) (turn_of corners (triangle_at rest 1))) is
cut_ears-area corners (suc above) rest triangles count is = ear (best_ear corners rest) refl is (λ i others fewer cut. cut_ears-area corners above (remove rest i) others fewer cut)
  where
    ear : (o : Option ℕ) → best_ear corners rest ≡ o
        → option_map_or (λ i. put_before (triangle_at rest i) (cut_ears corners above (remove rest i))) o (Err rest) ≡ Ok triangles
        → ((i : ℕ) (others : List Triangle) → length (remove rest i) ≡ above + 3 → cut_ears corners above (remove rest i) ≡ Ok others
        → turns_of corners others ≡ area_of corners (remove rest i))
        → turns_of corners triangles ≡ area_of corners rest
    ear None e same others_are = absurd (cc)
    ear (Some i) e same others_are =
        let is_one = best_ear-is corners rest i e in
        ear-area corners rest i triangles _ is_one.0 (omega (arith, count)) (λ others cut. others_are i others (omega (arith, count, length-remove rest i is_one.0)) cut) same

-- the triangles of an outline have its area
pub ears_of-area : (corners : List Point) (triangles : List Triangle) → 3 ≤ length corners → ears_of corners ≡ Ok triangles
    → turns_of corners triangles ≡ outline_area corners
unfolding ears_of
ears_of-area corners triangles enough is =
    cut_ears-area corners (length corners - 3) (range_with_len 0 (length corners)) triangles (omega (arith, enough, length-range_with_len 0 (length corners))) is
