-- A run keeps the same corners from both of its sides.
use Rattle.std.proofs.Common.{◌≡◌, ◌∙◌, ℕ, Bool, true, false, List, [], length, ap, sym, refl}
use Rattle.std.specs.Prelude.{reverse, if◌then◌else◌}
use Rattle.std.specs.List.{list_any}
use Rattle.std.proofs.lemmas.Bool.{both_ways}
use Rattle.std.proofs.lemmas.List.{length-reverse, reverse-reverse}
use Rattle.std.proofs.lemmas.List.Sorted.{IsPermutation-reverse, list_any-IsPermutation}
use Rattle.nav_base.specs.declared.point.Point.{Point}
use Rattle.mesh_types.specs.Rings.{AreApart}
use Rattle.mesh_types.specs.LinkOrder.{is_point_before}
use Rattle.mesh_types.specs.Simplified.{deviates_over, kept_walking, kept_inside}
use Rattle.mesh_types.proofs.LinkOrderLaws.{points_order, points_tie}
use Rattle.contour_simplify.proofs.Halving.{straight}

pub mirrored : (error : ℕ) (a : Point) (inner : List Point) (b : Point) → AreApart a b
    → kept_inside error b (reverse inner) a ≡ reverse (kept_inside error a inner b)
unfolding kept_inside
mirrored error a inner b apart = by_case (is_point_before a b) (is_point_before b a) refl refl
  where
    -- what is kept on the way from a to b, and on the way back
    forth : List Point
    forth = kept_walking (length inner) error a inner b

    back : List Point
    back = kept_walking (length inner) error b (reverse inner) a

    by_case : (t u : Bool) → is_point_before a b ≡ t → is_point_before b a ≡ u
        → (if u then kept_walking (length (reverse inner)) error b (reverse inner) a else reverse (kept_walking (length (reverse inner)) error a (reverse (reverse inner)) b))
        ≡ reverse (if t then forth else reverse back)
    by_case true true is is' = absurd (both_ways (is_point_before b a) (points_order.one_way a b is) is')
    by_case true false is is' = rw (length-reverse inner, reverse-reverse inner) refl
    by_case false true is is' = rw (length-reverse inner, reverse-reverse back) refl
    by_case false false is is' = absurd (apart (points_tie a b is is'))

-- what is kept on the way from the lesser end
pub kept_forth : (error : ℕ) (a : Point) (inner : List Point) (b : Point) → is_point_before a b ≡ true
    → kept_walking (length inner) error a inner b ≡ kept_inside error a inner b
unfolding kept_inside
kept_forth error a inner b is = rw is refl

pub kept_back : (error : ℕ) (a : Point) (inner : List Point) (b : Point) → is_point_before a b ≡ false
    → reverse (kept_walking (length (reverse inner)) error b (reverse inner) a) ≡ kept_inside error a inner b
unfolding kept_inside
kept_back error a inner b is = rw (is, length-reverse inner) refl

-- and nothing is kept on the way back where no corner deviates over the error
pub straight_back : (error : ℕ) (a : Point) (inner : List Point) (b : Point) → is_point_before a b ≡ false
    → list_any (deviates_over error b a) inner ≡ false → [] ≡ kept_inside error a inner b
straight_back error a inner b is none =
    ap reverse (sym (straight error b (reverse inner) a
    (sym (list_any-IsPermutation (deviates_over error b a) inner (reverse inner) (IsPermutation-reverse inner)) ∙ none)))
    ∙ kept_back error a inner b is
