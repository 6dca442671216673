-- The foot of a target on a polygon, row after row.
use Rattle.std.proofs.Common.{◌≡◌, ℕ, ◌+◌, ◌*◌, ◌-◌, ◌≤◌, ◌<◌, ◌⊎◌, inl, inr, ℤ, pos, negsuc, ◌+ℤ◌, ◌-ℤ◌, ◌*ℤ◌, ◌≤ℤ◌, ◌<ℤ◌, true, refl, sym, ap, subst, ◌∙◌, arith}
use Rattle.std.specs.Prelude.{Some, None, unsigned_abs}
use Rattle.std.specs.Int.Signed.{lt_z}
use Rattle.std.proofs.lemmas.Bool.{cases_lt}
use Rattle.std.proofs.lemmas.Int.{ints}
use Rattle.std.proofs.lemmas.Nat.{mul-le, mul-lt}
use Rattle.nav_base.specs.declared.point.Point.{Point}
use Rattle.nav_base.specs.Point.{HasCoordinates, IsInField}
use Rattle.mesh_types.specs.declared.polygon.Polygon.{Polygon}
use Rattle.mesh_types.specs.FitTiles.{IsPolygon}
use Rattle.mesh_types.specs.Located.{Holds}
use Rattle.mesh_types.proofs.HeldPoints.{held_from_x, held_to_x, held_from_z, held_to_z}
use Rattle.mesh_place.specs.Lines.{IsItOrFarther, point_on}
use Rattle.mesh_place.proofs.Squares.{farther_across}
use Rattle.wall_slide.specs.declared.discs.Motion.{Motion}
use Rattle.wall_slide.specs.declared.facing.FacingEdge.{FacingEdge}
use Rattle.wall_slide.specs.declared.facing.FootRow.{FootRow}
use Rattle.wall_slide.specs.Facing.{IsFacing, IsFootRow, rows_between}
use Rattle.wall_slide.specs.declared.rows.RowPart.{RowPart}
use Rattle.wall_slide.specs.Feet.{IsAnywhere, IsFoot, IsNearer, IsNearerOf, IsOnRow, far_from}
use Rattle.wall_slide.specs.Rows.{IsInRow, IsRowPart, IsWithin, whole_row}

-- what a polygon holds lies in the field
pub held_in_field : (polygon : Polygon) (q : Point) → IsPolygon polygon → Holds polygon q → IsInField q
held_in_field polygon q rules holds = record {
  left = least q.x (held_from_x polygon q (pos 0) rules.convex holds (λ k d there. (rules.corners k d there).left));
  right = most q.x (held_to_x polygon q (pos 1024) rules.convex holds (λ k d there. (rules.corners k d there).right));
  bottom = least q.z (held_from_z polygon q (pos 0) rules.convex holds (λ k d there. (rules.corners k d there).bottom));
  top = most q.z (held_to_z polygon q (pos 1024) rules.convex holds (λ k d there. (rules.corners k d there).top));
}
  where
    least : (n : ℤ) → (pos 16 *ℤ pos 0) ≤ℤ n → pos 0 ≤ℤ n
    least n h = omega (arith, ints)

    most : (n : ℤ) → n ≤ℤ (pos 16 *ℤ pos 1024) → n ≤ℤ pos 16384
    most n h = omega (arith, ints)

-- a coordinate of the field is a place
size_is : (n : ℤ) → pos 0 ≤ℤ n → n ≡ pos (unsigned_abs n)
size_is (pos k) low = refl
size_is (negsuc k) low = absurd (omega (arith, ints))

size_few : (n : ℤ) → pos 0 ≤ℤ n → n ≤ℤ pos 16384 → unsigned_abs n ≤ 16384
size_few (pos k) low high = omega (arith, ints, high)
size_few (negsuc k) low high = absurd (omega (arith, ints))

-- a row beside the field, as it is tested
pub too_low : (read n : ℤ) → read ≡ n → lt_z read (pos 0) ≡ true → pos 0 ≤ℤ n → ⊥
too_low read n is test = not_low n (subst (λ (m : ℤ). m <ℤ pos 0) is (grind (arith, ints)))
  where
    not_low : (m : ℤ) → m <ℤ pos 0 → pos 0 ≤ℤ m → ⊥
    not_low m less least = omega (arith, ints, less, least)

pub too_high : (read n : ℤ) → read ≡ n → lt_z (pos 16384) read ≡ true → n ≤ℤ pos 16384 → ⊥
too_high read n is test = not_high n (subst (λ (m : ℤ). pos 16384 <ℤ m) is (grind (arith, ints)))
  where
    not_high : (m : ℤ) → pos 16384 <ℤ m → m ≤ℤ pos 16384 → ⊥
    not_high m more most = omega (arith, ints, more, most)

-- a row more outward, fewer rows are left
pub fewer_rows : (out old new : ℕ) → new ≤ old → out * out < old → new - (out + 1) * (out + 1) < old - out * out
fewer_rows out old new less some = omega (arith, less, some, mul-lt out out (out + 1) (out + 1) (omega arith) (omega arith))

-- a row so far on one side of another
by_pos : (n t h : ℤ) (k out : ℕ) → (n -ℤ t) ≡ pos k → h ≡ t +ℤ pos out → k ≤ out → out ≤ k → n ≡ h
by_pos n t h k out e is few many = omega (arith, ints, e, is, few, many)

by_neg : (n t h : ℤ) (k out : ℕ) → (n -ℤ t) ≡ negsuc k → h ≡ t -ℤ pos out → k + 1 ≤ out → out ≤ k + 1 → n ≡ h
by_neg n t h k out e is few many = omega (arith, ints, e, is, few, many)

module _ (polygon : Polygon) (motion : Motion) where
  -- nothing new
  pub nothing : (best : Point) (among : Point → Type 0) → HasCoordinates best → ((q : Point) → IsFoot polygon motion q → among q → far_from motion best ≤ far_from motion q)
      → IsNearer polygon motion best best among
  nothing best among coordinates none = record { coordinates = coordinates; either = inl refl; kept = omega arith; all = none }

  -- after some points and some more
  pub and_then : (old mid new : Point) (first second both : Point → Type 0) → IsNearer polygon motion old mid first → IsNearer polygon motion mid new second
      → ((q : Point) → IsFoot polygon motion q → both q → first q ⊎ second q) → IsNearer polygon motion old new both
  and_then old mid new first second both is more cases = record {
    coordinates = more.coordinates;
    either = elim more.either [ inl same ↦ elim is.either [ inl same' ↦ inl (same ∙ same') | inr foot ↦ inr (subst (IsFoot polygon motion) (sym same) foot) ] | inr foot ↦ inr foot ];
    kept = omega (arith, is.kept, more.kept);
    all = λ q foot among. elim (cases q foot among) [
      | inl one ↦ omega (arith, is.all q foot one, more.kept)
      | inr two ↦ more.all q foot two
    ];
  }

  -- the same points, said otherwise
  pub of_those : (old new : Point) (first both : Point → Type 0) → IsNearer polygon motion old new first
      → ((q : Point) → IsFoot polygon motion q → both q → first q) → IsNearer polygon motion old new both
  of_those old new first both is same = record {
    coordinates = is.coordinates;
    either = is.either;
    kept = is.kept;
    all = λ q foot among. is.all q foot (same q foot among);
  }

  module _ (rules : IsPolygon polygon) (best : Point) (has : HasCoordinates best) where
    -- a row beside the field
    pub beside_field : (z : ℤ) → (pos 0 ≤ℤ z → z ≤ℤ pos 16384 → ⊥) → IsNearer polygon motion best best (IsOnRow z)
    beside_field z out = nothing best (IsOnRow z) has (λ q foot on.
        let field = held_in_field polygon q rules foot.holds in
        absurd (out (subst (λ (n : ℤ). pos 0 ≤ℤ n) on field.bottom) (subst (λ (n : ℤ). n ≤ℤ pos 16384) on field.top)))

    module _ (z : ℕ) where
      -- a foot on a row is at one of its places
      record IsAt (q : Point) : Type 0 where
        x : ℕ
        is : q ≡ point_on x z
        inside : IsInRow whole_row x

      at_place : (q : Point) → IsFoot polygon motion q → IsOnRow (pos z) q → IsAt q
      at_place q foot on =
          let field = held_in_field polygon q rules foot.holds in
          let across = size_is q.x field.left in
          record {
            x = unsigned_abs q.x;
            is = λ i. record { x = across i; z = on i };
            inside = record { first = omega arith; last = size_few q.x field.left field.right };
          }

      pub none_within : IsRowPart (λ x. IsWithin motion (point_on x z)) whole_row None → IsNearer polygon motion best best (IsOnRow (pos z))
      none_within none = nothing best (IsOnRow (pos z)) has (λ q foot on.
          let one = at_place q foot on in
          absurd (none one.x one.inside (subst (IsWithin motion) one.is foot.within)))

      module _ (within : RowPart) (is : IsRowPart (λ x. IsWithin motion (point_on x z)) whole_row (Some within)) where
        pub none_held : IsRowPart (λ x. Holds polygon (point_on x z)) within None → IsNearer polygon motion best best (IsOnRow (pos z))
        none_held none = nothing best (IsOnRow (pos z)) has (λ q foot on.
            let one = at_place q foot on in
            absurd (none one.x (is.all one.x one.inside (subst (IsWithin motion) one.is foot.within)) (subst (Holds polygon) one.is foot.holds)))

        pub found : (held : RowPart) → IsRowPart (λ x. Holds polygon (point_on x z)) within (Some held) → (near : ℕ) (point result : Point) → IsInRow held near
            → ((x : ℕ) → IsInRow held x → IsItOrFarther motion.to.x near x) → point ≡ point_on near z → HasCoordinates point → IsNearerOf motion point best result
            → IsNearer polygon motion best result (IsOnRow (pos z))
        found held part near point result inside nearest made has' is' = record {
          coordinates = elim is'.either [ inl same ↦ subst HasCoordinates (sym same) has' | inr same ↦ subst HasCoordinates (sym same) has ];
          either = elim is'.either [ inl same ↦ inr (subst (IsFoot polygon motion) (sym made ∙ sym same) foot) | inr same ↦ inl same ];
          kept = is'.second;
          all = λ q other on.
              let one = at_place q other on in
              let in_within = is.all one.x one.inside (subst (IsWithin motion) one.is other.within) in
              let in_held = part.all one.x in_within (subst (Holds polygon) one.is other.holds) in
              omega (arith, is'.first, ap (far_from motion) made, ap (far_from motion) one.is, no_farther one.x (nearest one.x in_held));
        }
          where
            begins : within.first ≤ held.first
            begins = part.begins

            ends : held.last ≤ within.last
            ends = part.ends

            foot : IsFoot polygon motion (point_on near z)
            foot =
                let low = inside.first in
                let high = inside.last in
                record { holds = part.are near inside; within = is.are near (record { first = omega (arith, begins, low); last = omega (arith, ends, high) }) }

            no_farther : (x : ℕ) → IsItOrFarther motion.to.x near x → far_from motion (point_on near z) ≤ far_from motion (point_on x z)
            no_farther x (inl same) =
                let e : far_from motion (point_on x z) ≡ far_from motion (point_on near z) = ap (λ (n : ℕ). far_from motion (point_on n z)) same in
                omega (arith, e)
            no_farther x (inr less) = omega (arith, farther_across motion.to (point_on near z) (point_on x z) less refl)

  -- the same points again
  pub again : (old new : Point) (among : Point → Type 0) → IsNearer polygon motion old new among → IsNearer polygon motion new new among
  again old new among is = record { coordinates = is.coordinates; either = inl refl; kept = omega arith; all = is.all }

  -- ---- rows outward from a row

  module _ (row : ℤ) where
    -- the points of rows less than so far from it
    abbrev pub IsAsideLess : ℕ → Point → Type 0
    IsAsideLess out q = unsigned_abs (q.z -ℤ row) < out

    pub first_row : (old new : Point) → IsNearer polygon motion old new (IsOnRow row) → IsNearer polygon motion old new (IsAsideLess 1)
    first_row old new is = of_those old new (IsOnRow row) (IsAsideLess 1) is (λ q foot less. same q.z row less)
      where
        same : (m n : ℤ) → unsigned_abs (m -ℤ n) < 1 → m ≡ n
        same m n less = omega (arith, ints, less)

    pub more_rows : (out : ℕ) (low high : ℤ) (old mid below new : Point) → low ≡ row -ℤ pos out → high ≡ row +ℤ pos out
        → IsNearer polygon motion old mid (IsAsideLess out) → IsNearer polygon motion mid below (IsOnRow low) → IsNearer polygon motion below new (IsOnRow high)
        → IsNearer polygon motion old new (IsAsideLess (out + 1))
    more_rows out low high old mid below new low_is high_is is is' is'' =
        and_then old below new (λ q. IsAsideLess out q ⊎ IsOnRow low q) (IsOnRow high) (IsAsideLess (out + 1))
        (and_then old mid below (IsAsideLess out) (IsOnRow low) (λ q. IsAsideLess out q ⊎ IsOnRow low q) is is' (λ q foot either. either)) is''
        (λ q foot less. cases q.z less)
      where
        cases : (n : ℤ) → unsigned_abs (n -ℤ row) < out + 1 → ((unsigned_abs (n -ℤ row) < out) ⊎ (n ≡ low)) ⊎ (n ≡ high)
        cases n less = elim (cases_lt (unsigned_abs (n -ℤ row)) out) [
          | inl near ↦ inl (inl near)
          | inr far ↦ side (n -ℤ row) refl
        ]
          where
            size : unsigned_abs (n -ℤ row) ≤ out
            size = omega (arith, less)

            side : (d : ℤ) → (n -ℤ row) ≡ d → ((unsigned_abs (n -ℤ row) < out) ⊎ (n ≡ low)) ⊎ (n ≡ high)
            side (pos k) e = elim (cases_lt k out) [
              | inl near ↦ inl (inl (omega (arith, ap unsigned_abs e, near)))
              | inr far' ↦ inr (by_pos n row high k out e high_is (omega (arith, ap unsigned_abs e, size)) far')
            ]
            side (negsuc k) e = elim (cases_lt (k + 1) out) [
              | inl near ↦ inl (inl (omega (arith, ap unsigned_abs e, near)))
              | inr far' ↦ inl (inr (by_neg n row low k out e low_is (omega (arith, ap unsigned_abs e, size)) far'))
            ]

    -- what was found on the rows no farther than so far from it, of which there are few
    pub record IsOutward (old new : Point) (out : ℕ) : Type 0 where
      pub nearer : IsNearer polygon motion old new (IsAsideLess (out + 1))
      pub few : out ≤ 185364

  -- where no farther row can hold a nearer point
  pub all_rows : (facing : FacingEdge) (foot : FootRow) → IsFacing polygon facing → IsFootRow facing motion.to foot → (out : ℕ) (old new : Point)
      → IsNearer polygon motion old new (IsAsideLess foot.row (out + 1)) → far_from motion new ≤ foot.away + out * out → IsNearer polygon motion old new IsAnywhere
  all_rows facing foot faces least out old new is near = record {
    coordinates = is.coordinates;
    either = is.either;
    kept = is.kept;
    all = λ q held any. elim (cases_lt (unsigned_abs (q.z -ℤ foot.row)) (out + 1)) [
      | inl less ↦ is.all q held less
      | inr far ↦
          let d : ℕ = rows_between q foot in
          let more : out ≤ d = omega (arith, far) in
          omega (arith, near, least q (faces.left q held.holds), mul-le out out d d more more)
    ];
  }
