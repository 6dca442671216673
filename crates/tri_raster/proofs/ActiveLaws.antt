-- Which triangles meet a row, and what those alone leave in its columns.
use Rattle.std.proofs.Common.{◌≡◌, ℕ, zero, suc, ◌+◌, ◌*◌, ◌/◌, ◌%◌, ◌<◌, ◌≤◌, min, max, ◌⊎◌, inl, inr, Bool, true, false, cond, List, [], ◌∷◌, ◌++◌, length, get_or, set, filter, ap, sym, subst, ◌∙◌, refl, arith, tests}
use Rattle.std.specs.Prelude.{All, Contains, Result, Ok, Err, OnOk, is_ok, is_err, if◌then◌else◌, nat_lt}
use Rattle.std.specs.Int.{div_ceil}
use Rattle.std.proofs.Math.Nat.{mul-le-mul_left, mul-le-mul_right, lt-div-mul-add, div-mul-le_self}
use Rattle.std.proofs.lemmas.Bool.{cases_lt, cases_eq, false≢true}
use Rattle.std.proofs.lemmas.Nat.{div_below, le-div}
use Rattle.std.proofs.lemmas.Grind.{div_ceil_times}
use Rattle.std.proofs.lemmas.List.{length-set, get_or-set_same, get_or-set_other, get_or_read}
use Rattle.std.proofs.lemmas.List.Elements.{All-contains, All-nil, Contains-append_left, Contains-append_right, Contains-append_cases, Contains-push_cases, Contains-push, Contains-get_or, All-filter, filter_passes}
use Rattle.tri_raster.specs.declared.triangle.Shadow.{Shadow}
use Rattle.tri_raster.specs.declared.triangle.Corner3.{Corner3}
use Rattle.tri_raster.specs.declared.triangle.Tri.{Tri}
use Rattle.tri_raster.specs.Rasters.{IsShadow}
use Rattle.tri_raster.specs.Rows.{MeetsRow}
use Rattle.tri_raster.specs.Triangles.{Weights, count_of, z_of, IsInside}
use Rattle.tri_raster.specs.ActiveRows.{first_row, end_row, BeginIn, AreByRow, MayReach, DoReach, reaches_row}
use Rattle.tri_raster.specs.Columns.{AreKept}
use Rattle.tri_raster.proofs.ShadowLaws.{each_of, not_in_none, more_shadows, alone, only_one}

-- rows

abbrev lowest : Tri → ℕ
lowest t = min (min t.a.z t.b.z) t.c.z

abbrev highest : Tri → ℕ
highest t = max (max t.a.z t.b.z) t.c.z

-- a row is not before the first where the triangle begins before the row's back
first_from : (t : Tri) (z : ℕ) → lowest t < 16 * z + 16 → first_row t ≤ z
first_from t z before =
    let less : lowest t / 16 < z + 1 = div_below (lowest t) 16 (z + 1) (omega arith) (omega (arith, before)) in
    omega (arith, less)

first_to : (t : Tri) (z : ℕ) → first_row t ≤ z → lowest t < 16 * z + 16
first_to t z first =
    let whole : lowest t < lowest t / 16 * 16 + 16 = lt-div-mul-add (omega arith) in
    omega (arith, whole, first)

end_from : (t : Tri) (z : ℕ) → 16 * z < highest t → z < end_row t
end_from t z behind =
    let bounds = div_ceil_times (highest t) 16 (omega arith) in
    omega (arith, bounds.0, behind)

end_to : (t : Tri) (z : ℕ) → z < end_row t → 16 * z < highest t
end_to t z before =
    let bounds = div_ceil_times (highest t) 16 (omega arith) in
    omega (arith, bounds.1, before)

pub meets_row : (t : Tri) (z : ℕ) → first_row t ≤ z → z < end_row t → MeetsRow t z
meets_row t z first last = record { behind = behind; before = before }
  where
    high : 16 * z < highest t
    high = end_to t z last

    low : lowest t < 16 * z + 16
    low = first_to t z first

    behind : (16 * z < t.a.z) ⊎ ((16 * z < t.b.z) ⊎ (16 * z < t.c.z))
    behind = elim (cases_lt (16 * z) t.a.z) [
      | inl less ↦ inl less
      | inr more ↦ elim (cases_lt (16 * z) t.b.z) [
        | inl less ↦ inr (inl less)
        | inr most ↦ inr (inr (omega (arith, high, more, most)))
      ]
    ]

    before : (t.a.z < 16 * z + 16) ⊎ ((t.b.z < 16 * z + 16) ⊎ (t.c.z < 16 * z + 16))
    before = elim (cases_lt t.a.z (16 * z + 16)) [
      | inl less ↦ inl less
      | inr more ↦ elim (cases_lt t.b.z (16 * z + 16)) [
        | inl less ↦ inr (inl less)
        | inr most ↦ inr (inr (omega (arith, low, more, most)))
      ]
    ]

-- no point of a triangle lies before all its corners, and none behind them
before_corners : (t : Tri) (p : Weights) (least : ℕ) → least ≤ t.a.z → least ≤ t.b.z → least ≤ t.c.z → least * count_of p ≤ z_of t p
before_corners t p least a b c =
    let u : p.u * least ≤ p.u * t.a.z = mul-le-mul_left p.u a in
    let v : p.v * least ≤ p.v * t.b.z = mul-le-mul_left p.v b in
    let w : p.w * least ≤ p.w * t.c.z = mul-le-mul_left p.w c in
    grind (arith, u, v, w)

behind_corners : (t : Tri) (p : Weights) (most : ℕ) → t.a.z ≤ most → t.b.z ≤ most → t.c.z ≤ most → z_of t p ≤ most * count_of p
behind_corners t p most a b c =
    let u : p.u * t.a.z ≤ p.u * most = mul-le-mul_left p.u a in
    let v : p.v * t.b.z ≤ p.v * most = mul-le-mul_left p.v b in
    let w : p.w * t.c.z ≤ p.w * most = mul-le-mul_left p.w c in
    grind (arith, u, v, w)

-- a triangle with a point inside a column meets its row
pub hit_row : (t : Tri) (x z : ℕ) (p : Weights) → IsInside t x z p → (first_row t ≤ z) × (z < end_row t)
hit_row t x z p in' = (first_from t z low, end_from t z high)
  where
    least : lowest t * count_of p ≤ z_of t p
    least = before_corners t p (lowest t) (omega arith) (omega arith) (omega arith)

    most : z_of t p ≤ highest t * count_of p
    most = behind_corners t p (highest t) (omega arith) (omega arith) (omega arith)

    low : lowest t < 16 * z + 16
    low = elim (cases_lt (lowest t) (16 * z + 16)) [
      | inl less ↦ less
      | inr more ↦
          let over : (16 * z + 16) * count_of p ≤ lowest t * count_of p = mul-le-mul_right (count_of p) more in
          absurd (omega (arith, over, least, in'.back))
    ]

    high : 16 * z < highest t
    high = elim (cases_lt (16 * z) (highest t)) [
      | inl less ↦ less
      | inr more ↦
          let over : highest t * count_of p ≤ 16 * z * count_of p = mul-le-mul_right (count_of p) more in
          absurd (omega (arith, over, most, in'.front))
    ]

-- lists of triangles by their first rows

pub rows_none : (depth : ℕ) (lists : List (List Tri)) → length lists ≡ depth → All (λ (list : List Tri). list ≡ []) lists → AreByRow [] depth lists
rows_none depth lists long empty = record { rows = long; each = each }
  where
    each : (z : ℕ) → z < depth → BeginIn [] z (get_or lists z [])
    each z less =
        let none : get_or lists z [] ≡ [] = empty z [] (omega (arith, less, long)) in
        subst (BeginIn [] z) (sym none)
        (record { are = All-nil (λ (tri : Tri). Contains [] tri × (first_row tri ≡ z) × (z < end_row tri)); all = λ tri there. absurd (not_in_none tri there) })

abbrev Begins : List Tri → ℕ → Tri → Type 0
Begins tris z tri = Contains tris tri × (first_row tri ≡ z) × (z < end_row tri)

abbrev May : List Tri → ℕ → Tri → Type 0
May tris z tri = Contains tris tri × (first_row tri < z)

abbrev Does : List Tri → ℕ → Tri → Type 0
Does tris z tri = Contains tris tri × (first_row tri ≤ z) × (z < end_row tri)

-- what begins in a row, beside one more triangle that does not
begin_passed : (tris : List Tri) (tri : Tri) (z : ℕ) (list : List Tri) → BeginIn tris z list → (first_row tri ≡ z → first_row tri < end_row tri → ⊥)
    → BeginIn (tris ++ tri ∷ []) z list
begin_passed tris tri z list begin other = record {
  are = λ k d in'. (Contains-append_left tris (tri ∷ []) (get_or list k d) (begin.are k d in').0, (begin.are k d in').1, (begin.are k d in').2);
  all = λ t there first some. elim (Contains-push_cases tris tri t there) [
    | inl old ↦ begin.all t old first some
    | inr new ↦
        let P : Tri → Type 0 = λ u. first_row u ≡ z in
        let Q : Tri → Type 0 = λ u. first_row u < end_row u in
        absurd (other (subst P (sym new) first) (subst Q (sym new) some))
  ];
}

-- and beside one more that does
begin_added : (tris : List Tri) (tri : Tri) (z : ℕ) (list : List Tri) → BeginIn tris z list → first_row tri ≡ z → first_row tri < end_row tri
    → BeginIn (tris ++ tri ∷ []) z (list ++ tri ∷ [])
begin_added tris tri z list begin first some = record {
  are = each_of (Begins (tris ++ tri ∷ []) z) (list ++ tri ∷ []) (λ t there. elim (Contains-push_cases list tri t there) [
    | inl old ↦
        let was = All-contains (Begins tris z) list t begin.are old in
        (Contains-append_left tris (tri ∷ []) t was.0, was.1, was.2)
    | inr new ↦ subst (Begins (tris ++ tri ∷ []) z) new (Contains-push tris tri, first, omega (arith, first, some))
  ]);
  all = λ t there first some. elim (Contains-push_cases tris tri t there) [
    | inl old ↦ Contains-append_left list (tri ∷ []) t (begin.all t old first some)
    | inr new ↦ subst (Contains (list ++ tri ∷ [])) new (Contains-push list tri)
  ];
}

pub rows_passed : (tris : List Tri) (tri : Tri) (depth : ℕ) (lists : List (List Tri)) → AreByRow tris depth lists
    → (end_row tri ≤ first_row tri) ⊎ (depth ≤ first_row tri) → AreByRow (tris ++ tri ∷ []) depth lists
rows_passed tris tri depth lists by_row passed = record {
  rows = by_row.rows;
  each = λ z less. begin_passed tris tri z (get_or lists z []) (by_row.each z less) (λ first some. elim passed [
    | inl none ↦ omega (arith, none, some)
    | inr far ↦ omega (arith, far, first, less)
  ]);
}

pub rows_added : (tris : List Tri) (tri : Tri) (depth : ℕ) (lists new : List (List Tri)) → AreByRow tris depth lists → first_row tri < depth
    → first_row tri < end_row tri → new ≡ set lists (first_row tri) (get_or lists (first_row tri) [] ++ tri ∷ []) → AreByRow (tris ++ tri ∷ []) depth new
rows_added tris tri depth lists new by_row inside some is =
    subst (AreByRow (tris ++ tri ∷ []) depth) (sym is) (record { rows = length-set lists at list ∙ by_row.rows; each = each })
  where
    at : ℕ
    at = first_row tri

    list : List Tri
    list = get_or lists at [] ++ tri ∷ []

    each : (z : ℕ) → z < depth → BeginIn (tris ++ tri ∷ []) z (get_or (set lists at list) z [])
    each z less = elim (cases_eq z at) [
      | inl same ↦
          let here : get_or (set lists at list) at [] ≡ list = get_or-set_same lists at list [] (omega (arith, inside, by_row.rows)) in
          let P : ℕ → Type 0 = λ k. BeginIn (tris ++ tri ∷ []) k (get_or (set lists at list) k []) in
          subst P (sym same) (subst (BeginIn (tris ++ tri ∷ []) at) (sym here) (begin_added tris tri at (get_or lists at []) (by_row.each at inside) refl some))
      | inr other ↦
          let there : get_or (set lists at list) z [] ≡ get_or lists z [] = get_or-set_other lists at z list [] other in
          subst (BeginIn (tris ++ tri ∷ []) z) (sym there) (begin_passed tris tri z (get_or lists z []) (by_row.each z less) (λ first _. other (sym first)))
    ]

-- from row to row

pub may_none : (tris : List Tri) → MayReach tris 0 []
may_none tris = record {
  are = All-nil (λ (tri : Tri). Contains tris tri × (first_row tri < 0));
  all = λ tri there less. absurd (omega (arith, less));
}

-- what passes a test stands among those that pass
in_filter : (p : Tri → Bool) (xs : List Tri) (t : Tri) → Contains xs t → p t ≡ true → Contains (filter p xs) t
in_filter p [] t there is = absurd (not_in_none t there)
in_filter p (x ∷ xs) t (zero, less, at) is = here (p x) (ap p at ∙ is)
  where
    here : (b : Bool) → b ≡ true → Contains (cond b (x ∷ filter p xs) (filter p xs)) t
    here true yes' = (0, omega arith, at)
    here false no' = absurd (false≢true no')
in_filter p (x ∷ xs) t (suc k, less, at) is = later (p x) (in_filter p xs t (k, omega (arith, less), at) is)
  where
    later : (b : Bool) → Contains (filter p xs) t → Contains (cond b (x ∷ filter p xs) (filter p xs)) t
    later true there = (suc there.0, omega (arith, there.1), there.2)
    later false there = there

pub reaches_from : (z : ℕ) (t : Tri) → reaches_row z t ≡ true → z < end_row t
reaches_from z t test = grind (arith, tests)

reaches_to : (z : ℕ) (t : Tri) → z < end_row t → reaches_row z t ≡ true
reaches_to z t less = grind (arith, tests)

pub to_active : (tris : List Tri) (z : ℕ) (old entering new : List Tri) → MayReach tris z old → BeginIn tris z entering
    → new ≡ filter (reaches_row z) old ++ entering → DoReach tris z new
to_active tris z old entering new may begin is = subst (DoReach tris z) (sym is) (record {
  are = each_of (Does tris z) (filter (reaches_row z) old ++ entering) (λ t there. elim (Contains-append_cases (filter (reaches_row z) old) entering t there) [
    | inl stays ↦
        let was = All-contains (May tris z) (filter (reaches_row z) old) t (All-filter (reaches_row z) (May tris z) old may.are) stays in
        let passes = All-contains (λ (u : Tri). reaches_row z u ≡ true) (filter (reaches_row z) old) t (filter_passes (reaches_row z) old) stays in
        (was.0, omega (arith, was.1), reaches_from z t passes)
    | inr enters ↦
        let begins = All-contains (Begins tris z) entering t begin.are enters in
        (begins.0, omega (arith, begins.1), begins.2)
  ]);
  all = λ t there first last. elim (cases_lt (first_row t) z) [
    | inl before ↦ Contains-append_left (filter (reaches_row z) old) entering t
        (in_filter (reaches_row z) old t (may.all t there before last) (reaches_to z t last))
    | inr here ↦
        let same : first_row t ≡ z = omega (arith, first, here) in
        Contains-append_right (filter (reaches_row z) old) entering t (begin.all t there same (omega (arith, same, last)))
  ];
})

pub to_next : (tris : List Tri) (z : ℕ) (list : List Tri) → DoReach tris z list → MayReach tris (z + 1) list
to_next tris z list do' = record {
  are = λ k d in'. ((do'.are k d in').0, omega (arith, (do'.are k d in').1));
  all = λ t there first last. do'.all t there (omega (arith, first)) (omega (arith, last));
}

-- what the active triangles leave in a row is what all leave there
pub kept_of_active : (tris active : List Tri) (x z : ℕ) (kept : List Shadow) → DoReach tris z active → AreKept active x z kept → AreKept tris x z kept
kept_of_active tris active x z kept reach are = record {
  are = each_of (IsShadow tris x z) kept (λ s there. more_shadows active tris x z s
      (λ t in'. (All-contains (Does tris z) active t reach.are in').0)
      (All-contains (IsShadow active x z) kept s are.are there));
  all = λ s is.
      let rows = hit_row is.tri x z is.point is.hit in
      are.all s (more_shadows (is.tri ∷ []) active x z s (λ t one. subst (Contains active) (only_one is.tri t one) (reach.all is.tri is.listed rows.0 rows.1))
      (alone tris x z s is));
}

-- what an element of no list of triangles is said to be
abbrev pub no_corner : Corner3
no_corner = record { x = 0; y = 0; z = 0 }

abbrev pub no_tri : Tri
no_tri = record { a = no_corner; b = no_corner; c = no_corner; area = 0 }

-- what is said of an answer that is Ok
pub told_ok : {T E : Type 0} (P : Type 0) (r : Result T E) → is_err r ≡ false → OnOk r P → P
told_ok P (Ok x) is told = told
told_ok P (Err e) is told = absurd (false≢true (sym is))

-- what an append says, where it succeeds
pub appended : {E T : Type 0} (r : Result T E) (new kept more old : List Tri) → new ≡ (if is_ok r then kept ++ more else kept) → kept ≡ old
    → OnOk r (new ≡ old ++ more)
appended (Ok x) new kept more old is same = is ∙ ap (λ (xs : List Tri). xs ++ more) same
appended (Err e) new kept more old is same = tt

-- the list of a triangle's first row, with it behind
pub rows_put : (tris : List Tri) (tri : Tri) (depth : ℕ) (lists : List (List Tri)) (first : ℕ) (here new : List Tri) → AreByRow tris depth lists
    → first ≡ first_row tri → first < length lists → first < end_row tri → here ≡ get_or lists first here → new ≡ here ++ tri ∷ []
    → AreByRow (tris ++ tri ∷ []) depth (set lists first new)
rows_put tris tri depth lists first here new by_row is inside some read pushed =
    let at : here ≡ get_or lists (first_row tri) [] = get_or_read lists first here inside read [] ∙ ap (λ k. get_or lists k []) is in
    rows_added tris tri depth lists (set lists first new) by_row (omega (arith, is, inside, by_row.rows)) (omega (arith, is, some))
    (ap (λ k. set lists k new) is ∙ ap (λ (list : List Tri). set lists (first_row tri) list) (pushed ∙ ap (λ (list : List Tri). list ++ tri ∷ []) at))
