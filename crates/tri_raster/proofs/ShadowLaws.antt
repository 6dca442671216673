-- What is known of the shadows of triangles, and of shadows that are kept in place of others.
use Rattle.std.proofs.Common.{◌≡◌, ℕ, zero, suc, ◌+◌, ◌*◌, ◌<◌, ◌≤◌, max, ◌⊎◌, inl, inr, List, [], ◌∷◌, ◌++◌, length, get_or, take, drop, Bool, true, false, cond, ap, sym, subst, ◌∙◌, refl, arith, tests}
use Rattle.std.specs.Prelude.{All, Any, Contains, ◌&&◌, nat_le}
use Rattle.std.specs.List.Sorted.{IsPermutation}
use Rattle.std.specs.List.{dedup, dedup_from}
use Rattle.std.proofs.Math.Seq.{take-append_seam}
use Rattle.std.proofs.Math.Nat.{mul-le-mul_left, le_of_mul-le-mul_right}
use Rattle.std.proofs.lemmas.List.Elements.{All-contains, All-from_recursion, All-weaker, All-contains_itself, Contains-append_left, Contains-append_right, Contains-push, Contains-push_cases, Contains-append_cases, All-head, All-tail, All-cons, All-nil}
use Rattle.std.proofs.lemmas.List.Filters.{All-dedup}
use Rattle.std.proofs.lemmas.List.Sorted.{Contains-permutation, IsPermutation-sym}
use Rattle.tri_raster.specs.declared.triangle.Shadow.{Shadow}
use Rattle.tri_raster.specs.declared.triangle.Tri.{Tri}
use Rattle.tri_raster.specs.Triangles.{Weights, count_of, y_of, IsOver, IsInside, IsTriangle}
use Rattle.tri_raster.specs.Rasters.{IsShadow, IsBottom, IsHighest}
use Rattle.tri_raster.specs.Columns.{IsLimited, Covers, covers, IsCovered, StandFor, AreKept, IsUpright}

-- members

pub each_of : {X : Type 0} (P : X → Type 0) (xs : List X) → ((x : X) → Contains xs x → P x) → All P xs
each_of P xs each = All-weaker (Contains xs) P each xs (All-contains_itself xs)

pub any_of : {X : Type 0} (P : X → Type 0) (xs : List X) (x : X) → Contains xs x → P x → Any P xs
any_of P xs x there is = (there.0, x, there.1, there.2, is)

pub member_of : {X : Type 0} (P : X → Type 0) (xs : List X) (found : Any P xs) → Contains xs found.1
member_of P xs found = (found.0, found.2, found.3)

-- the member of a list of one
pub only_one : {X : Type 0} (x y : X) → Contains (x ∷ []) y → x ≡ y
only_one x y (zero, less, at) = at
only_one x y (suc k, less, at) = absurd (omega (arith, less))

pub not_in_none : {X : Type 0} (x : X) → Contains [] x → ⊥
not_in_none x (k, less, at) = omega (arith, less)

-- shadows

-- a shadow of some triangles is one of more
pub more_shadows : (tris more : List Tri) (x z : ℕ) (s : Shadow) → ((t : Tri) → Contains tris t → Contains more t) → IsShadow tris x z s
    → IsShadow more x z s
more_shadows tris more x z s sub is =
    record { tri = is.tri; listed = sub is.tri is.listed; point = is.point; hit = is.hit; bottom = is.bottom; highest = is.highest; is_highest = is.is_highest; top = is.top; area = is.area }

-- and one of its triangle alone
pub alone : (tris : List Tri) (x z : ℕ) (s : Shadow) (is : IsShadow tris x z s) → IsShadow (is.tri ∷ []) x z s
alone tris x z s is =
    record { tri = is.tri; listed = (0, omega arith, refl); point = is.point; hit = is.hit; bottom = is.bottom; highest = is.highest; is_highest = is.is_highest; top = is.top; area = is.area }

pub solid_shadow : (tris : List Tri) (x z : ℕ) (s : Shadow) → IsShadow tris x z s → s.bottom < s.top
solid_shadow tris x z s is = omega (arith, is.top)

-- two shadows of one triangle in a column have the same heights
same_heights : (t u : Tri) (x z : ℕ) (a b high low : ℕ) → t ≡ u → IsBottom t x z a → IsBottom u x z b → IsHighest t x z high → IsHighest u x z low
    → (a ≤ b) × (low ≤ high)
same_heights t u x z a b high low same is_a is_b is_high is_low =
    let B : Tri → Type 0 = λ v. IsBottom v x z a in
    let H : Tri → Type 0 = λ v. IsHighest v x z high in
    (is_b.greatest a (subst B same is_a).below, is_low.least high (subst H same is_high).above)

pub one_shadow : (tri : Tri) (x z : ℕ) (a b : Shadow) → IsShadow (tri ∷ []) x z a → IsShadow (tri ∷ []) x z b → Covers a b
one_shadow tri x z a b is_a is_b =
    let same : is_a.tri ≡ is_b.tri = sym (only_one tri is_a.tri is_a.listed) ∙ only_one tri is_b.tri is_b.listed in
    let one = same_heights is_a.tri is_b.tri x z a.bottom b.bottom is_a.highest is_b.highest same is_a.bottom is_b.bottom is_a.is_highest is_b.is_highest in
    let other = same_heights is_b.tri is_a.tri x z b.bottom a.bottom is_b.highest is_a.highest (sym same) is_b.bottom is_a.bottom is_b.is_highest is_a.is_highest in
    let areas : b.area ≡ a.area = is_b.area ∙ sym (ap (λ (t : Tri). t.area) same) ∙ sym is_a.area in
    (one.0, omega (arith, is_a.top, is_b.top, one.1, other.0), omega (arith, areas))

-- no point of a triangle is above the limit of heights
low_point : (t : Tri) (p : Weights) → IsTriangle t → y_of t p ≤ 8190 * count_of p
low_point t p limits =
    let a : p.u * t.a.y ≤ p.u * 8190 = mul-le-mul_left p.u limits.a.y in
    let b : p.v * t.b.y ≤ p.v * 8190 = mul-le-mul_left p.v limits.b.y in
    let c : p.w * t.c.y ≤ p.w * 8190 = mul-le-mul_left p.w limits.c.y in
    omega arith

over_inside : (t : Tri) (x z : ℕ) (p : Weights) → IsInside t x z p → IsOver t x z p
over_inside t x z p in' = record { some = in'.some; left = omega (arith, in'.left); right = omega (arith, in'.right); front = omega (arith, in'.front); back = omega (arith, in'.back) }

-- a shadow of triangles within their limits is within its own
pub limited_shadow : (tris : List Tri) (x z : ℕ) (s : Shadow) → All IsTriangle tris → IsShadow tris x z s → IsLimited s
limited_shadow tris x z s limits is =
    let fine = All-contains IsTriangle tris is.tri limits is.listed in
    let over = over_inside is.tri x z is.point is.hit in
    let high : is.highest ≤ 8190 = is.is_highest.least 8190 (λ p _. low_point is.tri p fine) in
    let under : s.bottom * count_of is.point ≤ y_of is.tri is.point = is.bottom.below is.point over in
    let limit = low_point is.tri is.point fine in
    let both : s.bottom * count_of is.point ≤ 8190 * count_of is.point = omega (arith, under, limit) in
    let low : s.bottom ≤ 8190 = le_of_mul-le-mul_right both over.some in
    record { top = omega (arith, is.top, high, low); area = omega (arith, is.area, fine.area) }

-- covering

pub covers_same : (s : Shadow) → Covers s s
covers_same s = (omega arith, omega arith, omega arith)

pub covers_on : (a b c : Shadow) → Covers a b → Covers b c → Covers a c
covers_on a b c one other = (omega (arith, one.0, other.0), omega (arith, one.1, other.1), omega (arith, one.2, other.2))

pub covers_from : (a b : Shadow) → covers a b ≡ true → Covers a b
covers_from a b test = grind (arith, tests)

-- what a member covers is covered
pub covered_by : (kept : List Shadow) (one s : Shadow) → Contains kept one → Covers one s → IsCovered kept s
covered_by kept one s there is = any_of (λ (e : Shadow). Covers e s) kept one there is

-- what a covered shadow covers is covered
pub covered_on : (kept : List Shadow) (s t : Shadow) → IsCovered kept s → Covers s t → IsCovered kept t
covered_on kept s t covered is =
    covered_by kept covered.1 t (member_of (λ (e : Shadow). Covers e s) kept covered) (covers_on covered.1 s t covered.4 is)

-- what others stand for is covered by them
pub stands_for : (these kept : List Shadow) → StandFor these kept → (s : Shadow) → IsCovered these s → IsCovered kept s
stands_for these kept stand s covered =
    let there = member_of (λ (e : Shadow). Covers e s) these covered in
    covered_on kept covered.1 s (All-contains (IsCovered kept) these covered.1 stand.all there) covered.4

pub stand_same : (these : List Shadow) → StandFor these these
stand_same these = record {
  are = All-contains_itself these;
  all = each_of (IsCovered these) these (λ s there. covered_by these s s there (covers_same s));
}

pub stand_on : (these kept last : List Shadow) → StandFor these kept → StandFor kept last → StandFor these last
stand_on these kept last one other = record {
  are = each_of (Contains these) last (λ s there. All-contains (Contains these) kept s one.are (All-contains (Contains kept) last s other.are there));
  all = each_of (IsCovered last) these (λ s there. stands_for kept last other s (All-contains (IsCovered kept) these s one.all there));
}

-- others in another order
pub stand_permuted : (these kept : List Shadow) → IsPermutation these kept → StandFor these kept
stand_permuted these kept moved = record {
  are = each_of (Contains these) kept (λ s there. Contains-permutation kept these s (IsPermutation-sym these kept moved) there);
  all = each_of (IsCovered kept) these (λ s there. covered_by kept s s (Contains-permutation these kept s moved there) (covers_same s));
}

-- one more shadow, of which others stand for the rest
pub stand_more : (these kept : List Shadow) (s : Shadow) → StandFor these kept → StandFor (these ++ s ∷ []) (kept ++ s ∷ [])
stand_more these kept s stand = record {
  are = each_of (Contains (these ++ s ∷ [])) (kept ++ s ∷ []) (λ t there. elim (Contains-push_cases kept s t there) [
    | inl old ↦ Contains-append_left these (s ∷ []) t (All-contains (Contains these) kept t stand.are old)
    | inr new ↦ subst (Contains (these ++ s ∷ [])) new (Contains-push these s)
  ]);
  all = each_of (IsCovered (kept ++ s ∷ [])) (these ++ s ∷ []) (λ t there. elim (Contains-push_cases these s t there) [
    | inl old ↦
        let found = All-contains (IsCovered kept) these t stand.all old in
        covered_by (kept ++ s ∷ []) found.1 t (Contains-append_left kept (s ∷ []) found.1 (member_of (λ (e : Shadow). Covers e t) kept found)) found.4
    | inr new ↦ subst (IsCovered (kept ++ s ∷ [])) new (covered_by (kept ++ s ∷ []) s s (Contains-push kept s) (covers_same s))
  ]);
}

-- one more shadow that is covered already
pub stand_covered : (these : List Shadow) (s : Shadow) → IsCovered these s → StandFor (these ++ s ∷ []) these
stand_covered these s covered = record {
  are = each_of (Contains (these ++ s ∷ [])) these (λ t there. Contains-append_left these (s ∷ []) t there);
  all = each_of (IsCovered these) (these ++ s ∷ []) (λ t there. elim (Contains-push_cases these s t there) [
    | inl old ↦ covered_by these t t old (covers_same t)
    | inr new ↦ subst (IsCovered these) new covered
  ]);
}

-- a vector that was written through a slice as a whole
pub written_back : {X : Type 0} (len : ℕ) (items lent new : List X) → len ≡ length items → lent ≡ items → length new ≡ length lent
    → take len (new ++ drop (length new) items) ≡ new
written_back len items lent new count same kept =
    ap (λ i. take i (new ++ drop (length new) items)) (count ∙ sym (ap length same) ∙ sym kept) ∙ take-append_seam new (drop (length new) items)

-- shadows that were put in order through a slice stand for what they were
pub stand_sorted : (len : ℕ) (items lent new : List Shadow) → len ≡ length items → lent ≡ items → length new ≡ length lent → IsPermutation lent new
    → StandFor items (take len (new ++ drop (length new) items))
stand_sorted len items lent new count same kept moved =
    let I : List Shadow → Type 0 = λ xs. StandFor xs new in
    subst (StandFor items) (sym (written_back len items lent new count same kept)) (subst I same (stand_permuted lent new moved))

-- the test by which shadows are left out: whether the one kept before covers the next
abbrev pub is_needless : Shadow → Shadow → Bool
is_needless next kept = covers kept next

-- what is left out is covered
abbrev AreCovered : List Shadow → List Shadow → Type 0
AreCovered these kept = (s : Shadow) → Contains these s → IsCovered kept s

in_more : (kept : List Shadow) (first s : Shadow) → IsCovered kept s → IsCovered (first ∷ kept) s
in_more kept first s found = (suc found.0, found.1, omega (arith, found.2), found.3, found.4)

dedup_covers : (first : Shadow) (rest : List Shadow) → AreCovered (first ∷ rest) (dedup_from is_needless first rest)
dedup_covers first [] s there = subst (IsCovered (first ∷ [])) (only_one first s there) (covered_by (first ∷ []) first first (0, omega arith, refl) (covers_same first))
dedup_covers first (next ∷ rest) s there = by_test (covers first next) refl (dedup_covers first rest) (dedup_covers next rest) s there
  where
    by_test : (b : Bool) → covers first next ≡ b → AreCovered (first ∷ rest) (dedup_from is_needless first rest)
        → AreCovered (next ∷ rest) (dedup_from is_needless next rest)
        → AreCovered (first ∷ next ∷ rest) (cond b (dedup_from is_needless first rest) (first ∷ dedup_from is_needless next rest))
    by_test true is on from_next s (zero, less, at) = on s (0, omega arith, at)
    by_test true is on from_next s (suc zero, less, at) =
        covered_on (dedup_from is_needless first rest) first s (on first (0, omega arith, refl)) (subst (Covers first) at (covers_from first next is))
    by_test true is on from_next s (suc (suc k), less, at) = on s (suc k, omega (arith, less), at)
    by_test false is on from_next s (zero, less, at) = (0, first, omega arith, refl, subst (Covers first) at (covers_same first))
    by_test false is on from_next s (suc k, less, at) =
        in_more (dedup_from is_needless next rest) first s (from_next s (k, omega (arith, less), at))

pub stand_thinned : (these : List Shadow) → StandFor these (dedup is_needless these)
stand_thinned [] = stand_same []
stand_thinned (first ∷ rest) = record {
  are = All-dedup is_needless (Contains (first ∷ rest)) (first ∷ rest) (All-contains_itself (first ∷ rest));
  all = each_of (IsCovered (dedup_from is_needless first rest)) (first ∷ rest) (dedup_covers first rest);
}

-- columns

-- no triangle leaves anything in an empty column
pub kept_none : (x z : ℕ) → AreKept [] x z []
kept_none x z = record {
  are = All-nil (IsShadow [] x z);
  all = λ s is. absurd (not_in_none is.tri is.listed);
}

-- others stand for what is kept
pub kept_on : (tris : List Tri) (x z : ℕ) (these kept : List Shadow) → AreKept tris x z these → StandFor these kept → AreKept tris x z kept
kept_on tris x z these kept are stand = record {
  are = each_of (IsShadow tris x z) kept (λ s there. All-contains (IsShadow tris x z) these s are.are (All-contains (Contains these) kept s stand.are there));
  all = λ s is. stands_for these kept stand s (are.all s is);
}

-- one more triangle, of which a shadow was added
pub kept_more : (tris : List Tri) (tri : Tri) (x z : ℕ) (kept new : List Shadow) (s : Shadow) → AreKept tris x z kept
    → IsShadow (tri ∷ []) x z s → StandFor (kept ++ s ∷ []) new → AreKept (tris ++ tri ∷ []) x z new
kept_more tris tri x z kept new s are is stand = kept_on (tris ++ tri ∷ []) x z (kept ++ s ∷ []) new added stand
  where
    old : (t : Shadow) → IsShadow tris x z t → IsShadow (tris ++ tri ∷ []) x z t
    old t known = more_shadows tris (tris ++ tri ∷ []) x z t (λ u there. Contains-append_left tris (tri ∷ []) u there) known

    added : AreKept (tris ++ tri ∷ []) x z (kept ++ s ∷ [])
    added = record {
      are = each_of (IsShadow (tris ++ tri ∷ []) x z) (kept ++ s ∷ []) (λ t there. elim (Contains-push_cases kept s t there) [
        | inl before ↦ old t (All-contains (IsShadow tris x z) kept t are.are before)
        | inr new ↦ subst (IsShadow (tris ++ tri ∷ []) x z) new
            (more_shadows (tri ∷ []) (tris ++ tri ∷ []) x z s (λ u there. Contains-append_right tris (tri ∷ []) u there) is)
      ]);
      all = λ t known. elim (Contains-push_cases tris tri known.tri known.listed) [
        | inl before ↦
            let found = are.all t (more_shadows (known.tri ∷ []) tris x z t (λ u one. subst (Contains tris) (only_one known.tri u one) before)
            (alone (tris ++ tri ∷ []) x z t known)) in
            covered_by (kept ++ s ∷ []) found.1 t (Contains-append_left kept (s ∷ []) found.1 (member_of (λ (e : Shadow). Covers e t) kept found)) found.4
        | inr new ↦
            let single : IsShadow (tri ∷ []) x z t = more_shadows (known.tri ∷ []) (tri ∷ []) x z t
            (λ u one. subst (Contains (tri ∷ [])) (new ∙ only_one known.tri u one) (0, omega arith, refl)) (alone (tris ++ tri ∷ []) x z t known) in
            covered_by (kept ++ s ∷ []) s t (Contains-push kept s) (one_shadow tri x z s t is single)
      ];
    }

-- one more triangle, which leaves nothing there
pub kept_passed : (tris : List Tri) (tri : Tri) (x z : ℕ) (kept : List Shadow) → AreKept tris x z kept
    → ((p : Weights) → IsInside tri x z p → ⊥) → AreKept (tris ++ tri ∷ []) x z kept
kept_passed tris tri x z kept are none = record {
  are = each_of (IsShadow (tris ++ tri ∷ []) x z) kept (λ t there. more_shadows tris (tris ++ tri ∷ []) x z t
      (λ u old. Contains-append_left tris (tri ∷ []) u old) (All-contains (IsShadow tris x z) kept t are.are there));
  all = λ t known. elim (Contains-push_cases tris tri known.tri known.listed) [
    | inl before ↦ are.all t (more_shadows (known.tri ∷ []) tris x z t (λ u one. subst (Contains tris) (only_one known.tri u one) before)
        (alone (tris ++ tri ∷ []) x z t known))
    | inr new ↦
        let Hit : Tri → Type 0 = λ u. IsInside u x z known.point in
        absurd (none known.point (subst Hit (sym new) known.hit))
  ];
}
