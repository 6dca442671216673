-- The first of links that keep a condition, from the first of the links so far and one more.
use Rattle.std.proofs.Common.{◌≡◌, ◌≢◌, ℕ, ◌+◌, ◌<◌, Bool, true, false, List, [], ◌∷◌, ◌++◌, length, take, get_or, refl, sym, ap, subst, inl, inr}
use Rattle.std.specs.Prelude.{Option, Some, None, if◌then◌else◌}
use Rattle.std.specs.Ordering.{is_lt}
use Rattle.std.specs.declared.cmp.Ordering.{Ordering}
use Rattle.std.specs.declared.cmp.Ordering.TheVariants.{Less, Equal, Greater}
use Rattle.std.proofs.lemmas.Bool.{both_ways}
use Rattle.std.proofs.lemmas.List.{take_more}
use Rattle.std.proofs.lemmas.List.Elements.{Contains-append_left, Contains-append_right, Contains-append_cases}
use Rattle.mesh_types.specs.declared.links.Link.{Link}
use Rattle.mesh_types.specs.LinkOrder.{link_cmp}
use Rattle.mesh_types.proofs.LinkOrderLaws.{before, links_order}
use Rattle.fine_walk.specs.Passing.{IsFirstIn, first_of}
use Rattle.fine_walk.proofs.Members.{contains_cases, contains_first, contains_none}

not_before : (o : Ordering) → o ≢ Less → is_lt o ≡ false
not_before Less h = absurd (h refl)
not_before Equal h = refl
not_before Greater h = refl

not_less : (a b : Link) → before a b ≡ false → link_cmp a b ≢ Less
not_less a b is less = both_ways (before a b) is (ap is_lt less)

not_itself : (x : Link) → before x x ≡ false
not_itself x = by_case (before x x) refl
  where
    by_case : (b : Bool) → before x x ≡ b → before x x ≡ false
    by_case true is = links_order.one_way x x is
    by_case false is = is

module _ (P : Link → Type 0) where
  pub none_yet : IsFirstIn P [] None
  none_yet link held = absurd (contains_none link held)

  one : (x : Link) → P x → IsFirstIn P (x ∷ []) (Some x)
  one x keeps = (
    contains_first x [],
    keeps,
    λ other held kept. elim (contains_cases x other [] held) [
      | inl same ↦ not_less other x (subst (λ (l : Link). before l x ≡ false) same (not_itself x))
      | inr later ↦ absurd (contains_none other later)
    ],
  )

  none : (x : Link) → (P x → ⊥) → IsFirstIn P (x ∷ []) None
  none x never link held keeps = elim (contains_cases x link [] held) [
    | inl same ↦ never (subst P (sym same) keeps)
    | inr later ↦ contains_none link later
  ]

  -- of two lists, one after the other
  pub of_both : (xs ys : List Link) (a b : Option Link) → IsFirstIn P xs a → IsFirstIn P ys b → IsFirstIn P (xs ++ ys) (first_of a b)
  of_both xs ys None None fa fb = λ link held keeps. elim (Contains-append_cases xs ys link held) [
    | inl h ↦ fa link h keeps
    | inr h ↦ fb link h keeps
  ]
  of_both xs ys None (Some b) fa fb = (
    Contains-append_right xs ys b fb.0,
    fb.1,
    λ other held keeps. elim (Contains-append_cases xs ys other held) [
      | inl h ↦ absurd (fa other h keeps)
      | inr h ↦ fb.2 other h keeps
    ],
  )
  of_both xs ys (Some a) None fa fb = (
    Contains-append_left xs ys a fa.0,
    fa.1,
    λ other held keeps. elim (Contains-append_cases xs ys other held) [
      | inl h ↦ fa.2 other h keeps
      | inr h ↦ absurd (fb other h keeps)
    ],
  )
  of_both xs ys (Some a) (Some b) fa fb = by_case (before b a) refl
    where
      by_case : (v : Bool) → before b a ≡ v → IsFirstIn P (xs ++ ys) (first_of (Some a) (Some b))
      by_case true is =
          subst (λ (v : Bool). IsFirstIn P (xs ++ ys) (if v then Some b else Some a)) (sym is) (
            Contains-append_right xs ys b fb.0,
            fb.1,
            λ other held keeps. elim (Contains-append_cases xs ys other held) [
              | inl h ↦ not_less other b (links_order.chain other a b (not_before _ (fa.2 other h keeps)) (links_order.one_way b a is))
              | inr h ↦ fb.2 other h keeps
            ],
          )
      by_case false is =
          subst (λ (v : Bool). IsFirstIn P (xs ++ ys) (if v then Some b else Some a)) (sym is) (
            Contains-append_left xs ys a fa.0,
            fa.1,
            λ other held keeps. elim (Contains-append_cases xs ys other held) [
              | inl h ↦ fa.2 other h keeps
              | inr h ↦ not_less other a (links_order.chain other b a (not_before _ (fb.2 other h keeps)) is)
            ],
          )

  first_alone : (a : Option Link) → first_of a None ≡ a
  first_alone None = refl
  first_alone (Some a) = refl

  -- a link more that keeps the condition, and one that does not
  pub one_more : (links : List Link) (i : ℕ) (d : Link) (first : Option Link) → i < length links → IsFirstIn P (take i links) first → P (get_or links i d)
      → IsFirstIn P (take (i + 1) links) (first_of first (Some (get_or links i d)))
  one_more links i d first there so_far keeps =
      subst (λ (seen : List Link). IsFirstIn P seen (first_of first (Some (get_or links i d)))) (sym (take_more links i d there))
      (of_both (take i links) (get_or links i d ∷ []) first (Some (get_or links i d)) so_far (one (get_or links i d) keeps))

  pub one_less : (links : List Link) (i : ℕ) (d : Link) (first : Option Link) → i < length links → IsFirstIn P (take i links) first → (P (get_or links i d) → ⊥)
      → IsFirstIn P (take (i + 1) links) first
  one_less links i d first there so_far never =
      subst (λ (seen : List Link). IsFirstIn P seen first) (sym (take_more links i d there))
      (subst (IsFirstIn P (take i links ++ get_or links i d ∷ [])) (first_alone first)
      (of_both (take i links) (get_or links i d ∷ []) first None so_far (none (get_or links i d) never)))
