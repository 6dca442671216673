-- Links that are gathered, put in order, and the first of them.
use Rattle.std.proofs.Common.{◌≡◌, ◌≢◌, ℕ, ◌+◌, ◌<◌, ◌↔◌, ◌⊎◌, Bool, true, false, List, [], ◌∷◌, ◌++◌, length, take, get_or, refl, sym, ap, subst, inl, inr}
use Rattle.std.specs.Prelude.{Contains, slice_get}
use Rattle.std.specs.Ordering.{is_lt}
use Rattle.std.specs.declared.cmp.Ordering.TheVariants.{Less}
use Rattle.std.proofs.lemmas.Bool.{both_ways}
use Rattle.std.proofs.lemmas.List.{take_more}
use Rattle.std.proofs.lemmas.List.Elements.{All-contains, All-contains_itself, Contains-push, Contains-push_cases, Contains-append_left, Contains-append_right, Contains-append_cases}
use Rattle.mesh_types.specs.declared.links.Link.{Link}
use Rattle.mesh_types.specs.LinkOrder.{link_cmp, put_link, ordered_links}
use Rattle.mesh_types.proofs.LinkOrderLaws.{before, links_order}
use Rattle.mesh_types.proofs.LinksInOrder.{All-ordered_links, ordered_links-rise}
use Rattle.mesh_types.proofs.Sorting.{Rises}
use Rattle.ray_walk.specs.Walking.{Gathers, IsFirstAmong}
use Rattle.ray_walk.proofs.Members.{contains_cases, contains_first, contains_later, contains_none}

-- ---- gathering

module _ (P : Link → Type 0) where
  pub none_yet : (old : List Link) → Gathers P old [] old
  none_yet old link = (λ held. inl held, λ either. elim either [ inl held ↦ held | inr more ↦ absurd (contains_none link more.0) ])

  -- a link more that keeps the condition, and one that does not
  pub one_more : (old new links : List Link) (i : ℕ) (d : Link) → i < length links → Gathers P old (take i links) new → P (get_or links i d)
      → Gathers P old (take (i + 1) links) (new ++ get_or links i d ∷ [])
  one_more old new links i d there so_far keeps link =
      subst (λ (seen : List Link). Contains (new ++ x ∷ []) link ↔ (Contains old link ⊎ (Contains seen link × P link))) (sym (take_more links i d there)) (
        λ held. elim (Contains-push_cases new x link held) [
          | inl earlier ↦ elim ((so_far link).0 earlier) [ inl first ↦ inl first | inr more ↦ inr (Contains-append_left (take i links) (x ∷ []) link more.0, more.1) ]
          | inr same ↦ inr (subst (λ (l : Link). Contains (take i links ++ x ∷ []) l) same (Contains-push (take i links) x), subst P same keeps)
        ],
        λ either. elim either [
          | inl first ↦ Contains-append_left new (x ∷ []) link ((so_far link).1 (inl first))
          | inr more ↦ elim (Contains-push_cases (take i links) x link more.0) [
            | inl earlier ↦ Contains-append_left new (x ∷ []) link ((so_far link).1 (inr (earlier, more.1)))
            | inr same ↦ subst (λ (l : Link). Contains (new ++ x ∷ []) l) same (Contains-push new x)
          ]
        ],
      )
    where
      x : Link
      x = get_or links i d

  pub one_less : (old new links : List Link) (i : ℕ) (d : Link) → i < length links → Gathers P old (take i links) new → (P (get_or links i d) → ⊥)
      → Gathers P old (take (i + 1) links) new
  one_less old new links i d there so_far never link =
      subst (λ (seen : List Link). Contains new link ↔ (Contains old link ⊎ (Contains seen link × P link))) (sym (take_more links i d there)) (
        λ held. elim ((so_far link).0 held) [ inl first ↦ inl first | inr more ↦ inr (Contains-append_left (take i links) (x ∷ []) link more.0, more.1) ],
        λ either. elim either [
          | inl first ↦ (so_far link).1 (inl first)
          | inr more ↦ elim (Contains-push_cases (take i links) x link more.0) [
            | inl earlier ↦ (so_far link).1 (inr (earlier, more.1))
            | inr same ↦ absurd (never (subst P (sym same) more.1))
          ]
        ],
      )
    where
      x : Link
      x = get_or links i d

  -- from two lists, one after the other
  pub of_both : (xs ys first both : List Link) → Gathers P [] xs first → Gathers P first ys both → (link : Link)
      → Contains both link ↔ (Contains (xs ++ ys) link × P link)
  of_both xs ys first both some more link = (
    λ held. elim ((more link).0 held) [
      | inl earlier ↦ elim ((some link).0 earlier) [ inl none ↦ absurd (contains_none link none) | inr is ↦ (Contains-append_left xs ys link is.0, is.1) ]
      | inr is ↦ (Contains-append_right xs ys link is.0, is.1)
    ],
    λ is. elim (Contains-append_cases xs ys link is.0) [
      | inl in_first ↦ (more link).1 (inl ((some link).1 (inr (in_first, is.1))))
      | inr in_second ↦ (more link).1 (inr (in_second, is.1))
    ],
  )

-- ---- links put in order

put_has : (link : Link) (links : List Link) → Contains (put_link link links) link
put_has link [] = contains_first link []
put_has link (other ∷ links) = by_case (before link other) refl (put_has link links)
  where
    by_case : (b : Bool) → before link other ≡ b → Contains (put_link link links) link → Contains (put_link link (other ∷ links)) link
    by_case true is rest = rw is (contains_first link (other ∷ links))
    by_case false is rest = rw is (contains_later other link (put_link link links) rest)

put_keeps : (link : Link) (links : List Link) (kept : Link) → Contains links kept → Contains (put_link link links) kept
put_keeps link [] kept held = absurd (contains_none kept held)
put_keeps link (other ∷ links) kept held = by_case (before link other) refl (put_keeps link links kept)
  where
    by_case : (b : Bool) → before link other ≡ b → (Contains links kept → Contains (put_link link links) kept) → Contains (put_link link (other ∷ links)) kept
    by_case true is rest = rw is (contains_later link kept (other ∷ links) held)
    by_case false is rest = rw is (elim (contains_cases other kept links held) [
      | inl same ↦ subst (λ (l : Link). Contains (other ∷ put_link link links) l) same (contains_first other (put_link link links))
      | inr later ↦ contains_later other kept (put_link link links) (rest later)
    ])

ordered_has : (links : List Link) (link : Link) → Contains links link → Contains (ordered_links links) link
unfolding ordered_links
ordered_has [] link held = held
ordered_has (first ∷ links) link held = elim (contains_cases first link links held) [
  | inl same ↦ subst (λ (l : Link). Contains (put_link first (ordered_links links)) l) same (put_has first (ordered_links links))
  | inr later ↦ put_keeps first (ordered_links links) link (ordered_has links link later)
]

ordered_from : (links : List Link) (link : Link) → Contains (ordered_links links) link → Contains links link
ordered_from links link held = All-contains (Contains links) (ordered_links links) link (All-ordered_links (Contains links) links (All-contains_itself links)) held

not_less : (a b : Link) → before a b ≡ false → link_cmp a b ≢ Less
not_less a b is less = both_ways (before a b) is (ap is_lt less)

not_itself : (x : Link) → before x x ≡ false
not_itself x = by_case (before x x) refl
  where
    by_case : (b : Bool) → before x x ≡ b → before x x ≡ false
    by_case true is = links_order.one_way x x is
    by_case false is = is

-- the first of links put in order is the first of them
pub first_ordered : (P : Link → Type 0) (links : List Link) → ((link : Link) → Contains links link ↔ P link) → IsFirstAmong P (slice_get (ordered_links links) 0)
first_ordered P links all = by_list (ordered_links links) refl (ordered_links-rise links)
  where
    by_list : (made : List Link) → ordered_links links ≡ made → Rises before made → IsFirstAmong P (slice_get made 0)
    by_list [] is up = λ link keeps. contains_none link (subst (λ (ls : List Link). Contains ls link) is (ordered_has links link ((all link).1 keeps)))
    by_list (x ∷ rest) is up = (
      (all x).0 (ordered_from links x (subst (λ (ls : List Link). Contains ls x) (sym is) (contains_first x rest))),
      λ other keeps. elim (contains_cases x other rest (subst (λ (ls : List Link). Contains ls other) is (ordered_has links other ((all other).1 keeps)))) [
        | inl same ↦ not_less other x (subst (λ (l : Link). before l x ≡ false) same (not_itself x))
        | inr later ↦ not_less other x (All-contains (λ (l : Link). before l x ≡ false) rest other up.0 later)
      ],
    )
