-- Two lists of links made into one.
use Rattle.std.proofs.Common.{◌≡◌, ℕ, ◌+◌, ◌<◌, cond, List, [], ◌∷◌, ◌++◌, length, take, drop, get_or, ap, ◌∙◌, sym, arith}
use Rattle.std.specs.List.{count_by}
use Rattle.std.proofs.lemmas.List.{take_more}
use Rattle.std.proofs.lemmas.List.Sums.{sum_by-append}
use Rattle.mesh_types.specs.declared.links.Link.{Link}
use Rattle.mesh_types.specs.LinkOrder.{ordered_links}
use Rattle.mesh_types.proofs.LinksInOrder.{ordered_links-count}
use Rattle.tile_links.specs.Loose.{HasGained}

-- one known link more
pub one_more_merged : (known found links mid new : List Link) (i taken next : ℕ) (d : Link) → i < length known
    → HasGained (take i known) found (links ++ drop taken found) → mid ++ drop next found ≡ links ++ drop taken found
    → new ≡ mid ++ get_or known i d ∷ [] → HasGained (take (i + 1) known) found (new ++ drop next found)
one_more_merged known found links mid new i taken next d there so_far moved pushed p =
    let f : Link → ℕ = λ link. cond (p link) 1 0 in
    let link : List Link = get_or known i d ∷ [] in
    let before = ap (count_by p) moved ∙ so_far p in
    ap (λ (xs : List Link). count_by p (xs ++ drop next found)) pushed
    ∙ omega (
      arith,
      before,
      sum_by-append f (mid ++ link) (drop next found),
      sum_by-append f mid link,
      sum_by-append f mid (drop next found),
      sum_by-append f (take i known) found,
      sum_by-append f (take i known ++ link) found,
      sum_by-append f (take i known) link,
    )
    ∙ ap (λ (xs : List Link). count_by p (xs ++ found)) (sym (take_more known i d there))

-- it does not matter whether what is gained was put in order
pub gained_in_order : (known found more new : List Link) → found ≡ ordered_links more → HasGained known found new → HasGained known more new
gained_in_order known found more new order gained p =
    let f : Link → ℕ = λ link. cond (p link) 1 0 in
    gained p
    ∙ sum_by-append f known found
    ∙ ap (λ n. count_by p known + n) (ap (count_by p) order ∙ ordered_links-count p more)
    ∙ sym (sum_by-append f known more)
