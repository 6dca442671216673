-- The longest rest of a kept path is found from its end: as long as a link joins what stands behind it.
use Rattle.std.proofs.Common.{◌≡◌, ℕ, ◌+◌, ◌-◌, ◌≤◌, ◌<◌, List, ◌∷◌, length, take, drop, get_or, refl, sym, subst, ap, ◌∙◌, inl, inr, arith}
use Rattle.std.proofs.lemmas.Bool.{cases_lt}
use Rattle.std.proofs.lemmas.List.{drop-drop, drop_all, drop_at, drop_more, get_or-drop, length-append, length-drop, length-take, take-append-drop}
use Rattle.std.proofs.lemmas.List.Elements.{All-cons}
use Rattle.mesh_types.specs.declared.links.Link.{Link}
use Rattle.mesh_types.specs.declared.links.PolyRef.{PolyRef}
use Rattle.mesh_types.specs.declared.mesh.Mesh.{Mesh}
use Rattle.mesh_types.specs.Corridors.{WalksTo}
use Rattle.mesh_types.specs.Located.{HoldsAt}
use Rattle.mesh_types.proofs.WalkChains.{some_link, walk_last}
use Rattle.path_queries.specs.Filters.{AllowedTo, Enters}
use Rattle.kept_paths.specs.declared.checks.KeptPath.{KeptPath}
use Rattle.kept_paths.specs.Repairs.{IsRest}
use Rattle.kept_paths.specs.Splices.{IsLongestRest, Joins}
use Rattle.kept_paths.proofs.WalkParts.{IsSplit, one-start, split-at, stays}

-- one link more in front of a walk
pub push-front : (mesh : Mesh) (areas : ℕ) (link : Link) (to : PolyRef) (links : List Link) (last : PolyRef) → Joins mesh areas link to
    → AllowedTo mesh areas to links last → AllowedTo mesh areas link.from (link ∷ links) last
push-front mesh areas link to links last joins walk = record {
  walks = (joins.listed, refl, subst (λ (p : PolyRef). WalksTo mesh p links last) (sym joins.reaches) walk.walks);
  enters = All-cons (Enters mesh areas) link links joins.enters walk.enters;
}

-- what is known of a place from which the links join, up to an end
pub record IsJoinedFrom (mesh : Mesh) (path : KeptPath) (cut : ℕ) (end : PolyRef) (start : ℕ) (to : PolyRef) : Type 0 where
  pub within : start ≤ length path.links
  pub behind : start < length path.links → cut < start
  pub leads : AllowedTo mesh path.filter.areas to (drop start path.links) end

-- the link before the place joins too, and stands behind the cut
pub record IsLonger (mesh : Mesh) (path : KeptPath) (cut start : ℕ) (to : PolyRef) : Type 0 where
  pub past : cut + 1 < start
  pub joins : Joins mesh path.filter.areas (get_or path.links (start - 1) some_link) to

module _ (mesh : Mesh) (path : KeptPath) (cut : ℕ) (end : PolyRef)
    (ends : (get_or path.links (length path.links - 1) some_link).to ≡ end) where
  pub joined-none : (start : ℕ) → start ≡ length path.links → IsJoinedFrom mesh path cut end start end
  joined-none start is = record {
    within = omega (arith, is);
    behind = λ inside. absurd (omega (arith, inside, is));
    leads = subst (λ (ls : List Link). AllowedTo mesh path.filter.areas end ls end) (sym (drop_all start path.links (omega (arith, is))))
        (stays mesh path.filter.areas end end refl);
  }

  pub joined-more : (start : ℕ) (to : PolyRef) (link : Link) → cut + 1 < start → IsJoinedFrom mesh path cut end start to → get_or path.links (start - 1) some_link ≡ link
      → Joins mesh path.filter.areas link to → IsJoinedFrom mesh path cut end (start - 1) link.from
  joined-more start to link past so is joins = record {
    within = omega (arith, so.within);
    behind = λ inside. omega (arith, past);
    leads =
        let again : start - 1 + 1 ≡ start = omega (arith, past) in
        let front : drop (start - 1) path.links ≡ link ∷ drop start path.links =
        drop_more path.links (start - 1) some_link (omega (arith, past, so.within)) ∙ (λ i. is i ∷ drop (again i) path.links) in
        subst (λ (ls : List Link). AllowedTo mesh path.filter.areas link.from ls end) (sym front)
        (push-front mesh path.filter.areas link to (drop start path.links) end joins so.leads);
  }

  -- a rest ends in the polygon to which the last kept link leads
  pub rest-end : (rest : List Link) (to last : PolyRef) → IsRest mesh path cut rest to last → last ≡ end
  rest-end rest to last is =
      let count = ap (λ (ls : List Link). length ls) is.ends ∙ length-append is.before rest in
      let tail : drop (length is.before) path.links ≡ rest = ap (drop (length is.before)) is.ends ∙ drop_at is.before rest (length is.before) refl in
      let place : length is.before + (length rest - 1) ≡ length path.links - 1 = omega (arith, count, is.some) in
      let same : get_or rest (length rest - 1) some_link ≡ get_or path.links (length path.links - 1) some_link =
      (λ i. get_or (sym tail i) (length rest - 1) some_link) ∙ get_or-drop (length is.before) path.links (length rest - 1) some_link
      ∙ (λ i. get_or path.links (place i) some_link) in
      sym (walk_last mesh to rest last is.leads.walks (length rest - 1) (omega (arith, is.some))) ∙ ap (λ (l : Link). l.to) same ∙ ends

  pub no-rest-without-goal : (HoldsAt mesh path.goal path.goal_y end → ⊥) → (rest : List Link) (to last : PolyRef) → IsRest mesh path cut rest to last → ⊥
  no-rest-without-goal never rest to last is = never (subst (HoldsAt mesh path.goal path.goal_y) (rest-end rest to last is) is.goal)

  -- where a rest is longer
  pub longer : (start : ℕ) (to : PolyRef) → IsJoinedFrom mesh path cut end start to → (rest : List Link) (to' last : PolyRef) → IsRest mesh path cut rest to' last
      → length (drop start path.links) < length rest → IsLonger mesh path cut start to
  longer start to so rest to' last is more = record { past = past; joins = record { listed = link-on.walks.0; enters = link-on.enters 0 some_link (omega (arith)); reaches = reaches } }
    where
      count : length path.links ≡ length is.before + length rest
      count = ap (λ (ls : List Link). length ls) is.ends ∙ length-append is.before rest

      left : length (drop start path.links) ≡ length path.links - start
      left = length-drop start path.links

      past : cut + 1 < start
      past = omega (arith, is.behind, count, left, more, so.within)

      n : ℕ
      n = length is.before

      tail : drop (length is.before) path.links ≡ rest
      tail = ap (drop (length is.before)) is.ends ∙ drop_at is.before rest (length is.before) refl

      steps : ℕ
      steps = start - 1 - length is.before

      place : length is.before + (start - 1 - length is.before) ≡ start - 1
      place = omega (arith, count, left, more, so.within)

      again : start - 1 + 1 ≡ start
      again = omega (arith, past)

      behind : drop (start - 1 - length is.before) rest ≡ get_or path.links (start - 1) some_link ∷ drop start path.links
      behind =
          ap (drop (start - 1 - length is.before)) (sym tail) ∙ drop-drop (start - 1 - length is.before) (length is.before) path.links
          ∙ (λ i. drop (place i) path.links) ∙ drop_more path.links (start - 1) some_link (omega (arith, past, so.within))
          ∙ (λ i. get_or path.links (start - 1) some_link ∷ drop (again i) path.links)

      pieces : IsSplit mesh path.filter.areas to' (take (start - 1 - length is.before) rest) (drop (start - 1 - length is.before) rest) last
      pieces = split-at mesh path.filter.areas (start - 1 - length is.before) to' rest last is.leads

      link-on : AllowedTo mesh path.filter.areas pieces.at (get_or path.links (start - 1) some_link ∷ drop start path.links) last
      link-on = subst (λ (ls : List Link). AllowedTo mesh path.filter.areas pieces.at ls last) behind pieces.back

      reaches : (get_or path.links (start - 1) some_link).to ≡ to
      reaches =
          elim (cases_lt start (length path.links)) [
            | inl inside ↦
                one-start mesh (get_or path.links (start - 1) some_link).to to (drop start path.links) last end (omega (arith, inside, left)) link-on.walks.2 so.leads.walks
            | inr outside ↦
                let whole : start ≡ length path.links = omega (arith, outside, so.within) in
                let empty = drop_all start path.links (omega (arith, whole)) in
                let to-end : to ≡ end = (subst (λ (ls : List Link). AllowedTo mesh path.filter.areas to ls end) empty so.leads).walks in
                (λ i. (get_or path.links (whole i - 1) some_link).to) ∙ ends ∙ sym to-end
          ]

  -- so the links that join are the longest rest
  pub longest-of : (start : ℕ) (to : PolyRef) → IsJoinedFrom mesh path cut end start to → (IsLonger mesh path cut start to → ⊥) → start < length path.links
      → HoldsAt mesh path.goal path.goal_y end → IsLongestRest mesh path cut start to end
  longest-of start to so never inside goal = record {
    is = record {
      before = take start path.links;
      ends = sym (take-append-drop start path.links);
      behind = omega (arith, length-take start path.links, so.behind inside, so.within);
      some = omega (arith, length-drop start path.links, inside);
      leads = so.leads;
      goal = goal;
    };
    longest = λ other to' last' rest.
        elim (cases_lt (length (drop start path.links)) (length other)) [
          | inl more ↦ absurd (never (longer start to so other to' last' rest more))
          | inr most ↦ most
        ];
  }

  pub none-of : (start : ℕ) (to : PolyRef) → IsJoinedFrom mesh path cut end start to → (IsLonger mesh path cut start to → ⊥) → start ≡ length path.links
      → (rest : List Link) (to' last : PolyRef) → IsRest mesh path cut rest to' last → ⊥
  none-of start to so never whole rest to' last is =
      never (longer start to so rest to' last is (omega (arith, length-drop start path.links, whole, is.some)))

-- no links have no rest
pub rest-some : (mesh : Mesh) (path : KeptPath) (cut : ℕ) (rest : List Link) (to last : PolyRef) → IsRest mesh path cut rest to last → 0 < length path.links
rest-some mesh path cut rest to last is =
    omega (arith, ap (λ (ls : List Link). length ls) is.ends, length-append is.before rest, is.some)
