-- Pieces of allowed walks: where one is cut in two, and that a piece of a cheapest one is a cheapest one.
use Rattle.std.proofs.Common.{◌≡◌, ℕ, ◌+◌, ◌<◌, List, [], ◌∷◌, ◌++◌, length, take, drop, refl, sym, subst, ap, ◌∙◌, arith}
use Rattle.std.specs.Prelude.{All, Contains}
use Rattle.std.proofs.Math.Seq.{drop-append_seam, take-append_seam}
use Rattle.std.proofs.lemmas.List.{take-append-drop}
use Rattle.std.proofs.lemmas.List.Elements.{All-append, All-cons, All-drop, All-nil, All-take, Contains-append_left, Contains-append_right}
use Rattle.std.proofs.lemmas.List.Sums.{sum_by-append}
use Rattle.mesh_types.specs.declared.links.Link.{Link}
use Rattle.mesh_types.specs.declared.links.PolyRef.{PolyRef}
use Rattle.mesh_types.specs.declared.mesh.Mesh.{Mesh}
use Rattle.mesh_types.specs.Corridors.{IsLinkOf, WalksTo, cost_of, weight_of}
use Rattle.mesh_types.specs.Soundness.{IsSound}
use Rattle.mesh_types.proofs.MeshLinks.{leads}
use Rattle.corridor_search.specs.MeshGraphs.{IsThere}
use Rattle.path_queries.specs.declared.filters.Filter.{Filter}
use Rattle.path_queries.specs.Filters.{AllowedTo, Enters, IsCheapestAllowed, priced}

-- ---- lists

pub contains-take : {X : Type 0} (n : ℕ) (xs : List X) (x : X) → Contains (take n xs) x → Contains xs x
contains-take n xs x held =
    subst (λ (ys : List _). Contains ys x) (take-append-drop n xs) (Contains-append_left (take n xs) (drop n xs) x held)

pub contains-drop : {X : Type 0} (n : ℕ) (xs : List X) (x : X) → Contains (drop n xs) x → Contains xs x
contains-drop n xs x held =
    subst (λ (ys : List _). Contains ys x) (take-append-drop n xs) (Contains-append_right (take n xs) (drop n xs) x held)

all-left : {X : Type 0} (P : X → Type 0) (xs ys : List X) → All P (xs ++ ys) → All P xs
all-left P xs ys all = subst (All P) (take-append_seam xs ys) (All-take P (length xs) (xs ++ ys) all)

all-right : {X : Type 0} (P : X → Type 0) (xs ys : List X) → All P (xs ++ ys) → All P ys
all-right P xs ys all = subst (All P) (drop-append_seam xs ys) (All-drop P (length xs) (xs ++ ys) all)

-- ---- walks

module _ (mesh : Mesh) where
  walk-split : (from : PolyRef) (xs ys : List Link) (to : PolyRef) → WalksTo mesh from (xs ++ ys) to
      → (at : PolyRef) × WalksTo mesh from xs at × WalksTo mesh at ys to
  walk-split from [] ys to walk = (from, refl, walk)
  walk-split from (link ∷ xs) ys to walk =
      let rest = walk-split link.to xs ys to walk.2 in
      (rest.0, (walk.0, walk.1, rest.1), rest.2)

  walk-join : (from at to : PolyRef) (xs ys : List Link) → WalksTo mesh from xs at → WalksTo mesh at ys to → WalksTo mesh from (xs ++ ys) to
  walk-join from at to [] ys walk walk' = subst (λ (p : PolyRef). WalksTo mesh p ys to) (sym walk) walk'
  walk-join from at to (link ∷ xs) ys walk walk' = (walk.0, walk.1, walk-join link.to at to xs ys walk.2 walk')

  pub one-end : (from : PolyRef) (links : List Link) (a b : PolyRef) → WalksTo mesh from links a → WalksTo mesh from links b → a ≡ b
  one-end from [] a b walk walk' = sym walk ∙ walk'
  one-end from (link ∷ links) a b walk walk' = one-end link.to links a b walk.2 walk'.2

  pub one-start : (a b : PolyRef) (links : List Link) (c d : PolyRef) → 0 < length links → WalksTo mesh a links c → WalksTo mesh b links d → a ≡ b
  one-start a b [] c d some walk walk' = absurd (omega (arith, some))
  one-start a b (link ∷ links) c d some walk walk' = sym walk.1 ∙ walk'.1

  pub walk-all : (from : PolyRef) (links : List Link) (to : PolyRef) → WalksTo mesh from links to → All (IsLinkOf mesh) links
  walk-all from [] to walk = All-nil (IsLinkOf mesh)
  walk-all from (link ∷ links) to walk = All-cons (IsLinkOf mesh) link links walk.0 (walk-all link.to links to walk.2)

module _ (mesh : Mesh) (areas : ℕ) where
  -- a walk in two pieces
  pub record IsSplit (from : PolyRef) (xs ys : List Link) (to : PolyRef) : Type 0 where
    pub at : PolyRef
    pub front : AllowedTo mesh areas from xs at
    pub back : AllowedTo mesh areas at ys to

  pub split : (from : PolyRef) (xs ys : List Link) (to : PolyRef) → AllowedTo mesh areas from (xs ++ ys) to → IsSplit from xs ys to
  split from xs ys to allowed =
      let walk = walk-split mesh from xs ys to allowed.walks in
      record {
        at = walk.0;
        front = record { walks = walk.1; enters = all-left (Enters mesh areas) xs ys allowed.enters };
        back = record { walks = walk.2; enters = all-right (Enters mesh areas) xs ys allowed.enters };
      }

  pub split-at : (n : ℕ) (from : PolyRef) (links : List Link) (to : PolyRef) → AllowedTo mesh areas from links to
      → IsSplit from (take n links) (drop n links) to
  split-at n from links to allowed =
      split from (take n links) (drop n links) to
      (subst (λ (ls : List Link). AllowedTo mesh areas from ls to) (sym (take-append-drop n links)) allowed)

  pub join : (from at to : PolyRef) (xs ys : List Link) → AllowedTo mesh areas from xs at → AllowedTo mesh areas at ys to
      → AllowedTo mesh areas from (xs ++ ys) to
  join from at to xs ys allowed allowed' = record {
    walks = walk-join mesh from at to xs ys allowed.walks allowed'.walks;
    enters = All-append (Enters mesh areas) xs ys allowed.enters allowed'.enters;
  }

  pub stays : (at to : PolyRef) → at ≡ to → AllowedTo mesh areas at [] to
  stays at to same = record { walks = same; enters = All-nil (Enters mesh areas) }

  -- the polygon in which the walk begins is there, and so is the one in which it ends
  pub end-there : (from : PolyRef) (links : List Link) (to : PolyRef) → AllowedTo mesh areas from links to → IsThere mesh from → IsThere mesh to
  end-there from [] to allowed there = subst (IsThere mesh) allowed.walks there
  end-there from (link ∷ links) to allowed there =
      let rest = split from (link ∷ []) links to allowed in
      let entered = allowed.enters 0 link (omega (arith)) in
      end-there link.to links to
      (record { walks = allowed.walks.2; enters = all-right (Enters mesh areas) (link ∷ []) links allowed.enters })
      (record { polygon = entered.polygon; is = entered.there })

  pub begin-there : (from : PolyRef) (links : List Link) (to : PolyRef) → IsSound mesh → 0 < length links → AllowedTo mesh areas from links to → IsThere mesh from
  begin-there from [] to sound some allowed = absurd (omega (arith, some))
  begin-there from (link ∷ links) to sound some allowed =
      let lead = leads mesh link sound allowed.walks.0 in
      subst (IsThere mesh) allowed.walks.1 (record { polygon = lead.leaves; is = lead.is_left })

-- ---- cheapest walks

module _ (mesh : Mesh) (filter : Filter) where
  abbrev priced_cost : List Link → ℕ
  priced_cost links = cost_of (priced mesh filter) links

  -- a walk than which no allowed one costs less
  abbrev pub IsCheapestWalk : PolyRef → PolyRef → List Link → Type 0
  IsCheapestWalk from to links = IsCheapestAllowed mesh filter from to (record { cost = priced_cost links; links = links })

  pub stays-cheapest : (at to : PolyRef) → at ≡ to → IsCheapestWalk at to []
  stays-cheapest at to same = record { allowed = stays mesh filter.areas at to same; cost = refl; least = λ links other. omega (arith) }

  three : (xs ys zs : List Link) → priced_cost (xs ++ (ys ++ zs)) ≡ priced_cost xs + (priced_cost ys + priced_cost zs)
  three xs ys zs =
      omega (
        arith,
        sum_by-append (weight_of (priced mesh filter)) xs (ys ++ zs),
        sum_by-append (weight_of (priced mesh filter)) ys zs,
      )

  pub piece-cheapest : (from to : PolyRef) (links before piece behind : List Link) (u v : PolyRef) → links ≡ before ++ (piece ++ behind)
      → IsCheapestWalk from to links → AllowedTo mesh filter.areas u piece v → IsCheapestWalk u v piece
  piece-cheapest from to links before [] behind u v is cheapest allowed = stays-cheapest u v allowed.walks
  piece-cheapest from to links before (link ∷ piece) behind u v is cheapest allowed =
      let whole = subst (λ (ls : List Link). AllowedTo mesh filter.areas from ls to) is cheapest.allowed in
      let first = split mesh filter.areas from before ((link ∷ piece) ++ behind) to whole in
      let second = split mesh filter.areas first.at (link ∷ piece) behind to first.back in
      let begins : u ≡ first.at = one-start mesh u first.at (link ∷ piece) v second.at (omega (arith)) allowed.walks second.front.walks in
      let ends : v ≡ second.at = one-end mesh link.to piece v second.at allowed.walks.2 second.front.walks.2 in
      record {
        allowed = allowed;
        cost = refl;
        least = λ other walk.
            let around = join mesh filter.areas from first.at to before (other ++ behind) first.front
            (join mesh filter.areas first.at second.at to other behind
            (subst (AllowedTo mesh filter.areas first.at other) ends (subst (λ (p : PolyRef). AllowedTo mesh filter.areas p other v) begins walk))
            second.back) in
            omega (
              arith,
              cheapest.least (before ++ (other ++ behind)) around,
              three before other behind,
              three before (link ∷ piece) behind,
              ap priced_cost is,
            );
      }
