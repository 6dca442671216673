-- Where tiles of a mesh were replaced, heights over landmarks that are gentle round the tiles whose rows were written are landmarks of it.
use Rattle.std.proofs.Common.{◌≡◌, ◌≢◌, ℕ, ◌+◌, ◌-◌, ◌⊎◌, List, [], ◌∷◌, ◌++◌, get_or, refl, sym, subst, ap, ◌∙◌, arith, inl, inr}
use Rattle.std.specs.Prelude.{All, Contains, Some, slice_get, slice_set, option_and_then}
use Rattle.std.specs.Option.{option_map_or}
use Rattle.std.proofs.lemmas.Bool.{cases_eq}
use Rattle.std.proofs.lemmas.List.{get_or-set_other}
use Rattle.std.proofs.lemmas.List.Elements.{All-contains, Contains-append_left, Contains-push}
use Rattle.std.proofs.lemmas.Option.{slice_get_within, get_or_from_slice_get}
use Rattle.nav_ground.specs.Limits.{IsSetting}
use Rattle.nav_ground.specs.Tiling.{tiles_in_row}
use Rattle.mesh_types.specs.declared.links.PolyRef.{PolyRef}
use Rattle.mesh_types.specs.declared.links.Link.{Link}
use Rattle.mesh_types.specs.declared.polygon.Polygon.{Polygon}
use Rattle.mesh_types.specs.declared.mesh.TileMesh.{TileMesh}
use Rattle.mesh_types.specs.declared.mesh.Mesh.{Mesh}
use Rattle.mesh_types.specs.Corridors.{IsLinkOf, step_cost, weight_of}
use Rattle.mesh_types.specs.Soundness.{IsCrossLink, IsSound}
use Rattle.mesh_types.specs.WholeMesh.{poly_at}
use Rattle.graph_search.proofs.Members.{contains_cases, contains_first, contains_later, contains_none}
use Rattle.corridor_search.specs.Changes.{AreGentleAround, AreSameBut, DifferIn, IsBeside, IsGentleInto, IsNear}
use Rattle.corridor_search.specs.Islands.{inner_of, outer_of}
use Rattle.corridor_search.specs.Landmarks.{Heights, flat, heights_at, gap_of, are_alike, AreLandmarks, IsGentle}
use Rattle.corridor_search.proofs.Beside.{leaves-beside}
use Rattle.corridor_search.proofs.Sound.{tile-fit}

-- rows that are written for one tile more
pub same-more : (written : List ℕ) (old rows : Heights) (tile : ℕ) (own : List (List ℕ)) → AreSameBut written old rows
    → AreSameBut (written ++ tile ∷ []) old (slice_set rows tile own)
same-more written old rows tile own same = record {
  rows = λ t outside.
      let apart : t ≢ tile = λ is. outside (subst (λ (n : ℕ). Contains (written ++ tile ∷ []) n) (sym is) (Contains-push written tile)) in
      get_or-set_other rows tile t own [] apart ∙ same.rows t (λ held. outside (Contains-append_left written (tile ∷ []) t held));
}

-- a number is one of some, or none of them
pub among : (xs : List ℕ) (x : ℕ) → Contains xs x ⊎ (Contains xs x → ⊥)
among [] x = inr (contains_none x)
among (y ∷ ys) x =
    elim (cases_eq y x) [
      | inl same ↦ inl (subst (λ (z : ℕ). Contains (y ∷ ys) z) same (contains_first y ys))
      | inr apart ↦ elim (among ys x) [
        | inl there ↦ inl (contains_later y x ys there)
        | inr none ↦ inr (λ held. elim (contains_cases y x ys held) [
          | inl is ↦ apart is
          | inr later ↦ none later
        ])
      ]
    ]

module _ (mesh : Mesh) (marks : Heights) (tile : ℕ) (sound : IsSound mesh) (setting : IsSetting mesh.setting)
    (inner : All (IsGentle mesh marks) (inner_of mesh tile)) (outer : All (IsGentle mesh marks) (outer_of mesh tile))
    (enter : (t : ℕ) → IsBeside (tiles_in_row mesh.setting) tile t → All (IsGentleInto mesh marks tile) (outer_of mesh t)) where
  -- a link that leaves a tile is one inside it, or over its border
  leaving : (link : Link) → IsLinkOf mesh link → link.from.tile ≡ tile → IsGentle mesh marks link
  leaving link of_mesh from = elim of_mesh.listed [
    | inl held ↦
        All-contains (IsGentle mesh marks) held.0.links link
        (subst (λ o. All (IsGentle mesh marks) (option_map_or (λ (t : TileMesh). t.links) o [])) (ap (slice_get mesh.tiles) (sym from) ∙ held.1) inner) held.2
    | inr held ↦
        All-contains (IsGentle mesh marks) held.0 link
        (subst (λ o. All (IsGentle mesh marks) (option_map_or (λ (links : List Link). links) o [])) (ap (slice_get mesh.cross) (sym from) ∙ held.1) outer) held.2
  ]

  -- one that enters it is inside it, or leaves a tile beside it
  entering : (link : Link) → IsLinkOf mesh link → link.to.tile ≡ tile → IsGentle mesh marks link
  entering link of_mesh to = elim of_mesh.listed [
    | inl held ↦ leaving link of_mesh (stays held.0 held.1 held.2 ∙ to)
    | inr held ↦ over held.0 held.1 held.2
  ]
    where
      stays : (own : TileMesh) → slice_get mesh.tiles link.from.tile ≡ Some own → Contains own.links link → link.from.tile ≡ link.to.tile
      stays own is held =
          let inner = (tile-fit mesh link.from.tile own sound is).links held.0 link held.1 in
          subst (λ (l : Link). l.from.tile ≡ l.to.tile) held.2 (inner.from_here ∙ sym inner.to_here)

      over : (links : List Link) → slice_get mesh.cross link.from.tile ≡ Some links → Contains links link → IsGentle mesh marks link
      over links is held =
          let all : All (IsCrossLink mesh link.from.tile) links =
          subst (All (IsCrossLink mesh link.from.tile)) (get_or_from_slice_get mesh.cross link.from.tile links links is)
          (sound.cross link.from.tile links (slice_get_within mesh.cross link.from.tile links is)) in
          let cross = All-contains (IsCrossLink mesh link.from.tile) links link all held in
          let near : IsBeside (tiles_in_row mesh.setting) tile link.from.tile =
          subst (λ (n : ℕ). IsBeside (tiles_in_row mesh.setting) n link.from.tile) to (leaves-beside mesh link sound setting cross.through) in
          (All-contains (IsGentleInto mesh marks tile) links link
          (subst (λ o. All (IsGentleInto mesh marks tile) (option_map_or (λ (ls : List Link). ls) o [])) is (enter link.from.tile near)) held).gentle to

  pub gentle-around : AreGentleAround mesh marks tile
  gentle-around = record {
    each = λ link of_mesh touches. elim touches [
      | inl from ↦ leaving link of_mesh from
      | inr to ↦ entering link of_mesh to
    ];
  }

-- the numbers beside a tile are near one of three
pub beside-near : (row tile : ℕ) (P : ℕ → Type 0) → ((t : ℕ) → IsNear (tile - row) t → P t) → ((t : ℕ) → IsNear tile t → P t)
    → ((t : ℕ) → IsNear (tile + row) t → P t) → (t : ℕ) → IsBeside row tile t → P t
beside-near row tile P before same behind t beside = elim beside.beside [
  | inl near ↦ let by = near.near in before t (record { near = omega (arith, by) })
  | inr others ↦ elim others [
    | inl near ↦ same t near
    | inr near ↦ behind t near
  ]
]

module _ (written news : List ℕ) (before after : Mesh) (old marks : Heights) (were : AreLandmarks before old) (differ : DifferIn news before after)
    (same : AreSameBut written old marks) (have : All (Contains written) news) (around : All (AreGentleAround after marks) written) where
  new-written : (t : ℕ) → (Contains written t → ⊥) → Contains news t → ⊥
  new-written t outside held = outside (All-contains (Contains written) news t have held)

  -- a link that touches no such tile weighs as before, and its heights are as before
  elsewhere : (link : Link) → IsLinkOf after link → (Contains written link.from.tile → ⊥) → (Contains written link.to.tile → ⊥) → IsGentle after marks link
  elsewhere link of_mesh from to =
      let was = were.each link (differ.between link (new-written link.from.tile from) (new-written link.to.tile to) of_mesh) in
      let height : (at : PolyRef) → (Contains written at.tile → ⊥) → heights_at marks at ≡ heights_at old at =
      λ at outside. ap (λ (rows : List (List ℕ)). get_or rows at.index flat) (same.rows at.tile outside) in
      let polygon : (at : PolyRef) → (Contains written at.tile → ⊥) → poly_at after at ≡ poly_at before at =
      λ at outside. ap (option_and_then (λ (tile : TileMesh). slice_get tile.polys at.index)) (differ.others at.tile (new-written at.tile outside)) in
      let p = height link.from from in
      let q = height link.to to in
      let weight : weight_of after link ≡ weight_of before link =
      λ i. option_map_or (λ (a : Polygon). option_map_or (λ (b : Polygon). step_cost (differ.one i).costs a b) (polygon link.to to i) 0) (polygon link.from from i) 0 in
      let gap : gap_of 8 (heights_at marks link.from) (heights_at marks link.to) ≡ gap_of 8 (heights_at old link.from) (heights_at old link.to) = λ i. gap_of 8 (p i) (q i) in
      record {
        gap = omega (arith, was.gap, weight, gap);
        alike = (λ i. are_alike 8 (p i) (q i)) ∙ was.alike;
      }

  pub landmarks-kept : AreLandmarks after marks
  landmarks-kept = record {
    each = λ link of_mesh. elim (among written link.from.tile) [
      | inl from ↦ (All-contains (AreGentleAround after marks) written link.from.tile around from).each link of_mesh (inl refl)
      | inr not_from ↦ elim (among written link.to.tile) [
        | inl to ↦ (All-contains (AreGentleAround after marks) written link.to.tile around to).each link of_mesh (inr refl)
        | inr not_to ↦ elsewhere link of_mesh not_from not_to
      ]
    ];
  }
