-- The loop that takes the polygons of a flood from a list of vertices that were reached.
use Rattle.std.proofs.Common.{◌≡◌, ℕ, ◌+◌, ◌<◌, ◌≤◌, ◌∙◌, true, false, List, ◌++◌, ◌∷◌, [], length, map, take, ap, sym, inl, inr, arith}
use Rattle.std.specs.Prelude.{slice_index_or}
use Rattle.std.specs.List.{filter}
use Rattle.std.proofs.lemmas.Bool.{cases_eq}
use Rattle.std.proofs.lemmas.List.{get_or_append_left, length-map, map-append}
use Rattle.std.proofs.Math.Seq.{get_or-append_seam}
use Rattle.std.proofs.lemmas.Option.{slice_get-get_or}
use Rattle.mesh_types.specs.declared.links.PolyRef.{PolyRef}
use Rattle.mesh_types.specs.declared.mesh.Mesh.{Mesh}
use Rattle.graph_search.specs.declared.exploring.ReachedVertex.{ReachedVertex}
use Rattle.corridor_search.specs.MeshGraphs.{polygon_of}
use Rattle.path_queries.specs.declared.floods.Flooded.{Flooded}
use Rattle.path_queries.specs.Searches.{AreViaNoLater, flooded_as, is_kept, kept_before}
use Rattle.path_queries.proofs.KeptEntries.{taken-kept, taken-left}

-- stands for what is read where nothing stands
abbrev pub no_entry : ReachedVertex
no_entry = record { vertex = record { block = 0; place = 0 }; cost = 0; via = 0; place = 0 }

pub via-no-later-at : (list : List ReachedVertex) (i : ℕ) → AreViaNoLater list → i < length list → (slice_index_or list i no_entry).via ≤ i
via-no-later-at list i via there = via i (slice_index_or list i no_entry) (slice_get-get_or list i no_entry there)

module _ (mesh : Mesh) (areas : ℕ) (first : PolyRef) (list : List ReachedVertex) (i : ℕ) (there : i < length list) where
  abbrev entry : ReachedVertex
  entry = slice_index_or list i no_entry

  abbrev kept : ℕ → List ReachedVertex
  kept n = filter (is_kept mesh areas first) (take n list)

  -- the places, and one more
  pub places-more : (places pushed : List ℕ) (flood : List Flooded) (n : ℕ) → flood ≡ map (flooded_as mesh areas first list) (kept i) → n ≡ length flood
      → length places ≡ i → pushed ≡ places ++ n ∷ []
      → ((k : ℕ) (d : ℕ) → k < i → slice_index_or places k d ≡ kept_before mesh areas first list k)
      → (k : ℕ) (d : ℕ) → k < i + 1 → slice_index_or pushed k d ≡ kept_before mesh areas first list k
  places-more places pushed flood n is count long more before k d below =
      ap (λ (xs : List ℕ). slice_index_or xs k d) more
      ∙ elim (cases_eq k i) [
        | inl same ↦
            ap (λ (m : ℕ). slice_index_or (places ++ n ∷ []) m d) (same ∙ sym long)
            ∙ get_or-append_seam places n [] d ∙ count ∙ ap length is ∙ length-map (kept i) (flooded_as mesh areas first list)
            ∙ ap (kept_before mesh areas first list) (sym same)
        | inr differ ↦
            let less : k < i = omega (arith, below, differ) in
            get_or_append_left places (n ∷ []) d k (omega (arith, less, long)) ∙ before k d less
      ]

  -- the polygons, and one more
  pub items-kept : (items now : List Flooded) (at : PolyRef) (via : ℕ) → items ≡ map (flooded_as mesh areas first list) (kept i)
      → is_kept mesh areas first entry ≡ true → at ≡ polygon_of entry.vertex → via ≡ kept_before mesh areas first list entry.via
      → now ≡ items ++ record { at = at; cost = entry.cost; via = via } ∷ []
      → now ≡ map (flooded_as mesh areas first list) (kept (i + 1))
  items-kept items now at via is held polygon place more =
      more
      ∙ (λ j. is j ++ record { at = polygon j; cost = entry.cost; via = place j } ∷ [])
      ∙ sym (map-append (flooded_as mesh areas first list) (kept i) (entry ∷ []))
      ∙ ap (map (flooded_as mesh areas first list)) (sym (taken-kept ReachedVertex (is_kept mesh areas first) list i no_entry there held))

  -- or none more
  pub items-left : (items : List Flooded) → items ≡ map (flooded_as mesh areas first list) (kept i) → is_kept mesh areas first entry ≡ false
      → items ≡ map (flooded_as mesh areas first list) (kept (i + 1))
  items-left items is left =
      is ∙ ap (map (flooded_as mesh areas first list)) (sym (taken-left ReachedVertex (is_kept mesh areas first) list i no_entry there left))
