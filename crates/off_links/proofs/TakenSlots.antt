-- No off-mesh link leaves a polygon whose slot is not taken.
use Rattle.std.proofs.Common.{◌≡◌, ℕ, ◌+◌, ◌<◌, Bool, true, false, List, [], length, filter, get_or, set, sym, subst, ap, ◌∙◌, inl, inr}
use Rattle.std.specs.List.{AllWithin}
use Rattle.std.proofs.lemmas.Bool.{cases_eq, true≢false, false_from_ne_true}
use Rattle.std.proofs.lemmas.List.{get_or-set_same, get_or-set_other, get_or_default}
use Rattle.std.proofs.lemmas.List.Elements.{AllWithin-more}
use Rattle.nav_ground.proofs.Selections.{filter_none}
use Rattle.mesh_types.specs.declared.links.PolyRef.{PolyRef}
use Rattle.off_links.specs.declared.off_mesh_links.OffMeshLink.{OffMeshLink}
use Rattle.off_links.specs.OffMeshLinks.{leaves}
use Rattle.off_links.specs.Slots.{HaveSlots, is_taken, slot_of}
use Rattle.off_links.proofs.Tests.{place_is}

pub none_leaves : (off_mesh_links : List OffMeshLink) (slots : List Bool) (at : PolyRef) → HaveSlots slots off_mesh_links → is_taken slots at ≡ false → filter (leaves at) off_mesh_links ≡ []
none_leaves off_mesh_links slots at have none =
    filter_none (leaves at) off_mesh_links (λ k d there.
    false_from_ne_true (leaves at (get_or off_mesh_links k d)) (λ passes.
    true≢false (sym (subst (λ (from : PolyRef). is_taken slots from ≡ true) (place_is (get_or off_mesh_links k d).from at passes) (have k d there)) ∙ none)))

-- a slot more that is taken
taken_still : (slots : List Bool) (i : ℕ) (at : PolyRef) → i < length slots → is_taken slots at ≡ true → is_taken (set slots i true) at ≡ true
taken_still slots i at there is =
    elim (cases_eq (slot_of at) i) [
      | inl same ↦ ap (λ (k : ℕ). get_or (set slots i true) k false) same ∙ get_or-set_same slots i true false there
      | inr other ↦ get_or-set_other slots i (slot_of at) true false other ∙ is
    ]

pub slot_more : (off_mesh_links : List OffMeshLink) (slots : List Bool) (k : ℕ) (d : OffMeshLink) → k < length off_mesh_links → slot_of (get_or off_mesh_links k d).from < length slots
    → AllWithin (λ (off_mesh_link : OffMeshLink). is_taken slots off_mesh_link.from ≡ true) off_mesh_links 0 k
    → AllWithin (λ (off_mesh_link : OffMeshLink). is_taken (set slots (slot_of (get_or off_mesh_links k d).from) true) off_mesh_link.from ≡ true) off_mesh_links 0 (k + 1)
slot_more off_mesh_links slots k d there small before =
    AllWithin-more (λ (off_mesh_link : OffMeshLink). is_taken slots' off_mesh_link.from ≡ true) off_mesh_links 0 k (λ i e low within. taken_still slots own (get_or off_mesh_links i e).from small (before i e low within))
    (λ e. subst (λ (off_mesh_link : OffMeshLink). is_taken slots' off_mesh_link.from ≡ true) (get_or_default off_mesh_links k d e there) (get_or-set_same slots own true false small))
  where
    own : ℕ
    own = slot_of (get_or off_mesh_links k d).from

    slots' : List Bool
    slots' = set slots own true
