-- The off-mesh links of jumps, gathered one jump after another and put in order.
use Rattle.std.proofs.Common.{◌≡◌, ℕ, ◌+◌, ◌<◌, ◌≤◌, List, [], ◌∷◌, ◌++◌, length, sym, subst, inl, inr, arith}
use Rattle.std.specs.Prelude.{All, Contains}
use Rattle.std.specs.List.Sorted.{IsPermutation}
use Rattle.std.proofs.lemmas.Bool.{cases_eq}
use Rattle.std.proofs.lemmas.List.Elements.{All-nil, All-push, Contains-append_left, Contains-push}
use Rattle.std.proofs.lemmas.List.Sorted.{All-permutation, Contains-permutation}
use Rattle.mesh_types.specs.declared.links.PolyRef.{PolyRef}
use Rattle.mesh_types.specs.declared.mesh.Mesh.{Mesh}
use Rattle.mesh_types.proofs.RightLaws.{one_located}
use Rattle.mesh_types.specs.declared.answers.Jump.{Jump}
use Rattle.mesh_types.specs.Hops.{IsJoined}
use Rattle.mesh_types.specs.Stretches.{jump_at}
use Rattle.off_links.specs.declared.off_mesh_links.OffMeshLink.{OffMeshLink}
use Rattle.off_links.specs.OffMeshLinks.{IsOffMeshLinkOf, IsOffMeshLink, AreOffMeshLinks, AreInOrder}

-- the off-mesh link of the jump with a number, between two polygons
abbrev pub off_mesh_link_of : List Jump → ℕ → PolyRef → PolyRef → OffMeshLink
off_mesh_link_of jumps number from to = record { from = from; to = to; number = number; cost = (jump_at jumps number).cost }

-- the off-mesh links of the first jumps
pub record AreGathered (mesh : Mesh) (jumps : List Jump) (count : ℕ) (off_mesh_links : List OffMeshLink) : Type 0 where
  pub each : All (IsOffMeshLink mesh jumps) off_mesh_links
  pub all : (number : ℕ) (from to : PolyRef) → number < count → IsJoined mesh (jump_at jumps number) from to → Contains off_mesh_links (off_mesh_link_of jumps number from to)

pub gathered_none : (mesh : Mesh) (jumps : List Jump) → AreGathered mesh jumps 0 []
gathered_none mesh jumps = record { each = All-nil (IsOffMeshLink mesh jumps); all = λ number from to below joined. absurd (omega (arith, below)) }

-- a jump more that is joined
pub gathered_more : (mesh : Mesh) (jumps : List Jump) (count : ℕ) (off_mesh_links : List OffMeshLink) (off_mesh_link : OffMeshLink) → count < length jumps
    → IsOffMeshLinkOf mesh count (jump_at jumps count) off_mesh_link → AreGathered mesh jumps count off_mesh_links → AreGathered mesh jumps (count + 1) (off_mesh_links ++ off_mesh_link ∷ [])
gathered_more mesh jumps count off_mesh_links off_mesh_link there is gathered = record {
  each = All-push (IsOffMeshLink mesh jumps) off_mesh_links off_mesh_link gathered.each (record {
    named = subst (λ (n : ℕ). n < length jumps) (sym is.numbered) there;
    own = subst (λ (n : ℕ). IsOffMeshLinkOf mesh n (jump_at jumps n) off_mesh_link) (sym is.numbered) is;
  });
  all = all';
}
  where
    own : (from to : PolyRef) → IsJoined mesh (jump_at jumps count) from to → off_mesh_link ≡ off_mesh_link_of jumps count from to
    own from to joined =
        let jump = jump_at jumps count in
        let begins : off_mesh_link.from ≡ from = one_located mesh jump.from jump.from_y off_mesh_link.from from is.joined.start joined.start in
        let lands : off_mesh_link.to ≡ to = one_located mesh jump.to jump.to_y off_mesh_link.to to is.joined.landing joined.landing in
        λ i. record { from = begins i; to = lands i; number = is.numbered i; cost = is.costs i }

    all' : (number : ℕ) (from to : PolyRef) → number < count + 1 → IsJoined mesh (jump_at jumps number) from to
        → Contains (off_mesh_links ++ off_mesh_link ∷ []) (off_mesh_link_of jumps number from to)
    all' number from to below joined =
        elim (cases_eq number count) [
          | inl last ↦
              subst (λ (n : ℕ). Contains (off_mesh_links ++ off_mesh_link ∷ []) (off_mesh_link_of jumps n from to)) (sym last)
              (subst (Contains (off_mesh_links ++ off_mesh_link ∷ [])) (own from to (subst (λ (n : ℕ). IsJoined mesh (jump_at jumps n) from to) last joined)) (Contains-push off_mesh_links off_mesh_link))
          | inr earlier ↦
              Contains-append_left off_mesh_links (off_mesh_link ∷ []) (off_mesh_link_of jumps number from to) (gathered.all number from to (omega (arith, below, earlier)) joined)
        ]

-- a jump more that is not joined
pub gathered_less : (mesh : Mesh) (jumps : List Jump) (count : ℕ) (off_mesh_links : List OffMeshLink) → ((from to : PolyRef) → IsJoined mesh (jump_at jumps count) from to → ⊥)
    → AreGathered mesh jumps count off_mesh_links → AreGathered mesh jumps (count + 1) off_mesh_links
gathered_less mesh jumps count off_mesh_links none gathered = record { each = gathered.each; all = all' }
  where
    all' : (number : ℕ) (from to : PolyRef) → number < count + 1 → IsJoined mesh (jump_at jumps number) from to → Contains off_mesh_links (off_mesh_link_of jumps number from to)
    all' number from to below joined =
        elim (cases_eq number count) [
          | inl last ↦ absurd (none from to (subst (λ (n : ℕ). IsJoined mesh (jump_at jumps n) from to) last joined))
          | inr earlier ↦ gathered.all number from to (omega (arith, below, earlier)) joined
        ]

-- all of them, in order
pub gathered_all : (mesh : Mesh) (jumps : List Jump) (count : ℕ) (off_mesh_links sorted : List OffMeshLink) → AreGathered mesh jumps count off_mesh_links → length jumps ≤ count
    → IsPermutation off_mesh_links sorted → AreInOrder sorted → AreOffMeshLinks mesh jumps sorted
gathered_all mesh jumps count off_mesh_links sorted gathered all moved order = record {
  each = All-permutation (IsOffMeshLink mesh jumps) off_mesh_links sorted moved gathered.each;
  all = λ number from to below joined.
      Contains-permutation off_mesh_links sorted (off_mesh_link_of jumps number from to) moved (gathered.all number from to (omega (arith, below, all)) joined);
  order = order;
}
